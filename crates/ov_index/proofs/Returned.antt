-- A live peer that is taken out at the place of its serial, changed and put back, and what an index is then.
use Rattle.std.proofs.Common.{ℕ, ◌≡◌, ◌∙◌, ap}
use Rattle.std.specs.Prelude.{Some, None, slice_set}
use Rattle.ov_model.specs.Tables.{Peer, change_first, has_serial}
use Rattle.ov_index.specs.Index.{Indexed, standing, IsIndex}
use Rattle.ov_index.proofs.Slots.{standing_at}
use Rattle.ov_index.proofs.Held.{Owner, Homes, Places, serial_at, serial_nowhere, nobody}
use Rattle.ov_index.proofs.Back.{Back, back, Stayed, stayed}

pub peer_back : (o : Owner) (h : Homes) (s left put : Places) (k : ℕ) (f : Peer → Peer) (p q : Peer) → IsIndex o h s → standing s k ≡ Some p → left ≡ slice_set s k None → put ≡ slice_set left k (Some q) → q ≡ f p → Back (has_serial k) s put k f p
peer_back o h s left put k f p q i stands taken put_is is = back (has_serial k) s left put k f p q (serial_at o h s i k p (standing_at s k p stands)) taken put_is is

pub peer_missing : (o : Owner) (h : Homes) (s left : Places) (k : ℕ) → IsIndex o h s → standing s k ≡ None → left ≡ slice_set s k None → Stayed (has_serial k) s left
peer_missing o h s left k i hole taken = stayed (has_serial k) s left k (serial_nowhere o h s i k (nobody s k hole)) hole taken

-- Only the first peer with a serial is another.
pub one_changed : (serial : ℕ) (f : Peer → Peer) (was now old : Indexed) → was ≡ old → now.live ≡ change_first (has_serial serial) f was.live → now.made ≡ was.made → now.keys_made ≡ was.keys_made → now ≡ record old { live = change_first (has_serial serial) f old.live }
one_changed serial f was now old is live made keys = (λ i. record { live = live i; made = made i; keys_made = keys i }) ∙ ap (λ (x : Indexed). record x { live = change_first (has_serial serial) f x.live }) is
