-- A script that runs stays sound with what a turn makes: an event of one lane, and the answer of its line.
use Rattle.std.proofs.Common.{ℕ, ◌≡◌, List, [], length, refl, sym, subst}
use Rattle.std.specs.Prelude.{⊤, Some, slice_get}
use Rattle.ov_base.specs.declared.address.Addr.{Addr}
use Rattle.ov_model.specs.declared.answer.Answer.{Answer}
use Rattle.ov_model.specs.declared.line.Line.{Line}
use Rattle.ov_model.specs.Events.{Event, Stepped, Judged, Drew, GaveKey, GavePeer, judgements_in}
use Rattle.ov_path.specs.Walks.{IsOwn, Over}
use Rattle.ov_core.specs.Worlds.{World, Seat, seen_from, after_step, drawn_of, next_of, after_draw, key_given, peer_given, after_key, after_peer, Makes, Happened}
use Rattle.ov_core.specs.Sessions.{Lane, Session, place_of, answered}
use Rattle.ov_core.specs.Sounds.{WorldSound, Sound}
use Rattle.ov_core.proofs.Turning.{in_world, sound_step, sound_judged, sound_quiet, sound_answered}
use Rattle.ov_core.proofs.Keeping.{keeps_free}
use Rattle.ov_core.proofs.Counting.{counts_step, counts_replay, counts_draw, counts_key, counts_peer, counts_answered}

-- A line has one replay step at most.
abbrev pub JudgesFirst : Event → List Event → Type 0
JudgesFirst (Judged j) es = judgements_in es ≡ []
JudgesFirst _ es = ⊤

-- What an event makes of the world, as a sound script.
sound_made : (via : Addr → Addr) (s : Session) (i : ℕ) (lane : Lane) (seat : Seat) (at : ℕ) (event : Event) (v : World) → Sound via s → slice_get s.lanes i ≡ Some lane → slice_get s.world.seats i ≡ Some seat → Makes s.world i seat event v → IsOwn (place_of i lane) at event → JudgesFirst event seat.events → WorldSound v → Sound via (in_world s v)
sound_made via s i lane seat at (Stepped e) v sound lane_is seat_is makes own first world =
    let u : World = after_step s.world i seat e.entry.place e.entry.call in
    subst (λ x. Sound via (in_world s x)) (sym makes.1) (sound_step via s i lane seat e.entry.place e.entry.call sound lane_is seat_is own.0 (subst WorldSound makes.1 world)
    (λ key. counts_step s i seat e.entry.place e.entry.call key seat_is (sound.counts key)))
sound_made via s i lane seat at (Judged j) v sound lane_is seat_is makes own first world =
    subst (λ x. Sound via (in_world s x)) (sym makes) (sound_judged via s i lane seat j.place j.key j.id j.at sound lane_is seat_is own.0 first (subst WorldSound makes world)
    (λ key. counts_replay s i seat j.place j.key j.id j.at key seat_is (sound.counts key)))
sound_made via s i lane seat at (Drew key d) v sound lane_is seat_is makes own first world =
    subst (λ x. Sound via (in_world s x)) (sym makes.1) (sound_quiet via s i lane seat _ (Drew key (drawn_of (next_of s.world key))) (after_draw s.world i seat key) sound lane_is seat_is refl refl refl refl refl refl (subst WorldSound makes.1 world)
    (λ k. counts_draw s i seat key k seat_is makes.0 (sound.counts k)))
sound_made via s i lane seat at (GaveKey key g) v sound lane_is seat_is makes own first world =
    subst (λ x. Sound via (in_world s x)) (sym makes) (sound_quiet via s i lane seat _ (GaveKey key (key_given s.world i seat key)) (after_key s.world i seat key) sound lane_is seat_is refl refl refl refl refl refl (subst WorldSound makes world)
    (λ k. counts_key s i seat key k seat_is (sound.counts k)))
sound_made via s i lane seat at (GavePeer peer g) v sound lane_is seat_is makes own first world =
    subst (λ x. Sound via (in_world s x)) (sym makes) (sound_quiet via s i lane seat _ (GavePeer peer (peer_given s.world i seat peer)) (after_peer s.world i seat peer) sound lane_is seat_is refl refl refl refl refl refl (subst WorldSound makes world)
    (λ k. counts_peer s i seat peer k seat_is (sound.counts k)))

-- An event of lane i's line happened: the script that runs is sound in the world that it makes.
pub sound_event : (via : Addr → Addr) (s : Session) (i : ℕ) (lane : Lane) (at : ℕ) (event : Event) (v : World) → Sound via s → slice_get s.lanes i ≡ Some lane → (h : Happened s.world i event v) → IsOwn (place_of i lane) at event → JudgesFirst event h.seat.events → WorldSound v → Sound via (in_world s v)
sound_event via s i lane at event v sound lane_is h own first world = sound_made via s i lane h.seat at event v sound lane_is h.seat_is h.makes own first world

-- A line that is over is answered, and the script that runs stays sound.
pub sound_over : (via : Addr → Addr) (s : Session) (i : ℕ) (lane : Lane) (seat : Seat) (line : Line) (a : Answer) → Sound via s → slice_get s.lanes i ≡ Some lane → slice_get s.world.seats i ≡ Some seat → slice_get lane.lines (length lane.answers) ≡ Some line → Over via (place_of i lane) line (seen_from via s.world seat) a → Sound via (answered s s.world i lane a)
sound_over via s i lane seat line a sound lane_is seat_is line_is over =
    sound_answered via s i lane seat line a sound lane_is seat_is line_is over.path
    (keeps_free s.world i seat sound.world seat_is over.hold over.owes)
    (λ key. counts_answered s s.world i lane seat a key lane_is seat_is over.drawn (sound.counts key))
