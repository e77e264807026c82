-- The object under its name.
use Rattle.std.proofs.Common.{◌≡◌, ◌++◌, List, ℕ, codes, drop, refl, subst, false, true, Some}
use Rattle.serde_json.specs.Data.{string}
use Rattle.serde_json.specs.Written.{members_text}
use Rattle.ov_write.specs.Text.{Field, num, reason_word, lost_fields, lost_members, Puts}
use Rattle.ov_write.proofs.Putting.{puts_object, puts_on, puts_word, plain_text, reason_plain}
use Rattle.ov_write.proofs.object.put_lost.Goals as goal

pub returns : goal.returns
unfolding lost_members
returns c =
    let fs : List Field = lost_fields c.args.id c.args.reason in
    let last : List ℕ = c.extend_from_slice-2.new.self.items in
    let opened : List ℕ = c.extend_from_slice.new.self.items in
    let inside : last ≡ opened ++ members_text false (lost_members c.args.id c.args.reason) =
    puts_on opened c.put_text.new.page.items false true (codes "del-reason") (Some (string (reason_word c.args.reason))) (drop 1 fs) last
    (puts_word opened c.put_text.new.page.items false (codes "del-reason") c.reason_text.result.now (reason_word c.args.reason) c.reason_text.ensures (reason_plain c.args.reason) (c.in_ok-put_text.ensures (plain_text (codes "del-reason") refl))) (
    puts_on c.put_text.new.page.items c.put_some_number.new.page.items true true (codes "id") (Some (num c.args.id.number)) (drop 2 fs) last
    (subst (λ (n : ℕ). Puts c.put_text.new.page.items c.put_some_number.new.page.items true true (codes "id") (Some (num n))) c.get.ensures.value (c.in_ok-put_some_number.ensures (plain_text (codes "id") refl))) (
    c.in_ok-extend_from_slice-2.ensures.items)) in
    puts_object c.args.page.now.items c.put_name.new.page.items opened last true (codes "peer") (lost_members c.args.id c.args.reason)
    c.in_ok-put_name.ensures c.in_ok-extend_from_slice.ensures.items inside (plain_text (codes "peer") refl)
