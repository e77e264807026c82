-- Each name in its place.
use Rattle.std.proofs.Common.{List, ℕ, false, true, codes, drop, refl, Some}
use Rattle.serde_json.specs.Data.{string}
use Rattle.ov_model.specs.declared.line.Deed.TheVariants as deed
use Rattle.ov_write.specs.Text.{Field, num, deed_fields, line_members, lost_data}
use Rattle.ov_write.proofs.Putting.{puts_on, plain_text}
use Rattle.ov_write.proofs.text.put_loss.Goals as goal

pub returns : goal.returns
unfolding line_members
returns c =
    let fs : List Field = deed_fields c.args.at c.args.lane (deed.Lost c.args.id c.args.reason) in
    let last : List ℕ = c.extend_from_slice.new.self.items in
    puts_on (c.args.page.now.items) (c.put_some_number.new.page.items) (false) (true) (codes "at") (Some (num c.args.at)) (drop 1 fs) last (c.in_ok-put_some_number.ensures (plain_text (codes "at") refl)) (
    puts_on (c.put_some_number.new.page.items) (c.put_text.new.page.items) (true) (true) (codes "do") (Some (string (codes "lost"))) (drop 2 fs) last (c.in_ok-put_text.ensures (plain_text (codes "do") refl) (plain_text (codes "lost") refl)) (
    puts_on (c.put_text.new.page.items) (c.put_some_number-2.new.page.items) (true) (true) (codes "lane") (Some (num c.args.lane)) (drop 3 fs) last (c.in_ok-put_some_number-2.ensures (plain_text (codes "lane") refl)) (
    puts_on (c.put_some_number-2.new.page.items) (c.put_lost.new.page.items) (true) (true) (codes "peer") (Some (lost_data c.args.id c.args.reason)) (drop 4 fs) last (c.in_ok-put_lost.ensures) (
    c.in_ok-extend_from_slice.ensures.items))))
