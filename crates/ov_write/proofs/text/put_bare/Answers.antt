-- Each name in its place.
use Rattle.std.proofs.Common.{List, ℕ, false, true, codes, drop, refl, Some}
use Rattle.serde_json.specs.Data.{string}
use Rattle.ov_write.specs.Text.{Field, num, bare_fields}
use Rattle.ov_write.proofs.Putting.{puts_on, plain_text}
use Rattle.ov_write.proofs.text.put_bare.Goals as goal

pub returns : goal.returns
returns c = λ plain.
    let fs : List Field = bare_fields c.args.at c.args.lane c.args.word.now in
    let last : List ℕ = c.extend_from_slice.new.self.items in
    puts_on (c.args.page.now.items) (c.put_some_number.new.page.items) (false) (true) (codes "at") (Some (num c.args.at)) (drop 1 fs) last (c.in_ok-put_some_number.ensures (plain_text (codes "at") refl)) (
    puts_on (c.put_some_number.new.page.items) (c.put_text.new.page.items) (true) (true) (codes "do") (Some (string c.args.word.now)) (drop 2 fs) last (c.in_ok-put_text.ensures (plain_text (codes "do") refl) plain) (
    puts_on (c.put_text.new.page.items) (c.put_some_number-2.new.page.items) (true) (true) (codes "lane") (Some (num c.args.lane)) (drop 3 fs) last (c.in_ok-put_some_number-2.ensures (plain_text (codes "lane") refl)) (
    c.in_ok-extend_from_slice.ensures.items)))
