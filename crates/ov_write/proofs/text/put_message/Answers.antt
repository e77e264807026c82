-- Each name in its place.
use Rattle.std.proofs.Common.{List, ℕ, false, true, codes, drop, refl, Some}
use Rattle.std.specs.Prelude.{option_map}
use Rattle.serde_json.specs.Data.{string}
use Rattle.ov_model.specs.declared.line.Deed.TheVariants as deed
use Rattle.ov_write.specs.Text.{Field, num, deed_fields, line_members, conf_data, peer_data}
use Rattle.ov_line.specs.Grammar.{op_word}
use Rattle.ov_write.proofs.Putting.{puts_on, puts_word, op_plain, plain_text}
use Rattle.ov_write.proofs.text.put_message.Goals as goal

pub returns : goal.returns
unfolding line_members
returns c =
    let fs : List Field = deed_fields c.args.at c.args.lane (deed.Netlink c.args.message.now) in
    let last : List ℕ = c.extend_from_slice.new.self.items in
    puts_on (c.args.page.now.items) (c.put_some_number.new.page.items) (false) (true) (codes "at") (Some (num c.args.at)) (drop 1 fs) last (c.in_ok-put_some_number.ensures (plain_text (codes "at") refl)) (
    puts_on (c.put_some_number.new.page.items) (c.put_text.new.page.items) (true) (true) (codes "do") (Some (string (op_word c.args.message.now.op))) (drop 2 fs) last (puts_word (c.put_some_number.new.page.items) (c.put_text.new.page.items) true (codes "do") c.op_text.result.now (op_word c.args.message.now.op) c.op_text.ensures (op_plain c.args.message.now.op) (c.in_ok-put_text.ensures (plain_text (codes "do") refl))) (
    puts_on (c.put_text.new.page.items) (c.put_number.new.page.items) (true) (c.in_ok-later.later) (codes "ifindex") (option_map num c.args.message.now.ifindex) (drop 3 fs) last (c.in_ok-later.ensures (plain_text (codes "ifindex") refl)) (
    puts_on (c.put_number.new.page.items) (c.put_conf.new.page.items) (c.in_ok-later.later) (c.in_ok-later-2.later) (codes "keyconf") (option_map conf_data c.args.message.now.keyconf) (drop 4 fs) last (c.in_ok-later-2.ensures) (
    puts_on (c.put_conf.new.page.items) (c.put_some_number-2.new.page.items) (c.in_ok-later-2.later) (true) (codes "lane") (Some (num c.args.lane)) (drop 5 fs) last (c.in_ok-put_some_number-2.ensures (plain_text (codes "lane") refl)) (
    puts_on (c.put_some_number-2.new.page.items) (c.put_peer.new.page.items) (true) (c.in_ok-_later._later) (codes "peer") (option_map peer_data c.args.message.now.peer) (drop 6 fs) last (c.in_ok-_later.ensures) (
    c.in_ok-extend_from_slice.ensures.items))))))
