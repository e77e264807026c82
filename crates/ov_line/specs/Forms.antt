-- The forms of lines, which their words tell apart.
use Rattle.std.specs.Prelude.{List, ℕ, codes, Option, Some, None, if◌then◌else◌}
use Rattle.std.specs.Str.{bytes_eq}
use Rattle.ov_model.specs.declared.line.Deed.{Deed}
use Rattle.ov_model.specs.declared.line.Deed.TheVariants as deed
use Rattle.ov_model.specs.declared.netlink.NlOp.TheVariants as op
use Rattle.ov_line.specs.declared.grammar.Form.{Form}
use Rattle.ov_line.specs.declared.grammar.Form.TheVariants as form
use Rattle.ov_line.specs.Grammar.{op_word}

-- The form of what a line asks for.
abbrev pub deed_form : Deed → Form
deed_form (deed.Netlink m) = form.Netlink m.op
deed_form (deed.Tx packet) = form.Tx
deed_form (deed.Rx from datagram) = form.Rx
deed_form (deed.Lost id reason) = form.Lost
deed_form deed.Tick = form.Tick
deed_form deed.Down = form.Down

-- The word of a form.
abbrev pub form_word : Form → List ℕ
form_word (form.Netlink o) = op_word o
form_word form.Tx = codes "tx"
form_word form.Rx = codes "rx"
form_word form.Lost = codes "lost"
form_word form.Tick = codes "tick"
form_word form.Down = codes "down"

-- The form that a word names.
abbrev pub form_of : List ℕ → Option Form
form_of word =
    if bytes_eq word (codes "peer-new") then Some (form.Netlink op.PeerNew) else
    (if bytes_eq word (codes "peer-set") then Some (form.Netlink op.PeerSet) else
    (if bytes_eq word (codes "peer-get") then Some (form.Netlink op.PeerGet) else
    (if bytes_eq word (codes "peer-dump") then Some (form.Netlink op.PeerDump) else
    (if bytes_eq word (codes "peer-del") then Some (form.Netlink op.PeerDel) else
    (if bytes_eq word (codes "key-new") then Some (form.Netlink op.KeyNew) else
    (if bytes_eq word (codes "key-get") then Some (form.Netlink op.KeyGet) else
    (if bytes_eq word (codes "key-swap") then Some (form.Netlink op.KeySwap) else
    (if bytes_eq word (codes "key-del") then Some (form.Netlink op.KeyDel) else
    (if bytes_eq word (codes "tx") then Some form.Tx else
    (if bytes_eq word (codes "rx") then Some form.Rx else
    (if bytes_eq word (codes "lost") then Some form.Lost else
    (if bytes_eq word (codes "tick") then Some form.Tick else
    (if bytes_eq word (codes "down") then Some form.Down else None)))))))))))))
