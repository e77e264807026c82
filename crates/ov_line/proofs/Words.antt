-- The words of lines tell their forms apart.
use Rattle.std.proofs.Common.{◌≡◌, ◌∙◌, ℕ, List, Option, Some, None, refl, sym, ap}
use Rattle.serde_json.specs.Data.{Data, string}
use Rattle.serde_json.specs.Find.{get}
use Rattle.ov_model.specs.declared.line.Deed.{Deed}
use Rattle.ov_model.specs.declared.line.Deed.TheVariants as deed
use Rattle.ov_model.specs.declared.netlink.NlOp.TheVariants as op
use Rattle.ov_line.specs.declared.grammar.Form.{Form}
use Rattle.ov_line.specs.declared.grammar.Form.TheVariants as form
use Rattle.ov_line.specs.Values.{Given, Has, IsWord}
use Rattle.ov_line.specs.Grammar.{deed_word}
use Rattle.ov_line.specs.Forms.{form_of, form_word, deed_form}
use Rattle.ov_line.proofs.Has.{string_same}
use Rattle.ov_line.proofs.Options.{some_same}

-- A form's word names the form.
form_back : (f : Form) → form_of (form_word f) ≡ Some f
form_back (form.Netlink op.PeerNew) = refl
form_back (form.Netlink op.PeerSet) = refl
form_back (form.Netlink op.PeerGet) = refl
form_back (form.Netlink op.PeerDump) = refl
form_back (form.Netlink op.PeerDel) = refl
form_back (form.Netlink op.KeyNew) = refl
form_back (form.Netlink op.KeyGet) = refl
form_back (form.Netlink op.KeySwap) = refl
form_back (form.Netlink op.KeyDel) = refl
form_back form.Tx = refl
form_back form.Rx = refl
form_back form.Lost = refl
form_back form.Tick = refl
form_back form.Down = refl

-- So two forms of one word are one.
word_same : (f g : Form) → form_word f ≡ form_word g → f ≡ g
word_same f g h = some_same f g (sym (form_back f) ∙ ap form_of h ∙ form_back g)

word_deed : (a : Deed) → deed_word a ≡ form_word (deed_form a)
word_deed (deed.Netlink m) = refl
word_deed (deed.Tx packet) = refl
word_deed (deed.Rx from datagram) = refl
word_deed (deed.Lost id why) = refl
word_deed deed.Tick = refl
word_deed deed.Down = refl

-- Where the word of what a line asks for stands, that of its form does.
given_form : (o : Option Data) (a : Deed) → Given (IsWord deed_word) o (Some a) → Given (IsWord form_word) o (Some (deed_form a))
given_form None a h = h
given_form (Some v) a h = h ∙ ap string (word_deed a)

pub has_form : (name : List ℕ) (d : Data) (a : Deed) → Has (IsWord deed_word) name d (Some a) → Has (IsWord form_word) name d (Some (deed_form a))
has_form name d a h = given_form (get name d) a h

given_deed : (o : Option Data) (f : Form) (a : Deed) → Given (IsWord form_word) o (Some f) → deed_form a ≡ f → Given (IsWord deed_word) o (Some a)
given_deed None f a h e = h
given_deed (Some v) f a h e = h ∙ ap string (sym (ap form_word e) ∙ sym (word_deed a))

pub has_deed : (name : List ℕ) (d : Data) (f : Form) (a : Deed) → Has (IsWord form_word) name d (Some f) → deed_form a ≡ f → Has (IsWord deed_word) name d (Some a)
has_deed name d f a h e = given_deed (get name d) f a h e

given_one_form : (o : Option Data) (f g : Form) → Given (IsWord form_word) o (Some f) → Given (IsWord form_word) o (Some g) → f ≡ g
given_one_form None f g h k = absurd h
given_one_form (Some v) f g h k = word_same f g (string_same _ _ (sym h ∙ k))

-- Under one name stands the word of one form.
pub one_form : (name : List ℕ) (d : Data) (f g : Form) → Has (IsWord form_word) name d (Some f) → Has (IsWord form_word) name d (Some g) → f ≡ g
one_form name d f g h k = given_one_form (get name d) f g h k
