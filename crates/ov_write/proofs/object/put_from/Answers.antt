-- The object under its name.
use Rattle.std.proofs.Common.{◌≡◌, ◌++◌, List, ℕ, codes, drop, refl, subst, false, true, Some}
use Rattle.serde_json.specs.Data.{string}
use Rattle.serde_json.specs.Written.{members_text}
use Rattle.ov_base.specs.declared.address.Transport.{Transport}
use Rattle.ov_write.specs.Text.{Field, num, addr_text, from_fields, from_members, Puts}
use Rattle.ov_write.proofs.Putting.{puts_object, puts_on, plain_text}
use Rattle.ov_write.proofs.object.put_from.Goals as goal

pub returns : goal.returns
unfolding from_members
returns c =
    let t : Transport = c.args.from.now in
    let fs : List Field = from_fields t in
    let last : List ℕ = c.extend_from_slice-2.new.self.items in
    let opened : List ℕ = c.extend_from_slice.new.self.items in
    let inside : last ≡ opened ++ members_text false (from_members t) =
    puts_on opened c.put_addr.new.page.items false true (codes "addr") (Some (string (addr_text t.addr))) (drop 1 fs) last c.in_ok-put_addr.ensures (
    puts_on c.put_addr.new.page.items c.put_some_number.new.page.items true true (codes "port") (Some (num t.port)) (drop 2 fs) last
    (subst (λ (n : ℕ). Puts c.put_addr.new.page.items c.put_some_number.new.page.items true true (codes "port") (Some (num n))) c.from.ensures (c.in_ok-put_some_number.ensures (plain_text (codes "port") refl))) (
    c.in_ok-extend_from_slice-2.ensures.items)) in
    puts_object c.args.page.now.items c.put_name.new.page.items opened last true (codes "from") (from_members t)
    c.in_ok-put_name.ensures c.in_ok-extend_from_slice.ensures.items inside (plain_text (codes "from") refl)
