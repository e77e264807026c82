use Rattle.std.proofs.Common.{◌≡◌, ◌++◌, ◌∷◌, [], List, ℕ, sym, ap, subst, ◌∙◌}
use Rattle.std.specs.Prelude.{Result, IfOk, Ok}
use Rattle.std.specs.Option.{option_to_list}
use Rattle.ov_base.specs.declared.memory.Memory.{Memory}
use Rattle.ov_model.specs.declared.reply.Reply.{Reply}
use Rattle.ov_share.specs.Passings.{Passing, OneHistory}
use Rattle.ov_lane.specs.Passes.{Shared, AreAllPasses, CallDone}
use Rattle.ov_lane.proofs.Keeping.{Keeps, kept_by}
use Rattle.ov_clients.proofs.Passes.{AreTwo, two_fresh, two_all}
use Rattle.ov_clients.proofs.calling.call_on_two_threads.Goals as goal

pub close-closed-requires : goal.close-closed-requires
close-closed-requires g c =
    let o : Shared = c.in_ok-ovpn.ovpn in
    let two : AreTwo o c.pop-2.new.self.items c.in-Some-pop.one c.in-Some.two = two_fresh o c.in_ok-ovpn.passes c.pop.new.self.items c.pop-2.new.self.items c.in-Some-pop.one c.in-Some.two c.in_ok-ovpn.ensures.passes c.in_ok-ovpn.ensures.all
    (sym c.into_vec-passes.ensures ∙ c.pop.ensures.items ∙ ap (λ q. c.pop.new.self.items ++ option_to_list q) c.in-Some.is)
    (c.pop-2.ensures.items ∙ ap (λ q. c.pop-2.new.self.items ++ option_to_list q) c.in-Some-pop.is) in
    let items : c.of_vec.result ≡ c.join-one.result.0.0 ∷ c.join-one.result.1.0 ∷ [] =
    c.of_vec.ensures ∙ c.push_reserved-2.ensures.items ∙ ap (λ (l : List Passing). l ++ c.join-one.result.1.0 ∷ []) (c.push_reserved.ensures.items ∙ ap (λ (l : List Passing). l ++ c.join-one.result.0.0 ∷ []) two.rest_is) in
    let a = c.join-one.ensures.first in
    let b = c.join-one.ensures.second in
    subst (AreAllPasses o) (sym items)
    (two_all o c.in-Some-pop.one c.in-Some.two c.join-one.result.0.0 c.join-one.result.1.0 two.all
    (kept_by c.in-Some-pop.one c.join-one.result.0.0 0 c.args.first.now c.join-one.result.0.1 a.0 a.1)
    (kept_by c.in-Some.two c.join-one.result.1.0 0 c.args.second.now c.join-one.result.1.1 b.0 b.1))

pub returns : goal.returns
returns g c =
    let o : Shared = c.in_ok-ovpn.ovpn in
    let two : AreTwo o c.pop-2.new.self.items c.in-Some-pop.one c.in-Some.two = two_fresh o c.in_ok-ovpn.passes c.pop.new.self.items c.pop-2.new.self.items c.in-Some-pop.one c.in-Some.two c.in_ok-ovpn.ensures.passes c.in_ok-ovpn.ensures.all
    (sym c.into_vec-passes.ensures ∙ c.pop.ensures.items ∙ ap (λ q. c.pop.new.self.items ++ option_to_list q) c.in-Some.is)
    (c.pop-2.ensures.items ∙ ap (λ q. c.pop-2.new.self.items ++ option_to_list q) c.in-Some-pop.is) in
    let items : c.of_vec.result ≡ c.join-one.result.0.0 ∷ c.join-one.result.1.0 ∷ [] =
    c.of_vec.ensures ∙ c.push_reserved-2.ensures.items ∙ ap (λ (l : List Passing). l ++ c.join-one.result.1.0 ∷ []) (c.push_reserved.ensures.items ∙ ap (λ (l : List Passing). l ++ c.join-one.result.0.0 ∷ []) two.rest_is) in
    let a = c.join-one.ensures.first in
    let b = c.join-one.ensures.second in
    let first : c.join-one.result.0.1 ≡ Ok c.in_ok-reply.reply = c.in_ok-reply.was in
    let second : c.join-one.result.1.1 ≡ Ok c.in_ok-also.also = c.in_ok-also.was in
    record {
      table = o;
      one_new = c.in-Some-pop.one;
      two_new = c.in-Some.two;
      one = c.join-one.result.0.0;
      two = c.join-one.result.1.0;
      fresh = two.one_new;
      also_fresh = two.two_new;
      called = subst (λ (res : Result Reply Memory). IfOk res (λ r. CallDone c.in-Some-pop.one c.join-one.result.0.0 0 c.args.first.now r)) first a.0;
      also = subst (λ (res : Result Reply Memory). IfOk res (λ r. CallDone c.in-Some.two c.join-one.result.1.0 0 c.args.second.now r)) second b.0;
      history = subst (λ (n : ℕ). OneHistory n c.close-closed.result.journal c.close-closed.result.notes c.close-closed.result.shards (c.join-one.result.0.0 ∷ c.join-one.result.1.0 ∷ [])) c.in_ok-ovpn.ensures.first
          (subst (λ (ps : List Passing). OneHistory o.words.counters.first c.close-closed.result.journal c.close-closed.result.notes c.close-closed.result.shards ps) items c.close-closed.ensures.history);
      releases = c.close-closed.ensures.releases;
    }
