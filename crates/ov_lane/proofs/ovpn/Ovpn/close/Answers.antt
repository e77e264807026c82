use Rattle.std.proofs.Common.{rules, ◌≡◌, ◌<◌, List, sym, subst}
use Rattle.std.specs.Prelude.{length}
use Rattle.ov_share.specs.Shares.{Common}
use Rattle.ov_share.specs.Passings.{Passing}
use Rattle.ov_lane.specs.Inner.{HasTaken}
use Rattle.ov_lane.proofs.Gathering.{one_history, last_releases, all_passes_some, whole_share}
use Rattle.ov_lane.proofs.ovpn.Ovpn.close.Goals as goal

pub gather-whole-requires-clause-some : goal.gather-whole-requires-clause-some
gather-whole-requires-clause-some c = subst (λ (ps : List Passing). 0 < length ps) (sym c.into_vec.ensures) (all_passes_some c.args.self c.args.passes c.requires)

pub end-journal-requires-clause-whole : goal.end-journal-requires-clause-whole
end-journal-requires-clause-whole c =
    let words : c.self.inside.words ≡ c.args.self.words = search rules in
    let has = subst (λ (ps : List Passing). HasTaken c.self.inside.words ps c.gather-whole.result) c.into_vec.ensures c.gather-whole.ensures in
    whole_share c.args.self c.args.passes c.gather-whole.result c.requires (subst (λ (w : Common). HasTaken w c.args.passes c.gather-whole.result) words has)

pub returns-clause-history : goal.returns-clause-history
returns-clause-history c =
    let words : c.self.inside.words ≡ c.args.self.words = search rules in
    let has = subst (λ (ps : List Passing). HasTaken c.self.inside.words ps c.gather-whole.result) c.into_vec.ensures c.gather-whole.ensures in
    one_history c.args.self.words c.args.passes c.gather-whole.result _ _ _ (subst (λ (w : Common). HasTaken w c.args.passes c.gather-whole.result) words has) c.end-journal.ensures

pub returns-clause-releases : goal.returns-clause-releases
returns-clause-releases c = let e = c.end-journal.ensures in last_releases _ e.run e.released
