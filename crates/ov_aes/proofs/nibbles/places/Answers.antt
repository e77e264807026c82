use Rattle.std.proofs.Common.{sym, subst}
use Rattle.std.proofs.lemmas.Simd.{SwzOk}
use mir.Syntax.{w8}
use Rattle.ov_aes.proofs.NibbleFacts.{bytes-of, both-is, of_high-is, of_both-is, first-is, second-is, high_ok, low_ok, both_ok, of_high_ok, of_both_ok, first_ok, second_ok}
use Rattle.ov_aes.proofs.nibbles.places.Goals as goal

pub looked_up-scaled-requires : goal.looked_up-scaled-requires
looked_up-scaled-requires c =
    subst (SwzOk w8 16 16 0) (sym (c.low_halves-low.ensures))
    (low_ok c.args.state (bytes-of c.args.state c.fits-state.0 c.fits-state.1))

pub looked_up-requires : goal.looked_up-requires
looked_up-requires c =
    subst (SwzOk w8 16 16 0) (sym (c.high_halves-high.ensures))
    (high_ok c.args.state (bytes-of c.args.state c.fits-state.0 c.fits-state.1))

pub looked_up-requires-2 : goal.looked_up-requires-2
looked_up-requires-2 c =
    subst (SwzOk w8 16 16 0) (sym (both-is c.args.state c.high_halves-high.ensures c.low_halves-low.ensures))
    (both_ok c.args.state (bytes-of c.args.state c.fits-state.0 c.fits-state.1))

pub looked_up-requires-3 : goal.looked_up-requires-3
looked_up-requires-3 c =
    subst (SwzOk w8 16 16 0) (sym (of_high-is c.args.state c.high_halves-high.ensures c.low_halves-low.ensures c.looked_up.ensures c.looked_up-scaled.ensures))
    (of_high_ok c.args.state (bytes-of c.args.state c.fits-state.0 c.fits-state.1))

pub looked_up-requires-4 : goal.looked_up-requires-4
looked_up-requires-4 c =
    subst (SwzOk w8 16 16 0) (sym (of_both-is c.args.state (both-is c.args.state c.high_halves-high.ensures c.low_halves-low.ensures) c.low_halves-low.ensures c.looked_up-2.ensures c.looked_up-scaled.ensures))
    (of_both_ok c.args.state (bytes-of c.args.state c.fits-state.0 c.fits-state.1))

pub returns-clause-first : goal.returns-clause-first
returns-clause-first c = first-is c.args.state (of_high-is c.args.state c.high_halves-high.ensures c.low_halves-low.ensures c.looked_up.ensures c.looked_up-scaled.ensures) (both-is c.args.state c.high_halves-high.ensures c.low_halves-low.ensures) c.looked_up-3.ensures

pub returns-clause-second : goal.returns-clause-second
returns-clause-second c = second-is c.args.state (of_both-is c.args.state (both-is c.args.state c.high_halves-high.ensures c.low_halves-low.ensures) c.low_halves-low.ensures c.looked_up-2.ensures c.looked_up-scaled.ensures) c.high_halves-high.ensures c.looked_up-4.ensures

pub returns-clause-first_in : goal.returns-clause-first_in
returns-clause-first_in c =
    subst (SwzOk w8 16 16 0) (sym (first-is c.args.state (of_high-is c.args.state c.high_halves-high.ensures c.low_halves-low.ensures c.looked_up.ensures c.looked_up-scaled.ensures) (both-is c.args.state c.high_halves-high.ensures c.low_halves-low.ensures) c.looked_up-3.ensures))
    (first_ok c.args.state (bytes-of c.args.state c.fits-state.0 c.fits-state.1))

pub returns-clause-second_in : goal.returns-clause-second_in
returns-clause-second_in c =
    subst (SwzOk w8 16 16 0) (sym (second-is c.args.state (of_both-is c.args.state (both-is c.args.state c.high_halves-high.ensures c.low_halves-low.ensures) c.low_halves-low.ensures c.looked_up-2.ensures c.looked_up-scaled.ensures) c.high_halves-high.ensures c.looked_up-4.ensures))
    (second_ok c.args.state (bytes-of c.args.state c.fits-state.0 c.fits-state.1))
