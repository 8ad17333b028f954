use Rattle.std.proofs.Common.{Some, ap, ◌∙◌, arith}
use Rattle.std.proofs.lemmas.Option.{slice_get-get_or, get_or_from_slice_get}
use Rattle.aig.proofs.lane_eval.places.place.Goals as goal

pub returns-then-vars-i : goal.returns-then-vars-i
returns-then-vars-i c = slice_get-get_or c.args.vars.now c.loop-i.i 0 c.loop-i-test.true ∙ ap Some c.if-vars-i.true

pub unreachable-requires : goal.unreachable-requires
unreachable-requires c =
    let there = c.requires.there in
    c.loop-i.invariant there.0 (omega (arith, there.1, c.loop-i-test.false)) (get_or_from_slice_get c.args.vars.now there.0 c.args.v 0 (slice_get-get_or c.args.vars.now there.0 c.args.v there.1 ∙ ap Some there.2))
