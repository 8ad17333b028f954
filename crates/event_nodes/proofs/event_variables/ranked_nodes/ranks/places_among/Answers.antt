-- One number more has its place.
use Rattle.std.proofs.Common.{◌∙◌, get_or, length-set, arith}
use Rattle.std.proofs.lemmas.Option.{slice_get-get_or, slice_get_within}
use Rattle.event_nodes.proofs.event_variables.ranked_nodes.Zeros.{placed_next}
use Rattle.event_nodes.proofs.event_variables.ranked_nodes.ranks.places_among.Goals as goal

pub loop-i-preserved : goal.loop-i-preserved
loop-i-preserved c =
    let at = slice_get-get_or c.args.numbers.now c.loop-i.i 0 (omega (arith, c.loop-i-test.true, c.in-Ok.ensures)) in
    record {
      each = length-set c.loop-i.places.items (get_or c.args.numbers.now c.loop-i.i 0) c.loop-i.i ∙ c.loop-i.invariant.each;
      so_far = placed_next c.args.numbers.now c.loop-i.places.items c.loop-i.i (get_or c.args.numbers.now c.loop-i.i 0) c.args.count at c.requires.within c.requires.apart c.loop-i.invariant.each c.loop-i.invariant.so_far;
    }

pub returns-clause-places : goal.returns-clause-places
returns-clause-places c = λ i n at.
    let inside = slice_get_within c.args.numbers.now i n at in
    c.loop-i.invariant.so_far i n (omega (arith, inside, c.loop-i-test.false, c.in-Ok.ensures)) at
