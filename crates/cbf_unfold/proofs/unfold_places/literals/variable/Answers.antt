-- The variable is in the table, and is the next one or one that was there.
use Rattle.std.proofs.Common.{arith}
use Rattle.std.proofs.lemmas.Option.{slice_get_within}
use Rattle.cbf_unfold.proofs.unfold_places.Growing.{grown_none, input_grown}
use Rattle.aig.proofs.Interned.{interned}
use Rattle.cbf_unfold.proofs.unfold_places.PlaceLits.{variable_lit}
use Rattle.cbf_unfold.proofs.unfold_places.literals.variable.Goals as goal

pub returns-in_err-variable-clause-grown : goal.returns-in_err-variable-clause-grown
returns-in_err-variable-clause-grown c = grown_none c.args.aig.now c.args.places.now c.intern.new.self 1 c.in_err-variable.ensures.err

pub input-requires-clause-small : goal.input-requires-clause-small
input-requires-clause-small c =
    let inside = slice_get_within c.intern.new.self c.in_ok-variable.variable _ c.in_ok-variable.ensures.here in
    let few = (interned c.args.places.now c.intern.new.self (c.args.number, c.args.at) c.in_ok-variable.ensures.known c.in_ok-variable.ensures.added).1 in
    omega (arith, inside, few, c.requires.entries)

pub returns-clause-here : goal.returns-clause-here
returns-clause-here c = variable_lit c.args.number c.args.at c.in_ok-variable.variable c.input.new.self c.intern.new.self c.input.result c.in_ok-variable.ensures.here c.input.ensures.here c.input.ensures.within

pub returns-clause-grown : goal.returns-clause-grown
returns-clause-grown c = input_grown c.args.aig.now c.input.new.self c.args.places.now c.intern.new.self _ c.input.ensures.grows c.input.ensures.few c.in_ok-variable.ensures.known c.in_ok-variable.ensures.added
