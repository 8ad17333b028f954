use Rattle.std.proofs.Common.{◌∙◌, map, ap}
use Rattle.std.proofs.lemmas.List.{take_all}
use Rattle.elaborate.specs.Flat.{name_at}
use Rattle.flatten.proofs.loops.names_of.Goals as goal

pub returns : goal.returns
returns c = c.loop-number.invariant ∙ ap (map (name_at c.args.flat.now.names)) (take_all c.loop-number.number-index c.args.numbers.now c.loop-number-test.false)
