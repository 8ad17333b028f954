use Rattle.std.proofs.Common.{take}
use Rattle.reset_form.specs.reset_functions.Pairs.{AreTops}
use Rattle.reset_form.proofs.reset_functions.functions.tops_of.Given as goal

abbrev pub invariant-loop-pair : goal.invariant-loop-pair
invariant-loop-pair l = AreTops l.setup (take l.pair-index l.setup.pairs) l.tops
