use Rattle.std.proofs.Common.{ℕ, List, [], ◌++◌, take}
use Rattle.flatten.specs.connectivity.Tables.{AreSources}
use Rattle.flatten.proofs.connectivity.drivers.put_inputs.Given as goal

abbrev pub invariant-loop-input : goal.invariant-loop-input
invariant-loop-input l = (before : List ℕ) → AreSources before [] l.initial.sources → AreSources (before ++ take l.input-index l.inputs) [] l.sources
