use Rattle.std.proofs.Common.{take}
use Rattle.std.specs.List.{Contains}
use Rattle.cbf_unfold.specs.unfold_places.Visitors.{Gives}
use Rattle.cbf_unfold.proofs.unfold_places.visitors.give_all.Given as goal

abbrev pub invariant-loop-number : goal.invariant-loop-number
invariant-loop-number l = Gives (Contains (take l.number-index l.numbers)) l.word l.initial.words l.words
