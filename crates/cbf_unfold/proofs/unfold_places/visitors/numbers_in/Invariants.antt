use Rattle.std.proofs.Common.{◌≡◌, take, slice_get, Some}
use Rattle.std.specs.List.{AllZip}
use Rattle.flat_net.specs.declared.signals.Signal.{Signal}
use Rattle.aig.specs.declared.node.Lit.{Lit}
use Rattle.cbf_unfold.proofs.unfold_places.visitors.numbers_in.Given as goal

abbrev pub invariant-loop-s : goal.invariant-loop-s
invariant-loop-s l = AllZip (λ (f : Signal) n. (x : Lit) × (slice_get l.memo n ≡ Some ((l.cycle, f.0), x))) (take l.s-index l.signals) l.numbers
