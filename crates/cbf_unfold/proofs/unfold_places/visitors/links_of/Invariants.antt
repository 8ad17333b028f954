use Rattle.std.proofs.Common.{◌≡◌, ℕ, List, length, slice_get, Some}
use Rattle.flat_net.specs.View.{circuit_of}
use Rattle.aig.specs.declared.node.Lit.{Lit}
use Rattle.cbf_unfold.specs.unfold_places.Visitors.{AreReads}
use Rattle.cbf_unfold.proofs.unfold_places.visitors.links_of.Given as goal

abbrev pub invariant-loop-number : goal.invariant-loop-number
invariant-loop-number l = record {
  size : length l.links.items ≡ l.number;
  reads : (i : ℕ) (e : (ℕ × ℕ) × Lit) (numbers : List ℕ) → slice_get l.memo i ≡ Some e → slice_get l.links.items i ≡ Some numbers → AreReads (circuit_of l.net) l.memo e.0 numbers;
}
