use Rattle.std.proofs.Common.{◌≡◌, ℕ, length, slice_get, Some}
use Rattle.aig.specs.declared.node.Lit.{Lit}
use Rattle.swept_queries.specs.node_agreement.Standing.{literal_in}
use Rattle.swept_queries.proofs.sweep.graph.literals_for.Given as goal

abbrev pub invariant-loop-i : goal.invariant-loop-i
invariant-loop-i l = record {
  each : length l.made.items ≡ l.i;
  is : (j : ℕ) (x y : Lit) → slice_get l.leads j ≡ Some x → slice_get l.made.items j ≡ Some y → y.0 ≡ literal_in l.map x.0;
}
