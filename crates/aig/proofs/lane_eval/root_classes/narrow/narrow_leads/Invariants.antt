use Rattle.std.proofs.Common.{◌≡◌, ℕ, length, slice_get, Some}
use Rattle.aig.specs.declared.node.Lit.{Lit}
use Rattle.aig.proofs.lane_eval.root_classes.narrow.narrow_leads.Given as goal

abbrev pub invariant-loop-i : goal.invariant-loop-i
invariant-loop-i l = record {
  each : length l.leads.items ≡ l.i;
  is : (j : ℕ) (y : Lit) → slice_get l.leads.items j ≡ Some y → (p : ℕ) × (slice_get l.firsts.items j ≡ Some p) × (slice_get l.roots p ≡ Some y);
}
