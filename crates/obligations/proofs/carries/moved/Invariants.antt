use Rattle.std.proofs.Common.{◌≡◌, ℕ, List, length, slice_get, Some}
use Rattle.aig.specs.declared.node.Lit.{Lit}
use Rattle.obligations.specs.outcome.aig.Node.{Node}
use Rattle.swept_queries.specs.node_agreement.Standing.{StandsFor, AreStandIns, plainly}
use Rattle.obligations.proofs.carries.moved.Given as goal

abbrev pub invariant-loop-i : goal.invariant-loop-i
invariant-loop-i l = record {
  each : length l.made.items ≡ l.i;
  stand : (g h : List Node) → AreStandIns g h l.lits → (j : ℕ) (x y : Lit) → slice_get l.word j ≡ Some x → slice_get l.made.items j ≡ Some y → StandsFor plainly g h x.0 y.0;
}
