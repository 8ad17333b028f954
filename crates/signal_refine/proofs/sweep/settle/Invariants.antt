use Rattle.std.proofs.Common.{◌≡◌, ◌*◌, ◌<◌, ◌≤◌, ℕ, Bool, length}
use Rattle.std.specs.Prelude.{IsTrue}
use Rattle.std.specs.List.{All}
use Rattle.aig.specs.Graph.{Grows}
use Rattle.aig.specs.declared.node.Lit.{Lit}
use Rattle.signal_refine.specs.Copies.{HaveAt, node_at}
use Rattle.signal_refine.specs.Asking.{IsHeld, IsTiedAt, AreKnown}
use Rattle.signal_refine.proofs.sweep.settle.Given as goal

abbrev pub invariant-loop-n : goal.invariant-loop-n
invariant-loop-n l = record {
  grows : Grows l.initial.facts.aig l.facts.aig;
  each : length l.read.items ≡ l.n;
  within : All (λ (x : Lit). x.0 < 2 * length l.facts.aig) l.read.items;
  values : (a c : ℕ → Bool) → IsHeld l.asked.care l.asked.before.now l.initial.facts.aig a → HaveAt c l.initial.facts.aig a l.asked.leaves.now → HaveAt (node_at l.asked.base.now c) l.facts.aig a l.read.items;
  known : AreKnown l.facts;
  few : IsTrue l.same → length l.anchors ≤ length l.asked.base.now;
  shown : IsTrue l.same → (a c : ℕ → Bool) → IsHeld l.asked.care l.asked.before.now l.initial.facts.aig a → HaveAt c l.initial.facts.aig a l.asked.leaves.now → (p : ℕ) → p < l.n → IsTiedAt l.anchors (node_at l.asked.base.now c) p;
}
