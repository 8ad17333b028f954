use Rattle.std.proofs.Common.{◌≡◌, ◌*◌, ◌<◌, ℕ, Bool, List, length}
use Rattle.std.specs.List.{All}
use Rattle.aig.specs.declared.node.Node.{Node}
use Rattle.signal_refine.specs.Copies.{HaveAt, node_at}
use Rattle.signal_refine.proofs.copies.carried.Given as goal

abbrev pub invariant-loop-i : goal.invariant-loop-i
invariant-loop-i l = record {
  each : length l.made.items ≡ l.i;
  within : (n : ℕ) → All (λ x. x.0 < 2 * n) l.read → All (λ x. x.0 < 2 * n) l.made.items;
  values : (base g : List Node) (a c w : ℕ → Bool) → HaveAt (node_at base c) g a l.read → HaveAt w base c l.lits → HaveAt w g a l.made.items;
}
