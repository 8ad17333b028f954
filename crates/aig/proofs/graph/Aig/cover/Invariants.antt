use Rattle.std.proofs.Common.{◌≡◌, ℕ, ◌+◌, ◌*◌, ◌<◌, ◌≤◌, List, length, map, drop}
use Rattle.aig.specs.declared.node.Node.{Node}
use Rattle.aig.specs.Graph.{Grows, vars_of}
use Rattle.aig.specs.Making.{MakesRows}
use Rattle.aig.specs.Rules.{AreRowsOf}
use Rattle.aig.proofs.graph.Aig.cover.Given as goal

abbrev pub invariant-loop-i : goal.invariant-loop-i
invariant-loop-i l = record {
  grows : Grows l.initial.self l.self;
  few : length l.self ≤ length l.initial.self + l.i * (l.cover.width + 1);
  within : l.lit.0 < 2 * length l.self;
  vars : vars_of l.self ≡ vars_of l.initial.self;
  rest : (h : List Node) (x : ℕ) → Grows l.self h → AreRowsOf h l.lit.0 (drop l.i l.rows) (map (λ f. f.0) l.fanins) x → AreRowsOf h 0 l.rows (map (λ f. f.0) l.fanins) x;
  made : (h : List Node) (x : ℕ) → MakesRows l.self l.lit.0 (drop l.i l.rows) (map (λ f. f.0) l.fanins) h x → MakesRows l.initial.self 0 l.rows (map (λ f. f.0) l.fanins) h x;
}
