use Rattle.std.proofs.Common.{◌≡◌, ℕ, ◌+◌, ◌*◌, ◌<◌, ◌≤◌, List, length, map, drop}
use Rattle.aig.specs.declared.node.Node.{Node}
use Rattle.aig.specs.Graph.{Grows, vars_of}
use Rattle.aig.specs.Making.{MakesCube}
use Rattle.aig.specs.Rules.{IsCubeOf}
use Rattle.aig.proofs.graph.Aig.cube.Given as goal

abbrev pub invariant-loop-i : goal.invariant-loop-i
invariant-loop-i l = record {
  grows : Grows l.initial.self l.self;
  few : length l.self ≤ length l.initial.self + l.i;
  within : l.lit.0 < 2 * length l.self;
  vars : vars_of l.self ≡ vars_of l.initial.self;
  rest : (h : List Node) (x : ℕ) → Grows l.self h → IsCubeOf h l.lit.0 (drop l.i l.places) (drop l.i (map (λ f. f.0) l.fanins)) x → IsCubeOf h 1 l.places (map (λ f. f.0) l.fanins) x;
  made : (h : List Node) (x : ℕ) → MakesCube l.self l.lit.0 (drop l.i l.places) (drop l.i (map (λ f. f.0) l.fanins)) h x → MakesCube l.initial.self 1 l.places (map (λ f. f.0) l.fanins) h x;
}
