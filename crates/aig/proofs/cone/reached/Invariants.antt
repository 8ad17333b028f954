use Rattle.std.proofs.Common.{◌≡◌, ℕ, ◌/◌, ◌<◌, map, slice_get, Some, Contains}
use Rattle.aig.specs.declared.node.Lit.{Lit}
use Rattle.aig.specs.Cone.{IsSeen}
use Rattle.aig.proofs.cone.reached.Given as goal

abbrev pub invariant-loop-i : goal.invariant-loop-i
invariant-loop-i l = record {
  sound : IsSeen l.nodes (map (λ x. x.0) l.roots) l.seen;
  rooted : (j : ℕ) (x : Lit) → j < l.i → slice_get l.roots j ≡ Some x → Contains l.seen (x.0 / 2);
}
