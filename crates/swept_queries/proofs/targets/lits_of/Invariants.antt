use Rattle.std.proofs.Common.{◌*◌, ◌<◌, List, length}
use Rattle.std.specs.List.{All}
use Rattle.swept_queries.specs.sweep.aig.Lit.{Lit}
use Rattle.swept_queries.specs.sweep.aig.Node.{Node}
use Rattle.swept_queries.specs.InStead.{AreKnownWithin}
use Rattle.swept_queries.proofs.targets.lits_of.Given as goal

abbrev pub invariant-loop-i : goal.invariant-loop-i
invariant-loop-i l = (g : List Node) → All (AreKnownWithin g) l.known → All (λ (x : Lit). x.0 < 2 * length g) l.lits.items
