-- The table keeps its places apart.
use Rattle.std.proofs.Common.{◌≢◌, ℕ, List, map, subst}
use Rattle.std.specs.List.{AllPairs}
use Rattle.aig.specs.declared.node.Lit.{Lit}
use Rattle.aig.proofs.graph_copy.Entries.{entries_differ}
use Rattle.aig.proofs.graph_copy.memo.Memo.keeps.Goals as goal

pub returns : goal.returns
returns c =
    subst (λ (es : List ((ℕ × ℕ) × Lit)). AllPairs (λ p q. p ≢ q) (map (λ e. e.0) es)) c.self.view_is (entries_differ c.self.inside.places c.self.inside.lits.items c.self.invariant c.keeps.ensures.once)
