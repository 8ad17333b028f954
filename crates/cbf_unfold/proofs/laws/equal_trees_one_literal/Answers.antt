-- One tree has one literal in a graph.
use Rattle.std.proofs.Common.{ℕ, sym, subst}
use Rattle.circuit_theory.specs.Tree.{Tree}
use Rattle.aig.specs.Builds.{Builds}
use Rattle.cbf_unfold.proofs.laws.equal_trees_one_literal.Goals as goal

pub returns : goal.returns
returns c = λ m n left right g places s t x y us vs one distinct l r e. one places l.tree x y distinct l.builds (subst (λ (tree : Tree ℕ). Builds g places tree y) (sym e) r.builds)
