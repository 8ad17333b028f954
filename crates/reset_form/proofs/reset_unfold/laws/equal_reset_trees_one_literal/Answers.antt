-- One tree has one literal in a graph.
use Rattle.std.proofs.Common.{ℕ, sym, subst}
use Rattle.circuit_theory.specs.Tree.{Tree}
use Rattle.aig.specs.Builds.{Builds}
use Rattle.reset_form.proofs.reset_unfold.laws.equal_reset_trees_one_literal.Goals as goal

pub returns : goal.returns
returns c = λ m n left right left_base right_base g places s t k l x y us vs one distinct p q e. one places p.tree x y distinct p.builds (subst (λ (tree : Tree ℕ). Builds g places tree y) (sym e) q.builds)
