-- Sides that are one literal, and a care that never holds.
use Rattle.std.proofs.Common.{◌≡◌, ℕ, inl, inr, Bool, false, List, sym, ◌∙◌, ap, true≢false}
use Rattle.aig.specs.declared.node.Node.{Node}
use Rattle.aig.specs.declared.node.Node.TheVariants.{Constant}
use Rattle.aig.specs.Graph.{IsGraph}
use Rattle.aig.specs.Values.{value}
use Rattle.aig.proofs.Meaning.{value-node}
use Rattle.pair_decide.specs.declared.query.Query.{Query}
use Rattle.pair_decide.specs.Queries.{IsTrivial, IsSame}

zero-value : (g : List Node) → IsGraph g → (a : ℕ → Bool) → value g a 0 ≡ false
zero-value g graph a = value-node g graph.ordered 0 Constant a graph.constant

pub trivial-same : (g : List Node) (q : Query) → IsGraph g → IsTrivial q → IsSame g q
trivial-same g q graph (inl e) a holds = ap (value g a) e
trivial-same g q graph (inr e) a holds = absurd (true≢false (sym holds ∙ ap (value g a) e ∙ zero-value g graph a))
