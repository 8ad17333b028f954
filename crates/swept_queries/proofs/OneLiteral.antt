-- Queries both of whose sides have one value.
use Rattle.std.proofs.Common.{◌≡◌, ◌∙◌, ℕ, List, [], ◌∷◌, refl, sym, ap, subst, inl, inr}
use Rattle.std.specs.Prelude.{◌⊎◌, Contains}
use Rattle.circuit_theory.proofs.Lists.{Contains-head, Contains-tail, Contains-cases}
use Rattle.swept_queries.specs.sweep.aig.Node.{Node}
use Rattle.swept_queries.specs.sweep.aig.Cone.{IsReached}
use Rattle.swept_queries.specs.sweep.aig.Graph.{IsGraph}
use Rattle.swept_queries.specs.sweep.aig.Values.{value}
use Rattle.swept_queries.specs.sweep.pair_decide.Query.{Query}
use Rattle.swept_queries.specs.sweep.pair_decide.SameBy.TheVariants as same
use Rattle.swept_queries.specs.sweep.pair_decide.Decision.TheVariants as decision
use Rattle.swept_queries.specs.sweep.pair_decide.Queries.{IsQuery}
use Rattle.swept_queries.specs.declared.sides.Sides.{Sides}
use Rattle.swept_queries.specs.InStead.{sides_of, StandFor, DecidesInStead}

-- what is reached from more literals
reached-more : (g : List Node) (some more : List ℕ) → ((x : ℕ) → Contains some x → Contains more x) → (n : ℕ) → IsReached g some n → IsReached g more n
reached-more g some more among k (IsReached.root x there) = IsReached.root x (among x there)
reached-more g some more among k (IsReached.operand n x node reached at reads) = IsReached.operand n x node (reached-more g some more among n reached) at reads

-- the left literal in the place of the right one
twice : (l r c x : ℕ) → Contains (l ∷ l ∷ c ∷ []) x → Contains (l ∷ r ∷ c ∷ []) x
twice l r c x there = by (Contains-cases l x (l ∷ c ∷ []) there)
  where
    first : l ≡ x → Contains (l ∷ r ∷ c ∷ []) x
    first e = subst (Contains (l ∷ r ∷ c ∷ [])) e (Contains-head l (r ∷ c ∷ []))

    by : (l ≡ x) ⊎ Contains (l ∷ c ∷ []) x → Contains (l ∷ r ∷ c ∷ []) x
    by (inl e) = first e
    by (inr h) = elim (Contains-cases l x (c ∷ []) h) [ inl e ↦ first e | inr k ↦ Contains-tail l x (r ∷ c ∷ []) (Contains-tail r x (c ∷ []) k) ]

-- where one literal stands for both sides, the query with the left literal on both sides is decided in the stead
pub one-literal : (g : List Node) (q : Query) (h : List Node) (u : Sides) (conflicts : ℕ) → IsGraph g → IsQuery g q → StandFor g (sides_of q) h u → u.left.0 ≡ u.right.0
    → DecidesInStead g q conflicts (decision.Same same.Literal)
one-literal g q h u conflicts graph is stand e = record {
  graph = g;
  asked = record { left = q.left; right = q.left; care = q.care; vars = q.vars };
  stands = record {
    graph = graph;
    query = record {
      left = is.left;
      right = is.left;
      care = is.care;
      distinct = is.distinct;
      covers = λ n v reached at. is.covers n v (reached-more g (q.left.0 ∷ q.left.0 ∷ q.care.0 ∷ []) (q.left.0 ∷ q.right.0 ∷ q.care.0 ∷ []) (twice q.left.0 q.right.0 q.care.0) n reached) at;
    };
    vars = refl;
    trivial = λ t. inl refl;
    left = λ a. refl;
    right = λ a. sym (stand.values.left a) ∙ ap (value h a) e ∙ stand.values.right a;
    care = λ a. refl;
  };
  decides = (inl refl, λ a care. refl);
}
