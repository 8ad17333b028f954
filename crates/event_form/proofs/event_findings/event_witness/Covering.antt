-- The sides of a query, and their values.
use Rattle.std.proofs.Common.{◌≡◌, ℕ, Bool, List, [], ◌∷◌, Result, subst}
use Rattle.std.specs.Prelude.{IfOk}
use Rattle.circuit_theory.proofs.Lists.{Contains-head, Contains-tail}
use Rattle.aig.specs.declared.node.Node.{Node}
use Rattle.aig.specs.Values.{value}
use Rattle.class_search.specs.class_separations.cone_values.lane_eval.Tables.{Covers, assigned_to}
use Rattle.aig.proofs.Supports.{reached_among}
use Rattle.obligations.specs.outcome.pair_decide.Query.{Query}
use Rattle.obligations.specs.outcome.pair_decide.Queries.{IsQuery, roots_of}

pub left_covered : (g : List Node) (q : Query) → IsQuery g q → Covers g (q.left.0 ∷ []) q.vars
left_covered g q is n v reached at = is.covers n v (reached_among g q.left.0 (roots_of q) (Contains-head q.left.0 (q.right.0 ∷ q.care.0 ∷ [])) reached) at

pub right_covered : (g : List Node) (q : Query) → IsQuery g q → Covers g (q.right.0 ∷ []) q.vars
right_covered g q is n v reached at = is.covers n v (reached_among g q.right.0 (roots_of q) (Contains-tail q.left.0 q.right.0 (q.right.0 ∷ q.care.0 ∷ []) (Contains-head q.right.0 (q.care.0 ∷ []))) reached) at

-- the bit that is told is the value
pub bit_told : {E : Type 0} (result : Result Bool E) (g h : List Node) (us vs : List ℕ) (bits : List Bool) (l : ℕ) → g ≡ h → us ≡ vs → IfOk result (λ bit. bit ≡ value g (assigned_to us bits) l) → IfOk result (λ bit. bit ≡ value h (assigned_to vs bits) l)
bit_told result g h us vs bits l graph vars told = subst (λ (k : List Node). IfOk result (λ bit. bit ≡ value k (assigned_to vs bits) l)) graph (subst (λ (ws : List ℕ). IfOk result (λ bit. bit ≡ value g (assigned_to ws bits) l)) vars told)
