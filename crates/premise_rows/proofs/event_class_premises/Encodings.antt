-- The clauses of queries of inputs: of one against 1, and of two.
use Rattle.std.proofs.Common.{◌≡◌, ◌≢◌, ◌∙◌, ℕ, zero, suc, ◌<◌, Bool, true, false, not, List, [], ◌∷◌, slice_get, Some, refl, sym, ap, subst, arith, inl, inr}
use Rattle.std.specs.Prelude.{◌⊎◌, ◌/◌}
use Rattle.std.specs.List.{Contains}
use Rattle.std.specs.List.Sorted.{IsStrictlyIncreasing}
use Rattle.circuit_theory.proofs.Lists.{Contains-cases, Contains-head, Contains-tail, only}
use Rattle.event_nodes.specs.aig.Cone.{IsReached, IsConeOf, Reads}
use Rattle.event_nodes.specs.aig.Node.{Node}
use Rattle.proof_check.specs.Literals.{Literal, negation}
use Rattle.proof_check.specs.Clauses.{IsClause, IsClauseOf, IsTautology}
use Rattle.call_rows.proofs.circuit_samples.Each.{Each, each_at, each_pair}

-- a clause of one literal
flips : (b : Bool) → b ≡ not b → ⊥
flips true e = cc
flips false e = cc

no_sign : (x l : Literal) → l ≡ x → l ≡ negation x → ⊥
no_sign x l p q = flips x.positive (ap (λ (z : Literal). z.positive) (sym p ∙ q))

pub one_literal : (l : Literal) → IsClauseOf (l ∷ []) (l ∷ [])
one_literal l = (each_pair (λ (x y : Literal). x.variable < y.variable) (l ∷ []) (tt, tt), λ x. (λ h. h, λ h. h), λ t. no_sign t.0 l (only l t.0 t.1) (only l (negation t.0) t.2))

-- of two, one of a lower variable
one_variable : (x l m : Literal) → l ≡ x → m ≡ negation x → l.variable ≡ m.variable
one_variable x l m p q = ap (λ (z : Literal). z.variable) p ∙ sym (ap (λ (z : Literal). z.variable) q)

no_tautology : (l m : Literal) → l.variable ≢ m.variable → IsTautology (l ∷ m ∷ []) → ⊥
no_tautology l m apart (x, own, other) = go (Contains-cases l x (m ∷ []) own) (Contains-cases l (negation x) (m ∷ []) other)
  where
    go : (l ≡ x) ⊎ Contains (m ∷ []) x → (l ≡ negation x) ⊎ Contains (m ∷ []) (negation x) → ⊥
    go (inl p) (inl q) = no_sign x l p q
    go (inl p) (inr q) = apart (one_variable x l m p (only m (negation x) q))
    go (inr p) (inl q) = apart (sym (one_variable x m l (only m x p) q))
    go (inr p) (inr q) = no_sign x m (only m x p) (only m (negation x) q)

sorted : (l m : Literal) → l.variable < m.variable → IsClause (l ∷ m ∷ [])
sorted l m less = each_pair (λ (x y : Literal). x.variable < y.variable) (l ∷ m ∷ []) ((less, tt), (tt, tt))

pub two_literals : (l m : Literal) → l.variable < m.variable → IsClauseOf (l ∷ m ∷ []) (l ∷ m ∷ [])
two_literals l m less = (sorted l m less, λ x. (λ h. h, λ h. h), no_tautology l m (λ e. omega (arith, e, less)))

turn : (l m x : Literal) → Contains (l ∷ m ∷ []) x → Contains (m ∷ l ∷ []) x
turn l m x h = go (Contains-cases l x (m ∷ []) h)
  where
    go : (l ≡ x) ⊎ Contains (m ∷ []) x → Contains (m ∷ l ∷ []) x
    go (inl e) = subst (Contains (m ∷ l ∷ [])) e (Contains-tail m l (l ∷ []) (Contains-head l []))
    go (inr k) = subst (Contains (m ∷ l ∷ [])) (only m x k) (Contains-head m (l ∷ []))

pub turned_literals : (l m : Literal) → m.variable < l.variable → IsClauseOf (l ∷ m ∷ []) (m ∷ l ∷ [])
turned_literals l m less = (sorted m l less, λ x. (λ h. turn m l x h, λ h. turn l m x h), no_tautology l m (λ e. omega (arith, e, less)))

-- where no node is an and, the nodes that are reached are those of the roots
module _ (g : List Node) (bare : (n x : ℕ) (node : Node) → slice_get g n ≡ Some node → Reads node x → ⊥) where
  of_root : {roots : List ℕ} {n : ℕ} → IsReached g roots n → (x : ℕ) × Contains roots x × (x / 2 ≡ n)
  of_root (IsReached.root x h) = (x, h, refl)
  of_root (IsReached.operand n x node r at reads) = absurd (bare n x node at reads)

  pub cone_of : (roots nodes : List ℕ) → IsStrictlyIncreasing nodes → Each (λ (x : ℕ). Contains nodes (x / 2)) roots → Each (IsReached g roots) nodes → IsConeOf g roots nodes
  cone_of roots nodes increasing within reached = record {
    increasing = increasing;
    reached = each_at (IsReached g roots) nodes reached;
    all = λ n r. let x = of_root r in subst (Contains nodes) x.2 (each_at (λ (y : ℕ). Contains nodes (y / 2)) roots within x.0 x.1);
  }

pub two_rise : IsStrictlyIncreasing (0 ∷ 1 ∷ [])
two_rise zero l = omega arith
two_rise (suc k) l = absurd (omega (arith, l))

pub three_rise : IsStrictlyIncreasing (0 ∷ 1 ∷ 2 ∷ [])
three_rise zero l = omega arith
three_rise (suc zero) l = omega arith
three_rise (suc (suc k)) l = absurd (omega (arith, l))
