-- The queries of one obligation, up to the first whose sides don't agree.
use Rattle.std.proofs.Common.{◌≡◌, ℕ, ◌+◌, ◌<◌, ◌≤◌, List, length, slice_get, Option, Some, None, refl, sym, ◌∙◌, ap, subst, arith, inl, inr}
use Rattle.std.specs.Prelude.{◌⊎◌}
use Rattle.std.specs.List.{All}
use Rattle.std.proofs.lemmas.Option.{same_Some, slice_get_within}
use Rattle.circuit_theory.proofs.Lists.{All-from_each, at_of}
use Rattle.obligations.specs.outcome.aig.Node.{Node}
use Rattle.obligations.specs.outcome.Query.{Query}
use Rattle.obligations.specs.outcome.Decision.{Decision}
use Rattle.obligations.specs.outcome.Decision.TheVariants as decision
use Rattle.obligations.specs.outcome.Queries.{IsSame}
use Rattle.swept_queries.specs.InStead.{DecidesInStead}
use Rattle.swept_queries.proofs.Stand.{is_same, is_difference}
use Rattle.obligations.specs.declared.found.Found.{Found}
use Rattle.obligations.specs.declared.found.Found.TheVariants as found
use Rattle.obligations.specs.Found.{IsFound, EndsAt}

-- the sides of each query before a place agree
abbrev pub AgreeBefore : List Node → List Query → ℕ → Type 0
AgreeBefore g queries i = (k : ℕ) (q : Query) → k < i → slice_get queries k ≡ Some q → IsSame g q

module _ (g : List Node) (conflicts : ℕ) (queries : List Query) (i : ℕ) (q : Query) (at : slice_get queries i ≡ Some q) (before : AgreeBefore g queries i) where
  -- what ends the deciding is what is found
  pub ends-with : (d : Decision) (f : Found) (end : Option Found) → DecidesInStead g q conflicts d → EndsAt i d end → end ≡ Some f → IsFound g conflicts queries f
  ends-with (decision.Same by) f end h is e = absurd (let z : None ≡ Some f = sym is ∙ e in cc)
  ends-with (decision.Differs bits) f end h is e =
      subst (IsFound g conflicts queries) (same_Some (found.Differs i bits) f (sym is ∙ e)) (record { query = q; first = record { at = at; earlier = before }; differs = is_difference h })
  ends-with (decision.Limit proof) f end h is e =
      subst (IsFound g conflicts queries) (same_Some (found.Limit proof) f (sym is ∙ e)) (record { place = i; query = q; first = record { at = at; earlier = before }; limit = h })

  -- else the sides of this one agree
  pub goes-on : (d : Decision) (end : Option Found) → DecidesInStead g q conflicts d → EndsAt i d end → end ≡ None → AgreeBefore g queries (i + 1)
  goes-on (decision.Same by) end h is e = λ k r below there. go k r there (below_or_here k i below)
    where
      below_or_here : (m n : ℕ) → m < n + 1 → (m < n) ⊎ (m ≡ n)
      below_or_here m n l = grind arith

      go : (k : ℕ) (r : Query) → slice_get queries k ≡ Some r → (k < i) ⊎ (k ≡ i) → IsSame g r
      go k r there (inl l) = before k r l there
      go k r there (inr same) = subst (IsSame g) (same_Some q r (sym at ∙ (ap (slice_get queries) (sym same) ∙ there))) (is_same h)
  goes-on (decision.Differs bits) end h is e = absurd (let z : Some (found.Differs i bits) ≡ None = sym is ∙ e in cc)
  goes-on (decision.Limit proof) end h is e = absurd (let z : Some (found.Limit proof) ≡ None = sym is ∙ e in cc)

-- the sides of all agree
pub all-agree : (g : List Node) (queries : List Query) (i : ℕ) → length queries ≤ i → AgreeBefore g queries i → All (IsSame g) queries
all-agree g queries i past before =
    All-from_each (IsSame g) queries (λ q h. let k = at_of queries q h in before k.0 q (let l = slice_get_within queries k.0 q k.1 in omega (arith, l, past)) k.1)
