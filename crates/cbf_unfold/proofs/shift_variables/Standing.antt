-- Two numbers of a table stand as their pairs do.
use Rattle.std.proofs.Common.{◌≡◌, ◌≢◌, ℕ, ◌<◌, List, slice_get, Some, sym, subst, inl, inr}
use Rattle.std.specs.declared.cmp.Ordering.{Ordering}
use Rattle.std.specs.declared.cmp.Ordering.TheVariants.{Less, Equal, Greater}
use Rattle.std.specs.Ordering.{nat_cmp, MatchOrdering}
use Rattle.std.proofs.lemmas.Cmp.{ranked}
use Rattle.base_tables.specs.Table.{AreDistinct}
use Rattle.circuit_theory.specs.Query.{Variable, ShiftBefore}
use Rattle.circuit_laws.specs.reset_laws.Reset.{CycleBefore}
use Rattle.cbf_unfold.specs.shift_variables.Variables.{variable_of, Stands}
use Rattle.cbf_unfold.specs.shift_variables.cycle_variables.Cycles as cycles
use Rattle.cbf_unfold.proofs.shift_variables.Reading.{pair_is}

module _ (places : List (ℕ × ℕ)) (u v : ℕ) (p q : ℕ × ℕ) (at : slice_get places u ≡ Some p) (to : slice_get places v ≡ Some q) where
  abbrev left : Variable ℕ
  left = record { input = p.0; at = p.1 }

  abbrev right : Variable ℕ
  right = record { input = q.0; at = q.1 }

  goes : (Before : Variable ℕ → Variable ℕ → Type 0) → Before left right → Before (variable_of places u) (variable_of places v)
  goes Before h = subst (λ (x : Variable ℕ). Before x (variable_of places v)) (sym (pair_is places u p at)) (subst (Before left) (sym (pair_is places v q to)) h)

  goes_back : (Before : Variable ℕ → Variable ℕ → Type 0) → Before right left → Before (variable_of places v) (variable_of places u)
  goes_back Before h = subst (λ (x : Variable ℕ). Before x (variable_of places u)) (sym (pair_is places v q to)) (subst (Before right) (sym (pair_is places u p at)) h)

  one : AreDistinct places → p.0 ≡ q.0 → p.1 ≡ q.1 → u ≡ v
  one distinct input same = distinct u v p at (subst (λ (r : ℕ × ℕ). slice_get places v ≡ Some r) (λ i. (sym input i, sym same i)) to)

  -- the greater shift first
  pub by_shift : p.1 ≢ q.1 → (o : Ordering) → o ≡ nat_cmp q.1 p.1 → Stands places u v o
  by_shift apart o e = go o (ranked q.1 p.1 o e)
    where
      go : (r : Ordering) → MatchOrdering r (q.1 < p.1) (q.1 ≡ p.1) (p.1 < q.1) → Stands places u v r
      go Less l = goes ShiftBefore (inl l)
      go Equal same = absurd (apart (sym same))
      go Greater l = goes_back ShiftBefore (inl l)

  -- at one shift by the input
  pub at_one_shift : AreDistinct places → p.1 ≡ q.1 → (o : Ordering) → o ≡ nat_cmp p.0 q.0 → Stands places u v o
  at_one_shift distinct same o e = go o (ranked p.0 q.0 o e)
    where
      go : (r : Ordering) → MatchOrdering r (p.0 < q.0) (p.0 ≡ q.0) (q.0 < p.0) → Stands places u v r
      go Less l = goes ShiftBefore (inr (same, l))
      go Equal input = one distinct input same
      go Greater l = goes_back ShiftBefore (inr (sym same, l))

  -- the lesser cycle first
  pub by_cycle : p.1 ≢ q.1 → (o : Ordering) → o ≡ nat_cmp p.1 q.1 → cycles.Stands places u v o
  by_cycle apart o e = go o (ranked p.1 q.1 o e)
    where
      go : (r : Ordering) → MatchOrdering r (p.1 < q.1) (p.1 ≡ q.1) (q.1 < p.1) → cycles.Stands places u v r
      go Less l = goes CycleBefore (inl l)
      go Equal same = absurd (apart same)
      go Greater l = goes_back CycleBefore (inl l)

  -- in one cycle by the number
  pub in_one_cycle : AreDistinct places → p.1 ≡ q.1 → (o : Ordering) → o ≡ nat_cmp p.0 q.0 → cycles.Stands places u v o
  in_one_cycle distinct same o e = go o (ranked p.0 q.0 o e)
    where
      go : (r : Ordering) → MatchOrdering r (p.0 < q.0) (p.0 ≡ q.0) (q.0 < p.0) → cycles.Stands places u v r
      go Less l = goes CycleBefore (inr (same, l))
      go Equal number = one distinct number same
      go Greater l = goes_back CycleBefore (inr (sym same, l))
