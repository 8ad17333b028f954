-- Numbers that belong to signals of a list.
use Rattle.std.proofs.Common.{◌≡◌, ◌+◌, ◌<◌, ◌⊎◌, inl, inr, ℕ, List, [], ◌∷◌, ◌++◌, length, take, get_or, eqb, sym, subst}
use Rattle.std.specs.Prelude.{◌↔◌}
use Rattle.std.specs.List.{Contains, dedup}
use Rattle.std.specs.List.Sorted.{IsPermutation, IsSorted, IsStrictlyIncreasing}
use Rattle.std.specs.Ordering.{nat_cmp}
use Rattle.std.proofs.lemmas.Option.{none-some}
use Rattle.std.proofs.lemmas.List.{take_more}
use Rattle.std.proofs.lemmas.List.Elements.{Contains-append_left, Contains-push, Contains-push_cases}
use Rattle.std.proofs.lemmas.List.Kept.{Contains-dedup_nat, Contains-from_dedup}
use Rattle.std.proofs.lemmas.List.Sorted.{Contains-permutation, IsPermutation-sym}
use Rattle.std.proofs.lemmas.Map.Keys.{IsStrictlyIncreasing-dedup}
use Rattle.circuit_theory.proofs.Lists.{at_of}
use Rattle.latch_kinds.specs.unate_enable.Among.{AreFrom, AreNumbersAmong}

-- numbers that are sorted, and each of them kept once
pub in_order_made : (numbers sorted made : List ℕ) → IsPermutation numbers sorted → IsSorted nat_cmp sorted → made ≡ dedup eqb sorted → IsStrictlyIncreasing made × ((x : ℕ) → Contains numbers x ↔ Contains made x)
in_order_made numbers sorted made moved order is =
    subst (λ (l : List ℕ). IsStrictlyIncreasing l × ((x : ℕ) → Contains numbers x ↔ Contains l x)) (sym is)
    (IsStrictlyIncreasing-dedup sorted order, λ x. (λ h. Contains-dedup_nat sorted x (Contains-permutation numbers sorted x moved h), λ h. Contains-permutation sorted numbers x (IsPermutation-sym numbers sorted moved) (Contains-from_dedup eqb sorted x h)))

module _ (IsAt : ℕ → ℕ → Type 0) where
  none_in : (x : ℕ) → Contains [] x → ⊥
  none_in x h = let at = at_of [] x h in none-some x at.1

  pub from_none : (signals numbers : List ℕ) → signals ≡ [] → numbers ≡ [] → AreFrom IsAt signals numbers
  from_none signals numbers d e = record {
    from = λ i h. absurd (none_in i (subst (λ l. Contains l i) e h));
    all = λ s i h. absurd (none_in s (subst (λ l. Contains l s) d h));
  }

  module _ (signals numbers : List ℕ) (k : ℕ) (d : ℕ) (inside : k < length signals) (are : AreFrom IsAt (take k signals) numbers) where
    more : take (k + 1) signals ≡ take k signals ++ get_or signals k d ∷ []
    more = take_more signals k d inside

    -- the next signal, or one before
    cases : (s : ℕ) → Contains (take (k + 1) signals) s → Contains (take k signals) s ⊎ (get_or signals k d ≡ s)
    cases s h = Contains-push_cases (take k signals) (get_or signals k d) s (subst (λ l. Contains l s) more h)

    stays : (s : ℕ) → Contains (take k signals) s → Contains (take (k + 1) signals) s
    stays s h = subst (λ l. Contains l s) (sym more) (Contains-append_left (take k signals) (get_or signals k d ∷ []) s h)

    next : Contains (take (k + 1) signals) (get_or signals k d)
    next = subst (λ l. Contains l (get_or signals k d)) (sym more) (Contains-push (take k signals) (get_or signals k d))

    pub from_same : ((i : ℕ) → IsAt (get_or signals k d) i → ⊥) → AreFrom IsAt (take (k + 1) signals) numbers
    from_same none = record {
      from = λ i h. let f = are.from i h in (f.0, stays f.0 f.1, f.2);
      all = λ s i h is. by s i (cases s h) is;
    }
      where
        by : (s i : ℕ) → Contains (take k signals) s ⊎ (get_or signals k d ≡ s) → IsAt s i → Contains numbers i
        by s i (inl h) is = are.all s i h is
        by s i (inr e) is = absurd (none i (subst (λ t. IsAt t i) (sym e) is))

    pub from_more : (number : ℕ) (new : List ℕ) → IsAt (get_or signals k d) number → ((i : ℕ) → IsAt (get_or signals k d) i → i ≡ number) → new ≡ numbers ++ number ∷ [] → AreFrom IsAt (take (k + 1) signals) new
    from_more number new here only is = record {
      from = λ i h. by_from i (Contains-push_cases numbers number i (subst (λ l. Contains l i) is h));
      all = λ s i h at. subst (λ l. Contains l i) (sym is) (by s i (cases s h) at);
    }
      where
        by_from : (i : ℕ) → Contains numbers i ⊎ (number ≡ i) → (s : ℕ) × Contains (take (k + 1) signals) s × IsAt s i
        by_from i (inl h) = let f = are.from i h in (f.0, stays f.0 f.1, f.2)
        by_from i (inr e) = (get_or signals k d, next, subst (IsAt (get_or signals k d)) e here)

        by : (s i : ℕ) → Contains (take k signals) s ⊎ (get_or signals k d ≡ s) → IsAt s i → Contains (numbers ++ number ∷ []) i
        by s i (inl h) at = Contains-append_left numbers (number ∷ []) i (are.all s i h at)
        by s i (inr e) at = subst (Contains (numbers ++ number ∷ [])) (sym (only i (subst (λ t. IsAt t i) (sym e) at))) (Contains-push numbers number)

  pub among_made : (signals numbers made : List ℕ) → AreFrom IsAt signals numbers → IsStrictlyIncreasing made × ((x : ℕ) → Contains numbers x ↔ Contains made x) → AreNumbersAmong IsAt signals made
  among_made signals numbers made are same = record {
    increasing = same.0;
    are = record { from = λ i h. are.from i ((same.1 i).1 h); all = λ s i h at. (same.1 i).0 (are.all s i h at) };
  }
