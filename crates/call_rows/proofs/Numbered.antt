-- A list in which each number stands at its own place, with one more.
use Rattle.std.proofs.Common.{◌≡◌, ◌∙◌, ◌+◌, ◌<◌, ◌≤◌, ℕ, List, [], ◌∷◌, ◌++◌, length, slice_get, Some, sym, ap, subst, arith, inl, inr}
use Rattle.std.specs.Prelude.{◌⊎◌}
use Rattle.std.specs.List.{Contains}
use Rattle.std.proofs.lemmas.Option.{slice_get_within}
use Rattle.circuit_theory.proofs.Lists.{Contains-cases}
use Rattle.flat_net.proofs.Growth.{length-push}
use Rattle.cbf_unfold.proofs.unfold_places.Lists.{append_cases}

pub one_more : (made : List ℕ) (new : List ℕ) (k : ℕ) → new ≡ made ++ k ∷ [] → length made ≡ k → length new ≡ k + 1
one_more made new k is size = ap length is ∙ (length-push made k ∙ ap (λ n. n + 1) size)

pub numbered_more : (made : List ℕ) (new : List ℕ) (k : ℕ) → new ≡ made ++ k ∷ [] → length made ≡ k → ((i x : ℕ) → slice_get made i ≡ Some x → x ≡ i) → (i x : ℕ) → slice_get new i ≡ Some x → x ≡ i
numbered_more made new k is size each i x at = go (append_cases made (k ∷ []) i x (subst (λ (l : List ℕ). slice_get l i ≡ Some x) is at))
  where
    below : i < k + 1
    below = subst (λ n. i < n) (one_more made new k is size) (slice_get_within new i x at)

    go : (slice_get made i ≡ Some x) ⊎ ((length made ≤ i) × Contains (k ∷ []) x) → x ≡ i
    go (inl old) = each i x old
    go (inr last) =
        let same : k ≡ x = elim (Contains-cases k x [] last.1) [ inl e ↦ e | inr n ↦ absurd (omega (arith, n.1)) ] in
        omega (arith, same, last.0, size, below)
