-- Variables that differ have numbers that differ, each among the numbers of all.
use Rattle.std.proofs.Common.{◌≡◌, ◌≢◌, ◌∙◌, ◌<◌, ℕ, List, [], ◌∷◌, length, get_or, slice_get, Some, sym, ap, subst, arith, inl, inr}
use Rattle.std.specs.List.{AllPairs, AllZip, Contains}
use Rattle.std.proofs.lemmas.Option.{same_Some, slice_get-get_or}
use Rattle.circuit_theory.specs.Query.{Variable, ShiftBefore}
use Rattle.circuit_theory.proofs.Lists.{Contains-cases, Contains-head, Contains-tail, zip_right}
use Rattle.flat_net.specs.Table.{AreDistinct}
use Rattle.cbf_unfold.specs.unfold_places.Growing.{IsNumberOf}
use Rattle.aig.proofs.Lists.{pairs_at}
use Rattle.cbf_unfold.proofs.shift_variables.ShiftOrder.{shift_apart}

-- a variable has its number among those of all
pub number_among : (places : List (ℕ × ℕ)) (vars : List ℕ) (variables : List (Variable ℕ)) → AreDistinct places → AllZip (IsNumberOf places) vars variables → (y : Variable ℕ) (v : ℕ) → Contains variables y →
    slice_get places v ≡ Some (y.input, y.at) → Contains vars v
number_among places [] [] distinct zip y v h at = absurd (omega (arith, h.1))
number_among places [] (z ∷ variables) distinct zip y v h at = absurd zip
number_among places (u ∷ vars) [] distinct zip y v h at = absurd zip
number_among places (u ∷ vars) (z ∷ variables) distinct zip y v h at =
    elim (Contains-cases z y variables h) [
      | inl same ↦
          let one : u ≡ v = distinct u v (y.input, y.at) (subst (λ (w : Variable ℕ). slice_get places u ≡ Some (w.input, w.at)) same zip.0) at in
          subst (Contains (u ∷ vars)) one (Contains-head u vars)
      | inr k ↦ Contains-tail u v vars (number_among places vars variables distinct zip.1 y v k at)
    ]

-- variables of which no two are the same have distinct numbers
pub numbers_apart : (before : Variable ℕ → Variable ℕ → Type 0) → ((x y : Variable ℕ) → before x y → x ≡ y → ⊥) → (places : List (ℕ × ℕ)) (vars : List ℕ) (variables : List (Variable ℕ)) → AllZip (IsNumberOf places) vars variables →
    AllPairs before variables → AllPairs (λ u v. u ≢ v) vars
numbers_apart before apart places vars variables zip ordered i j d below within same =
    let first_within : i < length vars = omega arith in
    let first = zip_right (IsNumberOf places) vars variables zip i (get_or vars i d) (slice_get-get_or vars i d first_within) in
    let second = zip_right (IsNumberOf places) vars variables zip j (get_or vars j d) (slice_get-get_or vars j d within) in
    let pair : (first.0.input, first.0.at) ≡ (second.0.input, second.0.at) = same_Some (first.0.input, first.0.at) (second.0.input, second.0.at) (sym first.2 ∙ ap (slice_get places) same ∙ second.2) in
    apart first.0 second.0 (pairs_at before variables i j first.0 second.0 ordered below first.1 second.1) (λ k. record { input = (pair k).0; at = (pair k).1 })

-- variables in order have distinct numbers
pub numbers_differ : (places : List (ℕ × ℕ)) (vars : List ℕ) (variables : List (Variable ℕ)) → AllZip (IsNumberOf places) vars variables → AllPairs ShiftBefore variables → AllPairs (λ u v. u ≢ v) vars
numbers_differ = numbers_apart ShiftBefore shift_apart
