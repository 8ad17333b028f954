-- The weight in the reset form is one number, and what is over a cap weighs more.
use Rattle.std.proofs.Common.{◌≡◌, ℕ, ◌<◌, ◌≤◌, List, refl, sym, ◌∙◌, arith}
use Rattle.std.specs.List.{Contains, AllPairs, sum_by}
use Rattle.circuit_theory.specs.Circuit.{Circuit, IsSingleDriven}
use Rattle.circuit_theory.specs.Sizes.{WeighsAt}
use Rattle.circuit_theory.proofs.Sums.{sum_within}
use Rattle.circuit_laws.proofs.Weights.{weighs_one}
use Rattle.circuit_laws.specs.reset_laws.Weight.{PlaceInCycle, WeighedInCycle, IsResetWeight, IsResetOver}
use Rattle.circuit_laws.specs.reset_laws.Laws.{ResetWeightIsOne}

module _ (c : Circuit ℕ) (single : IsSingleDriven c) (starts : List (PlaceInCycle ℕ)) where
  abbrev IsSame : WeighedInCycle ℕ → WeighedInCycle ℕ → Type 0
  IsSame x y = (x.place ≡ y.place) × (x.cycle ≡ y.cycle)

  within : (xs : List (WeighedInCycle ℕ)) → AllPairs (λ x y. (x.place ≡ y.place) → (x.cycle ≡ y.cycle) → ⊥) xs → ((x : WeighedInCycle ℕ) → Contains xs x → WeighsAt c x.place x.weight) →
      (w : ℕ) (weight : IsResetWeight c starts w) →
      ((x : WeighedInCycle ℕ) → Contains xs x → (v : ℕ) × Contains weight.places (record { place = x.place; cycle = x.cycle; weight = v })) → sum_by (λ x. x.weight) xs ≤ w
  within xs distinct weighed w weight found =
      let h : sum_by (λ x. x.weight) xs ≤ sum_by (λ x. x.weight) weight.places =
      sum_within (λ x. x.weight) IsSame (λ x y z l r. (l.0 ∙ sym r.0, l.1 ∙ sym r.1)) xs weight.places (λ i j d l k e. distinct i j d l k e.0 e.1)
      (λ x k. let f = found x k in (record { place = x.place; cycle = x.cycle; weight = f.0 }, f.1, (refl, refl), weighs_one c single (weighed x k) (weight.weighed _ f.1))) in
      omega (arith, weight.total)

  one_weight : (w v : ℕ) → IsResetWeight c starts w → IsResetWeight c starts v → w ≡ v
  one_weight w v l r =
      let a = within l.places l.distinct l.weighed v r (λ x k. (r.met x.place x.cycle).1 ((l.met x.place x.cycle).0 (x.weight, k))) in
      let b = within r.places r.distinct r.weighed w l (λ x k. (l.met x.place x.cycle).1 ((r.met x.place x.cycle).0 (x.weight, k))) in
      omega (arith, l.total, r.total)

  over_is_above : (cap w : ℕ) → IsResetOver c starts cap → IsResetWeight c starts w → cap < w
  over_is_above cap w over weight =
      let h = within over.places over.distinct over.weighed w weight (λ x k. (weight.met x.place x.cycle).1 (over.met x k)) in
      omega (arith, over.total)

pub reset_weight_is_one : ResetWeightIsOne
reset_weight_is_one c single starts v w cap h = (λ k. one_weight c single starts v w h k, λ over. over_is_above c single starts cap v over h)
