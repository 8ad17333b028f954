-- The weight of an unfolding is one number, and what is over a cap weighs more.
use Rattle.std.proofs.Common.{◌≡◌, ℕ, ◌+◌, ◌*◌, ◌<◌, ◌≤◌, max, List, length, refl, sym, ◌∙◌, ap, subst, arith, inl, inr}
use Rattle.std.specs.Prelude.{◌⊎◌}
use Rattle.std.specs.List.{Contains, AllPairs, sum_by}
use Rattle.circuit_theory.specs.Circuit.{Circuit, Equation, Gate, Latch, Port, IsInput, Reaches, out_of, IsSingleDriven}
use Rattle.circuit_theory.specs.Sizes.{WeighsAt, Weighed, IsWeight, IsOver, IsConeWeight, IsConeOver}
use Rattle.circuit_theory.proofs.Sums.{sum_within}

-- what an equation counts
abbrev equation_weight : {P : Type 0} → Equation P → ℕ
equation_weight (Gate out fanins cover) = 1 + max 1 (length cover.rows) * (length fanins + 1)
equation_weight (Latch name out next) = 1
equation_weight (Port out from) = 1

module _ {P : Type 0} (c : Circuit P) (single : IsSingleDriven c) where
  weighs_says : {p : P} {w : ℕ} → WeighsAt c p w → (IsInput c p × (w ≡ 1)) ⊎ ((e : Equation P) × Contains c.equations e × (out_of e ≡ p) × (w ≡ equation_weight e))
  weighs_says (WeighsAt.input i) = inl (i, refl)
  weighs_says (WeighsAt.latch {p = p} {next = next} {name = name} h) = inr (Latch name p next, h, refl, refl)
  weighs_says (WeighsAt.gate {p = p} {fanins = fanins} {cover = cover} h) = inr (Gate p fanins cover, h, refl, refl)

  -- a place weighs one number
  pub weighs_one : {p : P} {w v : ℕ} → WeighsAt c p w → WeighsAt c p v → w ≡ v
  weighs_one {p} {w} {v} l r = go (weighs_says l) (weighs_says r)
    where
      Says : ℕ → Type 0
      Says n = (IsInput c p × (n ≡ 1)) ⊎ ((e : Equation P) × Contains c.equations e × (out_of e ≡ p) × (n ≡ equation_weight e))

      no : IsInput c p → (e : Equation P) → Contains c.equations e → out_of e ≡ p → ⊥
      no i e h q = single.no_input e h (subst (IsInput c) (sym q) i)

      go : Says w → Says v → w ≡ v
      go (inl a) (inl b) = a.1 ∙ sym b.1
      go (inl a) (inr b) = absurd (no a.0 b.0 b.1 b.2)
      go (inr a) (inl b) = absurd (no b.0 a.0 a.1 a.2)
      go (inr a) (inr b) = a.3 ∙ (ap equation_weight (single.one a.0 b.0 a.1 b.1 (a.2 ∙ sym b.2)) ∙ sym b.3)

  abbrev IsSame : Weighed P → Weighed P → Type 0
  IsSame x y = (x.place ≡ y.place) × (x.shift ≡ y.shift)

  meet : (x y z : Weighed P) → IsSame x z → IsSame y z → IsSame x y
  meet x y z l r = (l.0 ∙ sym r.0, l.1 ∙ sym r.1)

  module _ (outputs : List P) where
    within : (xs : List (Weighed P)) → AllPairs (λ x y. (x.place ≡ y.place) → (x.shift ≡ y.shift) → ⊥) xs → ((x : Weighed P) → Contains xs x → WeighsAt c x.place x.weight) →
        (w : ℕ) (weight : IsWeight c outputs w) →
        ((x : Weighed P) → Contains xs x → (v : ℕ) × Contains weight.places (record { place = x.place; shift = x.shift; weight = v })) →
        sum_by (λ x. x.weight) xs ≤ w
    within xs distinct weighed w weight found =
        let h : sum_by (λ x. x.weight) xs ≤ sum_by (λ x. x.weight) weight.places = sum_within (λ x. x.weight) IsSame meet xs weight.places (λ i j d l k e. distinct i j d l k e.0 e.1)
        (λ x k. let f = found x k in (record { place = x.place; shift = x.shift; weight = f.0 }, f.1, (refl, refl), weighs_one (weighed x k) (weight.weighed _ f.1))) in
        omega (arith, weight.total)

    pub one_weight : (w v : ℕ) → IsWeight c outputs w → IsWeight c outputs v → w ≡ v
    one_weight w v l r =
        let a = within l.places l.distinct l.weighed v r (λ x k. (r.met x.place x.shift).1 ((l.met x.place x.shift).0 (x.weight, k))) in
        let b = within r.places r.distinct r.weighed w l (λ x k. (l.met x.place x.shift).1 ((r.met x.place x.shift).0 (x.weight, k))) in
        omega (arith, l.total, r.total)

    pub over_is_above : (cap w : ℕ) → IsOver c outputs cap → IsWeight c outputs w → cap < w
    over_is_above cap w over weight =
        let h = within over.places over.distinct over.weighed w weight (λ x k. (weight.met x.place x.shift).1 (over.met x k)) in
        omega (arith, over.total)

  module _ (next : P) where
    cone_within : (xs : List (Weighed P)) → AllPairs (λ x y. x.place ≡ y.place → ⊥) xs → ((x : Weighed P) → Contains xs x → (x.shift ≡ 0) × WeighsAt c x.place x.weight) →
        (w : ℕ) (weight : IsConeWeight c next w) → ((x : Weighed P) → Contains xs x → Reaches c next x.place) → sum_by (λ x. x.weight) xs ≤ w
    cone_within xs distinct weighed w weight reached =
        let h : sum_by (λ x. x.weight) xs ≤ sum_by (λ x. x.weight) weight.places = sum_within (λ x. x.weight) (λ x y. x.place ≡ y.place) (λ x y z l r. l ∙ sym r) xs weight.places distinct
        (λ x k. let f = (weight.met x.place).1 (reached x k) in (record { place = x.place; shift = 0; weight = f.0 }, f.1, refl, weighs_one (weighed x k).1 (weight.weighed _ f.1).1)) in
        omega (arith, weight.total)

    pub one_cone_weight : (w v : ℕ) → IsConeWeight c next w → IsConeWeight c next v → w ≡ v
    one_cone_weight w v l r =
        let a = cone_within l.places l.distinct l.weighed v r (λ x k. reached_by l x k) in
        let b = cone_within r.places r.distinct r.weighed w l (λ x k. reached_by r x k) in
        omega (arith, l.total, r.total)
      where
        reached_by : {n : ℕ} (weight : IsConeWeight c next n) (x : Weighed P) → Contains weight.places x → Reaches c next x.place
        reached_by weight x k = (weight.met x.place).0 (x.weight, subst (λ (s : ℕ). Contains weight.places (record { place = x.place; shift = s; weight = x.weight })) (weight.weighed x k).0 k)

    pub cone_over_is_above : (cap w : ℕ) → IsConeOver c next cap → IsConeWeight c next w → cap < w
    cone_over_is_above cap w over weight =
        let h = cone_within over.places over.distinct over.weighed w weight over.met in
        omega (arith, over.total)
