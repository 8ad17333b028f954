-- Texts of small designs without cycles can be compared.
use Rattle.std.proofs.Common.{◌≡◌, ◌∙◌, ℕ, ◌≤◌, Bool, true, false, List, [], ◌∷◌, ◌++◌, refl, sym, subst, arith, inl, inr}
use Rattle.circuit_theory.specs.declared.Side.{Side}
use Rattle.circuit_theory.specs.Depth.{HasCycle}
use Rattle.circuit_theory.specs.Run.{NoneEnabled}
use Rattle.blif_read.specs.declared.design.BlifModel.{BlifModel}
use Rattle.flat_net.specs.View.{NetView, circuit_of}
use Rattle.sec_setup.specs.cut_points.Common.{common_names}
use Rattle.pair_texts.specs.check_texts.Texts.{AreComparable}
use Rattle.sec_setup.specs.Cycles.{AreBroken}
use Rattle.plain_check.specs.under_base.compare_base.Compared.{AreTooLarge}
use Rattle.sec_setup.specs.Cuts.{IsChoice}
use Rattle.plain_check.specs.under_base.compare_base.Fitting.{IsCutOver}
use Rattle.job_base.specs.sec_files.Loading.{IsAccepted, Loads}
use Rattle.pair_texts.specs.design_rows.Small.{Small, IsSmall}
use Rattle.pair_texts.proofs.design_rows.Spelling.{Spells, accepted, net_is_small, PortsMatch, match}

module _ (s t : Small) (a b : NetView) (left : IsSmall s a) (right : IsSmall t b) where
  module _ (none_left : s.removed ≡ []) (none_right : t.removed ≡ []) where
    left_acyclic : (names : List (List ℕ)) → HasCycle (circuit_of a) NoneEnabled names → ⊥
    left_acyclic names = subst (λ (removed : List (List ℕ)). HasCycle (circuit_of a) NoneEnabled (removed ++ names) → ⊥) none_left (left.acyclic names)

    right_acyclic : (names : List (List ℕ)) → HasCycle (circuit_of b) NoneEnabled names → ⊥
    right_acyclic names = subst (λ (removed : List (List ℕ)). HasCycle (circuit_of b) NoneEnabled (removed ++ names) → ⊥) none_right (right.acyclic names)

    pub broken : (expose : Bool) → AreBroken a b expose
    broken false = (left_acyclic [], right_acyclic [])
    broken true = (left_acyclic (common_names (circuit_of a) (circuit_of b)), right_acyclic (common_names (circuit_of a) (circuit_of b)))

    -- no latch is needed
    pub no_names : (expose : Bool) (names : List (List ℕ)) → IsChoice a b expose names → names ≡ []
    no_names expose [] choice = refl
    no_names expose (name ∷ names) choice = elim (choice.minimal.needed 0 (omega arith)) [ inl h ↦ absurd (left_acyclic names h) | inr h ↦ absurd (right_acyclic names h) ]

    pub light : s.weight ≤ 2000000 → t.weight ≤ 2000000 → (expose : Bool) (side : Side) → AreTooLarge a b expose side → ⊥
    light few_left few_right expose side (AreTooLarge.left {names = names} choice order over) =
        let h = left.light 2000000 (subst (λ (ns : List (List ℕ)). IsCutOver ns (circuit_of a)) (no_names expose names choice ∙ sym none_left) over) in
        omega (arith, h, few_left)
    light few_left few_right expose side (AreTooLarge.right {names = names} choice order fine over) =
        let h = right.light 2000000 (subst (λ (ns : List (List ℕ)). IsCutOver ns (circuit_of b)) (no_names expose names choice ∙ sym none_right) over) in
        omega (arith, h, few_right)

-- two texts whose nets are small and have no cycles
pub comparable_by : (x y : List ℕ) (s t : Small) → IsAccepted x → IsAccepted y → ((net : NetView) → Loads x net → IsSmall s net) → ((net : NetView) → Loads y net → IsSmall t net) → PortsMatch s t → s.removed ≡ [] → t.removed ≡ [] →
    s.weight ≤ 2000000 → t.weight ≤ 2000000 → (expose : Bool) → AreComparable x y expose false
comparable_by x y s t left right left_small right_small same none_left none_right few_left few_right expose = record {
  left = left;
  right = right;
  match = λ a b la lb. match s t a b (left_small a la) (right_small b lb) same;
  broken = λ a b la lb. broken s t a b (left_small a la) (right_small b lb) none_left none_right expose;
  light = λ a b la lb. light s t a b (left_small a la) (right_small b lb) none_left none_right few_left few_right expose;
}

-- two texts of small designs without cycles
pub comparable : (x y : List ℕ) (m k : List BlifModel) (s t : Small) → Spells x m s → Spells y k t → PortsMatch s t → s.removed ≡ [] → t.removed ≡ [] → s.weight ≤ 2000000 → t.weight ≤ 2000000 → (expose : Bool) → AreComparable x y expose false
comparable x y m k s t p q same none_left none_right few_left few_right expose =
    comparable_by x y s t (accepted x m s p) (accepted y k t q) (net_is_small x m s p) (net_is_small y k t q) same none_left none_right few_left few_right expose
