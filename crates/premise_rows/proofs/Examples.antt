-- What can be done with the worked texts.
use Rattle.std.proofs.Common.{◌≡◌, ℕ, true, List, [], ◌∷◌, filter, refl, sym, ap, ap₂, subst, arith, inl, inr}
use Rattle.std.specs.Prelude.{codes}
use Rattle.std.specs.List.{Contains}
use Rattle.circuit_theory.specs.declared.Side.{Side}
use Rattle.circuit_theory.specs.Names.{is_among}
use Rattle.circuit_theory.specs.Depth.{HasCycle}
use Rattle.circuit_theory.specs.Run.{NoneEnabled}
use Rattle.circuit_theory.specs.Circuit.{Latch}
use Rattle.circuit_theory.proofs.Lists.{Contains-head, Contains-tail, Contains-cases}
use Rattle.flat_net.specs.View.{NetView, circuit_of}
use Rattle.flatten.specs.DesignFaults.{IsFlatOf}
use Rattle.blif_read.specs.declared.design.BlifModel.{BlifModel}
use Rattle.sec_setup.specs.cut_points.Common.{common_names}
use Rattle.sec_setup.specs.Cycles.{AreBroken}
use Rattle.plain_check.specs.under_base.compare_base.Compared.{AreTooLarge}
use Rattle.sec_setup.specs.Cuts.{IsChoice}
use Rattle.outcome_fits.specs.Fitting.{IsCutOver}
use Rattle.job_base.specs.sec_files.Formats.{Blif}
use Rattle.job_base.specs.sec_files.Loading.{Loads}
use Rattle.job_base.proofs.sec_files.Texts.{text_net}
use Rattle.pair_texts.specs.design_rows.Designs as design
use Rattle.pair_texts.specs.design_rows.Small.{small_and, small_late, small_early, small_two, small_toggle, IsSmall}
use Rattle.pair_texts.proofs.design_rows.Toggle.{toggle_is_small}
use Rattle.pair_texts.specs.design_rows.Texts.{on_and, off_and, late, early, toggle, hier, two}
use Rattle.premise_rows.specs.Premises.{AndsAreComparable, RetimedAreComparable, HierarchyIsComparable, CyclicAreComparable, TextsAreAccepted}
use Rattle.pair_texts.proofs.design_rows.Spelling.{accepted, net_is_small, match, latch_in}
use Rattle.pair_texts.proofs.check_texts.Comparing.{comparable}
use Rattle.pair_texts.proofs.design_rows.SpelledTexts.{on_and_spells, off_and_spells, late_spells, early_spells, hier_spells, two_spells, toggle_spells}

pub ands_are_comparable : AndsAreComparable
ands_are_comparable =
    comparable on_and off_and design.on_and design.off_and small_and (record small_and { weight = 9 }) on_and_spells off_and_spells (λ own others. refl) refl refl (omega arith) (omega arith)

pub retimed_are_comparable : RetimedAreComparable
retimed_are_comparable = comparable late early design.late design.early small_late small_early late_spells early_spells (λ own others. refl) refl refl (omega arith) (omega arith)

pub hierarchy_is_comparable : HierarchyIsComparable
hierarchy_is_comparable = comparable hier early design.hier design.early small_late small_early hier_spells early_spells (λ own others. refl) refl refl (omega arith) (omega arith)

-- the net of the circuit with a cycle, and another of it
module _ (a b : NetView) (la : Loads toggle a) (lb : Loads toggle b) where
  left : IsSmall small_toggle a
  left = net_is_small toggle design.toggle small_toggle toggle_spells a la

  right : IsSmall small_toggle b
  right = net_is_small toggle design.toggle small_toggle toggle_spells b lb

  cyclic : HasCycle (circuit_of a) NoneEnabled []
  cyclic = toggle_is_small.1 a (subst (λ (ms : List BlifModel). IsFlatOf ms a) toggle_spells.models_are (text_net toggle a la Blif toggle_spells.format))

  common_is : common_names (circuit_of a) (circuit_of b) ≡ codes "q" ∷ []
  common_is = ap₂ (λ (own others : List (List ℕ)). filter (is_among others) own) left.latches right.latches

  free : AreBroken a b true
  free =
      subst (λ (names : List (List ℕ)). (HasCycle (circuit_of a) NoneEnabled names → ⊥) × (HasCycle (circuit_of b) NoneEnabled names → ⊥)) (sym common_is) (left.acyclic [], right.acyclic [])

  only_q : (name : List ℕ) (u next : ℕ) → Contains (circuit_of a).equations (Latch name u next) → codes "q" ≡ name
  only_q name u next h =
      elim (Contains-cases (codes "q") name [] (subst (λ (ns : List (List ℕ)). Contains ns name) left.latches (latch_in (circuit_of a).equations name u next h))) [
        | inl same ↦ same
        | inr none ↦ absurd (let l = none.1 in omega (arith, l))
      ]

  -- the one latch is cut open
  one_name : (names : List (List ℕ)) → IsChoice a b true names → names ≡ codes "q" ∷ []
  one_name [] choice = absurd (choice.minimal.left_free cyclic)
  one_name (name ∷ []) choice =
      let x = choice.minimal.common name (Contains-head name []) in
      ap (λ (n : List ℕ). n ∷ []) (sym (only_q name x.0 x.1 x.4))
  one_name (name ∷ other ∷ names) choice =
      let x = choice.minimal.common other (Contains-tail name other (other ∷ names) (Contains-head other names)) in
      let same : other ≡ codes "q" = sym (only_q other x.0 x.1 x.4) in
      absurd (elim (choice.minimal.needed 0 (omega arith)) [
        | inl h ↦ left.acyclic names (subst (λ (n : List ℕ). HasCycle (circuit_of a) NoneEnabled (n ∷ names)) same h)
        | inr h ↦ right.acyclic names (subst (λ (n : List ℕ). HasCycle (circuit_of b) NoneEnabled (n ∷ names)) same h)
      ])

  light : (side : Side) → AreTooLarge a b true side → ⊥
  light side (AreTooLarge.left {names = names} choice order over) =
      let h = left.light 2000000 (subst (λ (ns : List (List ℕ)). IsCutOver ns (circuit_of a)) (one_name names choice) over) in
      omega (arith, h)
  light side (AreTooLarge.right {names = names} choice order fine over) =
      let h = right.light 2000000 (subst (λ (ns : List (List ℕ)). IsCutOver ns (circuit_of b)) (one_name names choice) over) in
      omega (arith, h)

pub cyclic_are_comparable : CyclicAreComparable
cyclic_are_comparable = record {
  left = accepted toggle design.toggle small_toggle toggle_spells;
  right = accepted toggle design.toggle small_toggle toggle_spells;
  match = λ a b la lb. match small_toggle small_toggle a b (left a b la lb) (right a b la lb) (λ own others. refl);
  broken = λ a b la lb. free a b la lb;
  light = λ a b la lb. light a b la lb;
}

pub texts_are_accepted : TextsAreAccepted
texts_are_accepted = (
  accepted on_and design.on_and small_and on_and_spells,
  accepted off_and design.off_and (record small_and { weight = 9 }) off_and_spells,
  accepted late design.late small_late late_spells,
  accepted early design.early small_early early_spells,
  accepted toggle design.toggle small_toggle toggle_spells,
  accepted hier design.hier small_late hier_spells,
  accepted two design.two small_two two_spells,
)
