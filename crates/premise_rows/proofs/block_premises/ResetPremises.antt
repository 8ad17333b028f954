-- Texts of small designs without cycles can be compared from their initial values.
use Rattle.std.proofs.Common.{◌≡◌, ◌∙◌, ℕ, ◌+◌, ◌<◌, ◌≤◌, true, false, None, List, [], ◌∷◌, map, refl, sym, ap, subst, arith, inl, inr, ◌⊎◌}
use Rattle.std.specs.Prelude.{codes, if◌then◌else◌}
use Rattle.std.specs.List.{Contains, sum_by}
use Rattle.circuit_theory.specs.declared.Side.{Side}
use Rattle.circuit_theory.specs.declared.Side.TheVariants.{A, B}
use Rattle.circuit_theory.specs.Agree.{cut}
use Rattle.circuit_theory.specs.Circuit.{Circuit, Named}
use Rattle.circuit_theory.specs.Fits.{IsPairDepth}
use Rattle.circuit_theory.specs.Names.{is_among}
use Rattle.circuit_theory.specs.Sizes.{IsOver, Weighed}
use Rattle.circuit_theory.proofs.Lists.{Contains-map, Contains-map_from}
use Rattle.blif_read.specs.blif_lines.Lines.{cut_line, going_on}
use Rattle.blif_read.specs.declared.design.BlifModel.{BlifModel}
use Rattle.blif_read.specs.declared.design.Statement.TheVariants.{Names, Latch as LatchLine}
use Rattle.blif_read.specs.Design.{Place, walk, circuit_of_design}
use Rattle.blif_read.specs.Fault.{fault_of}
use Rattle.blif_read.specs.Heads.{head_of}
use Rattle.sec_base.specs.declared.basics.Init.TheVariants as init
use Rattle.pair_texts.specs.design_rows.NoFault.{has_no_fault}
use Rattle.pair_texts.proofs.design_rows.NoFaults.{tested_is_sound}
use Rattle.pair_texts.specs.design_rows.Designs.{one_model, and_cover}
use Rattle.pair_texts.specs.design_rows.Designs as design
use Rattle.pair_texts.specs.design_rows.Small.{Small, IsSmall, small_late, small_early}
use Rattle.pair_texts.proofs.design_rows.Examples.{at_top, rank_of}
use Rattle.pair_texts.proofs.design_rows.Tested.{PassesTests, tested_is_small}
use Rattle.flat_net.specs.View.{NetView, circuit_of}
use Rattle.circuit_laws.specs.reset_laws.Weight.{PlaceInCycle, ResetVisits, WeighedInCycle, IsResetOver}
use Rattle.reset_form.specs.reset_unfold.Places.{in_cycle, starts_of}
use Rattle.sec_setup.specs.ports.Pairs.{NamedPair, named_pairs}
use Rattle.plain_check.specs.under_base.compare_base.FromReset.{IsLeftStart, IsRightStart, AreTooLargeFromReset}
use Rattle.outcome_fits.proofs.plain_meaning.CutPairs.{IsOutputPair, IsNextPair, listed_is}
use Rattle.pair_texts.specs.check_texts.Texts.{AreComparable}
use Rattle.premise_rows.specs.block_premises.ResetPremises.{late_from_zero, early_from_zero, ResetsAreComparable}
use Rattle.pair_texts.specs.design_rows.Texts.{late, early}
use Rattle.pair_texts.proofs.design_rows.Spelling.{Spells, PortsMatch, accepted, net_is_small, match}
use Rattle.pair_texts.proofs.check_texts.Comparing.{broken}
use Rattle.pair_texts.proofs.check_texts.Uncut.{uncut_is}
use Rattle.pair_texts.proofs.design_rows.SpelledTexts.{late_spells, early_spells}
use Rattle.premise_rows.proofs.block_premises.ResetBounds.{times, SeenBelow, cycles_weigh, depth_low}

abbrev pub outputs_in : Circuit ℕ → List ℕ
outputs_in c = map (λ (o : Named ℕ). o.place) c.outputs

-- nothing is in the list of none
nothing : {X : Type 0} (x : X) → Contains [] x → ⊥
nothing x h = omega (arith, h.1)

module _ (s t : Small) (a b : NetView) (left : IsSmall s a) (right : IsSmall t b) (none_left : s.removed ≡ []) (none_right : t.removed ≡ []) where
  pub left_light : (cap : ℕ) → IsOver (circuit_of a) (outputs_in (circuit_of a)) cap → cap < s.weight
  left_light cap over =
      left.light cap (subst (λ (names : List (List ℕ)). IsOver (cut names (circuit_of a)) (outputs_in (cut names (circuit_of a))) cap) (sym none_left)
      (subst (λ (c : Circuit ℕ). IsOver c (outputs_in c) cap) (sym (uncut_is (circuit_of a))) over))

  right_light : (cap : ℕ) → IsOver (circuit_of b) (outputs_in (circuit_of b)) cap → cap < t.weight
  right_light cap over =
      right.light cap (subst (λ (names : List (List ℕ)). IsOver (cut names (circuit_of b)) (outputs_in (cut names (circuit_of b))) cap) (sym none_right)
      (subst (λ (c : Circuit ℕ). IsOver c (outputs_in c) cap) (sym (uncut_is (circuit_of b))) over))

  -- a pair of outputs
  pair_of : (x : NamedPair ℕ ℕ) → Contains (named_pairs [] (circuit_of a) (circuit_of b)) x → IsOutputPair (circuit_of a) (circuit_of b) x
  pair_of x h = go (listed_is [] (circuit_of a) (circuit_of b) x h)
    where
      go : IsOutputPair (circuit_of a) (circuit_of b) x ⊎ IsNextPair [] (circuit_of a) (circuit_of b) x → IsOutputPair (circuit_of a) (circuit_of b) x
      go (inl o) = o
      go (inr l) = absurd (nothing l.name l.exposed)

  left_output : (x : NamedPair ℕ ℕ) → Contains (named_pairs [] (circuit_of a) (circuit_of b)) x → Contains (outputs_in (circuit_of a)) x.left
  left_output x h = let o = pair_of x h in Contains-map (λ (n : Named ℕ). n.place) (circuit_of a).outputs (record { name = o.name; place = x.left }) o.left_output

  right_output : (x : NamedPair ℕ ℕ) → Contains (named_pairs [] (circuit_of a) (circuit_of b)) x → Contains (outputs_in (circuit_of b)) x.right
  right_output x h = let o = pair_of x h in Contains-map (λ (n : Named ℕ). n.place) (circuit_of b).outputs (record { name = o.name; place = x.right }) o.right_output

  -- no pair is deeper than both weigh
  pub depth_below : (x : NamedPair ℕ ℕ) → Contains (named_pairs [] (circuit_of a) (circuit_of b)) x → (depth : ℕ) → IsPairDepth (circuit_of a) (circuit_of b) x.left x.right depth → depth ≤ s.weight + t.weight
  depth_below x h depth deep =
      let l = depth_low (circuit_of a) (outputs_in (circuit_of a)) s.weight left_light x.left (left_output x h) deep.left deep.left_is in
      let r = depth_low (circuit_of b) (outputs_in (circuit_of b)) t.weight right_light x.right (right_output x h) deep.right deep.right_is in
      omega (arith, l, r, deep.greater)

  left_seen : (sides : List (ℕ × ℕ)) → ((p : ℕ × ℕ) → Contains sides p → IsLeftStart (circuit_of a) (circuit_of b) p) → (y : WeighedInCycle ℕ) →
      ((start : PlaceInCycle ℕ) × Contains (starts_of sides) start × ResetVisits (circuit_of a) start.place start.cycle y.place y.cycle) →
      SeenBelow (circuit_of a) (outputs_in (circuit_of a)) s.weight left_light (s.weight + t.weight + 1) y
  left_seen sides are y (start, among, visits) =
      let p = Contains-map_from in_cycle sides start among in
      let side = are p.0 p.1 in
      let deep = depth_below side.0 side.1 side.2 side.3 in
      let cycle : p.0.0 ≡ start.cycle = ap (λ (z : PlaceInCycle ℕ). z.cycle) p.2 in
      let place : side.0.left ≡ start.place = sym side.5 ∙ ap (λ (z : PlaceInCycle ℕ). z.place) p.2 in
      (start.cycle, omega (arith, deep, side.4, cycle), (start.place, subst (Contains (outputs_in (circuit_of a))) place (left_output side.0 side.1), visits))

  right_seen : (sides : List (ℕ × ℕ)) → ((p : ℕ × ℕ) → Contains sides p → IsRightStart (circuit_of a) (circuit_of b) p) → (y : WeighedInCycle ℕ) →
      ((start : PlaceInCycle ℕ) × Contains (starts_of sides) start × ResetVisits (circuit_of b) start.place start.cycle y.place y.cycle) →
      SeenBelow (circuit_of b) (outputs_in (circuit_of b)) t.weight right_light (s.weight + t.weight + 1) y
  right_seen sides are y (start, among, visits) =
      let p = Contains-map_from in_cycle sides start among in
      let side = are p.0 p.1 in
      let deep = depth_below side.0 side.1 side.2 side.3 in
      let cycle : p.0.0 ≡ start.cycle = ap (λ (z : PlaceInCycle ℕ). z.cycle) p.2 in
      let place : side.0.right ≡ start.place = sym side.5 ∙ ap (λ (z : PlaceInCycle ℕ). z.place) p.2 in
      (start.cycle, omega (arith, deep, side.4, cycle), (start.place, subst (Contains (outputs_in (circuit_of b))) place (right_output side.0 side.1), visits))

  pub light_from : times (s.weight + t.weight + 1) s.weight ≤ 2000000 → times (s.weight + t.weight + 1) t.weight ≤ 2000000 → (side : Side) → AreTooLargeFromReset a b side → ⊥
  light_from few_left few_right A (sides, are, over) =
      let h =
      cycles_weigh (circuit_of a) (outputs_in (circuit_of a)) s.weight left_light (s.weight + t.weight + 1) over.places over.distinct (λ y k. (over.weighed y k, left_seen sides are y (over.met y k))) in
      let big : 2000000 < sum_by (λ (z : WeighedInCycle ℕ). z.weight) over.places = over.total in
      omega (arith, h, few_left, big)
  light_from few_left few_right B (fine, large) = too_much large.0 large.1 large.2
    where
      too_much : (sides : List (ℕ × ℕ)) → ((p : ℕ × ℕ) → Contains sides p → IsRightStart (circuit_of a) (circuit_of b) p) → IsResetOver (circuit_of b) (starts_of sides) 2000000 → ⊥
      too_much sides are over =
          let h =
          cycles_weigh (circuit_of b) (outputs_in (circuit_of b)) t.weight right_light (s.weight + t.weight + 1) over.places over.distinct (λ y k. (over.weighed y k, right_seen sides are y (over.met y k))) in
          let big : 2000000 < sum_by (λ (z : WeighedInCycle ℕ). z.weight) over.places = over.total in
          omega (arith, h, few_right, big)

-- two texts of small designs without cycles
comparable_from : (x y : List ℕ) (m k : List BlifModel) (s t : Small) → Spells x m s → Spells y k t → PortsMatch s t → s.removed ≡ [] → t.removed ≡ [] →
    times (s.weight + t.weight + 1) s.weight ≤ 2000000 → times (s.weight + t.weight + 1) t.weight ≤ 2000000 → AreComparable x y false true
comparable_from x y m k s t p q same none_left none_right few_left few_right = record {
  left = accepted x m s p;
  right = accepted y k t q;
  match = λ a b la lb. match s t a b (net_is_small x m s p a la) (net_is_small y k t q b lb) same;
  broken = λ a b la lb. broken s t a b (net_is_small x m s p a la) (net_is_small y k t q b lb) none_left none_right false;
  light = λ a b la lb. light_from s t a b (net_is_small x m s p a la) (net_is_small y k t q b lb) none_left none_right few_left few_right;
}

abbrev pub late_design : List BlifModel
late_design = one_model (codes "a" ∷ codes "b" ∷ []) (codes "y" ∷ []) (Names 4 (codes "a" ∷ codes "b" ∷ []) (codes "n") and_cover ∷ LatchLine 6 (codes "n") (codes "y") None None init.Zero ∷ [])

abbrev pub early_design : List BlifModel
early_design =
    one_model (codes "a" ∷ codes "b" ∷ []) (codes "y" ∷ [])
    (LatchLine 4 (codes "a") (codes "p") None None init.Zero ∷ LatchLine 5 (codes "b") (codes "q") None None init.Zero ∷ Names 6 (codes "p" ∷ codes "q" ∷ []) (codes "y") and_cover ∷ [])

abbrev late_spots : List (Weighed Place)
late_spots = at_top (codes "y") 0 1 ∷ at_top (codes "n") 1 4 ∷ at_top (codes "a") 1 1 ∷ at_top (codes "b") 1 1 ∷ []

abbrev early_spots : List (Weighed Place)
early_spots = at_top (codes "y") 0 4 ∷ at_top (codes "p") 0 1 ∷ at_top (codes "q") 0 1 ∷ at_top (codes "a") 1 1 ∷ at_top (codes "b") 1 1 ∷ []

-- latches and gate behind the inputs
abbrev early_rank : Place → ℕ
early_rank p = if is_among (codes "a" ∷ codes "b" ∷ []) p.name then 0 else 1

late_passes : PassesTests late_design small_late (rank_of (codes "y" ∷ [])) late_spots
unfolding circuit_of_design walk cut
late_passes = record { no_clock = refl; inputs = refl; outputs = refl; latches = refl; ranked = refl; closed = refl; weight = refl }

late_sound : has_no_fault (codes "n" ∷ []) late_design ≡ true
unfolding walk
late_sound = refl

early_passes : PassesTests early_design small_early early_rank early_spots
unfolding circuit_of_design walk cut
early_passes = record { no_clock = refl; inputs = refl; outputs = refl; latches = refl; ranked = refl; closed = refl; weight = refl }

early_sound : has_no_fault (codes "y" ∷ []) early_design ≡ true
unfolding walk
early_sound = refl

pub late_from_spells : Spells late_from_zero late_design small_late
unfolding fault_of head_of cut_line going_on
late_from_spells = record {
  short = omega arith;
  format = refl;
  faultless = refl;
  models_are = refl;
  small = (tested_is_sound (codes "n" ∷ []) late_design late_sound, tested_is_small late_design small_late (rank_of (codes "y" ∷ [])) late_spots late_passes);
}

pub early_from_spells : Spells early_from_zero early_design small_early
unfolding fault_of head_of cut_line going_on
early_from_spells = record {
  short = omega arith;
  format = refl;
  faultless = refl;
  models_are = refl;
  small = (tested_is_sound (codes "y" ∷ []) early_design early_sound, tested_is_small early_design small_early early_rank early_spots early_passes);
}

pub resets_are_comparable : ResetsAreComparable
resets_are_comparable = (
  comparable_from late_from_zero early_from_zero late_design early_design small_late small_early late_from_spells early_from_spells (λ own others. refl) refl refl (omega arith) (omega arith),
  comparable_from late_from_zero early late_design design.early small_late small_early late_from_spells early_spells (λ own others. refl) refl refl (omega arith) (omega arith),
  comparable_from late late design.late design.late small_late small_late late_spells late_spells (λ own others. refl) refl refl (omega arith) (omega arith),
)
