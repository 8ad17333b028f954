-- Small designs with one output can be compared by it.
use Rattle.std.specs.Prelude.{Err}
use Rattle.std.specs.List.{filter, list_any}
use Rattle.std.specs.Str.{bytes_eq}
use Rattle.std.proofs.Common.{◌≡◌, ◌∙◌, ◌++◌, ◌≤◌, ℕ, Bool, true, false, List, [], ◌∷◌, map, codes, refl, sym, ap, subst, arith, Some}
use Rattle.std.proofs.lemmas.Option.{none-some}
use Rattle.std.proofs.lemmas.Slice.Eq.{bytes_eq-Decides}
use Rattle.circuit_theory.specs.declared.Side.TheVariants.{A, B}
use Rattle.circuit_theory.specs.Agree.{cut}
use Rattle.circuit_theory.specs.Circuit.{Circuit, Named}
use Rattle.circuit_theory.specs.Depth.{HasCycle}
use Rattle.circuit_theory.specs.Flattened.{latch_names}
use Rattle.circuit_theory.specs.Run.{NoneEnabled}
use Rattle.circuit_theory.specs.Sizes.{IsOver}
use Rattle.blif_read.specs.declared.design.BlifModel.{BlifModel}
use Rattle.flat_net.specs.declared.parts.Port.{Port}
use Rattle.flat_net.specs.View.{NetView, circuit_of, named}
use Rattle.net_names.specs.Alone.{IsAlone, only_output, shows_output}
use Rattle.net_names.proofs.Circuits.{outputs_named}
use Rattle.sec_setup.specs.cut_points.Common.{common_names}
use Rattle.event_setup.specs.event_meaning.event_meaning_under.CompareError.{CompareError}
use Rattle.event_setup.specs.event_meaning.event_meaning_under.CompareError.TheVariants as compare_error
use Rattle.plain_check.specs.under_base.compare_base.Compared.{Compared}
use Rattle.pair_texts.specs.design_rows.Small.{IsSmall, Small, small_and, small_early, small_late}
use Rattle.pair_texts.specs.design_rows.Designs as design
use Rattle.pair_texts.specs.design_rows.Texts.{early, hier, late, off_and, on_and}
use Rattle.pair_texts.proofs.check_texts.Comparing.{broken, light}
use Rattle.pair_texts.proofs.check_texts.ToldCycles.{is_not_free}
use Rattle.pair_texts.proofs.design_rows.Spelling.{PortsMatch, Spells, accepted, match, net_is_small}
use Rattle.pair_texts.proofs.design_rows.SpelledTexts.{early_spells, hier_spells, late_spells, off_and_spells, on_and_spells}
use Rattle.job_pair.specs.Answer.{ArePairComparable}
use Rattle.job_pair.specs.Examples.{PairsAreComparable, plainly}

-- an only output of the name is kept, and shown
kept : (y : List ℕ) (ps : List Port) → map (λ (p : Port). p.name) ps ≡ y ∷ [] → filter (λ (p : Port). bytes_eq p.name y) ps ≡ ps
kept y [] e = absurd (cc)
kept y (p ∷ []) e = let named : p.name ≡ y = cc in let same : bytes_eq p.name y ≡ true = (bytes_eq-Decides p.name y).1 named in rw same refl
kept y (p ∷ q ∷ ps) e = absurd (cc)

shown : (y : List ℕ) (ps : List Port) → map (λ (p : Port). p.name) ps ≡ y ∷ [] → list_any (λ (p : Port). bytes_eq p.name y) ps ≡ true
shown y [] e = absurd (cc)
shown y (p ∷ []) e = let named : p.name ≡ y = cc in let same : bytes_eq p.name y ≡ true = (bytes_eq-Decides p.name y).1 named in rw same refl
shown y (p ∷ q ∷ ps) e = absurd (cc)

module _ (s : Small) (y : List ℕ) (one : s.outputs ≡ y ∷ []) (net : NetView) (own : IsSmall s net) where
  its_name : map (λ (p : Port). p.name) net.outputs ≡ y ∷ []
  its_name = own.outputs ∙ one

  shows : shows_output net y ≡ true
  shows = shown y net.outputs its_name

  module _ (alone : NetView) (is : IsAlone y net alone) where
    circuit : circuit_of alone ≡ circuit_of net
    circuit = is.circuit
        ∙ ap (λ (os : List (Named ℕ)). let c : Circuit ℕ = record (circuit_of net) { outputs = os } in c) (sym (outputs_named (λ o. bytes_eq o y) net.outputs) ∙ ap (map named) (kept y net.outputs its_name))

    small_alone : IsSmall s alone
    small_alone = record {
      unclocked = is.clock ∙ own.unclocked;
      inputs = ap (map (λ (p : Port). p.name)) is.inputs ∙ own.inputs;
      outputs = ap (map (λ (p : Port). p.name)) (is.outputs ∙ kept y net.outputs its_name) ∙ own.outputs;
      latches = ap (λ (c : Circuit ℕ). latch_names c.equations) circuit ∙ own.latches;
      counted = ap (map (λ l. l.name)) is.latches ∙ own.counted;
      acyclic = λ more h. own.acyclic more (subst (λ (c : Circuit ℕ). HasCycle c NoneEnabled (s.removed ++ more)) circuit h);
      light = λ cap h. own.light cap (subst (λ (c : Circuit ℕ). IsOver (cut s.removed c) (map (λ o. o.place) (cut s.removed c).outputs) cap) circuit h);
    }

-- nets of such designs without cycles are refused for want of memory alone
module _ (s t : Small) (a b : NetView) (left : IsSmall s a) (right : IsSmall t b) (same : PortsMatch s t) (none_left : s.removed ≡ []) (none_right : t.removed ≡ []) (few_left : s.weight ≤ 2000000) (few_right : t.weight ≤ 2000000) (expose : Bool) where
  pub unrefused : (e : CompareError) → Compared a b (plainly expose) (Err e) → e ≡ compare_error.NoMemory
  unrefused (compare_error.Interface name) k = absurd (none-some name (sym (match s t a b left right same) ∙ k))
  unrefused (compare_error.Cyclic A names) k = absurd (is_not_free a [] names k.2 (broken s t a b left right none_left none_right false).0)
  unrefused (compare_error.Cyclic B names) k = absurd (is_not_free b [] names k.3 (broken s t a b left right none_left none_right false).1)
  unrefused (compare_error.Unpaired A names) k = absurd (is_not_free a (common_names (circuit_of a) (circuit_of b)) names k.2 (broken s t a b left right none_left none_right true).0)
  unrefused (compare_error.Unpaired B names) k = absurd (is_not_free b (common_names (circuit_of a) (circuit_of b)) names k.3 (broken s t a b left right none_left none_right true).1)
  unrefused (compare_error.TooLarge side) k = absurd (light s t a b left right none_left none_right few_left few_right expose side k.2)
  unrefused compare_error.TooManyEvents k = absurd k
  unrefused (compare_error.Assume fault) k = absurd k
  unrefused (compare_error.Vacuous by) k = absurd k
  unrefused compare_error.NoMemory k = refl

comparable : (x z y : List ℕ) (m k : List BlifModel) (s t : Small) → Spells x m s → Spells z k t → s.outputs ≡ y ∷ [] → t.outputs ≡ y ∷ [] → PortsMatch s t → s.removed ≡ [] → t.removed ≡ [] → s.weight ≤ 2000000 → t.weight ≤ 2000000 → (expose : Bool) →
    ArePairComparable x z y (plainly expose)
comparable x z y m k s t p q one_left one_right same none_left none_right few_left few_right expose = record {
  left = accepted x m s p;
  right = accepted z k t q;
  shown = λ a b l r. (shows s y one_left a (net_is_small x m s p a l), shows t y one_right b (net_is_small z k t q b r));
  unrefused = λ a b left right l r is_left is_right e h.
      unrefused s t left right (small_alone s y one_left a (net_is_small x m s p a l) left is_left) (small_alone t y one_right b (net_is_small z k t q b r) right is_right) same none_left none_right few_left few_right expose e h;
}

pub pairs_are_comparable : PairsAreComparable
pairs_are_comparable expose = (
  comparable on_and off_and (codes "y") design.on_and design.off_and small_and (record small_and { weight = 9 }) on_and_spells off_and_spells refl refl (λ own others. refl) refl refl (omega arith) (omega arith) expose,
  comparable late early (codes "y") design.late design.early small_late small_early late_spells early_spells refl refl (λ own others. refl) refl refl (omega arith) (omega arith) expose,
  comparable hier early (codes "y") design.hier design.early small_late small_early hier_spells early_spells refl refl (λ own others. refl) refl refl (omega arith) (omega arith) expose,
)
