-- Texts of small designs can be searched behind a reset sequence, and compared there by ties of signals, where both inputs are equal.
use Rattle.std.proofs.Common.{◌≡◌, ◌∙◌, ℕ, ◌≤◌, true, false, List, [], ◌∷◌, Bool, Option, None, refl, ap₂, subst, arith}
use Rattle.std.specs.Prelude.{◌≢◌, codes}
use Rattle.circuit_theory.specs.Interface.{Ports, first_mismatch, shared_inputs}
use Rattle.blif_read.specs.declared.design.BlifModel.{BlifModel}
use Rattle.blif_read.specs.Design.{walk, circuit_of_design}
use Rattle.flat_net.specs.View.{NetView, ports_of}
use Rattle.cycle_under.specs.declared.found.UnderError.{UnderError}
use Rattle.cycle_under.specs.declared.found.UnderError.TheVariants as refused
use Rattle.restart.specs.Behind.{begun}
use Rattle.job_base.specs.sec_files.Loading.{Loads}
use Rattle.job_under.specs.Found.{SearchRefuses}
use Rattle.job_under.specs.ties.Found.{TiesRefuse}
use Rattle.job_after_under.specs.Answer.{CanBeJudgedBehind}
use Rattle.pair_texts.specs.design_rows.Designs as design
use Rattle.pair_texts.specs.design_rows.Small.{Small, small_late, small_early}
use Rattle.pair_texts.specs.design_rows.Texts.{late, early}
use Rattle.pair_texts.proofs.design_rows.Spelling.{Spells, PortsMatch, accepted, net_is_small, small_ports}
use Rattle.pair_texts.proofs.design_rows.SpelledTexts.{late_spells, early_spells}
use Rattle.premise_rows.specs.event_assume_rows.assume_rows.SameInputs.{same, same_design, small_same}
use Rattle.premise_rows.specs.job_rows.Replays.{both_and_none}
use Rattle.premise_rows.specs.search_premises.SearchedUnder.{turns_with_both, turns_with_either}
use Rattle.premise_rows.specs.start_premises.BegunUnder.{TextsCanBeginUnder, TextsCanBeTiedBehind}
use Rattle.premise_rows.proofs.block_premises.ByBlocks.{light}
use Rattle.premise_rows.proofs.block_premises.NetWeights.{circuit_weight}
use Rattle.premise_rows.proofs.event_assume_rows.assume_rows.Spelled.{same_spells}
use Rattle.premise_rows.proofs.job_rows.Replays.{Fitting, fits}
use Rattle.premise_rows.proofs.search_premises.FirstCycle.{text_light, begun_light}
use Rattle.premise_rows.proofs.search_premises.SearchedUnder.{ShareInputs, stands, ties_stand, turns_design, both_cover, either_cover, small_turns, both_spells, either_spells}
use Rattle.premise_rows.proofs.start_premises.Begun.{begun_ports, opened_of, none_opened, both_stimulus}

abbrev names : List (List ℕ)
names = codes "a" ∷ codes "b" ∷ []

module _ (x y : List ℕ) (m k : List BlifModel) (s t : Small) (p : Spells x m s) (q : Spells y k t) (ports : PortsMatch s t) (shared : ShareInputs s t) (fitting : Fitting s t (codes "a" ∷ codes "b" ∷ []))
    (none : opened_of s.inputs t.inputs s.latches (codes "a" ∷ codes "b" ∷ []) ≡ []) (v w : ℕ) (left_is : circuit_weight (circuit_of_design m None) ≡ v) (right_is : circuit_weight (circuit_of_design k None) ≡ w) (few_left : v ≤ 2000000)
    (few_right : w ≤ 2000000) where
  -- whatever is refused of no two nets that begin
  judged : (Refuses : NetView → NetView → NetView → UnderError → Type 0) →
      ((a b c : NetView) (left_known right_known : List (Option Bool)) → Loads x a → Loads y b → Loads same c → (e : UnderError) → e ≢ refused.NoMemory → Refuses (begun a left_known) (begun b right_known) c e → ⊥) → CanBeJudgedBehind Refuses x y same both_and_none
  judged Refuses never = record {
    left = accepted x m s p;
    right = accepted y k t q;
    assumed = accepted same same_design small_same same_spells;
    names = names;
    rows = (true ∷ true ∷ []) ∷ (false ∷ false ∷ []) ∷ [];
    stimulus = both_stimulus;
    fits = λ a b la lb. (
      fits names s t a b (net_is_small x m s p a la) (net_is_small y k t q b lb) fitting,
      none_opened names s t a b (net_is_small x m s p a la) (net_is_small y k t q b lb) none,
    );
    stands = λ a b c others more l r left_known right_known la lb lc is left right e other h.
        never a b c left_known right_known la lb lc e other (subst (λ (n : NetView). Refuses n (begun b right_known) c e) left.is (subst (λ (n : NetView). Refuses l n c e) right.is h));
  }

  module _ (a b : NetView) (left_known right_known : List (Option Bool)) (la : Loads x a) (lb : Loads y b) where
    abbrev l : NetView
    l = begun a left_known

    abbrev r : NetView
    r = begun b right_known

    own : ports_of l ≡ small_ports s (ports_of l).read
    own = begun_ports s a left_known (net_is_small x m s p a la)

    its : ports_of r ≡ small_ports t (ports_of r).read
    its = begun_ports t b right_known (net_is_small y k t q b lb)

    match_so : first_mismatch (ports_of l) (ports_of r) ≡ None
    match_so = ap₂ first_mismatch own its ∙ ports (ports_of l).read (ports_of r).read

    names_are : shared_inputs (ports_of l) (ports_of r) ≡ codes "a" ∷ codes "b" ∷ []
    names_are = ap₂ (λ (i j : Ports). shared_inputs i j) own its ∙ shared (ports_of l).read (ports_of r).read

  searched : (cycles conflicts : ℕ) → CanBeJudgedBehind (SearchRefuses cycles conflicts) x y same both_and_none
  searched cycles conflicts =
      judged (SearchRefuses cycles conflicts)
      (λ a b c left_known right_known la lb lc e other h.
      stands (begun a left_known) (begun b right_known) c (match_so a b left_known right_known la lb) (names_are a b left_known right_known la lb) v w (begun_light a left_known v (text_light x m s p v left_is a la))
      (begun_light b right_known w (text_light y k t q w right_is b lb)) few_left few_right lc cycles conflicts e other h)

  tied : (conflicts : ℕ) → CanBeJudgedBehind (TiesRefuse conflicts) x y same both_and_none
  tied conflicts =
      judged (TiesRefuse conflicts)
      (λ a b c left_known right_known la lb lc e other h.
      ties_stand (begun a left_known) (begun b right_known) c (match_so a b left_known right_known la lb) (names_are a b left_known right_known la lb) (light x m s p v left_is few_left a la) (light y k t q w right_is few_right b lb) lc conflicts
      e other h)

pub texts_can_begin_under : TextsCanBeginUnder
unfolding circuit_of_design walk
texts_can_begin_under cycles conflicts = (
  searched late early design.late design.early small_late small_early late_spells early_spells (λ own others. refl) (λ own others. refl) (record { known = refl; complete = λ own others. refl }) refl 7 8 refl refl (omega arith) (omega arith) cycles
      conflicts,
  searched turns_with_both turns_with_either (turns_design both_cover) (turns_design either_cover) small_turns small_turns both_spells either_spells (λ own others. refl) (λ own others. refl)
      (record { known = refl; complete = λ own others. refl }) refl 19 19 refl refl (omega arith) (omega arith) cycles conflicts,
)

pub texts_can_be_tied_behind : TextsCanBeTiedBehind
unfolding circuit_of_design walk
texts_can_be_tied_behind conflicts = (
  tied late early design.late design.early small_late small_early late_spells early_spells (λ own others. refl) (λ own others. refl) (record { known = refl; complete = λ own others. refl }) refl 7 8 refl refl (omega arith) (omega arith) conflicts,
  tied turns_with_both turns_with_either (turns_design both_cover) (turns_design either_cover) small_turns small_turns both_spells either_spells (λ own others. refl) (λ own others. refl) (record { known = refl; complete = λ own others. refl }) refl
      19 19 refl refl (omega arith) (omega arith) conflicts,
)
