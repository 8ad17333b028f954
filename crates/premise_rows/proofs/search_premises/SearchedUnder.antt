-- Texts of small designs can be searched over cycles, and compared by ties of signals, where both inputs are equal, whether latches lie on
-- cycles or not.
use Rattle.std.proofs.Common.{◌≡◌, ◌∙◌, ℕ, ◌≤◌, true, List, [], ◌∷◌, Some, None, refl, sym, ap₂, subst, arith}
use Rattle.std.specs.Prelude.{◌≢◌, codes, Err}
use Rattle.std.specs.List.{Contains}
use Rattle.circuit_theory.specs.declared.Side.TheVariants.{A, B}
use Rattle.circuit_theory.specs.Agree.{cut}
use Rattle.circuit_theory.specs.Cover.{Cover}
use Rattle.circuit_theory.specs.Interface.{Ports, first_mismatch, shared_inputs}
use Rattle.circuit_theory.specs.Sizes.{Weighed}
use Rattle.sec_base.specs.declared.basics.Init.TheVariants as init
use Rattle.blif_read.specs.blif_lines.Lines.{cut_line, going_on}
use Rattle.blif_read.specs.declared.design.BlifModel.{BlifModel}
use Rattle.blif_read.specs.declared.design.Statement.TheVariants.{Names, Latch as LatchLine}
use Rattle.blif_read.specs.Design.{Place, walk, circuit_of_design}
use Rattle.blif_read.specs.Fault.{fault_of}
use Rattle.blif_read.specs.Heads.{head_of}
use Rattle.flat_net.specs.View.{NetView, circuit_of, ports_of}
use Rattle.block_refine.specs.latch_blocks.Signals.{net_weight}
use Rattle.cycle_under.specs.declared.found.UnderError.{UnderError}
use Rattle.cycle_under.specs.declared.found.UnderError.TheVariants as refused
use Rattle.cycle_under.specs.Searches.{SearchesUnder}
use Rattle.job_base.specs.sec_files.Loading.{Loads}
use Rattle.job_under.specs.Answer.{CanBeJudgedBy}
use Rattle.job_under.specs.Found.{SearchRefuses}
use Rattle.job_under.specs.ties.Found.{TiesRefuse}
use Rattle.pair_texts.specs.design_rows.NoFault.{has_no_fault}
use Rattle.pair_texts.specs.design_rows.Designs.{one_model, same_cover}
use Rattle.pair_texts.specs.design_rows.Small.{Small, small_late, small_early}
use Rattle.pair_texts.proofs.design_rows.NoFaults.{tested_is_sound}
use Rattle.pair_texts.proofs.design_rows.Examples.{at_top, flat_rank}
use Rattle.pair_texts.proofs.design_rows.Tested.{PassesTests, tested_is_small}
use Rattle.pair_texts.proofs.design_rows.Spelling.{Spells, PortsMatch, accepted, net_is_small, small_ports, ports_are, match}
use Rattle.premise_rows.specs.block_premises.ResetPremises.{late_from_zero, early_from_zero}
use Rattle.premise_rows.specs.event_assume_rows.assume_rows.SameInputs.{same, same_design, small_same}
use Rattle.premise_rows.specs.search_premises.SearchedUnder.{turns_with_both, turns_with_either, TextsCanBeSearchedUnder, TextsCanBeTied}
use Rattle.premise_rows.proofs.block_premises.ByBlocks.{light}
use Rattle.premise_rows.proofs.block_premises.NetWeights.{circuit_weight}
use Rattle.premise_rows.proofs.block_premises.ResetPremises.{late_design, early_design, late_from_spells, early_from_spells}
use Rattle.premise_rows.proofs.event_assume_rows.assume_rows.Meeting.{ones_meet}
use Rattle.premise_rows.proofs.event_assume_rows.assume_rows.Shape.{no_fault}
use Rattle.premise_rows.proofs.event_assume_rows.assume_rows.Spelled.{same_spells}
use Rattle.premise_rows.proofs.search_premises.FirstCycle.{CycleIsLight, text_light, not_too_large}

-- a search of two light nets whose interfaces match, and that share a and b, refuses nothing
pub stands : (l r c : NetView) → first_mismatch (ports_of l) (ports_of r) ≡ None → shared_inputs (ports_of l) (ports_of r) ≡ codes "a" ∷ codes "b" ∷ [] → (v w : ℕ) → CycleIsLight (circuit_of l) v → CycleIsLight (circuit_of r) w →
    v ≤ 2000000 → w ≤ 2000000 → Loads same c → (cycles conflicts : ℕ) (e : UnderError) → e ≢ refused.NoMemory → SearchesUnder l r c cycles conflicts (Err e) → ⊥
stands l r c matches names_are v w left right few_left few_right lc cycles conflicts (refused.Interface name) other h = let e : Some name ≡ None = sym h ∙ matches in cc
stands l r c matches names_are v w left right few_left few_right lc cycles conflicts (refused.Assume f) other h =
    no_fault (shared_inputs (ports_of l) (ports_of r)) (λ name has. subst (λ (ns : List (List ℕ)). Contains ns name) (sym names_are) has) c (net_is_small same same_design small_same same_spells c lc) f h.1
stands l r c matches names_are v w left right few_left few_right lc cycles conflicts (refused.Vacuous by) other h = h.1.never (λ i. true) (ones_meet c lc (shared_inputs (ports_of l) (ports_of r)) h.1.assumed)
stands l r c matches names_are v w left right few_left few_right lc cycles conflicts (refused.TooLarge A) other h = not_too_large l v left few_left h.2
stands l r c matches names_are v w left right few_left few_right lc cycles conflicts (refused.TooLarge B) other h = not_too_large r w right few_right h.2
stands l r c matches names_are v w left right few_left few_right lc cycles conflicts refused.NoMemory other h = other refl

-- so does their comparison by ties
pub ties_stand : (l r c : NetView) → first_mismatch (ports_of l) (ports_of r) ≡ None → shared_inputs (ports_of l) (ports_of r) ≡ codes "a" ∷ codes "b" ∷ [] → net_weight l ≤ 2000000 → net_weight r ≤ 2000000 → Loads same c → (conflicts : ℕ) (e : UnderError) →
    e ≢ refused.NoMemory → TiesRefuse conflicts l r c e → ⊥
ties_stand l r c matches names_are few_left few_right lc conflicts (refused.Interface name) other h = let e : Some name ≡ None = sym h ∙ matches in cc
ties_stand l r c matches names_are few_left few_right lc conflicts (refused.Assume f) other h =
    no_fault (shared_inputs (ports_of l) (ports_of r)) (λ name has. subst (λ (ns : List (List ℕ)). Contains ns name) (sym names_are) has) c (net_is_small same same_design small_same same_spells c lc) f h.1
ties_stand l r c matches names_are few_left few_right lc conflicts (refused.Vacuous by) other h = h.1.never (λ i. true) (ones_meet c lc (shared_inputs (ports_of l) (ports_of r)) h.1.assumed)
ties_stand l r c matches names_are few_left few_right lc conflicts (refused.TooLarge A) other h = omega (arith, few_left, h.2)
ties_stand l r c matches names_are few_left few_right lc conflicts (refused.TooLarge B) other h = omega (arith, few_right, (h.2).1)
ties_stand l r c matches names_are few_left few_right lc conflicts refused.NoMemory other h = other refl

-- a and b are the inputs that both have
abbrev pub ShareInputs : Small → Small → Type 0
ShareInputs s t = (own others : List (List ℕ)) → shared_inputs (small_ports s own) (small_ports t others) ≡ codes "a" ∷ codes "b" ∷ []

module _ (x y : List ℕ) (m k : List BlifModel) (s t : Small) (p : Spells x m s) (q : Spells y k t) (ports : PortsMatch s t) (shared : ShareInputs s t) (v w : ℕ) (left_is : circuit_weight (circuit_of_design m None) ≡ v)
    (right_is : circuit_weight (circuit_of_design k None) ≡ w) (few_left : v ≤ 2000000) (few_right : w ≤ 2000000) where
  searchable : (cycles conflicts : ℕ) → CanBeJudgedBy (SearchRefuses cycles conflicts) x y same
  searchable cycles conflicts = record {
    left = accepted x m s p;
    right = accepted y k t q;
    assumed = accepted same same_design small_same same_spells;
    stands = λ a b c la lb lc e other h.
        let left = net_is_small x m s p a la in
        let right = net_is_small y k t q b lb in
        stands a b c (match s t a b left right ports) (ap₂ (λ (l r : Ports). shared_inputs l r) (ports_are s a left) (ports_are t b right) ∙ shared (ports_of a).read (ports_of b).read) v w
        (text_light x m s p v left_is a la) (text_light y k t q w right_is b lb) few_left few_right lc cycles conflicts e other h;
  }

  tied : (conflicts : ℕ) → CanBeJudgedBy (TiesRefuse conflicts) x y same
  tied conflicts = record {
    left = accepted x m s p;
    right = accepted y k t q;
    assumed = accepted same same_design small_same same_spells;
    stands = λ a b c la lb lc e other h.
        let left = net_is_small x m s p a la in
        let right = net_is_small y k t q b lb in
        ties_stand a b c (match s t a b left right ports) (ap₂ (λ (l r : Ports). shared_inputs l r) (ports_are s a left) (ports_are t b right) ∙ shared (ports_of a).read (ports_of b).read) (light x m s p v left_is few_left a la)
        (light y k t q w right_is few_right b lb) lc conflicts e other h;
  }

-- the latch turns where both fan-ins before it are 1, and where either is
abbrev pub both_cover : Cover
both_cover = record { width = 3; rows = codes "0-1" ∷ codes "-01" ∷ codes "110" ∷ []; on = true }

abbrev pub either_cover : Cover
either_cover = record { width = 3; rows = codes "001" ∷ codes "1-0" ∷ codes "-10" ∷ []; on = true }

abbrev pub turns_design : Cover → List BlifModel
turns_design cover = one_model (codes "a" ∷ codes "b" ∷ []) (codes "y" ∷ [])
    (Names 4 (codes "a" ∷ codes "b" ∷ codes "q" ∷ []) (codes "n") cover ∷ LatchLine 8 (codes "n") (codes "q") None None init.Zero ∷ Names 9 (codes "q" ∷ []) (codes "y") same_cover ∷ [])

-- with its latch cut open no cycle is left
abbrev pub small_turns : Small
small_turns = record { inputs = codes "a" ∷ codes "b" ∷ []; outputs = codes "y" ∷ []; latches = codes "q" ∷ []; removed = codes "q" ∷ []; weight = 19 }

abbrev spots : List (Weighed Place)
spots = at_top (codes "y") 0 3 ∷ at_top (codes "n") 0 13 ∷ at_top (codes "q") 0 1 ∷ at_top (codes "a") 0 1 ∷ at_top (codes "b") 0 1 ∷ []

abbrev order : List (List ℕ)
order = codes "n" ∷ codes "y" ∷ []

both_passes : PassesTests (turns_design both_cover) small_turns flat_rank spots
unfolding circuit_of_design walk cut
both_passes = record { no_clock = refl; inputs = refl; outputs = refl; latches = refl; ranked = refl; closed = refl; weight = refl }

either_passes : PassesTests (turns_design either_cover) small_turns flat_rank spots
unfolding circuit_of_design walk cut
either_passes = record { no_clock = refl; inputs = refl; outputs = refl; latches = refl; ranked = refl; closed = refl; weight = refl }

both_sound : has_no_fault order (turns_design both_cover) ≡ true
unfolding walk
both_sound = refl

either_sound : has_no_fault order (turns_design either_cover) ≡ true
unfolding walk
either_sound = refl

pub both_spells : Spells turns_with_both (turns_design both_cover) small_turns
unfolding fault_of head_of cut_line going_on
both_spells = record {
  short = omega arith;
  format = refl;
  faultless = refl;
  models_are = refl;
  small = (tested_is_sound order (turns_design both_cover) both_sound, tested_is_small (turns_design both_cover) small_turns flat_rank spots both_passes);
}

pub either_spells : Spells turns_with_either (turns_design either_cover) small_turns
unfolding fault_of head_of cut_line going_on
either_spells = record {
  short = omega arith;
  format = refl;
  faultless = refl;
  models_are = refl;
  small = (tested_is_sound order (turns_design either_cover) either_sound, tested_is_small (turns_design either_cover) small_turns flat_rank spots either_passes);
}

pub texts_can_be_searched_under : TextsCanBeSearchedUnder
unfolding circuit_of_design walk
texts_can_be_searched_under cycles conflicts = (
  searchable late_from_zero early_from_zero late_design early_design small_late small_early late_from_spells early_from_spells (λ own others. refl) (λ own others. refl) 7 8 refl refl (omega arith) (omega arith) cycles conflicts,
  searchable turns_with_both turns_with_either (turns_design both_cover) (turns_design either_cover) small_turns small_turns both_spells either_spells (λ own others. refl) (λ own others. refl) 19 19 refl refl (omega arith) (omega arith)
      cycles conflicts,
)

pub texts_can_be_tied : TextsCanBeTied
unfolding circuit_of_design walk
texts_can_be_tied conflicts = (
  tied late_from_zero early_from_zero late_design early_design small_late small_early late_from_spells early_from_spells (λ own others. refl) (λ own others. refl) 7 8 refl refl (omega arith) (omega arith) conflicts,
  tied turns_with_both turns_with_either (turns_design both_cover) (turns_design either_cover) small_turns small_turns both_spells either_spells (λ own others. refl) (λ own others. refl) 19 19 refl refl (omega arith) (omega arith)
      conflicts,
)
