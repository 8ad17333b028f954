-- Texts of small designs can be compared behind a reset sequence, whether latches lie on cycles or not.
use Rattle.std.specs.Prelude.{codes, ◌&&◌, ◌||◌, not}
use Rattle.std.specs.List.{filter}
use Rattle.std.proofs.Common.{◌≡◌, ◌∙◌, ℕ, ◌<◌, ◌≤◌, Bool, true, false, List, [], ◌∷◌, length, Option, None, refl, ap, ap₂, subst, arith, inl}
use Rattle.std.proofs.lemmas.List.Elements.{All-cons, All-nil}
use Rattle.circuit_theory.specs.declared.Side.{Side}
use Rattle.circuit_theory.specs.declared.Side.TheVariants.{A, B}
use Rattle.circuit_theory.specs.Agree.{cut}
use Rattle.circuit_theory.specs.Cover.{Cover}
use Rattle.circuit_theory.specs.Interface.{first_mismatch}
use Rattle.circuit_theory.specs.Sizes.{Weighed}
use Rattle.base_tables.specs.Table.{is_among}
use Rattle.sec_base.specs.declared.basics.Init.TheVariants as init
use Rattle.blif_read.specs.blif_lines.Lines.{cut_line, going_on}
use Rattle.blif_read.specs.declared.design.BlifModel.{BlifModel}
use Rattle.blif_read.specs.declared.design.Statement.TheVariants.{Names, Latch as LatchLine}
use Rattle.blif_read.specs.Design.{Place, walk, circuit_of_design}
use Rattle.blif_read.specs.Fault.{fault_of}
use Rattle.blif_read.specs.Heads.{head_of}
use Rattle.flat_net.specs.View.{NetView, ports_of}
use Rattle.net_assembly.proofs.DistinctLists.{distinct_nil, distinct_cons}
use Rattle.sec_setup.specs.ports.name_tables.Names.{input_names, latch_names}
use Rattle.block_refine.specs.latch_blocks.Signals.{net_weight}
use Rattle.witness_report.specs.Form.{IsName, IsForm}
use Rattle.witness_report.specs.Text.{stimulus_text}
use Rattle.restart.specs.Behind.{begun}
use Rattle.job_base.specs.sec_files.Loading.{Loads}
use Rattle.job_base.specs.sec_files.Stimuli.{IsStimulus}
use Rattle.job_circuit.specs.replay.replay_header.Header.{opened}
use Rattle.job_after.specs.Answer.{IsWide, CanBeBegun}
use Rattle.job_known.specs.Answer.{AreBeside, IsFor}
use Rattle.job_signals.specs.job_begun.Found.{IsHeavy}
use Rattle.pair_texts.specs.design_rows.NoFault.{has_no_fault}
use Rattle.pair_texts.specs.design_rows.Designs.{one_model, same_cover, not_cover}
use Rattle.pair_texts.specs.design_rows.Designs as design
use Rattle.pair_texts.specs.design_rows.Small.{Small, IsSmall, small_late, small_early}
use Rattle.pair_texts.specs.design_rows.Texts.{late, early}
use Rattle.pair_texts.proofs.design_rows.NoFaults.{tested_is_sound}
use Rattle.pair_texts.proofs.design_rows.Examples.{at_top, flat_rank}
use Rattle.pair_texts.proofs.design_rows.Tested.{PassesTests, tested_is_small}
use Rattle.pair_texts.proofs.design_rows.Spelling.{Spells, PortsMatch, accepted, net_is_small, match, small_ports}
use Rattle.pair_texts.proofs.check_texts.Comparing.{broken}
use Rattle.pair_texts.proofs.design_rows.SpelledTexts.{late_spells, early_spells}
use Rattle.premise_rows.specs.job_rows.Replays.{both_and_none}
use Rattle.premise_rows.specs.start_premises.Begun.{toggles, toggles_turned, one_reset, TextsCanBegin, TextsCanBeReplayed}
use Rattle.premise_rows.proofs.block_premises.ByBlocks.{light}
use Rattle.premise_rows.proofs.block_premises.NetWeights.{circuit_weight}
use Rattle.premise_rows.proofs.job_rows.Replays.{Fitting, fits, one_byte, both_form}
use Rattle.premise_rows.proofs.search_premises.FirstCycle.{text_light, begun_light, not_too_large}

-- neither fan-in
abbrev neither_cover : Cover
neither_cover = record { width = 2; rows = codes "00" ∷ []; on = true }

-- the first fan-in, or the complement of the second
abbrev or_not_cover : Cover
or_not_cover = record { width = 2; rows = codes "1-" ∷ codes "-0" ∷ []; on = true }

abbrev toggles_design : List BlifModel
toggles_design = one_model (codes "r" ∷ []) (codes "y" ∷ [])
    (Names 4 (codes "r" ∷ codes "q" ∷ []) (codes "n") neither_cover ∷ LatchLine 6 (codes "n") (codes "q") None None init.Unknown ∷ Names 7 (codes "q" ∷ []) (codes "y") same_cover ∷ [])

abbrev turned_design : List BlifModel
turned_design = one_model (codes "r" ∷ []) (codes "y" ∷ [])
    (Names 4 (codes "r" ∷ codes "w" ∷ []) (codes "n") or_not_cover ∷ LatchLine 7 (codes "n") (codes "w") None None init.Unknown ∷ Names 8 (codes "w" ∷ []) (codes "y") not_cover ∷ [])

-- with its latch cut open no cycle is left
abbrev small_of : List ℕ → ℕ → Small
small_of latch weight = record { inputs = codes "r" ∷ []; outputs = codes "y" ∷ []; latches = latch ∷ []; removed = latch ∷ []; weight = weight }

abbrev spots : List ℕ → ℕ → List (Weighed Place)
spots latch weight = at_top (codes "y") 0 3 ∷ at_top (codes "n") 0 weight ∷ at_top latch 0 1 ∷ at_top (codes "r") 0 1 ∷ []

toggles_pass : PassesTests toggles_design (small_of (codes "q") 9) flat_rank (spots (codes "q") 4)
unfolding circuit_of_design walk cut
toggles_pass = record { no_clock = refl; inputs = refl; outputs = refl; latches = refl; ranked = refl; closed = refl; weight = refl }

turned_passes : PassesTests turned_design (small_of (codes "w") 12) flat_rank (spots (codes "w") 7)
unfolding circuit_of_design walk cut
turned_passes = record { no_clock = refl; inputs = refl; outputs = refl; latches = refl; ranked = refl; closed = refl; weight = refl }

toggles_sound : has_no_fault (codes "n" ∷ codes "y" ∷ []) toggles_design ≡ true
unfolding walk
toggles_sound = refl

turned_sound : has_no_fault (codes "n" ∷ codes "y" ∷ []) turned_design ≡ true
unfolding walk
turned_sound = refl

toggles_spells : Spells toggles toggles_design (small_of (codes "q") 9)
unfolding fault_of head_of cut_line going_on
toggles_spells = record {
  short = omega arith;
  format = refl;
  faultless = refl;
  models_are = refl;
  small = (tested_is_sound (codes "n" ∷ codes "y" ∷ []) toggles_design toggles_sound, tested_is_small toggles_design (small_of (codes "q") 9) flat_rank (spots (codes "q") 4) toggles_pass);
}

turned_spells : Spells toggles_turned turned_design (small_of (codes "w") 12)
unfolding fault_of head_of cut_line going_on
turned_spells = record {
  short = omega arith;
  format = refl;
  faultless = refl;
  models_are = refl;
  small = (tested_is_sound (codes "n" ∷ codes "y" ∷ []) turned_design turned_sound, tested_is_small turned_design (small_of (codes "w") 12) flat_rank (spots (codes "w") 7) turned_passes);
}

-- the ports of the net that begins
pub begun_ports : (s : Small) (net : NetView) (known : List (Option Bool)) → IsSmall s net → ports_of (begun net known) ≡ small_ports s (ports_of (begun net known)).read
begun_ports s net known own =
    ap₂ (λ (is os : List (List ℕ)). record { inputs = is; outputs = os; clock = net.clock; read = (ports_of (begun net known)).read }) own.inputs own.outputs
    ∙ ap (λ (c : Option (List ℕ)). record { inputs = s.inputs; outputs = s.outputs; clock = c; read = (ports_of (begun net known)).read }) own.unclocked

-- the latches that a header opens, by the names of inputs and of latches
abbrev pub opened_of : List (List ℕ) → List (List ℕ) → List (List ℕ) → List (List ℕ) → List (List ℕ)
opened_of left right latches header = filter (λ name. is_among header name && not (is_among left name || is_among right name)) latches

pub none_opened : (header : List (List ℕ)) (s t : Small) (a b : NetView) → IsSmall s a → IsSmall t b → opened_of s.inputs t.inputs s.latches header ≡ [] → opened a b header ≡ []
none_opened header s t a b left right none =
    ap (λ (names : List (List ℕ)). opened_of names (input_names b) (latch_names a) header) left.inputs
    ∙ (ap (λ (names : List (List ℕ)). opened_of s.inputs names (latch_names a) header) right.inputs ∙ (ap (λ (names : List (List ℕ)). opened_of s.inputs t.inputs names header) left.counted ∙ none))

-- neither circuit is too large, whatever is known of its latches
abbrev NoneTooLarge : (NetView → NetView → Side → Type 0) → List ℕ → List ℕ → Type 0
NoneTooLarge TooLarge x y = (a b : NetView) (left_known right_known : List (Option Bool)) → Loads x a → Loads y b → (side : Side) → TooLarge (begun a left_known) (begun b right_known) side → ⊥

-- two texts of small designs behind a stimulus that fits them
module _ (x y z : List ℕ) (m k : List BlifModel) (s t : Small) (p : Spells x m s) (q : Spells y k t) (names : List (List ℕ)) (rows : List (List Bool)) (stimulus : IsStimulus z names rows) (same : PortsMatch s t) (fitting : Fitting s t names) (none : opened_of s.inputs t.inputs s.latches names ≡ []) where
  begins : (TooLarge : NetView → NetView → Side → Type 0) → NoneTooLarge TooLarge x y → CanBeBegun TooLarge x y z
  begins TooLarge small = record {
    left = accepted x m s p;
    right = accepted y k t q;
    names = names;
    rows = rows;
    stimulus = stimulus;
    fits = λ a b la lb. (
      fits names s t a b (net_is_small x m s p a la) (net_is_small y k t q b lb) fitting,
      none_opened names s t a b (net_is_small x m s p a la) (net_is_small y k t q b lb) none,
    );
    match = λ a b others more l r left_known right_known la lb is left right.
        ap₂ (λ (u v : NetView). first_mismatch (ports_of u) (ports_of v)) left.is right.is
        ∙ (ap₂ first_mismatch (begun_ports s a left_known (net_is_small x m s p a la)) (begun_ports t b right_known (net_is_small y k t q b lb))
        ∙ same (ports_of (begun a left_known)).read (ports_of (begun b right_known)).read);
    light = λ a b others more l r left_known right_known la lb is left right side over.
        small a b left_known right_known la lb side (subst (λ (u : NetView). TooLarge u (begun b right_known) side) left.is (subst (λ (v : NetView). TooLarge l v side) right.is over));
  }

  module _ (v w : ℕ) (left_is : circuit_weight (circuit_of_design m None) ≡ v) (right_is : circuit_weight (circuit_of_design k None) ≡ w) (few_left : v ≤ 2000000) (few_right : w ≤ 2000000) where
    none_wide : NoneTooLarge IsWide x y
    none_wide a b left_known right_known la lb A over = not_too_large (begun a left_known) v (begun_light a left_known v (text_light x m s p v left_is a la)) few_left over
    none_wide a b left_known right_known la lb B over = not_too_large (begun b right_known) w (begun_light b right_known w (text_light y k t q w right_is b lb)) few_right over

    -- initial values count nothing
    none_heavy : NoneTooLarge IsHeavy x y
    none_heavy a b left_known right_known la lb A over = let h = light x m s p v left_is few_left a la in let big : 2000000 < net_weight a = over in omega (arith, h, big)
    none_heavy a b left_known right_known la lb B over = let h = light y k t q w right_is few_right b lb in let big : 2000000 < net_weight b = over.1 in omega (arith, h, big)

    searched : CanBeBegun IsWide x y z
    searched = begins IsWide none_wide

    tied : CanBeBegun IsHeavy x y z
    tied = begins IsHeavy none_heavy

reset_form : IsForm one_reset (codes "r" ∷ []) ((true ∷ []) ∷ [])
unfolding stimulus_text
reset_form = record {
  names_are = record {
    each = All-cons IsName (codes "r") [] (one_byte 114 (λ e. omega (arith, e)) (λ e. omega (arith, e))) (All-nil IsName);
    distinct = distinct_cons (codes "r") [] distinct_nil (λ h. (let l = h.1 in omega (arith, l)));
  };
  rows_are = All-cons (λ (row : List Bool). length row ≡ 1) (true ∷ []) [] refl (All-nil (λ (row : List Bool). length row ≡ 1));
  spelled = inl refl;
}

reset_stimulus : IsStimulus one_reset (codes "r" ∷ []) ((true ∷ []) ∷ [])
reset_stimulus = record { short = omega arith; form = reset_form }

pub both_stimulus : IsStimulus both_and_none (codes "a" ∷ codes "b" ∷ []) ((true ∷ true ∷ []) ∷ (false ∷ false ∷ []) ∷ [])
both_stimulus = record { short = omega arith; form = both_form }

retimed : CanBeBegun IsWide late early both_and_none
unfolding circuit_of_design walk
retimed =
    searched late early both_and_none design.late design.early small_late small_early late_spells early_spells (codes "a" ∷ codes "b" ∷ []) ((true ∷ true ∷ []) ∷ (false ∷ false ∷ []) ∷ []) both_stimulus (λ own others. refl)
    (record { known = refl; complete = λ own others. refl }) refl 7 8 refl refl (omega arith) (omega arith)

pub texts_can_begin : TextsCanBegin
unfolding circuit_of_design walk
texts_can_begin = record {
  toggles_searched =
      searched toggles toggles_turned one_reset toggles_design turned_design (small_of (codes "q") 9) (small_of (codes "w") 12) toggles_spells turned_spells (codes "r" ∷ []) ((true ∷ []) ∷ []) reset_stimulus (λ own others. refl)
      (record { known = refl; complete = λ own others. refl }) refl 9 12 refl refl (omega arith) (omega arith);
  toggles_tied =
      tied toggles toggles_turned one_reset toggles_design turned_design (small_of (codes "q") 9) (small_of (codes "w") 12) toggles_spells turned_spells (codes "r" ∷ []) ((true ∷ []) ∷ []) reset_stimulus (λ own others. refl)
      (record { known = refl; complete = λ own others. refl }) refl 9 12 refl refl (omega arith) (omega arith);
  retimed_searched = retimed;
  retimed_wholly = (
    retimed,
    λ a b la lb. broken small_late small_early a b (net_is_small late design.late small_late late_spells a la) (net_is_small early design.early small_early early_spells b lb) refl refl false,
  );
  retimed_tied =
      tied late early both_and_none design.late design.early small_late small_early late_spells early_spells (codes "a" ∷ codes "b" ∷ []) ((true ∷ true ∷ []) ∷ (false ∷ false ∷ []) ∷ []) both_stimulus (λ own others. refl)
      (record { known = refl; complete = λ own others. refl }) refl 7 8 refl refl (omega arith) (omega arith);
}

-- a stimulus behind whose rows two circuits can begin is one that they can be run over
stimulus_for : (x y z : List ℕ) → CanBeBegun IsWide x y z → IsFor x y z
stimulus_for x y z can = record { names = can.names; rows = can.rows; stimulus = can.stimulus; fits = can.fits }

beside : (x y : List ℕ) (m k : List BlifModel) (s t : Small) → Spells x m s → Spells y k t → PortsMatch s t → AreBeside x y
beside x y m k s t p q same = record {
  left = accepted x m s p;
  right = accepted y k t q;
  match = λ a b la lb. match s t a b (net_is_small x m s p a la) (net_is_small y k t q b lb) same;
}

toggles_beside : AreBeside toggles toggles_turned
toggles_beside = beside toggles toggles_turned toggles_design turned_design (small_of (codes "q") 9) (small_of (codes "w") 12) toggles_spells turned_spells (λ own others. refl)

retimed_beside : AreBeside late early
retimed_beside = beside late early design.late design.early small_late small_early late_spells early_spells (λ own others. refl)

pub texts_can_be_replayed : TextsCanBeReplayed
texts_can_be_replayed =
    let reset = stimulus_for toggles toggles_turned one_reset texts_can_begin.toggles_searched in
    let both = stimulus_for late early both_and_none texts_can_begin.retimed_searched in
    record {
      toggles_from_reset = (toggles_beside, reset);
      toggles_behind = (toggles_beside, reset, reset);
      retimed_behind = (retimed_beside, both, both);
    }
