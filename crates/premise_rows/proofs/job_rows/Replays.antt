-- Stimuli that fit two circuits.
use Rattle.std.specs.Prelude.{codes, ◌&&◌, ◌||◌, not}
use Rattle.std.specs.List.{Contains, find}
use Rattle.std.proofs.Common.{◌≡◌, ◌∙◌, ℕ, Bool, true, false, List, [], ◌∷◌, length, map, get_or, Option, None, refl, ap, ap₂, arith, inl, inr, ◌⊎◌}
use Rattle.std.proofs.lemmas.List.Elements.{All-cons, All-nil}
use Rattle.circuit_theory.specs.declared.Mode.{Mode}
use Rattle.circuit_theory.specs.declared.Mode.TheVariants.{Plain, Event}
use Rattle.circuit_theory.specs.Interface.{first_missing, shared_inputs}
use Rattle.circuit_theory.proofs.Lists.{Contains-cases}
use Rattle.base_tables.specs.Table.{is_among}
use Rattle.blif_read.specs.declared.design.BlifModel.{BlifModel}
use Rattle.flat_net.specs.declared.parts.LatchAt.{LatchAt}
use Rattle.flat_net.specs.View.{NetView, ports_of}
use Rattle.net_assembly.proofs.DistinctLists.{distinct_nil, distinct_cons}
use Rattle.witness_report.specs.Form.{IsName, IsForm}
use Rattle.witness_report.specs.Text.{stimulus_text}
use Rattle.circuit_report.specs.graph_report.Jobs.{AreLightIn}
use Rattle.job_base.specs.sec_files.Loading.{Loads}
use Rattle.job_base.specs.sec_files.Stimuli.{IsStimulus}
use Rattle.job_circuit.specs.replay.replay_header.Header.{FitsBoth}
use Rattle.job_circuit.specs.job_replay.Replays.{CanBeReplayed}
use Rattle.pair_texts.specs.design_rows.Designs as design
use Rattle.pair_texts.specs.design_rows.Small.{Small, IsSmall, small_late, small_early, small_two, small_toggle}
use Rattle.pair_texts.specs.design_rows.Texts.{late, early, toggle, two, three_cycles}
use Rattle.premise_rows.specs.job_rows.Enables.{held, held_design, two_cycles}
use Rattle.premise_rows.specs.job_rows.Replays.{both_and_none, opened_once, ReplaysMeetPremises}
use Rattle.pair_texts.proofs.design_rows.Spelling.{Spells, PortsMatch, accepted, net_is_small, match, small_ports, ports_are}
use Rattle.premise_rows.proofs.job_rows.Enables.{small_held, held_spells, held_is_light, toggle_is_light, stimulus as held_stimulus}
use Rattle.pair_texts.proofs.design_rows.SpelledTexts.{late_spells, early_spells, two_spells, toggle_spells}
use Rattle.premise_rows.proofs.job_rows.Stimuli.{stimulus as two_stimulus}

-- the first unknown name, by the names of inputs and of latches
abbrev unknown_of : List (List ℕ) → List (List ℕ) → List (List ℕ) → List (List ℕ) → List (List ℕ) → Option (List ℕ)
unknown_of left right left_latches right_latches header =
    find (λ name. not ((is_among left name || is_among right name) || (is_among left_latches name && is_among right_latches name))) header

-- no name of the header is unknown, and whatever is read, no shared input is missing
pub record Fitting (s t : Small) (header : List (List ℕ)) : Type 0 where
  pub known : unknown_of s.inputs t.inputs s.latches t.latches header ≡ None
  pub complete : (own others : List (List ℕ)) → first_missing (shared_inputs (small_ports s own) (small_ports t others)) header ≡ None

module _ (header : List (List ℕ)) (s t : Small) (a b : NetView) (left : IsSmall s a) (right : IsSmall t b) where
  abbrev left_latches : List (List ℕ)
  left_latches = map (λ (l : LatchAt). l.name) a.latches

  abbrev right_latches : List (List ℕ)
  right_latches = map (λ (l : LatchAt). l.name) b.latches

  pub fits : Fitting s t header → FitsBoth a b header
  fits f = record {
    known = ap (λ (names : List (List ℕ)). unknown_of names (ports_of b).inputs left_latches right_latches header) left.inputs
        ∙ (ap (λ (names : List (List ℕ)). unknown_of s.inputs names left_latches right_latches header) right.inputs
        ∙ (ap (λ (names : List (List ℕ)). unknown_of s.inputs t.inputs names right_latches header) left.counted
        ∙ (ap (λ (names : List (List ℕ)). unknown_of s.inputs t.inputs s.latches names header) right.counted ∙ f.known)));
    complete = ap₂ (λ p q. first_missing (shared_inputs p q) header) (ports_are s a left) (ports_are t b right) ∙ f.complete (ports_of a).read (ports_of b).read;
  }

-- two texts of small designs, on a stimulus that fits them
replayed : (mode : Mode) (x y z : List ℕ) (m k : List BlifModel) (s t : Small) → Spells x m s → Spells y k t → (names : List (List ℕ)) (rows : List (List Bool)) → IsStimulus z names rows → PortsMatch s t → Fitting s t names → ((a : NetView) → Loads x a → AreLightIn mode a) → ((b : NetView) → Loads y b → AreLightIn mode b) → CanBeReplayed mode x y z
replayed mode x y z m k s t p q names rows stimulus same fitting light_left light_right = record {
  left = accepted x m s p;
  right = accepted y k t q;
  names = names;
  rows = rows;
  stimulus = stimulus;
  match = λ a b la lb. match s t a b (net_is_small x m s p a la) (net_is_small y k t q b lb) same;
  fits = λ a b la lb. fits names s t a b (net_is_small x m s p a la) (net_is_small y k t q b lb) fitting;
  left_light = light_left;
  right_light = light_right;
}

-- a name of one byte that is neither a blank nor a line feed
pub one_byte : (c : ℕ) → (c ≡ 32 → ⊥) → (c ≡ 10 → ⊥) → IsName (c ∷ [])
one_byte c not_blank not_feed = record { some = omega arith; no_blank = λ h. not_blank (only 32 h); no_line_feed = λ h. not_feed (only 10 h) }
  where
    only : (k : ℕ) → Contains (c ∷ []) k → c ≡ k
    only k h = elim (Contains-cases c k [] h) [ inl same ↦ same | inr none ↦ absurd (let l = none.1 in omega (arith, l)) ]

a_apart : Contains (codes "b" ∷ []) (codes "a") → ⊥
a_apart h = by (Contains-cases (codes "b") (codes "a") [] h)
  where
    by : (codes "b" ≡ codes "a") ⊎ Contains {X = List ℕ} [] (codes "a") → ⊥
    by (inl same) = let e : 98 ≡ 97 = ap (λ (k : List ℕ). get_or k 0 0) same in omega (arith, e)
    by (inr none) = let l = none.1 in omega (arith, l)

pub both_form : IsForm both_and_none (codes "a" ∷ codes "b" ∷ []) ((true ∷ true ∷ []) ∷ (false ∷ false ∷ []) ∷ [])
unfolding stimulus_text
both_form = record {
  names_are = record {
    each = All-cons IsName (codes "a") (codes "b" ∷ []) (one_byte 97 (λ e. omega (arith, e)) (λ e. omega (arith, e)))
        (All-cons IsName (codes "b") [] (one_byte 98 (λ e. omega (arith, e)) (λ e. omega (arith, e))) (All-nil IsName));
    distinct = distinct_cons (codes "a") (codes "b" ∷ []) (distinct_cons (codes "b") [] distinct_nil (λ h. (let l = h.1 in omega (arith, l)))) a_apart;
  };
  rows_are = All-cons (λ (row : List Bool). length row ≡ 2) (true ∷ true ∷ []) ((false ∷ false ∷ []) ∷ []) refl
      (All-cons (λ (row : List Bool). length row ≡ 2) (false ∷ false ∷ []) [] refl (All-nil (λ (row : List Bool). length row ≡ 2)));
  spelled = inl refl;
}

opened_form : IsForm opened_once (codes "q" ∷ []) ((false ∷ []) ∷ [])
unfolding stimulus_text
opened_form = record {
  names_are = record {
    each = All-cons IsName (codes "q") [] (one_byte 113 (λ e. omega (arith, e)) (λ e. omega (arith, e))) (All-nil IsName);
    distinct = distinct_cons (codes "q") [] distinct_nil (λ h. (let l = h.1 in omega (arith, l)));
  };
  rows_are = All-cons (λ (row : List Bool). length row ≡ 1) (false ∷ []) [] refl (All-nil (λ (row : List Bool). length row ≡ 1));
  spelled = inl refl;
}

-- the latch that toggles beside itself, cut open
opened : (mode : Mode) → ((net : NetView) → Loads toggle net → AreLightIn mode net) → CanBeReplayed mode toggle toggle opened_once
opened mode light =
    replayed mode toggle toggle opened_once design.toggle design.toggle small_toggle small_toggle toggle_spells toggle_spells (codes "q" ∷ []) ((false ∷ []) ∷ [])
    (record { short = omega arith; form = opened_form }) (λ own others. refl) (record { known = refl; complete = λ own others. refl }) light light

pub replays_meet_premises : ReplaysMeetPremises
replays_meet_premises = record {
  two_beside_two =
      replayed Plain two two three_cycles design.two design.two small_two small_two two_spells two_spells (codes "a" ∷ []) ((true ∷ []) ∷ (false ∷ []) ∷ (false ∷ []) ∷ [])
      two_stimulus (λ own others. refl) (record { known = refl; complete = λ own others. refl }) (λ a la. tt) (λ b lb. tt);
  late_beside_early =
      replayed Plain late early both_and_none design.late design.early small_late small_early late_spells early_spells (codes "a" ∷ codes "b" ∷ []) ((true ∷ true ∷ []) ∷ (false ∷ false ∷ []) ∷ [])
      (record { short = omega arith; form = both_form }) (λ own others. refl) (record { known = refl; complete = λ own others. refl }) (λ a la. tt) (λ b lb. tt);
  cut_open = opened Plain (λ net l. tt);
  held_beside_held =
      replayed Event held held two_cycles held_design held_design small_held small_held held_spells held_spells (codes "d" ∷ codes "en" ∷ []) ((true ∷ true ∷ []) ∷ (false ∷ false ∷ []) ∷ [])
      held_stimulus (λ own others. refl) (record { known = refl; complete = λ own others. refl }) held_is_light held_is_light;
  not_unate_cut_open = opened Event toggle_is_light;
}
