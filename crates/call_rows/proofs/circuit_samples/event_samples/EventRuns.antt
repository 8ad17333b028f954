-- Runs in which both enables are 1 settle the outputs in cycle 1: the events that they reach lie in cycle 0, without and with t cut open.
use Rattle.std.proofs.Common.{◌≡◌, ℕ, Bool, true, false, List, [], ◌∷◌, refl, sym, ◌∙◌, subst, arith}
use Rattle.std.specs.Prelude.{codes}
use Rattle.circuit_theory.specs.declared.Mode.TheVariants.{Event}
use Rattle.circuit_theory.specs.Circuit.{Circuit, IsInput, IsLatch, Reads, Reaches, Meets}
use Rattle.circuit_theory.specs.Run.{IsRun, IsEnabled, Loads, CanPut, Marked}
use Rattle.circuit_theory.specs.Net.{IsNet}
use Rattle.circuit_theory.specs.Joined.{Either, Left, Right, beside}
use Rattle.circuit_theory.specs.Agree.{cut, AreAlike, IsSettled}
use Rattle.circuit_theory.specs.Frame.{ConeLatches, EventCycle, IsNumberedRun, IsNode, HasEvents}
use Rattle.circuit_theory.proofs.Inputs.{beside_is_input}
use Rattle.circuit_laws.proofs.LawProofs.{runs_exist}
use Rattle.circuit_laws.proofs.Onward.{cut_run}
use Rattle.circuit_laws.proofs.Joined.{run_joined}
use Rattle.circuit_laws.proofs.JoinedParts.{left_part, right_part, joined_same, joined_can_put, meets_both}
use Rattle.circuit_laws.proofs.event_laws.SettledEvents.{settled_has_events_in_nets}
use Rattle.call_rows.specs.circuit_samples.event_samples.Samples.{before, behind, exposed, load_cover, load_not_cover, same_cover, not_cover, numbers, class_of}
use Rattle.call_rows.specs.circuit_samples.event_samples.Events.{ReachOneNode, HasSettledPair, HasExposedSettledPair}
use Rattle.call_rows.proofs.circuit_samples.Each.{each_at}
use Rattle.call_rows.proofs.circuit_samples.event_samples.HoldCells.{IsHold, hold_marked, hold_loads}
use Rattle.call_rows.proofs.circuit_samples.event_samples.Opened.{holds_load, loads_load, holds_not, loads_not}
use Rattle.call_rows.proofs.circuit_samples.event_samples.TwoClasses.{pair, left_side, right_side, whole, side, left_net, right_net, numbered, single, number_once, classes, depths, left_q, left_r, right_q, right_r, left_q_latch, left_r_latch, right_q_latch, right_r_latch, left_y_reads, left_z_reads}
use Rattle.call_rows.proofs.circuit_samples.event_samples.ExposedPair.{left_held_net, right_held_net, held_z_marked, cut_left, cut_right, at_cut}

-- a run of two cycles in which each input is 1
abbrev AllOn : Circuit ℕ → Type 0
AllOn c = (run : ℕ → ℕ → Bool) × IsRun c 2 run × ((t p : ℕ) → IsInput c p → run t p ≡ true)

all_on : (c : Circuit ℕ) (size : ℕ) → IsNet c size → AllOn c
all_on c size net = let r = runs_exist c size 2 (λ p. false) (λ t p. true) net in (r.0, r.1, r.2)

abbrev On : Either ℕ ℕ → Type 0
On = IsEnabled whole

can : CanPut whole
can = joined_can_put left_side right_side 11 11 left_net right_net

right_z_reads : Reaches whole (Right 9) (Right 3)
right_z_reads = Reaches.there (Reads.by_gate {fanins = Right 3 ∷ []} (10, omega arith, refl) (0, omega arith, refl)) Reaches.here

right_y_reads : Reaches whole (Right 10) (Right 3)
right_y_reads = Reaches.there (Reads.by_gate {fanins = Right 9 ∷ Right 5 ∷ Right 7 ∷ []} (11, omega arith, refl) (0, omega arith, refl)) right_z_reads

-- in cycle 1, a latch of class 1 that is reached has its last load in cycle 0
at_class_one : (run : ℕ → Either ℕ ℕ → Bool) (p u next : Either ℕ ℕ) → Reaches whole p u → IsLatch whole (codes "q") u next → class_of u ≡ 1 → Loads whole (run 0) u next →
    EventCycle side On (ConeLatches whole p) run 1 (1 ∷ []) 0
at_class_one run p u next reads latch class loads =
    (1, refl, omega arith, (u, codes "q", next, (codes "q", next, latch, reads), class, latch, loads), λ later v name to l h. absurd (omega arith))

module _ (l r : ℕ → ℕ → Bool) (left_run : IsRun left_side 2 l) (right_run : IsRun right_side 2 r) (left_on : l 0 0 ≡ true) (right_on : r 0 0 ≡ true) where
  abbrev both : ℕ → Either ℕ ℕ → Bool
  both t = beside (l t) (r t)

  meets : Meets whole (both 0)
  meets = meets_both left_side right_side (l 0) (r 0) (left_run.meets 0 (omega arith)) (right_run.meets 0 (omega arith))

  pub left_cycle : (p : Either ℕ ℕ) → Reaches whole p (Left 3) → EventCycle side On (ConeLatches whole p) both 1 (1 ∷ []) 0
  left_cycle p reads =
      at_class_one both p (Left 3) (Left 4) reads left_q_latch refl (hold_loads side joined_same single number_once (codes "q") (Left 3) (Left 4) left_q_latch left_q can (both 0) meets left_on)

  pub right_cycle : (p : Either ℕ ℕ) → Reaches whole p (Right 3) → EventCycle side On (ConeLatches whole p) both 1 (1 ∷ []) 0
  right_cycle p reads =
      at_class_one both p (Right 3) (Right 4) reads right_q_latch refl (hold_loads side joined_same single number_once (codes "q") (Right 3) (Right 4) right_q_latch right_q can (both 0) meets right_on)

-- the opened circuits side by side
left_all : AllOn left_side
left_all = all_on left_side 11 left_net

right_all : AllOn right_side
right_all = all_on right_side 11 right_net

run : ℕ → Either ℕ ℕ → Bool
run t = beside (left_all.0 t) (right_all.0 t)

is_run : IsRun whole 2 run
unfolding run
is_run = run_joined left_side right_side 2 left_all.0 right_all.0 left_all.1 right_all.1

input_on : (t : ℕ) (p : Either ℕ ℕ) → IsInput whole p → run t p ≡ true
unfolding run
input_on t (Left p) i = left_all.2 t p (i.0, (left_part left_side right_side).input_from i.0 p i.1)
input_on t (Right q) i = right_all.2 t q (i.0, (right_part left_side right_side).input_from i.0 q i.1)

numbered_run : IsNumberedRun side 2 run
numbered_run = record {
  is_run = is_run;
  inputs = λ t x y i h k l. input_on t x (beside_is_input whole.inputs side.order x i k) ∙ sym (input_on t y (beside_is_input whole.inputs side.order y i l));
}

abbrev M : Either ℕ ℕ → Type 0
M = Marked whole On run 1

hold_at : (name : List ℕ) (u next : Either ℕ ℕ) → IsLatch whole name u next → (h : IsHold side u next) → M u
hold_at name u next latch h =
    hold_marked side joined_same single number_once name u next latch h can 2 run is_run 0 (omega arith) (input_on 0 h.e (beside_is_input whole.inputs side.order h.e h.i h.e_is))

left_input : IsInput whole (Left 7)
left_input = (codes "t", (3, omega arith, refl))

right_input : IsInput whole (Right 7)
right_input = (codes "t", (7, omega arith, refl))

left_y_settled : IsSettled Event whole run 1 (Left 10)
left_y_settled =
    Marked.gate {fanins = Left 9 ∷ Left 5 ∷ Left 7 ∷ []} (4, omega arith, refl)
    (λ p k. each_at M (Left 9 ∷ Left 5 ∷ Left 7 ∷ []) (z, (hold_at (codes "r") (Left 5) (Left 6) left_r_latch left_r, (Marked.input left_input, tt))) p k)
  where
    z : M (Left 9)
    z = Marked.gate {fanins = Left 3 ∷ []} (3, omega arith, refl) (λ p k. each_at M (Left 3 ∷ []) (hold_at (codes "q") (Left 3) (Left 4) left_q_latch left_q, tt) p k)

right_y_settled : IsSettled Event whole run 1 (Right 10)
right_y_settled =
    Marked.gate {fanins = Right 9 ∷ Right 5 ∷ Right 7 ∷ []} (11, omega arith, refl)
    (λ p k. each_at M (Right 9 ∷ Right 5 ∷ Right 7 ∷ []) (z, (hold_at (codes "r") (Right 5) (Right 6) right_r_latch right_r, (Marked.input right_input, tt))) p k)
  where
    z : M (Right 9)
    z = Marked.gate {fanins = Right 3 ∷ []} (10, omega arith, refl) (λ p k. each_at M (Right 3 ∷ []) (hold_at (codes "q") (Right 3) (Right 4) right_q_latch right_q, tt) p k)

left_y_cycle : EventCycle side On (ConeLatches whole (Left 10)) run 1 (1 ∷ []) 0
unfolding run
left_y_cycle = left_cycle left_all.0 right_all.0 left_all.1 right_all.1 (input_on 0 (Left 0) (codes "e", (0, omega arith, refl))) (input_on 0 (Right 0) (codes "e", (4, omega arith, refl))) (Left 10) left_y_reads

right_y_cycle : EventCycle side On (ConeLatches whole (Right 10)) run 1 (1 ∷ []) 0
unfolding run
right_y_cycle = right_cycle left_all.0 right_all.0 left_all.1 right_all.1 (input_on 0 (Left 0) (codes "e", (0, omega arith, refl))) (input_on 0 (Right 0) (codes "e", (4, omega arith, refl))) (Right 10) right_y_reads

left_y_node : IsNode side On (ConeLatches whole (Left 10)) (1 ∷ [])
left_y_node = (Left 3, (codes "q", Left 4, left_q_latch, left_y_reads), refl)

right_y_node : IsNode side On (ConeLatches whole (Right 10)) (1 ∷ [])
right_y_node = (Right 3, (codes "q", Right 4, right_q_latch, right_y_reads), refl)

left_y_events : HasEvents side On run 1 (Left 10)
left_y_events = settled_has_events_in_nets left_side right_side 11 11 numbers numbers class_of left_net right_net numbered refl refl classes depths 2 run numbered_run 1 (Left 10) (omega arith) left_y_settled

-- the circuits themselves, in which t toggles
before_all : AllOn before
before_all = all_on before 11 (left_held_net pair)

behind_all : AllOn behind
behind_all = all_on behind 11 (right_held_net pair)

alike : AreAlike before behind 2 before_all.0 behind_all.0
alike = record { left_run = before_all.1; right_run = behind_all.1; equal_inputs = λ name p q l r t h. before_all.2 t p (name, l) ∙ sym (behind_all.2 t q (name, r)) }

before_e : before_all.0 0 0 ≡ true
before_e = before_all.2 0 0 (codes "e", (0, omega arith, refl))

behind_e : behind_all.0 0 0 ≡ true
behind_e = behind_all.2 0 0 (codes "e", (0, omega arith, refl))

before_z_settled : IsSettled Event before before_all.0 1 9
before_z_settled = held_z_marked load_not_cover same_cover holds_not loads_not 2 before_all.0 before_all.1 0 (omega arith) before_e

behind_z_settled : IsSettled Event behind behind_all.0 1 9
behind_z_settled = held_z_marked load_cover not_cover holds_load loads_load 2 behind_all.0 behind_all.1 0 (omega arith) behind_e

one_node : ReachOneNode left_side right_side before_all.0 behind_all.0 9 9
one_node = record {
  left_node = (Left 3, (codes "q", Left 4, left_q_latch, left_z_reads), refl);
  right_node = (Right 3, (codes "q", Right 4, right_q_latch, right_z_reads), refl);
  left_cycle = left_cycle before_all.0 behind_all.0 left_run right_run before_e behind_e (Left 9) left_z_reads;
  right_cycle = right_cycle before_all.0 behind_all.0 left_run right_run before_e behind_e (Right 9) right_z_reads;
}
  where
    left_run : IsRun left_side 2 before_all.0
    left_run = subst (λ c. IsRun c 2 before_all.0) (cut_left pair) (cut_run exposed before 2 2 before_all.0 (omega arith) before_all.1)

    right_run : IsRun right_side 2 behind_all.0
    right_run = subst (λ c. IsRun c 2 behind_all.0) (cut_right pair) (cut_run exposed behind 2 2 behind_all.0 (omega arith) behind_all.1)

cut_one_node : ReachOneNode (cut exposed before) (cut exposed behind) before_all.0 behind_all.0 9 9
cut_one_node = at_cut pair (λ a b. ReachOneNode a b before_all.0 behind_all.0 9 9) one_node

pub exposed_settled_pair : HasExposedSettledPair
exposed_settled_pair = record { left = before_all.0; right = behind_all.0; alike = alike; left_settled = before_z_settled; right_settled = behind_z_settled; nodes = cut_one_node }

pub settled_pair : HasSettledPair
settled_pair = record {
  run = run;
  numbered = numbered_run;
  left_settled = left_y_settled;
  right_settled = right_y_settled;
  left_node = left_y_node;
  right_node = right_y_node;
  left_cycle = left_y_cycle;
  right_cycle = right_y_cycle;
  events = left_y_events;
}
