-- One circuit of a replay: what its cut net's run shows holds of every run of the cut circuit over the stimulus.
use Rattle.std.proofs.Common.{◌≡◌, ◌↔◌, ℕ, Bool, true, false, List, map, length, slice_get, Option, Some, sym, subst}
use Rattle.std.specs.List.{All, Contains}
use Rattle.circuit_theory.specs.declared.Mode.{Mode}
use Rattle.circuit_theory.specs.Circuit.{IsLatch}
use Rattle.circuit_theory.specs.Run.{Marked}
use Rattle.circuit_theory.specs.Net.{HasDistinctNames}
use Rattle.circuit_theory.specs.Agree.{cut, EnabledIn, IsSettled}
use Rattle.flat_net.specs.declared.parts.Port.{Port}
use Rattle.flat_net.specs.Cut.{IsCutCircuit, exposed_names}
use Rattle.flat_net.specs.Sound.{IsSound}
use Rattle.flat_net.specs.View.{NetView, circuit_of, is_read}
use Rattle.signal_graph.specs.inner_cone.latch_cone.Cones.{IsMarkedBy, MarksEnabled}
use Rattle.cycle_sim.specs.Runs.{IsRunFrom}
use Rattle.cycle_sim.specs.View.{IsMark}
use Rattle.cycle_sim.specs.pair_runs.Feeding.{AreColumns, reordered}
use Rattle.cycle_sim.specs.pair_runs.Feeds.{zeros}
use Rattle.job_circuit.specs.replay.cut_sides.Opening.{IsCutSide}
use Rattle.job_circuit.specs.replay.Replay.{IsReplayRun}
use Rattle.job_circuit.proofs.replay.EnabledBits.{enabled_marked, marked_enabled}
use Rattle.job_circuit.proofs.replay.FreeInputs.{is_free, unread, freed, freed_run, output_not_free}
use Rattle.job_circuit.proofs.replay.FreeMarks.{AreUnread, AreOne, one_back, one_equation, mixed_is, marks_free, unread_back}

pub one_cut : (names : List (List ℕ)) (n m : NetView) → IsCutCircuit names (circuit_of n) (circuit_of m) → AreOne (cut names (circuit_of n)) (circuit_of m)
one_cut names n m is = record { inputs = sym is.inputs; equations = sym is.equations }

module _ (header names : List (List ℕ)) (n m : NetView) (sound_n : IsSound n) (sound_m : IsSound m) (distinct : HasDistinctNames (circuit_of n)) (enabled bits : List Bool) (side : IsCutSide n enabled names m bits)
    (in_header : (name : List ℕ) → Contains names name → Contains header name)
    (unread_inputs : (k : ℕ) (port : Port) → slice_get n.inputs k ≡ Some port → (Contains header port.name → ⊥) → is_read n port.signal ≡ false)
    (columns : List (Option ℕ)) (are : AreColumns m header columns) (rows : List (List Bool)) (wide : All (λ row. length row ≡ length header) rows)
    (run : ℕ → ℕ → Bool) (over : IsReplayRun (cut names (circuit_of n)) header rows run) where
  abbrev opened_in : (name : List ℕ) → Contains (exposed_names n side.positions) name → Contains header name
  opened_in name h = in_header name (subst (λ (ns : List (List ℕ)). Contains ns name) side.named.named h)

  abbrev one : AreOne (cut names (circuit_of n)) (circuit_of m)
  one = one_cut names n m side.circuit

  abbrev none_read : AreUnread (circuit_of m) (is_free header m)
  none_read = unread header n m sound_m side.positions side.parts side.named.within opened_in unread_inputs

  -- the run that is simulated
  abbrev pub simulated : ℕ → ℕ → Bool
  simulated = freed header n m sound_m side.positions side.parts side.named.within opened_in unread_inputs (cut names (circuit_of n)) one columns are rows wide run over

  pub simulated_run : IsRunFrom m (zeros m) (map (reordered columns) rows) simulated
  simulated_run = freed_run header n m sound_m side.positions side.parts side.named.within opened_in unread_inputs (cut names (circuit_of n)) one columns are rows wide run over

  same : (t p : ℕ) → is_free header m p ≡ false → simulated t p ≡ run t p
  same t p e = mixed_is (circuit_of m) (is_free header m) none_read (λ q. false) (run t) p e

  shown_not_free : (k : ℕ) (port : Port) → slice_get m.outputs k ≡ Some port → is_free header m port.signal.0 ≡ false
  shown_not_free k port at = output_not_free header n m sound_m side.positions side.parts side.named.within opened_in unread_inputs k port at

  -- an output's value
  pub value_is : (t k : ℕ) (port : Port) → slice_get m.outputs k ≡ Some port → simulated t port.signal.0 ≡ run t port.signal.0
  value_is t k port at = same t port.signal.0 (shown_not_free k port at)

  -- and its mark
  pub mark_is : (mode : Mode) → MarksEnabled mode n enabled → (t p : ℕ) (bit : Bool) → IsMark m bits simulated t p bit → (bit ≡ true) ↔ IsSettled mode (cut names (circuit_of n)) run t p
  mark_is mode marks t p bit is = (λ e. back (is.0 e), λ settled. is.1 (there settled))
    where
      to : (name : List ℕ) (u next : ℕ) → IsLatch (cut names (circuit_of n)) name u next → EnabledIn mode (cut names (circuit_of n)) u → IsMarkedBy m.latches bits u
      to name u next latch en = enabled_marked n m sound_n distinct names enabled bits one side.bits_are mode marks name u next latch en

      from : (name : List ℕ) (u next : ℕ) → IsLatch (cut names (circuit_of n)) name u next → IsMarkedBy m.latches bits u → EnabledIn mode (cut names (circuit_of n)) u
      from name u next latch by = marked_enabled n m sound_n distinct names enabled bits one side.bits_are mode marks name u next latch by

      latch_back : (name : List ℕ) (u next : ℕ) → IsLatch (circuit_of m) name u next → IsLatch (cut names (circuit_of n)) name u next
      latch_back name u next latch = one_equation (circuit_of m) (cut names (circuit_of n)) (one_back (cut names (circuit_of n)) (circuit_of m) one) _ latch

      there : Marked (cut names (circuit_of n)) (EnabledIn mode (cut names (circuit_of n))) run t p → Marked (circuit_of m) (IsMarkedBy m.latches bits) simulated t p
      there mark = marks_free (cut names (circuit_of n)) (circuit_of m) one (is_free header m) none_read (EnabledIn mode (cut names (circuit_of n))) (IsMarkedBy m.latches bits) to from run simulated same mark

      back : Marked (circuit_of m) (IsMarkedBy m.latches bits) simulated t p → Marked (cut names (circuit_of n)) (EnabledIn mode (cut names (circuit_of n))) run t p
      back mark =
          marks_free (circuit_of m) (cut names (circuit_of n)) (one_back (cut names (circuit_of n)) (circuit_of m) one) (is_free header m)
          (unread_back (cut names (circuit_of n)) (circuit_of m) one (is_free header m) none_read) (IsMarkedBy m.latches bits) (EnabledIn mode (cut names (circuit_of n)))
          (λ name u next latch by. from name u next (latch_back name u next latch) by) (λ name u next latch en. to name u next (latch_back name u next latch) en) simulated run
          (λ s q e. sym (same s q e)) mark
