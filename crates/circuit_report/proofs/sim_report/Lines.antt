-- The lines of the cycles, one after the other.
use Rattle.std.proofs.Common.{◌≡◌, ◌∙◌, ◌+◌, ◌-◌, ℕ, Bool, List, [], ◌∷◌, ◌++◌, length, slice_get, Some, inl, inr, ◌⊎◌, sym, ap, subst, arith, append_assoc, length-append}
use Rattle.std.proofs.lemmas.List.{append-nil}
use Rattle.std.proofs.lemmas.Option.{slice_get_within}
use Rattle.flat_net.specs.declared.parts.Port.{Port}
use Rattle.circuit_theory.specs.declared.Mode.{Mode}
use Rattle.circuit_theory.specs.Agree.{EnabledIn}
use Rattle.flat_net.specs.View.{NetView, circuit_of}
use Rattle.signal_graph.specs.inner_cone.latch_cone.Cones.{IsMarkedBy, MarksEnabled}
use Rattle.cycle_sim.proofs.Modes.{marks_in_mode}
use Rattle.flat_net.proofs.Nets.{some_at}
use Rattle.cycle_sim.specs.Runs.{IsRunFrom}
use Rattle.cycle_sim.specs.View.{MarkedView, HasMarkedRun}
use Rattle.cycle_sim.proofs.Lists.{map_is}
use Rattle.cycle_sim.proofs.Runs.{shorter}
use Rattle.circuit_report.specs.sim_report.Report.{Shown, cycle_line, cycle_lines, IsShown}
use Rattle.circuit_report.specs.sim_report.Cycles.{AreLatest, AreMarks, PutsLatest, PutsCycles}
use Rattle.circuit_report.proofs.sim_report.Places.{pushed_at}

-- one line more
pub lines_more : (t : ℕ) (cycles : List Shown) (shown : Shown) → cycle_lines t (cycles ++ shown ∷ []) ≡ cycle_lines t cycles ++ cycle_line (t + length cycles) shown
lines_more t [] shown = append-nil (cycle_line t shown) ∙ ap (λ k. cycle_line k shown) (omega arith)
lines_more t (first ∷ cycles) shown =
    ap (λ x. cycle_line t first ++ x) (lines_more (t + 1) cycles shown)
    ∙ (sym (append_assoc (cycle_line t first) (cycle_lines (t + 1) cycles) (cycle_line (t + 1 + length cycles) shown))
    ∙ ap (λ k. (cycle_line t first ++ cycle_lines (t + 1) cycles) ++ cycle_line k shown) (omega arith))

-- what is shown of the latest cycle is right in each run that the simulator has gone through
pub shown_right : (m : MarkedView) (power : List Bool) (rows : List (List Bool)) (shown : Shown) → HasMarkedRun m power rows → AreLatest m.sim shown.values → AreMarks m shown.marks →
    (run : ℕ → ℕ → Bool) → IsRunFrom m.sim.net power rows run → IsShown m.sim.net (IsMarkedBy m.sim.net.latches m.enabled) (m.sim.cycles - 1) run shown
shown_right m power rows shown have values marks run from = record {
  values = map_is (λ (port : Port). run (m.sim.cycles - 1) port.signal.0) m.sim.net.outputs shown.values values.each each;
  each = marks.each;
  marks = λ i port mark at_port at_mark. marks.right i port mark at_port at_mark power rows run have from;
}
  where
    each : (k : ℕ) (port : Port) → slice_get m.sim.net.outputs k ≡ Some port → slice_get shown.values k ≡ Some (run (m.sim.cycles - 1) port.signal.0)
    each k port at =
        let w = slice_get_within m.sim.net.outputs k port at in
        let bit = some_at shown.values k (omega (arith, w, values.each)) in
        bit.1 ∙ ap Some (values.right k port bit.0 at bit.1 power rows run have.goes from)

-- the simulator has gone through these rows, and the lines of their cycles are put behind the text
pub record IsAt (n : NetView) (enabled power : List Bool) (rows : List (List Bool)) (m : MarkedView) (old new : List ℕ) : Type 0 where
  pub net : m.sim.net ≡ n
  pub bits : m.enabled ≡ enabled
  pub run : HasMarkedRun m power rows
  pub put : PutsCycles n enabled power rows old new

-- one cycle more
pub at_more : (n : NetView) (enabled power : List Bool) (rows : List (List Bool)) (row : List Bool) (s t : MarkedView) (old mid new : List ℕ) → IsAt n enabled power rows s old mid → t.sim.net ≡ s.sim.net → t.enabled ≡ s.enabled →
    ((power : List Bool) (rows : List (List Bool)) → HasMarkedRun s power rows → HasMarkedRun t power (rows ++ row ∷ [])) → PutsLatest t mid new → IsAt n enabled power (rows ++ row ∷ []) t old new
at_more n enabled power rows row s t old mid new at same kept steps last = record {
  net = net;
  bits = bits;
  run = have;
  put = record {
    cycles = cycles ++ last.shown ∷ [];
    each = omega (arith, length-append cycles (last.shown ∷ []), more, at.put.each);
    text_is = last.text_is ∙ (ap (λ x. x ++ cycle_line (t.sim.cycles - 1) last.shown) at.put.text_is
        ∙ (append_assoc old (cycle_lines 0 cycles) (cycle_line (t.sim.cycles - 1) last.shown)
        ∙ (ap (λ k. old ++ (cycle_lines 0 cycles ++ cycle_line k last.shown)) (omega (arith, place))
        ∙ ap (λ x. old ++ x) (sym (lines_more 0 cycles last.shown)))));
    shown = λ run from k shown there. go run from k shown (pushed_at cycles last.shown k shown there);
  };
}
  where
    net : t.sim.net ≡ n
    net = same ∙ at.net

    bits : t.enabled ≡ enabled
    bits = kept ∙ at.bits

    have : HasMarkedRun t power (rows ++ row ∷ [])
    have = steps power rows at.run

    cycles : List Shown
    cycles = at.put.cycles

    more : length (rows ++ row ∷ []) ≡ length rows + 1
    more = length-append rows (row ∷ [])

    place : t.sim.cycles - 1 ≡ length at.put.cycles
    place = let c = have.goes.cycles in omega (arith, c, more, at.put.each)

    go : (run : ℕ → ℕ → Bool) → IsRunFrom n power (rows ++ row ∷ []) run → (k : ℕ) (shown : Shown) →
        (slice_get at.put.cycles k ≡ Some shown) ⊎ ((k ≡ length at.put.cycles) × (last.shown ≡ shown)) → IsShown n (IsMarkedBy n.latches enabled) k run shown
    go run from k shown (inl there) = at.put.shown run (shorter n power rows row run from) k shown there
    go run from k shown (inr here) =
        let own : IsShown t.sim.net (IsMarkedBy t.sim.net.latches t.enabled) (t.sim.cycles - 1) run last.shown =
        shown_right t power (rows ++ row ∷ []) last.shown have last.values last.marks run (subst (λ m. IsRunFrom m power (rows ++ row ∷ []) run) (sym net) from) in
        let of_n : IsShown n (IsMarkedBy n.latches t.enabled) (t.sim.cycles - 1) run last.shown = subst (λ (m : NetView). IsShown m (IsMarkedBy m.latches t.enabled) (t.sim.cycles - 1) run last.shown) net own in
        let by_bits : IsShown n (IsMarkedBy n.latches enabled) (t.sim.cycles - 1) run last.shown = subst (λ b. IsShown n (IsMarkedBy n.latches b) (t.sim.cycles - 1) run last.shown) bits of_n in
        let in_k : IsShown n (IsMarkedBy n.latches enabled) k run last.shown = subst (λ c. IsShown n (IsMarkedBy n.latches enabled) c run last.shown) (place ∙ sym here.0) by_bits in
        subst (IsShown n (IsMarkedBy n.latches enabled) k run) here.1 in_k

-- where the bits mark the enabled latches of a mode, the marks are those of the mode
pub shown_in_mode : (n : NetView) (mode : Mode) (enabled : List Bool) → MarksEnabled mode n enabled → (t : ℕ) (run : ℕ → ℕ → Bool) (shown : Shown) → IsShown n (IsMarkedBy n.latches enabled) t run shown → IsShown n (EnabledIn mode (circuit_of n)) t run shown
shown_in_mode n mode enabled marks t run shown is = record {
  values = is.values;
  each = is.each;
  marks = λ i port mark at_port at_mark.
      let here = is.marks i port mark at_port at_mark in
      let same = marks_in_mode n mode enabled marks run t port.signal.0 in (
        λ e. same.0 (here.0 e),
        λ m. here.1 (same.1 m),
      );
}
