-- The bits of the latches that are left in a cut net mark those that count as enabled in the cut circuit.
use Rattle.std.proofs.Common.{◌≡◌, ℕ, Bool, true, List, slice_get, Some, sym, ◌∙◌, subst, arith, inl, inr, ◌⊎◌}
use Rattle.std.proofs.lemmas.Option.{slice_get_within}
use Rattle.circuit_theory.specs.declared.Mode.{Mode}
use Rattle.circuit_theory.specs.declared.Mode.TheVariants.{Plain, Event}
use Rattle.circuit_theory.specs.Circuit.{Latch as latch_equation, IsLatch}
use Rattle.circuit_theory.specs.Net.{HasDistinctNames}
use Rattle.circuit_theory.specs.Agree.{cut, EnabledIn}
use Rattle.circuit_laws.proofs.event_laws.CutParts.{enabled_uncut, enabled_cut}
use Rattle.flat_net.specs.declared.parts.LatchAt.{LatchAt}
use Rattle.flat_net.specs.Sound.{IsSound}
use Rattle.flat_net.specs.View.{NetView, circuit_of, equation_of_latch}
use Rattle.flat_net.proofs.Nets.{some_at, equation_from, OfGate, OfLatch, sound_is_net}
use Rattle.signal_graph.specs.inner_cone.latch_cone.Cones.{IsMarkedBy, MarksEnabled}
use Rattle.job_circuit.specs.replay.cut_sides.Opening.{AreBitsOf}
use Rattle.job_circuit.proofs.replay.FreeInputs.{no_gate_latch}
use Rattle.job_circuit.proofs.replay.FreeMarks.{AreOne, one_equation}

latch_out : (l : LatchAt) (name : List ℕ) (u next : ℕ) → equation_of_latch l ≡ latch_equation name u next → l.out.0 ≡ u
latch_out l name u next e = cc

module _ (n m : NetView) (sound : IsSound n) (distinct : HasDistinctNames (circuit_of n)) (names : List (List ℕ)) (enabled bits : List Bool) (one : AreOne (cut names (circuit_of n)) (circuit_of m)) (are : AreBitsOf n enabled m bits) where
  -- enabled in the cut circuit and in the circuit itself
  whole : (mode : Mode) (u : ℕ) → EnabledIn mode (cut names (circuit_of n)) u → EnabledIn mode (circuit_of n) u
  whole Plain u en = en
  whole Event u en = enabled_uncut names (circuit_of n) (sound_is_net n sound).single distinct u en

  kept : (mode : Mode) (name : List ℕ) (u next : ℕ) → IsLatch (cut names (circuit_of n)) name u next → EnabledIn mode (circuit_of n) u → EnabledIn mode (cut names (circuit_of n)) u
  kept Plain name u next latch en = en
  kept Event name u next latch en = enabled_cut names (circuit_of n) (sound_is_net n sound).single distinct u en name next latch

  latch_of : (name : List ℕ) (u next : ℕ) → IsLatch (cut names (circuit_of n)) name u next → OfLatch m (latch_equation name u next)
  latch_of name u next latch = go (equation_from m (latch_equation name u next) (one_equation (cut names (circuit_of n)) (circuit_of m) one (latch_equation name u next) latch))
    where
      go : OfGate m (latch_equation name u next) ⊎ OfLatch m (latch_equation name u next) → OfLatch m (latch_equation name u next)
      go (inl g) = absurd (no_gate_latch m.covers g.gate name u next g.is)
      go (inr l) = l

  pub enabled_marked : (mode : Mode) → MarksEnabled mode n enabled → (name : List ℕ) (u next : ℕ) → IsLatch (cut names (circuit_of n)) name u next → EnabledIn mode (cut names (circuit_of n)) u → IsMarkedBy m.latches bits u
  enabled_marked mode marks name u next latch en =
      let l = latch_of name u next latch in
      let e = are.each in
      let bit = some_at bits l.j (let w = slice_get_within m.latches l.j l.latch l.at in omega (arith, w, e)) in
      let has = are.right l.j l.latch bit.0 l.at bit.1 in
      let out = latch_out l.latch name u next l.is in
      let set : slice_get enabled has.position ≡ Some true = (marks has.position l.latch has.latch).1 (subst (EnabledIn mode (circuit_of n)) (sym out) (whole mode u en)) in
      record { position = l.j; latch = l.latch; here = l.at; bit = bit.1 ∙ (sym has.here ∙ set); out = out }

  pub marked_enabled : (mode : Mode) → MarksEnabled mode n enabled → (name : List ℕ) (u next : ℕ) → IsLatch (cut names (circuit_of n)) name u next → IsMarkedBy m.latches bits u → EnabledIn mode (cut names (circuit_of n)) u
  marked_enabled mode marks name u next latch by =
      let has = are.right by.position by.latch true by.here by.bit in
      kept mode name u next latch (subst (EnabledIn mode (circuit_of n)) by.out ((marks has.position by.latch has.latch).0 has.here))
