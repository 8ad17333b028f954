-- A step goes on with the marks of every run.
use Rattle.std.proofs.Common.{◌≡◌, ℕ, ◌+◌, ◌-◌, ◌<◌, Bool, false, List, [], ◌∷◌, ◌++◌, length, get_or, slice_get, Some, sym, ◌∙◌, ap, subst, arith, length-append}
use Rattle.std.specs.Prelude.{All, IfSome, replicate}
use Rattle.circuit_theory.specs.Circuit.{Meets}
use Rattle.flat_net.specs.declared.parts.Port.{Port}
use Rattle.flat_net.specs.View.{NetView, circuit_of}
use Rattle.flat_net.specs.Sound.{IsSound}
use Rattle.flat_net.proofs.Places.{All-at}
use Rattle.cycle_sim.specs.Runs.{IsRunFrom}
use Rattle.cycle_sim.specs.View.{MarkedView, HasRun, HasMark, IsMark, HasMarkedRun, IsLatestMark}
use Rattle.cycle_sim.specs.Steps.{HasValues, AreMarks, AreMarksAhead}
use Rattle.cycle_sim.proofs.Lists.{item_at}
use Rattle.cycle_sim.proofs.Runs.{shorter}
use Rattle.cycle_sim.proofs.Marks.{mark_at, none_marked}

-- before the first cycle
pub begins_marked : (m : MarkedView) (power : List Bool) (count : ℕ) → IsSound m.sim.net → HasRun m.sim power [] → count ≡ length m.sim.net.latches → m.marks_ahead ≡ replicate count false → HasMarkedRun m power []
begins_marked m power count sound goes size none = record {
  goes = goes;
  marks = λ run from t p h below. absurd (omega (arith, h));
  marks_ahead = λ run from. none_marked m.sim.net sound m.enabled run count m.marks_ahead size none;
}

-- after one cycle more
module _ (n : NetView) (enabled inputs old_ahead values marks ahead : List Bool)
    (now : (run : ℕ → ℕ → Bool) (t : ℕ) → AreMarksAhead n enabled run t old_ahead → AreMarks n enabled run t marks)
    (later : (run : ℕ → ℕ → Bool) (t : ℕ) → Meets (circuit_of n) (run t) → HasValues n (run t) values → AreMarks n enabled run t marks → AreMarksAhead n enabled run (t + 1) ahead) where
  pub steps_marked : (old new : MarkedView) → old.sim.net ≡ n → old.enabled ≡ enabled → old.marks_ahead ≡ old_ahead → new.sim.net ≡ n → new.enabled ≡ enabled → new.sim.values ≡ values → new.marks ≡ marks → new.marks_ahead ≡ ahead →
      (power : List Bool) (rows : List (List Bool)) → HasRun new.sim power (rows ++ inputs ∷ []) → HasMarkedRun old power rows → HasMarkedRun new power (rows ++ inputs ∷ [])
  steps_marked old new old_net old_enabled old_is new_net new_enabled new_values new_marks new_ahead power rows goes have = record {
    goes = goes;
    marks = λ run from t p h below.
        let at : length rows ≡ t = omega (arith, h, more) in
        let here : HasMark n enabled run (length rows) marks p p = latest run (to run from) p (subst (λ (k : NetView). p < length k.drivers) new_net below) in
        marked_there run p p (sym new_marks) (subst (λ k. HasMark n enabled run k marks p p) at here);
    marks_ahead = λ run from j l at.
        let here : HasMark n enabled run (length rows + 1) ahead j l.out.0 = next run from j l (subst (λ (k : NetView). slice_get k.latches j ≡ Some l) new_net at) in
        marked_there run j l.out.0 (sym new_ahead) (subst (λ k. HasMark n enabled run k ahead j l.out.0) (sym more) here);
  }
    where
      more : length (rows ++ inputs ∷ []) ≡ length rows + 1
      more = length-append rows (inputs ∷ [])

      to : (run : ℕ → ℕ → Bool) → IsRunFrom new.sim.net power (rows ++ inputs ∷ []) run → IsRunFrom n power (rows ++ inputs ∷ []) run
      to run from = subst (λ k. IsRunFrom k power (rows ++ inputs ∷ []) run) new_net from

      marked_there : (run : ℕ → ℕ → Bool) {t : ℕ} (place p : ℕ) {bits there : List Bool} → bits ≡ there → HasMark n enabled run t bits place p → HasMark new.sim.net new.enabled run t there place p
      marked_there run {t} place p {bits} {there} e h =
          subst (λ k. HasMark k new.enabled run t there place p) (sym new_net) (subst (λ k. HasMark n k run t there place p) (sym new_enabled) (subst (λ k. HasMark n enabled run t k place p) e h))

      before : (run : ℕ → ℕ → Bool) → IsRunFrom n power (rows ++ inputs ∷ []) run → AreMarksAhead n enabled run (length rows) old_ahead
      before run from =
          subst (λ k. AreMarksAhead n enabled run (length rows) k) old_is
          (subst (λ k. AreMarksAhead n k run (length rows) old.marks_ahead) old_enabled
          (subst (λ k. AreMarksAhead k old.enabled run (length rows) old.marks_ahead) old_net
          (have.marks_ahead run (subst (λ k. IsRunFrom k power rows run) (sym old_net) (shorter n power rows inputs run from)))))

      latest : (run : ℕ → ℕ → Bool) → IsRunFrom n power (rows ++ inputs ∷ []) run → AreMarks n enabled run (length rows) marks
      latest run from = now run (length rows) (before run from)

      next : (run : ℕ → ℕ → Bool) → IsRunFrom new.sim.net power (rows ++ inputs ∷ []) run → AreMarksAhead n enabled run (length rows + 1) ahead
      next run from =
          later run (length rows) ((to run from).is_run.meets (length rows) (omega (arith, more)))
          (λ p below. ap (λ vs. slice_get vs p) (sym new_values) ∙ goes.values run from (length rows) p more (subst (λ (k : NetView). p < length k.drivers) (sym new_net) below))
          (latest run (to run from))

-- the mark of an output
pub mark_is : (m : MarkedView) (outputs : List Port) (i : ℕ) (port : Port) (bit : Bool) → outputs ≡ m.sim.net.outputs → i < length outputs → port ≡ get_or outputs i port → 0 < m.sim.cycles →
    All (λ port. port.signal.0 < length m.sim.net.drivers) m.sim.net.outputs → bit ≡ get_or m.marks port.signal.0 bit → IfSome (slice_get m.sim.net.outputs i) (λ port. IsLatestMark m port.signal.0 bit)
mark_is m outputs i port bit same within is begun below value =
    let at = item_at m.sim.net.outputs outputs i port same within is in
    let low : port.signal.0 < length m.sim.net.drivers = All-at (λ (q : Port). q.signal.0 < length m.sim.net.drivers) m.sim.net.outputs i port at below in
    let right : IsLatestMark m port.signal.0 bit =
    λ power rows run have from.
    let size : length rows ≡ m.sim.cycles - 1 + 1 = let c = have.goes.cycles in omega (arith, c, begun) in
    subst (IsMark m.sim.net m.enabled run (m.sim.cycles - 1) port.signal.0) (sym value)
    (mark_at m.sim.net m.enabled run (m.sim.cycles - 1) m.marks port.signal.0 port.signal.0 bit (have.marks run from (m.sim.cycles - 1) port.signal.0 size low)) in
    subst (λ o. IfSome o (λ (q : Port). IsLatestMark m q.signal.0 bit)) (sym at) right
