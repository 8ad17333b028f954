-- What an outcome that fits two nets in the event form says of their circuits. Each law is the contract of a function of this crate.
use Rattle.std.specs.Prelude.{◌≡◌, ◌≢◌, ◌↔◌, ℕ, Bool, slice_get, Some}
use Rattle.circuit_theory.specs.declared.Mode.TheVariants.{Event}
use Rattle.circuit_theory.specs.Joined.{Left, Right}
use Rattle.circuit_theory.specs.EventFrames.{HaveDifferentEvents}
use Rattle.flat_net.specs.View.{NetView, circuit_of}
use Rattle.sec_base.specs.declared.basics.PairAnswer.TheVariants as answer
use Rattle.sec_setup.specs.declared.ports.pairs.SignalPair.{SignalPair}
use Rattle.witness_report.specs.declared.witness.Witness.{Witness}
use Rattle.obligations.specs.declared.outcome.verdict.Outcome.{Outcome}
use Rattle.obligations.specs.declared.outcome.verdict.PairResult.{PairResult}
use Rattle.obligations.specs.declared.outcome.verdict.Unshown.{Unshown}
use Rattle.obligations.specs.declared.outcome.verdict.Verdict.TheVariants as verdict
use Rattle.obligations.specs.declared.outcome.verdict.Why.TheVariants as why
use Rattle.edbf_unfold.specs.class_queries.Enables.{both_of}
use Rattle.event_setup.specs.event_meaning.event_names.event_fits.Circuits.{AreNets}
use Rattle.event_setup.specs.event_meaning.event_names.event_fits.Asked.{IsDecisive}
use Rattle.sec_setup.specs.Cuts.{is_cut}
use Rattle.plain_check.specs.under_base.compare_base.Says.{SaysEqual, SaysDifferent, SaysNotShown}
use Rattle.event_setup.specs.event_meaning.event_names.event_fits.Fitting.{EventOutcomeFits, IsComparedByPairs}
use Rattle.event_setup.specs.event_meaning.event_names.event_fits.Shown.{IsFramed}

-- Equal says that the circuits agree in the event mode, and onward over the exposed latches.
abbrev pub EqualOutcomesAgree : Type 0
EqualOutcomesAgree = (a b : NetView) (expose : Bool) (conflicts : ℕ) (o : Outcome) → AreNets a b → EventOutcomeFits a b expose conflicts o → o.verdict ≡ verdict.Equal → SaysEqual Event o (circuit_of a) (circuit_of b)

-- The sequence of a difference makes the named output differ in all runs.
abbrev pub DifferentOutcomesDiffer : Type 0
DifferentOutcomesDiffer = (a b : NetView) (expose : Bool) (conflicts : ℕ) (o : Outcome) → AreNets a b → EventOutcomeFits a b expose conflicts o → (w : Witness) → o.verdict ≡ verdict.Different w → SaysDifferent Event w (circuit_of a) (circuit_of b)

-- That of a pair that isn't shown makes it differ in all runs of the cut circuits.
abbrev pub CutOutcomesDiffer : Type 0
CutOutcomesDiffer = (a b : NetView) (expose : Bool) (conflicts : ℕ) (o : Outcome) → AreNets a b → EventOutcomeFits a b expose conflicts o → (w : Witness) → o.verdict ≡ verdict.NotShown (why.Cut w) → SaysNotShown Event o.exposed w (circuit_of a) (circuit_of b)

-- A pair that isn't shown and reaches another class than 0 has a frame.
abbrev pub UnshownOutcomesAreFramed : Type 0
UnshownOutcomesAreFramed = (a b : NetView) (expose : Bool) (conflicts : ℕ) (o : Outcome) → EventOutcomeFits a b expose conflicts o → (u : Unshown) → o.verdict ≡ verdict.NotShown (why.Events u) → IsFramed a b expose o u

-- A pair that isn't at the limit is equal exactly where its functions differ in no frame with care for both sides, and different exactly where they
-- do and the difference is decisive; so it isn't shown exactly where they do and it isn't.
abbrev pub AnswersAreExact : Type 0
AnswersAreExact = (a b : NetView) (expose : Bool) (conflicts : ℕ) (o : Outcome) → AreNets a b → (c : IsComparedByPairs a b expose conflicts o) → (i : ℕ) (p : SignalPair) (r : PairResult) → slice_get c.compared.pairs.now i ≡ Some p → slice_get o.pairs i ≡ Some r → r.answer ≢ answer.Limit →
    ((r.answer ≡ answer.Equal) ↔ (HaveDifferentEvents (both_of c.left c.right) (Left p.left.0) (Right p.right.0) → ⊥))
    × ((r.answer ≡ answer.Different) ↔ (IsDecisive (both_of c.left c.right) (is_cut o.exposed) p.left.0 p.right.0 × HaveDifferentEvents (both_of c.left c.right) (Left p.left.0) (Right p.right.0)))
    × ((r.answer ≡ answer.NotShown) ↔ ((IsDecisive (both_of c.left c.right) (is_cut o.exposed) p.left.0 p.right.0 → ⊥) × HaveDifferentEvents (both_of c.left c.right) (Left p.left.0) (Right p.right.0)))
