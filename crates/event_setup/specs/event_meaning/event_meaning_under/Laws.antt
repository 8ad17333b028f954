-- What an outcome that fits two nets in the event form under an assumption says of their circuits. Each law is the contract of a function of this
-- crate.
use Rattle.std.specs.Prelude.{◌≡◌, ◌≢◌, ◌↔◌, ℕ, Bool, slice_get, Some}
use Rattle.circuit_theory.specs.declared.Mode.TheVariants.{Event}
use Rattle.circuit_theory.specs.Joined.{Left, Right}
use Rattle.flat_net.specs.View.{NetView, circuit_of}
use Rattle.sec_base.specs.declared.basics.PairAnswer.TheVariants as answer
use Rattle.sec_setup.specs.declared.ports.pairs.SignalPair.{SignalPair}
use Rattle.witness_report.specs.declared.witness.Witness.{Witness}
use Rattle.obligations.specs.declared.outcome.verdict.Outcome.{Outcome}
use Rattle.obligations.specs.declared.outcome.verdict.PairResult.{PairResult}
use Rattle.obligations.specs.declared.outcome.verdict.Unshown.{Unshown}
use Rattle.obligations.specs.declared.outcome.verdict.Verdict.TheVariants as verdict
use Rattle.obligations.specs.declared.outcome.verdict.Why.TheVariants as why
use Rattle.edbf_unfold.specs.class_queries.Enables.{both_of}
use Rattle.sec_setup.specs.Cuts.{is_cut}
use Rattle.assume_laws.specs.Assume.{Assumption}
use Rattle.assume_laws.specs.Sequences.{HaveDifferentEventsUnder}
use Rattle.event_setup.specs.event_meaning.event_names.event_fits.Circuits.{AreNets}
use Rattle.event_setup.specs.event_meaning.event_names.event_fits.Asked.{IsDecisive}
use Rattle.event_setup.specs.event_meaning.event_meaning_under.Fitted.{EventOutcomeFitsUnder, IsComparedByPairsUnder}
use Rattle.event_setup.specs.event_meaning.event_meaning_under.Framed.{IsFramedUnder}
use Rattle.event_setup.specs.event_meaning.event_meaning_under.Saying.{SaysEqualUnder, SaysDifferentUnder, SaysNotShownUnder}

-- Equal says that the circuits agree in the event mode in the runs that meet the assumption, and onward over the exposed latches.
abbrev pub EqualOutcomesAgreeUnder : Type 0
EqualOutcomesAgreeUnder = (c : Assumption) (weight : ℕ) (meeting : ℕ → Bool) (a b : NetView) (expose : Bool) (conflicts : ℕ) (o : Outcome) → AreNets a b → EventOutcomeFitsUnder c weight meeting a b expose conflicts o →
    o.verdict ≡ verdict.Equal → SaysEqualUnder Event c o (circuit_of a) (circuit_of b)

-- The sequence of a difference makes the named output differ in all runs, and meets the assumption in each of its cycles.
abbrev pub DifferentOutcomesDifferUnder : Type 0
DifferentOutcomesDifferUnder = (c : Assumption) (weight : ℕ) (meeting : ℕ → Bool) (a b : NetView) (expose : Bool) (conflicts : ℕ) (o : Outcome) → AreNets a b → EventOutcomeFitsUnder c weight meeting a b expose conflicts o →
    (w : Witness) → o.verdict ≡ verdict.Different w → SaysDifferentUnder c w (circuit_of a) (circuit_of b)

-- That of a pair that isn't shown makes it differ in all runs of the cut circuits, and meets the assumption, too.
abbrev pub CutOutcomesDifferUnder : Type 0
CutOutcomesDifferUnder = (c : Assumption) (weight : ℕ) (meeting : ℕ → Bool) (a b : NetView) (expose : Bool) (conflicts : ℕ) (o : Outcome) → AreNets a b → EventOutcomeFitsUnder c weight meeting a b expose conflicts o →
    (w : Witness) → o.verdict ≡ verdict.NotShown (why.Cut w) → SaysNotShownUnder c o.exposed w (circuit_of a) (circuit_of b)

-- A pair that isn't shown and reaches another class than 0 has a frame, which meets the assumption.
abbrev pub UnshownOutcomesAreFramedUnder : Type 0
UnshownOutcomesAreFramedUnder = (c : Assumption) (weight : ℕ) (meeting : ℕ → Bool) (a b : NetView) (expose : Bool) (conflicts : ℕ) (o : Outcome) → EventOutcomeFitsUnder c weight meeting a b expose conflicts o →
    (u : Unshown) → o.verdict ≡ verdict.NotShown (why.Events u) → IsFramedUnder c a b expose o u

-- A pair that isn't at the limit is equal exactly where its functions differ in no frame that has care for both sides and meets the assumption at each
-- node of their variables, and different exactly where they do and the difference is decisive; so it isn't shown exactly where they do and it isn't.
abbrev pub AnswersAreExactUnder : Type 0
AnswersAreExactUnder = (c : Assumption) (weight : ℕ) (meeting : ℕ → Bool) (a b : NetView) (expose : Bool) (conflicts : ℕ) (o : Outcome) → (k : IsComparedByPairsUnder c weight meeting a b expose conflicts o) →
    (i : ℕ) (p : SignalPair) (r : PairResult) → slice_get k.compared.pairs.now i ≡ Some p → slice_get o.pairs i ≡ Some r → r.answer ≢ answer.Limit →
    ((r.answer ≡ answer.Equal) ↔ (HaveDifferentEventsUnder c (both_of k.left k.right) (Left p.left.0) (Right p.right.0) → ⊥))
    × ((r.answer ≡ answer.Different) ↔ (IsDecisive (both_of k.left k.right) (is_cut o.exposed) p.left.0 p.right.0 × HaveDifferentEventsUnder c (both_of k.left k.right) (Left p.left.0) (Right p.right.0)))
    × ((r.answer ≡ answer.NotShown) ↔ ((IsDecisive (both_of k.left k.right) (is_cut o.exposed) p.left.0 p.right.0 → ⊥) × HaveDifferentEventsUnder c (both_of k.left k.right) (Left p.left.0) (Right p.right.0)))
