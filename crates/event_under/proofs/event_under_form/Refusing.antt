-- Why pairs aren't compared under an assumption.
use Rattle.std.specs.Prelude.{IsErrAnd}
use Rattle.std.proofs.Common.{◌≡◌, List, Result, Ok, Err, refl, sym, subst}
use Rattle.sec_setup.specs.declared.ports.pairs.SignalPair.{SignalPair}
use Rattle.event_form.specs.event_agreement.pair_events.View.{EventsView}
use Rattle.event_form.specs.declared.error.EventFormError.{EventFormError}
use Rattle.event_form.specs.declared.error.EventFormError.TheVariants as form_error
use Rattle.event_form.proofs.Stopping.{memory_stopped}
use Rattle.event_form.specs.Stopped.{IsStoppedFor}
use Rattle.event_under.specs.event_under_form.event_under_verdicts.assume_queries.UnderError.{UnderError}
use Rattle.event_under.specs.event_under_form.event_under_verdicts.assume_queries.UnderError.TheVariants as asked_error
use Rattle.event_under.specs.event_under_form.Formed.{AreRefusedUnder}
use Rattle.event_under.specs.event_under_form.Refusals.{refusal_of, refusal_under}
use Rattle.event_under.specs.declared.event_under_form.error.EventUnderError.{EventUnderError}
use Rattle.event_under.specs.declared.event_under_form.error.EventUnderError.TheVariants as under_error

-- what is true of a refusal is true of the result that it is
pub refused_by : {X : Type 0} (P : Result X EventUnderError → Type 0) (r : Result X EventUnderError) (e : EventUnderError) → IsErrAnd r (λ x. x ≡ e) → P (Err e) → P r
refused_by P (Ok x) e h p = absurd h
refused_by P (Err x) e h p = subst (λ (y : EventUnderError). P (Err y)) (sym h) p

one_error : {X : Type 0} {e f : EventUnderError} → ◌≡◌ {A = Result X EventUnderError} (Err e) (Err f) → e ≡ f
one_error q = cc

-- each refusal without an assumption is one under it
one_refusal : (e f : EventFormError) → refusal_of e ≡ refusal_of f → e ≡ f
one_refusal form_error.TooManyEvents form_error.TooManyEvents q = refl
one_refusal form_error.TooManyEvents (form_error.TooLarge side) q = cc
one_refusal form_error.TooManyEvents form_error.NoMemory q = cc
one_refusal (form_error.TooLarge side) form_error.TooManyEvents q = cc
one_refusal (form_error.TooLarge side) (form_error.TooLarge other) q = cc
one_refusal (form_error.TooLarge side) form_error.NoMemory q = cc
one_refusal form_error.NoMemory form_error.TooManyEvents q = cc
one_refusal form_error.NoMemory (form_error.TooLarge side) q = cc
one_refusal form_error.NoMemory form_error.NoMemory q = refl

-- what is refused without one
pub form_refused : {X : Type 0} (e : EventsView) (pairs : List SignalPair) (error : EventFormError) → IsStoppedFor {X = X} pairs e (Err error) → AreRefusedUnder {X = X} pairs e (Err (refusal_of error))
form_refused {X} e pairs error k told same = subst (λ (f : EventFormError). IsStoppedFor {X = X} pairs e (Err f)) (one_refusal error told (one_error same)) k

-- none of that is the assumption's
form_over : {X : Type 0} (error : EventFormError) → ◌≡◌ {A = Result X EventUnderError} (Err (refusal_of error)) (Err under_error.AssumptionTooLarge) → ⊥
form_over form_error.TooManyEvents q = cc
form_over (form_error.TooLarge side) q = cc
form_over form_error.NoMemory q = cc

pub never_over : {X : Type 0} (C : Type 0) (error : EventFormError) → ◌≡◌ {A = Result X EventUnderError} (Err (refusal_of error)) (Err under_error.AssumptionTooLarge) → C
never_over C error q = absurd (form_over error q)

-- what is refused for the assumption is refused for no pairs
pub under_refused : {X : Type 0} (e : EventsView) (pairs : List SignalPair) (error : UnderError) → AreRefusedUnder {X = X} pairs e (Err (refusal_under error))
under_refused {X} e pairs asked_error.TooLarge told same = absurd (form_over {X = X} told (sym same))
under_refused {X} e pairs asked_error.NoMemory told same =
    let no_memory : form_error.NoMemory ≡ told = one_refusal form_error.NoMemory told (one_error same) in
    subst (λ (f : EventFormError). IsStoppedFor {X = X} pairs e (Err f)) no_memory (memory_stopped pairs e)

pub under_over : {X : Type 0} (C : Type 0) (error : UnderError) → (error ≡ asked_error.TooLarge → C) → ◌≡◌ {A = Result X EventUnderError} (Err (refusal_under error)) (Err under_error.AssumptionTooLarge) → C
under_over C asked_error.TooLarge over q = over refl
under_over {X} C asked_error.NoMemory over q = absurd (no q)
  where
    no : ◌≡◌ {A = Result X EventUnderError} (Err under_error.NoMemory) (Err under_error.AssumptionTooLarge) → ⊥
    no k = cc

-- what was made isn't refused
pub none_refused : {X : Type 0} (e : EventsView) (pairs : List SignalPair) (x : X) → AreRefusedUnder {X = X} pairs e (Ok x)
none_refused {X} e pairs x told same = absurd (no same)
  where
    no : ◌≡◌ {A = Result X EventUnderError} (Ok x) (Err (refusal_of told)) → ⊥
    no k = cc
