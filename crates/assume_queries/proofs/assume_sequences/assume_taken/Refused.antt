-- Why a circuit isn't taken.
use Rattle.std.specs.Prelude.{IsErrAnd}
use Rattle.std.proofs.Common.{◌≡◌, ℕ, List, [], ◌∷◌, refl, sym, subst, Result, Ok, Err}
use Rattle.circuit_theory.specs.Sizes.{IsOver}
use Rattle.sec_base.specs.declared.limits.TheConstants.{MAX_WEIGHT}
use Rattle.flat_net.specs.View.{NetView, circuit_of}
use Rattle.cbf_unfold.specs.declared.unfold_places.error.UnfoldError.{UnfoldError}
use Rattle.cbf_unfold.specs.declared.unfold_places.error.UnfoldError.TheVariants as unfold_error
use Rattle.assume_laws.specs.assume_shape.Shape.{HasShape}
use Rattle.assume_queries.specs.declared.assume_sequences.assume_taken.error.TakeError.{TakeError}
use Rattle.assume_queries.specs.assume_sequences.assume_taken.Functions.{HasFunction}
use Rattle.assume_queries.specs.assume_sequences.assume_taken.Refusals.{refusal_of}

-- what is true of a refusal is true of the result that it is
pub refused_by : {X : Type 0} (P : Result X TakeError → Type 0) (r : Result X TakeError) (e : TakeError) → IsErrAnd r (λ x. x ≡ e) → P (Err e) → P r
refused_by P (Ok x) e h p = absurd h
refused_by P (Err x) e h p = subst (λ (y : TakeError). P (Err y)) (sym h) p

-- a function that is too large is a fault
pub function_refused : (names : List (List ℕ)) (c : NetView) (shape : HasShape c names) (e : UnfoldError) → (e ≡ unfold_error.TooLarge → IsOver (circuit_of c) (shape.output.signal.0 ∷ []) MAX_WEIGHT) → HasFunction names c (Err (refusal_of e))
function_refused names c shape unfold_error.TooLarge over = (shape, over refl)
function_refused names c shape unfold_error.NoMemory over = tt
