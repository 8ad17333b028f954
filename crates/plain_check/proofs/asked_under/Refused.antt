-- What refuses a comparison under an assumption.
use Rattle.std.specs.Prelude.{IsErrAnd}
use Rattle.std.proofs.Common.{◌≡◌, sym, subst, Result, Ok, Err}

-- what is true of a refusal is true of the result that it is
pub refused_by : {X E : Type 0} (P : Result X E → Type 0) (r : Result X E) (e : E) → IsErrAnd r (λ x. x ≡ e) → P (Err e) → P r
refused_by P (Ok x) e h p = absurd h
refused_by {E = E} P (Err x) e h p = subst (λ (y : E). P (Err y)) (sym h) p
