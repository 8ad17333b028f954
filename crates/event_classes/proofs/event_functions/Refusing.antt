-- A refusal for weight, looked at again for its event nodes.
use Rattle.std.proofs.Common.{◌≡◌, true, Result, Ok, Err, OnOk, ℕ, List}
use Rattle.std.specs.Result.{is_ok}
use Rattle.std.proofs.lemmas.Bool.{false≢true}
use Rattle.circuit_theory.specs.EventSizes.{Start}
use Rattle.event_nodes.specs.View.{EventCircuitView}
use Rattle.event_classes.specs.event_functions.Refused.{IsRefusal}
use Rattle.event_nodes.specs.declared.error.EventUnfoldError.{EventUnfoldError}
use Rattle.event_nodes.specs.declared.error.EventUnfoldError.TheVariants as unfold_error

-- one error is the other
pub error_is : {X : Type 0} {e f : EventUnfoldError} → ◌≡◌ {A = Result X EventUnfoldError} (Err e) (Err f) → e ≡ f
error_is q = cc

-- what holds where all went well
pub from_ok : {T E P : Type 0} (r : Result T E) → is_ok r ≡ true → OnOk r P → P
from_ok (Ok x) is h = h
from_ok (Err e) is h = absurd (false≢true is)

-- a value is no error
pub value_apart : {X P : Type 0} {v : X} {e : EventUnfoldError} → ◌≡◌ {A = Result X EventUnfoldError} (Ok v) (Err e) → P
value_apart q = cc

-- the errors are three
pub memory_or_many : {P : Type 0} → unfold_error.NoMemory ≡ unfold_error.TooManyEvents → P
memory_or_many q = cc

pub memory_or_large : {P : Type 0} → unfold_error.NoMemory ≡ unfold_error.TooLarge → P
memory_or_large q = cc

pub many_or_large : {P : Type 0} → unfold_error.TooManyEvents ≡ unfold_error.TooLarge → P
many_or_large q = cc

-- a value is no refusal, and want of memory says nothing of the start
pub refused_value : {X : Type 0} (e : EventCircuitView) (old new : List (ℕ × ℕ)) (x : Start ℕ) (counted : List (ℕ × ℕ)) (v : X) → IsRefusal {X = X} e old new x counted (Ok v)
refused_value e old new x counted v = record { many = λ q. value_apart q; few = λ q. value_apart q; large = λ q. value_apart q }

pub refused_memory : {X : Type 0} (e : EventCircuitView) (old new : List (ℕ × ℕ)) (x : Start ℕ) (counted : List (ℕ × ℕ)) → IsRefusal {X = X} e old new x counted (Err unfold_error.NoMemory)
refused_memory {X} e old new x counted = record { many = λ q. memory_or_many (error_is {X = X} q); few = λ q. memory_or_large (error_is {X = X} q); large = λ q. memory_or_large (error_is {X = X} q) }
