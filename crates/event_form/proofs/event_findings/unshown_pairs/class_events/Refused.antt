-- The refusals of the class map.
use Rattle.std.proofs.Common.{◌≡◌, ℕ, Option, Result, Ok, Err}
use Rattle.circuit_theory.specs.declared.Side.{Side}
use Rattle.sec_base.specs.declared.basics.Tag.{Tag}
use Rattle.class_search.specs.pair_decide.Proof.{Proof}
use Rattle.event_nodes.specs.View.{EventCircuitView}
use Rattle.event_classes.specs.declared.error.EventError.{EventError}
use Rattle.event_classes.specs.declared.error.EventError.TheVariants as event_error
use Rattle.event_classes.specs.Refused.{IsTooMany, IsTooHeavy, IsLimitOf, IsRefusedMap}

pub error_is : {X : Type 0} {e f : EventError} → ◌≡◌ {A = Result X EventError} (Err e) (Err f) → e ≡ f
error_is q = cc

-- what is made isn't refused
pub ok_refused : {X : Type 0} (a b : EventCircuitView) (conflicts : ℕ) (x : X) → IsRefusedMap a b conflicts (Ok x)
ok_refused {X} a b conflicts x = record { many = λ is. absurd (no is); large = λ side is. absurd (no is); limit = λ latch other proof is. absurd (no is) }
  where
    no : {e : EventError} → ◌≡◌ {A = Result X EventError} (Ok x) (Err e) → ⊥
    no q = cc

pub map_refused : {X Y : Type 0} (a b : EventCircuitView) (conflicts : ℕ) (made : Result X EventError) (result : Result Y EventError) → ((e : EventError) → result ≡ Err e → made ≡ Err e) → (made ≡ Err event_error.TooManyEvents → IsTooMany a b) →
    ((side : Side) → made ≡ Err (event_error.TooLarge side) → IsTooHeavy a b side) → ((latch : Tag) (other : Option Tag) (proof : Proof) → made ≡ Err (event_error.Limit latch other proof) → IsLimitOf a b latch other conflicts proof) → IsRefusedMap a b conflicts result
map_refused a b conflicts made result same many large limit = record {
  many = λ is. many (same event_error.TooManyEvents is);
  large = λ side is. large side (same (event_error.TooLarge side) is);
  limit = λ latch other proof is. limit latch other proof (same (event_error.Limit latch other proof) is);
}
