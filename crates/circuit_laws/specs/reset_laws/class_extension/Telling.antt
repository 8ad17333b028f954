-- What tells the next latch from a member of a class.
use Rattle.std.specs.Prelude.{◌≡◌, ◌≢◌, ℕ, Bool, false, List, ◌∷◌, ◌++◌, length, Contains}
use Rattle.circuit_theory.specs.Query.{Variable}
use Rattle.circuit_theory.specs.Frame.{EventSide}
use Rattle.circuit_theory.specs.Classes.{EnableCare, EnableAtRoot, EnablesEqual}
use Rattle.circuit_theory.specs.EventFrames.{AreNodeVariables, IsClassTree, frame_of}

-- The member is the first one of its class, of the latches that were taken, whose enable the latch's differs from: in the frame both have
-- care, and the two enables have these values.
pub record TellsApart {P : Type 0} (s : EventSide P) (taken : List P) (low : ℕ) (member latch : P) (variables : List (Variable (List ℕ))) (bits : List Bool) (l r : Bool) : Type 0 where
  pub before : List P
  pub after : List P
  pub split : taken ≡ before ++ member ∷ after
  pub class_is : s.class member ≡ low
  pub earlier : (u : P) → Contains before u → s.class u ≡ low → EnablesEqual s u latch
  pub are_variables : AreNodeVariables (IsClassTree s member latch) variables
  pub each : length bits ≡ length variables
  pub left_care : EnableCare s (frame_of variables bits) member
  pub right_care : EnableCare s (frame_of variables bits) latch
  pub left_is : EnableAtRoot s (frame_of variables bits) member l
  pub right_is : EnableAtRoot s (frame_of variables bits) latch r
  pub differ : l ≢ r

-- in the frame the latch's enable has care and is 0
pub record TellsFromAlways {P : Type 0} (s : EventSide P) (latch : P) (variables : List (Variable (List ℕ))) (bits : List Bool) : Type 0 where
  pub are_variables : AreNodeVariables (IsClassTree s latch latch) variables
  pub each : length bits ≡ length variables
  pub care : EnableCare s (frame_of variables bits) latch
  pub off : EnableAtRoot s (frame_of variables bits) latch false
