-- What is found of the cares of pairs.
use Rattle.std.specs.Prelude.{◌≡◌, ℕ, Bool, List, Option}
use Rattle.circuit_theory.specs.Joined.{Either, Left, Right}
use Rattle.circuit_theory.specs.Run.{IsEnabled}
use Rattle.circuit_theory.specs.Tree.{Tree}
use Rattle.circuit_theory.specs.EventFrames.{IsPairTree}
use Rattle.circuit_theory.specs.Frame.{EventSide, ConeLatches, HasCare}
use Rattle.sec_setup.specs.declared.ports.pairs.SignalPair.{SignalPair}
use Rattle.assume_laws.specs.Assume.{Assumption, HasCareUnder}
use Rattle.assume_laws.specs.Sequences.{IsPairTreeUnder}
use Rattle.event_settles.specs.Idle.{IdleIs}
use Rattle.event_settles.specs.Undecided.{IsCareUndecided}
use Rattle.event_settles.specs.declared.cares.Care.{Care}
use Rattle.event_settles.specs.declared.cares.Care.TheVariants as care
use Rattle.event_settles.specs.declared.cares.IdleLatch.{IdleLatch}
use Rattle.event_settles.specs.declared.cares.PairCare.{PairCare}

-- the frame has care for both sides of a pair
abbrev pub HasBothCares : EventSide (Either ℕ ℕ) → SignalPair → (ℕ → List ℕ → Bool) → Type 0
HasBothCares s p bits = HasCare s (IsEnabled s.circuit) (ConeLatches s.circuit (Left p.left.0)) bits × HasCare s (IsEnabled s.circuit) (ConeLatches s.circuit (Right p.right.0)) bits

-- it meets the assumption, too, at each node that has a variable of the pair
abbrev pub HasBothCaresUnder : Assumption → EventSide (Either ℕ ℕ) → SignalPair → (ℕ → List ℕ → Bool) → Type 0
HasBothCaresUnder c s p bits = HasCareUnder c s (Left p.left.0) (Right p.right.0) bits

-- Some frame has care; or none has; or it wasn't decided.
abbrev pub CareIs : ((ℕ → List ℕ → Bool) → Type 0) → (Tree (List ℕ) → Type 0) → ℕ → Care → Type 0
CareIs Cared IsTree conflicts care.Met = (bits : ℕ → List ℕ → Bool) × Cared bits
CareIs Cared IsTree conflicts (care.Never idle) = (bits : ℕ → List ℕ → Bool) → Cared bits → ⊥
CareIs Cared IsTree conflicts (care.Limit proof) = IsCareUndecided Cared IsTree conflicts proof

-- The same of the care for both sides of a pair. With a pair without care stands the first latch of a class whose loads can't happen, if any.
pub record CareFits (s : EventSide (Either ℕ ℕ)) (conflicts : ℕ) (p : SignalPair) (c : PairCare) : Type 0 where
  pub name_is : c.name ≡ p.name
  pub care_is : CareIs (HasBothCares s p) (IsPairTree s (Left p.left.0) (Right p.right.0)) conflicts c.care
  pub idle_is : (idle : Option IdleLatch) → c.care ≡ care.Never idle → IdleIs s conflicts idle

-- And under an assumption; that latch is what it is without the assumption, too.
pub record CareFitsUnder (a : Assumption) (s : EventSide (Either ℕ ℕ)) (conflicts : ℕ) (p : SignalPair) (c : PairCare) : Type 0 where
  pub name_is : c.name ≡ p.name
  pub care_is : CareIs (HasBothCaresUnder a s p) (IsPairTreeUnder a s (Left p.left.0) (Right p.right.0)) conflicts c.care
  pub idle_is : (idle : Option IdleLatch) → c.care ≡ care.Never idle → IdleIs s conflicts idle
