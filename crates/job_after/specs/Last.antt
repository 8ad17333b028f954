-- The last cycle of a search behind the rows of a stimulus.
use Rattle.std.specs.Prelude.{◌≡◌, ◌⊎◌, ℕ, ◌≤◌, false, List, [], Option, Some, None, Result, Ok, Err, Contains}
use Rattle.circuit_theory.specs.declared.Mode.TheVariants.{Plain}
use Rattle.circuit_theory.specs.declared.Side.{Side}
use Rattle.circuit_theory.specs.Circuit.{Circuit}
use Rattle.circuit_theory.specs.Fits.{IsPairDepth}
use Rattle.circuit_theory.specs.Interface.{first_mismatch}
use Rattle.flat_net.specs.View.{NetView, circuit_of, ports_of}
use Rattle.sec_setup.specs.declared.error.SetupError.{SetupError}
use Rattle.sec_setup.specs.declared.error.SetupError.TheVariants as unset
use Rattle.sec_setup.specs.Choosing.{RefusesCycleIn}
use Rattle.sec_setup.specs.Cycles.{IsAcyclic}
use Rattle.sec_setup.specs.Matching.{InterfacesMatch}
use Rattle.sec_setup.specs.ports.Pairs.{NamedPair, named_pairs}
use Rattle.job_after.specs.declared.fault.AfterFault.{AfterFault}
use Rattle.job_after.specs.declared.fault.AfterFault.TheVariants as fault

-- each pair has a depth, and this is the greatest; 0 without pairs
pub record IsGreatestDepth (c e : Circuit ℕ) (pairs : List (NamedPair ℕ ℕ)) (last : ℕ) : Type 0 where
  pub each : (x : NamedPair ℕ ℕ) → Contains pairs x → (depth : ℕ) × IsPairDepth c e x.left x.right depth × (depth ≤ last)
  pub reached : (last ≡ 0) ⊎ ((x : NamedPair ℕ ℕ) × Contains pairs x × IsPairDepth c e x.left x.right last)

-- no latch lies on a cycle, and this is the greatest depth of a pair of outputs
pub record IsDeepest (l r : NetView) (last : ℕ) : Type 0 where
  pub left_acyclic : IsAcyclic l
  pub right_acyclic : IsAcyclic r
  pub greatest : IsGreatestDepth (circuit_of l) (circuit_of r) (named_pairs [] (circuit_of l) (circuit_of r)) last

-- the last cycle that is to be compared: the wanted one, or without one that of the greatest depth
abbrev pub IsLast : NetView → NetView → Option ℕ → ℕ → Type 0
IsLast l r (Some wanted) last = last ≡ wanted
IsLast l r None last = IsDeepest l r last

-- the interfaces match, and this is told of a cycle of latches of A, or else of B
abbrev pub IsCyclic : NetView → NetView → Side → List (List ℕ) → Type 0
IsCyclic l r side names = InterfacesMatch l r × RefusesCycleIn Plain l r false (unset.Cyclic side names)

-- the greatest depth, or the first refusal: the interface; a cycle of A, of B
abbrev pub DecidesAll : NetView → NetView → Result ℕ SetupError → Type 0
DecidesAll l r (Ok last) = IsDeepest l r last
DecidesAll l r (Err (unset.Interface name)) = first_mismatch (ports_of l) (ports_of r) ≡ Some name
DecidesAll l r (Err (unset.Cyclic side names)) = IsCyclic l r side names
DecidesAll l r (Err other) = Unit {0}

-- the fault by it
abbrev pub setup_fault : SetupError → AfterFault
setup_fault (unset.Interface name) = fault.Interface name
setup_fault (unset.Cyclic side names) = fault.Cyclic side names
setup_fault other = fault.NoMemory

-- the last cycle, or the first refusal; with a wanted one there is none
abbrev pub EndsIn : NetView → NetView → Option ℕ → Result ℕ AfterFault → Type 0
EndsIn l r wanted (Ok last) = IsLast l r wanted last
EndsIn l r wanted (Err (fault.Interface name)) = first_mismatch (ports_of l) (ports_of r) ≡ Some name
EndsIn l r wanted (Err (fault.Cyclic side names)) = (wanted ≡ None) × IsCyclic l r side names
EndsIn l r wanted (Err fault.NoMemory) = Unit {0}
EndsIn l r wanted (Err other) = ⊥
