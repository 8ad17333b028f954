-- Interfaces that match, or the first name that is missing.
use Rattle.std.specs.Prelude.{◌≡◌, ℕ, List, Some, None}
use Rattle.circuit_theory.specs.Interface.{first_mismatch}
use Rattle.sec_setup.specs.ports.flat_net.View.{NetView, ports_of}
use Rattle.sec_setup.specs.declared.error.SetupError.{SetupError}
use Rattle.sec_setup.specs.declared.error.SetupError.TheVariants as refused

-- the interfaces match
abbrev pub InterfacesMatch : NetView → NetView → Type 0
InterfacesMatch a b = first_mismatch (ports_of a) (ports_of b) ≡ None

-- the interfaces don't match, and this is the first name; no other refusal comes of it
abbrev pub InterfaceFails : NetView → NetView → SetupError → Type 0
InterfaceFails a b (refused.Interface name) = first_mismatch (ports_of a) (ports_of b) ≡ Some name
InterfaceFails a b refused.NoMemory = Unit {0}
InterfaceFails a b other = ⊥

-- the refusal of a name, or want of memory
abbrev pub RefusesName : List ℕ → SetupError → Type 0
RefusesName name (refused.Interface word) = word ≡ name
RefusesName name refused.NoMemory = Unit {0}
RefusesName name other = ⊥
