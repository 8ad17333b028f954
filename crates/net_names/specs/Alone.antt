-- A circuit with the outputs of one name alone, and so a net; or a net without those of some names.
use Rattle.std.specs.Prelude.{◌≡◌, ℕ, Bool, not, List, [], ◌∷◌, bytes_eq, codes, refl}
use Rattle.std.specs.List.{filter, list_any}
use Rattle.base_tables.specs.Table.{is_among}
use Rattle.circuit_theory.specs.Circuit.{Circuit}
use Rattle.flat_net.specs.View.{NetView, circuit_of}
use Rattle.net_names.specs.declared.alone.Outputs.{Outputs}
use Rattle.net_names.specs.declared.alone.Outputs.TheVariants as outputs

-- the circuit with its outputs of this name, and no others
abbrev pub only_output : {P : Type 0} → List ℕ → Circuit P → Circuit P
only_output name c = record c { outputs = filter (λ o. bytes_eq o.name name) c.outputs }

-- some output of the net has this name
abbrev pub shows_output : NetView → List ℕ → Bool
shows_output n name = list_any (λ port. bytes_eq port.name name) n.outputs

-- whether these outputs are to be shown: those of one name, or all but those of some names
abbrev pub passes : Outputs → List ℕ → Bool
passes (outputs.Of name) o = bytes_eq o name.now
passes (outputs.AllBut names) o = not (is_among names.now o)

-- The second net is the first with its outputs whose names pass the test: inputs, latches, names and drivers are the same, and so is the circuit but
-- for its outputs. A cover may have another number.
pub record IsShowing (test : List ℕ → Bool) (n m : NetView) : Type 0 where
  pub inputs : m.inputs ≡ n.inputs
  pub outputs : m.outputs ≡ filter (λ port. test port.name) n.outputs
  pub latches : m.latches ≡ n.latches
  pub drivers : m.drivers ≡ n.drivers
  pub names : m.names ≡ n.names
  pub clock : m.clock ≡ n.clock
  pub circuit : circuit_of m ≡ record (circuit_of n) { outputs = filter (λ o. test o.name) (circuit_of n).outputs }

-- the outputs of this name alone
abbrev pub IsAlone : List ℕ → NetView → NetView → Type 0
IsAlone name n m = IsShowing (λ o. bytes_eq o name) n m

-- all outputs but those of these names
abbrev pub IsWithout : List (List ℕ) → NetView → NetView → Type 0
IsWithout names n m = IsShowing (λ o. not (is_among names o)) n m

-- two outputs, one of which is asked for
one_left : only_output {P = ℕ} (codes "y") (record { inputs = []; outputs = record { name = codes "x"; place = 0 } ∷ record { name = codes "y"; place = 1 } ∷ []; equations = []; starts = [] })
    ≡ record { inputs = []; outputs = record { name = codes "y"; place = 1 } ∷ []; equations = []; starts = [] }
one_left = refl
