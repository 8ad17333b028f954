-- Inputs at event nodes, as variables.
use Rattle.std.specs.Prelude.{◌≡◌, ◌⊎◌, ℕ, List, [], ◌∷◌, ◌++◌, slice_get, Option, Some, Contains}
use Rattle.circuit_theory.specs.Tree.{IsInputNumber}
use Rattle.circuit_theory.specs.EventSizes.{Start, EventVisits}
use Rattle.flat_net.specs.View.{circuit_of}
use Rattle.event_nodes.specs.Nodes.{EventGraphView}
use Rattle.event_nodes.specs.View.{EventCircuitView, side_of, Enabled}
use Rattle.event_nodes.specs.event_variables.Variables.{variable_of, AreInOrder}

-- the place's signal is an input, and the variable stands for it at the place's event node
pub record IsVariableAt (e : EventCircuitView) (w : EventGraphView) (p : ℕ × ℕ) (v : ℕ) : Type 0 where
  pub number : ℕ
  pub numbered : IsInputNumber (circuit_of e.net) e.order p.1 number
  pub at : slice_get w.places v ≡ Some (number, p.0)

-- the place's variable was put behind the others, if its signal is an input
abbrev pub IsVariablePut : EventCircuitView → EventGraphView → ℕ × ℕ → List ℕ → List ℕ → Type 0
IsVariablePut e w p old new = (((n : ℕ) → IsInputNumber (circuit_of e.net) e.order p.1 n → ⊥) × (new ≡ old)) ⊎ ((v : ℕ) × IsVariableAt e w p v × (new ≡ old ++ v ∷ []))

-- the variables of the inputs among the places, each once, in their order
pub record AreInputsOf (e : EventCircuitView) (w : EventGraphView) (places : List (ℕ × ℕ)) (vars : List ℕ) : Type 0 where
  pub in_order : AreInOrder w vars
  pub each : (v : ℕ) → Contains vars v → (p : ℕ × ℕ) × Contains places p × IsVariableAt e w p v
  pub all : (p : ℕ × ℕ) (n : ℕ) → Contains places p → IsInputNumber (circuit_of e.net) e.order p.1 n → (v : ℕ) × Contains vars v × IsVariableAt e w p v

-- the start visits the variable's input at its node
pub record IsVisitedInput (e : EventCircuitView) (x : Start ℕ) (input : ℕ) (path : List ℕ) : Type 0 where
  pub out : Option ℕ
  pub place : ℕ
  pub visit : EventVisits (side_of e) (Enabled e) (x ∷ []) out place path
  pub numbered : IsInputNumber (circuit_of e.net) e.order place input

-- the variables are those of the inputs that the start visits, each once, in their order
pub record AreVisitedInputs (e : EventCircuitView) (w : EventGraphView) (x : Start ℕ) (vars : List ℕ) : Type 0 where
  pub in_order : AreInOrder w vars
  pub each : (v : ℕ) → Contains vars v → IsVisitedInput e x (variable_of w v).input (variable_of w v).at
  pub all : (input : ℕ) (path : List ℕ) → IsVisitedInput e x input path → (v : ℕ) × Contains vars v × (variable_of w v ≡ record { input = input; at = path })
