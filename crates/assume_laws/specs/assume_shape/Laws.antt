-- What the shape of an assumption means for the laws of comparison under one.
use Rattle.std.specs.Prelude.{ℕ, List, length, map}
use Rattle.std.specs.List.{Contains}
use Rattle.circuit_theory.specs.Circuit.{Circuit}
use Rattle.circuit_theory.specs.Interface.{AreNumbersOf}
use Rattle.sec_setup.specs.ports.flat_net.Sound.{IsSound}
use Rattle.sec_setup.specs.ports.flat_net.View.{NetView, ports_of}
use Rattle.assume_laws.specs.Assume.{IsAssumption, ReadsInputs}
use Rattle.assume_laws.specs.assume_shape.Shape.{HasShape, assumption_of}

-- A net of the shape, with a number for each of its inputs by their names among the columns, is an assumption; it reads inputs of each
-- circuit whose inputs are numbered by the columns and which has the columns as inputs.
abbrev pub ShapesAreAssumptions : Type 0
ShapesAreAssumptions = (n : NetView) (columns : List (List ℕ)) (order others : List ℕ) → IsSound n → (shape : HasShape n columns) → AreNumbersOf (ports_of n).inputs columns order others →
    IsAssumption (assumption_of n order shape.output.signal.0) (length n.drivers)
    × ((a : Circuit ℕ) (left right : List ℕ) → AreNumbersOf (map (λ p. p.name) a.inputs) columns left right →
    ((name : List ℕ) → Contains columns name → Contains (map (λ p. p.name) a.inputs) name) → ReadsInputs (assumption_of n order shape.output.signal.0) a left)
