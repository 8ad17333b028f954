-- The places of a circuit.
use Rattle.std.specs.Prelude.{◌≡◌, ℕ, List}
use Rattle.std.specs.List.{Contains}
use Rattle.circuit_theory.specs.Cover.{Cover}
use Rattle.circuit_theory.specs.Circuit.{Circuit, Equation, Gate, Port, IsInput, IsLatch, out_of}

-- A place stands in an equation, or is an input or an output.
pub data IsPlace {P : Type 0} (c : Circuit P) (p : P) : Type 0 where
  input : IsInput c p → IsPlace c p
  output : {name : List ℕ} → Contains c.outputs (record { name = name; place = p }) → IsPlace c p
  driven : {e : Equation P} → Contains c.equations e → out_of e ≡ p → IsPlace c p
  fanin : {out : P} {fanins : List P} {cover : Cover} → Contains c.equations (Gate out fanins cover) → Contains fanins p → IsPlace c p
  next : {name : List ℕ} {out : P} → IsLatch c name out p → IsPlace c p
  from : {out : P} → Contains c.equations (Port out p) → IsPlace c p
