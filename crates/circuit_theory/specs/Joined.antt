-- Two circuits as one, side by side.
use Rattle.std.specs.Prelude.{Bool, ◌++◌, map}
use Rattle.circuit_theory.specs.Circuit.{Circuit, Equation, Gate, Latch, Port, Named, Started}

-- a place of A or of B
pub data Either (P Q : Type 0) : Type 0 where
  Left : (p : P) → Either P Q
  Right : (q : Q) → Either P Q

-- an equation over other places
abbrev pub moved : {P Q : Type 0} → (P → Q) → Equation P → Equation Q
moved f (Gate out fanins cover) = Gate (f out) (map f fanins) cover
moved f (Latch name out next) = Latch name (f out) (f next)
moved f (Port out from) = Port (f out) (f from)

-- a named place, moved
abbrev pub moved_name : {P Q : Type 0} → (P → Q) → Named P → Named Q
moved_name f n = record { name = n.name; place = f n.place }

-- an initial value, moved
abbrev pub moved_start : {P Q : Type 0} → (P → Q) → Started P → Started Q
moved_start f x = record { place = f x.place; bit = x.bit }

-- both circuits side by side, A first
abbrev pub joined : {P Q : Type 0} → Circuit P → Circuit Q → Circuit (Either P Q)
joined a b = record {
  inputs = map (moved_name Left) a.inputs ++ map (moved_name Right) b.inputs;
  outputs = map (moved_name Left) a.outputs ++ map (moved_name Right) b.outputs;
  equations = map (moved Left) a.equations ++ map (moved Right) b.equations;
  starts = map (moved_start Left) a.starts ++ map (moved_start Right) b.starts;
}

-- values of both circuits side by side
abbrev pub beside : {P Q : Type 0} → (P → Bool) → (Q → Bool) → Either P Q → Bool
beside l r (Left p) = l p
beside l r (Right q) = r q
