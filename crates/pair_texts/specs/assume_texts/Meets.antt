-- What it means that runs and sequences meet an assumption, which is a circuit without latches: its outputs are 1 for their inputs.
use Rattle.std.specs.Prelude.{◌≡◌, ℕ, ◌<◌, ◌≤◌, Bool, true, List, Some, slice_get}
use Rattle.std.specs.List.{Contains}
use Rattle.circuit_theory.specs.Circuit.{Circuit, Meets}
use Rattle.circuit_theory.specs.Sequence.{row_value}
use Rattle.witness_report.specs.declared.stimulus.Stimulus.{Stimulus}

-- the circuit's outputs are 1 for all values that meet its equations and are as they are given
abbrev pub OutputsHold : {R : Type 0} → Circuit R → ((R → Bool) → Type 0) → Type 0
OutputsHold {R} c IsGiven = (v : R → Bool) → Meets c v → IsGiven v → (name : List ℕ) (o : R) → Contains c.outputs (record { name = name; place = o }) → v o ≡ true

-- each input of the circuit has the value of the other circuit's input of that name
abbrev pub HasInputsOf : {P R : Type 0} → Circuit R → Circuit P → (P → Bool) → (R → Bool) → Type 0
HasInputsOf {P} {R} c a now v = (name : List ℕ) (r : R) (p : P) → Contains c.inputs (record { name = name; place = r }) → Contains a.inputs (record { name = name; place = p }) → v r ≡ now p

-- the run of the circuit a meets the assumption c in each of its n cycles
abbrev pub RunMeetsCircuit : {P R : Type 0} → Circuit R → Circuit P → ℕ → (ℕ → P → Bool) → Type 0
RunMeetsCircuit c a n run = (t : ℕ) → t < n → OutputsHold c (HasInputsOf c a (run t))

-- each input of the circuit that the sequence names has the bit of the cycle's row
abbrev pub HasInputsIn : {R : Type 0} → Circuit R → Stimulus → ℕ → (R → Bool) → Type 0
HasInputsIn {R} c stimulus t v = (i : ℕ) (name : List ℕ) (r : R) → slice_get stimulus.names i ≡ Some name → Contains c.inputs (record { name = name; place = r }) → v r ≡ row_value stimulus.rows i t

-- the sequence meets the assumption c in each cycle up to the last one
abbrev pub SequenceMeetsCircuit : {R : Type 0} → Circuit R → Stimulus → ℕ → Type 0
SequenceMeetsCircuit c stimulus last = (t : ℕ) → t ≤ last → OutputsHold c (HasInputsIn c stimulus t)
