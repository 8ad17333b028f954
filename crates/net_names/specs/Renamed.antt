-- A circuit whose latches have other names, and so a net.
use Rattle.std.specs.Prelude.{◌≡◌, ◌≢◌, ◌↔◌, ℕ, ◌⊎◌, Bool, if◌then◌else◌, List, [], ◌∷◌, map, Contains, bytes_eq, codes, refl}
use Rattle.circuit_theory.specs.declared.Side.{Side}
use Rattle.circuit_theory.specs.declared.Side.TheVariants.{A, B}
use Rattle.circuit_theory.specs.Circuit.{Circuit, Equation, Gate, Latch, Port}
use Rattle.circuit_theory.specs.Run.{IsRun}
use Rattle.flat_net.specs.declared.parts.LatchAt.{LatchAt}
use Rattle.flat_net.specs.View.{NetView, circuit_of}
use Rattle.net_names.specs.declared.latch_pairs.LatchPair.{LatchPair}

-- the pair's name of a latch of this side
abbrev pub name_on : Side → LatchPair → List ℕ
name_on A p = p.left
name_on B p = p.right

-- the name that a latch of B is to have: that of A's latch which it is paired with, and its own where it isn't paired
abbrev pub new_name : List LatchPair → List ℕ → List ℕ
new_name [] name = name
new_name (p ∷ ps) name = if bytes_eq p.right name then p.left else new_name ps name

-- a latch under its new name
abbrev pub renamed_equation : {P : Type 0} → List LatchPair → Equation P → Equation P
renamed_equation ps (Gate out fanins cover) = Gate out fanins cover
renamed_equation ps (Latch name out next) = Latch (new_name ps name) out next
renamed_equation ps (Port out from) = Port out from

-- The circuit with its latches under their new names, all at once. Inputs, outputs, gates, initial values and so the runs are the same.
abbrev pub renamed : {P : Type 0} → List LatchPair → Circuit P → Circuit P
renamed ps c = record c { equations = map (renamed_equation ps) c.equations }

abbrev pub renamed_latch : List LatchPair → LatchAt → LatchAt
renamed_latch ps l = record l { name = new_name ps l.name }

-- The second net is the first with its latches under their new names: inputs, outputs and drivers are the same, and so is the circuit but for the
-- names of its latches. A gate's signal may have another name, and a cover another number.
pub record IsRenamed (ps : List LatchPair) (n m : NetView) : Type 0 where
  pub inputs : m.inputs ≡ n.inputs
  pub outputs : m.outputs ≡ n.outputs
  pub latches : m.latches ≡ map (renamed_latch ps) n.latches
  pub drivers : m.drivers ≡ n.drivers
  pub clock : m.clock ≡ n.clock
  pub circuit : circuit_of m ≡ renamed ps (circuit_of n)

-- An input of the net has the pair's first name, or another latch has it once all have their new names.
abbrev pub IsTaken : NetView → List LatchPair → LatchPair → Type 0
IsTaken n ps p = Contains (map (λ i. i.name) n.inputs) p.left ⊎ ((l : LatchAt) × Contains n.latches l × (l.name ≢ p.right) × (new_name ps l.name ≡ p.left))

-- the runs of a net's circuit under other names are its own
abbrev pub RenamingKeepsRuns : Type 0
RenamingKeepsRuns = (ps : List LatchPair) (net : NetView) (n : ℕ) (run : ℕ → ℕ → Bool) → IsRun (circuit_of net) n run ↔ IsRun (renamed ps (circuit_of net)) n run

-- two names that are exchanged, and one that stays
abbrev swapped : List LatchPair
swapped = record { line = 1; left = codes "a"; right = codes "b" } ∷ record { line = 2; left = codes "b"; right = codes "a" } ∷ []

exchanged : (new_name swapped (codes "a") ≡ codes "b") × (new_name swapped (codes "b") ≡ codes "a") × (new_name swapped (codes "c") ≡ codes "c")
exchanged = (refl, refl, refl)
