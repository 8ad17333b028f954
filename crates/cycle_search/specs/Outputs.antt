-- The outputs of one circuit in cycles.
use Rattle.std.specs.Prelude.{◌≡◌, ◌≢◌, ◌⊎◌, ◌↔◌, ℕ, ◌<◌, ◌≤◌, List, Contains}
use Rattle.circuit_theory.specs.declared.Side.{Side}
use Rattle.circuit_theory.specs.declared.Side.TheVariants.{A, B}
use Rattle.flat_net.specs.View.{NetView}
use Rattle.aig.specs.declared.node.Lit.{Lit}
use Rattle.aig.specs.declared.node.Node.{Node}
use Rattle.cbf_unfold.specs.declared.unfold_places.signal_function.Unfolded.{Unfolded}
use Rattle.cbf_unfold.specs.shift_variables.cycle_variables.Cycles.{AreInCycles}
use Rattle.sec_setup.specs.declared.ports.pairs.SignalPair.{SignalPair}
use Rattle.sec_setup.specs.ports.Pairs.{outputs_of}
use Rattle.reset_form.specs.reset_functions.Pairs.{IsTooLarge}
use Rattle.reset_form.specs.reset_unfold.Unfolded.{IsResetUnfolded, IsKnown}

-- the pair's signal in this circuit
abbrev pub side_of : Side → SignalPair → ℕ
side_of A x = x.left.0
side_of B x = x.right.0

-- the function of the pair's signal in the cycle
abbrev pub IsFunctionIn : NetView → List ℕ → ℕ → List Node → List (ℕ × ℕ) → Side → ℕ → SignalPair → Unfolded → Type 0
IsFunctionIn n order base g places side cycle x u = IsResetUnfolded n order base g places (side_of side x) cycle u.lit.0 u.vars

-- the unfolder keeps the literal of the pair's signal in the cycle
abbrev pub IsLiteralIn : List ((ℕ × ℕ) × Lit) → Side → ℕ → SignalPair → Lit → Type 0
IsLiteralIn memo side cycle x lit = Contains memo ((cycle, side_of side x), lit)

-- The function of a signal in a cycle. Where the other signal has the same literal, it needn't have all variables.
pub record IsApart (n : NetView) (order : List ℕ) (base : ℕ) (g : List Node) (places : List (ℕ × ℕ)) (s cycle other : ℕ) (u : Unfolded) : Type 0 where
  pub known : IsKnown n order base g places (cycle, s) u.lit.0
  pub in_order : AreInCycles places u.vars
  pub function : u.lit.0 ≢ other → IsResetUnfolded n order base g places s cycle u.lit.0 u.vars

-- a signal of one of the pairs
abbrev pub IsSideOf : Side → List SignalPair → ℕ → Type 0
IsSideOf side pairs s = (x : SignalPair) × Contains pairs x × (s ≡ side_of side x)

-- one that was unfolded before, or one of the pairs' in the cycle
abbrev pub IsDoneOrIn : Side → List SignalPair → ℕ → List (ℕ × ℕ) → ℕ × ℕ → Type 0
IsDoneOrIn side pairs cycle done p = Contains done p ⊎ ((p.0 ≡ cycle) × IsSideOf side pairs p.1)

-- the pairs' signals in the cycle are unfolded besides those before
abbrev pub HasDoneIn : Side → List SignalPair → ℕ → List (ℕ × ℕ) → List (ℕ × ℕ) → Type 0
HasDoneIn side pairs cycle old new = (p : ℕ × ℕ) → Contains new p ↔ IsDoneOrIn side pairs cycle old p

-- what is unfolded are the pairs' signals in the cycles before this one
abbrev pub HasDoneBefore : Side → List SignalPair → ℕ → List (ℕ × ℕ) → Type 0
HasDoneBefore side pairs cycle done = (p : ℕ × ℕ) → Contains done p ↔ ((p.0 < cycle) × IsSideOf side pairs p.1)

-- an output in a cycle up to the last
abbrev pub IsOutputUpTo : NetView → ℕ → ℕ × ℕ → Type 0
IsOutputUpTo n last p = (p.0 ≤ last) × Contains (outputs_of n) p.1

-- all outputs in the cycles up to this one weigh more than 2,000,000 together
abbrev pub IsTooLargeIn : NetView → ℕ → Type 0
IsTooLargeIn n cycle = IsTooLarge n (IsOutputUpTo n cycle)

-- the same of A or of B
abbrev pub IsOneTooLarge : NetView → NetView → ℕ → Side → Type 0
IsOneTooLarge a b cycle A = IsTooLargeIn a cycle
IsOneTooLarge a b cycle B = IsTooLargeIn b cycle
