-- What a circuit is as an assumption on inputs of some names, or why it isn't taken.
use Rattle.std.specs.Prelude.{ℕ, ◌≤◌, Bool, List, [], ◌∷◌, Some}
use Rattle.circuit_theory.specs.Interface.{AreNumbersOf}
use Rattle.circuit_theory.specs.Sizes.{IsWeight, IsOver}
use Rattle.sec_base.specs.declared.limits.TheConstants.{MAX_WEIGHT}
use Rattle.flat_net.specs.Sound.{IsSound}
use Rattle.flat_net.specs.View.{NetView, circuit_of, ports_of}
use Rattle.pair_decide.specs.declared.query.Proof.{Proof}
use Rattle.pair_decide.specs.declared.query.SameBy.{SameBy}
use Rattle.pair_decide.specs.declared.query.Decision.TheVariants as decision
use Rattle.assume_laws.specs.Assume.{Assumption, RowMeets}
use Rattle.assume_laws.specs.declared.assume_shape.shape.ShapeFault.{ShapeFault}
use Rattle.assume_laws.specs.declared.assume_shape.shape.ShapeFault.TheVariants as fault
use Rattle.assume_laws.specs.assume_shape.Shape.{HasShape, IsShapeFault, assumption_of}
use Rattle.assume_queries.specs.assume_sequences.assume_taken.Asked.{IsAnswered}

-- A net as an assumption on inputs of these names: it has the shape, its inputs have the places of their names as numbers, and what its
-- output reads weighs at most 2,000,000.
pub record IsAssumed (names : List (List ℕ)) (c : NetView) : Type 0 where
  pub sound : IsSound c
  pub shape : HasShape c names
  pub order : List ℕ
  pub others : List ℕ
  pub numbers : AreNumbersOf (ports_of c).inputs names order others
  pub weight : ℕ
  pub weighs : IsWeight (circuit_of c) (shape.output.signal.0 ∷ []) weight
  pub light : weight ≤ MAX_WEIGHT

-- the assumption that it is
abbrev pub assumed_by : {names : List (List ℕ)} {c : NetView} → IsAssumed names c → Assumption
assumed_by {names} {c} is = assumption_of c is.order is.shape.output.signal.0

-- the first fault in this order: a latch, a number of outputs that isn't one, an input of another name, the weight
abbrev pub IsFirstFault : List (List ℕ) → NetView → ShapeFault → Type 0
IsFirstFault names c (fault.Latch name) = IsShapeFault c names (Some (fault.Latch name))
IsFirstFault names c (fault.Outputs count) = IsShapeFault c names (Some (fault.Outputs count))
IsFirstFault names c (fault.Input name) = IsShapeFault c names (Some (fault.Input name))
IsFirstFault names c fault.TooLarge = (shape : HasShape c names) × IsOver (circuit_of c) (shape.output.signal.0 ∷ []) MAX_WEIGHT

-- the net is an assumption that no row meets, which its query shows so
pub record IsVacuousBy (names : List (List ℕ)) (c : NetView) (conflicts : ℕ) (by : SameBy) : Type 0 where
  pub assumed : IsAssumed names c
  pub same : IsAnswered (assumed_by assumed) conflicts (decision.Same by)
  pub never : (row : ℕ → Bool) → RowMeets (assumed_by assumed) row → ⊥

-- its query met the limit
pub record IsUndecidedBy (names : List (List ℕ)) (c : NetView) (conflicts : ℕ) (proof : Proof) : Type 0 where
  pub assumed : IsAssumed names c
  pub limit : IsAnswered (assumed_by assumed) conflicts (decision.Limit proof)
