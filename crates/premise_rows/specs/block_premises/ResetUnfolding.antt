-- An unfolder from initial values that has unfolded nothing, and one that has unfolded a latch in three cycles.
use Rattle.std.specs.Prelude.{◌≡◌, ◌==◌, ℕ, zero, suc, ◌≤◌, Bool, true, not, List, [], ◌∷◌, None, Some, slice_get, codes}
use Rattle.circuit_theory.specs.Circuit.{Circuit}
use Rattle.circuit_theory.specs.Cone.{latches_of}
use Rattle.circuit_theory.specs.Run.{IsResetRun}
use Rattle.circuit_theory.specs.Tree.{IsInputNumber}
use Rattle.circuit_laws.specs.reset_laws.Reset.{IsFree}
use Rattle.base_tables.specs.Table.{AreDistinct}
use Rattle.sec_base.specs.declared.basics.Init.TheVariants as init
use Rattle.sec_base.specs.declared.limits.TheConstants.{MAX_WEIGHT}
use Rattle.flat_net.specs.declared.parts.Driver.TheVariants as driver
use Rattle.flat_net.specs.Sound.{IsSound}
use Rattle.flat_net.specs.View.{NetView, circuit_of}
use Rattle.event_nodes.specs.aig.Lit.{Lit}
use Rattle.event_nodes.specs.aig.Node.{Node}
use Rattle.event_nodes.specs.aig.Node.TheVariants.{Constant, Input}
use Rattle.event_nodes.specs.aig.Graph.{IsGraph, Grows}
use Rattle.event_nodes.specs.aig.Builds.{HasOneLitEach, HasTreeValues}
use Rattle.event_nodes.specs.aig.Values.{value}
use Rattle.cbf_unfold.specs.unfold_places.Growing.{TakesBits}
use Rattle.cbf_unfold.specs.unfold_places.Reach.{Adds}
use Rattle.reset_form.specs.reset_unfold.Unfolded.{IsResetUnfolded, FitsReset}
use Rattle.reset_form.specs.reset_unfold.View.{ResetView, IsResetUnfolder}

-- 0 a; 1 p, which starts with 0 and takes over a; 2 q, which has no initial value and takes over p
abbrev pub two_in_row : NetView
two_in_row = record {
  inputs = record { name = codes "a"; signal = record { 0 = 0 } } ∷ [];
  outputs = record { name = codes "y"; signal = record { 0 = 2 } } ∷ [];
  gates = [];
  latches = record { name = codes "p"; next = record { 0 = 0 }; out = record { 0 = 1 }; init = init.Zero }
      ∷ record { name = codes "q"; next = record { 0 = 1 }; out = record { 0 = 2 }; init = init.Unknown } ∷ [];
  covers = [];
  drivers = driver.Input 0 ∷ driver.Latch 0 ∷ driver.Latch 1 ∷ [];
  names = codes "a" ∷ codes "p" ∷ codes "q" ∷ [];
  clock = None;
}

abbrev pub row_circuit : Circuit ℕ
row_circuit = circuit_of two_in_row

-- it has unfolded nothing; the input has the number 0, and the latches have 1 and 2
abbrev pub at_first : ResetView
at_first = record { net = two_in_row; order = 0 ∷ []; base = 1; cap = MAX_WEIGHT; done = []; memo = []; weight = 0 }

-- two variables: q in cycle 0, and a in cycle 0
abbrev pub two_places : List (ℕ × ℕ)
two_places = (2, 0) ∷ (0, 0) ∷ []

abbrev pub two_inputs : List Node
two_inputs = Constant ∷ Input 0 ∷ Input 1 ∷ []

-- a signal in a cycle, with its literal
abbrev pub at : ℕ → ℕ → ℕ → (ℕ × ℕ) × Lit
at cycle signal lit = ((cycle, signal), record { 0 = lit })

-- it has unfolded q in the cycles 0, 1 and 2: there q is what it powers up with, the initial value of p, and a in cycle 0
abbrev pub at_last : ResetView
at_last = record at_first {
  done = (0, 2) ∷ (1, 2) ∷ (2, 2) ∷ [];
  memo = at 0 2 2 ∷ at 0 1 0 ∷ at 1 2 0 ∷ at 0 0 4 ∷ at 1 1 4 ∷ at 2 2 4 ∷ [];
  weight = 6;
}

-- the signal has this literal and these variables in the cycle
abbrev pub UnfoldsTo : ℕ → ℕ → ℕ → List ℕ → Type 0
UnfoldsTo signal cycle lit vars = IsResetUnfolded two_in_row (0 ∷ []) 1 two_inputs two_places signal cycle lit vars

-- a run from the initial values in which all variables are 1
abbrev pub all_ones : ℕ → ℕ → Bool
all_ones zero p = not (p == 1)
all_ones (suc zero) p = not (p == 2)
all_ones (suc (suc t)) p = true

-- where all variables are 1 the literal has the value of q in the cycle
abbrev pub IsValueOfRun : ℕ → ℕ → Type 0
IsValueOfRun cycle lit = value two_inputs (λ v. true) lit ≡ all_ones cycle 2

-- The net is sound. The new unfolder fits the constant alone, and the later one the graph and the table that grew from it. On these q has its
-- literals and variables in all three cycles, and p in cycle 1 the tree of q in cycle 2. The variables have the values of their places in
-- a run from the initial values, and so have the literals of q.
pub record UnfoldersFit : Type 0 where
  pub sound : IsSound two_in_row
  pub is_unfolder : IsResetUnfolder at_first
  pub fits_first : FitsReset at_first (Constant ∷ []) []
  pub grows : Grows (Constant ∷ []) two_inputs
  pub adds : Adds (λ p. Unit {0}) [] two_places
  pub fits_last : FitsReset at_last two_inputs two_places
  pub graph : IsGraph two_inputs
  pub distinct : AreDistinct two_places
  pub one_literal : HasOneLitEach two_inputs
  pub tree_values : HasTreeValues two_inputs
  pub in_cycle_0 : UnfoldsTo 2 0 2 (0 ∷ [])
  pub in_cycle_1 : UnfoldsTo 2 1 0 []
  pub in_cycle_2 : UnfoldsTo 2 2 4 (1 ∷ [])
  pub before : UnfoldsTo 1 1 4 (1 ∷ [])
  pub same_tree : in_cycle_2.tree ≡ before.tree
  pub is_run : IsResetRun row_circuit 3 all_ones
  pub inputs : (p i k : ℕ) → IsInputNumber row_circuit (0 ∷ []) p i → k ≤ 2 → true ≡ all_ones k p
  pub latches : (j u : ℕ) → slice_get (latches_of row_circuit) j ≡ Some u → IsFree row_circuit u → true ≡ all_ones 0 u
  pub bits : TakesBits two_places (λ i k. true) (λ v. true)
  pub values : IsValueOfRun 0 2 × IsValueOfRun 1 0 × IsValueOfRun 2 4
