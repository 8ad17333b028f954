-- A latch behind a shift register of 10,000 latches.
use Rattle.std.specs.Prelude.{◌≡◌, ◌≤◌, ℕ, zero, suc, true, false, List, [], ◌∷◌, ◌++◌, length, Some, None, slice_get, codes, replicate}
use Rattle.circuit_theory.specs.Joined.{Left}
use Rattle.sec_base.specs.declared.basics.Init.TheVariants as init
use Rattle.flat_net.specs.declared.parts.Driver.TheVariants as driver
use Rattle.flat_net.specs.declared.parts.LatchAt.{LatchAt}
use Rattle.flat_net.specs.Sound.{IsSound}
use Rattle.flat_net.specs.View.{NetView}
use Rattle.event_nodes.specs.Adds.{Adds}
use Rattle.event_nodes.specs.aig.Node.TheVariants.{Constant}
use Rattle.event_nodes.specs.Nodes.{EventGraphView, IsEventGraph}
use Rattle.event_nodes.specs.View.{EventCircuitView}
use Rattle.event_nodes.specs.Visited.{AreNodesFrom}
use Rattle.edbf_unfold.specs.event_literals.event_walk.Walk.{enable_start}
use Rattle.event_classes.specs.event_functions.class_totals.Laws.{nothing}
use Rattle.event_classes.specs.event_functions.class_totals.Totals.{HaveCounted, ReachTooMany}
use Rattle.call_rows.specs.circuit_samples.event_samples.Samples.{load_cover}
use Rattle.premise_rows.specs.event_pair_premises.Held.{loads_a}

-- the first so many values
unfoldable pub first_of : {X : Type 0} → (ℕ → X) → ℕ → List X
first_of f zero = []
first_of f (suc n) = first_of f n ++ f n ∷ []

-- each signal has a name of its own: so many letters s, and one more
unfoldable pub name_of : ℕ → List ℕ
name_of k = replicate (suc k) 115

-- a latch of the shift register takes over the signal before
abbrev pub shift_latch : ℕ → LatchAt
shift_latch k = record { name = name_of (suc k); next = record { 0 = k }; out = record { 0 = suc k }; init = init.Unknown }

abbrev pub last_latch : ℕ → LatchAt
last_latch n = record { name = name_of (suc n); next = record { 0 = suc (suc n) }; out = record { 0 = suc n }; init = init.Unknown }

-- 0 an input; from 1 on a shift register of n latches, the first of which takes over the input; n + 1 q, which loads the input under the last of them;
-- n + 2 what q takes over
abbrev pub shifted : ℕ → NetView
shifted n = record {
  inputs = record { name = name_of 0; signal = record { 0 = 0 } } ∷ [];
  outputs = record { name = codes "y"; signal = record { 0 = suc n } } ∷ [];
  gates = record { fanins = record { 0 = n } ∷ record { 0 = 0 } ∷ record { 0 = suc n } ∷ []; cover = 0; out = record { 0 = suc (suc n) } } ∷ [];
  latches = first_of shift_latch n ++ last_latch n ∷ [];
  covers = load_cover ∷ [];
  drivers = driver.Input 0 ∷ (first_of driver.Latch (suc n) ++ driver.Gate 0 ∷ []);
  names = first_of name_of (suc (suc (suc n)));
  clock = None;
}

-- no latch has a class besides `always`
abbrev pub behind_shift : ℕ → EventCircuitView
behind_shift n = record { net = shifted n; enabled = first_of (λ k. false) n ++ true ∷ []; order = 0 ∷ []; classes = first_of (λ k. 0) (suc n) }

-- so many event nodes besides the root, each the child of the one before by class 0
abbrev pub chain : ℕ → List (ℕ × ℕ)
chain n = first_of (λ k. (k, 0)) n

abbrev pub along : ℕ → EventGraphView
along n = record { graph = Constant ∷ []; children = chain n; places = [] }

-- The enable of q reaches the last latch of the shift register at the root, and each one before at the node with one step more. So 10,000 event nodes
-- are made besides the root, each of which it reaches, and too many are reached.
pub record ShiftMeetsPremises : Type 0 where
  pub sound : IsSound (shifted 10000)
  pub other_sound : IsSound loads_a.net
  pub at : slice_get (shifted 10000).latches 10000 ≡ Some (last_latch 10000)
  pub begins : HaveCounted (behind_shift 10000) loads_a [] [] nothing nothing
  pub events : IsEventGraph (along 10000)
  pub made : Adds (λ (q : ℕ × ℕ). Unit {0}) [] (chain 10000)
  pub many : 10000 ≤ length (chain 10000)
  pub nodes : AreNodesFrom (behind_shift 10000) (chain 10000) (enable_start (last_latch 10000)) 0
  pub too_many : ReachTooMany (behind_shift 10000) loads_a (Left 10001 ∷ [])
