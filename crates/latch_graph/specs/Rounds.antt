-- Rounds of latches, each of which waits for the next.
use Rattle.std.specs.Prelude.{◌≡◌, ◌≢◌, ℕ, ◌+◌, ◌-◌, ◌<◌, ◌≤◌, ◌⊎◌, Bool, true, List, length, slice_get, slice_index_or, Some}
use Rattle.circuit_theory.specs.Names.{ListBefore}
use Rattle.circuit_theory.specs.Circuit.{Reaches}
use Rattle.circuit_theory.specs.Depth.{after_in_round}
use Rattle.signal_graph.specs.flat_net.Table.{AreDistinct}
use Rattle.signal_graph.specs.flat_net.LatchAt.{LatchAt}
use Rattle.signal_graph.specs.flat_net.View.{NetView, circuit_of}
use Rattle.signal_graph.specs.flat_net.Cut.{no_latch}
use Rattle.signal_graph.specs.declared.nodes.Node.{Node}
use Rattle.latch_graph.specs.declared.states.State.{State}
use Rattle.latch_graph.specs.declared.states.State.TheVariants.{New, Endless, Removed}
use Rattle.signal_graph.specs.Graph.{IsGraphOf}
use Rattle.signal_graph.specs.inner_cone.latch_cone.Cones.{IsMarkedBy}

abbrev pub latch_in : List LatchAt → ℕ → LatchAt
latch_in latches j = slice_index_or latches j no_latch

-- a latch that leads back to a cycle
pub record IsEndless (latches : List LatchAt) (states : List State) (j : ℕ) : Type 0 where
  pub within : j < length latches
  pub endless : slice_get states (latch_in latches j).out.0 ≡ Some Endless

-- the first latch takes over what depends on the second through gates, and is another one where its self-edge is left out
abbrev pub TakesOver : List Node → List LatchAt → ℕ → ℕ → Type 0
TakesOver nodes latches j k =
    (n : NetView) (bits : List Bool) → IsGraphOf n (record { nodes = nodes; latches = latches; skipped = bits }) → Reaches (circuit_of n) (latch_in latches j).next.0 (latch_in latches k).out.0 × (IsMarkedBy latches bits (latch_in latches j).out.0 → (latch_in latches j).out.0 ≢ (latch_in latches k).out.0)

-- the latches that were passed, each once, and the latch that comes next
pub record IsTrail (nodes : List Node) (latches : List LatchAt) (states : List State) (passed : List Bool) (trail : List ℕ) (at : ℕ) : Type 0 where
  pub size : length passed ≡ length latches
  pub ends : IsEndless latches states at
  pub on : (i j : ℕ) → slice_get trail i ≡ Some j → IsEndless latches states j × (slice_get passed j ≡ Some true)
  pub off : (j : ℕ) → slice_get passed j ≡ Some true → (i : ℕ) × (slice_get trail i ≡ Some j)
  pub distinct : AreDistinct trail
  pub edges : (i j k : ℕ) → slice_get trail i ≡ Some j → slice_get trail (i + 1) ≡ Some k → TakesOver nodes latches j k
  pub last : (i j : ℕ) → i + 1 ≡ length trail → slice_get trail i ≡ Some j → TakesOver nodes latches j at

-- distinct latches that lead back to a cycle, each of which takes over what depends on the next, the last on the first
pub record IsRound (nodes : List Node) (latches : List LatchAt) (states : List State) (round : List ℕ) : Type 0 where
  pub some : 0 < length round
  pub endless : (i j : ℕ) → slice_get round i ≡ Some j → IsEndless latches states j
  pub distinct : AreDistinct round
  pub edges : (i j k : ℕ) → slice_get round i ≡ Some j → slice_get round (after_in_round (length round) i) ≡ Some k → TakesOver nodes latches j k

-- x is the latch that stands i places before the first one's place in the round
abbrev pub StandsBack : List ℕ → ℕ → ℕ → ℕ → Type 0
StandsBack round first i x = ((i ≤ first) × (slice_get round (first - i) ≡ Some x)) ⊎ ((first < i) × (slice_get round (length round + first - i) ≡ Some x))

-- no latch of the round has a name before that of the one at this place
abbrev pub IsLeast : List LatchAt → List ℕ → ℕ → Type 0
IsLeast latches round first = (i j x : ℕ) → slice_get round i ≡ Some j → slice_get round first ≡ Some x → ListBefore (latch_in latches j).name (latch_in latches x).name → ⊥

-- the round the other way, from the latch with the least name on
pub record IsTurned (latches : List LatchAt) (round turned : List ℕ) : Type 0 where
  pub first : ℕ
  pub within : first < length round
  pub least : IsLeast latches round first
  pub size : length turned ≡ length round
  pub back : (i x : ℕ) → slice_get turned i ≡ Some x → StandsBack round first i x

-- a round, turned
pub record IsTurnedRound (nodes : List Node) (latches : List LatchAt) (states : List State) (turned : List ℕ) : Type 0 where
  pub round : List ℕ
  pub closed : IsRound nodes latches states round
  pub turn : IsTurned latches round turned

-- nothing is known but which of the first so many latches are removed
pub record AreRemoved (latches : List LatchAt) (bits : List Bool) (count : ℕ) (states : List State) : Type 0 where
  pub from : (s : ℕ) (st : State) → slice_get states s ≡ Some st → (st ≡ New) ⊎ ((st ≡ Removed) × (j : ℕ) × (l : LatchAt) × (slice_get latches j ≡ Some l) × (slice_get bits j ≡ Some true) × (l.out.0 ≡ s))
  pub marked : (j : ℕ) (l : LatchAt) → j < count → slice_get latches j ≡ Some l → slice_get bits j ≡ Some true → slice_get states l.out.0 ≡ Some Removed
