-- How far the depths are found.
use Rattle.std.specs.Prelude.{◌≡◌, ℕ, ◌+◌, ◌<◌, ◌≤◌, ◌⊎◌, List, length, slice_get, Option, Some, None}
use Rattle.std.specs.List.{sum_by}
use Rattle.signal_graph.specs.flat_net.Signal.{Signal}
use Rattle.signal_graph.specs.declared.nodes.Node.{Node}
use Rattle.signal_graph.specs.Graph.{step_of}
use Rattle.latch_graph.specs.declared.states.State.{State}
use Rattle.latch_graph.specs.declared.states.State.TheVariants.{New, Open, Known, Endless, Removed}
use Rattle.latch_graph.specs.declared.states.Step.{Step}

-- the depth that a state tells; a removed latch is as an input
abbrev pub depth_of : State → Option ℕ
depth_of New = None
depth_of Open = None
depth_of (Known d) = Some d
depth_of Endless = None
depth_of Removed = Some 0

-- the signal has this depth in the table
abbrev pub HasDepth : List State → ℕ → ℕ → Type 0
HasDepth states s d = (st : State) × (slice_get states s ≡ Some st) × (depth_of st ≡ Some d)

-- d is the greatest depth of these signals, each of which has one; 0 where there is no signal
pub record IsGreatest (states : List State) (reads : List Signal) (d : ℕ) : Type 0 where
  pub each : (k : ℕ) (r : Signal) → slice_get reads k ≡ Some r → (e : ℕ) × HasDepth states r.0 e × (e ≤ d)
  pub reached : (d ≡ 0) ⊎ ((k : ℕ) × (r : Signal) × (slice_get reads k ≡ Some r) × HasDepth states r.0 d)

-- d is the depth that the node has by the depths of what it reads
abbrev pub IsDepthOf : List State → Node → ℕ → Type 0
IsDepthOf states node d = (e : ℕ) × IsGreatest states node.reads e × (d ≡ e + step_of node.latch)

-- the node reads a signal without depth
abbrev pub ReadsEndless : List State → Node → Type 0
ReadsEndless states node = (k : ℕ) × (r : Signal) × (slice_get node.reads k ≡ Some r) × (slice_get states r.0 ≡ Some Endless)

-- what is claimed of a signal in this state
abbrev pub IsRight : List State → Node → State → Type 0
IsRight states node New = Unit {0}
IsRight states node Open = Unit {0}
IsRight states node (Known d) = IsDepthOf states node d
IsRight states node Endless = ReadsEndless states node
IsRight states node Removed = Unit {0}

-- the state is final
abbrev pub IsFinal : State → Type 0
IsFinal New = ⊥
IsFinal Open = ⊥
IsFinal (Known d) = Unit {0}
IsFinal Endless = Unit {0}
IsFinal Removed = Unit {0}

-- nothing is found yet
abbrev pub IsFirst : State → Type 0
IsFirst New = Unit {0}
IsFirst Open = ⊥
IsFirst (Known d) = ⊥
IsFirst Endless = ⊥
IsFirst Removed = Unit {0}

-- each state is right by the others
pub record IsTable (nodes : List Node) (states : List State) : Type 0 where
  pub size : length states ≡ length nodes
  pub right : (s : ℕ) (node : Node) (st : State) → slice_get nodes s ≡ Some node → slice_get states s ≡ Some st → IsRight states node st

-- the table is right, and each state final
pub record IsSettled (nodes : List Node) (states : List State) : Type 0 where
  pub table : IsTable nodes states
  pub final : (s : ℕ) (st : State) → slice_get states s ≡ Some st → IsFinal st

-- the same latches are removed
pub record SameRemoved (old new : List State) : Type 0 where
  pub stay : (s : ℕ) → slice_get old s ≡ Some Removed → slice_get new s ≡ Some Removed
  pub were : (s : ℕ) → slice_get new s ≡ Some Removed → slice_get old s ≡ Some Removed

-- a later table: no signal is new again, and the same latches are removed
pub record IsLater (old new : List State) : Type 0 where
  pub size : length new ≡ length old
  pub news : (s : ℕ) → slice_get new s ≡ Some New → slice_get old s ≡ Some New
  pub removed : SameRemoved old new

-- how many signals aren't looked at yet
abbrev pub is_new : State → ℕ
is_new New = 1
is_new Open = 0
is_new (Known d) = 0
is_new Endless = 0
is_new Removed = 0

abbrev pub new_count : List State → ℕ
new_count states = sum_by is_new states

-- the step's signal is open, and what it reads before the step's place has a depth
pub record IsStep (nodes : List Node) (states : List State) (step : Step) : Type 0 where
  pub opened : slice_get states step.signal ≡ Some Open
  pub node : Node
  pub here : slice_get nodes step.signal ≡ Some node
  pub passed : (k : ℕ) (r : Signal) → k < step.read → slice_get node.reads k ≡ Some r → (e : ℕ) × HasDepth states r.0 e

-- the first step stands at a place where its signal reads that of the second
abbrev pub Leads : List Node → Step → Step → Type 0
Leads nodes a b = (node : Node) → slice_get nodes a.signal ≡ Some node → (r : Signal) × (slice_get node.reads a.read ≡ Some r) × (r.0 ≡ b.signal)

-- A way back through open signals, each of which waits for the next. A signal that is open is on the way.
pub record IsWay (nodes : List Node) (states : List State) (way : List Step) : Type 0 where
  pub table : IsTable nodes states
  pub steps : (i : ℕ) (step : Step) → slice_get way i ≡ Some step → IsStep nodes states step
  pub leads : (i : ℕ) (a b : Step) → slice_get way i ≡ Some a → slice_get way (i + 1) ≡ Some b → Leads nodes a b
  pub once : (i j : ℕ) (a b : Step) → slice_get way i ≡ Some a → slice_get way j ≡ Some b → a.signal ≡ b.signal → i ≡ j
  pub holds_open : (s : ℕ) → slice_get states s ≡ Some Open → (i : ℕ) × (step : Step) × (slice_get way i ≡ Some step) × (step.signal ≡ s)
  pub room : length way + new_count states ≤ length nodes
  pub low : (s d : ℕ) → HasDepth states s d → d + length way + new_count states ≤ length nodes

-- each signal on the first so many steps of the way is endless, and no other state has changed
pub record IsGivenUp (way : List Step) (count : ℕ) (old new : List State) : Type 0 where
  pub size : length new ≡ length old
  pub endless : (i : ℕ) (step : Step) → i < count → slice_get way i ≡ Some step → slice_get new step.signal ≡ Some Endless
  pub kept : (s : ℕ) (st : State) → slice_get old s ≡ Some st → (slice_get new s ≡ Some st) ⊎ ((i : ℕ) × (step : Step) × (slice_get way i ≡ Some step) × (step.signal ≡ s))
  pub from : (s : ℕ) (st : State) → slice_get new s ≡ Some st → (slice_get old s ≡ Some st) ⊎ (st ≡ Endless)
  pub fewer : new_count new ≤ new_count old
