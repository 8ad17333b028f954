-- What a choice, or a refusal, means for the circuits.
use Rattle.std.specs.Prelude.{◌≡◌, ℕ, ◌<◌, List, length, slice_get, slice_index_or, Some, All, Contains}
use Rattle.circuit_theory.specs.declared.Mode.{Mode}
use Rattle.circuit_theory.specs.Agree.{IsMinimalCut}
use Rattle.latch_graph.specs.flat_net.LatchAt.{LatchAt}
use Rattle.latch_graph.specs.flat_net.View.{NetView, circuit_of}
use Rattle.latch_graph.specs.flat_net.Cut.{no_latch}
use Rattle.latch_graph.specs.Graph.{GraphView, IsGraphIn}
use Rattle.sec_setup.specs.declared.cut_points.expose_pick.pairs.LatchPair.{LatchPair}
use Rattle.sec_setup.specs.declared.cut_points.expose_pick.error.PickError.{PickError}
use Rattle.sec_setup.specs.declared.cut_points.expose_pick.error.PickError.TheVariants as pick_error
use Rattle.latch_graph.specs.minimal_cut.Chosen.{IsMinimalChoice, at_places, names_at}
use Rattle.sec_setup.specs.cut_points.expose_pick.Pairs.{lefts, rights}
use Rattle.sec_setup.specs.cut_points.expose_pick.Refused.{Refuses}

-- the two latches of the pair are there and have one name
pub record HaveOneName (a b : GraphView) (p : LatchPair) : Type 0 where
  pub left : p.left < length a.latches
  pub right : p.right < length b.latches
  pub name : (slice_index_or a.latches p.left no_latch).name ≡ (slice_index_or b.latches p.right no_latch).name

-- two latches of one name are a pair
abbrev pub AreAllPairs : GraphView → GraphView → List LatchPair → Type 0
AreAllPairs a b common =
    (i j : ℕ) (k l : LatchAt) → slice_get a.latches i ≡ Some k → slice_get b.latches j ≡ Some l → k.name ≡ l.name → Contains common (record { left = i; right = j })

-- The names of the chosen latches are a minimal cut.
abbrev pub ChosenIsMinimalCut : Type 0
ChosenIsMinimalCut = (mode : Mode) (m n : NetView) (a b : GraphView) (common : List LatchPair) (places : List ℕ) → IsGraphIn mode m a → IsGraphIn mode n b →
    All (HaveOneName a b) common → IsMinimalChoice a b (lefts common) (rights common) places →
    IsMinimalCut mode (circuit_of m) (circuit_of n) (names_at a.latches (at_places (lefts common) places))

-- A cycle that is left without all latches of one name shows that there is no minimal cut.
abbrev pub RefusedHasNoCut : Type 0
RefusedHasNoCut = (mode : Mode) (m n : NetView) (a b : GraphView) (common : List LatchPair) (error : PickError) → IsGraphIn mode m a → IsGraphIn mode n b →
    AreAllPairs a b common → (error ≡ pick_error.NoMemory → ⊥) → Refuses a b (lefts common) (rights common) error →
    (names : List (List ℕ)) → IsMinimalCut mode (circuit_of m) (circuit_of n) names → ⊥
