-- When a latch's turn comes.
use Rattle.std.specs.Prelude.{◌≡◌, ◌⊎◌, ℕ, ◌+◌, ◌<◌, List, ◌++◌, slice_get, Option, Some, MatchOption, Contains}
use Rattle.std.specs.List.{AllPairs, AllZip}
use Rattle.circuit_theory.specs.declared.Side.TheVariants.{A, B}
use Rattle.circuit_theory.specs.Circuit.{Circuit}
use Rattle.circuit_theory.specs.Depth.{IsDepth}
use Rattle.circuit_theory.specs.Run.{IsEnabled}
use Rattle.flat_net.specs.declared.parts.LatchAt.{LatchAt}
use Rattle.flat_net.specs.View.{NetView, circuit_of}
use Rattle.sec_base.specs.declared.basics.Tag.{Tag}
use Rattle.class_search.specs.declared.event_order.turns.Turn.{Turn}

-- the latch's depth, or nothing where it isn't an enabled one
abbrev pub IsEnabledDepth : Circuit ℕ → LatchAt → Option ℕ → Type 0
IsEnabledDepth c l depth = MatchOption depth (IsEnabled c l.out.0 → ⊥) (λ d. IsEnabled c l.out.0 × IsDepth c (IsEnabled c) l.out.0 d)

-- what is put behind the others is the depth of each latch that is an enabled one
abbrev pub HavePutDepths : NetView → List (Option ℕ) → List (Option ℕ) → Type 0
HavePutDepths n old new = (depths : List (Option ℕ)) × (new ≡ old ++ depths) × AllZip (IsEnabledDepth (circuit_of n)) n.latches depths

-- a lower depth, or the same and an earlier place
abbrev pub TurnBefore : Turn → Turn → Type 0
TurnBefore x y = (x.depth < y.depth) ⊎ ((x.depth ≡ y.depth) × (x.number < y.number))

-- the turns of all places that have a depth, in order
pub record AreTurns (depths : List (Option ℕ)) (turns : List Turn) : Type 0 where
  pub each : (t : Turn) → Contains turns t → slice_get depths t.number ≡ Some (Some t.depth)
  pub all : (n d : ℕ) → slice_get depths n ≡ Some (Some d) → Contains turns (record { depth = d; number = n })
  pub in_order : AllPairs TurnBefore turns

-- the latch with this place among those of both circuits, so many of which are of the first
abbrev pub IsTagAt : ℕ → ℕ → Tag → Type 0
IsTagAt first n t = ((n < first) × (t ≡ record { side = A; latch = n })) ⊎ ((j : ℕ) × (n ≡ first + j) × (t ≡ record { side = B; latch = j }))
