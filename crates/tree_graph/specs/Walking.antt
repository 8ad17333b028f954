-- The trees of places that wait on a stack are made one after the other, the last first.
use Rattle.std.specs.Prelude.{◌≡◌, ℕ, ◌+◌, ◌*◌, ◌<◌, List, [], ◌∷◌, ◌++◌, map, length, slice_get, Option, Some, None, Contains}
use Rattle.std.specs.List.{AllZip}
use Rattle.circuit_theory.specs.Tree.{Tree}
use Rattle.flat_net.specs.declared.parts.Gate.{Gate}
use Rattle.flat_net.specs.declared.parts.LatchAt.{LatchAt}
use Rattle.flat_net.specs.declared.parts.Driver.{Driver}
use Rattle.flat_net.specs.declared.parts.Driver.TheVariants as driver
use Rattle.flat_net.specs.View.{NetView, cover_of}
use Rattle.aig.specs.declared.node.Lit.{Lit}
use Rattle.aig.specs.declared.node.Node.{Node}
use Rattle.aig.specs.Builds.{Builds}
use Rattle.aig.specs.Making.{MakesCover}
use Rattle.tree_graph.specs.Making.{Makes}
use Rattle.tree_graph.specs.Rooted.{IsTreeAt}

-- the fan-ins of a gate at a shift
abbrev pub fanins_at : ℕ → Option Gate → List (ℕ × ℕ)
fanins_at k None = []
fanins_at k (Some g) = map (λ f. (k, f.0)) g.fanins

-- what a latch takes over, one shift further back
abbrev pub taken_at : ℕ → Option LatchAt → List (ℕ × ℕ)
taken_at k None = []
taken_at k (Some l) = (k + 1, l.next.0) ∷ []

-- what a place with this driver reads
abbrev pub reads_by : NetView → ℕ → Option Driver → List (ℕ × ℕ)
reads_by n k None = []
reads_by n k (Some (driver.Input i)) = []
reads_by n k (Some (driver.Gate j)) = fanins_at k (slice_get n.gates j)
reads_by n k (Some (driver.Latch j)) = taken_at k (slice_get n.latches j)

abbrev pub reads_of : NetView → ℕ × ℕ → List (ℕ × ℕ)
reads_of n p = reads_by n p.0 (slice_get n.drivers p.1)

-- the place has been met
abbrev pub IsMet : List ((ℕ × ℕ) × Lit) → ℕ × ℕ → Type 0
IsMet memo p = (x : Lit) × Contains memo (p, x)

-- the literal is that of the place's tree
pub record IsKnown (n : NetView) (order : List ℕ) (places : List (ℕ × ℕ)) (g : List Node) (p : ℕ × ℕ) (x : ℕ) : Type 0 where
  pub tree : Tree ℕ
  pub is_tree : IsTreeAt n order p tree
  pub builds : Builds g places tree x
  pub within : x < 2 * length g

-- each place that has been met has the literal of its tree
abbrev pub AreKnown : NetView → List ℕ → List (ℕ × ℕ) → List ((ℕ × ℕ) × Lit) → List Node → Type 0
AreKnown n order places memo g = (p : ℕ × ℕ) (x : Lit) → Contains memo (p, x) → IsKnown n order places g p x.0

-- the trees are made one after the other, the last first
abbrev pub MakesEach : List (ℕ × ℕ) → List Node → List (Tree ℕ) → List Node → Type 0
MakesEach places g [] h = h ≡ g
MakesEach places g (t ∷ ts) h = (k : List Node) × (x : ℕ) × MakesEach places g ts k × Makes places k t h x

-- The place, taken from the stack, has been met; or it waits there again below others, and to make what waits makes it.
pub record IsVisited (n : NetView) (order : List ℕ) (places : List (ℕ × ℕ)) (p : ℕ × ℕ) (tree : Tree ℕ) (g h : List Node) (old new : List (ℕ × ℕ)) : Type 0 where
  pub more : List (ℕ × ℕ)
  pub trees : List (Tree ℕ)
  pub is : new ≡ old ++ more
  pub are_trees : AllZip (IsTreeAt n order) more trees
  pub makes : (k : List Node) → MakesEach places h trees k → (x : ℕ) × Makes places g tree k x

-- the gate's cover is made of its fan-ins' literals
pub record MakesGate (n : NetView) (memo : List ((ℕ × ℕ) × Lit)) (k j : ℕ) (g h : List Node) (x : ℕ) : Type 0 where
  pub gate : Gate
  pub at : slice_get n.gates j ≡ Some gate
  pub lits : List Lit
  pub each : AllZip (λ f y. Contains memo ((k, f.0), y)) gate.fanins lits
  pub made : MakesCover g (cover_of n.covers gate) (map (λ y. y.0) lits) h x
