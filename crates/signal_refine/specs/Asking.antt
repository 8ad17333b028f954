-- What is asked of ties.
use Rattle.std.specs.Prelude.{◌≡◌, ℕ, ◌*◌, ◌<◌, Bool, true, false, not, if◌then◌else◌, IsTrue, List, [], ◌∷◌, ◌++◌, length, slice_get, Some}
use Rattle.aig.specs.declared.node.Lit.{Lit}
use Rattle.aig.specs.declared.node.Node.{Node}
use Rattle.aig.specs.Graph.{Grows}
use Rattle.aig.specs.Values.{value}
use Rattle.circuit_laws.specs.declared.signal_laws.anchor.Anchor.{Anchor}
use Rattle.circuit_laws.specs.declared.signal_laws.anchor.Anchor.TheVariants as anchor
use Rattle.circuit_laws.specs.signal_laws.Ties.{anchor_value}
use Rattle.std.specs.List.{All}
use Rattle.swept_queries.specs.node_agreement.Standing.{AreChosen}
use Rattle.signal_refine.specs.declared.copies.NodeLits.{NodeLits}
use Rattle.signal_refine.specs.declared.facts.Facts.{Facts}
use Rattle.signal_refine.specs.Copies.{HaveAt, node_at, AreTiedAt}

-- the anchor has this value, by the literals of signals
abbrev pub AnchorHas : List Node → (ℕ → Bool) → List Lit → Anchor → Bool → Type 0
AnchorHas g a lits (anchor.Bit bit) x = x ≡ bit
AnchorHas g a lits (anchor.Place q flipped) x = (m : Lit) × (slice_get lits q ≡ Some m) × (x ≡ (if flipped then not (value g a m.0) else value g a m.0))

-- two bits are one
abbrev pub same_bit : Bool → Bool → Bool
same_bit true y = y
same_bit false y = not y

-- the literals at each place of both lists have one value
abbrev pub AreOne : List Lit → List Lit → List Node → (ℕ → Bool) → Type 0
AreOne own read g a = (i : ℕ) (l r : Lit) → slice_get own i ≡ Some l → slice_get read i ≡ Some r → value g a l.0 ≡ value g a r.0

-- the literal is 1 wherever they do
abbrev pub IsCare : List Lit → List Lit → List Node → Lit → Type 0
IsCare own read g x = (a : ℕ → Bool) → AreOne own read g a → value g a x.0 ≡ true

-- the literal is 1, and what nodes are read as in the cycle before has their own values
abbrev pub IsHeld : Lit → NodeLits → List Node → (ℕ → Bool) → Type 0
IsHeld care before g a = (value g a care.0 ≡ true) × AreOne before.own.items before.read.items g a

-- these are literals of the graph
abbrev pub AreHeldWithin : Lit → NodeLits → List Node → Type 0
AreHeldWithin care before g = (care.0 < 2 * length g) × All (λ x. x.0 < 2 * length g) before.own.items × All (λ x. x.0 < 2 * length g) before.read.items

-- the two have one value wherever that holds
abbrev pub IsOneWhere : Lit → NodeLits → List Node → Lit → Lit → Type 0
IsOneWhere care before g l r = (a : ℕ → Bool) → IsHeld care before g a → value g a l.0 ≡ value g a r.0

-- each kept literal has its node's value under every assignment
abbrev pub AreKnown : Facts → Type 0
AreKnown f = AreChosen f.aig f.kept.items

-- Wherever that holds and the variables have their leaves' values, each node has the value of its anchor.
abbrev pub AreShown : List Node → List Lit → Lit → NodeLits → List Anchor → List Node → Type 0
AreShown base leaves care before anchors g = (a c : ℕ → Bool) → IsHeld care before g a → HaveAt c g a leaves → AreTiedAt anchors (node_at base c)

-- the place has the value of its anchor, if it has one
abbrev pub IsTiedAt : List Anchor → (ℕ → Bool) → ℕ → Type 0
IsTiedAt anchors w p = (k : Anchor) → slice_get anchors p ≡ Some k → w p ≡ anchor_value w k

-- Wherever that holds, the node behind those that are read so has the value of its anchor, if it has one, and so has this literal.
abbrev pub IsShown : List Node → List Lit → Lit → NodeLits → List Anchor → List Node → Lit → List Node → Lit → Type 0
IsShown base read care before anchors g own h l = (a c : ℕ → Bool) → IsHeld care before g a → HaveAt (node_at base c) g a read → value g a own.0 ≡ node_at base c (length read) →
    (value h a l.0 ≡ node_at base c (length read)) × IsTiedAt anchors (node_at base c) (length read)

-- What a node is read as stands behind the others, and has its value wherever that holds; where its tie is said to be shown, it has the value
-- of its anchor there.
pub record IsSwept (base : List Node) (leaves : List Lit) (care : Lit) (before : NodeLits) (anchors : List Anchor) (g : List Node) (old : List Lit) (n : ℕ) (same : Bool) (h : List Node) (new : List Lit) : Type 0 where
  pub grows : Grows g h
  pub lit : Lit
  pub is : new ≡ old ++ lit ∷ []
  pub within : lit.0 < 2 * length h
  pub value_is : (a c : ℕ → Bool) → IsHeld care before g a → HaveAt c g a leaves → HaveAt (node_at base c) g a old → value h a lit.0 ≡ node_at base c n
  pub shown : IsTrue same → (a c : ℕ → Bool) → IsHeld care before g a → HaveAt c g a leaves → HaveAt (node_at base c) g a old → IsTiedAt anchors (node_at base c) n
