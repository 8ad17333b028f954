-- Queries that are decided in the stead of others.
use Rattle.std.specs.Prelude.{◌≡◌, ◌⊎◌, ℕ, ◌*◌, ◌<◌, Bool, List, [], ◌∷◌, length, slice_get, Option, Some, None}
use Rattle.std.specs.List.{Contains}
use Rattle.swept_queries.specs.sweep.aig.Node.{Node}
use Rattle.swept_queries.specs.sweep.aig.Node.TheVariants.{Input}
use Rattle.swept_queries.specs.sweep.aig.Graph.{IsGraph, vars_of}
use Rattle.swept_queries.specs.sweep.aig.Cone.{IsReached}
use Rattle.swept_queries.specs.sweep.aig.Values.{value}
use Rattle.swept_queries.specs.sweep.pair_decide.Query.{Query}
use Rattle.swept_queries.specs.sweep.pair_decide.Decision.{Decision}
use Rattle.swept_queries.specs.sweep.pair_decide.Queries as asks
use Rattle.swept_queries.specs.sweep.pair_decide.Queries.{IsQuery}
use Rattle.swept_queries.specs.sweep.pair_decide.Answers.{Decides}
use Rattle.swept_queries.specs.declared.sides.Sides.{Sides}
use Rattle.swept_queries.specs.declared.sides.Known.{Known}
use Rattle.swept_queries.specs.declared.sides.Known.TheVariants.{Nothing, Swept, Apart}
use Rattle.swept_queries.specs.Lanes.{TellsApart, DiffersAt}
use Rattle.swept_queries.specs.declared.queries.SweptQueries.{SweptQueries}
use Rattle.swept_queries.specs.declared.queries.SweptKnown.{SweptKnown}

-- the literals of a query
abbrev pub sides_of : Query → Sides
sides_of q = record { left = q.left; right = q.right; care = q.care }

-- both sides are one literal, or the care is the literal 0
abbrev pub IsTrivial : Sides → Type 0
IsTrivial t = (t.left.0 ≡ t.right.0) ⊎ (t.care.0 ≡ 0)

-- they are literals of nodes of the list
pub record AreWithin {X : Type 0} (nodes : List X) (t : Sides) : Type 0 where
  pub left : t.left.0 < 2 * length nodes
  pub right : t.right.0 < 2 * length nodes
  pub care : t.care.0 < 2 * length nodes

-- if there are some
abbrev pub MayBeWithin : {X : Type 0} → List X → Option Sides → Type 0
MayBeWithin nodes None = Unit {0}
MayBeWithin nodes (Some t) = AreWithin nodes t

-- the same of those that are swept
abbrev pub AreKnownWithin : {X : Type 0} → List X → Known → Type 0
AreKnownWithin nodes Nothing = Unit {0}
AreKnownWithin nodes (Swept t) = AreWithin nodes t
AreKnownWithin nodes (Apart k) = Unit {0}

-- of what was given this is to be swept, or a lane of the table tells it apart
abbrev pub IsChosen : List (List ℕ) → Option Sides → Known → Type 0
IsChosen table given Nothing = Unit {0}
IsChosen table given (Swept t) = (given ≡ Some t) × (IsTrivial t → ⊥)
IsChosen table given (Apart k) = (t : Sides) × (given ≡ Some t) × TellsApart table t k

-- the same by the words of the variables
abbrev pub IsKept : List Node → List ℕ → Option Sides → Known → Type 0
IsKept g words given Nothing = Unit {0}
IsKept g words given (Swept t) = (given ≡ Some t) × (IsTrivial t → ⊥)
IsKept g words given (Apart k) = (t : Sides) × (given ≡ Some t) × DiffersAt g words t k

-- in the graph h the literals u have the values that the literals t have in g
pub record SameValues (g : List Node) (t : Sides) (h : List Node) (u : Sides) : Type 0 where
  pub within : AreWithin h u
  pub left : (a : ℕ → Bool) → value h a u.left.0 ≡ value g a t.left.0
  pub right : (a : ℕ → Bool) → value h a u.right.0 ≡ value g a t.right.0
  pub care : (a : ℕ → Bool) → value h a u.care.0 ≡ value g a t.care.0

-- the same where t aren't those of a trivial query
pub record StandFor (g : List Node) (t : Sides) (h : List Node) (u : Sides) : Type 0 where
  pub apart : IsTrivial t → ⊥
  pub values : SameValues g t h u

-- what is known over the graph h follows from what is known over g
abbrev pub Follows : List Node → Known → List Node → Known → Type 0
Follows g Nothing h new = new ≡ Nothing
Follows g (Swept t) h new = (u : Sides) × (new ≡ Swept u) × SameValues g t h u
Follows g (Apart k) h new = new ≡ Apart k

-- the same at each place, over graphs of as many variables
pub record IsMovedTo (g : List Node) (old : List Known) (m : SweptKnown) : Type 0 where
  pub vars : vars_of m.aig ≡ vars_of g
  pub follow : (i : ℕ) (new : Known) → slice_get m.known.items i ≡ Some new → (k : Known) × (slice_get old i ≡ Some k) × Follows g k m.aig new

-- what is known over the graph h, where the variables have these words, is true of the query of g with the literals t
abbrev pub IsTrueOf : List Node → Sides → List Node → List ℕ → Known → Type 0
IsTrueOf g t h words Nothing = Unit {0}
IsTrueOf g t h words (Swept u) = StandFor g t h u
IsTrueOf g t h words (Apart k) = DiffersAt g words t k

-- what is known at each place is true of the query that was given there, or nothing is known
abbrev pub AreTrueOf : List Node → List (Option Sides) → List Node → List ℕ → List Known → Type 0
AreTrueOf g given h words known = (i : ℕ) (new : Known) → slice_get known i ≡ Some new → (new ≡ Nothing) ⊎ ((t : Sides) × (slice_get given i ≡ Some (Some t)) × IsTrueOf g t h words new)

-- the same of what is swept
abbrev pub AreSwept : List Node → List (Option Sides) → SweptQueries → Type 0
AreSwept g given s = AreTrueOf g given s.aig s.words.items s.known.items

-- what is known at the place is true of the query
abbrev pub IsKnown : List Node → SweptQueries → ℕ → Query → Type 0
IsKnown g s place q = (new : Known) → slice_get s.known.items place ≡ Some new → IsTrueOf g (sides_of q) s.aig s.words.items new

-- the cones of the literals read none but these variables
abbrev pub ReadsOnly : List Node → Sides → List ℕ → Type 0
ReadsOnly g t vars = (n v : ℕ) → IsReached g (t.left.0 ∷ t.right.0 ∷ t.care.0 ∷ []) n → slice_get g n ≡ Some (Input v) → Contains vars v

-- The query r over h asks what q asks over g: the variables are the same, both sides and the care have the same values under every
-- assignment, and r is trivial where q is.
pub record IsInStead (g : List Node) (q : Query) (h : List Node) (r : Query) : Type 0 where
  pub graph : IsGraph h
  pub query : IsQuery h r
  pub vars : r.vars ≡ q.vars
  pub trivial : asks.IsTrivial q → asks.IsTrivial r
  pub left : (a : ℕ → Bool) → value h a r.left.0 ≡ value g a q.left.0
  pub right : (a : ℕ → Bool) → value h a r.right.0 ≡ value g a q.right.0
  pub care : (a : ℕ → Bool) → value h a r.care.0 ≡ value g a q.care.0

-- the answer is right for a query that is decided in the stead of q
pub record DecidesInStead (g : List Node) (q : Query) (conflicts : ℕ) (d : Decision) : Type 0 where
  pub graph : List Node
  pub asked : Query
  pub stands : IsInStead g q graph asked
  pub decides : Decides graph asked conflicts d
