-- The sides of pairs in the graph in which they are asked under an assumption.
use Rattle.std.specs.Prelude.{◌≡◌, ℕ, ◌*◌, ◌<◌, List, [], ◌∷◌, length, slice_get, Some}
use Rattle.aig.specs.declared.node.Lit.{Lit}
use Rattle.aig.specs.declared.node.Node.{Node}
use Rattle.aig.specs.Rules.{IsAndOf}
use Rattle.obligations.specs.declared.obligation.Obligation.{Obligation}
use Rattle.pair_decide.specs.declared.query.Query.{Query}
use Rattle.aig.specs.graph_copy.graph_clone.Twins.{twin_in}

-- it asks one query, whose literals are of so many nodes
pub record HasOneWithin (count : ℕ) (o : Obligation) : Type 0 where
  pub query : Query
  pub only : o.queries ≡ query ∷ []
  pub left : query.left.0 < 2 * count
  pub right : query.right.0 < 2 * count
  pub care : query.care.0 < 2 * count

-- the same of its care alone
pub record HasOneCare (count : ℕ) (u : Obligation) : Type 0 where
  pub query : Query
  pub only : u.queries ≡ query ∷ []
  pub care : query.care.0 < 2 * count

-- as many obligations of both kinds, each with one query
pub record AreAligned (nodes count : ℕ) (asked under : List Obligation) : Type 0 where
  pub each : length under ≡ length asked
  pub asked_ones : (i : ℕ) (o : Obligation) → slice_get asked i ≡ Some o → HasOneWithin nodes o
  pub under_ones : (i : ℕ) (u : Obligation) → slice_get under i ≡ Some u → HasOneCare count u

-- x has the sides of q, the cares of q and r together, and the variables of r
pub record HasSides (lits : List Lit) (g : List Node) (q r x : Query) : Type 0 where
  pub left_is : x.left ≡ twin_in lits q.left
  pub right_is : x.right ≡ twin_in lits q.right
  pub care_is : IsAndOf g r.care.0 (twin_in lits q.care).0 x.care.0
  pub care_within : x.care.0 < 2 * length g
  pub vars_are : x.vars ≡ r.vars

-- t asks one such query, and is else as u
pub record IsWithSides (lits : List Lit) (g : List Node) (o u t : Obligation) : Type 0 where
  pub name_is : t.name ≡ u.name
  pub size_is : t.size ≡ u.size
  pub decisive_is : t.decisive ≡ u.decisive
  pub queries : (q r : Query) → o.queries ≡ q ∷ [] → u.queries ≡ r ∷ [] → (x : Query) × (t.queries ≡ x ∷ []) × HasSides lits g q r x

-- the same of each, in order
pub record AreWithSides (lits : List Lit) (g : List Node) (asked under made : List Obligation) : Type 0 where
  pub each : length made ≡ length asked
  pub are : (i : ℕ) (o u : Obligation) → slice_get asked i ≡ Some o → slice_get under i ≡ Some u → (t : Obligation) × (slice_get made i ≡ Some t) × IsWithSides lits g o u t
