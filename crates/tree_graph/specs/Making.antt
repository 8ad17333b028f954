-- Which graph it leaves to make a function tree in a graph, and the literal there. What has been made already leaves the graph as it was.
use Rattle.std.specs.Prelude.{◌≡◌, ℕ, List, [], ◌∷◌, slice_get, Some, if◌then◌else◌}
use Rattle.circuit_theory.specs.Tree.{Tree, Trees, Leaf, Fixed, Branch, Nil, Cons}
use Rattle.base_tables.specs.unique_table.Places.{IsWith}
use Rattle.aig.specs.declared.node.Node.{Node}
use Rattle.aig.specs.declared.node.Node.TheVariants.{Input}
use Rattle.aig.specs.Graph.{IsLitOf}
use Rattle.aig.specs.Making.{MakesCover}

-- A tree. A leaf is the variable that is its place's number in the table; of a branch the last subtree is made first, and the cover
-- after all of them.
abbrev mutual
  pub Makes : List (ℕ × ℕ) → List Node → Tree ℕ → List Node → ℕ → Type 0
  Makes places g (Leaf input at) h x = (v : ℕ) × (slice_get places v ≡ Some (input, at)) × IsWith g (Input v) h × IsLitOf h (Input v) x
  Makes places g (Fixed bit) h x = (h ≡ g) × (x ≡ (if bit then 1 else 0))
  Makes places g (Branch cover subtrees) h x = (k : List Node) × (fs : List ℕ) × MakesAll places g subtrees k fs × MakesCover k cover fs h x

  -- the literals of the subtrees, in their order
  pub MakesAll : List (ℕ × ℕ) → List Node → Trees ℕ → List Node → List ℕ → Type 0
  MakesAll places g Nil h fs = (h ≡ g) × (fs ≡ [])
  MakesAll places g (Cons first rest) h fs = (k : List Node) × (f : ℕ) × (others : List ℕ) × MakesAll places g rest k others × Makes places k first h f × (fs ≡ f ∷ others)
