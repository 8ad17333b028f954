-- A signal of a circuit as the root of its function tree.
use Rattle.std.specs.Prelude.{◌≡◌, ℕ, List, map, length, slice_index_or}
use Rattle.circuit_theory.specs.Tree.{Tree, Unfolds}
use Rattle.flat_net.specs.View.{NetView, circuit_of}
use Rattle.tree_graph.specs.declared.graphs.Rooted.{Rooted}

-- the tree of a place, a shift and a signal
abbrev pub IsTreeAt : NetView → List ℕ → ℕ × ℕ → Tree ℕ → Type 0
IsTreeAt n order p tree = (d : ℕ) × Unfolds (circuit_of n) order p.1 p.0 d tree

-- the tree of the root
abbrev pub IsTreeOf : Rooted → Tree ℕ → Type 0
IsTreeOf r tree = IsTreeAt r.net.now r.order.now (0, r.root.0) tree

-- there is one, and each input of the net has a number
pub record HasTree (r : Rooted) : Type 0 where
  pub each : length r.order.now ≡ length r.net.now.inputs
  pub tree : Tree ℕ
  pub is_tree : IsTreeOf r tree

-- the entries of a table with these numbers
abbrev pub entries : List (ℕ × ℕ) → List ℕ → List (ℕ × ℕ)
entries places vars = map (λ v. slice_index_or places v (0, 0)) vars
