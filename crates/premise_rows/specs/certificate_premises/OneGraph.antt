-- The graph of two ands by other rows, and their clauses.
use Rattle.std.specs.Prelude.{ℕ, true, false, List, [], ◌∷◌, None, codes}
use Rattle.circuit_theory.specs.Cover.{Cover}
use Rattle.circuit_theory.specs.Net.{IsNet}
use Rattle.circuit_theory.specs.Tree.{Tree, Leaf, Branch, Nil, Cons}
use Rattle.flat_net.specs.declared.parts.Driver.TheVariants as driver
use Rattle.flat_net.specs.View.{NetView, circuit_of}
use Rattle.event_nodes.specs.aig.Node.{Node}
use Rattle.event_nodes.specs.aig.Node.TheVariants.{Constant, Input}
use Rattle.pair_decide.specs.declared.cnf_encode.cnf.Cnf.{Cnf}
use Rattle.tree_graph.specs.declared.graphs.Rooted.{Rooted}
use Rattle.tree_graph.specs.Numbering.{IsGraphOf}
use Rattle.tree_graph.specs.Rooted.{HasTree, IsTreeOf}
use Rattle.job_cert.specs.pair_clauses.Clauses.{AreEncoded}
use Rattle.premise_rows.specs.event_limit_premises.AtLimit.{is, isnt}
use Rattle.premise_rows.specs.event_pair_premises.Held.{and_of}

-- an and by the row where it is 1
abbrev pub on_cover : Cover
on_cover = record { width = 2; rows = codes "11" ∷ []; on = true }

-- by the rows where it is 0
abbrev pub off_cover : Cover
off_cover = record { width = 2; rows = codes "0-" ∷ codes "-0" ∷ []; on = false }

-- 0 a, 1 b, 2 what is made of them, which y shows
abbrev pub and_by : Cover → NetView
and_by cover = record {
  inputs = record { name = codes "a"; signal = record { 0 = 0 } } ∷ record { name = codes "b"; signal = record { 0 = 1 } } ∷ [];
  outputs = record { name = codes "y"; signal = record { 0 = 2 } } ∷ [];
  gates = record { fanins = record { 0 = 0 } ∷ record { 0 = 1 } ∷ []; cover = 0; out = record { 0 = 2 } } ∷ [];
  latches = [];
  covers = cover ∷ [];
  drivers = driver.Input 0 ∷ driver.Input 1 ∷ driver.Gate 0 ∷ [];
  names = codes "a" ∷ codes "b" ∷ codes "y" ∷ [];
  clock = None;
}

-- the output as the root of its tree
abbrev pub rooted : Cover → Rooted
rooted cover = record { net = record { ref_ptr = (0, 0); now = and_by cover }; order = record { ref_ptr = (0, 0); now = 0 ∷ 1 ∷ [] }; root = record { 0 = 2 } }

abbrev pub and_tree : Cover → Tree ℕ
and_tree cover = Branch cover (Cons (Leaf 0 0) (Cons (Leaf 1 0) Nil))

-- the constant, both inputs, and one and, which both trees are
abbrev pub and_nodes : List Node
and_nodes = Constant ∷ Input 0 ∷ Input 1 ∷ and_of 2 4 ∷ []

-- 1 stands for the constant, 2 and 3 for a and b, 4 for the and: what it is is 1 and isn't
abbrev pub and_clauses : Cnf
and_clauses = record {
  clauses = (isnt 1 ∷ []) ∷ (is 2 ∷ isnt 4 ∷ []) ∷ (is 3 ∷ isnt 4 ∷ []) ∷ (isnt 2 ∷ isnt 3 ∷ is 4 ∷ []) ∷ (isnt 1 ∷ []) ∷ (is 4 ∷ []) ∷ (isnt 4 ∷ []) ∷ [];
  variables = 4;
  nodes = 0 ∷ 1 ∷ 2 ∷ 3 ∷ [];
}

-- Both outputs have a tree; the trees have a graph, on which the second adds nothing; and the functions have clauses.
pub record AndsHaveOneGraph : Type 0 where
  pub left : HasTree (rooted on_cover)
  pub right : HasTree (rooted off_cover)
  pub left_is : IsTreeOf (rooted on_cover) (and_tree on_cover)
  pub right_is : IsTreeOf (rooted off_cover) (and_tree off_cover)
  pub graph : IsGraphOf (and_tree on_cover) (and_tree off_cover) ((0, 0) ∷ (1, 0) ∷ []) and_nodes 6 6
  pub left_net : IsNet (circuit_of (and_by on_cover)) 3
  pub right_net : IsNet (circuit_of (and_by off_cover)) 3
  pub encoded : AreEncoded (circuit_of (and_by on_cover)) (circuit_of (and_by off_cover)) (0 ∷ 1 ∷ []) (0 ∷ 1 ∷ []) 2 2 and_clauses
