-- Two nets of one circuit whose gates stand in another order.
use Rattle.std.specs.Prelude.{ℕ, true, List, [], ◌∷◌, None, codes}
use Rattle.circuit_theory.specs.Cover.{Cover}
use Rattle.circuit_theory.specs.Tree.{Tree, Leaf, Branch, Nil, Cons, Unfolds}
use Rattle.flat_net.specs.declared.parts.Driver.TheVariants as driver
use Rattle.flat_net.specs.declared.parts.Port.{Port}
use Rattle.flat_net.specs.View.{NetView, circuit_of}
use Rattle.flatten.specs.OneNet.{AreOneNet}
use Rattle.design_trees.specs.OneTree.{AreNamedNumbers}
use Rattle.premise_rows.specs.certificate_premises.OneGraph.{on_cover}

-- the complement
abbrev pub not_cover : Cover
not_cover = record { width = 1; rows = codes "0" ∷ []; on = true }

abbrev pub port_at : List ℕ → ℕ → Port
port_at name signal = record { name = name; signal = record { 0 = signal } }

-- 0 a, 1 b, 2 c, which nothing reads; 3 the complement of a and 4 that of b, or the other way round; 5 their and, which y shows
abbrev pub neither : NetView
neither = record {
  inputs = port_at (codes "a") 0 ∷ port_at (codes "b") 1 ∷ port_at (codes "c") 2 ∷ [];
  outputs = port_at (codes "y") 5 ∷ [];
  gates = record { fanins = record { 0 = 0 } ∷ []; cover = 0; out = record { 0 = 3 } } ∷ record { fanins = record { 0 = 1 } ∷ []; cover = 0; out = record { 0 = 4 } }
      ∷ record { fanins = record { 0 = 3 } ∷ record { 0 = 4 } ∷ []; cover = 1; out = record { 0 = 5 } } ∷ [];
  latches = [];
  covers = not_cover ∷ on_cover ∷ [];
  drivers = driver.Input 0 ∷ driver.Input 1 ∷ driver.Input 2 ∷ driver.Gate 0 ∷ driver.Gate 1 ∷ driver.Gate 2 ∷ [];
  names = codes "a" ∷ codes "b" ∷ codes "c" ∷ codes "m" ∷ codes "n" ∷ codes "y" ∷ [];
  clock = None;
}

abbrev pub neither_turned : NetView
neither_turned = record {
  inputs = port_at (codes "a") 0 ∷ port_at (codes "b") 1 ∷ port_at (codes "c") 2 ∷ [];
  outputs = port_at (codes "y") 5 ∷ [];
  gates = record { fanins = record { 0 = 1 } ∷ []; cover = 0; out = record { 0 = 3 } } ∷ record { fanins = record { 0 = 0 } ∷ []; cover = 0; out = record { 0 = 4 } }
      ∷ record { fanins = record { 0 = 4 } ∷ record { 0 = 3 } ∷ []; cover = 1; out = record { 0 = 5 } } ∷ [];
  latches = [];
  covers = not_cover ∷ on_cover ∷ [];
  drivers = driver.Input 0 ∷ driver.Input 1 ∷ driver.Input 2 ∷ driver.Gate 0 ∷ driver.Gate 1 ∷ driver.Gate 2 ∷ [];
  names = codes "a" ∷ codes "b" ∷ codes "c" ∷ codes "n" ∷ codes "m" ∷ codes "y" ∷ [];
  clock = None;
}

-- the inputs that are read
abbrev pub read_names : List (List ℕ)
read_names = codes "a" ∷ codes "b" ∷ []

abbrev pub neither_tree : Tree ℕ
neither_tree = Branch on_cover (Cons (Branch not_cover (Cons (Leaf 0 0) Nil)) (Cons (Branch not_cover (Cons (Leaf 1 0) Nil)) Nil))

-- The nets are one; c has another number in each; and the output has one tree.
pub record HaveOneTree : Type 0 where
  pub one : AreOneNet neither neither_turned
  pub left : AreNamedNumbers neither read_names (0 ∷ 1 ∷ 7 ∷ [])
  pub right : AreNamedNumbers neither_turned read_names (0 ∷ 1 ∷ 9 ∷ [])
  pub unfolds : Unfolds (circuit_of neither) (0 ∷ 1 ∷ 7 ∷ []) 5 0 0 neither_tree
  pub same : Unfolds (circuit_of neither_turned) (0 ∷ 1 ∷ 9 ∷ []) 5 0 0 neither_tree
