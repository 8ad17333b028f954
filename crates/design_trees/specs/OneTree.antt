-- The trees of nets that are one.
use Rattle.std.specs.Prelude.{ℕ, List}
use Rattle.std.specs.List.{Contains}
use Rattle.circuit_theory.specs.Interface.{AreNumbersOf}
use Rattle.circuit_theory.specs.Tree.{Tree, Unfolds}
use Rattle.flat_net.specs.View.{NetView, circuit_of, ports_of}
use Rattle.net_assembly.specs.net_alike.Renumbered.{IsReadBy}
use Rattle.flatten.specs.OneNet.{AreOneNet}

-- The inputs have numbers by their names, and each input that something reads is shared.
pub record AreNamedNumbers (n : NetView) (shared : List (List ℕ)) (numbers : List ℕ) : Type 0 where
  pub others : List ℕ
  pub numbers_are : AreNumbersOf (ports_of n).inputs shared numbers others
  pub read : (name : List ℕ) → Contains (ports_of n).read name → Contains shared name

-- A place that something reads unfolds in both nets to one tree, over the same shared inputs.
abbrev pub TreesAreOne : Type 0
TreesAreOne = (a b : NetView) (one : AreOneNet a b) (shared : List (List ℕ)) (left right : List ℕ) → AreNamedNumbers a shared left → AreNamedNumbers b shared right →
    (p k d : ℕ) (tree : Tree ℕ) → IsReadBy (circuit_of a) p → Unfolds (circuit_of a) left p k d tree → Unfolds (circuit_of b) right (one.to p) k d tree
