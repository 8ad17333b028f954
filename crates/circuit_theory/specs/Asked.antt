-- What is asked of a pair, over the places L of a form: shifts, cycles or event nodes.
use Rattle.std.specs.Prelude.{◌≡◌, ◌≢◌, ℕ, Bool, List, [], ◌∷◌}
use Rattle.std.specs.List.{Contains}
use Rattle.circuit_theory.specs.Circuit.{Circuit}
use Rattle.circuit_theory.specs.Tree.{Tree, Unfolds, tree_value}
use Rattle.circuit_theory.specs.Query.{Variable, ShiftBefore}

-- A pair as a form asks it: the order of its variables, the trees that its sides unfold to, and, behind both of these, the trees that give
-- the query its variables, and where the care holds.
pub record AskedPair (L : Type 0) : Type 1 where
  pub before : Variable L → Variable L → Type 0
  pub left : Tree L → Type 0
  pub right : Tree L → Type 0
  pub wanted : Tree L → Tree L → Tree L → Type 0
  pub care : Tree L → Tree L → (ℕ → L → Bool) → Type 0

-- both sides unfold, to functions that agree under each assignment with care
pub record AreEqual {L : Type 0} (x : AskedPair L) : Type 0 where
  pub left_tree : Tree L
  pub right_tree : Tree L
  pub left_unfolds : x.left left_tree
  pub right_unfolds : x.right right_tree
  pub same : (bits : ℕ → L → Bool) → x.care left_tree right_tree bits → tree_value bits left_tree ≡ tree_value bits right_tree

-- both sides unfold, to functions that differ under some assignment with care
pub record AreDifferent {L : Type 0} (x : AskedPair L) : Type 0 where
  pub left_tree : Tree L
  pub right_tree : Tree L
  pub left_unfolds : x.left left_tree
  pub right_unfolds : x.right right_tree
  pub bits : ℕ → L → Bool
  pub care : x.care left_tree right_tree bits
  pub differ : tree_value bits left_tree ≢ tree_value bits right_tree

-- in the plain form, over shifts: the variables are those of both sides, and the care holds always
abbrev pub plain_pair : {P Q : Type 0} → Circuit P → Circuit Q → List ℕ → List ℕ → P → Q → AskedPair ℕ
plain_pair a b left right p q = record {
  before = ShiftBefore;
  left = λ tree. (depth : ℕ) × Unfolds a left p 0 depth tree;
  right = λ tree. (depth : ℕ) × Unfolds b right q 0 depth tree;
  wanted = λ l r. Contains (l ∷ r ∷ []);
  care = λ l r bits. Unit {0};
}

-- both sides of a pair unfold, to functions that agree under each assignment
abbrev pub HaveEqualFunctions : {P Q : Type 0} → Circuit P → Circuit Q → List ℕ → List ℕ → P → Q → Type 0
HaveEqualFunctions a b left right p q = AreEqual (plain_pair a b left right p q)
