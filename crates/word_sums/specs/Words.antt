-- What is told of two words of literals.
use Rattle.std.specs.Prelude.{◌≡◌, ◌≢◌, ℕ, Bool, List, slice_get, Some, ⊤}
use Rattle.aig.specs.declared.node.Lit.{Lit}
use Rattle.aig.specs.declared.node.Node.{Node}
use Rattle.aig.specs.Values.{value, assigned}
use Rattle.aig.specs.lane_eval.root_classes.Agreeing.{Agree}
use Rattle.word_sums.specs.declared.answer.Words.{Words}
use Rattle.word_sums.specs.declared.answer.Words.TheVariants.{Same, Differ, Open}

-- the literals at each place have one value under every assignment
abbrev pub AgreeEach : List Node → List Lit → List Lit → Type 0
AgreeEach g left right = (i : ℕ) (x y : Lit) → slice_get left i ≡ Some x → slice_get right i ≡ Some y → Agree g x.0 y.0

-- where variable v has the bit at place v, the literals at some place have two values
pub record DifferAt (g : List Node) (left right : List Lit) (bits : List Bool) : Type 0 where
  pub place : ℕ
  pub left_lit : Lit
  pub right_lit : Lit
  pub at_left : slice_get left place ≡ Some left_lit
  pub at_right : slice_get right place ≡ Some right_lit
  pub differ : value g (assigned bits) left_lit.0 ≢ value g (assigned bits) right_lit.0

-- the answer is true of the words
abbrev pub IsTold : List Node → List Lit → List Lit → Words → Type 0
IsTold g left right Same = AgreeEach g left right
IsTold g left right (Differ bits) = DifferAt g left right bits
IsTold g left right Open = ⊤
