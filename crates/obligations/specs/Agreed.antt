-- Bits of words that spell one number.
use Rattle.std.specs.Prelude.{◌≡◌, ℕ, ◌*◌, ◌<◌, List, length, slice_get, Some}
use Rattle.std.specs.List.{All}
use Rattle.aig.specs.declared.node.Lit.{Lit}
use Rattle.aig.specs.lane_eval.root_classes.Agreeing.{Agree}
use Rattle.swept_queries.specs.node_agreement.Standing.{StandsFor, AreStandIns, plainly}
use Rattle.obligations.specs.outcome.aig.Node.{Node}
use Rattle.obligations.specs.declared.carries.Remade.{Remade}
use Rattle.obligations.specs.declared.words.WordBit.{WordBit}
use Rattle.obligations.specs.declared.words.BothWords.{BothWords}

-- both literals of each have one value under every assignment
abbrev pub AreAgreed : List Node → List WordBit → Type 0
AreAgreed g bits = All (λ (b : WordBit). Agree g b.left.0 b.right.0) bits

-- the words are of one length, and their literals of the graph
pub record IsWord (g : List Node) (w : BothWords) : Type 0 where
  pub left : All (λ (l : Lit). l.0 < 2 * length g) w.left.items
  pub right : All (λ (l : Lit). l.0 < 2 * length g) w.right.items
  pub lengths : length w.left.items ≡ length w.right.items

-- there is a literal for each of the first n nodes, of its value under every assignment
pub record IsRemade (g : List Node) (w : Remade) (n : ℕ) : Type 0 where
  pub each : length w.lits.items ≡ n
  pub stand : AreStandIns g w.aig w.lits.items

-- each literal of the second word has the value of the one at its place in the first, under every assignment
pub record StandForEach (g h : List Node) (xs ys : List Lit) : Type 0 where
  pub each : length ys ≡ length xs
  pub stand : (i : ℕ) (x y : Lit) → slice_get xs i ≡ Some x → slice_get ys i ≡ Some y → StandsFor plainly g h x.0 y.0
