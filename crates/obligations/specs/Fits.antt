-- What an answer says of a pair as a form asks it, and what stands behind the answer that the limit of conflicts was met.
use Rattle.std.specs.Prelude.{◌≡◌, ◌≢◌, ◌↔◌, ℕ, ◌*◌, ◌<◌, ◌≤◌, Bool, true, List, [], ◌∷◌, length, Option, Some, None}
use Rattle.circuit_theory.specs.Asked.{AskedPair, AreEqual, AreDifferent}
use Rattle.circuit_theory.specs.Query.{Variable, AreLeaves}
use Rattle.circuit_theory.specs.Tree.{Tree, tree_value}
use Rattle.aig.specs.Builds.{TakesBits, HasValueOf, ReadOnly}
use Rattle.aig.specs.Table.{AreDistinct}
use Rattle.obligations.specs.outcome.sec_base.PairAnswer.{PairAnswer}
use Rattle.obligations.specs.outcome.sec_base.PairAnswer.TheVariants as answer
use Rattle.obligations.specs.outcome.Proof.{Proof}
use Rattle.obligations.specs.aig.Node.{Node}
use Rattle.obligations.specs.aig.Graph.{IsGraph}
use Rattle.obligations.specs.aig.Values.{value}
use Rattle.obligations.specs.cnf_encode.Encoding.{IsEncoding}
use Rattle.obligations.specs.sat_search.Found.{IsFruitless}

-- The pair's query has more than 16 variables, and the trees of its sides are two. The proof that is kept has the clauses of three literals
-- of a graph: two that have the values of the two functions, and one that is 1 in exactly the assignments with care. They read none but the
-- variables of the query, no place has two variables, the sides are different literals, and the care isn't the literal 0. The log has exactly
-- as many chains as conflicts are allowed, all of them valid over these clauses; each derives a clause that tells unit propagation
-- something, and none the empty clause.
pub record IsUndecided {L : Type 0} (x : AskedPair L) (conflicts : ℕ) (proof : Proof) : Type 0 where
  pub left_tree : Tree L
  pub right_tree : Tree L
  pub left_unfolds : x.left left_tree
  pub right_unfolds : x.right right_tree
  pub two_trees : left_tree ≢ right_tree
  pub variables : List (Variable L)
  pub are_variables : AreLeaves x.before (x.wanted left_tree right_tree) variables
  pub many : 16 < length variables
  pub graph : List Node
  pub places : List (ℕ × L)
  pub distinct : AreDistinct places
  pub left_lit : ℕ
  pub right_lit : ℕ
  pub care_lit : ℕ
  pub is_graph : IsGraph graph
  pub left_within : left_lit < 2 * length graph
  pub right_within : right_lit < 2 * length graph
  pub care_within : care_lit < 2 * length graph
  pub own : ReadOnly graph places (left_lit ∷ right_lit ∷ care_lit ∷ []) variables
  pub left_value : HasValueOf graph places left_lit (λ bits. tree_value bits left_tree)
  pub right_value : HasValueOf graph places right_lit (λ bits. tree_value bits right_tree)
  pub care_value : (bits : ℕ → L → Bool) (a : ℕ → Bool) → TakesBits places bits a → (value graph a care_lit ≡ true) ↔ x.care left_tree right_tree bits
  pub sides : left_lit ≢ right_lit
  pub care : care_lit ≢ 0
  pub clauses : IsEncoding graph left_lit right_lit care_lit proof.cnf
  pub log : IsFruitless proof.cnf.clauses conflicts proof.log

-- What each answer says of a pair, and the proof that stands beside it: one at the limit alone. A difference of the functions is one of the
-- circuits where the pair is decisive.
abbrev pub AnswerFits : {L : Type 0} → AskedPair L → (IsDecisive : Type 0) → ℕ → PairAnswer → Option Proof → Type 0
AnswerFits x IsDecisive conflicts answer.Equal None = AreEqual x
AnswerFits x IsDecisive conflicts answer.Equal (Some proof) = ⊥
AnswerFits x IsDecisive conflicts answer.Different None = IsDecisive × AreDifferent x
AnswerFits x IsDecisive conflicts answer.Different (Some proof) = ⊥
AnswerFits x IsDecisive conflicts answer.NotShown None = (IsDecisive → ⊥) × AreDifferent x
AnswerFits x IsDecisive conflicts answer.NotShown (Some proof) = ⊥
AnswerFits x IsDecisive conflicts answer.Limit None = ⊥
AnswerFits x IsDecisive conflicts answer.Limit (Some proof) = IsUndecided x conflicts proof

-- the pairs that are asked before this one are equal
abbrev pub AreEqualBefore : {L : Type 0} → (ℕ → AskedPair L) → ℕ → Type 0
AreEqualBefore asked t = (s : ℕ) → s < t → AreEqual (asked s)

-- What each answer says of pairs of which each is asked where those before it are equal, up to the last, as one pair of signals is in each
-- cycle: by the first that isn't equal. Each difference is one of the circuits.
abbrev pub AnswersFit : {L : Type 0} → (ℕ → AskedPair L) → ℕ → ℕ → PairAnswer → Option Proof → Type 0
AnswersFit asked conflicts last answer.Equal None = (t : ℕ) → t ≤ last → AreEqual (asked t)
AnswersFit asked conflicts last answer.Equal (Some proof) = ⊥
AnswersFit asked conflicts last answer.Different None = (t : ℕ) × (t ≤ last) × AreEqualBefore asked t × AreDifferent (asked t)
AnswersFit asked conflicts last answer.Different (Some proof) = ⊥
AnswersFit asked conflicts last answer.NotShown proof = ⊥
AnswersFit asked conflicts last answer.Limit None = ⊥
AnswersFit asked conflicts last answer.Limit (Some proof) = (t : ℕ) × (t ≤ last) × AreEqualBefore asked t × IsUndecided (asked t) conflicts proof
