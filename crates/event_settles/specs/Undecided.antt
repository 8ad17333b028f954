-- A query of a care that wasn't decided.
use Rattle.std.specs.Prelude.{◌≡◌, ◌≢◌, ◌↔◌, ℕ, ◌*◌, ◌<◌, Bool, true, List, [], ◌∷◌, length}
use Rattle.circuit_theory.specs.Query.{Variable}
use Rattle.circuit_theory.specs.Tree.{Tree}
use Rattle.circuit_theory.specs.EventFrames.{AreNodeVariables}
use Rattle.base_tables.specs.Table.{AreDistinct}
use Rattle.aig.specs.declared.node.Node.{Node}
use Rattle.aig.specs.Builds.{TakesBits, ReadOnly}
use Rattle.aig.specs.Graph.{IsGraph}
use Rattle.aig.specs.Values.{value}
use Rattle.obligations.specs.cnf_encode.Encoding.{IsEncoding}
use Rattle.obligations.specs.sat_search.Found.{IsFruitless}
use Rattle.obligations.specs.outcome.Proof.{Proof}

-- The query of a care has more than 16 variables, which are those of these trees. The proof that is kept has the clauses of a literal that is 1 in
-- exactly the frames with care, against the literal 0. Its cone reads none but these variables, no place has two variables, and it isn't the literal 0.
-- The log has exactly as many chains as conflicts are allowed, all of them valid over these clauses; each derives a clause that tells unit
-- propagation something, and none the empty clause.
pub record IsCareUndecided (Cared : (ℕ → List ℕ → Bool) → Type 0) (IsTree : Tree (List ℕ) → Type 0) (conflicts : ℕ) (proof : Proof) : Type 0 where
  pub variables : List (Variable (List ℕ))
  pub are_variables : AreNodeVariables IsTree variables
  pub many : 16 < length variables
  pub graph : List Node
  pub places : List (ℕ × List ℕ)
  pub distinct : AreDistinct places
  pub care_lit : ℕ
  pub is_graph : IsGraph graph
  pub within : care_lit < 2 * length graph
  pub own : ReadOnly graph places (care_lit ∷ []) variables
  pub care_value : (bits : ℕ → List ℕ → Bool) (a : ℕ → Bool) → TakesBits places bits a → (value graph a care_lit ≡ true) ↔ Cared bits
  pub open_care : care_lit ≢ 0
  pub clauses : IsEncoding graph care_lit 0 1 proof.cnf
  pub log : IsFruitless proof.cnf.clauses conflicts proof.log
