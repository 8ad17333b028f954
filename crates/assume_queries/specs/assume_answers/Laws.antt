-- What the answers to queries under an assumption say.
use Rattle.std.specs.Prelude.{◌≡◌, ◌↔◌, ℕ, Bool, true, List, [], ◌∷◌}
use Rattle.circuit_theory.specs.Query.{AreVariables}
use Rattle.circuit_theory.specs.Tree.{Tree, tree_value}
use Rattle.base_tables.specs.Table.{AreDistinct}
use Rattle.aig.specs.declared.node.Node.{Node}
use Rattle.aig.specs.Values.{value}
use Rattle.pair_decide.specs.declared.query.Query.{Query}
use Rattle.pair_decide.specs.Queries.{IsQuery, IsSame}
use Rattle.pair_decide.specs.Answers.{IsDifference}
use Rattle.cbf_unfold.specs.unfold_places.Growing.{TakesBits}
use Rattle.cbf_unfold.specs.shift_variables.Variables.{variables_of}
use Rattle.assume_laws.specs.Assume.{Assumption, MeetsAtVariables}
use Rattle.assume_laws.specs.Sequences.{AreVariablesUnder, IsDifferenceUnder}
use Rattle.assume_queries.specs.declared.assume_answers.order.VariableOrder.{VariableOrder}
use Rattle.assume_queries.specs.assume_answers.Order.{GoesFirst}
use Rattle.assume_queries.specs.assume_answers.Under.{IsUnder}

-- q asks whether two trees have equal values always, and r whether they have under the assumption
pub record AsksUnder (order : VariableOrder) (c : Assumption) (g : List Node) (table : List (ℕ × ℕ)) (left right : Tree ℕ) (q r : Query) : Type 0 where
  pub asked : IsQuery g q
  pub distinct : AreDistinct table
  pub sides : AreVariables (GoesFirst order) (left ∷ right ∷ []) (variables_of table q.vars)
  pub left_value : (bits : ℕ → ℕ → Bool) (a : ℕ → Bool) → TakesBits table bits a → value g a q.left.0 ≡ tree_value bits left
  pub right_value : (bits : ℕ → ℕ → Bool) (a : ℕ → Bool) → TakesBits table bits a → value g a q.right.0 ≡ tree_value bits right
  pub under : IsUnder order c g table q r

abbrev pub AnswersUnder : Type 0
AnswersUnder = (order : VariableOrder) (c : Assumption) (g : List Node) (table : List (ℕ × ℕ)) (left right : Tree ℕ) (q r : Query) → AsksUnder order c g table left right q r →
    IsQuery g r
    × (IsSame g r → (x : ℕ → ℕ → Bool) → MeetsAtVariables c left right x → tree_value x left ≡ tree_value x right)
    × ((bits : List Bool) → IsDifference g r bits → IsDifferenceUnder (GoesFirst order) c left right (variables_of table q.vars) (variables_of table r.vars) bits)
    × AreVariablesUnder (GoesFirst order) c left right (variables_of table r.vars)
    × ((bits : ℕ → ℕ → Bool) (a : ℕ → Bool) → TakesBits table bits a → (value g a r.care.0 ≡ true) ↔ MeetsAtVariables c left right bits)
