-- The query of a difference under an assumption, and the sequence that shows it.
use Rattle.std.specs.Prelude.{◌≡◌, ℕ, Bool, List}
use Rattle.aig.specs.declared.node.Node.{Node}
use Rattle.aig.specs.Values.{value}
use Rattle.pair_decide.specs.declared.query.Query.{Query}
use Rattle.pair_decide.specs.Queries.{assigned_to}
use Rattle.witness_report.specs.declared.witness.PairName.{PairName}
use Rattle.witness_report.specs.declared.witness.Witness.{Witness}
use Rattle.obligations.specs.declared.obligation.Obligation.{Obligation}
use Rattle.obligations.specs.declared.obligation.Difference.{Difference}
use Rattle.plain_asked.specs.Sequences.{IsQueryAt}

-- there is an obligation with such a query
pub record HasQueryAt (asked : List Obligation) (d : Difference) : Type 0 where
  pub obligation : Obligation
  pub query : Query
  pub is : IsQueryAt asked d obligation query

-- What is true of the obligation of a difference, of the query that is asked without the assumption, and of the same under it.
pub record HoldsAt (P : Obligation → Query → Query → Type 0) (asked under : List Obligation) (d : Difference) : Type 0 where
  pub plain : Obligation
  pub obligation : Obligation
  pub sides : Query
  pub query : Query
  pub asked_at : IsQueryAt asked d plain sides
  pub under_at : IsQueryAt under d obligation query
  pub holds : P obligation sides query

-- the witness with these rows, and else as it was
pub record HasRows (old : Witness) (rows : List (List Bool)) (new : Witness) : Type 0 where
  pub pair_is : new.pair ≡ old.pair
  pub cycle_is : new.cycle ≡ old.cycle
  pub left_is : new.left ≡ old.left
  pub right_is : new.right ≡ old.right
  pub names_are : new.stimulus.names ≡ old.stimulus.names
  pub rows_are : new.stimulus.rows ≡ rows

-- the sequence of these rows over the inputs of these names, which ends in a cycle, with the values of both sides of a query
pub record IsSequenceOfRows (g : List Node) (names : List (List ℕ)) (name : PairName) (q : Query) (bits : List Bool) (last : ℕ) (rows : List (List Bool)) (w : Witness) : Type 0 where
  pub pair_is : w.pair ≡ name
  pub cycle_is : w.cycle ≡ last
  pub left_is : w.left ≡ value g (assigned_to q.vars bits) q.left.0
  pub right_is : w.right ≡ value g (assigned_to q.vars bits) q.right.0
  pub names_are : w.stimulus.names ≡ names
  pub rows_are : w.stimulus.rows ≡ rows
