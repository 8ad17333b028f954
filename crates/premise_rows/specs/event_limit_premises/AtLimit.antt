-- The query of that pair, and the answer at the limit where no conflict is allowed.
use Rattle.std.specs.Prelude.{ℕ, true, false, [], ◌∷◌, Some, codes}
use Rattle.circuit_theory.specs.Joined.{Left, Right}
use Rattle.clause_base.specs.Literals.{Literal}
use Rattle.sec_base.specs.declared.basics.PairAnswer.TheVariants as answer
use Rattle.sec_setup.specs.declared.ports.pairs.SignalPair.{SignalPair}
use Rattle.witness_report.specs.declared.witness.PairName.TheVariants as pair
use Rattle.pair_decide.specs.declared.query.Proof.{Proof}
use Rattle.pair_decide.specs.declared.query.Query.{Query}
use Rattle.pair_decide.specs.Answers.{IsAtLimit}
use Rattle.pair_decide.specs.Queries.{IsQuery, IsSame}
use Rattle.obligations.specs.declared.obligation.Obligation.{Obligation}
use Rattle.obligations.specs.declared.outcome.verdict.PairResult.{PairResult}
use Rattle.obligations.specs.Decided.{IsAnswered}
use Rattle.obligations.specs.Found.{IsLimitOf}
use Rattle.edbf_unfold.specs.class_queries.Laws.{AreKept}
use Rattle.event_form.specs.Answers.{PairFits}
use Rattle.event_form.specs.Asked.{IsAskedOf}
use Rattle.event_form.specs.event_agreement.Queries.{AsksEventPair}
use Rattle.premise_rows.specs.event_limit_premises.Chosen.{at_choice, both_chosen, chooses, chosen_nodes, seventeen, shows}

abbrev pub chosen_pair : SignalPair
chosen_pair = record { name = pair.Output (codes "y"); left = record { 0 = 17 }; right = record { 0 = 0 } }

-- is a or of a and b and of a and not b the same as a? The care is 1.
abbrev pub chosen_query : Query
chosen_query = record { left = record { 0 = 41 }; right = record { 0 = 2 }; care = record { 0 = 1 }; vars = seventeen }

abbrev pub chosen_asked : Obligation
chosen_asked = record { name = pair.Output (codes "y"); size = 1; decisive = true; queries = chosen_query ∷ [] }

-- Its clauses: variable 1 stands for the constant, 2 and 3 for a and b, 4 and 5 for the two ands, and 6 for neither of these. The constant is 0; each
-- and is that of its operands; and 6 is as a, so that its complement differs from a.
abbrev pub is : ℕ → Literal
is k = record { variable = k; positive = true }

abbrev pub isnt : ℕ → Literal
isnt k = record { variable = k; positive = false }

-- no conflict was allowed, and so the log is empty
abbrev pub undecided : Proof
undecided = record {
  cnf = record {
    clauses =
        (isnt 1 ∷ [])
        ∷ (is 2 ∷ isnt 4 ∷ []) ∷ (is 3 ∷ isnt 4 ∷ []) ∷ (isnt 2 ∷ isnt 3 ∷ is 4 ∷ [])
        ∷ (is 2 ∷ isnt 5 ∷ []) ∷ (isnt 3 ∷ isnt 5 ∷ []) ∷ (isnt 2 ∷ is 3 ∷ is 5 ∷ [])
        ∷ (isnt 4 ∷ isnt 6 ∷ []) ∷ (isnt 5 ∷ isnt 6 ∷ []) ∷ (is 4 ∷ is 5 ∷ is 6 ∷ [])
        ∷ (isnt 1 ∷ []) ∷ (is 2 ∷ isnt 6 ∷ []) ∷ (isnt 2 ∷ is 6 ∷ []) ∷ [];
    variables = 6;
    nodes = 0 ∷ 1 ∷ 2 ∷ 18 ∷ 19 ∷ 20 ∷ [];
  };
  log = [];
}

abbrev pub chosen_result : PairResult
chosen_result = record { name = pair.Output (codes "y"); size = 1; answer = answer.Limit; proof = Some undecided }

-- The query is that of the pair. It has seventeen variables, and though its sides agree, an empty log is an answer at the limit. So that answer fits
-- the pair.
pub record LimitMeetsPremises : Type 0 where
  pub kept : AreKept chooses shows at_choice
  pub asks : AsksEventPair both_chosen at_choice (Left 17) (Right 0) chosen_query
  pub is_query : IsQuery chosen_nodes chosen_query
  pub same : IsSame chosen_nodes chosen_query
  pub at_limit : IsAtLimit chosen_nodes chosen_query 0 undecided
  pub asked : IsAskedOf both_chosen at_choice false chosen_pair chosen_asked
  pub limit : IsLimitOf chosen_nodes 0 (chosen_query ∷ []) undecided
  pub answered : IsAnswered chosen_nodes 0 chosen_asked chosen_result
  pub fits : PairFits both_chosen false 0 chosen_pair chosen_result
