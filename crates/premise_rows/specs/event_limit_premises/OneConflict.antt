-- The same pair where one conflict is allowed: the log has the chain of the clause that is learned from it.
use Rattle.std.specs.Prelude.{false, [], ◌∷◌, Some, codes}
use Rattle.proof_check.specs.declared.derivation.Chain.{Chain}
use Rattle.witness_report.specs.declared.witness.PairName.TheVariants as pair
use Rattle.pair_decide.specs.declared.query.Proof.{Proof}
use Rattle.pair_decide.specs.Answers.{IsAtLimit}
use Rattle.obligations.specs.declared.outcome.verdict.PairResult.{PairResult}
use Rattle.obligations.specs.Decided.{IsAnswered}
use Rattle.event_form.specs.Answers.{PairFits}
use Rattle.event_form.specs.declared.event_findings.verdict.EventVerdict.TheVariants as verdict
use Rattle.event_form.specs.event_findings.Findings.{FindingsFit}
use Rattle.premise_rows.specs.event_limit_premises.AtLimit.{chosen_asked, chosen_pair, chosen_query, chosen_result, undecided}
use Rattle.premise_rows.specs.event_limit_premises.Chosen.{both_chosen, chooses, chosen_nodes, shows}
use Rattle.premise_rows.specs.event_limit_premises.Found.{chosen_compared}

-- With a set, 6 is 1, so neither and is, so b is 0, and then the and of a and not b is 1: a conflict. The clause that isn't met there, resolved with
-- those that forced 5, 3, 4 and 6, says that a is 0.
abbrev pub a_is_zero : Chain
a_is_zero = record { start = 6; steps = record { pivot = 5; clause = 8 } ∷ record { pivot = 3; clause = 3 } ∷ record { pivot = 4; clause = 7 } ∷ record { pivot = 6; clause = 12 } ∷ [] }

abbrev pub after_one : Proof
after_one = record undecided { log = a_is_zero ∷ [] }

abbrev pub one_result : PairResult
one_result = record chosen_result { proof = Some after_one }

-- Unit propagation doesn't give that clause, and it isn't empty: so the log is an answer at the limit of one conflict, which fits the pair, and so does
-- what is found.
pub record OneConflictMeetsPremises : Type 0 where
  pub at_limit : IsAtLimit chosen_nodes chosen_query 1 after_one
  pub answered : IsAnswered chosen_nodes 1 chosen_asked one_result
  pub fits : PairFits both_chosen false 1 chosen_pair one_result
  pub found : FindingsFit chooses shows chosen_compared 1 (record { pairs = one_result ∷ []; verdict = verdict.Limit (pair.Output (codes "y")) })
