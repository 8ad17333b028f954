-- The answer at the limit of one conflict meets the premises, and so it fits the pair.
use Rattle.std.proofs.Common.{◌≢◌, false, List, [], ◌∷◌, refl, arith}
use Rattle.std.specs.Prelude.{codes}
use Rattle.std.proofs.lemmas.List.Elements.{All-from_recursion}
use Rattle.clause_base.specs.Literals.{Literal}
use Rattle.sec_base.specs.declared.basics.PairAnswer.TheVariants as answer
use Rattle.witness_report.specs.declared.witness.PairName.TheVariants as pair
use Rattle.pair_decide.specs.Answers.{IsAtLimit}
use Rattle.obligations.specs.declared.outcome.verdict.PairResult.{PairResult}
use Rattle.obligations.specs.Decided.{IsAnswered}
use Rattle.event_form.specs.Answers.{PairFits}
use Rattle.event_form.specs.event_findings.Findings.{IsFirstLimit}
use Rattle.event_form.proofs.Answers.{answers_are_fit}
use Rattle.premise_rows.specs.event_limit_premises.AtLimit.{chosen_asked, chosen_pair, chosen_query, isnt}
use Rattle.premise_rows.specs.event_limit_premises.Chosen.{at_choice, both_chosen, chosen_nodes}
use Rattle.premise_rows.specs.event_limit_premises.OneConflict.{after_one, one_result, OneConflictMeetsPremises}
use Rattle.premise_rows.proofs.event_limit_premises.AtLimit.{graph, is_query, kept, meets_premises}
use Rattle.premise_rows.proofs.event_limit_premises.LearnedClause.{derives, is_new}

not_empty : isnt 2 ∷ [] ≢ []
not_empty e = cc

at_limit : IsAtLimit chosen_nodes chosen_query 1 after_one
at_limit = record {
  wide = meets_premises.at_limit.wide;
  encoding = meets_premises.at_limit.encoding;
  fruitless = record { count = refl; derived = (isnt 2 ∷ []) ∷ []; derives = (isnt 2 ∷ [], [], derives, refl, refl); new = (is_new, tt); no_empty = All-from_recursion (λ (c : List Literal). c ≢ []) ((isnt 2 ∷ []) ∷ []) (not_empty, tt) };
}

answered : IsAnswered chosen_nodes 1 chosen_asked one_result
answered = record {
  name_is = refl;
  size_is = refl;
  answer_is = record {
    place = 0;
    query = chosen_query;
    first = record { at = refl; earlier = λ i r l h. absurd (omega (arith, l)) };
    limit = record {
      graph = chosen_nodes;
      asked = chosen_query;
      stands = record { graph = graph; query = is_query; vars = refl; trivial = λ h. h; left = λ a. refl; right = λ a. refl; care = λ a. refl };
      decides = at_limit;
    };
  };
}

fits : PairFits both_chosen false 1 chosen_pair one_result
fits = answers_are_fit both_chosen at_choice false 1 chosen_pair chosen_asked one_result kept.events meets_premises.asked answered

first_limit : IsFirstLimit (chosen_pair ∷ []) (one_result ∷ []) (pair.Output (codes "y"))
first_limit = record { index = 0; place = chosen_pair; first = record { result = one_result; pair_at = refl; result_at = refl; answered = refl; earlier = λ i r l. absurd (omega (arith, l)) }; named = refl }

not_different : answer.Limit ≢ answer.Different
not_different e = cc

pub meets_one : OneConflictMeetsPremises
meets_one = record {
  at_limit = at_limit;
  answered = answered;
  fits = fits;
  found = record { pairs_fit = (fits, tt); verdict_is = (All-from_recursion (λ (r : PairResult). r.answer ≢ answer.Different) (one_result ∷ []) (not_different, tt), first_limit) };
}
