-- What is judged of two nets, or why they aren't.
use Rattle.std.specs.Prelude.{IsErrAnd}
use Rattle.std.proofs.Common.{◌≡◌, ℕ, List, sym, subst, Result, Ok, Err}
use Rattle.flat_net.specs.Comparable.{IsComparable}
use Rattle.flat_net.specs.View.{NetView}
use Rattle.pair_decide.specs.declared.query.Proof.{Proof}
use Rattle.job_base.specs.declared.finding.Judgement.{Judgement}
use Rattle.cycle_search.specs.declared.found.Searched.{Searched}
use Rattle.cycle_search.specs.declared.found.SearchError.{SearchError}
use Rattle.cycle_search.specs.declared.found.SearchError.TheVariants as judge
use Rattle.cycle_search.specs.search_report.Report.{search_text}
use Rattle.cycle_search.specs.Searches.{AreSearched, Searches}
use Rattle.sec_jobs.specs.job_search.search_meaning.Judged.{judgement_of, proofs_of, IsJudged}
use Rattle.sec_jobs.specs.job_search.Ends.{IsJudgedBy}
use Rattle.sec_jobs.specs.declared.job_search.judging.Judged.{Judged}
use Rattle.sec_jobs.proofs.job_search.search_meaning.Meaning.{agree, agree_up_to, differ}

module _ (a b : NetView) (cycles conflicts : ℕ) where
  -- what is true of an error is true of the result that it is
  pub refused_by : (r : Result Judged SearchError) (e : SearchError) → IsErrAnd r (λ x. x ≡ e) → IsJudgedBy a b cycles conflicts (Err e) → IsJudgedBy a b cycles conflicts r
  refused_by (Ok x) e h p = absurd h
  refused_by (Err x) e h p = subst (λ (y : SearchError). IsJudgedBy a b cycles conflicts (Err y)) (sym h) p

  pub refused : (e : SearchError) → Searches a b cycles conflicts (Err e) → IsJudgedBy a b cycles conflicts (Err e)
  refused (judge.Interface name) h = h
  refused (judge.TooLarge side) h = h
  refused judge.NoMemory h = tt

  -- both are judged
  pub judged_by : (made : Searched) (j : Judgement) (proofs : List Proof) (text : List ℕ) → IsComparable b → AreSearched a b cycles conflicts made → j ≡ judgement_of made.verdict → proofs ≡ proofs_of made.pairs → text ≡ search_text a b cycles conflicts made →
      IsJudged a b cycles conflicts j proofs text
  judged_by made j proofs text comparable is judgement kept written = record {
    made = made;
    is = is;
    agree = agree a b cycles conflicts made is comparable.distinct;
    agree_up_to = agree_up_to a b cycles conflicts made is comparable.distinct;
    differ = differ a b cycles conflicts made is comparable.distinct;
    judgement_is = judgement;
    proofs_are = kept;
    text_is = written;
  }
