-- What is found of the nets that are read.
use Rattle.std.specs.Prelude.{IfSome, IsErrAnd, IsErrOf}
use Rattle.std.proofs.Common.{◌≡◌, ℕ, List, sym, subst, Option, Result, Ok, Err}
use Rattle.flat_net.specs.Comparable.{IsComparable}
use Rattle.flat_net.specs.View.{NetView}
use Rattle.pair_decide.specs.declared.query.Proof.{Proof}
use Rattle.job_base.specs.sec_files.Loading.{Loads}
use Rattle.job_base.specs.declared.finding.Judgement.{Judgement}
use Rattle.job_base.specs.declared.finding.Stop.TheVariants as stop
use Rattle.job_base.specs.Ends.{EndsBy}
use Rattle.cycle_search.specs.declared.found.Searched.{Searched}
use Rattle.cycle_under.specs.declared.found.UnderError.{UnderError}
use Rattle.cycle_under.specs.declared.found.UnderError.TheVariants as under
use Rattle.cycle_under.specs.Searches.{AreSearchedUnder, SearchesUnder}
use Rattle.sec_jobs.specs.job_search.search_meaning.Judged.{judgement_of, proofs_of}
use Rattle.job_under.specs.declared.judging.Judged.{Judged}
use Rattle.job_under.specs.Report.{searched_text}
use Rattle.job_under.specs.Judged.{IsJudgedSearch}
use Rattle.job_under.specs.Found.{IsFoundBy}
use Rattle.job_under.specs.Ends.{IsJudgedOr, IsJudgedBy, under_end}
use Rattle.job_under.proofs.Says.{agree, agree_up_to, differ}

module _ (a b c : NetView) (cycles conflicts : ℕ) where
  -- what is true of an error is true of the result that it is
  pub refused_by : (r : Result Judged UnderError) (e : UnderError) → IsErrAnd r (λ x. x ≡ e) → SearchesUnder a b c cycles conflicts (Err e) → IsJudgedBy a b c cycles conflicts r
  refused_by (Ok x) e h p = absurd h
  refused_by (Err x) e h p = subst (λ (y : UnderError). SearchesUnder a b c cycles conflicts (Err y)) (sym h) p

  -- the judgement of what was found
  pub judged_by : (made : Searched) (name : List ℕ) (j : Judgement) (proofs : List Proof) (text : List ℕ) → IsComparable b → (is : AreSearchedUnder a b c cycles conflicts made) → name ≡ is.assumed.shape.output.name → j ≡ judgement_of made.verdict →
      proofs ≡ proofs_of made.pairs → text ≡ searched_text a b name cycles conflicts made → IsJudgedSearch a b c cycles conflicts j proofs text
  judged_by made name j proofs text comparable is named judgement kept written = record {
    made = made;
    is = is;
    agree = agree a b c cycles conflicts made is comparable.distinct;
    agree_up_to = agree_up_to a b c cycles conflicts made is comparable.distinct;
    differ = differ a b c cycles conflicts made is comparable.distinct;
    judgement_is = judgement;
    proofs_are = kept;
    text_is = subst (λ (n : List ℕ). text ≡ searched_text a b n cycles conflicts made) named written;
  }

-- the nets are judged
pub nets_end : (Refuses : NetView → NetView → NetView → UnderError → Type 0) (Judges : NetView → NetView → NetView → Judgement → List Proof → List ℕ → Type 0) (left right assumed : Option (List ℕ)) (failed : Type 0) (a b c : NetView) (judged : Result Judged UnderError) → IfSome left (λ x. Loads x a) → IfSome right (λ y. Loads y b) → IfSome assumed (λ z. Loads z c) →
    IsJudgedOr Refuses Judges a b c judged → EndsBy (IsFoundBy Refuses Judges left right assumed) failed (under_end judged)
nets_end Refuses Judges left right assumed failed a b c (Ok j) l r s k = record { a = a; b = b; c = c; left_loads = l; right_loads = r; assumed_loads = s; said = k }
nets_end Refuses Judges left right assumed failed a b c (Err (under.Interface name)) l r s k = record { a = a; b = b; c = c; left_loads = l; right_loads = r; assumed_loads = s; said = k }
nets_end Refuses Judges left right assumed failed a b c (Err (under.Assume fault)) l r s k = record { a = a; b = b; c = c; left_loads = l; right_loads = r; assumed_loads = s; said = k }
nets_end Refuses Judges left right assumed failed a b c (Err (under.Vacuous by)) l r s k = (by, record { a = a; b = b; c = c; left_loads = l; right_loads = r; assumed_loads = s; said = k })
nets_end Refuses Judges left right assumed failed a b c (Err (under.TooLarge side)) l r s k = record { a = a; b = b; c = c; left_loads = l; right_loads = r; assumed_loads = s; said = k }
nets_end Refuses Judges left right assumed failed a b c (Err under.NoMemory) l r s k = tt

-- a judgement ends with no read fault
pub no_fault_judged : (r : Result Judged UnderError) → IsErrOf (under_end r) stop.ReadFault → ⊥
no_fault_judged (Ok j) h = absurd (cc)
no_fault_judged (Err (under.Interface name)) h = absurd (cc)
no_fault_judged (Err (under.Assume fault)) h = absurd (cc)
no_fault_judged (Err (under.Vacuous by)) h = absurd (cc)
no_fault_judged (Err (under.TooLarge side)) h = absurd (cc)
no_fault_judged (Err under.NoMemory) h = absurd (cc)
