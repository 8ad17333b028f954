-- What the status of a search means.
use Rattle.std.specs.List.{Contains}
use Rattle.std.proofs.Common.{◌≡◌, ℕ, List, [], refl, sym, ap, subst, ◌∙◌, Option}
use Rattle.circuit_theory.proofs.Lists.{of_at}
use Rattle.base_shelves.specs.Outside.{Takes}
use Rattle.flat_net.specs.View.{NetView, circuit_of}
use Rattle.pair_decide.specs.declared.query.Proof.{Proof}
use Rattle.witness_report.specs.declared.witness.PairName.{PairName}
use Rattle.obligations.proofs.swept_queries.Listed.{zip_left}
use Rattle.obligations.proofs.Fits.{limit_fits}
use Rattle.outcome_fits.specs.ResetOutcome.{IsFirstLimit}
use Rattle.sec_setup.specs.ports.Pairs.{NamedPair, named_pairs}
use Rattle.plain_check.proofs.under_base.compare_base.Fitted.{kept_proof}
use Rattle.job_base.specs.sec_files.Loading.{Loads, circuit_of_text}
use Rattle.job_base.proofs.sec_files.Texts.{spelled_circuit}
use Rattle.job_base.proofs.design_laws.text_circuits.Circuits.{text_design}
use Rattle.job_base.proofs.design_laws.text_circuits.Resets.{resets_agree_up}
use Rattle.job_base.specs.declared.finding.Judgement.{Judgement}
use Rattle.job_base.specs.declared.finding.Refusal.{Refusal}
use Rattle.job_base.specs.declared.finding.Finding.{Finding}
use Rattle.job_base.specs.declared.finding.Finding.TheVariants as finding
use Rattle.job_base.specs.declared.status.StatusName.{StatusName}
use Rattle.job_base.specs.declared.status.StatusName.TheVariants as status
use Rattle.job_base.specs.Written.{judgement_status, IsWrittenAs}
use Rattle.cycle_search.specs.declared.found.SearchVerdict.{SearchVerdict}
use Rattle.cycle_search.specs.declared.found.SearchVerdict.TheVariants as verdict
use Rattle.cycle_search.specs.Cycles.{ResultIn}
use Rattle.cycle_search.specs.Searches.{VerdictFits}
use Rattle.sec_jobs.proofs.job_induct.induct_meaning.Means.{of_texts}
use Rattle.job_base.specs.sec_files.job_files.Texts.{OfNets}
use Rattle.sec_jobs.specs.job_search.search_meaning.Judged.{judgement_of, IsJudged}
use Rattle.sec_jobs.specs.job_search.search_meaning.Found.{IsSearchFound}
use Rattle.sec_jobs.specs.job_search.search_meaning.Answer.{AreSearchedTexts, CyclesAgree, CyclesAgreeUpTo, CyclesDiffer, CyclesUndecided, SearchMeans}
use Rattle.sec_jobs.proofs.job_search.search_meaning.Lifted.{agree_up_to_up, resets_differ_up}

-- a verdict has no other status
not_done : (v : SearchVerdict) → judgement_status (judgement_of v) ≡ status.Done → ⊥
not_done verdict.Equal e = cc
not_done (verdict.NoDifference stopped) e = cc
not_done (verdict.Different w) e = cc
not_done (verdict.Limit name) e = cc

module _ (cycles conflicts : ℕ) (before now : Option (List ℕ)) (a b : NetView) (j : Judgement) (proofs : List Proof) (text : List ℕ) (h : IsJudged a b cycles conflicts j proofs text) (taken : Takes before now text) (x y : List ℕ) (left : Loads x a)
    (right : Loads y b) where
  abbrev texts : AreSearchedTexts x y cycles conflicts before now
  texts = record {
    left_clock = a.clock;
    right_clock = b.clock;
    left = circuit_of_text x a.clock;
    right = circuit_of_text y b.clock;
    left_spelled = spelled_circuit x a left;
    right_spelled = spelled_circuit y b right;
    left_net = a;
    right_net = b;
    left_loads = left;
    right_loads = right;
    made = h.made;
    is = h.is;
    printed = subst (Takes before now) h.text_is taken;
  }

  agree : judgement_status j ≡ status.Equal → CyclesAgree x y cycles conflicts before now
  agree e = go h.made.verdict refl (ap judgement_status (sym h.judgement_is) ∙ e)
    where
      go : (v : SearchVerdict) → h.made.verdict ≡ v → judgement_status (judgement_of v) ≡ status.Equal → CyclesAgree x y cycles conflicts before now
      go verdict.Equal is q = record { of = texts; is_verdict = is; says = resets_agree_up (text_design x a left) (text_design y b right) (h.agree is) }
      go (verdict.NoDifference stopped) is q = absurd (cc)
      go (verdict.Different w) is q = absurd (cc)
      go (verdict.Limit name) is q = absurd (cc)

  agree_up_to : judgement_status j ≡ status.NotShown → CyclesAgreeUpTo x y cycles conflicts before now
  agree_up_to e = go h.made.verdict refl (ap judgement_status (sym h.judgement_is) ∙ e)
    where
      go : (v : SearchVerdict) → h.made.verdict ≡ v → judgement_status (judgement_of v) ≡ status.NotShown → CyclesAgreeUpTo x y cycles conflicts before now
      go verdict.Equal is q = absurd (cc)
      go (verdict.NoDifference stopped) is q = record { of = texts; stopped = stopped; is_verdict = is; says = agree_up_to_up (text_design x a left) (text_design y b right) h.made.last (h.agree_up_to stopped is) }
      go (verdict.Different w) is q = absurd (cc)
      go (verdict.Limit name) is q = absurd (cc)

  differ : judgement_status j ≡ status.Different → CyclesDiffer x y cycles conflicts before now
  differ e = go h.made.verdict refl (ap judgement_status (sym h.judgement_is) ∙ e)
    where
      go : (v : SearchVerdict) → h.made.verdict ≡ v → judgement_status (judgement_of v) ≡ status.Different → CyclesDiffer x y cycles conflicts before now
      go verdict.Equal is q = absurd (cc)
      go (verdict.NoDifference stopped) is q = absurd (cc)
      go (verdict.Different w) is q = record { of = texts; witness = w; is_verdict = is; says = resets_differ_up (text_design x a left) (text_design y b right) w (h.differ w is) }
      go (verdict.Limit name) is q = absurd (cc)

  undecided_at : (name : PairName) → h.made.verdict ≡ verdict.Limit name → IsFirstLimit h.made.pairs name → CyclesUndecided x y cycles conflicts proofs before now
  undecided_at name e first =
      let pairs : List (NamedPair ℕ ℕ) = named_pairs [] (circuit_of a) (circuit_of b) in
      let n = zip_left (ResultIn h.is.numbers conflicts h.made.last) pairs h.made.pairs h.is.found.pairs_fit first.index first.result first.result_is in
      let given = limit_fits _ _ _ first.result.answer first.result.proof n.2.answer_is first.limit in
      record {
        of = texts;
        numbers = h.is.numbers;
        are_numbers = h.is.are_numbers;
        named = n.0;
        is_pair = of_at pairs first.index n.0 n.1;
        is_verdict = e ∙ ap (λ m. verdict.Limit m) (first.named ∙ n.2.name_is);
        agree_before = h.is.found.before;
        proof = given.0;
        kept = subst (λ (ps : List Proof). Contains ps given.0) (sym h.proofs_are) (kept_proof h.made.pairs first.result given.0 (of_at h.made.pairs first.index first.result first.result_is) given.1);
        undecided = given.2;
      }

  undecided : judgement_status j ≡ status.Limit → CyclesUndecided x y cycles conflicts proofs before now
  undecided e = go h.made.verdict refl (ap judgement_status (sym h.judgement_is) ∙ e)
    where
      go : (v : SearchVerdict) → h.made.verdict ≡ v → judgement_status (judgement_of v) ≡ status.Limit → CyclesUndecided x y cycles conflicts proofs before now
      go verdict.Equal is q = absurd (cc)
      go (verdict.NoDifference stopped) is q = absurd (cc)
      go (verdict.Different w) is q = absurd (cc)
      go (verdict.Limit name) is q = undecided_at name is (subst (VerdictFits h.is.numbers a b cycles h.made.last (named_pairs [] (circuit_of a) (circuit_of b)) h.made.pairs) is h.is.found.verdict_is)

module _ (cycles conflicts : ℕ) (left right before now : Option (List ℕ)) where
  -- a judgement that is written
  judged_means : (j : Judgement) (kept : List Proof) (text : List ℕ) → OfNets left right (λ a b. IsJudged a b cycles conflicts j kept text) → (proofs : List Proof) (name : StatusName) →
      IsWrittenAs before now (finding.Judged j kept text) proofs name → SearchMeans cycles conflicts left right before now proofs name
  judged_means j kept text h proofs status.Equal w =
      of_texts left right h.a h.b (λ x y. CyclesAgree x y cycles conflicts before now) h.left_loads h.right_loads (λ x y l r. agree cycles conflicts before now h.a h.b j kept text h.said w.2 x y l r w.1)
  judged_means j kept text h proofs status.Different w =
      of_texts left right h.a h.b (λ x y. CyclesDiffer x y cycles conflicts before now) h.left_loads h.right_loads (λ x y l r. differ cycles conflicts before now h.a h.b j kept text h.said w.2 x y l r w.1)
  judged_means j kept text h proofs status.NotShown w =
      of_texts left right h.a h.b (λ x y. CyclesAgreeUpTo x y cycles conflicts before now) h.left_loads h.right_loads (λ x y l r. agree_up_to cycles conflicts before now h.a h.b j kept text h.said w.2 x y l r w.1)
  judged_means j kept text h proofs status.Limit w =
      of_texts left right h.a h.b (λ x y. CyclesUndecided x y cycles conflicts proofs before now) h.left_loads h.right_loads
      (λ x y l r. subst (λ (ps : List Proof). CyclesUndecided x y cycles conflicts ps before now) (sym w.0) (undecided cycles conflicts before now h.a h.b j kept text h.said w.2 x y l r w.1))
  judged_means j kept text h proofs status.Refused w = tt
  judged_means j kept text h proofs status.Words w = tt
  judged_means j kept text h proofs status.ReadFault w = tt
  judged_means j kept text h proofs status.WriteFault w = tt
  judged_means j kept text h proofs status.NoMemory w = tt
  judged_means j kept text h proofs status.Cyclic w = tt
  judged_means j kept text h proofs status.Done w = not_done h.said.made.verdict (ap judgement_status (sym h.said.judgement_is) ∙ w.1)

  -- a refusal that is written
  refused_means : (r : Refusal) (proofs : List Proof) (name : StatusName) → IsWrittenAs before now (finding.Refused r) proofs name → SearchMeans cycles conflicts left right before now proofs name
  refused_means r proofs status.Equal w = absurd (let e : status.Refused ≡ status.Equal = w.1 in cc)
  refused_means r proofs status.Different w = absurd (let e : status.Refused ≡ status.Different = w.1 in cc)
  refused_means r proofs status.NotShown w = absurd (let e : status.Refused ≡ status.NotShown = w.1 in cc)
  refused_means r proofs status.Limit w = absurd (let e : status.Refused ≡ status.Limit = w.1 in cc)
  refused_means r proofs status.Refused w = tt
  refused_means r proofs status.Words w = tt
  refused_means r proofs status.ReadFault w = tt
  refused_means r proofs status.WriteFault w = tt
  refused_means r proofs status.NoMemory w = tt
  refused_means r proofs status.Cyclic w = tt
  refused_means r proofs status.Done w = absurd (let e : status.Refused ≡ status.Done = w.1 in cc)

  -- what a written finding means
  pub search_means : (f : Finding) (proofs : List Proof) (name : StatusName) → IsSearchFound cycles conflicts left right f → IsWrittenAs before now f proofs name → SearchMeans cycles conflicts left right before now proofs name
  search_means finding.Words proofs name h w = absurd h
  search_means (finding.Refused r) proofs name h w = refused_means r proofs name w
  search_means (finding.Cyclic side names) proofs name h w = absurd h
  search_means (finding.Unpaired side names) proofs name h w = absurd h
  search_means (finding.Checked o s) proofs name h w = absurd h
  search_means (finding.Done text) proofs name h w = absurd h
  search_means (finding.Generated o report) proofs name h w = absurd h
  search_means (finding.Replayed differences) proofs name h w = absurd h
  search_means (finding.Undecided side latch proof) proofs name h w = absurd h
  search_means (finding.Unrefuted u) proofs name h w = absurd h
  search_means (finding.Judged j kept text) proofs name h w = judged_means j kept text h proofs name w
