-- What the status of a search under an assumption means.
use Rattle.std.specs.List.{Contains}
use Rattle.std.specs.Prelude.{IfSome}
use Rattle.std.proofs.Common.{◌≡◌, ℕ, List, [], ◌∷◌, ◌++◌, refl, sym, ap, subst, ◌∙◌, inl, inr, Option, Some, None}
use Rattle.std.proofs.lemmas.List.{append-nil}
use Rattle.circuit_theory.proofs.Lists.{Contains-head, of_at}
use Rattle.circuit_theory.specs.Interface.{shared_inputs}
use Rattle.base_shelves.specs.Outside.{Takes}
use Rattle.flat_net.specs.View.{NetView, circuit_of, ports_of}
use Rattle.pair_decide.specs.declared.query.Proof.{Proof}
use Rattle.witness_report.specs.declared.witness.PairName.{PairName}
use Rattle.obligations.proofs.swept_queries.Listed.{zip_left}
use Rattle.obligations.proofs.Fits.{limit_fits}
use Rattle.obligations.specs.declared.outcome.verdict.ResetWitness.{ResetWitness}
use Rattle.outcome_fits.specs.ResetOutcome.{IsFirstLimit}
use Rattle.sec_setup.specs.ports.Pairs.{NamedPair, named_pairs}
use Rattle.assume_queries.specs.assume_sequences.assume_taken.Taken.{assumed_by}
use Rattle.plain_check.proofs.under_base.compare_base.Fitted.{kept_proof}
use Rattle.job_base.specs.sec_files.Loading.{Loads}
use Rattle.job_base.proofs.sec_files.job_files.Reading.{is_loaded}
use Rattle.job_base.proofs.design_laws.text_circuits.Circuits.{text_design}
use Rattle.job_base.specs.declared.finding.Judgement.{Judgement}
use Rattle.job_base.specs.declared.finding.Judgement.TheVariants as judgement
use Rattle.job_base.specs.declared.finding.Refusal.{Refusal}
use Rattle.job_base.specs.declared.finding.Finding.{Finding}
use Rattle.job_base.specs.declared.finding.Finding.TheVariants as finding
use Rattle.job_base.specs.declared.status.StatusName.{StatusName}
use Rattle.job_base.specs.declared.status.StatusName.TheVariants as status
use Rattle.job_base.specs.Written.{judgement_status, IsWrittenAs}
use Rattle.job_base.specs.sec_files.job_files.Texts.{OfThreeNets, OfThreeTexts}
use Rattle.pair_texts.proofs.assume_texts.Designs.{resets_agree_up, resets_differ_up, sequence_up}
use Rattle.pair_texts.proofs.assume_texts.Sequences.{differ_where_met, resets_where_met, sequence_meets}
use Rattle.pair_texts.proofs.assume_texts.Texts.{spelled}
use Rattle.cycle_search.specs.declared.found.SearchVerdict.{SearchVerdict}
use Rattle.cycle_search.specs.declared.found.SearchVerdict.TheVariants as verdict
use Rattle.cycle_under.specs.Cycles.{ResultUnder}
use Rattle.cycle_under.specs.Searches.{VerdictFitsUnder}
use Rattle.sec_jobs.specs.job_search.search_meaning.Judged.{judgement_of}
use Rattle.job_under.specs.Judged.{IsJudgedSearch, IsJudgedUndecided, IsJudged}
use Rattle.job_under.specs.Found.{IsUnderFound}
use Rattle.job_under.specs.Answer.{AreSearchedTexts, UnderAgree, UnderAgreeUpTo, UnderDiffer, UnderUndecided, AssumptionUndecided, UnderMeans}
use Rattle.job_under.proofs.Lifted.{up_to_where_met, agree_up_to_up}
use Rattle.job_under.proofs.Says.{names_are}

-- a verdict has no other status
not_done : (v : SearchVerdict) → judgement_status (judgement_of v) ≡ status.Done → ⊥
not_done verdict.Equal e = cc
not_done (verdict.NoDifference stopped) e = cc
not_done (verdict.Different w) e = cc
not_done (verdict.Limit name) e = cc

-- what is said of all texts that load as the three nets
pub of_three : (left right assumed : Option (List ℕ)) (a b c : NetView) (P : List ℕ → List ℕ → List ℕ → Type 0) → IfSome left (λ x. Loads x a) → IfSome right (λ y. Loads y b) → IfSome assumed (λ z. Loads z c) →
    ((x y z : List ℕ) → Loads x a → Loads y b → Loads z c → P x y z) → OfThreeTexts left right assumed P
of_three left right assumed a b c P l r s f = record { left_loads = is_loaded left a l; right_loads = is_loaded right b r; assumed_loads = is_loaded assumed c s; said = all left right assumed l r s }
  where
    all : (o p q : Option (List ℕ)) → IfSome o (λ x. Loads x a) → IfSome p (λ y. Loads y b) → IfSome q (λ z. Loads z c) → IfSome o (λ x. IfSome p (λ y. IfSome q (λ z. P x y z)))
    all None p q h i k = tt
    all (Some x) None q h i k = tt
    all (Some x) (Some y) None h i k = tt
    all (Some x) (Some y) (Some z) h i k = f x y z h i k

module _ (cycles conflicts : ℕ) (before now : Option (List ℕ)) (a b c : NetView) (j : Judgement) (proofs : List Proof) (text : List ℕ) (h : IsJudgedSearch a b c cycles conflicts j proofs text) (taken : Takes before now text) (x y z : List ℕ)
    (left : Loads x a) (right : Loads y b) (assumed : Loads z c) where
  abbrev texts : AreSearchedTexts x y z cycles conflicts before now
  texts = record { spelled = spelled x y z a b c left right assumed; made = h.made; is = h.is; printed = subst (Takes before now) h.text_is taken }

  abbrev shared : List (List ℕ)
  shared = shared_inputs (ports_of a) (ports_of b)

  agree : judgement_status j ≡ status.Equal → UnderAgree x y z cycles conflicts before now
  agree e = go h.made.verdict refl (ap judgement_status (sym h.judgement_is) ∙ e)
    where
      go : (v : SearchVerdict) → h.made.verdict ≡ v → judgement_status (judgement_of v) ≡ status.Equal → UnderAgree x y z cycles conflicts before now
      go verdict.Equal is q =
          record { of = texts; is_verdict = is; says = resets_agree_up (text_design x a left) (text_design y b right) (text_design z c assumed) (resets_where_met shared c h.is.assumed a b (h.agree is)) }
      go (verdict.NoDifference stopped) is q = absurd (cc)
      go (verdict.Different w) is q = absurd (cc)
      go (verdict.Limit name) is q = absurd (cc)

  agree_up_to : judgement_status j ≡ status.NotShown → UnderAgreeUpTo x y z cycles conflicts before now
  agree_up_to e = go h.made.verdict refl (ap judgement_status (sym h.judgement_is) ∙ e)
    where
      go : (v : SearchVerdict) → h.made.verdict ≡ v → judgement_status (judgement_of v) ≡ status.NotShown → UnderAgreeUpTo x y z cycles conflicts before now
      go verdict.Equal is q = absurd (cc)
      go (verdict.NoDifference stopped) is q = record {
        of = texts;
        stopped = stopped;
        is_verdict = is;
        says = agree_up_to_up (text_design x a left) (text_design y b right) (text_design z c assumed) h.made.last (up_to_where_met shared c h.is.assumed a b h.made.last (h.agree_up_to stopped is));
      }
      go (verdict.Different w) is q = absurd (cc)
      go (verdict.Limit name) is q = absurd (cc)

  differ : judgement_status j ≡ status.Different → UnderDiffer x y z cycles conflicts before now
  differ e = go h.made.verdict refl (ap judgement_status (sym h.judgement_is) ∙ e)
    where
      go : (v : SearchVerdict) → h.made.verdict ≡ v → judgement_status (judgement_of v) ≡ status.Different → UnderDiffer x y z cycles conflicts before now
      go verdict.Equal is q = absurd (cc)
      go (verdict.NoDifference stopped) is q = absurd (cc)
      go (verdict.Different w) is q =
          let shows = h.differ w is in
          let met = sequence_meets shared c h.is.assumed [] w.witness.stimulus (names_are a b c cycles conflicts h.made h.is w is ∙ sym (append-nil shared)) w.witness.cycle shows.1 in
          record {
            of = texts;
            witness = w;
            is_verdict = is;
            says = resets_differ_up (text_design x a left) (text_design y b right) (text_design z c assumed) w (differ_where_met shared c h.is.assumed a b w shows.0);
            meets = sequence_up (text_design z c assumed) w.witness.stimulus w.witness.cycle met;
          }
      go (verdict.Limit name) is q = absurd (cc)

  abbrev pairs : List (NamedPair ℕ ℕ)
  pairs = named_pairs [] (circuit_of a) (circuit_of b)

  undecided_at : (name : PairName) → h.made.verdict ≡ verdict.Limit name → IsFirstLimit h.made.pairs name → UnderUndecided x y z cycles conflicts proofs before now
  undecided_at name e first =
      let n = zip_left (ResultUnder (assumed_by h.is.assumed) h.is.numbers conflicts h.made.last) pairs h.made.pairs h.is.found.pairs_fit first.index first.result first.result_is in
      let given = limit_fits _ _ _ first.result.answer first.result.proof n.2.answer_is first.limit in
      record {
        of = texts;
        numbers = h.is.numbers;
        are_numbers = h.is.are_numbers;
        named = n.0;
        is_pair = of_at pairs first.index n.0 n.1;
        is_verdict = e ∙ ap (λ m. verdict.Limit m) (first.named ∙ n.2.name_is);
        agree_before = h.is.found.before;
        proof = given.0;
        kept = subst (λ (ps : List Proof). Contains ps given.0) (sym h.proofs_are) (kept_proof h.made.pairs first.result given.0 (of_at h.made.pairs first.index first.result first.result_is) given.1);
        undecided = given.2;
      }

  undecided : judgement_status j ≡ status.Limit → UnderUndecided x y z cycles conflicts proofs before now
  undecided e = go h.made.verdict refl (ap judgement_status (sym h.judgement_is) ∙ e)
    where
      go : (v : SearchVerdict) → h.made.verdict ≡ v → judgement_status (judgement_of v) ≡ status.Limit → UnderUndecided x y z cycles conflicts proofs before now
      go verdict.Equal is q = absurd (cc)
      go (verdict.NoDifference stopped) is q = absurd (cc)
      go (verdict.Different w) is q = absurd (cc)
      go (verdict.Limit name) is q = undecided_at name is (subst (VerdictFitsUnder (assumed_by h.is.assumed) h.is.assumed.weight h.is.numbers a b cycles h.made.last pairs h.made.pairs) is h.is.found.verdict_is)

-- the assumption's query wasn't decided
pub assumption_undecided : (conflicts : ℕ) (before now : Option (List ℕ)) (a b c : NetView) (j : Judgement) (proofs : List Proof) (text : List ℕ) → IsJudgedUndecided a b c conflicts j proofs text → Takes before now text →
    (x y z : List ℕ) → Loads x a → Loads y b → Loads z c → AssumptionUndecided x y z conflicts proofs before now
assumption_undecided conflicts before now a b c j proofs text h taken x y z left right assumed = record {
  spelled = spelled x y z a b c left right assumed;
  proof = h.proof;
  kept = subst (λ (ps : List Proof). Contains ps h.proof) (sym h.proofs_are) (Contains-head h.proof []);
  undecided = h.is;
  printed = subst (Takes before now) h.text_is taken;
}

module _ (cycles conflicts : ℕ) (left right assumed before now : Option (List ℕ)) where
  abbrev Means : List Proof → StatusName → Type 0
  Means proofs name = UnderMeans cycles conflicts left right assumed before now proofs name

  -- a judgement of what was found that is written
  search_means : (j : Judgement) (kept : List Proof) (text : List ℕ) (a b c : NetView) → IfSome left (λ x. Loads x a) → IfSome right (λ y. Loads y b) → IfSome assumed (λ z. Loads z c) → IsJudgedSearch a b c cycles conflicts j kept text → (proofs : List Proof) (name : StatusName) →
      IsWrittenAs before now (finding.Judged j kept text) proofs name → Means proofs name
  search_means j kept text a b c l r s h proofs status.Equal w =
      of_three left right assumed a b c (λ x y z. UnderAgree x y z cycles conflicts before now) l r s (λ x y z m n o. agree cycles conflicts before now a b c j kept text h w.2 x y z m n o w.1)
  search_means j kept text a b c l r s h proofs status.Different w =
      of_three left right assumed a b c (λ x y z. UnderDiffer x y z cycles conflicts before now) l r s (λ x y z m n o. differ cycles conflicts before now a b c j kept text h w.2 x y z m n o w.1)
  search_means j kept text a b c l r s h proofs status.NotShown w =
      of_three left right assumed a b c (λ x y z. UnderAgreeUpTo x y z cycles conflicts before now) l r s (λ x y z m n o. agree_up_to cycles conflicts before now a b c j kept text h w.2 x y z m n o w.1)
  search_means j kept text a b c l r s h proofs status.Limit w =
      of_three left right assumed a b c _ l r s
      (λ x y z m n o. inl (subst (λ (ps : List Proof). UnderUndecided x y z cycles conflicts ps before now) (sym w.0) (undecided cycles conflicts before now a b c j kept text h w.2 x y z m n o w.1)))
  search_means j kept text a b c l r s h proofs status.Refused w = tt
  search_means j kept text a b c l r s h proofs status.Words w = tt
  search_means j kept text a b c l r s h proofs status.ReadFault w = tt
  search_means j kept text a b c l r s h proofs status.WriteFault w = tt
  search_means j kept text a b c l r s h proofs status.NoMemory w = tt
  search_means j kept text a b c l r s h proofs status.Cyclic w = tt
  search_means j kept text a b c l r s h proofs status.Done w = not_done h.made.verdict (ap judgement_status (sym h.judgement_is) ∙ w.1)

  -- that of the assumption
  limit_means : (j : Judgement) (kept : List Proof) (text : List ℕ) (a b c : NetView) → IfSome left (λ x. Loads x a) → IfSome right (λ y. Loads y b) → IfSome assumed (λ z. Loads z c) → IsJudgedUndecided a b c conflicts j kept text → (proofs : List Proof) (name : StatusName) →
      IsWrittenAs before now (finding.Judged j kept text) proofs name → Means proofs name
  limit_means j kept text a b c l r s h proofs status.Equal w = absurd (let e : status.Limit ≡ status.Equal = ap judgement_status (sym h.judgement_is) ∙ w.1 in cc)
  limit_means j kept text a b c l r s h proofs status.Different w = absurd (let e : status.Limit ≡ status.Different = ap judgement_status (sym h.judgement_is) ∙ w.1 in cc)
  limit_means j kept text a b c l r s h proofs status.NotShown w = absurd (let e : status.Limit ≡ status.NotShown = ap judgement_status (sym h.judgement_is) ∙ w.1 in cc)
  limit_means j kept text a b c l r s h proofs status.Limit w =
      of_three left right assumed a b c _ l r s
      (λ x y z m n o. inr (subst (λ (ps : List Proof). AssumptionUndecided x y z conflicts ps before now) (sym w.0) (assumption_undecided conflicts before now a b c j kept text h w.2 x y z m n o)))
  limit_means j kept text a b c l r s h proofs status.Refused w = tt
  limit_means j kept text a b c l r s h proofs status.Words w = tt
  limit_means j kept text a b c l r s h proofs status.ReadFault w = tt
  limit_means j kept text a b c l r s h proofs status.WriteFault w = tt
  limit_means j kept text a b c l r s h proofs status.NoMemory w = tt
  limit_means j kept text a b c l r s h proofs status.Cyclic w = tt
  limit_means j kept text a b c l r s h proofs status.Done w = absurd (let e : status.Limit ≡ status.Done = ap judgement_status (sym h.judgement_is) ∙ w.1 in cc)

  judged_means : (j : Judgement) (kept : List Proof) (text : List ℕ) → OfThreeNets left right assumed (λ a b c. IsJudged a b c cycles conflicts j kept text) → (proofs : List Proof) (name : StatusName) →
      IsWrittenAs before now (finding.Judged j kept text) proofs name → Means proofs name
  judged_means j kept text h proofs name w = go h.said
    where
      go : IsJudged h.a h.b h.c cycles conflicts j kept text → Means proofs name
      go (inl k) = search_means j kept text h.a h.b h.c h.left_loads h.right_loads h.assumed_loads k proofs name w
      go (inr k) = limit_means j kept text h.a h.b h.c h.left_loads h.right_loads h.assumed_loads k proofs name w

  -- a refusal that is written
  refused_means : (r : Refusal) (proofs : List Proof) (name : StatusName) → IsWrittenAs before now (finding.Refused r) proofs name → Means proofs name
  refused_means r proofs status.Equal w = absurd (let e : status.Refused ≡ status.Equal = w.1 in cc)
  refused_means r proofs status.Different w = absurd (let e : status.Refused ≡ status.Different = w.1 in cc)
  refused_means r proofs status.NotShown w = absurd (let e : status.Refused ≡ status.NotShown = w.1 in cc)
  refused_means r proofs status.Limit w = absurd (let e : status.Refused ≡ status.Limit = w.1 in cc)
  refused_means r proofs status.Refused w = tt
  refused_means r proofs status.Words w = tt
  refused_means r proofs status.ReadFault w = tt
  refused_means r proofs status.WriteFault w = tt
  refused_means r proofs status.NoMemory w = tt
  refused_means r proofs status.Cyclic w = tt
  refused_means r proofs status.Done w = absurd (let e : status.Refused ≡ status.Done = w.1 in cc)

  -- what a written finding means
  pub under_means : (f : Finding) (proofs : List Proof) (name : StatusName) → IsUnderFound cycles conflicts left right assumed f → IsWrittenAs before now f proofs name → Means proofs name
  under_means finding.Words proofs name h w = absurd h
  under_means (finding.Refused r) proofs name h w = refused_means r proofs name w
  under_means (finding.Cyclic side names) proofs name h w = absurd h
  under_means (finding.Unpaired side names) proofs name h w = absurd h
  under_means (finding.Checked o s) proofs name h w = absurd h
  under_means (finding.Done text) proofs name h w = absurd h
  under_means (finding.Generated o report) proofs name h w = absurd h
  under_means (finding.Replayed differences) proofs name h w = absurd h
  under_means (finding.Undecided side latch proof) proofs name h w = absurd h
  under_means (finding.Unrefuted u) proofs name h w = absurd h
  under_means (finding.Judged j kept text) proofs name h w = judged_means j kept text h proofs name w
