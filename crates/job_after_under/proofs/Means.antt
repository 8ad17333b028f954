-- What the status of a search behind the rows of a stimulus under an assumption means.
use Rattle.std.specs.List.{Contains}
use Rattle.std.specs.Prelude.{IfSome}
use Rattle.std.proofs.Common.{◌≡◌, ◌∙◌, ℕ, Bool, List, [], length, refl, sym, ap, subst, inl, inr, Option, Some, None}
use Rattle.circuit_theory.proofs.Lists.{Contains-head, of_at}
use Rattle.base_shelves.specs.Outside.{Takes}
use Rattle.flat_net.specs.View.{NetView, circuit_of}
use Rattle.pair_decide.specs.declared.query.Proof.{Proof}
use Rattle.witness_report.specs.declared.witness.PairName.{PairName}
use Rattle.witness_report.specs.declared.witness.Witness.{Witness}
use Rattle.obligations.proofs.swept_queries.Listed.{zip_left}
use Rattle.obligations.proofs.Fits.{limit_fits}
use Rattle.outcome_fits.specs.ResetOutcome.{IsFirstLimit}
use Rattle.sec_setup.specs.ports.Pairs.{NamedPair, named_pairs}
use Rattle.assume_queries.specs.assume_sequences.assume_taken.Taken.{assumed_by}
use Rattle.plain_check.proofs.under_base.compare_base.Fitted.{kept_proof}
use Rattle.job_base.specs.sec_files.Loading.{Loads}
use Rattle.job_base.specs.sec_files.Stimuli.{IsStimulus}
use Rattle.job_base.proofs.sec_files.job_files.Reading.{is_loaded}
use Rattle.job_base.proofs.design_laws.text_circuits.Circuits.{text_design}
use Rattle.job_base.proofs.design_laws.text_circuits.Designs.{differ_up}
use Rattle.job_base.specs.declared.finding.Judgement.{Judgement}
use Rattle.job_base.specs.declared.finding.Refusal.{Refusal}
use Rattle.job_base.specs.declared.finding.Finding.{Finding}
use Rattle.job_base.specs.declared.finding.Finding.TheVariants as finding
use Rattle.job_base.specs.declared.status.StatusName.{StatusName}
use Rattle.job_base.specs.declared.status.StatusName.TheVariants as status
use Rattle.job_base.specs.Written.{judgement_status, IsWrittenAs}
use Rattle.pair_texts.proofs.assume_texts.Texts.{spelled}
use Rattle.cycle_search.specs.declared.found.SearchVerdict.{SearchVerdict}
use Rattle.cycle_search.specs.declared.found.SearchVerdict.TheVariants as verdict
use Rattle.cycle_under.specs.Cycles.{ResultUnder}
use Rattle.cycle_under.specs.Searches.{VerdictFitsUnder}
use Rattle.restart.specs.Agreement.{Each, UpTo, Before}
use Rattle.job_after.specs.Judged.{judgement_of}
use Rattle.job_after_under.specs.Judged.{IsJudgedSearch, IsJudgedUndecided, IsJudged}
use Rattle.job_after_under.specs.Found.{OfFour, IsAfterUnderFound}
use Rattle.job_after_under.specs.Answer.{AreSearchedBehind, BehindAgree, BehindAgreeUpTo, BehindDiffer, BehindUndecided, AssumptionUndecided, OfFourTexts, AfterUnderMeans}
use Rattle.job_after_under.proofs.Lifted.{sequence_up, behind_up}

-- a verdict has no other status
not_done : (v : SearchVerdict) (w : Option Witness) → judgement_status (judgement_of v w) ≡ status.Done → ⊥
not_done v (Some w) e = cc
not_done verdict.Equal None e = cc
not_done (verdict.NoDifference stopped) None e = cc
not_done (verdict.Different w) None e = cc
not_done (verdict.Limit name) None e = cc

module _ (cycles conflicts : ℕ) (before now : Option (List ℕ)) (a b c : NetView) (names : List (List ℕ)) (rows : List (List Bool)) (j : Judgement) (proofs : List Proof) (text : List ℕ)
    (h : IsJudgedSearch a b c names rows cycles conflicts j proofs text) (taken : Takes before now text) (x y u z : List ℕ) (left : Loads x a) (right : Loads y b) (assumed : Loads u c) (stimulus : IsStimulus z names rows) where
  abbrev texts : AreSearchedBehind x y u z cycles conflicts before now
  texts = record { spelled = spelled x y u a b c left right assumed; names = names; rows = rows; stimulus = stimulus; of = h.of; is = h.is; printed = subst (Takes before now) h.text_is taken }

  status_as : (s : StatusName) → judgement_status j ≡ s → judgement_status (judgement_of h.of.made.verdict h.of.shown) ≡ s
  status_as s e = ap judgement_status (sym h.judgement_is) ∙ e

  agree : judgement_status j ≡ status.Equal → BehindAgree x y u z cycles conflicts before now
  agree e = go h.of.made.verdict h.of.shown refl (status_as status.Equal e)
    where
      go : (v : SearchVerdict) (w : Option Witness) → h.of.made.verdict ≡ v → judgement_status (judgement_of v w) ≡ status.Equal → BehindAgree x y u z cycles conflicts before now
      go v (Some w) is q = absurd (cc)
      go verdict.Equal None is q = record { of = texts; is_verdict = is; says = behind_up (text_design x a left) (text_design y b right) (text_design u c assumed) names rows Each (h.agree is) }
      go (verdict.NoDifference stopped) None is q = absurd (cc)
      go (verdict.Different w) None is q = absurd (cc)
      go (verdict.Limit name) None is q = absurd (cc)

  agree_up_to : judgement_status j ≡ status.NotShown → BehindAgreeUpTo x y u z cycles conflicts before now
  agree_up_to e = go h.of.made.verdict h.of.shown refl refl (status_as status.NotShown e)
    where
      go : (v : SearchVerdict) (w : Option Witness) → h.of.made.verdict ≡ v → h.of.shown ≡ w → judgement_status (judgement_of v w) ≡ status.NotShown → BehindAgreeUpTo x y u z cycles conflicts before now
      go v (Some w) is none q = absurd (cc)
      go verdict.Equal None is none q = absurd (cc)
      go (verdict.NoDifference stopped) None is none q = record {
        of = texts;
        says = inl (stopped, is, behind_up (text_design x a left) (text_design y b right) (text_design u c assumed) names rows (UpTo h.of.made.last) (h.agree_up_to stopped is));
      }
      go (verdict.Different w) None is none q = record {
        of = texts;
        says = inr (w, is, none, behind_up (text_design x a left) (text_design y b right) (text_design u c assumed) names rows (Before h.of.made.last) h.agree_before);
      }
      go (verdict.Limit name) None is none q = absurd (cc)

  differ : judgement_status j ≡ status.Different → BehindDiffer x y u z cycles conflicts before now
  differ e = go h.of.made.verdict h.of.shown refl (status_as status.Different e)
    where
      go : (v : SearchVerdict) (w : Option Witness) → h.of.shown ≡ w → judgement_status (judgement_of v w) ≡ status.Different → BehindDiffer x y u z cycles conflicts before now
      go v (Some w) is q =
          let shows = h.differ w is in
          record {
            of = texts;
            witness = w;
            is_shown = is;
            begins = shows.shown.begins;
            behind = shows.shown.behind;
            meets = sequence_up (text_design u c assumed) (length rows) w.stimulus w.cycle shows.meets;
            says = differ_up (text_design x a left) (text_design y b right) w shows.shown.differ;
          }
      go verdict.Equal None is q = absurd (cc)
      go (verdict.NoDifference stopped) None is q = absurd (cc)
      go (verdict.Different w) None is q = absurd (cc)
      go (verdict.Limit name) None is q = absurd (cc)

  undecided_at : (name : PairName) → h.of.made.verdict ≡ verdict.Limit name → IsFirstLimit h.of.made.pairs name → BehindUndecided x y u z cycles conflicts proofs before now
  undecided_at name e first =
      let s = h.is.searched in
      let pairs : List (NamedPair ℕ ℕ) = named_pairs [] (circuit_of h.of.left) (circuit_of h.of.right) in
      let n = zip_left (ResultUnder (assumed_by s.assumed) s.numbers conflicts h.of.made.last) pairs h.of.made.pairs s.found.pairs_fit first.index first.result first.result_is in
      let given = limit_fits _ _ _ first.result.answer first.result.proof n.2.answer_is first.limit in
      record {
        of = texts;
        says = behind_up (text_design x a left) (text_design y b right) (text_design u c assumed) names rows (Before h.of.made.last) h.agree_before;
        numbers = s.numbers;
        are_numbers = s.are_numbers;
        named = n.0;
        is_pair = of_at pairs first.index n.0 n.1;
        is_verdict = e ∙ ap (λ m. verdict.Limit m) (first.named ∙ n.2.name_is);
        proof = given.0;
        kept = subst (λ (ps : List Proof). Contains ps given.0) (sym h.proofs_are) (kept_proof h.of.made.pairs first.result given.0 (of_at h.of.made.pairs first.index first.result first.result_is) given.1);
        undecided = given.2;
      }

  undecided : judgement_status j ≡ status.Limit → BehindUndecided x y u z cycles conflicts proofs before now
  undecided e = go h.of.made.verdict h.of.shown refl (status_as status.Limit e)
    where
      go : (v : SearchVerdict) (w : Option Witness) → h.of.made.verdict ≡ v → judgement_status (judgement_of v w) ≡ status.Limit → BehindUndecided x y u z cycles conflicts proofs before now
      go v (Some w) is q = absurd (cc)
      go verdict.Equal None is q = absurd (cc)
      go (verdict.NoDifference stopped) None is q = absurd (cc)
      go (verdict.Different w) None is q = absurd (cc)
      go (verdict.Limit name) None is q =
          let s = h.is.searched in
          undecided_at name is
          (subst (VerdictFitsUnder (assumed_by s.assumed) s.assumed.weight s.numbers h.of.left h.of.right cycles h.of.made.last (named_pairs [] (circuit_of h.of.left) (circuit_of h.of.right)) h.of.made.pairs) is s.found.verdict_is)

-- the assumption's query wasn't decided
pub assumption_undecided : (conflicts : ℕ) (before now : Option (List ℕ)) (a b c : NetView) (names : List (List ℕ)) (rows : List (List Bool)) (j : Judgement) (proofs : List Proof) (text : List ℕ) → IsJudgedUndecided a b c names rows conflicts j proofs text →
    Takes before now text → (x y u z : List ℕ) → Loads x a → Loads y b → Loads u c → IsStimulus z names rows → AssumptionUndecided x y u z conflicts proofs before now
assumption_undecided conflicts before now a b c names rows j proofs text h taken x y u z left right assumed stimulus = record {
  spelled = spelled x y u a b c left right assumed;
  names = names;
  rows = rows;
  stimulus = stimulus;
  left_known = h.left_known;
  right_known = h.right_known;
  left = h.left;
  right = h.right;
  left_begun = h.left_begun;
  right_begun = h.right_begun;
  proof = h.proof;
  kept = subst (λ (ps : List Proof). Contains ps h.proof) (sym h.proofs_are) (Contains-head h.proof []);
  undecided = h.is;
  printed = subst (Takes before now) h.text_is taken;
}

-- what is said of nets and of a stimulus, of their texts
pub of_four : (left right assumed stimulus : Option (List ℕ)) (a b c : NetView) (names : List (List ℕ)) (rows : List (List Bool)) (P : List ℕ → List ℕ → List ℕ → List ℕ → Type 0) → IfSome left (λ x. Loads x a) → IfSome right (λ y. Loads y b) →
    IfSome assumed (λ u. Loads u c) → IfSome stimulus (λ z. IsStimulus z names rows) → ((x y u z : List ℕ) → Loads x a → Loads y b → Loads u c → IsStimulus z names rows → P x y u z) → OfFourTexts left right assumed stimulus P
of_four left right assumed stimulus a b c names rows P l r m s f =
    record { left_loads = is_loaded left a l; right_loads = is_loaded right b r; assumed_loads = is_loaded assumed c m; said = all left right assumed stimulus l r m s }
  where
    all : (o p q k : Option (List ℕ)) → IfSome o (λ x. Loads x a) → IfSome p (λ y. Loads y b) → IfSome q (λ u. Loads u c) → IfSome k (λ z. IsStimulus z names rows) → IfSome o (λ x. IfSome p (λ y. IfSome q (λ u. IfSome k (λ z. P x y u z))))
    all None p q k h i n t = tt
    all (Some x) None q k h i n t = tt
    all (Some x) (Some y) None k h i n t = tt
    all (Some x) (Some y) (Some u) None h i n t = tt
    all (Some x) (Some y) (Some u) (Some z) h i n t = f x y u z h i n t

module _ (cycles conflicts : ℕ) (left right assumed stimulus before now : Option (List ℕ)) where
  abbrev Means : List Proof → StatusName → Type 0
  Means proofs name = AfterUnderMeans cycles conflicts left right assumed stimulus before now proofs name

  -- a judgement that is written
  module _ (j : Judgement) (kept : List Proof) (text : List ℕ) (h : OfFour left right assumed stimulus (λ a b c names rows. IsJudged a b c names rows cycles conflicts j kept text)) where
    of_texts : (P : List ℕ → List ℕ → List ℕ → List ℕ → Type 0) → ((x y u z : List ℕ) → Loads x h.a → Loads y h.b → Loads u h.c → IsStimulus z h.names h.rows → P x y u z) → OfFourTexts left right assumed stimulus P
    of_texts P f = of_four left right assumed stimulus h.a h.b h.c h.names h.rows P h.left_loads h.right_loads h.assumed_loads h.spells f

    -- that of what was found
    search_means : IsJudgedSearch h.a h.b h.c h.names h.rows cycles conflicts j kept text → (proofs : List Proof) (name : StatusName) → IsWrittenAs before now (finding.Judged j kept text) proofs name → Means proofs name
    search_means k proofs status.Equal w = of_texts _ (λ x y u z l r m s. agree cycles conflicts before now h.a h.b h.c h.names h.rows j kept text k w.2 x y u z l r m s w.1)
    search_means k proofs status.Different w = of_texts _ (λ x y u z l r m s. differ cycles conflicts before now h.a h.b h.c h.names h.rows j kept text k w.2 x y u z l r m s w.1)
    search_means k proofs status.NotShown w = of_texts _ (λ x y u z l r m s. agree_up_to cycles conflicts before now h.a h.b h.c h.names h.rows j kept text k w.2 x y u z l r m s w.1)
    search_means k proofs status.Limit w =
        of_texts _
        (λ x y u z l r m s.
        inl (subst (λ (ps : List Proof). BehindUndecided x y u z cycles conflicts ps before now) (sym w.0) (undecided cycles conflicts before now h.a h.b h.c h.names h.rows j kept text k w.2 x y u z l r m s w.1)))
    search_means k proofs status.Refused w = tt
    search_means k proofs status.Words w = tt
    search_means k proofs status.ReadFault w = tt
    search_means k proofs status.WriteFault w = tt
    search_means k proofs status.NoMemory w = tt
    search_means k proofs status.Cyclic w = tt
    search_means k proofs status.Done w = not_done k.of.made.verdict k.of.shown (ap judgement_status (sym k.judgement_is) ∙ w.1)

    -- that of the assumption
    limit_means : IsJudgedUndecided h.a h.b h.c h.names h.rows conflicts j kept text → (proofs : List Proof) (name : StatusName) → IsWrittenAs before now (finding.Judged j kept text) proofs name → Means proofs name
    limit_means k proofs status.Equal w = absurd (let e : status.Limit ≡ status.Equal = ap judgement_status (sym k.judgement_is) ∙ w.1 in cc)
    limit_means k proofs status.Different w = absurd (let e : status.Limit ≡ status.Different = ap judgement_status (sym k.judgement_is) ∙ w.1 in cc)
    limit_means k proofs status.NotShown w = absurd (let e : status.Limit ≡ status.NotShown = ap judgement_status (sym k.judgement_is) ∙ w.1 in cc)
    limit_means k proofs status.Limit w =
        of_texts _
        (λ x y u z l r m s.
        inr (subst (λ (ps : List Proof). AssumptionUndecided x y u z conflicts ps before now) (sym w.0) (assumption_undecided conflicts before now h.a h.b h.c h.names h.rows j kept text k w.2 x y u z l r m s)))
    limit_means k proofs status.Refused w = tt
    limit_means k proofs status.Words w = tt
    limit_means k proofs status.ReadFault w = tt
    limit_means k proofs status.WriteFault w = tt
    limit_means k proofs status.NoMemory w = tt
    limit_means k proofs status.Cyclic w = tt
    limit_means k proofs status.Done w = absurd (let e : status.Limit ≡ status.Done = ap judgement_status (sym k.judgement_is) ∙ w.1 in cc)

    judged_means : (proofs : List Proof) (name : StatusName) → IsWrittenAs before now (finding.Judged j kept text) proofs name → Means proofs name
    judged_means proofs name w = go h.said
      where
        go : IsJudged h.a h.b h.c h.names h.rows cycles conflicts j kept text → Means proofs name
        go (inl k) = search_means k proofs name w
        go (inr k) = limit_means k proofs name w

  -- a refusal that is written
  refused_means : (r : Refusal) (proofs : List Proof) (name : StatusName) → IsWrittenAs before now (finding.Refused r) proofs name → Means proofs name
  refused_means r proofs status.Equal w = absurd (let e : status.Refused ≡ status.Equal = w.1 in cc)
  refused_means r proofs status.Different w = absurd (let e : status.Refused ≡ status.Different = w.1 in cc)
  refused_means r proofs status.NotShown w = absurd (let e : status.Refused ≡ status.NotShown = w.1 in cc)
  refused_means r proofs status.Limit w = absurd (let e : status.Refused ≡ status.Limit = w.1 in cc)
  refused_means r proofs status.Refused w = tt
  refused_means r proofs status.Words w = tt
  refused_means r proofs status.ReadFault w = tt
  refused_means r proofs status.WriteFault w = tt
  refused_means r proofs status.NoMemory w = tt
  refused_means r proofs status.Cyclic w = tt
  refused_means r proofs status.Done w = absurd (let e : status.Refused ≡ status.Done = w.1 in cc)

  -- what a written finding means
  pub after_under_means : (f : Finding) (proofs : List Proof) (name : StatusName) → IsAfterUnderFound cycles conflicts left right assumed stimulus f → IsWrittenAs before now f proofs name → Means proofs name
  after_under_means finding.Words proofs name h w = absurd h
  after_under_means (finding.Refused r) proofs name h w = refused_means r proofs name w
  after_under_means (finding.Cyclic side names) proofs name h w = absurd h
  after_under_means (finding.Unpaired side names) proofs name h w = absurd h
  after_under_means (finding.Checked o s) proofs name h w = absurd h
  after_under_means (finding.Done text) proofs name h w = absurd h
  after_under_means (finding.Generated o report) proofs name h w = absurd h
  after_under_means (finding.Replayed differences) proofs name h w = absurd h
  after_under_means (finding.Undecided side latch proof) proofs name h w = absurd h
  after_under_means (finding.Unrefuted u) proofs name h w = absurd h
  after_under_means (finding.Judged j kept text) proofs name h w = judged_means j kept text h proofs name w
