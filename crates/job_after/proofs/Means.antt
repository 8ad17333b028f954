-- What the status of a comparison behind the rows of a stimulus means.
use Rattle.std.specs.List.{Contains}
use Rattle.std.proofs.Common.{◌≡◌, ◌∙◌, ℕ, Bool, List, [], refl, sym, ap, subst, inl, inr, Option, Some, None}
use Rattle.std.specs.Prelude.{IfSome}
use Rattle.circuit_theory.specs.declared.Side.{Side}
use Rattle.circuit_theory.proofs.Lists.{of_at}
use Rattle.base_shelves.specs.Outside.{Takes}
use Rattle.flat_net.specs.View.{NetView, circuit_of}
use Rattle.pair_decide.specs.declared.query.Proof.{Proof}
use Rattle.witness_report.specs.declared.witness.PairName.{PairName}
use Rattle.witness_report.specs.declared.witness.Witness.{Witness}
use Rattle.obligations.proofs.swept_queries.Listed.{zip_left}
use Rattle.obligations.proofs.Fits.{limit_fits}
use Rattle.outcome_fits.specs.ResetOutcome.{IsFirstLimit}
use Rattle.sec_setup.specs.ports.Pairs.{NamedPair, named_pairs}
use Rattle.plain_check.proofs.under_base.compare_base.Fitted.{kept_proof}
use Rattle.job_base.specs.sec_files.Loading.{Loads, circuit_of_text}
use Rattle.job_base.specs.sec_files.Stimuli.{IsStimulus}
use Rattle.job_base.proofs.sec_files.Texts.{spelled_circuit}
use Rattle.job_base.proofs.sec_files.job_files.Reading.{is_loaded}
use Rattle.job_base.proofs.design_laws.text_circuits.Circuits.{text_design}
use Rattle.job_base.proofs.design_laws.text_circuits.Designs.{differ_up}
use Rattle.job_base.specs.declared.finding.Judgement.{Judgement}
use Rattle.job_base.specs.declared.finding.Refusal.{Refusal}
use Rattle.job_base.specs.declared.finding.Finding.{Finding}
use Rattle.job_base.specs.declared.finding.Finding.TheVariants as finding
use Rattle.job_base.specs.declared.status.StatusName.{StatusName}
use Rattle.job_base.specs.declared.status.StatusName.TheVariants as status
use Rattle.job_base.specs.Written.{judgement_status, IsWrittenAs}
use Rattle.job_circuit.specs.job_replay.Replays.{OfReplay}
use Rattle.cycle_search.specs.declared.found.SearchVerdict.{SearchVerdict}
use Rattle.cycle_search.specs.declared.found.SearchVerdict.TheVariants as verdict
use Rattle.cycle_search.specs.Cycles.{ResultIn}
use Rattle.cycle_search.specs.Searches.{VerdictFits}
use Rattle.restart.specs.Agreement.{Each, UpTo, Before}
use Rattle.job_after.specs.Judged.{judgement_of, IsJudged}
use Rattle.job_after.specs.Answer.{AreAfter, AfterAgree, AfterAgreeUpTo, AfterDiffer, AfterUndecided, OfThree, IsAfterFound, AfterMeans}
use Rattle.job_after.proofs.Lifted.{behind_up}

-- a verdict has no other status
not_done : (v : SearchVerdict) (w : Option Witness) → judgement_status (judgement_of v w) ≡ status.Done → ⊥
not_done v (Some w) e = cc
not_done verdict.Equal None e = cc
not_done (verdict.NoDifference stopped) None e = cc
not_done (verdict.Different w) None e = cc
not_done (verdict.Limit name) None e = cc

module _ (cycles : Option ℕ) (conflicts : ℕ) (before now : Option (List ℕ)) (a b : NetView) (names : List (List ℕ)) (rows : List (List Bool)) (j : Judgement) (proofs : List Proof) (text : List ℕ)
    (h : IsJudged a b names rows cycles conflicts j proofs text) (taken : Takes before now text) (x y z : List ℕ) (left : Loads x a) (right : Loads y b) (stimulus : IsStimulus z names rows) where
  abbrev texts : AreAfter x y z cycles conflicts before now
  texts = record {
    left_clock = a.clock;
    right_clock = b.clock;
    left = circuit_of_text x a.clock;
    right = circuit_of_text y b.clock;
    left_spelled = spelled_circuit x a left;
    right_spelled = spelled_circuit y b right;
    names = names;
    rows = rows;
    stimulus = stimulus;
    left_net = a;
    right_net = b;
    left_loads = left;
    right_loads = right;
    of = h.of;
    is = h.is;
    printed = subst (Takes before now) h.text_is taken;
  }

  status_as : (s : StatusName) → judgement_status j ≡ s → judgement_status (judgement_of h.of.made.verdict h.of.shown) ≡ s
  status_as s e = ap judgement_status (sym h.judgement_is) ∙ e

  agree : judgement_status j ≡ status.Equal → AfterAgree x y z cycles conflicts before now
  agree e = go h.of.made.verdict h.of.shown refl (status_as status.Equal e)
    where
      go : (v : SearchVerdict) (w : Option Witness) → h.of.made.verdict ≡ v → judgement_status (judgement_of v w) ≡ status.Equal → AfterAgree x y z cycles conflicts before now
      go v (Some w) is q = absurd (cc)
      go verdict.Equal None is q = record { of = texts; is_verdict = is; says = behind_up (text_design x a left) (text_design y b right) names rows Each (h.agree is) }
      go (verdict.NoDifference stopped) None is q = absurd (cc)
      go (verdict.Different w) None is q = absurd (cc)
      go (verdict.Limit name) None is q = absurd (cc)

  agree_up_to : judgement_status j ≡ status.NotShown → AfterAgreeUpTo x y z cycles conflicts before now
  agree_up_to e = go h.of.made.verdict h.of.shown refl refl (status_as status.NotShown e)
    where
      go : (v : SearchVerdict) (w : Option Witness) → h.of.made.verdict ≡ v → h.of.shown ≡ w → judgement_status (judgement_of v w) ≡ status.NotShown → AfterAgreeUpTo x y z cycles conflicts before now
      go v (Some w) is none q = absurd (cc)
      go verdict.Equal None is none q = absurd (cc)
      go (verdict.NoDifference stopped) None is none q = record { of = texts; says = inl (stopped, is, behind_up (text_design x a left) (text_design y b right) names rows (UpTo h.of.made.last) (h.agree_up_to stopped is)) }
      go (verdict.Different w) None is none q = record { of = texts; says = inr (w, is, none, behind_up (text_design x a left) (text_design y b right) names rows (Before h.of.made.last) h.agree_before) }
      go (verdict.Limit name) None is none q = absurd (cc)

  differ : judgement_status j ≡ status.Different → AfterDiffer x y z cycles conflicts before now
  differ e = go h.of.made.verdict h.of.shown refl (status_as status.Different e)
    where
      go : (v : SearchVerdict) (w : Option Witness) → h.of.shown ≡ w → judgement_status (judgement_of v w) ≡ status.Different → AfterDiffer x y z cycles conflicts before now
      go v (Some w) is q =
          let shown = h.differ w is in
          record { of = texts; witness = w; is_shown = is; begins = shown.begins; behind = shown.behind; says = differ_up (text_design x a left) (text_design y b right) w shown.differ }
      go verdict.Equal None is q = absurd (cc)
      go (verdict.NoDifference stopped) None is q = absurd (cc)
      go (verdict.Different w) None is q = absurd (cc)
      go (verdict.Limit name) None is q = absurd (cc)

  undecided_at : (name : PairName) → h.of.made.verdict ≡ verdict.Limit name → IsFirstLimit h.of.made.pairs name → AfterUndecided x y z cycles conflicts proofs before now
  undecided_at name e first =
      let l : NetView = h.of.left in
      let r : NetView = h.of.right in
      let s = h.is.searched in
      let pairs : List (NamedPair ℕ ℕ) = named_pairs [] (circuit_of l) (circuit_of r) in
      let n = zip_left (ResultIn s.numbers conflicts h.of.made.last) pairs h.of.made.pairs s.found.pairs_fit first.index first.result first.result_is in
      let given = limit_fits _ _ _ first.result.answer first.result.proof n.2.answer_is first.limit in
      record {
        of = texts;
        says = behind_up (text_design x a left) (text_design y b right) names rows (Before h.of.made.last) h.agree_before;
        numbers = s.numbers;
        are_numbers = s.are_numbers;
        named = n.0;
        is_pair = of_at pairs first.index n.0 n.1;
        is_verdict = e ∙ ap (λ m. verdict.Limit m) (first.named ∙ n.2.name_is);
        proof = given.0;
        kept = subst (λ (ps : List Proof). Contains ps given.0) (sym h.proofs_are) (kept_proof h.of.made.pairs first.result given.0 (of_at h.of.made.pairs first.index first.result first.result_is) given.1);
        undecided = given.2;
      }

  undecided : judgement_status j ≡ status.Limit → AfterUndecided x y z cycles conflicts proofs before now
  undecided e = go h.of.made.verdict h.of.shown refl (status_as status.Limit e)
    where
      go : (v : SearchVerdict) (w : Option Witness) → h.of.made.verdict ≡ v → judgement_status (judgement_of v w) ≡ status.Limit → AfterUndecided x y z cycles conflicts proofs before now
      go v (Some w) is q = absurd (cc)
      go verdict.Equal None is q = absurd (cc)
      go (verdict.NoDifference stopped) None is q = absurd (cc)
      go (verdict.Different w) None is q = absurd (cc)
      go (verdict.Limit name) None is q =
          undecided_at name is
          (subst (VerdictFits h.is.searched.numbers h.of.left h.of.right h.of.cycles h.of.made.last (named_pairs [] (circuit_of h.of.left) (circuit_of h.of.right)) h.of.made.pairs) is h.is.searched.found.verdict_is)

-- what is said of nets and of a stimulus, of their texts
pub of_three : (left right stimulus : Option (List ℕ)) (a b : NetView) (names : List (List ℕ)) (rows : List (List Bool)) (P : List ℕ → List ℕ → List ℕ → Type 0) → IfSome left (λ x. Loads x a) → IfSome right (λ y. Loads y b) →
    IfSome stimulus (λ z. IsStimulus z names rows) → ((x y z : List ℕ) → Loads x a → Loads y b → IsStimulus z names rows → P x y z) → OfThree left right stimulus P
of_three left right stimulus a b names rows P l r s f = record { left_loads = is_loaded left a l; right_loads = is_loaded right b r; said = all left right stimulus l r s }
  where
    all : (o o' o'' : Option (List ℕ)) → IfSome o (λ x. Loads x a) → IfSome o' (λ y. Loads y b) → IfSome o'' (λ z. IsStimulus z names rows) → IfSome o (λ x. IfSome o' (λ y. IfSome o'' (λ z. P x y z)))
    all None o' o'' here there last = tt
    all (Some x) None o'' here there last = tt
    all (Some x) (Some y) None here there last = tt
    all (Some x) (Some y) (Some z) here there last = f x y z here there last

module _ (cycles : Option ℕ) (conflicts : ℕ) (left right stimulus before now : Option (List ℕ)) where
  -- a judgement that is written
  judged_means : (j : Judgement) (kept : List Proof) (text : List ℕ) → OfReplay left right stimulus (λ a b names rows. IsJudged a b names rows cycles conflicts j kept text) → (proofs : List Proof) (name : StatusName) →
      IsWrittenAs before now (finding.Judged j kept text) proofs name → AfterMeans cycles conflicts left right stimulus before now proofs name
  judged_means j kept text h proofs status.Equal w =
      of_three left right stimulus h.a h.b h.names h.rows (λ x y z. AfterAgree x y z cycles conflicts before now) h.left_loads h.right_loads h.spells
      (λ x y z l r s. agree cycles conflicts before now h.a h.b h.names h.rows j kept text h.said w.2 x y z l r s w.1)
  judged_means j kept text h proofs status.Different w =
      of_three left right stimulus h.a h.b h.names h.rows (λ x y z. AfterDiffer x y z cycles conflicts before now) h.left_loads h.right_loads h.spells
      (λ x y z l r s. differ cycles conflicts before now h.a h.b h.names h.rows j kept text h.said w.2 x y z l r s w.1)
  judged_means j kept text h proofs status.NotShown w =
      of_three left right stimulus h.a h.b h.names h.rows (λ x y z. AfterAgreeUpTo x y z cycles conflicts before now) h.left_loads h.right_loads h.spells
      (λ x y z l r s. agree_up_to cycles conflicts before now h.a h.b h.names h.rows j kept text h.said w.2 x y z l r s w.1)
  judged_means j kept text h proofs status.Limit w =
      of_three left right stimulus h.a h.b h.names h.rows (λ x y z. AfterUndecided x y z cycles conflicts proofs before now) h.left_loads h.right_loads h.spells
      (λ x y z l r s.
      subst (λ (ps : List Proof). AfterUndecided x y z cycles conflicts ps before now) (sym w.0) (undecided cycles conflicts before now h.a h.b h.names h.rows j kept text h.said w.2 x y z l r s w.1))
  judged_means j kept text h proofs status.Refused w = tt
  judged_means j kept text h proofs status.Words w = tt
  judged_means j kept text h proofs status.ReadFault w = tt
  judged_means j kept text h proofs status.WriteFault w = tt
  judged_means j kept text h proofs status.NoMemory w = tt
  judged_means j kept text h proofs status.Cyclic w = tt
  judged_means j kept text h proofs status.Done w = not_done h.said.of.made.verdict h.said.of.shown (ap judgement_status (sym h.said.judgement_is) ∙ w.1)

  -- a refusal that is written
  refused_means : (r : Refusal) (proofs : List Proof) (name : StatusName) → IsWrittenAs before now (finding.Refused r) proofs name → AfterMeans cycles conflicts left right stimulus before now proofs name
  refused_means r proofs status.Equal w = absurd (let e : status.Refused ≡ status.Equal = w.1 in cc)
  refused_means r proofs status.Different w = absurd (let e : status.Refused ≡ status.Different = w.1 in cc)
  refused_means r proofs status.NotShown w = absurd (let e : status.Refused ≡ status.NotShown = w.1 in cc)
  refused_means r proofs status.Limit w = absurd (let e : status.Refused ≡ status.Limit = w.1 in cc)
  refused_means r proofs status.Refused w = tt
  refused_means r proofs status.Words w = tt
  refused_means r proofs status.ReadFault w = tt
  refused_means r proofs status.WriteFault w = tt
  refused_means r proofs status.NoMemory w = tt
  refused_means r proofs status.Cyclic w = tt
  refused_means r proofs status.Done w = absurd (let e : status.Refused ≡ status.Done = w.1 in cc)

  -- a cycle of latches that is written
  cyclic_means : (side : Side) (latches : List (List ℕ)) (proofs : List Proof) (name : StatusName) → IsWrittenAs before now (finding.Cyclic side latches) proofs name → AfterMeans cycles conflicts left right stimulus before now proofs name
  cyclic_means side latches proofs status.Equal w = absurd (let e : status.Cyclic ≡ status.Equal = w.1 in cc)
  cyclic_means side latches proofs status.Different w = absurd (let e : status.Cyclic ≡ status.Different = w.1 in cc)
  cyclic_means side latches proofs status.NotShown w = absurd (let e : status.Cyclic ≡ status.NotShown = w.1 in cc)
  cyclic_means side latches proofs status.Limit w = absurd (let e : status.Cyclic ≡ status.Limit = w.1 in cc)
  cyclic_means side latches proofs status.Refused w = tt
  cyclic_means side latches proofs status.Words w = tt
  cyclic_means side latches proofs status.ReadFault w = tt
  cyclic_means side latches proofs status.WriteFault w = tt
  cyclic_means side latches proofs status.NoMemory w = tt
  cyclic_means side latches proofs status.Cyclic w = tt
  cyclic_means side latches proofs status.Done w = absurd (let e : status.Cyclic ≡ status.Done = w.1 in cc)

  -- what a written finding means
  pub after_means : (f : Finding) (proofs : List Proof) (name : StatusName) → IsAfterFound cycles conflicts left right stimulus f → IsWrittenAs before now f proofs name →
      AfterMeans cycles conflicts left right stimulus before now proofs name
  after_means finding.Words proofs name h w = absurd h
  after_means (finding.Refused r) proofs name h w = refused_means r proofs name w
  after_means (finding.Cyclic side names) proofs name h w = cyclic_means side names proofs name w
  after_means (finding.Unpaired side names) proofs name h w = absurd h
  after_means (finding.Checked o s) proofs name h w = absurd h
  after_means (finding.Done text) proofs name h w = absurd h
  after_means (finding.Generated o report) proofs name h w = absurd h
  after_means (finding.Replayed differences) proofs name h w = absurd h
  after_means (finding.Undecided side latch proof) proofs name h w = absurd h
  after_means (finding.Unrefuted u) proofs name h w = absurd h
  after_means (finding.Judged j kept text) proofs name h w = judged_means j kept text h proofs name w
