-- What the status of a comparison by an induction over cycles behind the rows of a stimulus means.
use Rattle.std.proofs.Common.{◌≡◌, ◌∙◌, ℕ, Bool, true, false, List, length, refl, sym, ap, subst, Option, Some, None}
use Rattle.base_shelves.specs.Outside.{Takes}
use Rattle.flat_net.specs.View.{NetView}
use Rattle.pair_decide.specs.declared.query.Proof.{Proof}
use Rattle.job_base.specs.sec_files.Loading.{Loads, circuit_of_text}
use Rattle.job_base.specs.sec_files.Stimuli.{IsStimulus}
use Rattle.job_base.proofs.sec_files.Texts.{spelled_circuit}
use Rattle.job_base.proofs.design_laws.text_circuits.Circuits.{text_design}
use Rattle.job_base.specs.declared.finding.Judgement.{Judgement}
use Rattle.job_base.specs.declared.finding.Judgement.TheVariants as judgement
use Rattle.job_base.specs.declared.finding.Refusal.{Refusal}
use Rattle.job_base.specs.declared.finding.Finding.{Finding}
use Rattle.job_base.specs.declared.finding.Finding.TheVariants as finding
use Rattle.job_base.specs.declared.status.StatusName.{StatusName}
use Rattle.job_base.specs.declared.status.StatusName.TheVariants as status
use Rattle.job_base.specs.Written.{judgement_status, IsWrittenAs}
use Rattle.job_circuit.specs.job_replay.Replays.{OfReplay}
use Rattle.signal_induct.specs.Tied.{first_apart}
use Rattle.restart.specs.Agreement.{Each}
use Rattle.sec_jobs.proofs.job_induct.induct_meaning.Means as blocks
use Rattle.job_signals.specs.Judged.{judgement_of}
use Rattle.job_signals.proofs.Means.{not_different, not_limit}
use Rattle.job_after.proofs.Lifted.{behind_up}
use Rattle.job_after.proofs.Means.{of_three}
use Rattle.job_signals.specs.job_begun.Judged.{IsTold, IsJudged, text_behind}
use Rattle.job_signals.specs.job_begun.Found.{IsBegunFound}
use Rattle.job_signals.specs.job_begun.Answer.{AreBegunTexts, SayEqual, AreTiedBehind, TiedAgree, TiedNotShown, AreInBlocksBehind, BlocksAgreeBehind, BlocksNotShownBehind, BlocksUndecidedBehind, ByWay, BegunMeans}

equal_judgement : (j : Judgement) → judgement_status j ≡ status.Equal → j ≡ judgement.Equal
equal_judgement judgement.Equal e = refl
equal_judgement judgement.Different e = absurd (cc)
equal_judgement judgement.NotShown e = absurd (cc)
equal_judgement judgement.Limit e = absurd (cc)

module _ (signals : Bool) (conflicts : ℕ) (a b : NetView) (names : List (List ℕ)) (rows : List (List Bool)) (j : Judgement) (proofs : List Proof) (text : List ℕ) (h : IsJudged signals conflicts a b names rows j proofs text)
    (x y z : List ℕ) (left : Loads x a) (right : Loads y b) (stimulus : IsStimulus z names rows) where
  abbrev texts : AreBegunTexts x y z
  texts = record {
    left_clock = a.clock;
    right_clock = b.clock;
    left = circuit_of_text x a.clock;
    right = circuit_of_text y b.clock;
    left_spelled = spelled_circuit x a left;
    right_spelled = spelled_circuit y b right;
    names = names;
    rows = rows;
    stimulus = stimulus;
    left_net = a;
    right_net = b;
    left_loads = left;
    right_loads = right;
    begun = h.of;
    are_begun = h.is;
  }

  equal : judgement_status j ≡ status.Equal → SayEqual texts
  equal e = behind_up (text_design x a left) (text_design y b right) names rows Each (h.agree (equal_judgement j e))

-- by ties of signals
module _ (conflicts : ℕ) (before now : Option (List ℕ)) (a b : NetView) (names : List (List ℕ)) (rows : List (List Bool)) (j : Judgement) (proofs : List Proof) (text : List ℕ) (h : IsJudged true conflicts a b names rows j proofs text)
    (taken : Takes before now text) (x y z : List ℕ) (left : Loads x a) (right : Loads y b) (stimulus : IsStimulus z names rows) where
  abbrev tied : AreTiedBehind x y z before now
  tied = record {
    texts = texts true conflicts a b names rows j proofs text h x y z left right stimulus;
    made = h.judged.1.made;
    inductive = h.judged.1.is;
    printed = subst (Takes before now) (h.text_is ∙ ap (text_behind (length rows) h.of) h.judged.1.text_is) taken;
  }

  tied_agree : judgement_status j ≡ status.Equal → TiedAgree x y z before now
  tied_agree e = go (first_apart h.judged.1.made.pairs) refl (ap judgement_status (sym h.judged.1.judgement_is) ∙ e)
    where
      go : (apart : Option (List ℕ)) → first_apart h.judged.1.made.pairs ≡ apart → judgement_status (judgement_of apart) ≡ status.Equal → TiedAgree x y z before now
      go None is q = record { of = tied; is_verdict = is; says = equal true conflicts a b names rows j proofs text h x y z left right stimulus e }
      go (Some name) is q = absurd (cc)

  tied_not_shown : judgement_status j ≡ status.NotShown → TiedNotShown x y z before now
  tied_not_shown e = go (first_apart h.judged.1.made.pairs) refl (ap judgement_status (sym h.judged.1.judgement_is) ∙ e)
    where
      go : (apart : Option (List ℕ)) → first_apart h.judged.1.made.pairs ≡ apart → judgement_status (judgement_of apart) ≡ status.NotShown → TiedNotShown x y z before now
      go None is q = absurd (cc)
      go (Some name) is q = record { of = tied; pair = name; is_verdict = is }

-- by blocks of latches
module _ (conflicts : ℕ) (before now : Option (List ℕ)) (a b : NetView) (names : List (List ℕ)) (rows : List (List Bool)) (j : Judgement) (proofs : List Proof) (text : List ℕ) (h : IsJudged false conflicts a b names rows j proofs text)
    (taken : Takes before now text) (x y z : List ℕ) (left : Loads x a) (right : Loads y b) (stimulus : IsStimulus z names rows) where
  abbrev in_blocks : AreInBlocksBehind x y z conflicts before now
  in_blocks = record {
    texts = texts false conflicts a b names rows j proofs text h x y z left right stimulus;
    made = h.judged.made;
    printed = subst (Takes before now) (h.text_is ∙ ap (text_behind (length rows) h.of) h.judged.text_is) taken;
  }

  blocks_agree : judgement_status j ≡ status.Equal → BlocksAgreeBehind x y z conflicts before now
  blocks_agree e = record {
    of = in_blocks;
    is = h.judged.is;
    is_verdict = blocks.equal_judged conflicts h.of.left h.of.right j proofs h.told h.judged e;
    says = equal false conflicts a b names rows j proofs text h x y z left right stimulus e;
  }

  blocks_not_shown : judgement_status j ≡ status.NotShown → BlocksNotShownBehind x y z conflicts before now
  blocks_not_shown e = record { of = in_blocks; unshown = blocks.unshown conflicts h.of.left h.of.right j proofs h.told h.judged e }

  blocks_undecided : judgement_status j ≡ status.Limit → BlocksUndecidedBehind x y z conflicts proofs before now
  blocks_undecided e = record { of = in_blocks; undecided = blocks.undecided conflicts h.of.left h.of.right j proofs h.told h.judged e }

module _ (conflicts : ℕ) (left right stimulus before now : Option (List ℕ)) where
  -- a judgement that is written
  judged_means : (signals : Bool) (j : Judgement) (kept : List Proof) (text : List ℕ) → OfReplay left right stimulus (λ a b names rows. IsJudged signals conflicts a b names rows j kept text) → (proofs : List Proof) (name : StatusName) →
      IsWrittenAs before now (finding.Judged j kept text) proofs name → BegunMeans signals conflicts left right stimulus before now proofs name
  judged_means true j kept text h proofs status.Equal w =
      of_three left right stimulus h.a h.b h.names h.rows (λ x y z. TiedAgree x y z before now) h.left_loads h.right_loads h.spells
      (λ x y z l r s. tied_agree conflicts before now h.a h.b h.names h.rows j kept text h.said w.2 x y z l r s w.1)
  judged_means false j kept text h proofs status.Equal w =
      of_three left right stimulus h.a h.b h.names h.rows (λ x y z. BlocksAgreeBehind x y z conflicts before now) h.left_loads h.right_loads h.spells
      (λ x y z l r s. blocks_agree conflicts before now h.a h.b h.names h.rows j kept text h.said w.2 x y z l r s w.1)
  judged_means true j kept text h proofs status.Different w = not_different (first_apart h.said.judged.1.made.pairs) (ap judgement_status (sym h.said.judged.1.judgement_is) ∙ w.1)
  judged_means false j kept text h proofs status.Different w = blocks.not_different h.said.judged.made.verdict (ap judgement_status (sym h.said.judged.judgement_is) ∙ w.1)
  judged_means true j kept text h proofs status.NotShown w =
      of_three left right stimulus h.a h.b h.names h.rows (λ x y z. TiedNotShown x y z before now) h.left_loads h.right_loads h.spells
      (λ x y z l r s. tied_not_shown conflicts before now h.a h.b h.names h.rows j kept text h.said w.2 x y z l r s w.1)
  judged_means false j kept text h proofs status.NotShown w =
      of_three left right stimulus h.a h.b h.names h.rows (λ x y z. BlocksNotShownBehind x y z conflicts before now) h.left_loads h.right_loads h.spells
      (λ x y z l r s. blocks_not_shown conflicts before now h.a h.b h.names h.rows j kept text h.said w.2 x y z l r s w.1)
  judged_means true j kept text h proofs status.Limit w = not_limit (first_apart h.said.judged.1.made.pairs) (ap judgement_status (sym h.said.judged.1.judgement_is) ∙ w.1)
  judged_means false j kept text h proofs status.Limit w =
      of_three left right stimulus h.a h.b h.names h.rows (λ x y z. BlocksUndecidedBehind x y z conflicts proofs before now) h.left_loads h.right_loads h.spells
      (λ x y z l r s.
      subst (λ (ps : List Proof). BlocksUndecidedBehind x y z conflicts ps before now) (sym w.0) (blocks_undecided conflicts before now h.a h.b h.names h.rows j kept text h.said w.2 x y z l r s w.1))
  judged_means signals j kept text h proofs status.Refused w = tt
  judged_means signals j kept text h proofs status.Words w = tt
  judged_means signals j kept text h proofs status.ReadFault w = tt
  judged_means signals j kept text h proofs status.WriteFault w = tt
  judged_means signals j kept text h proofs status.NoMemory w = tt
  judged_means signals j kept text h proofs status.Cyclic w = tt
  judged_means signals j kept text h proofs status.Done w = blocks.not_done j w.1

  -- a refusal that is written
  refused_means : (signals : Bool) (r : Refusal) (proofs : List Proof) (name : StatusName) → IsWrittenAs before now (finding.Refused r) proofs name → BegunMeans signals conflicts left right stimulus before now proofs name
  refused_means signals r proofs status.Equal w = absurd (let e : status.Refused ≡ status.Equal = w.1 in cc)
  refused_means signals r proofs status.Different w = absurd (let e : status.Refused ≡ status.Different = w.1 in cc)
  refused_means signals r proofs status.NotShown w = absurd (let e : status.Refused ≡ status.NotShown = w.1 in cc)
  refused_means signals r proofs status.Limit w = absurd (let e : status.Refused ≡ status.Limit = w.1 in cc)
  refused_means signals r proofs status.Refused w = tt
  refused_means signals r proofs status.Words w = tt
  refused_means signals r proofs status.ReadFault w = tt
  refused_means signals r proofs status.WriteFault w = tt
  refused_means signals r proofs status.NoMemory w = tt
  refused_means signals r proofs status.Cyclic w = tt
  refused_means signals r proofs status.Done w = absurd (let e : status.Refused ≡ status.Done = w.1 in cc)

  -- what a written finding means
  pub begun_means : (signals : Bool) (f : Finding) (proofs : List Proof) (name : StatusName) → IsBegunFound signals conflicts left right stimulus f → IsWrittenAs before now f proofs name →
      BegunMeans signals conflicts left right stimulus before now proofs name
  begun_means signals finding.Words proofs name h w = absurd h
  begun_means signals (finding.Refused r) proofs name h w = refused_means signals r proofs name w
  begun_means signals (finding.Cyclic side names) proofs name h w = absurd h
  begun_means signals (finding.Unpaired side names) proofs name h w = absurd h
  begun_means signals (finding.Checked o s) proofs name h w = absurd h
  begun_means signals (finding.Done text) proofs name h w = absurd h
  begun_means signals (finding.Generated o report) proofs name h w = absurd h
  begun_means signals (finding.Replayed differences) proofs name h w = absurd h
  begun_means signals (finding.Undecided side latch proof) proofs name h w = absurd h
  begun_means signals (finding.Unrefuted u) proofs name h w = absurd h
  begun_means signals (finding.Judged j kept text) proofs name h w = judged_means signals j kept text h proofs name w
