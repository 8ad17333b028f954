-- What the status of a comparison by ties of signals behind the rows of a stimulus under an assumption means.
use Rattle.std.proofs.Common.{◌≡◌, ◌∙◌, ℕ, ◌⊎◌, Bool, List, length, refl, sym, ap, subst, inl, inr, Option, Some, None}
use Rattle.base_shelves.specs.Outside.{Takes}
use Rattle.flat_net.specs.View.{NetView}
use Rattle.pair_decide.specs.declared.query.Proof.{Proof}
use Rattle.job_base.specs.sec_files.Loading.{Loads}
use Rattle.job_base.specs.sec_files.Stimuli.{IsStimulus}
use Rattle.job_base.proofs.design_laws.text_circuits.Circuits.{text_design}
use Rattle.job_base.specs.declared.finding.Judgement.{Judgement}
use Rattle.job_base.specs.declared.finding.Refusal.{Refusal}
use Rattle.job_base.specs.declared.finding.Finding.{Finding}
use Rattle.job_base.specs.declared.finding.Finding.TheVariants as finding
use Rattle.job_base.specs.declared.status.StatusName.{StatusName}
use Rattle.job_base.specs.declared.status.StatusName.TheVariants as status
use Rattle.job_base.specs.Written.{judgement_status, IsWrittenAs}
use Rattle.pair_texts.proofs.assume_texts.Texts.{spelled}
use Rattle.job_under.specs.signal_induct.Tied.{first_apart}
use Rattle.restart.specs.Agreement.{Each}
use Rattle.job_under.specs.job_signals.Judged.{judgement_of}
use Rattle.job_under.specs.job_begun.Judged.{text_behind}
use Rattle.job_under.proofs.job_signals.Means.{not_different, not_limit, not_done}
use Rattle.job_after_under.specs.Judged.{IsJudgedUndecided}
use Rattle.job_after_under.specs.Found.{OfFour}
use Rattle.job_after_under.specs.Answer.{AssumptionUndecided, OfFourTexts}
use Rattle.job_after_under.specs.ties.Judged.{AreJudgedBehind, AreJudged}
use Rattle.job_after_under.specs.ties.Found.{AreTiesBehindFound}
use Rattle.job_after_under.specs.ties.Answer.{AreTextsTiedBehind, TextsAgreeTiedBehind, TextsNotTiedBehind, TiesBehindMean}
use Rattle.job_after_under.proofs.Lifted.{behind_up}
use Rattle.job_after_under.proofs.Means.{of_four, assumption_undecided}

module _ (before now : Option (List ℕ)) (a b c : NetView) (names : List (List ℕ)) (rows : List (List Bool)) (j : Judgement) (proofs : List Proof) (text : List ℕ) (h : AreJudgedBehind a b c names rows j proofs text) (taken : Takes before now text)
    (x y u z : List ℕ) (left : Loads x a) (right : Loads y b) (assumed : Loads u c) (stimulus : IsStimulus z names rows) where
  abbrev texts : AreTextsTiedBehind x y u z before now
  texts = record {
    spelled = spelled x y u a b c left right assumed;
    names = names;
    rows = rows;
    stimulus = stimulus;
    begun = h.of;
    are_begun = h.is;
    assumed = h.judged.assumed;
    made = h.judged.made;
    is = h.judged.is;
    hold = h.hold;
    printed = subst (Takes before now) (h.text_is ∙ ap (text_behind (length rows) h.of) h.judged.text_is) taken;
  }

  agree : judgement_status j ≡ status.Equal → TextsAgreeTiedBehind x y u z before now
  agree e = go (first_apart h.judged.made.pairs) refl (ap judgement_status (sym h.judged.judgement_is) ∙ e)
    where
      go : (apart : Option (List ℕ)) → first_apart h.judged.made.pairs ≡ apart → judgement_status (judgement_of apart) ≡ status.Equal → TextsAgreeTiedBehind x y u z before now
      go None is q = record { of = texts; is_verdict = is; says = behind_up (text_design x a left) (text_design y b right) (text_design u c assumed) names rows Each (h.agree is) }
      go (Some name) is q = absurd (cc)

  not_tied : judgement_status j ≡ status.NotShown → TextsNotTiedBehind x y u z before now
  not_tied e = go (first_apart h.judged.made.pairs) refl (ap judgement_status (sym h.judged.judgement_is) ∙ e)
    where
      go : (apart : Option (List ℕ)) → first_apart h.judged.made.pairs ≡ apart → judgement_status (judgement_of apart) ≡ status.NotShown → TextsNotTiedBehind x y u z before now
      go None is q = absurd (cc)
      go (Some name) is q = record { of = texts; pair = name; is_verdict = is }

module _ (conflicts : ℕ) (left right assumed stimulus before now : Option (List ℕ)) where
  abbrev Mean : List Proof → StatusName → Type 0
  Mean proofs name = TiesBehindMean conflicts left right assumed stimulus before now proofs name

  -- a judgement that is written
  module _ (j : Judgement) (kept : List Proof) (text : List ℕ) (h : OfFour left right assumed stimulus (λ a b c names rows. AreJudged conflicts a b c names rows j kept text)) where
    of_texts : (P : List ℕ → List ℕ → List ℕ → List ℕ → Type 0) → ((x y u z : List ℕ) → Loads x h.a → Loads y h.b → Loads u h.c → IsStimulus z h.names h.rows → P x y u z) → OfFourTexts left right assumed stimulus P
    of_texts P f = of_four left right assumed stimulus h.a h.b h.c h.names h.rows P h.left_loads h.right_loads h.assumed_loads h.spells f

    -- that by ties
    tied_mean : AreJudgedBehind h.a h.b h.c h.names h.rows j kept text → (proofs : List Proof) (name : StatusName) → IsWrittenAs before now (finding.Judged j kept text) proofs name → Mean proofs name
    tied_mean k proofs status.Equal w = of_texts _ (λ x y u z l r m s. agree before now h.a h.b h.c h.names h.rows j kept text k w.2 x y u z l r m s w.1)
    tied_mean k proofs status.Different w = not_different (first_apart k.judged.made.pairs) (ap judgement_status (sym k.judged.judgement_is) ∙ w.1)
    tied_mean k proofs status.NotShown w = of_texts _ (λ x y u z l r m s. not_tied before now h.a h.b h.c h.names h.rows j kept text k w.2 x y u z l r m s w.1)
    tied_mean k proofs status.Limit w = absurd (not_limit (first_apart k.judged.made.pairs) (ap judgement_status (sym k.judged.judgement_is) ∙ w.1))
    tied_mean k proofs status.Refused w = tt
    tied_mean k proofs status.Words w = tt
    tied_mean k proofs status.ReadFault w = tt
    tied_mean k proofs status.WriteFault w = tt
    tied_mean k proofs status.NoMemory w = tt
    tied_mean k proofs status.Cyclic w = tt
    tied_mean k proofs status.Done w = not_done (first_apart k.judged.made.pairs) (ap judgement_status (sym k.judged.judgement_is) ∙ w.1)

    -- that of the assumption
    limit_mean : IsJudgedUndecided h.a h.b h.c h.names h.rows conflicts j kept text → (proofs : List Proof) (name : StatusName) → IsWrittenAs before now (finding.Judged j kept text) proofs name → Mean proofs name
    limit_mean k proofs status.Equal w = absurd (let e : status.Limit ≡ status.Equal = ap judgement_status (sym k.judgement_is) ∙ w.1 in cc)
    limit_mean k proofs status.Different w = absurd (let e : status.Limit ≡ status.Different = ap judgement_status (sym k.judgement_is) ∙ w.1 in cc)
    limit_mean k proofs status.NotShown w = absurd (let e : status.Limit ≡ status.NotShown = ap judgement_status (sym k.judgement_is) ∙ w.1 in cc)
    limit_mean k proofs status.Limit w =
        of_texts _
        (λ x y u z l r m s.
        subst (λ (ps : List Proof). AssumptionUndecided x y u z conflicts ps before now) (sym w.0) (assumption_undecided conflicts before now h.a h.b h.c h.names h.rows j kept text k w.2 x y u z l r m s))
    limit_mean k proofs status.Refused w = tt
    limit_mean k proofs status.Words w = tt
    limit_mean k proofs status.ReadFault w = tt
    limit_mean k proofs status.WriteFault w = tt
    limit_mean k proofs status.NoMemory w = tt
    limit_mean k proofs status.Cyclic w = tt
    limit_mean k proofs status.Done w = absurd (let e : status.Limit ≡ status.Done = ap judgement_status (sym k.judgement_is) ∙ w.1 in cc)

    judged_mean : (proofs : List Proof) (name : StatusName) → IsWrittenAs before now (finding.Judged j kept text) proofs name → Mean proofs name
    judged_mean proofs name w = go h.said
      where
        go : AreJudged conflicts h.a h.b h.c h.names h.rows j kept text → Mean proofs name
        go (inl k) = tied_mean k proofs name w
        go (inr k) = limit_mean k proofs name w

  -- a refusal that is written
  refused_mean : (r : Refusal) (proofs : List Proof) (name : StatusName) → IsWrittenAs before now (finding.Refused r) proofs name → Mean proofs name
  refused_mean r proofs status.Equal w = absurd (let e : status.Refused ≡ status.Equal = w.1 in cc)
  refused_mean r proofs status.Different w = absurd (let e : status.Refused ≡ status.Different = w.1 in cc)
  refused_mean r proofs status.NotShown w = absurd (let e : status.Refused ≡ status.NotShown = w.1 in cc)
  refused_mean r proofs status.Limit w = absurd (let e : status.Refused ≡ status.Limit = w.1 in cc)
  refused_mean r proofs status.Refused w = tt
  refused_mean r proofs status.Words w = tt
  refused_mean r proofs status.ReadFault w = tt
  refused_mean r proofs status.WriteFault w = tt
  refused_mean r proofs status.NoMemory w = tt
  refused_mean r proofs status.Cyclic w = tt
  refused_mean r proofs status.Done w = absurd (let e : status.Refused ≡ status.Done = w.1 in cc)

  -- what a written finding means
  pub ties_behind_mean : (f : Finding) (proofs : List Proof) (name : StatusName) → AreTiesBehindFound conflicts left right assumed stimulus f → IsWrittenAs before now f proofs name → Mean proofs name
  ties_behind_mean finding.Words proofs name h w = absurd h
  ties_behind_mean (finding.Refused r) proofs name h w = refused_mean r proofs name w
  ties_behind_mean (finding.Cyclic side names) proofs name h w = absurd h
  ties_behind_mean (finding.Unpaired side names) proofs name h w = absurd h
  ties_behind_mean (finding.Checked o s) proofs name h w = absurd h
  ties_behind_mean (finding.Done text) proofs name h w = absurd h
  ties_behind_mean (finding.Generated o report) proofs name h w = absurd h
  ties_behind_mean (finding.Replayed differences) proofs name h w = absurd h
  ties_behind_mean (finding.Undecided side latch proof) proofs name h w = absurd h
  ties_behind_mean (finding.Unrefuted u) proofs name h w = absurd h
  ties_behind_mean (finding.Judged j kept text) proofs name h w = judged_mean j kept text h proofs name w
