-- What the status of a comparison by ties of signals under an assumption means.
use Rattle.std.specs.Prelude.{IfSome}
use Rattle.std.proofs.Common.{◌≡◌, ◌∙◌, ℕ, ◌⊎◌, List, refl, sym, ap, subst, inl, inr, Option, Some, None}
use Rattle.circuit_theory.specs.Interface.{shared_inputs}
use Rattle.base_shelves.specs.Outside.{Takes}
use Rattle.flat_net.specs.View.{NetView, ports_of}
use Rattle.pair_decide.specs.declared.query.Proof.{Proof}
use Rattle.job_base.specs.sec_files.Loading.{Loads}
use Rattle.job_base.proofs.design_laws.text_circuits.Circuits.{text_design}
use Rattle.job_base.specs.declared.finding.Judgement.{Judgement}
use Rattle.job_base.specs.declared.finding.Refusal.{Refusal}
use Rattle.job_base.specs.declared.finding.Finding.{Finding}
use Rattle.job_base.specs.declared.finding.Finding.TheVariants as finding
use Rattle.job_base.specs.declared.status.StatusName.{StatusName}
use Rattle.job_base.specs.declared.status.StatusName.TheVariants as status
use Rattle.job_base.specs.Written.{judgement_status, IsWrittenAs}
use Rattle.job_base.specs.sec_files.job_files.Texts.{OfThreeNets}
use Rattle.pair_texts.proofs.assume_texts.Designs.{resets_agree_up}
use Rattle.pair_texts.proofs.assume_texts.Sequences.{resets_where_met}
use Rattle.pair_texts.proofs.assume_texts.Texts.{spelled}
use Rattle.signal_induct.specs.Tied.{first_apart}
use Rattle.job_signals.specs.Judged.{judgement_of}
use Rattle.job_signals.proofs.Means.{not_different, not_limit, not_done}
use Rattle.job_under.specs.Judged.{IsJudgedUndecided}
use Rattle.job_under.specs.Answer.{AssumptionUndecided}
use Rattle.job_under.proofs.Means.{of_three, assumption_undecided}
use Rattle.job_under.specs.ties.Judged.{AreJudgedTied, AreJudged}
use Rattle.job_under.specs.ties.Found.{AreTiesFound}
use Rattle.job_under.specs.ties.Answer.{AreTextsTied, TextsAgreeTied, TextsNotTied, TiesMean}

module _ (before now : Option (List ℕ)) (a b c : NetView) (j : Judgement) (proofs : List Proof) (text : List ℕ) (h : AreJudgedTied a b c j proofs text) (taken : Takes before now text) (x y z : List ℕ) (left : Loads x a) (right : Loads y b) (assumed : Loads z c) where
  abbrev texts : AreTextsTied x y z before now
  texts = record { spelled = spelled x y z a b c left right assumed; assumed = h.assumed; made = h.made; is = h.is; printed = subst (Takes before now) h.text_is taken }

  agree : judgement_status j ≡ status.Equal → TextsAgreeTied x y z before now
  agree e = go (first_apart h.made.pairs) refl (ap judgement_status (sym h.judgement_is) ∙ e)
    where
      go : (apart : Option (List ℕ)) → first_apart h.made.pairs ≡ apart → judgement_status (judgement_of apart) ≡ status.Equal → TextsAgreeTied x y z before now
      go None is q =
          let nets = resets_where_met (shared_inputs (ports_of a) (ports_of b)) c h.assumed a b (h.agree is) in
          record { of = texts; is_verdict = is; says = resets_agree_up (text_design x a left) (text_design y b right) (text_design z c assumed) nets; nets_say = nets }
      go (Some name) is q = absurd (cc)

  not_tied : judgement_status j ≡ status.NotShown → TextsNotTied x y z before now
  not_tied e = go (first_apart h.made.pairs) refl (ap judgement_status (sym h.judgement_is) ∙ e)
    where
      go : (apart : Option (List ℕ)) → first_apart h.made.pairs ≡ apart → judgement_status (judgement_of apart) ≡ status.NotShown → TextsNotTied x y z before now
      go None is q = absurd (cc)
      go (Some name) is q = record { of = texts; pair = name; is_verdict = is }

module _ (conflicts : ℕ) (left right assumed before now : Option (List ℕ)) where
  abbrev Mean : List Proof → StatusName → Type 0
  Mean proofs name = TiesMean conflicts left right assumed before now proofs name

  -- a judgement by ties that is written
  tied_mean : (j : Judgement) (kept : List Proof) (text : List ℕ) (a b c : NetView) → IfSome left (λ x. Loads x a) → IfSome right (λ y. Loads y b) → IfSome assumed (λ z. Loads z c) → AreJudgedTied a b c j kept text → (proofs : List Proof) (name : StatusName) →
      IsWrittenAs before now (finding.Judged j kept text) proofs name → Mean proofs name
  tied_mean j kept text a b c l r s h proofs status.Equal w =
      of_three left right assumed a b c (λ x y z. TextsAgreeTied x y z before now) l r s (λ x y z m n o. agree before now a b c j kept text h w.2 x y z m n o w.1)
  tied_mean j kept text a b c l r s h proofs status.Different w = not_different (first_apart h.made.pairs) (ap judgement_status (sym h.judgement_is) ∙ w.1)
  tied_mean j kept text a b c l r s h proofs status.NotShown w =
      of_three left right assumed a b c (λ x y z. TextsNotTied x y z before now) l r s (λ x y z m n o. not_tied before now a b c j kept text h w.2 x y z m n o w.1)
  tied_mean j kept text a b c l r s h proofs status.Limit w = absurd (not_limit (first_apart h.made.pairs) (ap judgement_status (sym h.judgement_is) ∙ w.1))
  tied_mean j kept text a b c l r s h proofs status.Refused w = tt
  tied_mean j kept text a b c l r s h proofs status.Words w = tt
  tied_mean j kept text a b c l r s h proofs status.ReadFault w = tt
  tied_mean j kept text a b c l r s h proofs status.WriteFault w = tt
  tied_mean j kept text a b c l r s h proofs status.NoMemory w = tt
  tied_mean j kept text a b c l r s h proofs status.Cyclic w = tt
  tied_mean j kept text a b c l r s h proofs status.Done w = not_done (first_apart h.made.pairs) (ap judgement_status (sym h.judgement_is) ∙ w.1)

  -- that of the assumption
  limit_mean : (j : Judgement) (kept : List Proof) (text : List ℕ) (a b c : NetView) → IfSome left (λ x. Loads x a) → IfSome right (λ y. Loads y b) → IfSome assumed (λ z. Loads z c) → IsJudgedUndecided a b c conflicts j kept text → (proofs : List Proof) (name : StatusName) →
      IsWrittenAs before now (finding.Judged j kept text) proofs name → Mean proofs name
  limit_mean j kept text a b c l r s h proofs status.Equal w = absurd (let e : status.Limit ≡ status.Equal = ap judgement_status (sym h.judgement_is) ∙ w.1 in cc)
  limit_mean j kept text a b c l r s h proofs status.Different w = absurd (let e : status.Limit ≡ status.Different = ap judgement_status (sym h.judgement_is) ∙ w.1 in cc)
  limit_mean j kept text a b c l r s h proofs status.NotShown w = absurd (let e : status.Limit ≡ status.NotShown = ap judgement_status (sym h.judgement_is) ∙ w.1 in cc)
  limit_mean j kept text a b c l r s h proofs status.Limit w =
      of_three left right assumed a b c (λ x y z. AssumptionUndecided x y z conflicts proofs before now) l r s
      (λ x y z m n o. subst (λ (ps : List Proof). AssumptionUndecided x y z conflicts ps before now) (sym w.0) (assumption_undecided conflicts before now a b c j kept text h w.2 x y z m n o))
  limit_mean j kept text a b c l r s h proofs status.Refused w = tt
  limit_mean j kept text a b c l r s h proofs status.Words w = tt
  limit_mean j kept text a b c l r s h proofs status.ReadFault w = tt
  limit_mean j kept text a b c l r s h proofs status.WriteFault w = tt
  limit_mean j kept text a b c l r s h proofs status.NoMemory w = tt
  limit_mean j kept text a b c l r s h proofs status.Cyclic w = tt
  limit_mean j kept text a b c l r s h proofs status.Done w = absurd (let e : status.Limit ≡ status.Done = ap judgement_status (sym h.judgement_is) ∙ w.1 in cc)

  judged_mean : (j : Judgement) (kept : List Proof) (text : List ℕ) → OfThreeNets left right assumed (λ a b c. AreJudged conflicts a b c j kept text) → (proofs : List Proof) (name : StatusName) →
      IsWrittenAs before now (finding.Judged j kept text) proofs name → Mean proofs name
  judged_mean j kept text h proofs name w = go h.said
    where
      go : AreJudged conflicts h.a h.b h.c j kept text → Mean proofs name
      go (inl k) = tied_mean j kept text h.a h.b h.c h.left_loads h.right_loads h.assumed_loads k proofs name w
      go (inr k) = limit_mean j kept text h.a h.b h.c h.left_loads h.right_loads h.assumed_loads k proofs name w

  -- a refusal that is written
  refused_mean : (r : Refusal) (proofs : List Proof) (name : StatusName) → IsWrittenAs before now (finding.Refused r) proofs name → Mean proofs name
  refused_mean r proofs status.Equal w = absurd (let e : status.Refused ≡ status.Equal = w.1 in cc)
  refused_mean r proofs status.Different w = absurd (let e : status.Refused ≡ status.Different = w.1 in cc)
  refused_mean r proofs status.NotShown w = absurd (let e : status.Refused ≡ status.NotShown = w.1 in cc)
  refused_mean r proofs status.Limit w = absurd (let e : status.Refused ≡ status.Limit = w.1 in cc)
  refused_mean r proofs status.Refused w = tt
  refused_mean r proofs status.Words w = tt
  refused_mean r proofs status.ReadFault w = tt
  refused_mean r proofs status.WriteFault w = tt
  refused_mean r proofs status.NoMemory w = tt
  refused_mean r proofs status.Cyclic w = tt
  refused_mean r proofs status.Done w = absurd (let e : status.Refused ≡ status.Done = w.1 in cc)

  -- what a written finding means
  pub ties_mean : (f : Finding) (proofs : List Proof) (name : StatusName) → AreTiesFound conflicts left right assumed f → IsWrittenAs before now f proofs name → Mean proofs name
  ties_mean finding.Words proofs name h w = absurd h
  ties_mean (finding.Refused r) proofs name h w = refused_mean r proofs name w
  ties_mean (finding.Cyclic side names) proofs name h w = absurd h
  ties_mean (finding.Unpaired side names) proofs name h w = absurd h
  ties_mean (finding.Checked o s) proofs name h w = absurd h
  ties_mean (finding.Done text) proofs name h w = absurd h
  ties_mean (finding.Generated o report) proofs name h w = absurd h
  ties_mean (finding.Replayed differences) proofs name h w = absurd h
  ties_mean (finding.Undecided side latch proof) proofs name h w = absurd h
  ties_mean (finding.Unrefuted u) proofs name h w = absurd h
  ties_mean (finding.Judged j kept text) proofs name h w = judged_mean j kept text h proofs name w
