-- What the status of a comparison by ties of signals means.
use Rattle.std.proofs.Common.{◌≡◌, ◌∙◌, ℕ, List, refl, sym, ap, subst, Option, Some, None}
use Rattle.base_shelves.specs.Outside.{Takes}
use Rattle.flat_net.specs.View.{NetView}
use Rattle.pair_decide.specs.declared.query.Proof.{Proof}
use Rattle.job_base.specs.sec_files.Loading.{Loads, circuit_of_text}
use Rattle.job_base.proofs.sec_files.Texts.{spelled_circuit}
use Rattle.job_base.proofs.design_laws.text_circuits.Circuits.{text_design}
use Rattle.job_base.proofs.design_laws.text_circuits.Resets.{resets_agree_up}
use Rattle.job_base.specs.declared.finding.Judgement.{Judgement}
use Rattle.job_base.specs.declared.finding.Refusal.{Refusal}
use Rattle.job_base.specs.declared.finding.Finding.{Finding}
use Rattle.job_base.specs.declared.finding.Finding.TheVariants as finding
use Rattle.job_base.specs.declared.status.StatusName.{StatusName}
use Rattle.job_base.specs.declared.status.StatusName.TheVariants as status
use Rattle.job_base.specs.Written.{judgement_status, IsWrittenAs}
use Rattle.signal_induct.specs.Tied.{first_apart}
use Rattle.job_base.specs.sec_files.job_files.Texts.{OfNets}
use Rattle.sec_jobs.proofs.job_induct.induct_meaning.Means.{of_texts}
use Rattle.job_signals.specs.Judged.{judgement_of, IsJudged}
use Rattle.job_signals.specs.Found.{IsSignalsFound}
use Rattle.job_signals.specs.Answer.{AreTiedTexts, SignalsAgree, SignalsNotShown, SignalsMeans}

module _ (before now : Option (List ℕ)) (a b : NetView) (j : Judgement) (text : List ℕ) (h : IsJudged a b j text) (taken : Takes before now text) (x y : List ℕ) (left : Loads x a) (right : Loads y b) where
  abbrev texts : AreTiedTexts x y before now
  texts = record {
    left_clock = a.clock;
    right_clock = b.clock;
    left = circuit_of_text x a.clock;
    right = circuit_of_text y b.clock;
    left_spelled = spelled_circuit x a left;
    right_spelled = spelled_circuit y b right;
    left_net = a;
    right_net = b;
    left_loads = left;
    right_loads = right;
    made = h.made;
    is = h.is;
    printed = subst (Takes before now) h.text_is taken;
  }

  agree : judgement_status j ≡ status.Equal → SignalsAgree x y before now
  agree e = go (first_apart h.made.pairs) refl (ap judgement_status (sym h.judgement_is) ∙ e)
    where
      go : (apart : Option (List ℕ)) → first_apart h.made.pairs ≡ apart → judgement_status (judgement_of apart) ≡ status.Equal → SignalsAgree x y before now
      go None is q = record { of = texts; is_verdict = is; says = resets_agree_up (text_design x a left) (text_design y b right) (h.agree is); nets_say = h.agree is }
      go (Some name) is q = absurd (cc)

  not_shown : judgement_status j ≡ status.NotShown → SignalsNotShown x y before now
  not_shown e = go (first_apart h.made.pairs) refl (ap judgement_status (sym h.judgement_is) ∙ e)
    where
      go : (apart : Option (List ℕ)) → first_apart h.made.pairs ≡ apart → judgement_status (judgement_of apart) ≡ status.NotShown → SignalsNotShown x y before now
      go None is q = absurd (cc)
      go (Some name) is q = record { of = texts; pair = name; is_verdict = is }

-- a verdict is none of the other statuses
pub not_different : (apart : Option (List ℕ)) → judgement_status (judgement_of apart) ≡ status.Different → ⊥
not_different None q = cc
not_different (Some name) q = cc

pub not_limit : (apart : Option (List ℕ)) → judgement_status (judgement_of apart) ≡ status.Limit → ⊥
not_limit None q = cc
not_limit (Some name) q = cc

pub not_done : (apart : Option (List ℕ)) → judgement_status (judgement_of apart) ≡ status.Done → ⊥
not_done None q = cc
not_done (Some name) q = cc

module _ (left right before now : Option (List ℕ)) where
  -- a judgement that is written
  judged_means : (j : Judgement) (kept : List Proof) (text : List ℕ) → OfNets left right (λ a b. IsJudged a b j text) → (proofs : List Proof) (name : StatusName) →
      IsWrittenAs before now (finding.Judged j kept text) proofs name → SignalsMeans left right before now proofs name
  judged_means j kept text h proofs status.Equal w =
      of_texts left right h.a h.b (λ x y. SignalsAgree x y before now) h.left_loads h.right_loads (λ x y l r. agree before now h.a h.b j text h.said w.2 x y l r w.1)
  judged_means j kept text h proofs status.Different w = not_different (first_apart h.said.made.pairs) (ap judgement_status (sym h.said.judgement_is) ∙ w.1)
  judged_means j kept text h proofs status.NotShown w =
      of_texts left right h.a h.b (λ x y. SignalsNotShown x y before now) h.left_loads h.right_loads (λ x y l r. not_shown before now h.a h.b j text h.said w.2 x y l r w.1)
  judged_means j kept text h proofs status.Limit w = not_limit (first_apart h.said.made.pairs) (ap judgement_status (sym h.said.judgement_is) ∙ w.1)
  judged_means j kept text h proofs status.Refused w = tt
  judged_means j kept text h proofs status.Words w = tt
  judged_means j kept text h proofs status.ReadFault w = tt
  judged_means j kept text h proofs status.WriteFault w = tt
  judged_means j kept text h proofs status.NoMemory w = tt
  judged_means j kept text h proofs status.Cyclic w = tt
  judged_means j kept text h proofs status.Done w = not_done (first_apart h.said.made.pairs) (ap judgement_status (sym h.said.judgement_is) ∙ w.1)

  -- a refusal that is written
  refused_means : (r : Refusal) (proofs : List Proof) (name : StatusName) → IsWrittenAs before now (finding.Refused r) proofs name → SignalsMeans left right before now proofs name
  refused_means r proofs status.Equal w = absurd (let e : status.Refused ≡ status.Equal = w.1 in cc)
  refused_means r proofs status.Different w = absurd (let e : status.Refused ≡ status.Different = w.1 in cc)
  refused_means r proofs status.NotShown w = absurd (let e : status.Refused ≡ status.NotShown = w.1 in cc)
  refused_means r proofs status.Limit w = absurd (let e : status.Refused ≡ status.Limit = w.1 in cc)
  refused_means r proofs status.Refused w = tt
  refused_means r proofs status.Words w = tt
  refused_means r proofs status.ReadFault w = tt
  refused_means r proofs status.WriteFault w = tt
  refused_means r proofs status.NoMemory w = tt
  refused_means r proofs status.Cyclic w = tt
  refused_means r proofs status.Done w = absurd (let e : status.Refused ≡ status.Done = w.1 in cc)

  -- what a written finding means
  pub signals_means : (f : Finding) (proofs : List Proof) (name : StatusName) → IsSignalsFound left right f → IsWrittenAs before now f proofs name → SignalsMeans left right before now proofs name
  signals_means finding.Words proofs name h w = absurd h
  signals_means (finding.Refused r) proofs name h w = refused_means r proofs name w
  signals_means (finding.Cyclic side names) proofs name h w = absurd h
  signals_means (finding.Unpaired side names) proofs name h w = absurd h
  signals_means (finding.Checked o s) proofs name h w = absurd h
  signals_means (finding.Done text) proofs name h w = absurd h
  signals_means (finding.Generated o report) proofs name h w = absurd h
  signals_means (finding.Replayed differences) proofs name h w = absurd h
  signals_means (finding.Undecided side latch proof) proofs name h w = absurd h
  signals_means (finding.Unrefuted u) proofs name h w = absurd h
  signals_means (finding.Judged j kept text) proofs name h w = judged_means j kept text h.1 proofs name w
