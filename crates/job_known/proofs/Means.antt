-- What the status of a replay of what is known means.
use Rattle.std.specs.Prelude.{◌==◌, ◌&&◌}
use Rattle.std.proofs.Common.{◌≡◌, ℕ, Bool, true, false, cond, List, length, refl, sym, subst, Option, Result, Ok}
use Rattle.pair_decide.specs.declared.query.Proof.{Proof}
use Rattle.job_base.specs.declared.finding.Judgement.{Judgement}
use Rattle.job_base.specs.declared.finding.Judgement.TheVariants as judgement
use Rattle.job_base.specs.declared.finding.Refusal.{Refusal}
use Rattle.job_base.specs.declared.finding.Finding.{Finding}
use Rattle.job_base.specs.declared.finding.Finding.TheVariants as finding
use Rattle.job_base.specs.declared.status.StatusName.{StatusName}
use Rattle.job_base.specs.declared.status.StatusName.TheVariants as status
use Rattle.job_base.specs.Written.{judgement_status, IsWrittenAs}
use Rattle.job_after.specs.declared.fault.AfterFault.{AfterFault}
use Rattle.job_after.specs.declared.judging.Judged.{Judged}
use Rattle.job_after.specs.Answer.{IsUnreadRefusal}
use Rattle.job_known.specs.declared.known_pairs.KnownReplay.{KnownReplay}
use Rattle.job_known.specs.Report.{count_of, judgement_of}
use Rattle.job_known.specs.Found.{IsKnownFound, OfReset, IsResetFound, IsUnreadBehind, OfBehind, IsBehindFound}
use Rattle.job_known.specs.Answer.{KnownMeans, ResetMeans, BehindMeans, IsKnownAnswer}

-- the status of what is said is one of an answer
pub answers : (settles : Bool) (r : KnownReplay) → IsKnownAnswer settles (judgement_status (judgement_of settles r))
answers settles r = go settles (length r.differences == 0) (count_of r.seen.items == 0)
  where
    go : (told same none : Bool) → IsKnownAnswer told (judgement_status (cond same (cond (told && none) judgement.NotShown judgement.Equal) judgement.Different))
    go told false none = tt
    go false true none = tt
    go true true true = refl
    go true true false = tt

module _ (Unread : Refusal → Type 0) (Of : Result Judged AfterFault → Type 0) (fits : (j : Judged) → Of (Ok j) → (settles : Bool) × IsKnownAnswer settles (judgement_status j.judgement)) (before now : Option (List ℕ)) where
  no_limit : (j : Judged) → Of (Ok j) → judgement_status j.judgement ≡ status.Limit → ⊥
  no_limit j of e = go (judgement_status j.judgement) (fits j of).1 e
    where
      go : (s : StatusName) → IsKnownAnswer (fits j of).0 s → s ≡ status.Limit → ⊥
      go status.Limit h q = h
      go status.Equal h q = cc
      go status.Different h q = cc
      go status.NotShown h q = cc
      go status.NoMemory h q = cc
      go status.Done h q = cc
      go status.Refused h q = cc
      go status.Words h q = cc
      go status.ReadFault h q = cc
      go status.WriteFault h q = cc
      go status.Cyclic h q = cc

  done_means : (j : Judgement) → judgement_status j ≡ status.Done → ⊥
  done_means judgement.Equal e = cc
  done_means judgement.Different e = cc
  done_means judgement.NotShown e = cc
  done_means judgement.Limit e = cc

  judged_means : (j : Judgement) (kept : List Proof) (text : List ℕ) → Of (Ok (record { judgement = j; proofs = kept; text = text })) → (proofs : List Proof) (name : StatusName) → IsWrittenAs before now (finding.Judged j kept text) proofs name → KnownMeans Of before now name
  judged_means j kept text of proofs status.Equal w = record { judged = record { judgement = j; proofs = kept; text = text }; is = of; status_is = w.1; printed = w.2 }
  judged_means j kept text of proofs status.Different w = record { judged = record { judgement = j; proofs = kept; text = text }; is = of; status_is = w.1; printed = w.2 }
  judged_means j kept text of proofs status.NotShown w = record { judged = record { judgement = j; proofs = kept; text = text }; is = of; status_is = w.1; printed = w.2 }
  judged_means j kept text of proofs status.Limit w = no_limit (record { judgement = j; proofs = kept; text = text }) of w.1
  judged_means j kept text of proofs status.Refused w = tt
  judged_means j kept text of proofs status.Words w = tt
  judged_means j kept text of proofs status.ReadFault w = tt
  judged_means j kept text of proofs status.WriteFault w = tt
  judged_means j kept text of proofs status.NoMemory w = tt
  judged_means j kept text of proofs status.Cyclic w = tt
  judged_means j kept text of proofs status.Done w = done_means j w.1

  refused_means : (r : Refusal) (proofs : List Proof) (name : StatusName) → IsWrittenAs before now (finding.Refused r) proofs name → KnownMeans Of before now name
  refused_means r proofs status.Equal w = absurd (let e : status.Refused ≡ status.Equal = w.1 in cc)
  refused_means r proofs status.Different w = absurd (let e : status.Refused ≡ status.Different = w.1 in cc)
  refused_means r proofs status.NotShown w = absurd (let e : status.Refused ≡ status.NotShown = w.1 in cc)
  refused_means r proofs status.Limit w = absurd (let e : status.Refused ≡ status.Limit = w.1 in cc)
  refused_means r proofs status.Refused w = tt
  refused_means r proofs status.Words w = tt
  refused_means r proofs status.ReadFault w = tt
  refused_means r proofs status.WriteFault w = tt
  refused_means r proofs status.NoMemory w = tt
  refused_means r proofs status.Cyclic w = tt
  refused_means r proofs status.Done w = absurd (let e : status.Refused ≡ status.Done = w.1 in cc)

  known_means : (f : Finding) (proofs : List Proof) (name : StatusName) → IsKnownFound Unread Of f → IsWrittenAs before now f proofs name → KnownMeans Of before now name
  known_means finding.Words proofs name h w = absurd h
  known_means (finding.Refused r) proofs name h w = refused_means r proofs name w
  known_means (finding.Cyclic side names) proofs name h w = absurd h
  known_means (finding.Unpaired side names) proofs name h w = absurd h
  known_means (finding.Checked o s) proofs name h w = absurd h
  known_means (finding.Done text) proofs name h w = absurd h
  known_means (finding.Generated o report) proofs name h w = absurd h
  known_means (finding.Replayed differences) proofs name h w = absurd h
  known_means (finding.Undecided side latch proof) proofs name h w = absurd h
  known_means (finding.Unrefuted u) proofs name h w = absurd h
  known_means (finding.Judged j kept text) proofs name h w = judged_means j kept text h proofs name w

-- by how it is told
pub reset_fits : (settles : Bool) (left right stimulus : Option (List ℕ)) (j : Judged) → OfReset settles left right stimulus (Ok j) → IsKnownAnswer settles (judgement_status j.judgement)
reset_fits settles left right stimulus j h = subst (λ (k : Judgement). IsKnownAnswer settles (judgement_status k)) (sym h.said.told.judgement) (answers settles h.said.found)

pub behind_fits : (settles : Bool) (left right before stimulus : Option (List ℕ)) (j : Judged) → OfBehind settles left right before stimulus (Ok j) → IsKnownAnswer settles (judgement_status j.judgement)
behind_fits settles left right before stimulus j h = subst (λ (k : Judgement). IsKnownAnswer settles (judgement_status k)) (sym h.said.told.judgement) (answers settles h.said.found)

-- what a written finding means
pub reset_means : (settles : Bool) (left right stimulus earlier now : Option (List ℕ)) (f : Finding) (proofs : List Proof) (name : StatusName) → IsResetFound settles left right stimulus f → IsWrittenAs earlier now f proofs name →
    ResetMeans settles left right stimulus earlier now name
reset_means settles left right stimulus earlier now f proofs name h w =
    known_means (IsUnreadRefusal left right stimulus) (OfReset settles left right stimulus) (λ j of. (settles, reset_fits settles left right stimulus j of)) earlier now f proofs name h w

pub behind_means : (settles : Bool) (left right before stimulus earlier now : Option (List ℕ)) (f : Finding) (proofs : List Proof) (name : StatusName) → IsBehindFound settles left right before stimulus f → IsWrittenAs earlier now f proofs name →
    BehindMeans settles left right before stimulus earlier now name
behind_means settles left right before stimulus earlier now f proofs name h w =
    known_means (IsUnreadBehind left right before stimulus) (OfBehind settles left right before stimulus) (λ j of. (settles, behind_fits settles left right before stimulus j of)) earlier now f proofs name h w
