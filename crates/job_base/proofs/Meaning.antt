-- What a written finding means, whatever the job.
use Rattle.std.proofs.Common.{◌≡◌, ℕ, List, refl, sym, ◌∙◌, subst, inl, inr, ◌⊎◌, Option}
use Rattle.base_shelves.specs.Outside.{Takes}
use Rattle.obligations.specs.outcome.pair_decide.Proof.{Proof}
use Rattle.job_base.specs.declared.finding.Finding.{Finding}
use Rattle.job_base.specs.declared.status.StatusName.{StatusName}
use Rattle.job_base.specs.declared.status.StatusName.TheVariants as status
use Rattle.job_base.specs.Lines.{finding_text}
use Rattle.job_base.specs.Meaning.{ReportMeans, SaysNothing}
use Rattle.job_base.specs.Written.{status_of, IsWrittenAs}

neither : {X Y : Type 0} → (X → ⊥) → (Y → ⊥) → X ⊎ Y → ⊥
neither f g (inl x) = f x
neither f g (inr y) = g y

neither_of : {X Y Z : Type 0} → (X → ⊥) → (Y → ⊥) → (Z → ⊥) → X ⊎ (Y ⊎ Z) → ⊥
neither_of f g h (inl x) = f x
neither_of f g h (inr y) = neither g h y

-- a finding has one status
other : (f : Finding) (name another : StatusName) → status_of f ≡ name → (another ≡ name → ⊥) → status_of f ≡ another → ⊥
other f name another e apart is = apart (sym is ∙ e)

-- what the status of a report means
pub report_means : (report limit : Type 0) (before now : Option (List ℕ)) (f : Finding) (proofs : List Proof) (name : StatusName) →
    (status_of f ≡ status.Done) ⊎ ((status_of f ≡ status.Refused) ⊎ (status_of f ≡ status.Limit)) →
    (status_of f ≡ status.Done → Takes before now (finding_text f) → report) → (IsWrittenAs before now f proofs status.Limit → limit) → IsWrittenAs before now f proofs name → ReportMeans report limit name
report_means report limit before now f proofs status.Equal is done undecided w = neither_of (other f status.Equal status.Done w.1 (λ q. cc)) (other f status.Equal status.Refused w.1 (λ q. cc)) (other f status.Equal status.Limit w.1 (λ q. cc)) is
report_means report limit before now f proofs status.Different is done undecided w =
    neither_of (other f status.Different status.Done w.1 (λ q. cc)) (other f status.Different status.Refused w.1 (λ q. cc)) (other f status.Different status.Limit w.1 (λ q. cc)) is
report_means report limit before now f proofs status.NotShown is done undecided w =
    neither_of (other f status.NotShown status.Done w.1 (λ q. cc)) (other f status.NotShown status.Refused w.1 (λ q. cc)) (other f status.NotShown status.Limit w.1 (λ q. cc)) is
report_means report limit before now f proofs status.Limit is done undecided w = undecided w
report_means report limit before now f proofs status.Done is done undecided w = done w.1 w.2
report_means report limit before now f proofs status.Refused is done undecided w = tt
report_means report limit before now f proofs status.Words is done undecided w = tt
report_means report limit before now f proofs status.ReadFault is done undecided w = tt
report_means report limit before now f proofs status.WriteFault is done undecided w = tt
report_means report limit before now f proofs status.NoMemory is done undecided w = tt
report_means report limit before now f proofs status.Cyclic is done undecided w = tt

-- words that are no job say nothing
pub says_nothing : (before now : Option (List ℕ)) (f : Finding) (proofs : List Proof) (name : StatusName) → SaysNothing (status_of f) → IsWrittenAs before now f proofs name → SaysNothing name
says_nothing before now f proofs status.Equal h w = subst SaysNothing w.1 h
says_nothing before now f proofs status.Different h w = subst SaysNothing w.1 h
says_nothing before now f proofs status.NotShown h w = subst SaysNothing w.1 h
says_nothing before now f proofs status.Limit h w = subst SaysNothing w.1 h
says_nothing before now f proofs status.Done h w = subst SaysNothing w.1 h
says_nothing before now f proofs status.Refused h w = tt
says_nothing before now f proofs status.Words h w = tt
says_nothing before now f proofs status.ReadFault h w = tt
says_nothing before now f proofs status.WriteFault h w = tt
says_nothing before now f proofs status.NoMemory h w = tt
says_nothing before now f proofs status.Cyclic h w = tt

-- what is said of the status of a finding, and of want of memory, is said of a run that wrote the finding without a fault
pub by_finding : (P : StatusName → Type 0) (before now : Option (List ℕ)) (f : Finding) (proofs : List Proof) (name : StatusName) → IsWrittenAs before now f proofs name →
    (name ≡ status.WriteFault → ⊥) → P (status_of f) → P status.NoMemory → P name
by_finding P before now f proofs status.Equal w no_fault found memory = subst P w.1 found
by_finding P before now f proofs status.Different w no_fault found memory = subst P w.1 found
by_finding P before now f proofs status.NotShown w no_fault found memory = subst P w.1 found
by_finding P before now f proofs status.Limit w no_fault found memory = subst P w.1 found
by_finding P before now f proofs status.Refused w no_fault found memory = subst P w.1 found
by_finding P before now f proofs status.Words w no_fault found memory = subst P w.1 found
by_finding P before now f proofs status.ReadFault w no_fault found memory = absurd w
by_finding P before now f proofs status.WriteFault w no_fault found memory = absurd (no_fault refl)
by_finding P before now f proofs status.NoMemory w no_fault found memory = memory
by_finding P before now f proofs status.Cyclic w no_fault found memory = subst P w.1 found
by_finding P before now f proofs status.Done w no_fault found memory = subst P w.1 found

-- a finding that was written was read without a fault
pub no_read_fault : (before now : Option (List ℕ)) (f : Finding) (proofs : List Proof) (name : StatusName) → IsWrittenAs before now f proofs name → name ≡ status.ReadFault → ⊥
no_read_fault before now f proofs name w e = subst (IsWrittenAs before now f proofs) e w
