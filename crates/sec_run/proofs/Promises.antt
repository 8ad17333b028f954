-- What a run promises of its job, from what was found and written.
use Rattle.std.proofs.Common.{◌≡◌, ℕ, List, refl, sym, subst, ap, inl, inr, Option, Some, None}
use Rattle.command_line.specs.declared.task.Task.{Task}
use Rattle.command_line.specs.declared.task.Task.TheVariants as task
use Rattle.pair_decide.specs.declared.query.Proof.{Proof}
use Rattle.job_base.specs.declared.finding.Finding.{Finding}
use Rattle.job_base.specs.declared.status.StatusName.{StatusName}
use Rattle.job_base.specs.declared.status.StatusName.TheVariants as status
use Rattle.job_base.specs.Written.{status_of, IsWrittenAs}
use Rattle.job_base.specs.Meaning.{SaysNothing}
use Rattle.job_base.proofs.Meaning.{says_nothing, by_finding}
use Rattle.job_cert.specs.sec_files.Reading.{Held}
use Rattle.job_circuit.specs.declared.job_replay.replays.ReplayReport.TheVariants as told
use Rattle.job_circuit.specs.job_replay.Told.{report_with}
use Rattle.job_circuit.proofs.Means.{graph_means, sim_means}
use Rattle.job_circuit.proofs.CompleteReports.{graph_complete, sim_complete}
use Rattle.job_circuit.proofs.SimBehindFinds.{sim_behind_means, sim_behind_complete}
use Rattle.job_circuit.proofs.job_replay.Means.{replay_means}
use Rattle.job_circuit.proofs.job_replay.CompleteReplays.{replay_complete}
use Rattle.job_known.proofs.Means.{reset_means, behind_means}
use Rattle.job_known.proofs.Complete.{reset_complete, behind_complete}
use Rattle.job_check.proofs.check_meaning.Complete.{check_complete}
use Rattle.job_check.proofs.check_meaning.Means.{check_means}
use Rattle.job_pair.proofs.Means.{pair_means}
use Rattle.job_pair.proofs.Complete.{pair_complete}
use Rattle.job_pair.proofs.job_renamed.Means.{renamed_means}
use Rattle.job_pair.proofs.job_renamed.Complete.{renamed_complete}
use Rattle.job_pair.specs.Found.{check_of}
use Rattle.job_settles.proofs.Means.{settles_means, settles_complete}
use Rattle.job_signals.proofs.Means.{signals_means}
use Rattle.job_under.proofs.Means.{under_means}
use Rattle.job_under.proofs.Complete.{under_complete}
use Rattle.job_under.proofs.ties.Means.{ties_mean}
use Rattle.job_under.proofs.ties.Complete.{ties_complete}
use Rattle.job_signals.proofs.job_begun.Means.{begun_means}
use Rattle.job_signals.proofs.Complete.{signals_complete}
use Rattle.job_signals.proofs.job_begun.Complete.{begun_complete}
use Rattle.job_gen.proofs.gen_meaning.Means.{gen_means, gen_complete}
use Rattle.job_cert.proofs.job_lrat.Means.{lrat_means, lrat_complete}
use Rattle.job_cert.proofs.Means.{cert_means}
use Rattle.job_cert.proofs.Complete.{cert_complete, memory_cert}
use Rattle.sec_jobs.proofs.job_induct.induct_meaning.Means.{induct_means}
use Rattle.sec_jobs.proofs.job_induct.induct_meaning.Complete.{induct_complete}
use Rattle.sec_jobs.proofs.job_search.search_meaning.Means.{search_means}
use Rattle.sec_jobs.proofs.job_search.search_meaning.Complete.{search_complete}
use Rattle.job_after.proofs.Means.{after_means}
use Rattle.job_after.proofs.Complete.{after_complete}
use Rattle.job_after_under.proofs.Means.{after_under_means}
use Rattle.job_after_under.proofs.Complete.{after_under_complete}
use Rattle.job_after_under.proofs.ties.Means.{ties_behind_mean}
use Rattle.job_after_under.proofs.ties.Complete.{ties_behind_complete}
use Rattle.sec_run.specs.Answer.{IsFinding}
use Rattle.sec_run.specs.Promises.{Means, IsComplete}

-- what a written finding means
pub means : (held : Held) (job : Option Task) (before now : Option (List ℕ)) (f : Finding) (proofs : List Proof) (name : StatusName) →
    IsFinding held job f → IsWrittenAs before now f proofs name → Means held job before now proofs name
means held None before now f proofs name found w = says_nothing before now f proofs name (subst (λ (g : Finding). SaysNothing (status_of g)) (sym found) tt) w
means held (Some (task.Check a b settings assumed)) before now f proofs name found w = check_means held (record { left = a; right = b; settings = settings; assumed = assumed }) before now f proofs name found w
means held (Some (task.CheckSettles a b settings assumed)) before now f proofs name found w = settles_means held (record { left = a; right = b; settings = settings; assumed = assumed }) before now f proofs name found w
means held (Some (task.CheckPair a b pair settings)) before now f proofs name found w = pair_means held pair (check_of settings a b) before now proofs f name found w
means held (Some (task.CheckRenamed a b pairs settings)) before now f proofs name found w = renamed_means held (check_of settings a b) pairs before now proofs f name found w
means held (Some (task.Graph a mode)) before now f proofs name found w = graph_means mode (held a) before now f proofs name found w
means held (Some (task.Sim a s mode power reset)) before now f proofs name found w = sim_means mode (held a) (held s) power reset before now f proofs name found w
means held (Some (task.SimAfter a s rows power)) before now f proofs name found w = sim_behind_means (held a) (held rows) (held s) power before now f proofs name found w
means held (Some (task.Replay a b s mode settles)) before now f proofs name found w = replay_means (report_with settles) mode (held a) (held b) (held s) before now f proofs name found w
means held (Some (task.ReplayReset a b s settles)) before now f proofs name found w = reset_means settles (held a) (held b) (held s) before now f proofs name found w
means held (Some (task.ReplayAfter a b s rows settles)) before now f proofs name found w = behind_means settles (held a) (held b) (held rows) (held s) before now f proofs name found w
means held (Some (task.Settle a b s mode)) before now f proofs name found w = replay_means told.Settled mode (held a) (held b) (held s) before now f proofs name found w
means held (Some (task.Gen seed regroup conflicts)) before now f proofs name found w = gen_means (record { seed = seed; regroup = regroup; conflicts = conflicts }) before now f proofs name found w
means held (Some (task.Lrat f l)) before now found proofs name is w = lrat_means (held f) (held l) before now found proofs name is w
means held (Some (task.Cert a b pair lrat conflicts)) before now f proofs name found w = cert_means (record { pair = pair; refuted = lrat; conflicts = conflicts }) (held a) (held b) before now f proofs name found w
means held (Some (task.Search a b cycles conflicts)) before now f proofs name found w = search_means cycles conflicts (held a) (held b) before now f proofs name found w
means held (Some (task.SearchUnder a b c cycles conflicts)) before now f proofs name found w = under_means cycles conflicts (held a) (held b) (held c) before now f proofs name found w
means held (Some (task.After a b s cycles conflicts)) before now f proofs name found w = after_means cycles conflicts (held a) (held b) (held s) before now f proofs name found w
means held (Some (task.AfterUnder a b c s cycles conflicts)) before now f proofs name found w = after_under_means cycles conflicts (held a) (held b) (held c) (held s) before now f proofs name found w
means held (Some (task.Induct a b conflicts)) before now f proofs name found w = induct_means conflicts (held a) (held b) before now f proofs name found w
means held (Some (task.InductSignals a b conflicts)) before now f proofs name found w = signals_means (held a) (held b) before now f proofs name found w
means held (Some (task.InductUnder a b c conflicts)) before now f proofs name found w = ties_mean conflicts (held a) (held b) (held c) before now f proofs name found w
means held (Some (task.InductAfter a b s signals conflicts)) before now f proofs name found w = begun_means conflicts (held a) (held b) (held s) before now signals f proofs name found w
means held (Some (task.InductAfterUnder a b c s conflicts)) before now f proofs name found w = ties_behind_mean conflicts (held a) (held b) (held c) (held s) before now f proofs name found w

-- a run that ends before it has found anything says nothing
pub memory_means : (held : Held) (job : Option Task) (before now : Option (List ℕ)) (proofs : List Proof) → Means held job before now proofs status.NoMemory
memory_means held None before now proofs = tt
memory_means held (Some (task.Check a b settings assumed)) before now proofs = tt
memory_means held (Some (task.CheckSettles a b settings assumed)) before now proofs = tt
memory_means held (Some (task.CheckPair a b pair settings)) before now proofs = tt
memory_means held (Some (task.CheckRenamed a b pairs settings)) before now proofs = tt
memory_means held (Some (task.Graph a mode)) before now proofs = tt
memory_means held (Some (task.Sim a s mode power reset)) before now proofs = tt
memory_means held (Some (task.SimAfter a s rows power)) before now proofs = tt
memory_means held (Some (task.Replay a b s mode settles)) before now proofs = tt
memory_means held (Some (task.ReplayReset a b s settles)) before now proofs = tt
memory_means held (Some (task.ReplayAfter a b s rows settles)) before now proofs = tt
memory_means held (Some (task.Settle a b s mode)) before now proofs = tt
memory_means held (Some (task.Gen seed regroup conflicts)) before now proofs = tt
memory_means held (Some (task.Lrat f l)) before now proofs = tt
memory_means held (Some (task.Cert a b pair lrat conflicts)) before now proofs = tt
memory_means held (Some (task.Search a b cycles conflicts)) before now proofs = tt
memory_means held (Some (task.SearchUnder a b c cycles conflicts)) before now proofs = tt
memory_means held (Some (task.After a b s cycles conflicts)) before now proofs = tt
memory_means held (Some (task.AfterUnder a b c s cycles conflicts)) before now proofs = tt
memory_means held (Some (task.Induct a b conflicts)) before now proofs = tt
memory_means held (Some (task.InductSignals a b conflicts)) before now proofs = tt
memory_means held (Some (task.InductUnder a b c conflicts)) before now proofs = tt
memory_means held (Some (task.InductAfter a b s signals conflicts)) before now proofs = tt
memory_means held (Some (task.InductAfterUnder a b c s conflicts)) before now proofs = tt

pub fault_means : (held : Held) (job : Option Task) (before now : Option (List ℕ)) (proofs : List Proof) → Means held job before now proofs status.ReadFault
fault_means held None before now proofs = tt
fault_means held (Some (task.Check a b settings assumed)) before now proofs = tt
fault_means held (Some (task.CheckSettles a b settings assumed)) before now proofs = tt
fault_means held (Some (task.CheckPair a b pair settings)) before now proofs = tt
fault_means held (Some (task.CheckRenamed a b pairs settings)) before now proofs = tt
fault_means held (Some (task.Graph a mode)) before now proofs = tt
fault_means held (Some (task.Sim a s mode power reset)) before now proofs = tt
fault_means held (Some (task.SimAfter a s rows power)) before now proofs = tt
fault_means held (Some (task.Replay a b s mode settles)) before now proofs = tt
fault_means held (Some (task.ReplayReset a b s settles)) before now proofs = tt
fault_means held (Some (task.ReplayAfter a b s rows settles)) before now proofs = tt
fault_means held (Some (task.Settle a b s mode)) before now proofs = tt
fault_means held (Some (task.Gen seed regroup conflicts)) before now proofs = tt
fault_means held (Some (task.Lrat f l)) before now proofs = tt
fault_means held (Some (task.Cert a b pair lrat conflicts)) before now proofs = tt
fault_means held (Some (task.Search a b cycles conflicts)) before now proofs = tt
fault_means held (Some (task.SearchUnder a b c cycles conflicts)) before now proofs = tt
fault_means held (Some (task.After a b s cycles conflicts)) before now proofs = tt
fault_means held (Some (task.AfterUnder a b c s cycles conflicts)) before now proofs = tt
fault_means held (Some (task.Induct a b conflicts)) before now proofs = tt
fault_means held (Some (task.InductSignals a b conflicts)) before now proofs = tt
fault_means held (Some (task.InductUnder a b c conflicts)) before now proofs = tt
fault_means held (Some (task.InductAfter a b s signals conflicts)) before now proofs = tt
fault_means held (Some (task.InductAfterUnder a b c s conflicts)) before now proofs = tt

-- a job that can be done is done, by what is found of it
is_complete : (held : Held) (job : Option Task) (f : Finding) → IsFinding held job f → IsComplete held job (status_of f)
is_complete held None f found = inl (ap status_of found)
is_complete held (Some (task.Check a b settings assumed)) f found = check_complete held (record { left = a; right = b; settings = settings; assumed = assumed }) f found
is_complete held (Some (task.CheckSettles a b settings assumed)) f found = settles_complete held (record { left = a; right = b; settings = settings; assumed = assumed }) f found
is_complete held (Some (task.CheckPair a b pair settings)) f found = pair_complete held pair settings a b f found
is_complete held (Some (task.CheckRenamed a b pairs settings)) f found = renamed_complete held settings a b pairs f found
is_complete held (Some (task.Graph a mode)) f found = graph_complete mode (held a) f found
is_complete held (Some (task.Sim a s mode power reset)) f found = sim_complete mode (held a) (held s) power reset f found
is_complete held (Some (task.SimAfter a s rows power)) f found = sim_behind_complete (held a) (held rows) (held s) power f found
is_complete held (Some (task.Replay a b s mode settles)) f found = replay_complete (report_with settles) mode (held a) (held b) (held s) f found
is_complete held (Some (task.ReplayReset a b s settles)) f found = reset_complete settles (held a) (held b) (held s) f found
is_complete held (Some (task.ReplayAfter a b s rows settles)) f found = behind_complete settles (held a) (held b) (held rows) (held s) f found
is_complete held (Some (task.Settle a b s mode)) f found = replay_complete told.Settled mode (held a) (held b) (held s) f found
is_complete held (Some (task.Gen seed regroup conflicts)) f found = gen_complete (record { seed = seed; regroup = regroup; conflicts = conflicts }) f found
is_complete held (Some (task.Lrat f l)) found is = lrat_complete (held f) (held l) found is
is_complete held (Some (task.Cert a b pair lrat conflicts)) f found = cert_complete (record { pair = pair; refuted = lrat; conflicts = conflicts }) (held a) (held b) f found
is_complete held (Some (task.Search a b cycles conflicts)) f found = search_complete cycles conflicts (held a) (held b) f found
is_complete held (Some (task.SearchUnder a b c cycles conflicts)) f found = under_complete cycles conflicts (held a) (held b) (held c) f found
is_complete held (Some (task.After a b s cycles conflicts)) f found = after_complete cycles conflicts (held a) (held b) (held s) f found
is_complete held (Some (task.AfterUnder a b c s cycles conflicts)) f found = after_under_complete cycles conflicts (held a) (held b) (held c) (held s) f found
is_complete held (Some (task.Induct a b conflicts)) f found = induct_complete conflicts (held a) (held b) f found
is_complete held (Some (task.InductSignals a b conflicts)) f found = signals_complete (held a) (held b) f found
is_complete held (Some (task.InductUnder a b c conflicts)) f found = ties_complete conflicts (held a) (held b) (held c) f found
is_complete held (Some (task.InductAfter a b s signals conflicts)) f found = begun_complete signals conflicts (held a) (held b) (held s) f found
is_complete held (Some (task.InductAfterUnder a b c s conflicts)) f found = ties_behind_complete conflicts (held a) (held b) (held c) (held s) f found

-- so is one that ends at want of memory
pub memory_is_complete : (held : Held) (job : Option Task) → IsComplete held job status.NoMemory
memory_is_complete held None = inr refl
memory_is_complete held (Some (task.Check a b settings assumed)) = λ can. tt
memory_is_complete held (Some (task.CheckSettles a b settings assumed)) = λ can. tt
memory_is_complete held (Some (task.CheckPair a b pair settings)) = λ can. tt
memory_is_complete held (Some (task.CheckRenamed a b pairs settings)) = λ can. tt
memory_is_complete held (Some (task.Graph a mode)) = λ can. tt
memory_is_complete held (Some (task.Sim a s mode power reset)) = λ can. tt
memory_is_complete held (Some (task.SimAfter a s rows power)) = λ can. inr refl
memory_is_complete held (Some (task.Replay a b s mode settles)) = λ can. tt
memory_is_complete held (Some (task.ReplayReset a b s settles)) = λ can. tt
memory_is_complete held (Some (task.ReplayAfter a b s rows settles)) = λ can. tt
memory_is_complete held (Some (task.Settle a b s mode)) = λ can. tt
memory_is_complete held (Some (task.Gen seed regroup conflicts)) = tt
memory_is_complete held (Some (task.Lrat f l)) = λ can. inr refl
memory_is_complete held (Some (task.Cert a b pair lrat conflicts)) = memory_cert (record { pair = pair; refuted = lrat; conflicts = conflicts }) (held a) (held b)
memory_is_complete held (Some (task.Search a b cycles conflicts)) = λ can. tt
memory_is_complete held (Some (task.SearchUnder a b c cycles conflicts)) = λ can. tt
memory_is_complete held (Some (task.After a b s cycles conflicts)) = λ can. tt
memory_is_complete held (Some (task.AfterUnder a b c s cycles conflicts)) = λ can. tt
memory_is_complete held (Some (task.Induct a b conflicts)) = λ can. tt
memory_is_complete held (Some (task.InductSignals a b conflicts)) = λ can. tt
memory_is_complete held (Some (task.InductUnder a b c conflicts)) = λ can. tt
memory_is_complete held (Some (task.InductAfter a b s signals conflicts)) = λ can. tt
memory_is_complete held (Some (task.InductAfterUnder a b c s conflicts)) = λ can. tt

-- so a run is complete that ends with a finding, or at want of memory
pub written_is_complete : (held : Held) (job : Option Task) (before now : Option (List ℕ)) (f : Finding) (proofs : List Proof) (name : StatusName) →
    IsFinding held job f → IsWrittenAs before now f proofs name → (name ≡ status.WriteFault → ⊥) → IsComplete held job name
written_is_complete held job before now f proofs name found w no_fault =
    by_finding (IsComplete held job) before now f proofs name w no_fault (is_complete held job f found) (memory_is_complete held job)
