-- What a run promises of its job. Each definition has a case for each job, or follows from the paths that the job reads.
use Rattle.std.specs.Prelude.{ℕ, List, Option, Some, None}
use Rattle.command_line.specs.declared.task.Task.{Task}
use Rattle.command_line.specs.declared.task.Task.TheVariants as task
use Rattle.pair_decide.specs.declared.query.Proof.{Proof}
use Rattle.job_base.specs.Meaning.{SaysNothing, EndsWith}
use Rattle.job_base.specs.declared.status.StatusName.{StatusName}
use Rattle.job_base.specs.declared.status.StatusName.TheVariants as status
use Rattle.job_cert.specs.sec_files.Reading.{Held}
use Rattle.job_circuit.specs.Reports.{GraphMeans, SimMeans, IsGraphComplete, IsSimComplete}
use Rattle.job_circuit.specs.SimBehind.{SimBehindMeans, IsSimBehindComplete}
use Rattle.job_circuit.specs.job_replay.Replays.{ReplayMeans, IsReplayComplete}
use Rattle.job_circuit.specs.declared.job_replay.replays.ReplayReport.TheVariants as told
use Rattle.job_circuit.specs.job_replay.Told.{report_with}
use Rattle.job_known.specs.Answer.{ResetMeans, BehindMeans, IsResetComplete, IsBehindComplete}
use Rattle.job_check.specs.check_meaning.Answer.{CheckMeans, IsCheckComplete}
use Rattle.job_pair.specs.Answer.{PairMeans, IsPairComplete}
use Rattle.job_pair.specs.Found.{check_of}
use Rattle.job_pair.specs.job_renamed.Answer.{RenamedMeans, IsRenamedComplete}
use Rattle.job_settles.specs.Answer.{SettlesMeans}
use Rattle.job_signals.specs.Answer.{SignalsMeans}
use Rattle.job_signals.specs.job_begun.Answer.{BegunMeans, IsBegunComplete}
use Rattle.job_under.specs.Answer.{UnderMeans, IsUnderComplete}
use Rattle.job_under.specs.ties.Answer.{TiesMean, AreTiesComplete}
use Rattle.job_gen.specs.gen_meaning.Answer.{GenMeans, IsGenAnswer}
use Rattle.job_cert.specs.job_lrat.Answer.{LratMeans, IsLratComplete}
use Rattle.job_cert.specs.Answer.{CertMeans, IsCertComplete}
use Rattle.job_after.specs.Answer.{AfterMeans, IsAfterComplete}
use Rattle.job_after_under.specs.Answer.{AfterUnderMeans, IsAfterUnderComplete}
use Rattle.job_after_under.specs.ties.Answer.{TiesBehindMean, AreTiesBehindComplete}
use Rattle.sec_jobs.specs.job_induct.induct_meaning.Answer.{InductMeans, IsInductComplete}
use Rattle.sec_jobs.specs.job_search.search_meaning.Answer.{SearchMeans, IsSearchComplete}

-- What the status says of the job, with the proofs that the run ends with and what was written before and is now.
abbrev pub Means : Held → Option Task → Option (List ℕ) → Option (List ℕ) → List Proof → StatusName → Type 0
Means held None before now proofs name = SaysNothing name
Means held (Some (task.Check a b settings assumed)) before now proofs name = CheckMeans held (record { left = a; right = b; settings = settings; assumed = assumed }) before now proofs name
Means held (Some (task.CheckSettles a b settings assumed)) before now proofs name = SettlesMeans held (record { left = a; right = b; settings = settings; assumed = assumed }) before now proofs name
Means held (Some (task.CheckPair a b pair settings)) before now proofs name = PairMeans held pair (check_of settings a b) before now proofs name
Means held (Some (task.CheckRenamed a b pairs settings)) before now proofs name = RenamedMeans held (check_of settings a b) pairs before now proofs name
Means held (Some (task.Graph a mode)) before now proofs name = GraphMeans mode (held a) before now proofs name
Means held (Some (task.Sim a s mode power reset)) before now proofs name = SimMeans mode (held a) (held s) power reset before now proofs name
Means held (Some (task.SimAfter a s rows power)) before now proofs name = SimBehindMeans (held a) (held rows) (held s) power before now name
Means held (Some (task.Replay a b s mode settles)) before now proofs name = ReplayMeans (report_with settles) mode (held a) (held b) (held s) before now proofs name
Means held (Some (task.ReplayReset a b s settles)) before now proofs name = ResetMeans settles (held a) (held b) (held s) before now name
Means held (Some (task.ReplayAfter a b s rows settles)) before now proofs name = BehindMeans settles (held a) (held b) (held rows) (held s) before now name
Means held (Some (task.Settle a b s mode)) before now proofs name = ReplayMeans told.Settled mode (held a) (held b) (held s) before now proofs name
Means held (Some (task.Gen seed regroup conflicts)) before now proofs name = GenMeans (record { seed = seed; regroup = regroup; conflicts = conflicts }) before now proofs name
Means held (Some (task.Lrat f l)) before now proofs name = LratMeans (held f) (held l) before now name
Means held (Some (task.Cert a b pair lrat conflicts)) before now proofs name = CertMeans (record { pair = pair; refuted = lrat; conflicts = conflicts }) (held a) (held b) before now proofs name
Means held (Some (task.Search a b cycles conflicts)) before now proofs name = SearchMeans cycles conflicts (held a) (held b) before now proofs name
Means held (Some (task.SearchUnder a b c cycles conflicts)) before now proofs name = UnderMeans cycles conflicts (held a) (held b) (held c) before now proofs name
Means held (Some (task.After a b s cycles conflicts)) before now proofs name = AfterMeans cycles conflicts (held a) (held b) (held s) before now proofs name
Means held (Some (task.AfterUnder a b c s cycles conflicts)) before now proofs name = AfterUnderMeans cycles conflicts (held a) (held b) (held c) (held s) before now proofs name
Means held (Some (task.Induct a b conflicts)) before now proofs name = InductMeans conflicts (held a) (held b) before now proofs name
Means held (Some (task.InductSignals a b conflicts)) before now proofs name = SignalsMeans (held a) (held b) before now proofs name
Means held (Some (task.InductUnder a b c conflicts)) before now proofs name = TiesMean conflicts (held a) (held b) (held c) before now proofs name
Means held (Some (task.InductAfter a b s signals conflicts)) before now proofs name = BegunMeans signals conflicts (held a) (held b) (held s) before now proofs name
Means held (Some (task.InductAfterUnder a b c s conflicts)) before now proofs name = TiesBehindMean conflicts (held a) (held b) (held c) (held s) before now proofs name

-- Where the job can be done, it ends so, if no read and no write fails; words that are no job are told.
abbrev pub IsComplete : Held → Option Task → StatusName → Type 0
IsComplete held None name = EndsWith status.Words name
IsComplete held (Some (task.Check a b settings assumed)) name = IsCheckComplete held (record { left = a; right = b; settings = settings; assumed = assumed }) name
IsComplete held (Some (task.CheckSettles a b settings assumed)) name = IsCheckComplete held (record { left = a; right = b; settings = settings; assumed = assumed }) name
IsComplete held (Some (task.CheckPair a b pair settings)) name = IsPairComplete held pair (check_of settings a b) name
IsComplete held (Some (task.CheckRenamed a b pairs settings)) name = IsRenamedComplete held (check_of settings a b) pairs name
IsComplete held (Some (task.Graph a mode)) name = IsGraphComplete mode (held a) name
IsComplete held (Some (task.Sim a s mode power reset)) name = IsSimComplete mode (held a) (held s) power name
IsComplete held (Some (task.SimAfter a s rows power)) name = IsSimBehindComplete (held a) (held rows) (held s) power name
IsComplete held (Some (task.Replay a b s mode settles)) name = IsReplayComplete (report_with settles) mode (held a) (held b) (held s) name
IsComplete held (Some (task.ReplayReset a b s settles)) name = IsResetComplete settles (held a) (held b) (held s) name
IsComplete held (Some (task.ReplayAfter a b s rows settles)) name = IsBehindComplete settles (held a) (held b) (held rows) (held s) name
IsComplete held (Some (task.Settle a b s mode)) name = IsReplayComplete told.Settled mode (held a) (held b) (held s) name
IsComplete held (Some (task.Gen seed regroup conflicts)) name = IsGenAnswer name
IsComplete held (Some (task.Lrat f l)) name = IsLratComplete (held f) (held l) name
IsComplete held (Some (task.Cert a b pair lrat conflicts)) name = IsCertComplete (record { pair = pair; refuted = lrat; conflicts = conflicts }) (held a) (held b) name
IsComplete held (Some (task.Search a b cycles conflicts)) name = IsSearchComplete (held a) (held b) name
IsComplete held (Some (task.SearchUnder a b c cycles conflicts)) name = IsUnderComplete cycles conflicts (held a) (held b) (held c) name
IsComplete held (Some (task.After a b s cycles conflicts)) name = IsAfterComplete cycles (held a) (held b) (held s) name
IsComplete held (Some (task.AfterUnder a b c s cycles conflicts)) name = IsAfterUnderComplete cycles conflicts (held a) (held b) (held c) (held s) name
IsComplete held (Some (task.Induct a b conflicts)) name = IsInductComplete (held a) (held b) name
IsComplete held (Some (task.InductSignals a b conflicts)) name = IsInductComplete (held a) (held b) name
IsComplete held (Some (task.InductUnder a b c conflicts)) name = AreTiesComplete conflicts (held a) (held b) (held c) name
IsComplete held (Some (task.InductAfter a b s signals conflicts)) name = IsBegunComplete (held a) (held b) (held s) name
IsComplete held (Some (task.InductAfterUnder a b c s conflicts)) name = AreTiesBehindComplete conflicts (held a) (held b) (held c) (held s) name
