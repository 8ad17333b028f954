-- What statuses say of any job.
use Rattle.std.specs.Prelude.{◌≡◌, ◌⊎◌}
use Rattle.job_base.specs.declared.status.StatusName.{StatusName}
use Rattle.job_base.specs.declared.status.StatusName.TheVariants as status

-- the status is no verdict, no report and no limit
abbrev pub SaysNothing : StatusName → Type 0
SaysNothing status.Equal = ⊥
SaysNothing status.Different = ⊥
SaysNothing status.NotShown = ⊥
SaysNothing status.Limit = ⊥
SaysNothing status.Done = ⊥
SaysNothing other = Unit {0}

-- What the status of a report on circuits says, which is no verdict: it is taken whole, or the limit of a query is told in its place.
abbrev pub ReportMeans : Type 0 → Type 0 → StatusName → Type 0
ReportMeans report limit status.Equal = ⊥
ReportMeans report limit status.Different = ⊥
ReportMeans report limit status.NotShown = ⊥
ReportMeans report limit status.Limit = limit
ReportMeans report limit status.Done = report
ReportMeans report limit other = Unit {0}

-- this status, or want of memory
abbrev pub EndsWith : StatusName → StatusName → Type 0
EndsWith wanted name = (name ≡ wanted) ⊎ (name ≡ status.NoMemory)
