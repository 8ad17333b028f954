-- What each job of the words keeps.
use Rattle.std.specs.Prelude.{◌≡◌, ◌≤◌, true, false, List, Some, IfSome}
use Rattle.clap.specs.Words.{Text}
use Rattle.circuit_theory.specs.declared.Mode.TheVariants.{Plain}
use Rattle.sec_base.specs.declared.limits.TheConstants.{MAX_CONFLICTS}
use Rattle.command_line.specs.Jobs.{job_of}
use Rattle.command_line.specs.declared.task.Task.{Task}
use Rattle.command_line.specs.declared.task.Task.TheVariants as task

-- at most 200,000 conflicts are allowed for a query, and at most 1,000 is the last cycle of a search; where runs begin with initial values no
-- latch is cut open, and the mode is plain
abbrev pub IsAllowed : Task → Type 0
IsAllowed (task.Check a b settings assumed) = (settings.conflicts ≤ MAX_CONFLICTS) × (settings.reset ≡ true → settings.expose ≡ false) × (settings.reset ≡ true → settings.mode ≡ Plain)
IsAllowed (task.CheckSettles a b settings assumed) = (settings.conflicts ≤ MAX_CONFLICTS) × (settings.reset ≡ false)
IsAllowed (task.CheckPair a b pair settings) = (settings.conflicts ≤ MAX_CONFLICTS) × (settings.reset ≡ true → settings.expose ≡ false) × (settings.reset ≡ true → settings.mode ≡ Plain)
IsAllowed (task.CheckRenamed a b pairs settings) = (settings.conflicts ≤ MAX_CONFLICTS) × (settings.expose ≡ true) × (settings.reset ≡ false)
IsAllowed (task.Graph a mode) = Unit {0}
IsAllowed (task.Sim a s mode power reset) = Unit {0}
IsAllowed (task.SimAfter a s rows power) = Unit {0}
IsAllowed (task.Replay a b s mode settles) = Unit {0}
IsAllowed (task.ReplayReset a b s settles) = Unit {0}
IsAllowed (task.ReplayAfter a b s rows settles) = Unit {0}
IsAllowed (task.Settle a b s mode) = Unit {0}
IsAllowed (task.Gen seed regroup conflicts) = conflicts ≤ MAX_CONFLICTS
IsAllowed (task.Lrat f l) = Unit {0}
IsAllowed (task.Cert a b pair lrat conflicts) = conflicts ≤ MAX_CONFLICTS
IsAllowed (task.Search a b cycles conflicts) = (conflicts ≤ MAX_CONFLICTS) × (cycles ≤ 1000)
IsAllowed (task.SearchUnder a b c cycles conflicts) = (conflicts ≤ MAX_CONFLICTS) × (cycles ≤ 1000)
IsAllowed (task.After a b s cycles conflicts) = (conflicts ≤ MAX_CONFLICTS) × IfSome cycles (λ last. last ≤ 1000)
IsAllowed (task.AfterUnder a b c s cycles conflicts) = (conflicts ≤ MAX_CONFLICTS) × (cycles ≤ 1000)
IsAllowed (task.Induct a b conflicts) = conflicts ≤ MAX_CONFLICTS
IsAllowed (task.InductSignals a b conflicts) = conflicts ≤ MAX_CONFLICTS
IsAllowed (task.InductUnder a b c conflicts) = conflicts ≤ MAX_CONFLICTS
IsAllowed (task.InductAfter a b s signals conflicts) = conflicts ≤ MAX_CONFLICTS
IsAllowed (task.InductAfterUnder a b c s conflicts) = conflicts ≤ MAX_CONFLICTS

-- a job of words is allowed
abbrev pub JobsAreAllowed : Type 0
JobsAreAllowed = (words : List Text) (job : Task) → job_of words ≡ Some job → IsAllowed job
