-- A comparison of a text with itself, and how it ends.
use Rattle.std.specs.Prelude.{◌≡◌, ℕ, Bool, true, false, List, Option, Some, None, IsSomeAnd}
use Rattle.circuit_theory.specs.declared.Mode.{Mode}
use Rattle.circuit_theory.specs.declared.Mode.TheVariants.{Plain, Event}
use Rattle.job_base.specs.declared.status.StatusName.{StatusName}
use Rattle.job_base.specs.declared.status.StatusName.TheVariants as status
use Rattle.command_line.specs.declared.task.Task.{Task}
use Rattle.command_line.specs.declared.task.Task.TheVariants as task
use Rattle.job_check.specs.check_meaning.check_found.Check.{Check}
use Rattle.job_base.specs.sec_files.job_files.Reading.{Held}

-- the comparison is in the plain mode, and over all power-ups
abbrev pub IsAlways : Mode → Bool → Type 0 → Type 0
IsAlways Plain false P = P
IsAlways Plain true P = ⊥
IsAlways Event reset P = ⊥

-- what is said of such a comparison that the job asks for
abbrev pub OfCheck : Option Task → (Check → Type 0) → Type 0
OfCheck (Some (task.Check a b settings None)) P = IsAlways settings.mode settings.reset (P (record { left = a; right = b; settings = settings; assumed = None }))
OfCheck other P = ⊥

-- what is said of a text that is held at both paths
abbrev pub OfOneText : Held → Check → (List ℕ → Type 0) → Type 0
OfOneText held check P = IsSomeAnd (held check.left) (λ x. (held check.right ≡ Some x) × P x)

-- equal, or want of memory
abbrev pub IsEqualAnswer : StatusName → Type 0
IsEqualAnswer status.Equal = Unit {0}
IsEqualAnswer status.NoMemory = Unit {0}
IsEqualAnswer other = ⊥
