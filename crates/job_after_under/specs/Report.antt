-- The report, as a function of both nets as they begin behind the rows, of what is known of them there, and of what was found.
use Rattle.std.specs.Prelude.{ℕ, Bool, List, ◌++◌, Option}
use Rattle.flat_net.specs.View.{NetView}
use Rattle.witness_report.specs.declared.witness.Witness.{Witness}
use Rattle.cycle_search.specs.declared.found.Searched.{Searched}
use Rattle.job_after.specs.Report.{begun_text, shown_text}
use Rattle.job_under.specs.Report.{under_front, undecided_text}

-- the whole report
abbrev pub behind_text : NetView → NetView → List ℕ → ℕ → ℕ → ℕ → List (Option Bool) → List (Option Bool) → Option Witness → Searched → List ℕ
behind_text a b name cycles conflicts rows left right shown s = begun_text a b rows left right ++ under_front a b name cycles s ++ shown_text conflicts s shown

-- the report where it wasn't decided whether some inputs meet the assumption
abbrev pub undecided_behind : NetView → NetView → List ℕ → ℕ → ℕ → List (Option Bool) → List (Option Bool) → List ℕ
undecided_behind a b name conflicts rows left right = begun_text a b rows left right ++ undecided_text a b name conflicts
