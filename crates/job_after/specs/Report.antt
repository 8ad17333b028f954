-- The report, as a function of both nets, of what is known of them behind the rows, and of what was found.
use Rattle.std.specs.Prelude.{ℕ, Bool, List, [], ◌∷◌, ◌++◌, codes, Option, Some, None}
use Rattle.std.specs.Fmt.{decimal}
use Rattle.flat_net.specs.View.{NetView}
use Rattle.restart.specs.Report.{after_line, unknown_line}
use Rattle.witness_report.specs.Text.{stimulus_text}
use Rattle.witness_report.specs.declared.witness.PairName.{PairName}
use Rattle.witness_report.specs.declared.witness.Witness.{Witness}
use Rattle.obligations.specs.outcome.Report.{pair_text}
use Rattle.cycle_search.specs.declared.found.Searched.{Searched}
use Rattle.cycle_search.specs.declared.found.SearchVerdict.{SearchVerdict}
use Rattle.cycle_search.specs.declared.found.SearchVerdict.TheVariants as verdict
use Rattle.cycle_search.specs.search_report.Report.{values_text, verdict_text, front_text}

-- how many rows the stimulus has, and what isn't known of both nets behind them
abbrev pub begun_text : NetView → NetView → ℕ → List (Option Bool) → List (Option Bool) → List ℕ
begun_text a b rows left right = after_line rows ++ unknown_line (codes "unknown A ") a left ++ unknown_line (codes "unknown B ") b right

-- a difference with its sequence
abbrev pub sequence_text : Witness → List ℕ
sequence_text w = codes "verdict different " ++ pair_text w.pair ++ values_text w ++ stimulus_text w.stimulus.names w.stimulus.rows

-- a pair whose functions differ in a cycle behind the rows, of which nothing is shown
abbrev pub unshown_text : PairName → ℕ → List ℕ
unshown_text pair cycle = codes "verdict not-shown unknown " ++ pair_text pair ++ codes " cycle " ++ decimal cycle ++ 10 ∷ []

-- the verdict, with what shows it
abbrev pub found_text : ℕ → ℕ → SearchVerdict → List ℕ
found_text conflicts last (verdict.Different w) = unshown_text w.witness.pair last
found_text conflicts last other = verdict_text conflicts last other

abbrev pub shown_text : ℕ → Searched → Option Witness → List ℕ
shown_text conflicts s (Some w) = sequence_text w
shown_text conflicts s None = found_text conflicts s.last s.verdict

-- the whole report
abbrev pub after_text : NetView → NetView → ℕ → ℕ → ℕ → List (Option Bool) → List (Option Bool) → Option Witness → Searched → List ℕ
after_text a b cycles conflicts rows left right shown s =
    begun_text a b rows left right ++ front_text a b cycles s ++ shown_text conflicts s shown
