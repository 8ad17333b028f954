-- The report of a search under an assumption, as a function of both nets, of how they were searched and of what was found.
use Rattle.std.specs.Prelude.{ℕ, ◌+◌, ◌<◌, List, [], ◌∷◌, ◌++◌, length, codes, Bool, true, false, nat_lt, Option, Some, None}
use Rattle.std.specs.Fmt.{decimal}
use Rattle.std.specs.List.{flat_map}
use Rattle.circuit_theory.specs.Interface.{shared_inputs}
use Rattle.flat_net.specs.View.{NetView, ports_of}
use Rattle.cycle_search.specs.declared.found.Searched.{Searched}
use Rattle.cycle_search.specs.declared.found.SearchVerdict.{SearchVerdict}
use Rattle.cycle_search.specs.declared.found.SearchVerdict.TheVariants as verdict
use Rattle.cycle_search.specs.search_report.Report.{counts_text, pair_line, verdict_text}

-- the lines of the counts, of the start and of the assumption
abbrev pub head_text : NetView → NetView → List ℕ → List ℕ
head_text a b name = counts_text (length (shared_inputs (ports_of a) (ports_of b))) (length a.latches) (length b.latches) ++ (codes "reset\nassume " ++ name ++ 10 ∷ [])

-- the lines of the last cycle that is wanted, and that no latch is cut open
abbrev pub cycles_text : ℕ → List ℕ
cycles_text cycles = codes "cycles " ++ decimal cycles ++ codes "\nexposed 0\n"

-- the line of the assumption that is too large in the next cycle, where the last is below the wanted one
abbrev pub over_line : Bool → ℕ → List ℕ
over_line false last = []
over_line true last = codes "too-large C cycle " ++ decimal (last + 1) ++ 10 ∷ []

-- where the search stopped before the wanted cycle because of the assumption
abbrev pub stop_text : ℕ → ℕ → SearchVerdict → List ℕ
stop_text cycles last (verdict.NoDifference None) = over_line (nat_lt last cycles) last
stop_text cycles last other = []

-- what stands before the verdict
abbrev pub under_front : NetView → NetView → List ℕ → ℕ → Searched → List ℕ
under_front a b name cycles s = head_text a b name ++ cycles_text cycles ++ flat_map pair_line s.pairs ++ stop_text cycles s.last s.verdict

-- the whole report
abbrev pub searched_text : NetView → NetView → List ℕ → ℕ → ℕ → Searched → List ℕ
searched_text a b name cycles conflicts s = under_front a b name cycles s ++ verdict_text conflicts s.last s.verdict

-- the report where it wasn't decided whether some inputs meet the assumption
abbrev pub undecided_text : NetView → NetView → List ℕ → ℕ → List ℕ
undecided_text a b name conflicts = head_text a b name ++ (codes "verdict limit assume conflicts " ++ decimal conflicts ++ 10 ∷ [])
