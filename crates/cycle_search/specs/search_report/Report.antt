-- The report of a search, as a function of both nets, of how they were searched and of what was found.
use Rattle.std.specs.Prelude.{ℕ, ◌+◌, List, [], ◌∷◌, ◌++◌, length, codes, Option, Some, None}
use Rattle.std.specs.Fmt.{decimal}
use Rattle.std.specs.List.{flat_map}
use Rattle.circuit_theory.specs.declared.Side.{Side}
use Rattle.circuit_theory.specs.declared.Side.TheVariants.{A, B}
use Rattle.circuit_theory.specs.Interface.{shared_inputs}
use Rattle.sec_base.specs.Texts.{digit_of}
use Rattle.flat_net.specs.View.{NetView, ports_of}
use Rattle.witness_report.specs.Text.{stimulus_text, row_line}
use Rattle.witness_report.specs.declared.witness.Witness.{Witness}
use Rattle.obligations.specs.declared.outcome.verdict.PairResult.{PairResult}
use Rattle.obligations.specs.declared.outcome.verdict.ResetWitness.{ResetWitness}
use Rattle.obligations.specs.outcome.Report.{answer_word, pair_text}
use Rattle.cycle_search.specs.declared.found.SearchVerdict.{SearchVerdict}
use Rattle.cycle_search.specs.declared.found.SearchVerdict.TheVariants as verdict
use Rattle.cycle_search.specs.declared.found.Searched.{Searched}

-- the lines of the counts
abbrev pub counts_text : ℕ → ℕ → ℕ → List ℕ
counts_text inputs left right = codes "inputs " ++ decimal inputs ++ codes "\nlatches " ++ decimal left ++ 32 ∷ [] ++ decimal right ++ 10 ∷ []

-- the lines of the start and of the last cycle that is wanted
abbrev pub cycles_text : ℕ → List ℕ
cycles_text cycles = codes "reset\ncycles " ++ decimal cycles ++ codes "\nexposed 0\n"

-- the line of a pair, with the last cycle in which it was compared
abbrev pub pair_line : PairResult → List ℕ
pair_line p = codes "pair " ++ pair_text p.name ++ codes " cycles " ++ decimal p.size ++ 32 ∷ [] ++ answer_word p.answer ++ 10 ∷ []

-- the line of the circuit that is too large in the next cycle, where the search stopped before it
abbrev pub stop_line : ℕ → Option Side → List ℕ
stop_line last None = []
stop_line last (Some A) = codes "too-large A cycle " ++ decimal (last + 1) ++ 10 ∷ []
stop_line last (Some B) = codes "too-large B cycle " ++ decimal (last + 1) ++ 10 ∷ []

-- the cycle of a difference and the values of both sides
unfoldable pub values_text : Witness → List ℕ
values_text w = codes " cycle " ++ decimal w.cycle ++ codes " values " ++ digit_of w.left ∷ [] ++ 32 ∷ [] ++ digit_of w.right ∷ [] ++ 10 ∷ []

-- the power-ups: a digit for each latch, or `-` without latches
unfoldable pub powers_text : ResetWitness → List ℕ
powers_text w = codes "power A " ++ row_line w.left_power ++ (codes "power B " ++ row_line w.right_power)

-- the pair of a difference, its cycle and values, its sequence, and the power-ups
abbrev pub different_text : ResetWitness → List ℕ
different_text w = codes "verdict different " ++ (pair_text w.witness.pair ++ values_text w.witness ++ stimulus_text w.witness.stimulus.names w.witness.stimulus.rows ++ powers_text w)

-- the verdict, with what shows it
abbrev pub verdict_text : ℕ → ℕ → SearchVerdict → List ℕ
verdict_text conflicts last verdict.Equal = codes "verdict equal" ++ 10 ∷ []
verdict_text conflicts last (verdict.NoDifference stopped) = stop_line last stopped ++ (codes "verdict not-shown cycles " ++ decimal last ++ 10 ∷ [])
verdict_text conflicts last (verdict.Different w) = different_text w
verdict_text conflicts last (verdict.Limit name) = codes "verdict limit " ++ pair_text name ++ (codes " conflicts " ++ decimal conflicts ++ 10 ∷ [])

-- what stands before the verdict
abbrev pub front_text : NetView → NetView → ℕ → Searched → List ℕ
front_text a b cycles s = counts_text (length (shared_inputs (ports_of a) (ports_of b))) (length a.latches) (length b.latches) ++ cycles_text cycles ++ flat_map pair_line s.pairs

-- the whole report
abbrev pub search_text : NetView → NetView → ℕ → ℕ → Searched → List ℕ
search_text a b cycles conflicts s = front_text a b cycles s ++ verdict_text conflicts s.last s.verdict
