-- The text of a comparison's report, as a function of what was found and of how it was compared.
use Rattle.std.specs.Prelude.{ℕ, Bool, true, false, List, [], ◌∷◌, ◌++◌, length, codes, if◌then◌else◌, Option, Some, None}
use Rattle.std.specs.Fmt.{decimal}
use Rattle.std.specs.List.{flat_map}
use Rattle.witness_report.specs.circuit_theory.Mode.{Mode}
use Rattle.witness_report.specs.circuit_theory.Mode.TheVariants.{Plain, Event}
use Rattle.witness_report.specs.circuit_theory.Side.{Side}
use Rattle.witness_report.specs.circuit_theory.Side.TheVariants.{A, B}
use Rattle.witness_report.specs.sec_base.PairAnswer.{PairAnswer}
use Rattle.witness_report.specs.sec_base.PairAnswer.TheVariants as answer
use Rattle.witness_report.specs.sec_base.Settings.{Settings}
use Rattle.witness_report.specs.sec_base.Texts.{digit_of, names_text}
use Rattle.witness_report.specs.Text.{stimulus_text, row_line}
use Rattle.witness_report.specs.declared.witness.PairName.{PairName}
use Rattle.witness_report.specs.declared.witness.PairName.TheVariants as pair
use Rattle.witness_report.specs.declared.witness.Witness.{Witness}
use Rattle.witness_report.specs.frame_report.Text.{frame_text}
use Rattle.obligations.specs.declared.outcome.verdict.PairResult.{PairResult}
use Rattle.obligations.specs.declared.outcome.verdict.ResetWitness.{ResetWitness}
use Rattle.obligations.specs.declared.outcome.verdict.Separation.{Separation}
use Rattle.obligations.specs.declared.outcome.verdict.Unshown.{Unshown}
use Rattle.obligations.specs.declared.outcome.verdict.LimitAt.{LimitAt}
use Rattle.obligations.specs.declared.outcome.verdict.LimitAt.TheVariants as limit
use Rattle.obligations.specs.declared.outcome.verdict.Why.{Why}
use Rattle.obligations.specs.declared.outcome.verdict.Why.TheVariants as why
use Rattle.obligations.specs.declared.outcome.verdict.Verdict.{Verdict}
use Rattle.obligations.specs.declared.outcome.verdict.Verdict.TheVariants as verdict
use Rattle.obligations.specs.declared.outcome.verdict.Outcome.{Outcome}

abbrev pub answer_word : PairAnswer → List ℕ
answer_word answer.Equal = codes "equal"
answer_word answer.Different = codes "different"
answer_word answer.NotShown = codes "not-shown"
answer_word answer.Limit = codes "limit"

-- a pair in the verdict's line: an output's name, or `next` and the latch's
abbrev pub pair_text : PairName → List ℕ
pair_text (pair.Output name) = name
pair_text (pair.Next name) = codes "next " ++ name

-- the front of a pair's own line
abbrev pub pair_front : PairName → List ℕ
pair_front (pair.Output name) = codes "pair " ++ name
pair_front (pair.Next name) = codes "next " ++ name

-- what the size of a pair is: its depth, or the number of its event nodes
abbrev pub size_word : Mode → List ℕ
size_word Plain = codes " depth "
size_word Event = codes " nodes "

-- the line of a pair
abbrev pub pair_line : Mode → PairResult → List ℕ
pair_line mode p = pair_front p.name ++ size_word mode ++ decimal p.size ++ 32 ∷ [] ++ answer_word p.answer ++ 10 ∷ []

-- the values of both sides
unfoldable pub bits_text : Bool → Bool → List ℕ
bits_text left right = codes " values " ++ digit_of left ∷ [] ++ 32 ∷ [] ++ digit_of right ∷ [] ++ 10 ∷ []

-- the cycle of a difference and the values of both sides
unfoldable pub values_text : Witness → List ℕ
values_text w = codes " cycle " ++ decimal w.cycle ++ bits_text w.left w.right

-- the pair, the cycle and the values of a sequence, then its stimulus
abbrev pub witness_text : Witness → List ℕ
witness_text w = pair_text w.pair ++ values_text w ++ stimulus_text w.stimulus.names w.stimulus.rows

-- a sequence from the initial values, then the power-ups of both circuits, a digit for each latch or `-` without latches
abbrev pub reset_witness_text : ResetWitness → List ℕ
reset_witness_text w = witness_text w.witness ++ codes "power A " ++ row_line w.left_power ++ codes "power B " ++ row_line w.right_power

-- a latch and its circuit
abbrev pub latch_text : Side → List ℕ → List ℕ
latch_text A name = codes "A:" ++ name
latch_text B name = codes "B:" ++ name

-- where the limit was met
abbrev pub limit_text : LimitAt → List ℕ
limit_text (limit.Assume proof) = codes "assume"
limit_text (limit.Recover side name proof) = codes "recover " ++ latch_text side name
limit_text (limit.Class side name other proof) = codes "class " ++ latch_text side name
limit_text (limit.Pair name) = pair_text name

-- a latch of the lower of two classes, where that doesn't always load
abbrev pub low_text : Option (Side × List ℕ) → List ℕ
low_text None = codes "always"
low_text (Some (side, name)) = latch_text side name

-- two classes, a latch of each, the values of their enables and the frame that gives them
unfoldable pub separation_text : Separation → List ℕ
separation_text s =
    codes "apart " ++ decimal s.low ++ 32 ∷ [] ++ decimal s.high ++ 32 ∷ [] ++ low_text s.low_latch ++ 32 ∷ [] ++ latch_text s.high_latch.0 s.high_latch.1 ++ bits_text s.left s.right ++ frame_text s.frame

-- a pair, the values of both sides and the frame that gives them, and what tells its classes apart
abbrev pub unshown_text : Unshown → List ℕ
unshown_text u = pair_text u.pair ++ bits_text u.left u.right ++ frame_text u.frame ++ flat_map separation_text u.apart

-- what is shown, and what shows it
abbrev pub why_text : Why → List ℕ
why_text (why.Cut w) = codes "cut " ++ witness_text w
why_text (why.Events u) = codes "events " ++ unshown_text u

abbrev pub verdict_text : ℕ → Verdict → List ℕ
verdict_text conflicts verdict.Equal = codes "verdict equal" ++ 10 ∷ []
verdict_text conflicts (verdict.Different w) = codes "verdict different " ++ witness_text w
verdict_text conflicts (verdict.DifferentFrom w) = codes "verdict different " ++ reset_witness_text w
verdict_text conflicts (verdict.NotShown reason) = codes "verdict not-shown " ++ why_text reason
verdict_text conflicts (verdict.Limit at) = codes "verdict limit " ++ limit_text at ++ codes " conflicts " ++ decimal conflicts ++ 10 ∷ []

-- the lines of the counts
abbrev pub counts_text : Outcome → List ℕ
counts_text o = codes "inputs " ++ decimal o.inputs ++ 10 ∷ [] ++ codes "latches " ++ decimal o.left_latches ++ 32 ∷ [] ++ decimal o.right_latches ++ 10 ∷ []

-- a line that tells that runs begin with the latches' initial values, where they do
abbrev pub reset_line : Bool → List ℕ
reset_line false = []
reset_line true = codes "reset\n"

-- the line of the assumption on the inputs, where there is one
abbrev pub assume_line : Option (List ℕ) → List ℕ
assume_line None = []
assume_line (Some name) = codes "assume " ++ name ++ 10 ∷ []

-- the line of the latches that were cut open
abbrev pub exposed_line : List (List ℕ) → List ℕ
exposed_line names = codes "exposed " ++ decimal (length names) ++ names_text names ++ 10 ∷ []

-- the line of the event classes
abbrev pub classes_line : Mode → ℕ → List ℕ
classes_line Plain classes = []
classes_line Event classes = codes "classes " ++ decimal classes ++ 10 ∷ []

-- the cycle from which on all pairs are settled, where the circuits are equal and latches were cut open
abbrev pub through_text : ℕ → List (List ℕ) → Verdict → List ℕ
through_text through [] verdict = []
through_text through (name ∷ names) verdict.Equal = codes "through " ++ decimal through ++ 10 ∷ []
through_text through (name ∷ names) (verdict.Different w) = []
through_text through (name ∷ names) (verdict.DifferentFrom w) = []
through_text through (name ∷ names) (verdict.NotShown reason) = []
through_text through (name ∷ names) (verdict.Limit at) = []

-- in the event mode no pair is settled from a cycle on
abbrev pub through_line : Mode → Outcome → List ℕ
through_line Plain o = through_text o.through o.exposed o.verdict
through_line Event o = []

-- the lines of the classes and the pairs
abbrev pub pairs_text : Mode → Outcome → List ℕ
pairs_text mode o = classes_line mode o.classes ++ flat_map (pair_line mode) o.pairs ++ through_line mode o

-- whether it was found out which latches are to be cut open: not where the limit was met at the assumption or at a latch's own enable
abbrev pub knows_exposed : Verdict → Bool
knows_exposed (verdict.Limit (limit.Assume proof)) = false
knows_exposed (verdict.Limit (limit.Recover side name proof)) = false
knows_exposed other = true

-- whether pairs were asked about: not where the limit was met before
abbrev pub knows_pairs : Verdict → Bool
knows_pairs (verdict.Limit (limit.Assume proof)) = false
knows_pairs (verdict.Limit (limit.Recover side name proof)) = false
knows_pairs (verdict.Limit (limit.Class side name other proof)) = false
knows_pairs other = true

-- the whole report of a comparison that was made so
abbrev pub report_text : Settings → Outcome → List ℕ
report_text settings o =
    counts_text o ++ reset_line settings.reset ++ assume_line o.assumed
    ++ (if knows_exposed o.verdict then exposed_line o.exposed else [])
    ++ (if knows_pairs o.verdict then pairs_text settings.mode o else [])
    ++ verdict_text settings.conflicts o.verdict
