-- The text that a run writes.
use Rattle.std.specs.Prelude.{ℕ, List, [], ◌∷◌, ◌++◌, Option, Some, None, codes}
use Rattle.std.specs.Fmt.{decimal}
use Rattle.circuit_theory.specs.declared.Side.{Side}
use Rattle.circuit_theory.specs.declared.Side.TheVariants.{A, B}
use Rattle.sec_base.specs.Texts.{names_text}
use Rattle.blif_read.specs.declared.error.ReadKind.{ReadKind}
use Rattle.blif_read.specs.declared.error.ReadKind.TheVariants as kind
use Rattle.text_numbers.specs.declared.kinds.TextKind.{TextKind}
use Rattle.text_numbers.specs.declared.kinds.TextKind.TheVariants as text_kind
use Rattle.circuit_report.specs.declared.sim_report.refusal.Misfit.{Misfit}
use Rattle.circuit_report.specs.declared.sim_report.refusal.Misfit.TheVariants as misfit
use Rattle.aiger_read.specs.declared.aiger_records.error.AigerKind.{AigerKind}
use Rattle.aiger_read.specs.declared.aiger_records.error.AigerKind.TheVariants as aiger
use Rattle.assume_laws.specs.declared.assume_shape.shape.ShapeFault.{ShapeFault}
use Rattle.assume_laws.specs.declared.assume_shape.shape.ShapeFault.TheVariants as shape
use Rattle.elaborate.specs.declared.error.FlatError.{FlatError}
use Rattle.elaborate.specs.declared.error.FlatError.TheVariants as flat
use Rattle.obligations.specs.outcome.Report.{report_text}
use Rattle.cycle_sim.specs.pair_runs.replay_report.Report.{replay_text}
use Rattle.job_base.specs.declared.finding.File.{File}
use Rattle.job_base.specs.declared.finding.File.TheVariants as file
use Rattle.job_base.specs.declared.finding.LineFault.{LineFault}
use Rattle.job_base.specs.declared.finding.LineFault.TheVariants as line_fault
use Rattle.job_base.specs.declared.finding.PairKind.{PairKind}
use Rattle.job_base.specs.declared.finding.PairKind.TheVariants as pair_kind
use Rattle.job_base.specs.declared.finding.PairsFault.{PairsFault}
use Rattle.job_base.specs.declared.finding.PairsFault.TheVariants as pairs_fault
use Rattle.job_base.specs.declared.finding.Refusal.{Refusal}
use Rattle.job_base.specs.declared.finding.Refusal.TheVariants as refusal
use Rattle.job_base.specs.declared.finding.Finding.{Finding}
use Rattle.job_base.specs.declared.finding.Finding.TheVariants as finding
use Rattle.job_base.specs.declared.finding.Unrefuted.{Unrefuted}
use Rattle.job_base.specs.declared.finding.Unrefuted.TheVariants as unrefuted

abbrev pub side_word : Side → List ℕ
side_word A = codes "A"
side_word B = codes "B"

abbrev pub file_word : File → List ℕ
file_word file.A = codes "A"
file_word file.B = codes "B"
file_word file.C = codes "C"
file_word file.S = codes "S"

-- the kind of a faulty line; an unsupported word stands behind it
abbrev pub kind_text : ReadKind → List ℕ
kind_text (kind.Unsupported word) = codes "Unsupported " ++ word
kind_text kind.UnknownWord = codes "UnknownWord"
kind_text kind.NoModel = codes "NoModel"
kind_text kind.BadCount = codes "BadCount"
kind_text kind.BadRow = codes "BadRow"
kind_text kind.MixedCover = codes "MixedCover"
kind_text kind.BadLatchType = codes "BadLatchType"
kind_text kind.BadInit = codes "BadInit"
kind_text kind.BadPair = codes "BadPair"
kind_text kind.DuplicateModel = codes "DuplicateModel"
kind_text kind.DuplicatePort = codes "DuplicatePort"
kind_text kind.NameTooLong = codes "NameTooLong"
kind_text kind.StrayRow = codes "StrayRow"
kind_text kind.ControlByte = codes "ControlByte"

-- the kind of a faulty line of a text of clauses, or of one that refutes them
abbrev pub text_kind_word : TextKind → List ℕ
text_kind_word text_kind.BadHeader = codes "BadHeader"
text_kind_word text_kind.BadNumber = codes "BadNumber"
text_kind_word text_kind.BadCount = codes "BadCount"
text_kind_word text_kind.BadLine = codes "BadLine"
text_kind_word text_kind.BadId = codes "BadId"
text_kind_word text_kind.NegativeHint = codes "NegativeHint"
text_kind_word text_kind.BadHint = codes "BadHint"
text_kind_word text_kind.NotUnit = codes "NotUnit"
text_kind_word text_kind.NoConflict = codes "NoConflict"
text_kind_word text_kind.NoEmpty = codes "NoEmpty"

-- what is wrong with a line
abbrev pub line_fault_text : LineFault → List ℕ
line_fault_text (line_fault.Circuit k) = kind_text k
line_fault_text line_fault.BadHeader = codes "BadHeader"
line_fault_text line_fault.BadRow = codes "BadRow"
line_fault_text (line_fault.Clauses k) = text_kind_word k

-- the word of a fault that has one name, and the name
abbrev pub named_of : FlatError → Option (List ℕ × List ℕ)
named_of (flat.UnknownModel name) = Some (codes "UnknownModel ", name)
named_of (flat.Recursive name) = Some (codes "Recursive ", name)
named_of (flat.UnknownFormal name) = Some (codes "UnknownFormal ", name)
named_of (flat.FormalTwice name) = Some (codes "FormalTwice ", name)
named_of (flat.OpenInput name) = Some (codes "OpenInput ", name)
named_of (flat.TwoDrivers name) = Some (codes "TwoDrivers ", name)
named_of (flat.Undriven name) = Some (codes "Undriven ", name)
named_of (flat.TwoClocks name) = Some (codes "TwoClocks ", name)
named_of (flat.TwoEdges name) = Some (codes "TwoEdges ", name)
named_of (flat.GatedClock name) = Some (codes "GatedClock ", name)
named_of (flat.ClockRead name) = Some (codes "ClockRead ", name)
named_of (flat.Loop names) = None
named_of (flat.TooDeep name) = Some (codes "TooDeep ", name)
named_of flat.TooMany = None
named_of flat.LongName = None
named_of flat.NoMemory = None

-- the kind of a design's fault, with the names that it has
abbrev pub design_fault_text : FlatError → List ℕ
design_fault_text (flat.UnknownModel name) = codes "UnknownModel " ++ name
design_fault_text (flat.Recursive name) = codes "Recursive " ++ name
design_fault_text (flat.UnknownFormal name) = codes "UnknownFormal " ++ name
design_fault_text (flat.FormalTwice name) = codes "FormalTwice " ++ name
design_fault_text (flat.OpenInput name) = codes "OpenInput " ++ name
design_fault_text (flat.TwoDrivers name) = codes "TwoDrivers " ++ name
design_fault_text (flat.Undriven name) = codes "Undriven " ++ name
design_fault_text (flat.TwoClocks name) = codes "TwoClocks " ++ name
design_fault_text (flat.TwoEdges name) = codes "TwoEdges " ++ name
design_fault_text (flat.GatedClock name) = codes "GatedClock " ++ name
design_fault_text (flat.ClockRead name) = codes "ClockRead " ++ name
design_fault_text (flat.Loop names) = codes "Loop" ++ names_text names
design_fault_text (flat.TooDeep name) = codes "TooDeep " ++ name
design_fault_text flat.TooMany = codes "TooMany"
design_fault_text flat.LongName = codes "LongName"
design_fault_text flat.NoMemory = codes "NoMemory"

-- what is wrong with a record of an AIGER file
abbrev pub record_fault_text : AigerKind → List ℕ
record_fault_text aiger.BadHeader = codes "BadHeader"
record_fault_text aiger.Properties = codes "Properties"
record_fault_text aiger.TooMany = codes "TooMany"
record_fault_text aiger.BadLine = codes "BadLine"
record_fault_text aiger.BadLiteral = codes "BadLiteral"
record_fault_text aiger.TwoDrivers = codes "TwoDrivers"
record_fault_text aiger.BadReset = codes "BadReset"
record_fault_text aiger.BadDelta = codes "BadDelta"
record_fault_text aiger.BadSymbol = codes "BadSymbol"
record_fault_text aiger.Undriven = codes "Undriven"
record_fault_text aiger.DuplicateName = codes "DuplicateName"
record_fault_text aiger.Loop = codes "Loop"

-- what doesn't fit a circuit
abbrev pub misfit_text : Misfit → List ℕ
misfit_text (misfit.Unknown name) = codes "refused S Unknown " ++ name ++ 10 ∷ []
misfit_text (misfit.Missing name) = codes "refused S Missing " ++ name ++ 10 ∷ []
misfit_text misfit.Power = codes "refused Power" ++ 10 ∷ []

-- why a circuit is no assumption
abbrev pub shape_text : ShapeFault → List ℕ
shape_text (shape.Latch name) = codes "refused C Latch " ++ name ++ 10 ∷ []
shape_text (shape.Outputs n) = codes "refused C Outputs " ++ decimal n ++ 10 ∷ []
shape_text (shape.Input name) = codes "refused C Input " ++ name ++ 10 ∷ []
shape_text shape.TooLarge = codes "refused C TooLarge" ++ 10 ∷ []

-- what is wrong with a line of a text of pairs of latches
abbrev pub pair_kind_text : PairKind → List ℕ
pair_kind_text pair_kind.BadPair = codes "BadPair"
pair_kind_text (pair_kind.Unknown A) = codes "Unknown A"
pair_kind_text (pair_kind.Unknown B) = codes "Unknown B"
pair_kind_text pair_kind.Twice = codes "Twice"
pair_kind_text pair_kind.Taken = codes "Taken"

-- why a text of pairs of latches isn't taken
abbrev pub pairs_fault_text : PairsFault → List ℕ
pairs_fault_text pairs_fault.TooLong = codes "refused P TooLong" ++ 10 ∷ []
pairs_fault_text (pairs_fault.Line line k) = codes "refused P line " ++ decimal line ++ 32 ∷ [] ++ pair_kind_text k ++ 10 ∷ []

abbrev pub refusal_text : Refusal → List ℕ
refusal_text (refusal.TooLong f) = codes "refused " ++ file_word f ++ codes " TooLong" ++ 10 ∷ []
refusal_text (refusal.Text f line fault) = codes "refused " ++ file_word f ++ codes " line " ++ decimal line ++ 32 ∷ [] ++ line_fault_text fault ++ 10 ∷ []
refusal_text (refusal.Design f fault) = codes "refused " ++ file_word f ++ 32 ∷ [] ++ design_fault_text fault ++ 10 ∷ []
refusal_text (refusal.Record f place k) = codes "refused " ++ file_word f ++ codes " record " ++ decimal place ++ 32 ∷ [] ++ record_fault_text k ++ 10 ∷ []
refusal_text (refusal.Interface name) = codes "refused Interface " ++ name ++ 10 ∷ []
refusal_text (refusal.TooLarge side) = codes "refused " ++ side_word side ++ codes " TooLarge" ++ 10 ∷ []
refusal_text refusal.TooManyEvents = codes "refused TooManyEvents" ++ 10 ∷ []
refusal_text (refusal.Assume fault) = shape_text fault
refusal_text refusal.Vacuous = codes "refused C Vacuous" ++ 10 ∷ []
refusal_text (refusal.Misfit m) = misfit_text m
refusal_text (refusal.Pair name) = codes "refused Pair " ++ name ++ 10 ∷ []
refusal_text (refusal.Pairs fault) = pairs_fault_text fault

-- the words are no job
abbrev pub words_text : List ℕ
words_text = codes "words refused" ++ 10 ∷ []

-- a cycle of the circuit's latch graph
abbrev pub cycle_text : Side → List (List ℕ) → List ℕ
cycle_text side names = codes "cyclic " ++ side_word side ++ names_text names ++ 10 ∷ []

-- a cycle of the circuit's latch graph that no latch breaks that both circuits name
abbrev pub unpaired_text : Side → List (List ℕ) → List ℕ
unpaired_text side names = codes "unpaired " ++ side_word side ++ names_text names ++ 10 ∷ []

-- it isn't found out whether the circuit's latch of this name has a load enable
abbrev pub undecided_text : Side → List ℕ → List ℕ
undecided_text side name = codes "limit recover " ++ side_word side ++ codes ":" ++ name ++ codes " conflicts 20000\n"

-- some values meet all clauses of a pair
abbrev pub satisfiable_text : List ℕ
satisfiable_text = codes "cert satisfiable\n"

-- the search of a pair's clauses met this limit of conflicts
abbrev pub unsettled_text : ℕ → List ℕ
unsettled_text conflicts = codes "cert limit conflicts " ++ decimal conflicts ++ codes "\n"

-- what is found in place of a refutation
abbrev pub unrefuted_text : Unrefuted → List ℕ
unrefuted_text unrefuted.Satisfiable = satisfiable_text
unrefuted_text (unrefuted.Limit conflicts proof) = unsettled_text conflicts

-- the report of what was found
abbrev pub finding_text : Finding → List ℕ
finding_text finding.Words = words_text
finding_text (finding.Refused r) = refusal_text r
finding_text (finding.Cyclic side names) = cycle_text side names
finding_text (finding.Unpaired side names) = unpaired_text side names
finding_text (finding.Checked outcome settings) = report_text settings outcome
finding_text (finding.Done report) = report
finding_text (finding.Generated outcome report) = report
finding_text (finding.Replayed differences) = replay_text differences
finding_text (finding.Undecided side name proof) = undecided_text side name
finding_text (finding.Unrefuted u) = unrefuted_text u
finding_text (finding.Judged j proofs report) = report
