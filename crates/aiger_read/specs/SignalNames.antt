-- The names of a net's signals, and the initial values of its latches.
use Rattle.std.specs.Prelude.{◌≡◌, ℕ, ◌/◌, ◌%◌, ◌==◌, if◌then◌else◌, List, [], ◌∷◌, ◌++◌, map, codes, refl}
use Rattle.std.specs.Fmt.{decimal, digits}
use Rattle.circuit_theory.specs.Circuit.{Named as Port}
use Rattle.sec_base.specs.declared.basics.Init.{Init}
use Rattle.sec_base.specs.declared.basics.Init.TheVariants as init
use Rattle.aiger_read.specs.declared.aiger_records.record.Record.{Record}
use Rattle.aiger_read.specs.aiger_file.aiger_graph.Circuit.{LatchLine, ports_from, input_literals, latches_in}
use Rattle.aiger_read.specs.declared.aiger_file.file.AigerFile.{AigerFile}

-- the name of the gate of a literal: `#v` of variable v, `#v!` of its negation
abbrev pub gate_name : ℕ → List ℕ
gate_name literal = 35 ∷ decimal (literal / 2) ++ (if literal % 2 == 1 then 33 ∷ [] else [])

abbrev pub latch_literals : List Record → List ℕ
latch_literals records = map (λ (l : LatchLine). l.literal) (latches_in records)

-- the inputs and the latches, each with its name
abbrev pub sources_of : AigerFile → List (Port ℕ)
sources_of f = ports_from f.symbols 105 0 (input_literals f.records) ++ ports_from f.symbols 108 0 (latch_literals f.records)

-- the name of the first of these at the literal; where there is none, that of its gate
abbrev pub name_among : List (Port ℕ) → ℕ → List ℕ
name_among [] literal = gate_name literal
name_among (p ∷ ps) literal = if p.place == literal then p.name else name_among ps literal

-- the name of the signal of a literal
abbrev pub signal_name : AigerFile → ℕ → List ℕ
signal_name f literal = name_among (sources_of f) literal

-- the initial value of a latch with this reset
abbrev pub init_of : ℕ → Init
init_of reset = if reset == 0 then init.Zero else (if reset == 1 then init.One else init.Unknown)

-- the initial values of the latches, in their order
abbrev pub inits_of : AigerFile → List Init
inits_of f = map (λ (l : LatchLine). init_of l.reset) (latches_in f.records)

constant_names : map gate_name (0 ∷ 1 ∷ 24 ∷ 25 ∷ []) ≡ codes "#0" ∷ codes "#0!" ∷ codes "#12" ∷ codes "#12!" ∷ []
unfolding digits
constant_names = refl
