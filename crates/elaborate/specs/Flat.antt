-- A design as flat statements. P is what names a signal: a place, its flat name or its number.
use Rattle.std.specs.Prelude.{◌≡◌, ℕ, ◌==◌, Bool, true, false, not, List, [], ◌∷◌, map, length, Option, Some, None, option_map, slice_get, unwrap_or}
use Rattle.std.specs.List.{filter, filter_map}
use Rattle.circuit_theory.specs.Cover.{Cover}
use Rattle.circuit_theory.specs.Circuit.{Circuit, Equation, Gate, Port, Named, Started, Latch as Register}
use Rattle.blif_read.specs.sec_base.Edge.{Edge}
use Rattle.blif_read.specs.sec_base.Init.{Init}
use Rattle.blif_read.specs.sec_base.Init.TheVariants as init
use Rattle.blif_read.specs.declared.design.BlifModel.{BlifModel}
use Rattle.blif_read.specs.declared.design.Statement.{Statement}
use Rattle.blif_read.specs.declared.design.Statement.TheVariants.{Names, Latch, Subckt}
use Rattle.blif_read.specs.Design.{Place, place_at, top, name_of, Item, At, Enter, Pairing, is_input_formal, control_at, main_walk, main_inputs, main_outputs, main_clocks}
use Rattle.elaborate.specs.declared.flat.FlatStatement.{FlatStatement}
use Rattle.elaborate.specs.declared.flat.FlatKind.{FlatKind}
use Rattle.elaborate.specs.declared.flat.FlatKind.TheVariants as kind
use Rattle.elaborate.specs.declared.flat.Flat.{Flat}

-- what a flat statement is
pub data Kind (P : Type 0) : Type 0 where
  gate : (cover : Cover) → Kind P
  -- with the edge and the clock that are written, and the initial value
  latch : (edge : Option Edge) (control : Option P) (init : Init) → Kind P
  -- a pair of an instance
  port : Kind P

-- the signal that it drives, and those that it reads: a gate its fan-ins, a latch its data, a port the other side
pub record FlatOf (P : Type 0) : Type 0 where
  pub out : P
  pub reads : List P
  pub kind : Kind P

-- the main model's ports, and the statements in the order of the walk
pub record FlatDesign (P : Type 0) : Type 0 where
  pub inputs : List P
  pub clocks : List P
  pub outputs : List P
  pub statements : List (FlatOf P)

-- the kind with its clock by its name
abbrev pub named_kind : {P Q : Type 0} → (P → Q) → Kind P → Kind Q
named_kind name (gate cover) = gate cover
named_kind name (latch edge control init) = latch edge (option_map name control) init
named_kind name port = port

-- the statement with its signals by their names
abbrev pub named_statement : {P Q : Type 0} → (P → Q) → FlatOf P → FlatOf Q
named_statement name s = record { out = name s.out; reads = map name s.reads; kind = named_kind name s.kind }

-- the same design, each signal by its name
abbrev pub named : {P Q : Type 0} → (P → Q) → FlatDesign P → FlatDesign Q
named name d = record { inputs = map name d.inputs; clocks = map name d.clocks; outputs = map name d.outputs; statements = map (named_statement name) d.statements }

-- an input pair drives the inner formal, an output pair the outer actual
abbrev pub flat_port : Bool → Place → Place → FlatOf Place
flat_port true outer inner = record { out = inner; reads = outer ∷ []; kind = port }
flat_port false outer inner = record { out = outer; reads = inner ∷ []; kind = port }

-- the flat statement of a gate, a latch or a pair; an instance is none of its own
abbrev pub flat_of : Item → Option (FlatOf Place)
flat_of (At path (Names line fanins out cover)) = Some (record { out = place_at path out; reads = map (place_at path) fanins; kind = gate cover })
flat_of (At path (Latch line input output edge control start)) = Some (record { out = place_at path output; reads = place_at path input ∷ []; kind = latch edge (control_at path control) start })
flat_of (At path (Subckt line name pairs)) = None
flat_of (Enter path inner m name pairs) = None
flat_of (Pairing outer inner m pair) = Some (flat_port (is_input_formal m pair.formal) (place_at outer pair.actual) (place_at inner pair.formal))

-- the design's flat statements over places
abbrev pub placed_design : List BlifModel → FlatDesign Place
placed_design models = record { inputs = map top (main_inputs models); clocks = map top (main_clocks models); outputs = map top (main_outputs models); statements = filter_map flat_of (main_walk models) }

-- the design's flat statements over flat names
abbrev pub flat_design_of : List BlifModel → FlatDesign (List ℕ)
flat_design_of models = named name_of (placed_design models)

-- the name with a number
abbrev pub name_at : List (List ℕ) → ℕ → List ℕ
name_at names n = unwrap_or (slice_get names n) []

-- the constant 0
abbrev pub no_cover : Cover
no_cover = record { width = 0; rows = []; on = true }

-- the cover of a gate
abbrev pub cover_of : Option Statement → Cover
cover_of (Some (Names line fanins out cover)) = cover
cover_of other = no_cover

-- the statement of a model at a place
abbrev pub statement_in : Option BlifModel → ℕ → Option Statement
statement_in None k = None
statement_in (Some m) k = slice_get m.statements k

-- the cover of a statement of a model, by their places
abbrev pub cover_at : List BlifModel → ℕ → ℕ → Cover
cover_at models model k = cover_of (statement_in (slice_get models model) k)

-- what a numbered statement is, with the cover of its gate
abbrev pub kind_of : List BlifModel → FlatKind → Kind ℕ
kind_of models (kind.Gate model statement) = gate (cover_at models model statement)
kind_of models (kind.Latch edge control init) = latch edge control init
kind_of models kind.Port = port

-- a numbered statement, with the cover of its gate
abbrev pub statement_of : List BlifModel → FlatStatement → FlatOf ℕ
statement_of models s = record { out = s.out; reads = s.reads; kind = kind_of models s.kind }

-- the flat statements that the program has, with the covers of the models
abbrev pub view_of : List BlifModel → Flat → FlatDesign ℕ
view_of models flat = record { inputs = flat.inputs; clocks = flat.clocks; outputs = flat.outputs; statements = map (statement_of models) flat.statements }

-- a gate's cover has a column for each fan-in; a latch reads one signal, and so does a port
abbrev pub CanBe : ℕ → {P : Type 0} → Kind P → Type 0
CanBe count (gate cover) = cover.width ≡ count
CanBe count (latch edge control init) = count ≡ 1
CanBe count port = count ≡ 1

-- the statement reads as many signals as its kind can
abbrev pub IsShaped : {P : Type 0} → FlatOf P → Type 0
IsShaped s = CanBe (length s.reads) s.kind

-- the first signal that is read; a latch and a port read one
abbrev pub first_of : {P : Type 0} → P → List P → P
first_of none [] = none
first_of none (first ∷ others) = first

-- the equation of what drives a signal
abbrev pub equation_by : {P : Type 0} → (P → List ℕ) → P → List P → Kind P → Equation P
equation_by name out reads (gate cover) = Gate out reads cover
equation_by name out reads (latch edge control init) = Register (name out) out (first_of out reads)
equation_by name out reads port = Port out (first_of out reads)

-- the equation of a flat statement
abbrev pub equation_in : {P : Type 0} → (P → List ℕ) → FlatOf P → Equation P
equation_in name s = equation_by name s.out s.reads s.kind

-- an initial value 0 or 1
abbrev pub start_from : {P : Type 0} → P → Init → Option (Started P)
start_from place init.Zero = Some (record { place = place; bit = false })
start_from place init.One = Some (record { place = place; bit = true })
start_from place other = None

-- the initial value of a latch
abbrev pub start_by : {P : Type 0} → P → Kind P → Option (Started P)
start_by out (gate cover) = None
start_by out (latch edge control init) = start_from out init
start_by out port = None

-- a signal with its name
abbrev pub named_at : {P : Type 0} → (P → List ℕ) → P → Named P
named_at name p = record { name = name p; place = p }

-- the circuit of flat statements; the clock is no input
abbrev pub circuit_by : {P : Type 0} → (P → List ℕ) → (P → Bool) → FlatDesign P → Circuit P
circuit_by name is_clock d = record {
  inputs = map (named_at name) (filter (λ p. not (is_clock p)) d.inputs);
  outputs = map (named_at name) d.outputs;
  equations = map (equation_in name) d.statements;
  starts = filter_map (λ s. start_by s.out s.kind) d.statements;
}

-- the number is the clock's
abbrev pub is_number : Option ℕ → ℕ → Bool
is_number None n = false
is_number (Some c) n = c == n

-- the circuit of numbered flat statements, by the names of the numbers and the number of the clock
abbrev pub circuit_of_flat : List (List ℕ) → FlatDesign ℕ → Option ℕ → Circuit ℕ
circuit_of_flat names d clock = circuit_by (name_at names) (is_number clock) d
