-- What the rules on drivers and clocks look at in a flat design. P is what names a signal: its flat name or its number.
use Rattle.std.specs.Prelude.{ℕ, List, [], ◌∷◌, ◌++◌, map, Option, Some, None}
use Rattle.sec_base.specs.declared.basics.Edge.{Edge}
use Rattle.elaborate.specs.Flat.{FlatDesign, FlatOf, Kind, gate, latch, port, view_of}
use Rattle.elaborate.specs.declared.flat.Flat.{Flat}

-- what the function gives of each item, in a row
abbrev pub joined : {X Y : Type 0} → (X → List Y) → List X → List Y
joined f [] = []
joined f (x ∷ xs) = f x ++ joined f xs

-- a port: it drives `out` from the other side
pub record PortOf (P : Type 0) : Type 0 where
  pub out : P
  pub from : P

-- a latch whose edge is written
pub record TypedLatch (P : Type 0) : Type 0 where
  pub out : P
  pub edge : Edge

-- a gate with its fan-ins, or a latch with its data
pub record Cell (P : Type 0) : Type 0 where
  pub out : P
  pub reads : List P

pub record Wiring (P : Type 0) : Type 0 where
  -- the inputs, clocks and outputs of the main model
  pub inputs : List P
  pub clocks : List P
  pub outputs : List P
  -- in the order of the walk: what the statements drive, and what they read
  pub outs : List P
  pub reads : List P
  -- the ports, the clocks of latches, the latches with an edge, the gates and latches, each in the order of the walk
  pub ports : List (PortOf P)
  pub controls : List P
  pub typed : List (TypedLatch P)
  pub cells : List (Cell P)

abbrev pub some_of : {P : Type 0} → Option P → List P
some_of None = []
some_of (Some p) = p ∷ []

abbrev pub control_by : {P : Type 0} → Kind P → List P
control_by (gate cover) = []
control_by (latch edge control init) = some_of control
control_by port = []

-- a gate reads its fan-ins, a latch its data and then its clock, a port the other side
abbrev pub reads_by : {P : Type 0} → FlatOf P → List P
reads_by s = s.reads ++ control_by s.kind

abbrev pub port_from : {P : Type 0} → P → List P → List (PortOf P)
port_from out [] = []
port_from out (from ∷ others) = record { out = out; from = from } ∷ []

abbrev pub port_by : {P : Type 0} → P → List P → Kind P → List (PortOf P)
port_by out reads (gate cover) = []
port_by out reads (latch edge control init) = []
port_by out reads port = port_from out reads

abbrev pub with_edge : {P : Type 0} → P → Option Edge → List (TypedLatch P)
with_edge out None = []
with_edge out (Some edge) = record { out = out; edge = edge } ∷ []

abbrev pub typed_by : {P : Type 0} → P → Kind P → List (TypedLatch P)
typed_by out (gate cover) = []
typed_by out (latch edge control init) = with_edge out edge
typed_by out port = []

abbrev pub cell_by : {P : Type 0} → P → List P → Kind P → List (Cell P)
cell_by out reads (gate cover) = record { out = out; reads = reads } ∷ []
cell_by out reads (latch edge control init) = record { out = out; reads = reads } ∷ []
cell_by out reads port = []

abbrev pub wiring_of : {P : Type 0} → FlatDesign P → Wiring P
wiring_of d = record {
  inputs = d.inputs;
  clocks = d.clocks;
  outputs = d.outputs;
  outs = map (λ s. s.out) d.statements;
  reads = joined reads_by d.statements;
  ports = joined (λ s. port_by s.out s.reads s.kind) d.statements;
  controls = joined (λ s. control_by s.kind) d.statements;
  typed = joined (λ s. typed_by s.out s.kind) d.statements;
  cells = joined (λ s. cell_by s.out s.reads s.kind) d.statements;
}

-- the wiring of the statements that the program has; covers don't matter
unfoldable pub wires_of : Flat → Wiring ℕ
wires_of flat = wiring_of (view_of [] flat)
