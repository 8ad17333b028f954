-- The wiring of a design by other names.
use Rattle.std.proofs.Common.{◌≡◌, ◌∙◌, ℕ, List, [], ◌∷◌, ◌++◌, map, Option, Some, None, option_map, refl, sym, ap}
use Rattle.std.proofs.lemmas.List.{map-append}
use Rattle.circuit_theory.proofs.Lists.{map-map}
use Rattle.sec_base.specs.declared.basics.Edge.{Edge}
use Rattle.elaborate.specs.blif_read.BlifModel.{BlifModel}
use Rattle.elaborate.specs.declared.flat.Flat.{Flat}
use Rattle.elaborate.specs.declared.flat.FlatStatement.{FlatStatement}
use Rattle.elaborate.specs.declared.flat.FlatKind.{FlatKind}
use Rattle.elaborate.specs.declared.flat.FlatKind.TheVariants as kind
use Rattle.elaborate.specs.Flat.{FlatDesign, FlatOf, Kind, gate, latch, port, named, named_kind, named_statement, statement_of, kind_of, view_of}
use Rattle.flatten.specs.connectivity.Wiring.{Wiring, PortOf, TypedLatch, Cell, joined, some_of, control_by, reads_by, port_from, port_by, with_edge, typed_by, cell_by, wiring_of, wires_of}
use Rattle.flatten.proofs.connectivity.Joined.{joined-map, joined_same, map-joined}

abbrev pub named_port : {P Q : Type 0} → (P → Q) → PortOf P → PortOf Q
named_port f p = record { out = f p.out; from = f p.from }

abbrev pub named_latch : {P Q : Type 0} → (P → Q) → TypedLatch P → TypedLatch Q
named_latch f l = record { out = f l.out; edge = l.edge }

abbrev pub named_cell : {P Q : Type 0} → (P → Q) → Cell P → Cell Q
named_cell f c = record { out = f c.out; reads = map f c.reads }

-- the same wiring, each signal by its name
abbrev pub named_wires : {P Q : Type 0} → (P → Q) → Wiring P → Wiring Q
named_wires f w = record {
  inputs = map f w.inputs;
  clocks = map f w.clocks;
  outputs = map f w.outputs;
  outs = map f w.outs;
  reads = map f w.reads;
  ports = map (named_port f) w.ports;
  controls = map f w.controls;
  typed = map (named_latch f) w.typed;
  cells = map (named_cell f) w.cells;
}

-- wirings with the same lists are one
pub same_wiring : {P : Type 0} (inputs clocks outputs outs outs' reads reads' : List P) (ports ports' : List (PortOf P)) (controls controls' : List P) (typed typed' : List (TypedLatch P)) (cells cells' : List (Cell P)) →
    outs ≡ outs' → reads ≡ reads' → ports ≡ ports' → controls ≡ controls' → typed ≡ typed' → cells ≡ cells' →
    (let a : Wiring P = record { inputs = inputs; clocks = clocks; outputs = outputs; outs = outs; reads = reads; ports = ports; controls = controls; typed = typed; cells = cells } in
    let b : Wiring P = record { inputs = inputs; clocks = clocks; outputs = outputs; outs = outs'; reads = reads'; ports = ports'; controls = controls'; typed = typed'; cells = cells' } in a ≡ b)
same_wiring inputs clocks outputs outs outs' reads reads' ports ports' controls controls' typed typed' cells cells' a b c d e f = cc

named_some : {P Q : Type 0} (f : P → Q) (o : Option P) → some_of (option_map f o) ≡ map f (some_of o)
named_some f None = refl
named_some f (Some p) = refl

named_control : {P Q : Type 0} (f : P → Q) (k : Kind P) → control_by (named_kind f k) ≡ map f (control_by k)
named_control f (gate cover) = refl
named_control f (latch edge control init) = named_some f control
named_control f port = refl

named_reads : {P Q : Type 0} (f : P → Q) (s : FlatOf P) → reads_by (named_statement f s) ≡ map f (reads_by s)
named_reads f s = ap (λ zs. map f s.reads ++ zs) (named_control f s.kind) ∙ sym (map-append f s.reads (control_by s.kind))

named_from : {P Q : Type 0} (f : P → Q) (out : P) (reads : List P) → port_from (f out) (map f reads) ≡ map (named_port f) (port_from out reads)
named_from f out [] = refl
named_from f out (from ∷ others) = refl

named_ports : {P Q : Type 0} (f : P → Q) (out : P) (reads : List P) (k : Kind P) → port_by (f out) (map f reads) (named_kind f k) ≡ map (named_port f) (port_by out reads k)
named_ports f out reads (gate cover) = refl
named_ports f out reads (latch edge control init) = refl
named_ports f out reads port = named_from f out reads

named_edge : {P Q : Type 0} (f : P → Q) (out : P) (edge : Option Edge) → with_edge (f out) edge ≡ map (named_latch f) (with_edge out edge)
named_edge f out None = refl
named_edge f out (Some edge) = refl

named_typed : {P Q : Type 0} (f : P → Q) (out : P) (k : Kind P) → typed_by (f out) (named_kind f k) ≡ map (named_latch f) (typed_by out k)
named_typed f out (gate cover) = refl
named_typed f out (latch edge control init) = named_edge f out edge
named_typed f out port = refl

named_cells : {P Q : Type 0} (f : P → Q) (out : P) (reads : List P) (k : Kind P) → cell_by (f out) (map f reads) (named_kind f k) ≡ map (named_cell f) (cell_by out reads k)
named_cells f out reads (gate cover) = refl
named_cells f out reads (latch edge control init) = refl
named_cells f out reads port = refl

-- a row of named statements
row_named : {P Q Y Z : Type 0} (f : P → Q) (g : Y → Z) (of : FlatOf Q → List Z) (by : FlatOf P → List Y) (ss : List (FlatOf P)) → ((s : FlatOf P) → of (named_statement f s) ≡ map g (by s)) →
    joined of (map (named_statement f) ss) ≡ map g (joined by ss)
row_named f g of by ss same =
    joined-map of (named_statement f) ss
    ∙ joined_same (λ s. of (named_statement f s)) (λ s. map g (by s)) ss same
    ∙ sym (map-joined g by ss)

pub named_wiring : {P Q : Type 0} (f : P → Q) (d : FlatDesign P) → wiring_of (named f d) ≡ named_wires f (wiring_of d)
named_wiring {P} {Q} f d = same_wiring (map f d.inputs) (map f d.clocks) (map f d.outputs) _ _ _ _ _ _ _ _ _ _ _ _
    (map-map (λ (s : FlatOf Q). s.out) (named_statement f) d.statements ∙ sym (map-map f (λ (s : FlatOf P). s.out) d.statements))
    (row_named f f reads_by reads_by d.statements (named_reads f))
    (row_named f (named_port f) (λ s. port_by s.out s.reads s.kind) (λ s. port_by s.out s.reads s.kind) d.statements (λ s. named_ports f s.out s.reads s.kind))
    (row_named f f (λ s. control_by s.kind) (λ s. control_by s.kind) d.statements (λ s. named_control f s.kind))
    (row_named f (named_latch f) (λ s. typed_by s.out s.kind) (λ s. typed_by s.out s.kind) d.statements (λ s. named_typed f s.out s.kind))
    (row_named f (named_cell f) (λ s. cell_by s.out s.reads s.kind) (λ s. cell_by s.out s.reads s.kind) d.statements (λ s. named_cells f s.out s.reads s.kind))

-- covers don't matter
other_control : (models : List BlifModel) (k : FlatKind) → control_by (kind_of models k) ≡ control_by (kind_of [] k)
other_control models (kind.Gate model statement) = refl
other_control models (kind.Latch edge control init) = refl
other_control models kind.Port = refl

other_ports : (models : List BlifModel) (out : ℕ) (reads : List ℕ) (k : FlatKind) → port_by out reads (kind_of models k) ≡ port_by out reads (kind_of [] k)
other_ports models out reads (kind.Gate model statement) = refl
other_ports models out reads (kind.Latch edge control init) = refl
other_ports models out reads kind.Port = refl

other_typed : (models : List BlifModel) (out : ℕ) (k : FlatKind) → typed_by out (kind_of models k) ≡ typed_by out (kind_of [] k)
other_typed models out (kind.Gate model statement) = refl
other_typed models out (kind.Latch edge control init) = refl
other_typed models out kind.Port = refl

other_cells : (models : List BlifModel) (out : ℕ) (reads : List ℕ) (k : FlatKind) → cell_by out reads (kind_of models k) ≡ cell_by out reads (kind_of [] k)
other_cells models out reads (kind.Gate model statement) = refl
other_cells models out reads (kind.Latch edge control init) = refl
other_cells models out reads kind.Port = refl

-- a row of statements with other covers
row_covered : {Y : Type 0} (models : List BlifModel) (of : FlatOf ℕ → List Y) (ss : List FlatStatement) → ((s : FlatStatement) → of (statement_of models s) ≡ of (statement_of [] s)) →
    joined of (map (statement_of models) ss) ≡ joined of (map (statement_of []) ss)
row_covered models of ss same =
    joined-map of (statement_of models) ss
    ∙ joined_same (λ s. of (statement_of models s)) (λ s. of (statement_of [] s)) ss same
    ∙ sym (joined-map of (statement_of []) ss)

-- the wiring of the program's statements, whatever models their covers are in
pub any_covers : (models : List BlifModel) (flat : Flat) → wiring_of (view_of models flat) ≡ wires_of flat
unfolding wires_of
any_covers models flat = same_wiring flat.inputs flat.clocks flat.outputs _ _ _ _ _ _ _ _ _ _ _ _
    (map-map (λ (s : FlatOf ℕ). s.out) (statement_of models) flat.statements ∙ sym (map-map (λ (s : FlatOf ℕ). s.out) (statement_of []) flat.statements))
    (row_covered models reads_by flat.statements (λ s. ap (λ zs. s.reads ++ zs) (other_control models s.kind)))
    (row_covered models (λ s. port_by s.out s.reads s.kind) flat.statements (λ s. other_ports models s.out s.reads s.kind))
    (row_covered models (λ s. control_by s.kind) flat.statements (λ s. other_control models s.kind))
    (row_covered models (λ s. typed_by s.out s.kind) flat.statements (λ s. other_typed models s.out s.kind))
    (row_covered models (λ s. cell_by s.out s.reads s.kind) flat.statements (λ s. other_cells models s.out s.reads s.kind))

-- the wiring of the design over its names
pub wiring_by_names : (models : List BlifModel) (flat : Flat) (f : ℕ → List ℕ) → wiring_of (named f (view_of models flat)) ≡ named_wires f (wires_of flat)
wiring_by_names models flat f = named_wiring f (view_of models flat) ∙ ap (named_wires f) (any_covers models flat)
