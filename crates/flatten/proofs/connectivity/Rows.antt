-- The rows of a wiring, statement by statement.
use Rattle.std.proofs.Common.{◌≡◌, ℕ, List, [], map, slice_get, Some, refl, sym, ap, subst}
use Rattle.std.specs.Prelude.{slice_index}
use Rattle.std.specs.List.{Contains}
use Rattle.std.proofs.lemmas.Option.{none-some, same_Some}
use Rattle.std.proofs.lemmas.List.Elements.{Contains-append_left, Contains-append_right}
use Rattle.circuit_theory.proofs.Lists.{Contains-head, at_of, of_at, map-map}
use Rattle.elaborate.specs.declared.flat.Flat.{Flat}
use Rattle.elaborate.specs.declared.flat.FlatStatement.{FlatStatement}
use Rattle.elaborate.specs.declared.flat.FlatKind.{FlatKind}
use Rattle.elaborate.specs.declared.flat.FlatKind.TheVariants as kind
use Rattle.elaborate.specs.Flat.{FlatOf, statement_of, kind_of}
use Rattle.flatten.specs.connectivity.Wiring.{PortOf, Cell, joined, control_by, reads_by, typed_by, cell_by, wires_of}
use Rattle.flatten.specs.connectivity.Steps.{other_side}
use Rattle.flatten.proofs.connectivity.Joined.{joined-map, Contains-joined, Contains-joined_from}
use Rattle.flatten.proofs.connectivity.Bounds.{only, nothing}
use Rattle.flatten.proofs.connectivity.PortTables.{port_statement}

pub outs_are : (flat : Flat) → (wires_of flat).outs ≡ map (λ (s : FlatStatement). s.out) flat.statements
unfolding wires_of
outs_are flat = map-map (λ (s : FlatOf ℕ). s.out) (statement_of []) flat.statements

pub reads_are : (flat : Flat) → (wires_of flat).reads ≡ joined (λ (s : FlatStatement). reads_by (statement_of [] s)) flat.statements
unfolding wires_of
reads_are flat = joined-map reads_by (statement_of []) flat.statements

pub controls_are : (flat : Flat) → (wires_of flat).controls ≡ joined (λ (s : FlatStatement). control_by (kind_of [] s.kind)) flat.statements
unfolding wires_of
controls_are flat = joined-map (λ (s : FlatOf ℕ). control_by s.kind) (statement_of []) flat.statements

pub typed_are : (flat : Flat) → (wires_of flat).typed ≡ joined (λ (s : FlatStatement). typed_by s.out (kind_of [] s.kind)) flat.statements
unfolding wires_of
typed_are flat = joined-map (λ (s : FlatOf ℕ). typed_by s.out s.kind) (statement_of []) flat.statements

pub cells_are : (flat : Flat) → (wires_of flat).cells ≡ joined (λ (s : FlatStatement). cell_by s.out s.reads (kind_of [] s.kind)) flat.statements
unfolding wires_of
cells_are flat = joined-map (λ (s : FlatOf ℕ). cell_by s.out s.reads s.kind) (statement_of []) flat.statements

pub inputs_are : (flat : Flat) → ((wires_of flat).inputs ≡ flat.inputs) × ((wires_of flat).clocks ≡ flat.clocks) × ((wires_of flat).outputs ≡ flat.outputs)
unfolding wires_of
inputs_are flat = (refl, refl, refl)

-- what a statement's row has, the wiring has
pub in_row : {Y : Type 0} (of : FlatStatement → List Y) (ss : List FlatStatement) (i : ℕ) (s : FlatStatement) (y : Y) → slice_get ss i ≡ Some s → Contains (of s) y → Contains (joined of ss) y
in_row of ss i s y here h =
    let own = at_of (of s) y h in
    let at = Contains-joined of ss i s y own.0 here own.1 in
    of_at (joined of ss) at.0 y at.1

pub of_row : {Y : Type 0} (of : FlatStatement → List Y) (ss : List FlatStatement) (y : Y) → Contains (joined of ss) y → (i : ℕ) × (s : FlatStatement) × (slice_get ss i ≡ Some s) × Contains (of s) y
of_row of ss y h =
    let at = at_of (joined of ss) y h in
    let found = Contains-joined_from of ss y at.0 at.1 in
    (found.0, found.1, found.2, of_at (of found.1) found.3 y found.4)

-- a gate or latch is a cell, and a cell drives what its statement drives
cell_of : (out : ℕ) (reads : List ℕ) (k : FlatKind) → (k ≡ kind.Port → ⊥) → (c : Cell ℕ) × Contains (cell_by out reads (kind_of [] k)) c × (c.out ≡ out)
cell_of out reads (kind.Gate model statement) free = (record { out = out; reads = reads }, Contains-head (record { out = out; reads = reads }) [], refl)
cell_of out reads (kind.Latch edge control init) free = (record { out = out; reads = reads }, Contains-head (record { out = out; reads = reads }) [], refl)
cell_of out reads kind.Port free = absurd (free refl)

cell_out : (out : ℕ) (reads : List ℕ) (k : FlatKind) (c : Cell ℕ) → Contains (cell_by out reads (kind_of [] k)) c → c.out ≡ out
cell_out out reads (kind.Gate model statement) c h = sym (ap (λ (z : Cell ℕ). z.out) (only (record { out = out; reads = reads }) c h))
cell_out out reads (kind.Latch edge control init) c h = sym (ap (λ (z : Cell ℕ). z.out) (only (record { out = out; reads = reads }) c h))
cell_out out reads kind.Port c h = absurd (nothing c h)

pub cell_there : (flat : Flat) (i : ℕ) (s : FlatStatement) → slice_get flat.statements i ≡ Some s → (s.kind ≡ kind.Port → ⊥) → (c : Cell ℕ) × Contains (wires_of flat).cells c × (c.out ≡ s.out)
cell_there flat i s here free =
    let own = cell_of s.out s.reads s.kind free in
    (own.0, subst (λ zs. Contains zs own.0) (sym (cells_are flat)) (in_row (λ (t : FlatStatement). cell_by t.out t.reads (kind_of [] t.kind)) flat.statements i s own.0 here own.1), own.2)

pub cell_statement : (flat : Flat) (c : Cell ℕ) → Contains (wires_of flat).cells c → (i : ℕ) × (s : FlatStatement) × (slice_get flat.statements i ≡ Some s) × (c.out ≡ s.out)
cell_statement flat c h =
    let own = of_row (λ (t : FlatStatement). cell_by t.out t.reads (kind_of [] t.kind)) flat.statements c (subst (λ zs. Contains zs c) (cells_are flat) h) in
    (own.0, own.1, own.2, cell_out own.1.out own.1.reads own.1.kind c own.3)

-- controls are read, and so is the other side of a port
pub control_read : (flat : Flat) (n : ℕ) → Contains (wires_of flat).controls n → Contains (wires_of flat).reads n
control_read flat n h =
    let own = of_row (λ (t : FlatStatement). control_by (kind_of [] t.kind)) flat.statements n (subst (λ zs. Contains zs n) (controls_are flat) h) in
    subst (λ zs. Contains zs n) (sym (reads_are flat))
    (in_row (λ (t : FlatStatement). reads_by (statement_of [] t)) flat.statements own.0 own.1 n own.2 (Contains-append_right own.1.reads (control_by (kind_of [] own.1.kind)) n own.3))

side_read : (reads : List ℕ) (k : FlatKind) (m : ℕ) → (k ≡ kind.Port → Contains reads (slice_index reads 0)) → other_side reads k ≡ Some m → Contains reads m
side_read reads (kind.Gate model statement) m one h = absurd (none-some m h)
side_read reads (kind.Latch edge control init) m one h = absurd (none-some m h)
side_read reads kind.Port m one h = subst (λ z. Contains reads z) (same_Some (slice_index reads 0) m h) (one refl)

pub from_read : (flat : Flat) (p : PortOf ℕ) → ((s : FlatStatement) → Contains flat.statements s → s.kind ≡ kind.Port → Contains s.reads (slice_index s.reads 0)) → Contains (wires_of flat).ports p → Contains (wires_of flat).reads p.from
from_read flat p one h =
    let at = port_statement flat p h in
    let own = side_read at.1.reads at.1.kind p.from (one at.1 (of_at flat.statements at.0 at.1 at.2)) at.4 in
    subst (λ zs. Contains zs p.from) (sym (reads_are flat))
    (in_row (λ (t : FlatStatement). reads_by (statement_of [] t)) flat.statements at.0 at.1 p.from at.2 (Contains-append_left at.1.reads (control_by (kind_of [] at.1.kind)) p.from own))
