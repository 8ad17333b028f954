-- Each signal of a wiring has a number below the size, and what that gives.
use Rattle.std.proofs.Common.{◌≡◌, ◌∙◌, ◌<◌, ℕ, zero, suc, List, [], ◌∷◌, map, length, slice_get, Some, None, sym, ap, subst, inl, inr}
use Rattle.std.specs.Prelude.{◌⊎◌, ◌^◌, true, nat_lt, ◌&&◌}
use Rattle.std.proofs.lemmas.Bool.{ltb-true, eqb-true, and_parts}
use Rattle.std.proofs.lemmas.List.Sums.{AllPass-from_list_all}
use Rattle.flatten.specs.connectivity.Solid.{IsSolid}
use Rattle.std.specs.List.{All, Contains, list_all}
use Rattle.std.proofs.lemmas.List.Elements.{All-contains, All-nil, All-cons, All-weaker, Contains-append_cases}
use Rattle.std.proofs.lemmas.Option.{none-some, same_Some}
use Rattle.circuit_theory.proofs.Lists.{Contains-head, Contains-map_from, at_of, of_at}
use Rattle.base_tables.proofs.TableLemmas.{key_at}
use Rattle.elaborate.specs.declared.flat.Flat.{Flat}
use Rattle.elaborate.specs.declared.flat.FlatStatement.{FlatStatement}
use Rattle.elaborate.specs.declared.flat.FlatKind.{FlatKind}
use Rattle.elaborate.specs.declared.flat.FlatKind.TheVariants as kind
use Rattle.elaborate.specs.Within.{is_within, has_clock_within, can_read, reads_as_kind}
use Rattle.elaborate.specs.Flat.{FlatOf, statement_of, kind_of}
use Rattle.flatten.specs.connectivity.Wiring.{Wiring, PortOf, Cell, joined, control_by, reads_by, port_by, cell_by, wires_of}
use Rattle.flatten.proofs.connectivity.Joined.{Contains-joined_from}

pub record IsBounded (w : Wiring ℕ) (size : ℕ) : Type 0 where
  pub inputs : (n : ℕ) → Contains w.inputs n → n < size
  pub clocks : (n : ℕ) → Contains w.clocks n → n < size
  pub outputs : (n : ℕ) → Contains w.outputs n → n < size
  pub outs : (n : ℕ) → Contains w.outs n → n < size
  pub reads : (n : ℕ) → Contains w.reads n → n < size
  pub controls : (n : ℕ) → Contains w.controls n → n < size
  pub ports : (p : PortOf ℕ) → Contains w.ports p → (p.out < size) × (p.from < size)
  pub cells : (c : Cell ℕ) → Contains w.cells c → (c.out < size) × ((n : ℕ) → Contains c.reads n → n < size)

-- the statement behind what stands in a row
behind : {Y : Type 0} (of : FlatOf ℕ → List Y) (ss : List FlatStatement) (y : Y) → Contains (joined of (map (statement_of []) ss)) y →
    (s : FlatStatement) × Contains ss s × Contains (of (statement_of [] s)) y
behind of ss y h =
    let at = at_of (joined of (map (statement_of []) ss)) y h in
    let found = Contains-joined_from of (map (statement_of []) ss) y at.0 at.1 in
    let own = key_at (statement_of []) ss found.0 found.1 found.2 in
    (own.0, of_at ss found.0 own.0 own.1, subst (λ (s : FlatOf ℕ). Contains (of s) y) (sym own.2) (of_at (of found.1) found.3 y found.4))

-- what stands in a list of one
pub only : {X : Type 0} (x y : X) → Contains (x ∷ []) y → x ≡ y
only x y h = by (at_of (x ∷ []) y h)
  where
    by : ((i : ℕ) × (slice_get (x ∷ []) i ≡ Some y)) → x ≡ y
    by (zero, e) = same_Some x y e
    by (suc i, e) = absurd (none-some y e)

pub nothing : {X : Type 0} (y : X) → Contains [] y → ⊥
nothing y h = none-some y (at_of [] y h).1

port_below : (size out : ℕ) (reads : List ℕ) (k : FlatKind) (p : PortOf ℕ) → out < size → All (λ n. n < size) reads → Contains (port_by out reads (kind_of [] k)) p → (p.out < size) × (p.from < size)
port_below size out reads (kind.Gate model statement) p own within h = absurd (nothing p h)
port_below size out reads (kind.Latch edge control init) p own within h = absurd (nothing p h)
port_below size out [] kind.Port p own within h = absurd (nothing p h)
port_below size out (from ∷ others) kind.Port p own within h =
    let one : (let q : PortOf ℕ = record { out = out; from = from } in q ≡ p) = only (record { out = out; from = from }) p h in
    subst (λ (q : PortOf ℕ). (q.out < size) × (q.from < size)) one (own, All-contains (λ n. n < size) (from ∷ others) from within (Contains-head from others))

cell_below : (size out : ℕ) (reads : List ℕ) (k : FlatKind) (c : Cell ℕ) → out < size → All (λ n. n < size) reads → Contains (cell_by out reads (kind_of [] k)) c → (c.out < size) × ((n : ℕ) → Contains c.reads n → n < size)
cell_below size out reads (kind.Gate model statement) c own within h =
    let one : (let q : Cell ℕ = record { out = out; reads = reads } in q ≡ c) = only (record { out = out; reads = reads }) c h in
    subst (λ (q : Cell ℕ). (q.out < size) × ((n : ℕ) → Contains q.reads n → n < size)) one (own, λ n at. All-contains (λ m. m < size) reads n within at)
cell_below size out reads (kind.Latch edge control init) c own within h =
    let one : (let q : Cell ℕ = record { out = out; reads = reads } in q ≡ c) = only (record { out = out; reads = reads }) c h in
    subst (λ (q : Cell ℕ). (q.out < size) × ((n : ℕ) → Contains q.reads n → n < size)) one (own, λ n at. All-contains (λ m. m < size) reads n within at)
cell_below size out reads kind.Port c own within h = absurd (nothing c h)

-- the numbers of a flat design are those of its names
pub bounded : (flat : Flat) → IsSolid flat → IsBounded (wires_of flat) (length flat.names)
unfolding wires_of
bounded flat solid = record {
  inputs = λ n h. All-contains (λ m. m < length flat.names) flat.inputs n solid.inputs h;
  clocks = λ n h. All-contains (λ m. m < length flat.names) flat.clocks n solid.clocks h;
  outputs = λ n h. All-contains (λ m. m < length flat.names) flat.outputs n solid.outputs h;
  outs = λ n h.
      let first = Contains-map_from (λ (s : FlatOf ℕ). s.out) (map (statement_of []) flat.statements) n h in
      let own = Contains-map_from (statement_of []) flat.statements first.0 first.1 in
      subst (λ m. m < length flat.names) (ap (λ (s : FlatOf ℕ). s.out) own.2 ∙ first.2) (out_of own.0 own.1);
  reads = λ n h.
      let own = behind reads_by flat.statements n h in
      by_reads own.0 n own.1 (Contains-append_cases own.0.reads (control_by (kind_of [] own.0.kind)) n own.2);
  controls = λ n h. let own = behind (λ s. control_by s.kind) flat.statements n h in by_control own.0 n own.1 own.2;
  ports = λ p h. let own = behind (λ s. port_by s.out s.reads s.kind) flat.statements p h in port_below (length flat.names) own.0.out own.0.reads own.0.kind p (out_of own.0 own.1) (reads_of own.0 own.1) own.2;
  cells = λ c h. let own = behind (λ s. cell_by s.out s.reads s.kind) flat.statements c h in cell_below (length flat.names) own.0.out own.0.reads own.0.kind c (out_of own.0 own.1) (reads_of own.0 own.1) own.2;
}
  where
    out_of : (s : FlatStatement) → Contains flat.statements s → s.out < length flat.names
    out_of s h = All-contains (λ (t : FlatStatement). t.out < length flat.names) flat.statements s solid.outs h

    reads_of : (s : FlatStatement) → Contains flat.statements s → All (λ n. n < length flat.names) s.reads
    reads_of s h = All-contains (λ (t : FlatStatement). All (λ n. n < length flat.names) t.reads) flat.statements s solid.reads h

    by_control : (s : FlatStatement) (n : ℕ) → Contains flat.statements s → Contains (control_by (kind_of [] s.kind)) n → n < length flat.names
    by_control s n h at =
        All-contains (λ m. m < length flat.names) (control_by (kind_of [] s.kind)) n
        (All-contains (λ (t : FlatStatement). All (λ m. m < length flat.names) (control_by (kind_of [] t.kind))) flat.statements s solid.controls h) at

    by_reads : (s : FlatStatement) (n : ℕ) → Contains flat.statements s → Contains s.reads n ⊎ Contains (control_by (kind_of [] s.kind)) n → n < length flat.names
    by_reads s n h (inl at) = All-contains (λ m. m < length flat.names) s.reads n (reads_of s h) at
    by_reads s n h (inr at) = by_control s n h at

control_within : (size : ℕ) (k : FlatKind) → has_clock_within size k ≡ true → All (λ n. n < size) (control_by (kind_of [] k))
control_within size (kind.Gate model statement) h = All-nil (λ n. n < size)
control_within size (kind.Latch edge None init) h = All-nil (λ n. n < size)
control_within size (kind.Latch edge (Some control) init) h = All-cons (λ n. n < size) control [] (ltb-true control size h) (All-nil (λ n. n < size))
control_within size kind.Port h = All-nil (λ n. n < size)

port_reads : (count : ℕ) (k : FlatKind) → can_read count k ≡ true → k ≡ kind.Port → count ≡ 1
port_reads count (kind.Gate model statement) h e = absurd (cc)
port_reads count (kind.Latch edge control init) h e = eqb-true count 1 h
port_reads count kind.Port h e = eqb-true count 1 h

-- what the tests of a flat design say
pub solid_from : (flat : Flat) → length flat.names < 2 ^ 32 → All (λ n. n < length flat.names) flat.inputs → All (λ n. n < length flat.names) flat.clocks → All (λ n. n < length flat.names) flat.outputs →
    list_all (is_within (length flat.names)) flat.statements ≡ true → list_all reads_as_kind flat.statements ≡ true → IsSolid flat
solid_from flat few inputs clocks outputs within shaped = record {
  few = few;
  inputs = inputs;
  clocks = clocks;
  outputs = outputs;
  outs = All-weaker (λ s. is_within (length flat.names) s ≡ true) (λ s. s.out < length flat.names) (λ s h. ltb-true s.out (length flat.names) (parts s h).0) flat.statements each;
  reads = All-weaker (λ s. is_within (length flat.names) s ≡ true) (λ s. All (λ n. n < length flat.names) s.reads)
      (λ s h. All-weaker (λ n. nat_lt n (length flat.names) ≡ true) (λ n. n < length flat.names) (λ n k. ltb-true n (length flat.names) k) s.reads (AllPass-from_list_all (λ n. nat_lt n (length flat.names)) s.reads (more s h).0)) flat.statements each;
  controls = All-weaker (λ s. is_within (length flat.names) s ≡ true) (λ s. All (λ n. n < length flat.names) (control_by (kind_of [] s.kind))) (λ s h. control_within (length flat.names) s.kind (more s h).1) flat.statements each;
  ports = All-weaker (λ s. reads_as_kind s ≡ true) (λ s. s.kind ≡ kind.Port → length s.reads ≡ 1) (λ s h. port_reads (length s.reads) s.kind h) flat.statements (AllPass-from_list_all reads_as_kind flat.statements shaped);
}
  where
    each : All (λ s. is_within (length flat.names) s ≡ true) flat.statements
    each = AllPass-from_list_all (is_within (length flat.names)) flat.statements within

    parts : (s : FlatStatement) → is_within (length flat.names) s ≡ true → (nat_lt s.out (length flat.names) ≡ true) × ((list_all (λ n. nat_lt n (length flat.names)) s.reads && has_clock_within (length flat.names) s.kind) ≡ true)
    parts s h = and_parts (nat_lt s.out (length flat.names)) (list_all (λ n. nat_lt n (length flat.names)) s.reads && has_clock_within (length flat.names) s.kind) h

    more : (s : FlatStatement) → is_within (length flat.names) s ≡ true → (list_all (λ n. nat_lt n (length flat.names)) s.reads ≡ true) × (has_clock_within (length flat.names) s.kind ≡ true)
    more s h = and_parts (list_all (λ n. nat_lt n (length flat.names)) s.reads) (has_clock_within (length flat.names) s.kind) (parts s h).1
