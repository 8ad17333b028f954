-- From where ports drive, by the table of what drives each number.
use Rattle.std.proofs.Common.{◌≡◌, ◌∙◌, ◌<◌, ℕ, zero, suc, List, [], ◌∷◌, ◌++◌, length, map, take, get_or, slice_get, Option, Some, refl, sym, ap, subst, inl, inr, arith}
use Rattle.std.specs.Prelude.{◌⊎◌}
use Rattle.std.specs.List.{All, Contains}
use Rattle.std.proofs.lemmas.Bool.{cases_order}
use Rattle.std.proofs.lemmas.List.{length-map}
use Rattle.std.proofs.lemmas.List.Elements.{All-contains, Contains-append_left, Contains-append_right}
use Rattle.std.proofs.lemmas.Option.{none-some, same_Some, slice_get_within, slice_get-get_or}
use Rattle.circuit_theory.proofs.Lists.{Contains-head, at_of, of_at}
use Rattle.circuit_theory.proofs.Numbers.{slice_get-map}
use Rattle.base_tables.proofs.TableLemmas.{key_at}
use Rattle.elaborate.specs.declared.flat.Flat.{Flat}
use Rattle.elaborate.specs.declared.flat.FlatStatement.{FlatStatement}
use Rattle.elaborate.specs.declared.flat.FlatKind.{FlatKind}
use Rattle.elaborate.specs.declared.flat.FlatKind.TheVariants as kind
use Rattle.elaborate.specs.Flat.{FlatOf, statement_of, kind_of}
use Rattle.flatten.specs.declared.connectivity.source.Source.{Source}
use Rattle.flatten.specs.declared.connectivity.source.Source.TheVariants as source
use Rattle.flatten.specs.connectivity.Wiring.{Wiring, PortOf, port_by, joined, wires_of}
use Rattle.flatten.specs.connectivity.Events.{IsNever}
use Rattle.flatten.specs.connectivity.Faults.{DrivesAgain}
use Rattle.flatten.specs.connectivity.Tables.{IsSource, AreSources, ArePorts}
use Rattle.flatten.specs.connectivity.Steps.{other_side, port_in, source_port, IsStatementWithin}
use Rattle.flatten.specs.connectivity.Solid.{IsSolid}
use Rattle.flatten.proofs.connectivity.Joined.{Contains-joined, Contains-joined_from}
use Rattle.flatten.proofs.connectivity.Bounds.{bounded, only, nothing}

-- what the statement at a place drives
pub out_at : (flat : Flat) (i : ℕ) (s : FlatStatement) → slice_get flat.statements i ≡ Some s → slice_get (wires_of flat).outs i ≡ Some s.out
unfolding wires_of
out_at flat i s here = slice_get-map (λ (t : FlatOf ℕ). t.out) (map (statement_of []) flat.statements) i (statement_of [] s) (slice_get-map (statement_of []) flat.statements i s here)

pub statement_at : (flat : Flat) (i n : ℕ) → slice_get (wires_of flat).outs i ≡ Some n → (s : FlatStatement) × (slice_get flat.statements i ≡ Some s) × (s.out ≡ n)
unfolding wires_of
statement_at flat i n here =
    let first = key_at (λ (t : FlatOf ℕ). t.out) (map (statement_of []) flat.statements) i n here in
    let own = key_at (statement_of []) flat.statements i first.0 first.1 in
    (own.0, own.1, ap (λ (t : FlatOf ℕ). t.out) own.2 ∙ first.2)

-- with one driver for each number, the place of a statement is known by what it drives
pub one_place : (w : Wiring ℕ) → IsNever (DrivesAgain w) → (i j n : ℕ) → slice_get w.outs i ≡ Some n → slice_get w.outs j ≡ Some n → i ≡ j
one_place w never i j n hi hj = by (cases_order i j)
  where
    taken : (k m : ℕ) → k < m → slice_get w.outs k ≡ Some n → slice_get (take m w.outs) k ≡ Some n
    taken k m below h = take_at w.outs k m below h
      where
        take_at : (xs : List ℕ) (k m : ℕ) → k < m → slice_get xs k ≡ Some n → slice_get (take m xs) k ≡ Some n
        take_at [] k m below h = absurd (none-some n h)
        take_at (x ∷ xs) k zero below h = absurd (omega (arith, below))
        take_at (x ∷ xs) zero (suc m) below h = h
        take_at (x ∷ xs) (suc k) (suc m) below h = take_at xs k m (omega (arith, below)) h

    again : (k m : ℕ) → k < m → slice_get w.outs k ≡ Some n → slice_get w.outs m ≡ Some n → ⊥
    again k m below hk hm = never m n (record { drives = hm; before = Contains-append_right (w.inputs ++ w.clocks) (take m w.outs) n (of_at (take m w.outs) k n (taken k m below hk)) })

    by : (i ≡ j) ⊎ ((i < j) ⊎ (j < i)) → i ≡ j
    by (inl e) = e
    by (inr (inl below)) = absurd (again i j below hi hj)
    by (inr (inr above)) = absurd (again j i above hj hi)

-- a port and the other side of its statement
port_of_side : (out : ℕ) (reads : List ℕ) (k : FlatKind) (m : ℕ) → (k ≡ kind.Port → length reads ≡ 1) → other_side reads k ≡ Some m → Contains (port_by out reads (kind_of [] k)) (record { out = out; from = m })
port_of_side out reads (kind.Gate model statement) m one h = absurd (none-some m h)
port_of_side out reads (kind.Latch edge control init) m one h = absurd (none-some m h)
port_of_side out [] kind.Port m one h = let e : 0 ≡ 1 = one refl in absurd (omega (arith, e))
port_of_side out (x ∷ others) kind.Port m one h =
    subst (λ z. Contains (port_by out (x ∷ others) (kind_of [] kind.Port)) (record { out = out; from = z })) (same_Some x m h) (Contains-head (record { out = out; from = x }) [])

side_of_port : (out : ℕ) (reads : List ℕ) (k : FlatKind) (p : PortOf ℕ) → Contains (port_by out reads (kind_of [] k)) p → (p.out ≡ out) × (other_side reads k ≡ Some p.from)
side_of_port out reads (kind.Gate model statement) p h = absurd (nothing p h)
side_of_port out reads (kind.Latch edge control init) p h = absurd (nothing p h)
side_of_port out [] kind.Port p h = absurd (nothing p h)
side_of_port out (x ∷ others) kind.Port p h =
    let one : (let q : PortOf ℕ = record { out = out; from = x } in q ≡ p) = only (record { out = out; from = x }) p h in
    (sym (ap (λ (q : PortOf ℕ). q.out) one), ap Some (ap (λ (q : PortOf ℕ). q.from) one))

-- a port of the wiring and its statement
pub port_there : (flat : Flat) (i : ℕ) (s : FlatStatement) (m : ℕ) → slice_get flat.statements i ≡ Some s → (s.kind ≡ kind.Port → length s.reads ≡ 1) → other_side s.reads s.kind ≡ Some m →
    Contains (wires_of flat).ports (record { out = s.out; from = m })
unfolding wires_of
port_there flat i s m here one side =
    let own = at_of (port_by s.out s.reads (kind_of [] s.kind)) (record { out = s.out; from = m }) (port_of_side s.out s.reads s.kind m one side) in
    let at = Contains-joined (λ (t : FlatOf ℕ). port_by t.out t.reads t.kind) (map (statement_of []) flat.statements) i (statement_of [] s) (record { out = s.out; from = m }) own.0
    (slice_get-map (statement_of []) flat.statements i s here) own.1 in
    of_at (joined (λ (t : FlatOf ℕ). port_by t.out t.reads t.kind) (map (statement_of []) flat.statements)) at.0 (record { out = s.out; from = m }) at.1

pub port_statement : (flat : Flat) (p : PortOf ℕ) → Contains (wires_of flat).ports p → (i : ℕ) × (s : FlatStatement) × (slice_get flat.statements i ≡ Some s) × (p.out ≡ s.out) × (other_side s.reads s.kind ≡ Some p.from)
unfolding wires_of
port_statement flat p h =
    let rows = λ (t : FlatOf ℕ). port_by t.out t.reads t.kind in
    let at = at_of (joined (λ (t : FlatOf ℕ). port_by t.out t.reads t.kind) (map (statement_of []) flat.statements)) p h in
    let found = Contains-joined_from (λ (t : FlatOf ℕ). port_by t.out t.reads t.kind) (map (statement_of []) flat.statements) p at.0 at.1 in
    let own = key_at (statement_of []) flat.statements found.0 found.1 found.2 in
    let side = side_of_port own.0.out own.0.reads own.0.kind p
    (subst (λ (t : FlatOf ℕ). Contains (port_by t.out t.reads t.kind) p) (sym own.2) (of_at (port_by found.1.out found.1.reads found.1.kind) found.3 p found.4)) in
    (found.0, own.0, own.1, side.0, side.1)

-- each source is a statement that is there
pub source_within : (flat : Flat) (n : ℕ) (s : Source) → IsSource ((wires_of flat).inputs ++ (wires_of flat).clocks) (wires_of flat).outs n s → IsStatementWithin (length flat.statements) s
source_within flat n source.Open own = tt
source_within flat n source.Input own = tt
source_within flat n (source.Statement i) own = let at = statement_at flat i n own in slice_get_within flat.statements i at.0 at.1

pub sources_within : (flat : Flat) (t : List Source) → AreSources ((wires_of flat).inputs ++ (wires_of flat).clocks) (wires_of flat).outs t → All (IsStatementWithin (length flat.statements)) t
sources_within flat t sources = λ k d below. source_within flat k (get_or t k d) (sources k (get_or t k d) (slice_get-get_or t k d below))

port_in_side : (o : Option FlatStatement) (s : FlatStatement) → o ≡ Some s → port_in o ≡ other_side s.reads s.kind
port_in_side o s e = ap port_in e

module _ (flat : Flat) (solid : IsSolid flat) (never : IsNever (DrivesAgain (wires_of flat))) (t : List Source) (len : length t ≡ length flat.names)
    (sources : AreSources ((wires_of flat).inputs ++ (wires_of flat).clocks) (wires_of flat).outs t) where
  from_source : (n m : ℕ) (s : Source) → IsSource ((wires_of flat).inputs ++ (wires_of flat).clocks) (wires_of flat).outs n s → source_port flat.statements s ≡ Some m → Contains (wires_of flat).ports (record { out = n; from = m })
  from_source n m source.Open own h = absurd (none-some m h)
  from_source n m source.Input own h = absurd (none-some m h)
  from_source n m (source.Statement i) own h =
      let at = statement_at flat i n own in
      let there = port_there flat i at.0 m at.1 (All-contains (λ (s : FlatStatement). s.kind ≡ kind.Port → length s.reads ≡ 1) flat.statements at.0 solid.ports (of_at flat.statements i at.0 at.1))
      (sym (port_in_side (slice_get flat.statements i) at.0 at.1) ∙ h) in
      subst (λ z. Contains (wires_of flat).ports (record { out = z; from = m })) at.2 there

  to_source : (n m i : ℕ) (p : FlatStatement) (s : Source) → slice_get flat.statements i ≡ Some p → p.out ≡ n → other_side p.reads p.kind ≡ Some m →
      IsSource ((wires_of flat).inputs ++ (wires_of flat).clocks) (wires_of flat).outs n s → source_port flat.statements s ≡ Some m
  to_source n m i p source.Open here out side own =
      absurd (own (Contains-append_right ((wires_of flat).inputs ++ (wires_of flat).clocks) (wires_of flat).outs n (of_at (wires_of flat).outs i n (out_at flat i p here ∙ ap Some out))))
  to_source n m i p source.Input here out side own =
      absurd (never i n (record { drives = out_at flat i p here ∙ ap Some out; before = Contains-append_left ((wires_of flat).inputs ++ (wires_of flat).clocks) (take i (wires_of flat).outs) n own }))
  to_source n m i p (source.Statement j) here out side own =
      let same : j ≡ i = one_place (wires_of flat) never j i n own (out_at flat i p here ∙ ap Some out) in
      ap (λ z. port_in (slice_get flat.statements z)) same ∙ port_in_side (slice_get flat.statements i) p here ∙ side

  pub ports_from : ArePorts (wires_of flat) (length flat.names) (map (source_port flat.statements) t)
  ports_from = record {
    len = length-map t (source_port flat.statements) ∙ len;
    from = λ n m h. let own = key_at (source_port flat.statements) t n (Some m) h in from_source n m own.0 (sources n own.0 own.1) own.2;
    all = λ n m h.
        let p = port_statement flat (record { out = n; from = m }) h in
        let below : n < length flat.names = ((bounded flat solid).ports (record { out = n; from = m }) h).0 in
        let s = slice_get-get_or t n source.Open (subst (λ z. n < z) (sym len) below) in
        slice_get-map (source_port flat.statements) t n (get_or t n source.Open) s
        ∙ ap Some (to_source n m p.0 p.1 (get_or t n source.Open) p.2 (sym p.3) p.4 (sources n (get_or t n source.Open) s));
    within = λ n m h. let own = key_at (source_port flat.statements) t n (Some m) h in ((bounded flat solid).ports (record { out = n; from = m }) (from_source n m own.0 (sources n own.0 own.1) own.2)).1;
  }
