-- The latch graph of a flat circuit is its design's.
use Rattle.std.proofs.Common.{◌≡◌, ◌∙◌, ℕ, List, map, refl, sym, ap, subst, inl, inr}
use Rattle.std.specs.List.{Contains}
use Rattle.circuit_theory.specs.Cover.{Cover}
use Rattle.circuit_theory.specs.Circuit.{Circuit, Equation, Gate, Latch, Port, IsSource, Reads, Reaches}
use Rattle.circuit_theory.specs.Joined.{moved}
use Rattle.circuit_theory.specs.Depth.{LatchReads, LatchPath, HasCycle}
use Rattle.circuit_theory.specs.Flattened.{Follows}
use Rattle.circuit_theory.specs.Run.{NoneEnabled}
use Rattle.circuit_theory.proofs.Lists.{Contains-map, Contains-map_from}
use Rattle.net_assembly.proofs.net_alike.Ends.{gate_home}
use Rattle.job_base.proofs.design_laws.FlatParts.{FlatDesign, latch_down, latch_up, input_down}

module _ {P : Type 0} {d : Circuit P} {net : Circuit ℕ} {clocked : P → Type 0} (f : FlatDesign d net clocked) where
  pub reaches_down : {p u : P} → Reaches d p u → Reaches net (f.signal p) (f.signal u)
  reaches_down Reaches.here = Reaches.here
  reaches_down (Reaches.there (Reads.by_gate {out = out} {q = q} {fanins = fanins} {cover = cover} h k) rest) =
      Reaches.there (Reads.by_gate {fanins = map f.signal fanins} {cover = cover} (f.circuit.gate out fanins cover h) (Contains-map f.signal fanins q k)) (reaches_down rest)
  reaches_down {u = u} (Reaches.there (Reads.by_port {out = out} {from = from} h) rest) = subst (λ (i : ℕ). Reaches net i (f.signal u)) (sym (f.circuit.port out from h)) (reaches_down rest)

  pub source_down : (p : P) → IsSource d p → IsSource net (f.signal p)
  source_down p (inl i) = inl (i.0, input_down f i.0 p i.1)
  source_down p (inr l) = inr (l.0, f.signal l.1, latch_down f l.0 p l.1 l.2)

  edge_down : (removed : List (List ℕ)) {u v : P} → LatchReads d NoneEnabled removed u v → LatchReads net NoneEnabled removed (f.signal u) (f.signal v)
  edge_down removed {u} {v} r = record {
    name = r.name;
    next = f.signal r.next;
    latch = latch_down f r.name u r.next r.latch;
    kept = r.kept;
    other_name = r.other_name;
    other_next = f.signal r.other_next;
    other = latch_down f r.other_name v r.other_next r.other;
    other_kept = r.other_kept;
    cone = (source_down v r.cone.0, reaches_down r.cone.1);
    no_self_edge = λ e. absurd e;
  }

  path_down : (removed : List (List ℕ)) {u v : P} → LatchPath d NoneEnabled removed u v → LatchPath net NoneEnabled removed (f.signal u) (f.signal v)
  path_down removed (LatchPath.edge r) = LatchPath.edge (edge_down removed r)
  path_down removed (LatchPath.step r rest) = LatchPath.step (edge_down removed r) (path_down removed rest)

  pub cycle_down : (removed : List (List ℕ)) → HasCycle d NoneEnabled removed → HasCycle net NoneEnabled removed
  cycle_down removed h = (f.signal h.0, path_down removed h.1)

  pub reaches_along : {p q u : P} → Follows d p q → Reaches d q u → Reaches d p u
  reaches_along Follows.here r = r
  reaches_along (Follows.there h rest) r = Reaches.there (Reads.by_port h) (reaches_along rest r)

  pub reaches_up : {i j : ℕ} → Reaches net i j → Reaches d (f.origin i) (f.origin j)
  reaches_up Reaches.here = Reaches.here
  reaches_up (Reaches.there (Reads.by_port {out = out} {from = from} h) rest) = absurd (f.circuit.no_port out from h)
  reaches_up {j = j} (Reaches.there (Reads.by_gate {out = i} {q = q} {fanins = fanins} {cover = cover} h k) rest) = let x = f.circuit.only (Gate i fanins cover) h in by (reaches_up rest) x.0 x.1 x.2
    where
      by : Reaches d (f.origin q) (f.origin j) → (x : Equation P) → Contains d.equations x → moved f.signal x ≡ Gate i fanins cover → Reaches d (f.origin i) (f.origin j)
      by on (Gate out fans own) c is =
          let out_is : f.signal out ≡ i = cc in
          let fans_are : map f.signal fans ≡ fanins = cc in
          let home : f.origin i ≡ out = ap f.origin (sym out_is) ∙ gate_home d net f.size clocked f.origin f.signal f.single f.circuit out fans own c in
          let found = Contains-map_from f.signal fans q (subst (λ (xs : List ℕ). Contains xs q) (sym fans_are) k) in
          let ports : Follows d found.0 (f.origin q) = subst (λ (m : ℕ). Follows d found.0 (f.origin m)) found.2 ((f.circuit.read out fans own c).1 found.0 found.1).follows in
          subst (λ (p : P). Reaches d p (f.origin j)) (sym home) (Reaches.there (Reads.by_gate {fanins = fans} {cover = own} c found.1) (reaches_along ports on))
      by on (Latch name out next) c is = absurd (cc)
      by on (Port out from) c is = absurd (cc)

  edge_up : (removed : List (List ℕ)) {u v : ℕ} → LatchReads net NoneEnabled removed u v → LatchReads d NoneEnabled removed (f.origin u) (f.origin v)
  edge_up removed {u} {v} r =
      let x = latch_up f r.name u r.next r.latch in
      let y = latch_up f r.other_name v r.other_next r.other in
      record {
        name = r.name;
        next = x.takes;
        latch = x.latch;
        kept = r.kept;
        other_name = r.other_name;
        other_next = y.takes;
        other = y.latch;
        other_kept = r.other_kept;
        cone = (inr (r.other_name, y.takes, y.latch), reaches_along x.follows (reaches_up r.cone.1));
        no_self_edge = λ e. absurd e;
      }

  path_up : (removed : List (List ℕ)) {u v : ℕ} → LatchPath net NoneEnabled removed u v → LatchPath d NoneEnabled removed (f.origin u) (f.origin v)
  path_up removed (LatchPath.edge r) = LatchPath.edge (edge_up removed r)
  path_up removed (LatchPath.step r rest) = LatchPath.step (edge_up removed r) (path_up removed rest)

  pub cycle_up : (removed : List (List ℕ)) → HasCycle net NoneEnabled removed → HasCycle d NoneEnabled removed
  cycle_up removed h = (f.origin h.0, path_up removed h.1)
