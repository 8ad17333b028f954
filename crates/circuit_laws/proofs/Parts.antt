-- A circuit as a part of a larger one: its cones, enabled latches and marks are those that it has there.
use Rattle.std.proofs.Common.{◌≡◌, ◌≢◌, ℕ, ◌<◌, Bool, true, false, List, [], map, refl, sym, ◌∙◌, ap, subst, arith, inl, inr}
use Rattle.std.specs.Prelude.{◌⊎◌}
use Rattle.std.specs.List.{Contains}
use Rattle.circuit_theory.specs.Circuit.{Circuit, Equation, Gate, Latch, Port, IsLatch, IsSource, Meets, InCone, Reads, Reaches, out_of}
use Rattle.circuit_theory.specs.Run.{ExtendsWith, Loads, CanPut, IsEnabled, IsDetermined, Marked}
use Rattle.circuit_theory.specs.Joined.{moved}
use Rattle.circuit_theory.proofs.Lists.{Contains-map, Contains-map_from}

-- f places the circuit c in j; `replace y v` has v at c's places, and y elsewhere
pub record IsPart {P R : Type 0} (c : Circuit P) (j : Circuit R) (f : P → R) (replace : (R → Bool) → (P → Bool) → R → Bool) : Type 0 where
  pub one : (p q : P) → f p ≡ f q → p ≡ q
  pub equation : (e : Equation P) → Contains c.equations e → Contains j.equations (moved f e)
  pub equation_from : (e : Equation R) → Contains j.equations e → (p : P) → out_of e ≡ f p → (x : Equation P) × Contains c.equations x × (moved f x ≡ e)
  pub input : (name : List ℕ) (p : P) → Contains c.inputs (record { name = name; place = p }) → Contains j.inputs (record { name = name; place = f p })
  pub input_from : (name : List ℕ) (p : P) → Contains j.inputs (record { name = name; place = f p }) → Contains c.inputs (record { name = name; place = p })
  pub inside : (y : R → Bool) (v : P → Bool) (p : P) → replace y v (f p) ≡ v p
  pub outside : (y : R → Bool) (v : P → Bool) (r : R) → ((p : P) × (f p ≡ r)) ⊎ (replace y v r ≡ y r)
  pub meets : (y : R → Bool) (v : P → Bool) → Meets j y → Meets c v → Meets j (replace y v)
  pub meets_from : (y : R → Bool) → Meets j y → Meets c (λ p. y (f p))

abbrev fanins_of : {P : Type 0} → Equation P → List P
fanins_of (Gate out fanins cover) = fanins
fanins_of (Latch name out next) = []
fanins_of (Port out from) = []

abbrev name_of : {P : Type 0} → Equation P → List ℕ
name_of (Gate out fanins cover) = []
name_of (Latch name out next) = name
name_of (Port out from) = []

abbrev next_of : {P : Type 0} → Equation P → P
next_of (Gate out fanins cover) = out
next_of (Latch name out next) = next
next_of (Port out from) = from

module _ {P R : Type 0} (c : Circuit P) (j : Circuit R) (f : P → R) (replace : (R → Bool) → (P → Bool) → R → Bool) (part : IsPart c j f replace) where
  pub latch_up : (name : List ℕ) (u next : P) → IsLatch c name u next → IsLatch j name (f u) (f next)
  latch_up name u next h = part.equation (Latch name u next) h

  pub latch_from : (name : List ℕ) (u : P) (n : R) → IsLatch j name (f u) n → (next : P) × IsLatch c name u next × (f next ≡ n)
  latch_from name u n h = let x = part.equation_from (Latch name (f u) n) h u refl in go x.0 x.1 x.2
    where
      go : (x : Equation P) → Contains c.equations x → moved f x ≡ Latch name (f u) n → (next : P) × IsLatch c name u next × (f next ≡ n)
      go (Gate out fanins cover) k e = cc
      go (Port out from) k e = cc
      go (Latch m o t) k e =
          (t, subst (λ (w : P). IsLatch c name w t) (part.one o u (ap out_of e)) (subst (λ (w : List ℕ). IsLatch c w o t) (ap name_of e) k), ap next_of e)

  pub source_up : (p : P) → IsSource c p → IsSource j (f p)
  source_up p (inl i) = inl (i.0, part.input i.0 p i.1)
  source_up p (inr l) = inr (l.0, f l.1, latch_up l.0 p l.1 l.2)

  pub source_from : (p : P) → IsSource j (f p) → IsSource c p
  source_from p (inl i) = inl (i.0, part.input_from i.0 p i.1)
  source_from p (inr l) = let x = latch_from l.0 p l.1 l.2 in inr (l.0, x.0, x.1)

  pub reads_up : {p q : P} → Reads c p q → Reads j (f p) (f q)
  reads_up {p} {q} (Reads.by_gate {fanins = fanins} {cover = cover} eq h) =
      Reads.by_gate {fanins = map f fanins} {cover = cover} (part.equation (Gate p fanins cover) eq) (Contains-map f fanins q h)
  reads_up {p} {q} (Reads.by_port eq) = Reads.by_port (part.equation (Port p q) eq)

  pub reads_from : {s r : R} → Reads j s r → (p : P) → f p ≡ s → (q : P) × (f q ≡ r) × Reads c p q
  reads_from {s} {r} (Reads.by_gate {fanins = fanins} {cover = cover} eq h) p e = let x = part.equation_from (Gate s fanins cover) eq p (sym e) in go x.0 x.1 x.2
    where
      go : (x : Equation P) → Contains c.equations x → moved f x ≡ Gate s fanins cover → (q : P) × (f q ≡ r) × Reads c p q
      go (Latch m o t) k w = cc
      go (Port o from) k w = cc
      go (Gate o fs cv) k w =
          let at : o ≡ p = part.one o p (ap out_of w ∙ sym e) in
          let there = Contains-map_from f fs r (subst (λ (zs : List R). Contains zs r) (sym (ap fanins_of w)) h) in
          (there.0, there.2, Reads.by_gate (subst (λ (z : P). Contains c.equations (Gate z fs cv)) at k) there.1)
  reads_from {s} {r} (Reads.by_port eq) p e = let x = part.equation_from (Port s r) eq p (sym e) in go x.0 x.1 x.2
    where
      go : (x : Equation P) → Contains c.equations x → moved f x ≡ Port s r → (q : P) × (f q ≡ r) × Reads c p q
      go (Gate o fs cv) k w = cc
      go (Latch m o t) k w = cc
      go (Port o from) k w = (from, ap next_of w, Reads.by_port (subst (λ (z : P). Contains c.equations (Port z from)) (part.one o p (ap out_of w ∙ sym e)) k))

  pub reaches_up : {p q : P} → Reaches c p q → Reaches j (f p) (f q)
  reaches_up Reaches.here = Reaches.here
  reaches_up (Reaches.there reads rest) = Reaches.there (reads_up reads) (reaches_up rest)

  pub reaches_from : {s r : R} → Reaches j s r → (p : P) → f p ≡ s → (q : P) × (f q ≡ r) × Reaches c p q
  reaches_from Reaches.here p e = (p, e, Reaches.here)
  reaches_from (Reaches.there reads rest) p e =
      let x = reads_from reads p e in
      let y = reaches_from rest x.0 x.1 in
      (y.0, y.1, Reaches.there x.2 y.2)

  pub cone_up : (p u : P) → InCone c p u → InCone j (f p) (f u)
  cone_up p u h = (source_up u h.0, reaches_up h.1)

  pub cone_from : (p : P) (r : R) → InCone j (f p) r → (u : P) × (f u ≡ r) × InCone c p u
  cone_from p r h = let x = reaches_from h.1 p refl in (x.0, x.1, (source_from x.0 (subst (IsSource j) (sym x.1) h.0), x.2))

  pub extends_from : (u : P) (bit : Bool) (x v : R → Bool) → ExtendsWith j (f u) bit x v → ExtendsWith c u bit (λ p. x (f p)) (λ p. v (f p))
  extends_from u bit x v ex = record { meets = part.meets_from v ex.meets; sources = λ p s n. ex.sources (f p) (source_up p s) (λ e. n (part.one p u e)); put = ex.put }

  pub extends_up : (u : P) (bit : Bool) (y : R → Bool) (x v : P → Bool) → Meets j y → ((p : P) → IsSource c p → x p ≡ y (f p)) → ExtendsWith c u bit x v → ExtendsWith j (f u) bit y (replace y v)
  extends_up u bit y x v meets from ex = record { meets = part.meets y v meets ex.meets; sources = λ r s n. go r s n (part.outside y v r); put = part.inside y v u ∙ ex.put }
    where
      go : (r : R) → IsSource j r → r ≢ f u → ((p : P) × (f p ≡ r)) ⊎ (replace y v r ≡ y r) → replace y v r ≡ y r
      go r s n (inr e) = e
      go r s n (inl p) =
          let own = source_from p.0 (subst (IsSource j) (sym p.1) s) in
          ap (replace y v) (sym p.1) ∙ (part.inside y v p.0 ∙ (ex.sources p.0 own (λ e. n (sym p.1 ∙ ap f e)) ∙ (from p.0 own ∙ ap y p.1)))

  pub loads_up : (y : R → Bool) (u next : P) → Meets j y → Loads c (λ p. y (f p)) u next → Loads j y (f u) (f next)
  loads_up y u next meets loads = record {
    low = replace y loads.low;
    high = replace y loads.high;
    low_is = extends_up u false y (λ p. y (f p)) loads.low meets (λ p s. refl) loads.low_is;
    high_is = extends_up u true y (λ p. y (f p)) loads.high meets (λ p s. refl) loads.high_is;
    same = part.inside y loads.low next ∙ (loads.same ∙ sym (part.inside y loads.high next));
  }

  pub enabled_up : (u : P) → IsEnabled c u → IsEnabled j (f u)
  enabled_up u en = record {
    name = en.name;
    next = f en.next;
    latch = latch_up en.name u en.next en.latch;
    self_edge = cone_up en.next u en.self_edge;
    rises = λ x low high l h e. en.rises (λ p. x (f p)) (λ p. low (f p)) (λ p. high (f p)) (extends_from u false x low l) (extends_from u true x high h) e;
  }

  -- where there are values of the whole
  module _ (some : R → Bool) (meets : Meets j some) where
    pub enabled_from : (u : P) → IsEnabled j (f u) → IsEnabled c u
    enabled_from u en = record { name = en.name; next = own.0; latch = own.1; self_edge = edge; rises = rises }
      where
        own : (next : P) × IsLatch c en.name u next × (f next ≡ en.next)
        own = latch_from en.name u en.next en.latch

        edge : InCone c own.0 u
        edge =
            let x = cone_from own.0 (f u) (subst (λ (r : R). InCone j r (f u)) (sym own.2) en.self_edge) in
            subst (InCone c own.0) (part.one x.0 u x.1) x.2

        rises : (x low high : P → Bool) → ExtendsWith c u false x low → ExtendsWith c u true x high → low own.0 ≡ true → high own.0 ≡ true
        rises x low high l h e =
            let y = replace some low in
            let whole = part.meets some low meets l.meets in
            let at_low : replace y low en.next ≡ low own.0 = ap (replace y low) (sym own.2) ∙ part.inside y low own.0 in
            let at_high : replace y high en.next ≡ high own.0 = ap (replace y high) (sym own.2) ∙ part.inside y high own.0 in
            sym at_high ∙ en.rises y (replace y low) (replace y high) (put false low low l l whole) (put true low high l h whole) (at_low ∙ e)
          where
            -- values with the latch put, over the low ones
            put : (bit : Bool) (z v : P → Bool) → ExtendsWith c u false x z → ExtendsWith c u bit x v → Meets j (replace some z) → ExtendsWith j (f u) bit (replace some z) (replace (replace some z) v)
            put bit z v lz lv whole = record {
              meets = part.meets (replace some z) v whole lv.meets;
              sources = λ r s n. go r s n (part.outside (replace some z) v r);
              put = part.inside (replace some z) v u ∙ lv.put;
            }
              where
                go : (r : R) → IsSource j r → r ≢ f u → ((p : P) × (f p ≡ r)) ⊎ (replace (replace some z) v r ≡ replace some z r) → replace (replace some z) v r ≡ replace some z r
                go r s n (inr e') = e'
                go r s n (inl p) =
                    let src = source_from p.0 (subst (IsSource j) (sym p.1) s) in
                    let apart : p.0 ≢ u = λ e'. n (sym p.1 ∙ ap f e') in
                    ap (replace (replace some z) v) (sym p.1)
                    ∙ (part.inside (replace some z) v p.0 ∙ (lv.sources p.0 src apart ∙ (sym (lz.sources p.0 src apart) ∙ (sym (part.inside some z p.0) ∙ ap (replace some z) p.1))))

    -- the marks of a run of the part are marks of the run of the whole
    module _ (n : ℕ) (run : ℕ → R → Bool) (runs : (t : ℕ) → t < n → Meets j (run t)) where
      abbrev own_run : ℕ → P → Bool
      own_run t p = run t (f p)

      pub marks_up : {t : ℕ} {p : P} → Marked c (IsEnabled c) own_run t p → t < n → Marked j (IsEnabled j) run t (f p)
      marks_up {t} {p} (Marked.input i) h = Marked.input (i.0, part.input i.0 p i.1)
      marks_up {t} {p} (Marked.gate {fanins = fanins} {cover = cover} eq each) h =
          Marked.gate {fanins = map f fanins} {cover = cover} (part.equation (Gate p fanins cover) eq)
          (λ r k. let x = Contains-map_from f fanins r k in subst (Marked j (IsEnabled j) run t) x.2 (marks_up (each x.0 x.1) h))
      marks_up {t} {p} (Marked.port {from = from} eq mark) h = Marked.port (part.equation (Port p from) eq) (marks_up mark h)
      marks_up (Marked.plain {t = t} {name = name} {out = out} {next = next} latch other mark) h =
          Marked.plain (latch_up name out next latch) (λ en. other (enabled_from out en)) (marks_up mark (omega arith))
      marks_up (Marked.loads {t = t} {name = name} {out = out} {next = next} latch en others loads) h =
          Marked.loads (latch_up name out next latch) (enabled_up out en)
          (λ r cone ne. let x = cone_from next r cone in subst (Marked j (IsEnabled j) run t) x.1 (marks_up (others x.0 x.2 (λ e. ne (sym x.1 ∙ ap f e))) (omega arith)))
          (loads_up (run t) out next (runs t (omega arith)) loads)
      marks_up (Marked.keeps {t = t} {name = name} {out = out} {next = next} latch en others mark) h =
          Marked.keeps (latch_up name out next latch) (enabled_up out en)
          (λ r cone ne. let x = cone_from next r cone in subst (Marked j (IsEnabled j) run t) x.1 (marks_up (others x.0 x.2 (λ e. ne (sym x.1 ∙ ap f e))) (omega arith)))
          (marks_up mark (omega arith))

  pub determined_up : {p : P} → IsDetermined c p → IsDetermined j (f p)
  determined_up {p} (IsDetermined.source s) = IsDetermined.source (source_up p s)
  determined_up {p} (IsDetermined.gate {fanins = fanins} {cover = cover} eq each) =
      IsDetermined.gate {fanins = map f fanins} {cover = cover} (part.equation (Gate p fanins cover) eq)
      (λ r k. let x = Contains-map_from f fanins r k in subst (IsDetermined j) x.2 (determined_up (each x.0 x.1)))
  determined_up {p} (IsDetermined.port {from = from} eq rest) = IsDetermined.port (part.equation (Port p from) eq) (determined_up rest)

  pub put_up : CanPut c → (x : R → Bool) (name : List ℕ) (u : P) (n : R) (bit : Bool) → IsLatch j name (f u) n → Meets j x → (y : R → Bool) × ExtendsWith j (f u) bit x y
  put_up can x name u n bit latch meets =
      let own = latch_from name u n latch in
      let v = can (λ p. x (f p)) name u own.0 bit own.1 (part.meets_from x meets) in
      (replace x v.0, extends_up u bit x (λ p. x (f p)) v.0 meets (λ p s. refl) v.1)
