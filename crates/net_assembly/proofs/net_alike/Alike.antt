-- Two nets of one design are one up to the numbers of their signals.
use Rattle.std.proofs.Common.{◌≡◌, ◌∙◌, ◌<◌, ℕ, List, [], ◌∷◌, map, refl, sym, ap, ap₂, subst, arith, inl, inr}
use Rattle.std.specs.Prelude.{◌⊎◌}
use Rattle.std.specs.List.{Contains}
use Rattle.circuit_theory.specs.Circuit.{Circuit, Equation, Gate, Latch, Port, Named, out_of}
use Rattle.circuit_theory.specs.Joined.{moved, moved_name, moved_start}
use Rattle.circuit_theory.specs.Flattened.{Follows}
use Rattle.circuit_theory.specs.Places.{IsPlace}
use Rattle.circuit_theory.proofs.Lists.{Contains-head, Contains-tail, Contains-cases, Contains-map, Contains-map_from, map-map, map_same}
use Rattle.net_assembly.specs.net_alike.Renumbered.{latch_rows, AreRenumbered}
use Rattle.net_assembly.specs.net_alike.FlatCircuit.{HasSignal, IsFlatCircuit}
use Rattle.net_assembly.proofs.net_alike.Carrying.{map_fixed, latch_row_from}

latch_row_there : {P : Type 0} (es : List (Equation P)) (name : List ℕ) (out next : P) → Contains es (Latch name out next) → Contains (latch_rows es) (Latch name out next)
latch_row_there [] name out next h = h
latch_row_there {P} (e ∷ es) name out next h = by e (latch_row_there es name out next) (Contains-cases e (Latch name out next) es h)
  where
    by : (f : Equation P) → (Contains es (Latch name out next) → Contains (latch_rows es) (Latch name out next)) → (f ≡ Latch name out next) ⊎ Contains es (Latch name out next) → Contains (latch_rows (f ∷ es)) (Latch name out next)
    by (Gate o fanins cover) rest (inl same) = absurd (cc)
    by (Gate o fanins cover) rest (inr k) = rest k
    by (Port o from) rest (inl same) = absurd (cc)
    by (Port o from) rest (inr k) = rest k
    by (Latch own o x) rest (inl same) = subst (Contains (Latch own o x ∷ latch_rows es)) same (Contains-head (Latch own o x) (latch_rows es))
    by (Latch own o x) rest (inr k) = Contains-tail (Latch own o x) (Latch name out next) (latch_rows es) (rest k)

-- each of the latches is one
row_is : {P : Type 0} (es : List (Equation P)) (e : Equation P) → Contains (latch_rows es) e → (name : List ℕ) × (out : P) × (next : P) × Contains es (Latch name out next) × (Latch name out next ≡ e)
row_is {P} es e h = by e (latch_row_from es e h) (is_row es e h)
  where
    IsRow : Equation P → Type 0
    IsRow (Gate out fanins cover) = ⊥
    IsRow (Latch name out next) = Unit {0}
    IsRow (Port out from) = ⊥

    is_row : (xs : List (Equation P)) (f : Equation P) → Contains (latch_rows xs) f → IsRow f
    is_row [] f k = absurd (let w = k.1 in omega (arith, w))
    is_row (Gate out fanins cover ∷ xs) f k = is_row xs f k
    is_row (Port out from ∷ xs) f k = is_row xs f k
    is_row (Latch name out next ∷ xs) f k = elim (Contains-cases (Latch name out next) f (latch_rows xs) k) [ inl same ↦ subst IsRow same tt | inr rest ↦ is_row xs f rest ]

    by : (f : Equation P) → Contains es f → IsRow f → (name : List ℕ) × (out : P) × (next : P) × Contains es (Latch name out next) × (Latch name out next ≡ f)
    by (Gate out fanins cover) k row = absurd row
    by (Port out from) k row = absurd row
    by (Latch name out next) k row = (name, out, next, k, refl)

module _ {P : Type 0} (d : Circuit P) (a b : Circuit ℕ) (m n : ℕ) (clocked : P → Type 0) (o u : ℕ → P) (s v : P → ℕ) (left : IsFlatCircuit d a m clocked o s) (right : IsFlatCircuit d b n clocked u v) where
  -- ports have one signal
  same_signal : {p q : P} → Follows d p q → v p ≡ v q
  same_signal Follows.here = refl
  same_signal (Follows.there {p = p} {from = from} h rest) = right.port p from h ∙ same_signal rest

  -- where a place's signal goes
  pub goes : (p : P) → HasSignal d m o p (s p) → v (o (s p)) ≡ v p
  goes p h = sym (same_signal h.follows)

  pub there : (e : Equation ℕ) → Contains a.equations e → Contains b.equations (moved (λ i. v (o i)) e)
  there e h = let x = left.only e h in subst (λ (y : Equation ℕ). Contains b.equations (moved (λ i. v (o i)) y)) x.2 (by x.0 x.1 (subst (Contains a.equations) (sym x.2) h))
    where
      by : (x : Equation P) → Contains d.equations x → Contains a.equations (moved s x) → Contains b.equations (moved (λ i. v (o i)) (moved s x))
      by (Gate out fanins cover) k own =
          let reads = left.read out fanins cover k in
          subst (Contains b.equations)
          (ap₂ (λ (p : ℕ) (ps : List ℕ). Gate p ps cover) (sym (goes out reads.0)) (sym (map-map (λ i. v (o i)) s fanins ∙ map_same (λ p. v (o (s p))) v fanins (λ p c. goes p (reads.1 p c)))))
          (right.gate out fanins cover k)
      by (Latch name out next) k own =
          let takes = left.taken name out next k in
          let row : Contains (map (moved v) (latch_rows d.equations)) (Latch name (v out) (v next)) = Contains-map (moved v) (latch_rows d.equations) (Latch name out next) (latch_row_there d.equations name out next k) in
          subst (Contains b.equations) (ap₂ (λ (p q : ℕ). Latch name p q) (sym (goes out takes.0)) (sym (goes next takes.1)))
          (latch_row_from b.equations (Latch name (v out) (v next)) (subst (λ (es : List (Equation ℕ)). Contains es (Latch name (v out) (v next))) (sym right.latches) row))
      by (Port out from) k own = absurd (left.no_port (s out) (s from) own)

  pub inputs : map (moved_name (λ i. v (o i))) a.inputs ≡ b.inputs
  inputs =
      ap (map (moved_name (λ i. v (o i)))) left.inputs ∙ map-map (moved_name (λ i. v (o i))) (moved_name s) d.inputs
      ∙ map_same (λ (x : Named P). moved_name (λ i. v (o i)) (moved_name s x)) (moved_name v) d.inputs (λ x h. ap (λ (q : ℕ). record { name = x.name; place = q }) (goes x.place (left.entered x.name x.place h)))
      ∙ sym right.inputs

  pub outputs : map (moved_name (λ i. v (o i))) a.outputs ≡ b.outputs
  outputs =
      ap (map (moved_name (λ i. v (o i)))) left.outputs ∙ map-map (moved_name (λ i. v (o i))) (moved_name s) d.outputs
      ∙ map_same (λ (x : Named P). moved_name (λ i. v (o i)) (moved_name s x)) (moved_name v) d.outputs (λ x h. ap (λ (q : ℕ). record { name = x.name; place = q }) (goes x.place (left.shown x.name x.place h)))
      ∙ sym right.outputs

  pub latches : map (moved (λ i. v (o i))) (latch_rows a.equations) ≡ latch_rows b.equations
  latches =
      ap (map (moved (λ i. v (o i)))) left.latches ∙ map-map (moved (λ i. v (o i))) (moved s) (latch_rows d.equations)
      ∙ map_same (λ (e : Equation P). moved (λ i. v (o i)) (moved s e)) (moved v) (latch_rows d.equations) (λ e h. each e h)
      ∙ sym right.latches
    where
      each : (e : Equation P) → Contains (latch_rows d.equations) e → moved (λ i. v (o i)) (moved s e) ≡ moved v e
      each e h =
          let r = row_is d.equations e h in
          let takes = left.taken r.0 r.1 r.2 r.3 in
          subst (λ (f : Equation P). moved (λ i. v (o i)) (moved s f) ≡ moved v f) r.4 (ap₂ (λ (p q : ℕ). Latch r.0 p q) (goes r.1 takes.0) (goes r.2 takes.1))

  pub starts : map (moved_start (λ i. v (o i))) a.starts ≡ b.starts
  starts = sym (map-map (moved_start v) (moved_start o) a.starts) ∙ ap (map (moved_start v)) left.started ∙ sym right.starts

  -- each place of the net is the signal of a place that has one in both
  pub place_of : (i : ℕ) → IsPlace a i → (p : P) × HasSignal d m o p (s p) × HasSignal d n u p (v p) × (s p ≡ i)
  place_of i (IsPlace.input h) =
      let f = Contains-map_from (moved_name s) d.inputs (record { name = h.0; place = i }) (subst (λ (is : List (Named ℕ)). Contains is (record { name = h.0; place = i })) left.inputs h.1) in
      (f.0.place, left.entered f.0.name f.0.place f.1, right.entered f.0.name f.0.place f.1, ap (λ (x : Named ℕ). x.place) f.2)
  place_of i (IsPlace.output {name = name} h) =
      let f = Contains-map_from (moved_name s) d.outputs (record { name = name; place = i }) (subst (λ (os : List (Named ℕ)). Contains os (record { name = name; place = i })) left.outputs h) in
      (f.0.place, left.shown f.0.name f.0.place f.1, right.shown f.0.name f.0.place f.1, ap (λ (x : Named ℕ). x.place) f.2)
  place_of i (IsPlace.driven {e = e} h same) = let x = left.only e h in by x.0 x.1 (ap out_of x.2 ∙ same) (subst (Contains a.equations) (sym x.2) h)
    where
      by : (x : Equation P) → Contains d.equations x → out_of (moved s x) ≡ i → Contains a.equations (moved s x) → (p : P) × HasSignal d m o p (s p) × HasSignal d n u p (v p) × (s p ≡ i)
      by (Gate out fanins cover) k is own = (out, (left.read out fanins cover k).0, (right.read out fanins cover k).0, is)
      by (Latch name out next) k is own = (out, (left.taken name out next k).0, (right.taken name out next k).0, is)
      by (Port out from) k is own = absurd (left.no_port (s out) (s from) own)
  place_of i (IsPlace.fanin {out = out} {fanins = fanins} {cover = cover} h reads) = let x = left.only (Gate out fanins cover) h in by x.0 x.1 x.2
    where
      by : (x : Equation P) → Contains d.equations x → moved s x ≡ Gate out fanins cover → (p : P) × HasSignal d m o p (s p) × HasSignal d n u p (v p) × (s p ≡ i)
      by (Gate out' fanins' cover') k is =
          let fans : map s fanins' ≡ fanins = cc in
          let f = Contains-map_from s fanins' i (subst (λ (xs : List ℕ). Contains xs i) (sym fans) reads) in
          (f.0, (left.read out' fanins' cover' k).1 f.0 f.1, (right.read out' fanins' cover' k).1 f.0 f.1, f.2)
      by (Latch name' out' next') k is = absurd (cc)
      by (Port out' from') k is = absurd (cc)
  place_of i (IsPlace.next {name = name} {out = out} h) = let x = left.only (Latch name out i) h in by x.0 x.1 x.2
    where
      by : (x : Equation P) → Contains d.equations x → moved s x ≡ Latch name out i → (p : P) × HasSignal d m o p (s p) × HasSignal d n u p (v p) × (s p ≡ i)
      by (Latch name' out' next') k is = (next', (left.taken name' out' next' k).1, (right.taken name' out' next' k).1, cc)
      by (Gate out' fanins' cover') k is = absurd (cc)
      by (Port out' from') k is = absurd (cc)
  place_of i (IsPlace.from {out = out} h) = absurd (left.no_port out i h)

module _ {P : Type 0} (d : Circuit P) (a b : Circuit ℕ) (m n : ℕ) (clocked : P → Type 0) (o u : ℕ → P) (s v : P → ℕ) (left : IsFlatCircuit d a m clocked o s) (right : IsFlatCircuit d b n clocked u v) where
  -- there and back
  round : (i : ℕ) → IsPlace a i → s (u (v (o i))) ≡ i
  round i h =
      let f = place_of d a b m n clocked o u s v left right i h in
      ap (λ (j : ℕ). s (u (v (o j)))) (sym f.3) ∙ ap (λ (j : ℕ). s (u j)) (goes d a b m n clocked o u s v left right f.0 f.1) ∙ goes d b a n m clocked u o v s right left f.0 f.2 ∙ f.3

-- two nets of one design are one up to the numbers of their signals
pub nets_are_renumbered : {P : Type 0} (d : Circuit P) (a b : Circuit ℕ) (m n : ℕ) (clocked : P → Type 0) (o u : ℕ → P) (s v : P → ℕ) → IsFlatCircuit d a m clocked o s → IsFlatCircuit d b n clocked u v →
    AreRenumbered a b (λ i. v (o i)) (λ j. s (u j))
nets_are_renumbered d a b m n clocked o u s v left right = record {
  inputs = inputs d a b m n clocked o u s v left right;
  outputs = outputs d a b m n clocked o u s v left right;
  latches = latches d a b m n clocked o u s v left right;
  starts = starts d a b m n clocked o u s v left right;
  starts_from = starts d b a n m clocked u o v s right left;
  there = there d a b m n clocked o u s v left right;
  from = there d b a n m clocked u o v s right left;
  there_and_back = round d a b m n clocked o u s v left right;
  back_and_there = round d b a n m clocked u o v s right left;
}

module _ {P : Type 0} (d : Circuit P) (a : Circuit ℕ) (m : ℕ) (clocked : P → Type 0) (o : ℕ → P) (s : P → ℕ) (flat : IsFlatCircuit d a m clocked o s) where
  -- each place of the net has a number below the size
  pub low : (i : ℕ) → IsPlace a i → i < m
  low i h = let f = place_of d a a m m clocked o o s s flat flat i h in subst (λ (j : ℕ). j < m) f.3 f.1.within

  module _ (portless : (out from : P) → Contains d.equations (Port out from) → ⊥) where
    at_once : {p q : P} → Follows d p q → q ≡ p
    at_once Follows.here = refl
    at_once (Follows.there {p = p} {from = from} h rest) = absurd (portless p from h)

    own : (p : P) → HasSignal d m o p (s p) → o (s p) ≡ p
    own p h = at_once h.follows

    settled : (p : P) → IsPlace d p → o (s p) ≡ p
    settled p (IsPlace.input h) = own p (flat.entered h.0 p h.1)
    settled p (IsPlace.output {name = name} h) = own p (flat.shown name p h)
    settled p (IsPlace.driven {e = Gate out fanins cover} h same) = subst (λ (q : P). o (s q) ≡ q) same (own out (flat.read out fanins cover h).0)
    settled p (IsPlace.driven {e = Latch name out next} h same) = subst (λ (q : P). o (s q) ≡ q) same (own out (flat.taken name out next h).0)
    settled p (IsPlace.driven {e = Port out from} h same) = absurd (portless out from h)
    settled p (IsPlace.fanin {out = out} {fanins = fanins} {cover = cover} h reads) = own p ((flat.read out fanins cover h).1 p reads)
    settled p (IsPlace.next {name = name} {out = out} h) = own p (flat.taken name out p h).1
    settled p (IsPlace.from {out = out} h) = absurd (portless out p h)

    twice : (e : Equation P) → Contains d.equations e → moved o (moved s e) ≡ e
    twice (Gate out fanins cover) h =
        ap₂ (λ (p : P) (ps : List P). Gate p ps cover) (settled out (IsPlace.driven h refl))
        (map-map o s fanins ∙ map_fixed (λ p. o (s p)) fanins (λ p k. settled p (IsPlace.fanin {out = out} {fanins = fanins} {cover = cover} h k)))
    twice (Latch name out next) h = ap₂ (λ (p q : P). Latch name p q) (settled out (IsPlace.driven h refl)) (settled next (IsPlace.next {name = name} {out = out} h))
    twice (Port out from) h = absurd (portless out from h)

    forward : (e : Equation P) → Contains d.equations e → Contains a.equations (moved s e)
    forward (Gate out fanins cover) h = flat.gate out fanins cover h
    forward (Latch name out next) h =
        latch_row_from a.equations (Latch name (s out) (s next)) (subst (λ (es : List (Equation ℕ)). Contains es (Latch name (s out) (s next))) (sym flat.latches)
        (Contains-map (moved s) (latch_rows d.equations) (Latch name out next) (latch_row_there d.equations name out next h)))
    forward (Port out from) h = absurd (portless out from h)

    -- the flat circuit of a design without ports is the design, renumbered
    pub portless_is_renumbered : AreRenumbered d a s o
    portless_is_renumbered = record {
      inputs = sym flat.inputs;
      outputs = sym flat.outputs;
      latches = sym flat.latches;
      starts = sym flat.starts;
      starts_from = flat.started;
      there = forward;
      from = λ e h. (let x = flat.only e h in subst (λ (y : Equation ℕ). Contains d.equations (moved o y)) x.2 (subst (Contains d.equations) (sym (twice x.0 x.1)) x.1));
      there_and_back = settled;
      back_and_there = λ i h. flat.back i (low i h);
    }
