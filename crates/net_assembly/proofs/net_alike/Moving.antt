-- A flat net of a circuit without ports is one of the circuit over other places, where the signals are told by these.
use Rattle.std.proofs.Common.{◌≡◌, ◌∙◌, ℕ, ◌<◌, List, [], ◌∷◌, map, refl, sym, ap, ap₂, subst}
use Rattle.std.specs.List.{Contains}
use Rattle.circuit_theory.specs.Cover.{Cover}
use Rattle.circuit_theory.specs.Circuit.{Circuit, Equation, Gate, Latch, Port, Named, Started, IsSingleDriven, out_of}
use Rattle.circuit_theory.specs.Joined.{moved, moved_name, moved_start}
use Rattle.circuit_theory.specs.Flattened.{Follows}
use Rattle.circuit_theory.specs.Places.{IsPlace}
use Rattle.circuit_theory.proofs.Lists.{Contains-map, Contains-map_from, map-map, map_same}
use Rattle.net_assembly.specs.net_alike.FlatCircuit.{HasSignal, IsFlatCircuit}
use Rattle.net_assembly.specs.net_alike.Renumbered.{latch_rows, AreRenumbered}
use Rattle.net_assembly.proofs.net_alike.Alike.{portless_is_renumbered}
use Rattle.net_assembly.proofs.net_alike.Carrying.{map_fixed, latch_row_from}
use Rattle.net_assembly.specs.net_alike.Moved.{circuit_over, IsPortless}

-- the latches move with the equations
rows_over : {P Q : Type 0} (to : P → Q) (es : List (Equation P)) → latch_rows (map (moved to) es) ≡ map (moved to) (latch_rows es)
rows_over to [] = refl
rows_over to (Gate out fanins cover ∷ es) = rows_over to es
rows_over {P} {Q} to (Latch name out next ∷ es) = ap (λ (rows : List (Equation Q)). Latch name (to out) (to next) ∷ rows) (rows_over to es)
rows_over to (Port out from ∷ es) = rows_over to es

-- no port comes
pub portless_over : {P Q : Type 0} (to : P → Q) (c : Circuit P) → IsPortless c → IsPortless (circuit_over to c)
portless_over {P} {Q} to c portless out from h = let x = Contains-map_from (moved to) c.equations (Port out from) h in by x.0 x.1 x.2
  where
    by : (x : Equation P) → Contains c.equations x → moved to x ≡ Port out from → ⊥
    by (Gate o fanins cover) k is = absurd (cc)
    by (Latch name o next) k is = absurd (cc)
    by (Port o f) k is = portless o f k

-- where no port is, nothing is followed
pub stays : {P : Type 0} (c : Circuit P) → IsPortless c → {p q : P} → Follows c p q → q ≡ p
stays c portless Follows.here = refl
stays c portless (Follows.there {p = p} {from = from} h rest) = absurd (portless p from h)

module _ {P Q : Type 0} (d : Circuit P) (net : Circuit ℕ) (size : ℕ) (origin : ℕ → P) (signal : P → ℕ) (portless : IsPortless d) (flat : IsFlatCircuit d net size (λ p. ⊥) origin signal)
    (to : P → Q) (at : Q → ℕ) (found : (s : ℕ) → s < size → at (to (origin s)) ≡ s) (low : (x : Started ℕ) → Contains net.starts x → x.place < size) where
  abbrev there : Circuit Q
  there = circuit_over to d

  abbrev Has : Q → Type 0
  Has q = HasSignal (circuit_over to d) size (λ s. to (origin s)) q (at q)

  -- the new place of a place with a signal leads to that
  leads : (p : P) → HasSignal d size origin p (signal p) → at (to p) ≡ signal p
  leads p h = ap (λ (q : P). at (to q)) (sym (stays d portless h.follows)) ∙ found (signal p) h.within

  has : (p : P) → HasSignal d size origin p (signal p) → Has (to p)
  has p h =
      let home : to (origin (at (to p))) ≡ to p = ap (λ (s : ℕ). to (origin s)) (leads p h) ∙ ap to (stays d portless h.follows) in
      record { within = subst (λ (s : ℕ). s < size) (sym (leads p h)) h.within; follows = subst (λ (q : Q). Follows (circuit_over to d) (to p) q) (sym home) Follows.here }

  -- an equation moved twice is that of the net
  each : (e : Equation P) → Contains d.equations e → moved at (moved to e) ≡ moved signal e
  each (Gate out fanins cover) h =
      let reads = flat.read out fanins cover h in
      ap₂ (λ (p : ℕ) (ps : List ℕ). Gate p ps cover) (leads out reads.0) (map-map at to fanins ∙ map_same (λ p. at (to p)) signal fanins (λ p k. leads p (reads.1 p k)))
  each (Latch name out next) h = let takes = flat.taken name out next h in ap₂ (λ (p q : ℕ). Latch name p q) (leads out takes.0) (leads next takes.1)
  each (Port out from) h = absurd (portless out from h)

  old : AreRenumbered d net signal origin
  old = portless_is_renumbered d net size (λ p. ⊥) origin signal flat portless

  goes : (e : Equation P) → Contains d.equations e → Contains net.equations (moved at (moved to e))
  goes e h = subst (Contains net.equations) (sym (each e h)) (old.there e h)

  inputs : net.inputs ≡ map (moved_name at) (map (moved_name to) d.inputs)
  inputs =
      flat.inputs
      ∙ sym (map-map (moved_name at) (moved_name to) d.inputs
      ∙ map_same (λ (n : Named P). moved_name at (moved_name to n)) (moved_name signal) d.inputs (λ n h. ap (λ (s : ℕ). record { name = n.name; place = s }) (leads n.place (flat.entered n.name n.place h))))

  outputs : net.outputs ≡ map (moved_name at) (map (moved_name to) d.outputs)
  outputs =
      flat.outputs
      ∙ sym (map-map (moved_name at) (moved_name to) d.outputs
      ∙ map_same (λ (n : Named P). moved_name at (moved_name to n)) (moved_name signal) d.outputs (λ n h. ap (λ (s : ℕ). record { name = n.name; place = s }) (leads n.place (flat.shown n.name n.place h))))

  latches : latch_rows net.equations ≡ map (moved at) (latch_rows (map (moved to) d.equations))
  latches =
      flat.latches
      ∙ sym (ap (map (moved at)) (rows_over to d.equations) ∙ map-map (moved at) (moved to) (latch_rows d.equations)
      ∙ map_same (λ (e : Equation P). moved at (moved to e)) (moved signal) (latch_rows d.equations) (λ e h. each e (latch_row_from d.equations e h)))

  starts : net.starts ≡ map (moved_start at) (map (moved_start to) d.starts)
  starts =
      sym (ap (λ (ss : List (Started P)). map (moved_start at) (map (moved_start to) ss)) (sym flat.started)
      ∙ ap (map (moved_start at)) (map-map (moved_start to) (moved_start origin) net.starts)
      ∙ map-map (moved_start at) (λ (x : Started ℕ). moved_start to (moved_start origin x)) net.starts
      ∙ map_fixed (λ (x : Started ℕ). moved_start at (moved_start to (moved_start origin x))) net.starts (λ x h. ap (λ (s : ℕ). record { place = s; bit = x.bit }) (found x.place (low x h))))

  gate : (out : Q) (fanins : List Q) (cover : Cover) → Contains (map (moved to) d.equations) (Gate out fanins cover) → Contains net.equations (Gate (at out) (map at fanins) cover)
  gate out fanins cover h = let x = Contains-map_from (moved to) d.equations (Gate out fanins cover) h in subst (λ (e : Equation Q). Contains net.equations (moved at e)) x.2 (goes x.0 x.1)

  only : (e : Equation ℕ) → Contains net.equations e → (x : Equation Q) × Contains (map (moved to) d.equations) x × (moved at x ≡ e)
  only e h = let x = flat.only e h in (moved to x.0, Contains-map (moved to) d.equations x.0 x.1, each x.0 x.1 ∙ x.2)

  entered : (name : List ℕ) (q : Q) → Contains (map (moved_name to) d.inputs) (record { name = name; place = q }) → Has q
  entered name q h =
      let x = Contains-map_from (moved_name to) d.inputs (record { name = name; place = q }) h in
      subst Has (ap (λ (n : Named Q). n.place) x.2) (has x.0.place (flat.entered x.0.name x.0.place x.1))

  shown : (name : List ℕ) (q : Q) → Contains (map (moved_name to) d.outputs) (record { name = name; place = q }) → Has q
  shown name q h =
      let x = Contains-map_from (moved_name to) d.outputs (record { name = name; place = q }) h in
      subst Has (ap (λ (n : Named Q). n.place) x.2) (has x.0.place (flat.shown x.0.name x.0.place x.1))

  read : (out : Q) (fanins : List Q) (cover : Cover) → Contains (map (moved to) d.equations) (Gate out fanins cover) → Has out × ((q : Q) → Contains fanins q → Has q)
  read out fanins cover h = let x = Contains-map_from (moved to) d.equations (Gate out fanins cover) h in by x.0 x.1 x.2
    where
      by : (x : Equation P) → Contains d.equations x → moved to x ≡ Gate out fanins cover → Has out × ((q : Q) → Contains fanins q → Has q)
      by (Gate o fans c) k is =
          let out_is : to o ≡ out = cc in
          let fans_are : map to fans ≡ fanins = cc in
          let reads = flat.read o fans c k in
          (subst Has out_is (has o reads.0), λ q m. (let y = Contains-map_from to fans q (subst (λ (qs : List Q). Contains qs q) (sym fans_are) m) in subst Has y.2 (has y.0 (reads.1 y.0 y.1))))
      by (Latch name o next) k is = absurd (cc)
      by (Port o from) k is = absurd (cc)

  taken : (name : List ℕ) (out next : Q) → Contains (map (moved to) d.equations) (Latch name out next) → Has out × Has next
  taken name out next h = let x = Contains-map_from (moved to) d.equations (Latch name out next) h in by x.0 x.1 x.2
    where
      by : (x : Equation P) → Contains d.equations x → moved to x ≡ Latch name out next → Has out × Has next
      by (Latch own o after) k is =
          let out_is : to o ≡ out = cc in
          let next_is : to after ≡ next = cc in
          let takes = flat.taken own o after k in
          (subst Has out_is (has o takes.0), subst Has next_is (has after takes.1))
      by (Gate o fans c) k is = absurd (cc)
      by (Port o from) k is = absurd (cc)

  placed : (q : Q) → IsPlace (circuit_over to d) q → Has q
  placed q (IsPlace.input h) = entered h.0 q h.1
  placed q (IsPlace.output {name = name} h) = shown name q h
  placed q (IsPlace.driven {e = Gate out fanins cover} h same) = subst Has same (read out fanins cover h).0
  placed q (IsPlace.driven {e = Latch name out next} h same) = subst Has same (taken name out next h).0
  placed q (IsPlace.driven {e = Port out from} h same) = absurd (portless_over to d portless out from h)
  placed q (IsPlace.fanin {out = out} {fanins = fanins} {cover = cover} h k) = (read out fanins cover h).1 q k
  placed q (IsPlace.next {name = name} {out = out} h) = (taken name out q h).1
  placed q (IsPlace.from {out = out} h) = absurd (portless_over to d portless out q h)

  pub flat_over : (clocked : Q → Type 0) → IsFlatCircuit (circuit_over to d) net size clocked (λ s. to (origin s)) at
  flat_over clocked = record {
    inputs = inputs;
    outputs = outputs;
    latches = latches;
    starts = starts;
    gate = gate;
    only = only;
    no_port = flat.no_port;
    port = λ out from h. absurd (portless_over to d portless out from h);
    back = found;
    entered = entered;
    shown = shown;
    read = read;
    taken = taken;
    started = sym (map-map (moved_start to) (moved_start origin) net.starts) ∙ ap (map (moved_start to)) flat.started;
    placed = λ q h free. placed q h;
  }

module _ {P : Type 0} (d : Circuit P) (net : Circuit ℕ) (size : ℕ) (clocked : P → Type 0) (origin : ℕ → P) (signal : P → ℕ) (portless : IsPortless d) (flat : IsFlatCircuit d net size clocked origin signal) (single : IsSingleDriven net) where
  own : AreRenumbered d net signal origin
  own = portless_is_renumbered d net size clocked origin signal flat portless

  twice : (e : Equation P) → Contains d.equations e → moved origin (moved signal e) ≡ e
  twice (Gate out fanins cover) h =
      ap₂ (λ (p : P) (ps : List P). Gate p ps cover) (own.there_and_back out (IsPlace.driven h refl))
      (map-map origin signal fanins ∙ map_fixed (λ p. origin (signal p)) fanins (λ p k. own.there_and_back p (IsPlace.fanin {out = out} {fanins = fanins} {cover = cover} h k)))
  twice (Latch name out next) h = ap₂ (λ (p q : P). Latch name p q) (own.there_and_back out (IsPlace.driven h refl)) (own.there_and_back next (IsPlace.next {name = name} {out = out} h))
  twice (Port out from) h = absurd (portless out from h)

  out_moved : (e : Equation P) → out_of (moved signal e) ≡ signal (out_of e)
  out_moved (Gate out fanins cover) = refl
  out_moved (Latch name out next) = refl
  out_moved (Port out from) = refl

  -- a circuit without ports is single-driven where its net is
  pub single_up : IsSingleDriven d
  single_up = record {
    one = λ e f h k same.
        sym (twice e h)
        ∙ ap (moved origin) (single.one (moved signal e) (moved signal f) (own.there e h) (own.there f k) (out_moved e ∙ ap signal same ∙ sym (out_moved f)))
        ∙ twice f k;
    no_input = λ e h input.
        single.no_input (moved signal e) (own.there e h) (
          input.0,
          subst (λ (s : ℕ). Contains net.inputs (record { name = input.0; place = s })) (sym (out_moved e))
              (subst (λ (is : List (Named ℕ)). Contains is (record { name = input.0; place = signal (out_of e) })) own.inputs (Contains-map (moved_name signal) d.inputs (record { name = input.0; place = out_of e }) input.1)),
        );
  }
