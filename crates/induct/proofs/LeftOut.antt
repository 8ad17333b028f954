-- An output is reached from shared inputs alone: an input that is left out is read by nothing.
use Rattle.std.proofs.Common.{◌≡◌, ◌∙◌, ◌⊎◌, ℕ, Bool, true, false, not, ◌&&◌, ◌||◌, ◌==◌, List, [], map, refl, sym, ap, subst, inl, inr}
use Rattle.std.specs.List.{Contains, filter, list_any}
use Rattle.std.proofs.lemmas.Bool.Decides.{Decides-eqb}
use Rattle.std.proofs.lemmas.List.Folds.{list_any_at}
use Rattle.circuit_theory.specs.Circuit.{Equation, Gate as gate_equation, Latch as latch_equation, Port as port_equation, Reads, Reaches}
use Rattle.circuit_theory.specs.Interface.{is_clock, inputs_beside}
use Rattle.circuit_theory.specs.Names.{is_among}
use Rattle.circuit_theory.proofs.Lists.{Contains-map, Contains-map_from, of_at}
use Rattle.circuit_theory.proofs.Numbers.{is_among-complete}
use Rattle.flat_net.specs.declared.signals.Signal.{Signal}
use Rattle.flat_net.specs.declared.parts.Port.{Port}
use Rattle.flat_net.specs.declared.parts.Gate.{Gate}
use Rattle.flat_net.specs.declared.parts.LatchAt.{LatchAt}
use Rattle.flat_net.specs.View.{NetView, is_read, cover_of, circuit_of, ports_of}
use Rattle.flat_net.proofs.Nets.{OfGate, OfLatch, equation_from}
use Rattle.sec_setup.proofs.ports.Shared.{Contains-filter_in}

or_left : (x y : Bool) → x ≡ true → (x || y) ≡ true
or_left true y e = refl
or_left false y e = absurd (let none : ⊥ = cc in none)

or_right : (x y : Bool) → y ≡ true → (x || y) ≡ true
or_right true y e = refl
or_right false y e = e

not_both : (x y : Bool) → y ≡ true → not (x && not y) ≡ true
not_both true true e = refl
not_both true false e = absurd (let none : ⊥ = cc in none)
not_both false y e = refl

-- the list has an element that passes
any_at : {X : Type 0} (test : X → Bool) (xs : List X) (x : X) → Contains xs x → test x ≡ true → list_any test xs ≡ true
any_at test xs x h e = list_any_at test xs h.0 x h.1 (ap test h.2 ∙ e)

module _ (n : NetView) where
  -- a gate has the signal among its fan-ins
  record IsFanin (r : ℕ) : Type 0 where
    gate : Gate
    there : Contains n.gates gate
    fanin : Signal
    among : Contains gate.fanins fanin
    is : fanin.0 ≡ r

  -- what a gate reads
  abbrev fanins_of : Equation ℕ → List ℕ
  fanins_of (gate_equation out fanins cover) = fanins
  fanins_of (latch_equation name out next) = []
  fanins_of (port_equation out from) = []

  reads_fanin : {s r : ℕ} → Reads (circuit_of n) s r → IsFanin r
  reads_fanin {s} {r} (Reads.by_gate {fanins = fanins} {cover = cover} eq h) = pick (equation_from n (gate_equation s fanins cover) eq)
    where
      pick : OfGate n (gate_equation s fanins cover) ⊎ OfLatch n (gate_equation s fanins cover) → IsFanin r
      pick (inl g) =
          let same : map (λ (f : Signal). f.0) g.gate.fanins ≡ fanins = ap fanins_of g.is in
          let found = Contains-map_from (λ (f : Signal). f.0) g.gate.fanins r (subst (λ (fs : List ℕ). Contains fs r) (sym same) h) in
          record { gate = g.gate; there = of_at n.gates g.j g.gate g.at; fanin = found.0; among = found.1; is = found.2 }
      pick (inr l) = let e : latch_equation l.latch.name l.latch.out.0 l.latch.next.0 ≡ gate_equation s fanins cover = l.is in absurd (let none : ⊥ = cc in none)
  reads_fanin {s} {r} (Reads.by_port eq) = pick (equation_from n (port_equation s r) eq)
    where
      pick : OfGate n (port_equation s r) ⊎ OfLatch n (port_equation s r) → IsFanin r
      pick (inl g) = let e : gate_equation g.gate.out.0 (map (λ (f : Signal). f.0) g.gate.fanins) (cover_of n.covers g.gate) ≡ port_equation s r = g.is in absurd (let none : ⊥ = cc in none)
      pick (inr l) = let e : latch_equation l.latch.name l.latch.out.0 l.latch.next.0 ≡ port_equation s r = l.is in absurd (let none : ⊥ = cc in none)

  -- a signal that is reached from another is that one, or a gate reads it
  reached_read : {s r : ℕ} → Reaches (circuit_of n) s r → (s ≡ r) ⊎ IsFanin r
  reached_read Reaches.here = inl refl
  reached_read {s} {r} (Reaches.there {q = q} reads rest) = pick (reached_read rest)
    where
      pick : (q ≡ r) ⊎ IsFanin r → (s ≡ r) ⊎ IsFanin r
      pick (inl e) = inr (subst IsFanin e (reads_fanin reads))
      pick (inr f) = inr f

  module _ (port : Port) (shown : Contains n.outputs port) (p : Port) (own : Contains n.inputs p) (reached : Reaches (circuit_of n) port.signal.0 p.signal.0) where
    abbrev gates_read : Bool
    gates_read = list_any (λ (g : Gate). list_any (λ (f : Signal). f.0 == p.signal.0) g.fanins) n.gates

    abbrev latches_read : Bool
    latches_read = list_any (λ (l : LatchAt). l.next.0 == p.signal.0) n.latches

    abbrev outputs_show : Bool
    outputs_show = list_any (λ (o : Port). o.signal.0 == p.signal.0) n.outputs

    is_read_here : is_read n p.signal ≡ true
    is_read_here = pick (reached_read reached)
      where
        pick : (port.signal.0 ≡ p.signal.0) ⊎ IsFanin p.signal.0 → is_read n p.signal ≡ true
        pick (inl e) = or_right (gates_read || latches_read) outputs_show (any_at (λ (o : Port). o.signal.0 == p.signal.0) n.outputs port shown ((Decides-eqb port.signal.0 p.signal.0).1 e))
        pick (inr f) =
            or_left (gates_read || latches_read) outputs_show (or_left gates_read latches_read
            (any_at (λ (g : Gate). list_any (λ (f : Signal). f.0 == p.signal.0) g.fanins) n.gates f.gate f.there
            (any_at (λ (s : Signal). s.0 == p.signal.0) f.gate.fanins f.fanin f.among ((Decides-eqb f.fanin.0 p.signal.0).1 f.is))))

    -- an input that an output is reached from is none that is left out
    pub stays_beside : (other : NetView) → Contains (inputs_beside (ports_of n) (ports_of other)) p.name
    stays_beside other =
        let read : Contains (ports_of n).read p.name = Contains-map (λ (q : Port). q.name) (filter (λ (q : Port). is_read n q.signal) n.inputs) p (Contains-filter_in (λ (q : Port). is_read n q.signal) n.inputs p own is_read_here) in
        Contains-filter_in (λ (name : List ℕ). not (is_clock (ports_of other) name && not (is_among (ports_of n).read name))) (ports_of n).inputs p.name (Contains-map (λ (q : Port). q.name) n.inputs p own)
        (not_both (is_clock (ports_of other) p.name) (is_among (ports_of n).read p.name) (is_among-complete (ports_of n).read p.name read))
