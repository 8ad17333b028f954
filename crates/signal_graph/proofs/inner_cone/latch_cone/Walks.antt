-- How a walk backwards through gates goes on.
use Rattle.std.proofs.Common.{◌≡◌, ◌≢◌, ℕ, ◌+◌, ◌<◌, ◌≤◌, List, [], ◌∷◌, ◌++◌, length, map, Some, refl, sym, ◌∙◌, ap, subst, arith, inl, inr}
use Rattle.std.specs.Prelude.{◌⊎◌, slice_get}
use Rattle.std.specs.List.{Contains}
use Rattle.std.proofs.lemmas.Option.{slice_get_within}
use Rattle.std.proofs.lemmas.List.Elements.{All-contains}
use Rattle.base_tables.specs.unique_table.Places.{IsWith}
use Rattle.flat_net.specs.declared.signals.Signal.{Signal}
use Rattle.flat_net.specs.declared.parts.Gate.{Gate}
use Rattle.flat_net.specs.declared.parts.Driver.TheVariants as driver
use Rattle.flat_net.specs.View.{NetView, circuit_of}
use Rattle.flat_net.specs.Sound.{IsSound}
use Rattle.flat_net.proofs.Places.{one_at}
use Rattle.flat_net.proofs.Growth.{slice_get-append, slice_get-push, slice_get-push_cases}
use Rattle.flat_net.proofs.Nets.{gate_stands, latch_stands, sound_is_net, OfGate, OfLatch, equation_from}
use Rattle.flat_net.proofs.CutNets.{few_distinct}
use Rattle.flat_net.specs.circuit_theory.Circuit.{Circuit, Gate as gate_equation, Port as port_equation, IsSource, IsLatch, Reads, Reaches, out_of}
use Rattle.flat_net.specs.circuit_theory.Net.{IsNet, IsAbove}
use Rattle.flat_net.proofs.circuit_theory.Lists.{Contains-map, Contains-map_from, at_of, of_at}
use Rattle.flat_net.proofs.circuit_theory.Sums.{same_or_not}
use Rattle.signal_graph.specs.inner_cone.latch_cone.Cones.{AreSome, Stay, IsOther}

pub nothing_at : {X : Type 0} (i : ℕ) (x : X) → slice_get [] i ≡ Some x → ⊥
nothing_at i x h = let l = slice_get_within [] i x h in omega (arith, l)

-- one reading more
pub reach_more : {P : Type 0} {c : Circuit P} {p q r : P} → Reaches c p q → Reads c q r → Reaches c p r
reach_more Reaches.here reads = Reaches.there reads Reaches.here
reach_more (Reaches.there first rest) reads = Reaches.there first (reach_more rest reads)

-- a signal after another
pub reach_on : {P : Type 0} {c : Circuit P} {p q r : P} → Reaches c p q → Reaches c q r → Reaches c p r
reach_on Reaches.here rest = rest
reach_on (Reaches.there first more) rest = Reaches.there first (reach_on more rest)

-- what is put is there, and the others stay
abbrev pub IsPut : List ℕ → List ℕ → ℕ → Type 0
IsPut old new s = ((new ≡ old) × Contains old s) ⊎ ((new ≡ old ++ s ∷ []) × (Contains old s → ⊥))

pub is_put : (old new : List ℕ) (s : ℕ) → IsWith old s new → IsPut old new s
is_put old new s (inl x) = inl (x.1, x.0)
is_put old new s (inr x) = inr (x.1, x.0)

pub put_stay : (old new : List ℕ) (s : ℕ) → IsPut old new s → Stay old new
put_stay old new s (inl x) i r h = subst (λ z. slice_get z i ≡ Some r) (sym x.0) h
put_stay old new s (inr x) i r h = subst (λ z. slice_get z i ≡ Some r) (sym x.0) (slice_get-append old (s ∷ []) i r h)

pub put_there : (old new : List ℕ) (s : ℕ) → IsPut old new s → Contains new s
put_there old new s (inl x) = subst (λ z. Contains z s) (sym x.0) x.1
put_there old new s (inr x) = subst (λ z. Contains z s) (sym x.0) (of_at (old ++ s ∷ []) (length old) s (slice_get-push old s (length old) refl))

pub stay_there : (old new : List ℕ) (s : ℕ) → Stay old new → Contains old s → Contains new s
stay_there old new s stay h = let at = at_of old s h in of_at new at.0 s (stay at.0 s at.1)

pub put_some : (n : NetView) (from : ℕ) (old new : List ℕ) (s : ℕ) → IsPut old new s → s < length n.drivers → Reaches (circuit_of n) from s → AreSome n from old → AreSome n from new
put_some n from old new s (inl x) inside reach some = subst (λ z. AreSome n from z) (sym x.0) some
put_some n from old new s (inr x) inside reach some = subst (λ z. AreSome n from z) (sym x.0) (record {
  distinct = λ i j r h k. distinct i j r (slice_get-push_cases old s i r h) (slice_get-push_cases old s j r k);
  within = λ i r h. within i r (slice_get-push_cases old s i r h);
  each = λ i r h. each i r (slice_get-push_cases old s i r h);
})
  where
    distinct : (i j r : ℕ) → (slice_get old i ≡ Some r) ⊎ ((i ≡ length old) × (s ≡ r)) → (slice_get old j ≡ Some r) ⊎ ((j ≡ length old) × (s ≡ r)) → i ≡ j
    distinct i j r (inl h) (inl k) = some.distinct i j r h k
    distinct i j r (inl h) (inr k) = absurd (x.1 (of_at old i s (subst (λ z. slice_get old i ≡ Some z) (sym k.1) h)))
    distinct i j r (inr h) (inl k) = absurd (x.1 (of_at old j s (subst (λ z. slice_get old j ≡ Some z) (sym h.1) k)))
    distinct i j r (inr h) (inr k) = h.0 ∙ sym k.0

    within : (i r : ℕ) → (slice_get old i ≡ Some r) ⊎ ((i ≡ length old) × (s ≡ r)) → r < length n.drivers
    within i r (inl h) = some.within i r h
    within i r (inr h) = subst (λ z. z < length n.drivers) h.1 inside

    each : (i r : ℕ) → (slice_get old i ≡ Some r) ⊎ ((i ≡ length old) × (s ≡ r)) → Reaches (circuit_of n) from r
    each i r (inl h) = some.each i r h
    each i r (inr h) = subst (λ z. Reaches (circuit_of n) from z) h.1 reach

pub some_none : (n : NetView) (from : ℕ) → AreSome n from []
some_none n from = record { distinct = λ i j s h k. absurd (nothing_at i s h); within = λ i s h. absurd (nothing_at i s h); each = λ i s h. absurd (nothing_at i s h) }

-- no more signals are put than there are
pub some_few : (n : NetView) (from : ℕ) (seen : List ℕ) → AreSome n from seen → length seen ≤ length n.drivers
some_few n from seen some = few_distinct seen (length n.drivers) some.distinct some.within

module _ (n : NetView) (sound : IsSound n) where
  net : IsNet (circuit_of n) (length n.drivers)
  net = sound_is_net n sound

  -- a signal that reads another is a gate's
  pub record GateReads (s r : ℕ) : Type 0 where
    pub position : ℕ
    pub gate : Gate
    pub here : slice_get n.gates position ≡ Some gate
    pub out : gate.out.0 ≡ s
    pub owner : slice_get n.drivers s ≡ Some (driver.Gate position)
    pub read : (k : ℕ) × (f : Signal) × (slice_get gate.fanins k ≡ Some f) × (f.0 ≡ r)

  pub gate_reads : {s r : ℕ} → Reads (circuit_of n) s r → GateReads s r
  gate_reads {s} {r} (Reads.by_port {from = from} e) = absurd (All-contains IsAbove (circuit_of n).equations (port_equation s r) net.above e)
  gate_reads {s} {r} (Reads.by_gate {fanins = fanins} {cover = cover} e h) = by (equation_from n (gate_equation s fanins cover) e)
    where
      by : OfGate n (gate_equation s fanins cover) ⊎ OfLatch n (gate_equation s fanins cover) → GateReads s r
      by (inr l) = absurd (differ l)
        where
          differ : OfLatch n (gate_equation s fanins cover) → ⊥
          differ l = let e = l.is in cc
      by (inl g) =
          let out : g.gate.out.0 ≡ s = ap out_of g.is in
          let same : map (λ (f : Signal). f.0) g.gate.fanins ≡ fanins = let e = g.is in cc in
          let found = Contains-map_from (λ (f : Signal). f.0) g.gate.fanins r (subst (λ z. Contains z r) (sym same) h) in
          let at = at_of g.gate.fanins found.0 found.1 in
          record {
            position = g.j;
            gate = g.gate;
            here = g.at;
            out = out;
            owner = subst (λ z. slice_get n.drivers z ≡ Some (driver.Gate g.j)) out (sound.gates g.j g.gate g.at).owner;
            read = (at.0, found.0, at.1, found.2);
          }

  -- what a gate reads
  pub gate_fanins : (j : ℕ) (g : Gate) → slice_get n.gates j ≡ Some g → (k : ℕ) (r : Signal) → slice_get g.fanins k ≡ Some r → Reads (circuit_of n) g.out.0 r.0
  gate_fanins j g at k r h = Reads.by_gate (gate_stands n j g at) (Contains-map (λ (f : Signal). f.0) g.fanins r (of_at g.fanins k r h))

  -- from an input or a latch nothing else is reached
  pub source_stays : {p u : ℕ} → IsSource (circuit_of n) p → Reaches (circuit_of n) p u → p ≡ u
  source_stays source Reaches.here = refl
  source_stays {p} (inl i) (Reaches.there {q = q} reads rest) = absurd (driven (gate_reads reads))
    where
      driven : GateReads p q → ⊥
      driven g = net.single.no_input _ (gate_stands n g.position g.gate g.here) (subst (λ z. (name : List ℕ) × Contains (circuit_of n).inputs (record { name = name; place = z })) (sym g.out) i)
  source_stays {p} (inr l) (Reaches.there {q = q} reads rest) = absurd (driven (gate_reads reads))
    where
      driven : GateReads p q → ⊥
      driven g = let e = net.single.one _ _ (gate_stands n g.position g.gate g.here) l.2 g.out in cc

  -- the signals that are closed under readings are all
  pub closed_all : (from : ℕ) (seen : List ℕ) → ((s r : ℕ) → Contains seen s → Reads (circuit_of n) s r → Contains seen r) → (s u : ℕ) → Reaches (circuit_of n) s u → Contains seen s → Contains seen u
  closed_all from seen closed s u Reaches.here h = h
  closed_all from seen closed s u (Reaches.there {q = q} reads rest) h = closed_all from seen closed q u rest (closed s q h reads)

-- the other latches among the first so many signals
pub record AreOthersOf (n : NetView) (own : ℕ) (seen : List ℕ) (count : ℕ) (others : List Signal) : Type 0 where
  pub each : (k : ℕ) (r : Signal) → slice_get others k ≡ Some r → IsOther n own r.0 × Contains seen r.0
  pub all : (i s : ℕ) → i < count → slice_get seen i ≡ Some s → IsOther n own s → (k : ℕ) × (slice_get others k ≡ Some (record { 0 = s }))

pub others_more : (n : NetView) (own : ℕ) (seen : List ℕ) (i s : ℕ) (old new : List Signal) → AreOthersOf n own seen i old → slice_get seen i ≡ Some s →
    ((new ≡ old ++ record { 0 = s } ∷ []) × IsOther n own s) ⊎ ((new ≡ old) × (IsOther n own s → ⊥)) → AreOthersOf n own seen (i + 1) new
others_more n own seen i s old new o at (inr x) = subst (λ (z : List Signal). AreOthersOf n own seen (i + 1) z) (sym x.0) (record { each = o.each; all = λ j r l h other. all j r h other l (same_or_not j i) })
  where
    all : (j r : ℕ) → slice_get seen j ≡ Some r → IsOther n own r → j < i + 1 → (j ≡ i) ⊎ (j ≢ i) → (k : ℕ) × (slice_get old k ≡ Some (record { 0 = r }))
    all j r h other l (inl e) = absurd (x.1 (subst (λ z. IsOther n own z) (one_at seen i r s (subst (λ z. slice_get seen z ≡ Some r) e h) at) other))
    all j r h other l (inr d) = o.all j r (omega (arith, l, d)) h other
others_more n own seen i s old new o at (inl x) = subst (λ (z : List Signal). AreOthersOf n own seen (i + 1) z) (sym x.0) (record {
  each = λ k r h. each k r (slice_get-push_cases old this k r h);
  all = λ j r l h other. all j r h other l (same_or_not j i);
})
  where
    this : Signal
    this = record { 0 = s }

    each : (k : ℕ) (r : Signal) → (slice_get old k ≡ Some r) ⊎ ((k ≡ length old) × (this ≡ r)) → IsOther n own r.0 × Contains seen r.0
    each k r (inl h) = o.each k r h
    each k r (inr h) = subst (λ (z : Signal). IsOther n own z.0 × Contains seen z.0) h.1 (x.1, of_at seen i s at)

    all : (j r : ℕ) → slice_get seen j ≡ Some r → IsOther n own r → j < i + 1 → (j ≡ i) ⊎ (j ≢ i) → (k : ℕ) × (slice_get (old ++ this ∷ []) k ≡ Some (record { 0 = r }))
    all j r h other l (inl e) = (length old, slice_get-push old this (length old) refl ∙ ap (λ (z : ℕ). Some (record { 0 = z })) (one_at seen i s r at (subst (λ z. slice_get seen z ≡ Some r) e h)))
    all j r h other l (inr d) = let x = o.all j r (omega (arith, l, d)) h other in (x.0, slice_get-append old (this ∷ []) x.0 _ x.1)
