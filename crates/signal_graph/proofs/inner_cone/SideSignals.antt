-- Sides that are put one after the other.
use Rattle.std.proofs.Common.{◌≡◌, ◌≢◌, ◌+◌, ◌<◌, ℕ, List, [], ◌∷◌, ◌++◌, length, get_or, slice_get, Some, Contains, refl, sym, subst, inl, inr}
use Rattle.std.specs.Prelude.{◌⊎◌}
use Rattle.std.proofs.lemmas.List.Elements.{Contains-append_cases, Contains-append_left, Contains-append_right}
use Rattle.signal_graph.specs.inner_cone.latch_cone.circuit_theory.Circuit.{Reads, Reaches, IsSource, IsLatch}
use Rattle.signal_graph.specs.inner_cone.latch_cone.circuit_theory.Net.{IsNet}
use Rattle.signal_graph.proofs.inner_cone.latch_cone.circuit_theory.Lists.{Contains-head, Contains-cases, at_of}
use Rattle.signal_graph.specs.inner_cone.latch_cone.flat_net.Signal.{Signal}
use Rattle.signal_graph.specs.inner_cone.latch_cone.flat_net.Gate.{Gate}
use Rattle.signal_graph.specs.inner_cone.latch_cone.flat_net.Driver.{Driver}
use Rattle.signal_graph.specs.inner_cone.latch_cone.flat_net.Driver.TheVariants as driver
use Rattle.signal_graph.specs.inner_cone.latch_cone.flat_net.View.{NetView, circuit_of}
use Rattle.signal_graph.specs.inner_cone.latch_cone.flat_net.Sound.{IsSound}
use Rattle.signal_graph.proofs.inner_cone.latch_cone.flat_net.Nets.{gate_stands, latch_stands, input_stands, sound_is_net}
use Rattle.signal_graph.proofs.inner_cone.latch_cone.Walks.{nothing_at, source_stays}
use Rattle.signal_graph.specs.inner_cone.Inner.{AreRanked, LeadsAside, IsLow, AreHigh}
use Rattle.signal_graph.specs.inner_cone.Sides.{AreSides, IsSomeSide, AreSomeSides, AreKept, IsLowPut}
use Rattle.signal_graph.proofs.inner_cone.Inner.{low_aside}

pub none_there : {X : Type 0} (x : X) → Contains [] x → ⊥
none_there x h = let at = at_of [] x h in nothing_at at.0 x at.1

pub push_kept : (old new : List Signal) (s : Signal) → new ≡ old ++ s ∷ [] → AreKept old new
push_kept old new s e r h = subst (λ (z : List Signal). Contains z r) (sym e) (Contains-append_left old (s ∷ []) r h)

pub push_there : (old new : List Signal) (s : Signal) → new ≡ old ++ s ∷ [] → Contains new s
push_there old new s e = subst (λ (z : List Signal). Contains z s) (sym e) (Contains-append_right old (s ∷ []) s (Contains-head s []))

pub push_some : (n : NetView) (ranks : List ℕ) (least from own : ℕ) (old new : List Signal) (s : Signal) → new ≡ old ++ s ∷ [] → IsSomeSide n ranks least from own s.0 → AreSomeSides n ranks least from own old → AreSomeSides n ranks least from own new
push_some n ranks least from own old new s e side some r h = by (Contains-append_cases old (s ∷ []) r (subst (λ (z : List Signal). Contains z r) e h))
  where
    last : (s ≡ r) ⊎ Contains [] r → IsSomeSide n ranks least from own r.0
    last (inl q) = subst (λ (z : Signal). IsSomeSide n ranks least from own z.0) q side
    last (inr none) = absurd (none_there r none)

    by : Contains old r ⊎ Contains (s ∷ []) r → IsSomeSide n ranks least from own r.0
    by (inl k) = some r k
    by (inr k) = last (Contains-cases s r [] k)

module _ (ranks : List ℕ) (least : ℕ) (old new : List Signal) (s : Signal) where
  pub low_kept : IsLowPut ranks least old new s → AreKept old new
  low_kept (inl x) r h = push_kept old new s x.0 r h
  low_kept (inr x) r h = subst (λ (z : List Signal). Contains z r) (sym x.0) h

  pub low_there : IsLowPut ranks least old new s → IsLow ranks least s.0 → Contains new s
  low_there (inl x) low = push_there old new s x.0
  low_there (inr x) low = absurd (x.1 low)

  pub low_some : IsLowPut ranks least old new s → (n : NetView) (from own : ℕ) → s.0 < length n.drivers → Reaches (circuit_of n) from s.0 → AreSomeSides n ranks least from own old → AreSomeSides n ranks least from own new
  low_some (inl x) n from own within reach some = push_some n ranks least from own old new s x.0 (record { within = within; reached = reach; aside = inl x.1 }) some
  low_some (inr x) n from own within reach some = subst (λ (z : List Signal). AreSomeSides n ranks least from own z) (sym x.0) some

module _ (n : NetView) (sound : IsSound n) where
  net : IsNet (circuit_of n) (length n.drivers)
  net = sound_is_net n sound

  -- what a gate drives is no source
  pub gate_source : (s j : ℕ) → slice_get n.drivers s ≡ Some (driver.Gate j) → IsSource (circuit_of n) s → ⊥
  gate_source s j drives source = by source
    where
      g : (k : Gate) × (slice_get n.gates j ≡ Some k) × (k.out.0 ≡ s)
      g = sound.drivers s (driver.Gate j) drives

      by : IsSource (circuit_of n) s → ⊥
      by (inl i) = net.single.no_input _ (gate_stands n j g.0 g.1) (subst (λ z. (name : List ℕ) × Contains (circuit_of n).inputs (record { name = name; place = z })) (sym g.2) i)
      by (inr l) = let e = net.single.one _ _ (gate_stands n j g.0 g.1) l.2 g.2 in cc

  -- and what no gate drives is one
  pub other_source : (s : ℕ) (d : Driver) → slice_get n.drivers s ≡ Some d → ((j : ℕ) → d ≡ driver.Gate j → ⊥) → IsSource (circuit_of n) s
  other_source s (driver.Input i) drives no_gate =
      let p = sound.drivers s (driver.Input i) drives in
      inl (p.0.name, subst (λ z. Contains (circuit_of n).inputs (record { name = p.0.name; place = z })) p.2 (input_stands n i p.0 p.1))
  other_source s (driver.Gate j) drives no_gate = absurd (no_gate j refl)
  other_source s (driver.Latch j) drives no_gate =
      let l = sound.drivers s (driver.Latch j) drives in
      inr (l.0.name, l.0.next.0, subst (λ z. IsLatch (circuit_of n) l.0.name z l.0.next.0) l.2 (latch_stands n j l.0 l.1))

-- what is put of one signal
pub record IsDone (n : NetView) (ranks : List ℕ) (own s : ℕ) (sides : List Signal) : Type 0 where
  pub reads : (q : ℕ) → Reads (circuit_of n) s q → IsLow ranks (get_or ranks own 0) q → Contains sides (record { 0 = q })
  pub source : IsSource (circuit_of n) s → s ≢ own → Contains sides (record { 0 = s })

pub done_kept : (n : NetView) (ranks : List ℕ) (own s : ℕ) (old new : List Signal) → AreKept old new → IsDone n ranks own s old → IsDone n ranks own s new
done_kept n ranks own s old new kept done = record { reads = λ q reads low. kept (record { 0 = q }) (done.reads q reads low); source = λ is other. kept (record { 0 = s }) (done.source is other) }

-- all sides are put
module _ (n : NetView) (sound : IsSound n) (ranks : List ℕ) (ranked : AreRanked n ranks) (from own : ℕ) (seen : List ℕ) (high : AreHigh n ranks (get_or ranks own 0) from seen) (sides : List Signal)
    (some : AreSomeSides n ranks (get_or ranks own 0) from own sides) (root : IsLow ranks (get_or ranks own 0) from → Contains sides (record { 0 = from })) (done : (s : ℕ) → Contains seen s → IsDone n ranks own s sides) where
  abbrev IsBehind : ℕ → Type 0
  IsBehind s = (r : Signal) × Contains sides r × Reaches (circuit_of n) r.0 s

  on : (s : ℕ) → IsSource (circuit_of n) s → s ≢ own → {p : ℕ} → Reaches (circuit_of n) p s → Contains seen p → IsBehind s
  on s source other Reaches.here h = (record { 0 = s }, (done s h).source source other, Reaches.here)
  on s source other {p} (Reaches.there {q = q} reads rest) h = by (λ there. on s source other rest there) (high.closed p q h reads)
    where
      by : (Contains seen q → IsBehind s) → Contains seen q ⊎ IsLow ranks (get_or ranks own 0) q → IsBehind s
      by next (inl there) = next there
      by next (inr low) = (record { 0 = q }, (done p h).reads q reads low, rest)

  pub all_sides : AreSides n from own sides
  all_sides = record {
    within = λ r h. (some r h).within;
    reached = λ r h. (some r h).reached;
    aside = λ r h. aside r.0 (some r h).aside;
    all = λ s source other way. begin s source other way high.begins;
  }
    where
      aside : (s : ℕ) → IsLow ranks (get_or ranks own 0) s ⊎ (IsSource (circuit_of n) s × (s ≢ own)) → LeadsAside n own s
      aside s (inl low) = low_aside n ranks ranked own s low
      aside s (inr x) = λ way. x.1 (source_stays n sound x.0 way)

      begin : (s : ℕ) → IsSource (circuit_of n) s → s ≢ own → Reaches (circuit_of n) from s → Contains seen from ⊎ IsLow ranks (get_or ranks own 0) from → IsBehind s
      begin s source other way (inl h) = on s source other way h
      begin s source other way (inr low) = (record { 0 = from }, root low, way)
