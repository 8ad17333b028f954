-- Writing the marks of inputs, latches and gates, one after the other.
use Rattle.std.proofs.Common.{◌≡◌, ◌≢◌, ℕ, suc, ◌+◌, ◌<◌, ◌↔◌, Bool, true, false, List, map, length, get_or, set, slice_get, Some, refl, sym, ◌∙◌, ap, subst, arith, inl, inr, ◌⊎◌}
use Rattle.std.specs.List.{list_all, Contains}
use Rattle.std.specs.Prelude.{All, replicate}
use Rattle.std.proofs.lemmas.List.Elements.{All-contains}
use Rattle.std.proofs.lemmas.Option.{slice_get_within, slice_get-get_or, get_or_from_slice_get}
use Rattle.circuit_theory.specs.Circuit.{Latch as latch_equation, Gate as gate_equation, InCone}
use Rattle.circuit_theory.specs.Run.{Marked, Loads}
use Rattle.circuit_theory.proofs.Lists.{Contains-map, Contains-map_from, of_at}
use Rattle.circuit_laws.proofs.Marks.{mark_step}
use Rattle.circuit_theory.proofs.Sums.{same_or_not}
use Rattle.flat_net.specs.declared.signals.Signal.{Signal}
use Rattle.flat_net.specs.declared.parts.Port.{Port}
use Rattle.flat_net.specs.declared.parts.Gate.{Gate}
use Rattle.flat_net.specs.declared.parts.LatchAt.{LatchAt}
use Rattle.flat_net.specs.declared.parts.Driver.TheVariants as driver
use Rattle.flat_net.specs.View.{NetView, circuit_of, cover_of}
use Rattle.flat_net.specs.Sound.{IsSound}
use Rattle.flat_net.proofs.Nets.{some_at, gate_stands, latch_stands, input_stands, sound_is_net}
use Rattle.flat_net.proofs.Places.{one_at, sound_in_order}
use Rattle.signal_graph.specs.inner_cone.latch_cone.Cones.{IsMarkedBy}
use Rattle.signal_graph.specs.inner_cone.Sides.{AreSides}
use Rattle.cycle_sim.specs.View.{IsMark, HasMark}
use Rattle.cycle_sim.specs.Steps.{KeepsMarks, AreInputsMarked, AreLatchesMarked, AreMarksAhead}
use Rattle.cycle_sim.proofs.Lists.{replicate_at, below_or_here, set_here, set_there, all_pass, all_from_each, driven, gate_within}

module _ (n : NetView) (enabled : List Bool) (run : ℕ → ℕ → Bool) (t : ℕ) where
  -- the mark that stands at a place
  pub mark_at : (bits : List Bool) (place p : ℕ) (d : Bool) → HasMark n enabled run t bits place p → IsMark n enabled run t p (get_or bits place d)
  mark_at bits place p d h = subst (IsMark n enabled run t p) (sym (get_or_from_slice_get bits place h.0 d h.1)) h.2

  -- what has its mark keeps it where a mark is written
  pub mark_kept : (marks : List Bool) (s : ℕ) (bit : Bool) → IsMark n enabled run t s bit → KeepsMarks n enabled run t marks (set marks s bit)
  mark_kept marks s bit right p have = go (same_or_not p s)
    where
      go : (p ≡ s) ⊎ (p ≢ s) → HasMark n enabled run t (set marks s bit) p p
      go (inl e) =
          let below : s < length marks = subst (λ k. k < length marks) e (slice_get_within marks p have.0 have.1) in
          subst (λ k. HasMark n enabled run t (set marks s bit) k k) (sym e) (bit, set_here marks s bit below, right)
      go (inr ne) = (have.0, set_there marks s p bit have.0 ne have.1, have.2)

  pub mark_here : (marks : List Bool) (s : ℕ) (bit : Bool) → IsMark n enabled run t s bit → s < length marks → HasMark n enabled run t (set marks s bit) s s
  mark_here marks s bit right below = (bit, set_here marks s bit below, right)

-- so many inputs have their marks
abbrev pub InputsMarked : NetView → List Bool → (ℕ → ℕ → Bool) → ℕ → List Bool → ℕ → Type 0
InputsMarked n enabled run t marks count = (k : ℕ) (port : Port) → k < count → slice_get n.inputs k ≡ Some port → HasMark n enabled run t marks port.signal.0 port.signal.0

-- so many latches have their marks, and no mark is lost
pub record LatchesMarked (n : NetView) (enabled : List Bool) (run : ℕ → ℕ → Bool) (t : ℕ) (old marks : List Bool) (count : ℕ) : Type 0 where
  pub kept : KeepsMarks n enabled run t old marks
  pub put : (k : ℕ) (l : LatchAt) → k < count → slice_get n.latches k ≡ Some l → HasMark n enabled run t marks l.out.0 l.out.0

-- inputs, latches and so many gates have their marks
pub record GatesMarked (n : NetView) (enabled : List Bool) (run : ℕ → ℕ → Bool) (t : ℕ) (marks : List Bool) (count : ℕ) : Type 0 where
  pub inputs : AreInputsMarked n enabled run t marks
  pub latches : AreLatchesMarked n enabled run t marks
  pub gates : (k : ℕ) (g : Gate) → k < count → slice_get n.gates k ≡ Some g → HasMark n enabled run t marks g.out.0 g.out.0

module _ (n : NetView) (enabled : List Bool) (run : ℕ → ℕ → Bool) (t : ℕ) where
  pub inputs_marked_more : (marks : List Bool) (i : ℕ) (port : Port) → slice_get n.inputs i ≡ Some port → port.signal.0 < length marks →
      InputsMarked n enabled run t marks i → InputsMarked n enabled run t (set marks port.signal.0 true) (i + 1)
  inputs_marked_more marks i port at within have k p h at_p = go (below_or_here k i h)
    where
      right : IsMark n enabled run t port.signal.0 true
      right = (λ e. Marked.input (port.name, input_stands n i port at), λ m. refl)

      go : (k < i) ⊎ (k ≡ i) → HasMark n enabled run t (set marks port.signal.0 true) p.signal.0 p.signal.0
      go (inl low) = mark_kept n enabled run t marks port.signal.0 true right p.signal.0 (have k p low at_p)
      go (inr e) =
          let same : port ≡ p = one_at n.inputs i port p at (sym (ap (slice_get n.inputs) e) ∙ at_p) in
          subst (λ (q : Port). HasMark n enabled run t (set marks port.signal.0 true) q.signal.0 q.signal.0) same (mark_here n enabled run t marks port.signal.0 true right within)

  pub latches_marked_more : (bits old marks : List Bool) (j : ℕ) (l : LatchAt) (d : Bool) → slice_get n.latches j ≡ Some l → l.out.0 < length marks →
      AreMarksAhead n enabled run t bits → LatchesMarked n enabled run t old marks j → LatchesMarked n enabled run t old (set marks l.out.0 (get_or bits j d)) (j + 1)
  latches_marked_more bits old marks j l d at within ahead have = record {
    kept = λ p h. mark_kept n enabled run t marks l.out.0 _ right p (have.kept p h);
    put = λ k m h at_m. go k m at_m (below_or_here k j h);
  }
    where
      right : IsMark n enabled run t l.out.0 (get_or bits j d)
      right = mark_at n enabled run t bits j l.out.0 d (ahead j l at)

      go : (k : ℕ) (m : LatchAt) → slice_get n.latches k ≡ Some m → (k < j) ⊎ (k ≡ j) → HasMark n enabled run t (set marks l.out.0 (get_or bits j d)) m.out.0 m.out.0
      go k m at_m (inl low) = mark_kept n enabled run t marks l.out.0 _ right m.out.0 (have.put k m low at_m)
      go k m at_m (inr e) =
          let same : l ≡ m = one_at n.latches j l m at (sym (ap (slice_get n.latches) e) ∙ at_m) in
          subst (λ (q : LatchAt). HasMark n enabled run t (set marks l.out.0 (get_or bits j d)) q.out.0 q.out.0) same (mark_here n enabled run t marks l.out.0 _ right within)

module _ (n : NetView) (sound : IsSound n) (enabled : List Bool) (run : ℕ → ℕ → Bool) (t : ℕ) where
  counts : ℕ → Type 0
  counts = IsMarkedBy n.latches enabled

  fanin_marked : (marks : List Bool) (j : ℕ) (g : Gate) → slice_get n.gates j ≡ Some g → GatesMarked n enabled run t marks j → (f : Signal) → Contains g.fanins f → HasMark n enabled run t marks f.0 f.0
  fanin_marked marks j g at have f reads =
      let low : f.0 < g.out.0 = All-contains (λ (s : Signal). s.0 < g.out.0) g.fanins f (sound.gates j g at).above reads in
      let within : f.0 < length n.drivers = let w = gate_within n sound j g at in omega (arith, low, w) in
      let d = some_at n.drivers f.0 within in
      driven n (λ s. HasMark n enabled run t marks s s) j have.inputs have.latches have.gates f.0 d.0 (sound.drivers f.0 d.0 d.1)
      (λ k e. sound_in_order n sound j k g f at reads (d.1 ∙ ap Some e))

  -- a gate is marked exactly where its fan-ins are
  gate_mark : (marks : List Bool) (j : ℕ) (g : Gate) → slice_get n.gates j ≡ Some g → GatesMarked n enabled run t marks j →
      IsMark n enabled run t g.out.0 (list_all (λ (f : Signal). get_or marks f.0 false) g.fanins)
  gate_mark marks j g at have = (there, back)
    where
      fanins : List ℕ
      fanins = map (λ (f : Signal). f.0) g.fanins

      each : (f : Signal) → Contains g.fanins f → (get_or marks f.0 false ≡ true) ↔ Marked (circuit_of n) (IsMarkedBy n.latches enabled) run t f.0
      each f reads = mark_at n enabled run t marks f.0 f.0 false (fanin_marked marks j g at have f reads)

      there : list_all (λ (f : Signal). get_or marks f.0 false) g.fanins ≡ true → Marked (circuit_of n) (IsMarkedBy n.latches enabled) run t g.out.0
      there all = Marked.gate (gate_stands n j g at) (λ p reads.
          let f = Contains-map_from (λ (f : Signal). f.0) g.fanins p reads in
          subst (λ s. Marked (circuit_of n) (IsMarkedBy n.latches enabled) run t s) f.2 ((each f.0 f.1).0 (all_pass (λ (f : Signal). get_or marks f.0 false) g.fanins all f.0 f.1)))

      back : Marked (circuit_of n) (IsMarkedBy n.latches enabled) run t g.out.0 → list_all (λ (f : Signal). get_or marks f.0 false) g.fanins ≡ true
      back settled =
          let below : (p : ℕ) → Contains fanins p → Marked (circuit_of n) (IsMarkedBy n.latches enabled) run t p =
          mark_step (circuit_of n) (IsMarkedBy n.latches enabled) run (sound_is_net n sound).single settled (gate_equation g.out.0 fanins (cover_of n.covers g)) (gate_stands n j g at) refl in
          all_from_each (λ (f : Signal). get_or marks f.0 false) g.fanins (λ f reads. (each f reads).1 (below f.0 (Contains-map (λ (f : Signal). f.0) g.fanins f reads)))

  pub gates_marked_more : (marks : List Bool) (j : ℕ) (g : Gate) (bit : Bool) → slice_get n.gates j ≡ Some g → g.out.0 < length marks →
      bit ≡ list_all (λ (f : Signal). get_or marks f.0 false) g.fanins → GatesMarked n enabled run t marks j → GatesMarked n enabled run t (set marks g.out.0 bit) (j + 1)
  gates_marked_more marks j g bit at within is have = record {
    inputs = λ i port h. mark_kept n enabled run t marks g.out.0 bit right port.signal.0 (have.inputs i port h);
    latches = λ i l h. mark_kept n enabled run t marks g.out.0 bit right l.out.0 (have.latches i l h);
    gates = λ k h l at_h. go k h at_h (below_or_here k j l);
  }
    where
      right : IsMark n enabled run t g.out.0 bit
      right = subst (IsMark n enabled run t g.out.0) (sym is) (gate_mark marks j g at have)

      go : (k : ℕ) (h : Gate) → slice_get n.gates k ≡ Some h → (k < j) ⊎ (k ≡ j) → HasMark n enabled run t (set marks g.out.0 bit) h.out.0 h.out.0
      go k h at_h (inl low) = mark_kept n enabled run t marks g.out.0 bit right h.out.0 (have.gates k h low at_h)
      go k h at_h (inr e) =
          let same : g ≡ h = one_at n.gates j g h at (sym (ap (slice_get n.gates) e) ∙ at_h) in
          subst (λ (q : Gate). HasMark n enabled run t (set marks g.out.0 bit) q.out.0 q.out.0) same (mark_here n enabled run t marks g.out.0 bit right within)

  -- a latch whose bit isn't set doesn't count as enabled
  pub not_counted : (j : ℕ) (l : LatchAt) → slice_get n.latches j ≡ Some l → slice_get enabled j ≡ Some false → IsMarkedBy n.latches enabled l.out.0 → ⊥
  not_counted j l at bit m = by (one_at enabled j true false (subst (λ k. slice_get enabled k ≡ Some true) place m.bit) bit)
    where
      same_latch : {i k : ℕ} → driver.Latch i ≡ driver.Latch k → i ≡ k
      same_latch e = cc

      by : true ≡ false → ⊥
      by e = cc

      place : m.position ≡ j
      place = same_latch (one_at n.drivers l.out.0 _ _ (subst (λ s. slice_get n.drivers s ≡ Some (driver.Latch m.position)) m.out (sound.latches m.position m.latch m.here).owner) (sound.latches j l at).owner)

  -- a latch whose bit isn't set is marked in the next cycle exactly where its data is marked now
  pub data_next : (j : ℕ) (l : LatchAt) (bit : Bool) → slice_get n.latches j ≡ Some l → slice_get enabled j ≡ Some false → IsMark n enabled run t l.next.0 bit → IsMark n enabled run (suc t) l.out.0 bit
  data_next j l bit at off now = (there, back)
    where
      there : bit ≡ true → Marked (circuit_of n) (IsMarkedBy n.latches enabled) run (suc t) l.out.0
      there e = Marked.plain (latch_stands n j l at) (not_counted j l at off) (now.0 e)

      pick : ((IsMarkedBy n.latches enabled l.out.0 → ⊥) × Marked (circuit_of n) (IsMarkedBy n.latches enabled) run t l.next.0)
          ⊎ (IsMarkedBy n.latches enabled l.out.0 × ((u : ℕ) → InCone (circuit_of n) l.next.0 u → u ≢ l.out.0 → Marked (circuit_of n) (IsMarkedBy n.latches enabled) run t u)
          × (Loads (circuit_of n) (run t) l.out.0 l.next.0 ⊎ Marked (circuit_of n) (IsMarkedBy n.latches enabled) run t l.out.0)) → bit ≡ true
      pick (inl m) = now.1 m.1
      pick (inr m) = absurd (not_counted j l at off m.0)

      back : Marked (circuit_of n) (IsMarkedBy n.latches enabled) run (suc t) l.out.0 → bit ≡ true
      back settled = pick (mark_step (circuit_of n) (IsMarkedBy n.latches enabled) run (sound_is_net n sound).single settled (latch_equation l.name l.out.0 l.next.0) (latch_stands n j l at) refl)

-- in cycle 0 no latch is marked
pub none_marked : (n : NetView) → IsSound n → (enabled : List Bool) (run : ℕ → ℕ → Bool) (count : ℕ) (bits : List Bool) → count ≡ length n.latches → bits ≡ replicate count false → AreMarksAhead n enabled run 0 bits
none_marked n sound enabled run count bits size are j l at = (
  false,
  ap (λ bs. slice_get bs j) are ∙ replicate_at count j false (let w = slice_get_within n.latches j l at in omega (arith, w, size)),
  (
    λ e. absurd (no e),
    λ settled. absurd (mark_step (circuit_of n) (IsMarkedBy n.latches enabled) run (sound_is_net n sound).single settled (latch_equation l.name l.out.0 l.next.0) (latch_stands n j l at) refl),
  ),
)
  where
    no : false ≡ true → ⊥
    no e = cc

-- one latch more has its mark ahead
pub ahead_more : (n : NetView) (enabled : List Bool) (run : ℕ → ℕ → Bool) (t : ℕ) (bits : List Bool) (j : ℕ) (bit : Bool) → j < length bits → ((l : LatchAt) → slice_get n.latches j ≡ Some l → IsMark n enabled run t l.out.0 bit) →
    ((k : ℕ) (l : LatchAt) → k < j → slice_get n.latches k ≡ Some l → HasMark n enabled run t bits k l.out.0) →
    (k : ℕ) (l : LatchAt) → k < j + 1 → slice_get n.latches k ≡ Some l → HasMark n enabled run t (set bits j bit) k l.out.0
ahead_more n enabled run t bits j bit inside right have k l h at = go (below_or_here k j h)
  where
    go : (k < j) ⊎ (k ≡ j) → HasMark n enabled run t (set bits j bit) k l.out.0
    go (inl low) = let x = have k l low at in (x.0, set_there bits j k bit x.0 (λ e. omega (arith, low, e)) x.1, x.2)
    go (inr e) = subst (λ z. HasMark n enabled run t (set bits j bit) z l.out.0) (sym e) (bit, set_here bits j bit inside, right l (subst (λ z. slice_get n.latches z ≡ Some l) e at))

-- the sides of a cone are signals of the net
pub sides_within : (n : NetView) (l : LatchAt) (sides : List Signal) → AreSides n l.next.0 l.out.0 sides → (size : ℕ) → size ≡ length n.drivers → All (λ (f : Signal). f.0 < size) sides
sides_within n l sides are size same k d below =
    let within = are.within (get_or sides k d) (of_at sides k (get_or sides k d) (slice_get-get_or sides k d below)) in
    omega (arith, within, same)
