-- When a latch loads, and when an enabled latch is marked.
use Rattle.std.specs.Bool.{beq}
use Rattle.std.proofs.Common.{◌≡◌, ◌≢◌, ℕ, suc, ◌<◌, ◌↔◌, Bool, true, false, not, List, length, get_or, set, slice_get, Some, refl, sym, ◌∙◌, ap, subst, arith, inl, inr, ◌⊎◌, ◌&&◌, ◌||◌}
use Rattle.std.proofs.lemmas.Option.{slice_get_within, get_or_from_slice_get}
use Rattle.circuit_theory.specs.Circuit.{Circuit, Latch as latch_equation, IsLatch, IsSource, Meets, InCone, Reads, Reaches}
use Rattle.circuit_theory.specs.Run.{ExtendsWith, Loads, Marked, IsDetermined}
use Rattle.circuit_theory.specs.Net.{IsNet}
use Rattle.circuit_laws.proofs.Marks.{marks_down, mark_step}
use Rattle.circuit_laws.proofs.NetLaws.{net_determined}
use Rattle.circuit_laws.proofs.SameMarks.{values_by_cone}
use Rattle.circuit_theory.proofs.Sums.{same_or_not}
use Rattle.flat_net.specs.declared.signals.Signal.{Signal}
use Rattle.flat_net.specs.declared.parts.LatchAt.{LatchAt}
use Rattle.flat_net.specs.View.{NetView, circuit_of}
use Rattle.flat_net.specs.Sound.{IsSound}
use Rattle.flat_net.proofs.Nets.{OfGate, OfLatch, equation_from, latch_stands, input_stands, sound_is_net}
use Rattle.cycle_sim.specs.Steps.{IsRight, HasValues, AreMarks, AreInputsRight, AreLatchesRight, AreAsideRight}
use Rattle.cycle_sim.proofs.Lists.{set_here, set_there, all_pass, all_from_each}
use Rattle.signal_graph.specs.inner_cone.latch_cone.Cones.{IsMarkedBy}
use Rattle.signal_graph.proofs.inner_cone.latch_cone.Walks.{reach_on}
use Rattle.signal_graph.specs.inner_cone.Sides.{AreSides}
use Rattle.std.specs.List.{list_all, Contains}

-- a place is marked where the inputs and latches of its cone are
pub mark_by_cone : {P : Type 0} (c : Circuit P) (enabled : P → Type 0) (run : ℕ → P → Bool) (t : ℕ) {p : P} → IsDetermined c p → ((u : P) → InCone c p u → Marked c enabled run t u) → Marked c enabled run t p
mark_by_cone c enabled run t {p} (IsDetermined.source s) cone = cone p (s, Reaches.here)
mark_by_cone c enabled run t (IsDetermined.gate eq each) cone = Marked.gate eq (λ q h. mark_by_cone c enabled run t (each q h) (λ u k. cone u (k.0, Reaches.there (Reads.by_gate eq h) k.1)))
mark_by_cone c enabled run t (IsDetermined.port eq from) cone = Marked.port eq (mark_by_cone c enabled run t from (λ u k. cone u (k.0, Reaches.there (Reads.by_port eq) k.1)))

module _ (n : NetView) (sound : IsSound n) where
  net : IsNet (circuit_of n) (length n.drivers)
  net = sound_is_net n sound

  -- with a latch put to a bit there is one choice of values
  pub one_put : (u : ℕ) (bit : Bool) (x y z : ℕ → Bool) → ExtendsWith (circuit_of n) u bit x y → ExtendsWith (circuit_of n) u bit x z → (p : ℕ) → p < length n.drivers → y p ≡ z p
  one_put u bit x y z ey ez p h = values_by_cone (circuit_of n) y z ey.meets ez.meets (net_determined (circuit_of n) (length n.drivers) net p h) (λ w cone. go w cone (same_or_not w u))
    where
      go : (w : ℕ) → InCone (circuit_of n) p w → (w ≡ u) ⊎ (w ≢ u) → y w ≡ z w
      go w cone (inl e) = ap y e ∙ (ey.put ∙ (sym ez.put ∙ sym (ap z e)))
      go w cone (inr ne) = ey.sources w cone.0 ne ∙ sym (ez.sources w cone.0 ne)

  -- values that meet the equations are those with a latch put to its own value
  own_put : (u : ℕ) (bit : Bool) (v : ℕ → Bool) → Meets (circuit_of n) v → v u ≡ bit → ExtendsWith (circuit_of n) u bit v v
  own_put u bit v meets e = record { meets = meets; sources = λ p s ne. refl; put = e }

  -- a latch loads exactly where turning it over leaves what it takes over
  pub loads_is : (u next : ℕ) → next < length n.drivers → (v w : ℕ → Bool) → Meets (circuit_of n) v → ExtendsWith (circuit_of n) u (not (v u)) v w → (w next ≡ v next) ↔ Loads (circuit_of n) v u next
  loads_is u next inside v w meets turned = go (v u) refl
    where
      go : (b : Bool) → v u ≡ b → (w next ≡ v next) ↔ Loads (circuit_of n) v u next
      go true e = (
        λ same. record { low = w; high = v; low_is = low; high_is = high; same = same },
        λ loads. one_put u false v w loads.low low loads.low_is next inside ∙ loads.same ∙ one_put u true v loads.high v loads.high_is high next inside,
      )
        where
          low : ExtendsWith (circuit_of n) u false v w
          low = subst (λ z. ExtendsWith (circuit_of n) u z v w) (ap not e) turned

          high : ExtendsWith (circuit_of n) u true v v
          high = own_put u true v meets e
      go false e = (
        λ same. record { low = v; high = w; low_is = low; high_is = high; same = sym same },
        λ loads. one_put u true v w loads.high high loads.high_is next inside ∙ sym loads.same ∙ one_put u false v loads.low v loads.low_is low next inside,
      )
        where
          high : ExtendsWith (circuit_of n) u true v w
          high = subst (λ z. ExtendsWith (circuit_of n) u z v w) (ap not e) turned

          low : ExtendsWith (circuit_of n) u false v v
          low = own_put u false v meets e

  -- the sources' values with one latch turned over
  module _ (l : LatchAt) (j : ℕ) (at : slice_get n.latches j ≡ Some l) (v w : ℕ → Bool) (turned : ExtendsWith (circuit_of n) l.out.0 (not (v l.out.0)) v w) (values : List Bool) (have : HasValues n v values) (size : length values ≡ length n.drivers) (bit : Bool) (bit_is : bit ≡ not (v l.out.0)) where
    at_source : (p : ℕ) → IsSource (circuit_of n) p → p < length n.drivers → IsRight w (set values l.out.0 bit) p
    at_source p source inside = go (same_or_not p l.out.0)
      where
        go : (p ≡ l.out.0) ⊎ (p ≢ l.out.0) → IsRight w (set values l.out.0 bit) p
        go (inl e) = subst (λ z. IsRight w (set values l.out.0 bit) z) (sym e) (set_here values l.out.0 bit (omega (arith, inside, e, size)) ∙ ap Some (bit_is ∙ sym turned.put))
        go (inr ne) = set_there values l.out.0 p bit (v p) ne (have p inside) ∙ ap Some (sym (turned.sources p source ne))

    pub inputs_turned : AreInputsRight n w (set values l.out.0 bit)
    inputs_turned i port h = at_source port.signal.0 (inl (port.name, input_stands n i port h)) (slice_get_within n.drivers port.signal.0 _ (sound.inputs i port h).owner)

    pub latches_turned : AreLatchesRight n w (set values l.out.0 bit)
    latches_turned i k h = at_source k.out.0 (inr (k.name, k.next.0, latch_stands n i k h)) (slice_get_within n.drivers k.out.0 _ (sound.latches i k h).owner)

    -- what doesn't lead back to the latch keeps its value
    pub aside_turned : Meets (circuit_of n) v → AreAsideRight n l.out.0 w (set values l.out.0 bit)
    aside_turned meets p inside aside =
        let apart : p ≢ l.out.0 = λ e. aside (subst (λ z. Reaches (circuit_of n) p z) e Reaches.here) in
        let same : v p ≡ w p = values_by_cone (circuit_of n) v w meets turned.meets (net_determined (circuit_of n) (length n.drivers) net p inside)
        (λ u cone. let other : u ≢ l.out.0 = λ e. aside (subst (λ z. Reaches (circuit_of n) p z) e cone.1) in sym (turned.sources u cone.0 other)) in
        set_there values l.out.0 p bit (v p) apart (have p inside) ∙ ap Some same

  -- an enabled latch is marked in the next cycle exactly where the others of its cone are marked, and it is marked or loads
  pub held_mark : (enabled : ℕ → Type 0) (run : ℕ → ℕ → Bool) (t j : ℕ) (l : LatchAt) → slice_get n.latches j ≡ Some l → enabled l.out.0 → (rest own loads : Bool) →
      ((rest ≡ true) ↔ ((s i : ℕ) (k : LatchAt) → slice_get n.latches i ≡ Some k → k.out.0 ≡ s → InCone (circuit_of n) l.next.0 s → s ≢ l.out.0 → Marked (circuit_of n) enabled run t s)) →
      ((own ≡ true) ↔ Marked (circuit_of n) enabled run t l.out.0) → ((rest && not own) ≡ true → (loads ≡ true) ↔ Loads (circuit_of n) (run t) l.out.0 l.next.0) →
      ((rest && (own || loads)) ≡ true) ↔ Marked (circuit_of n) enabled run (suc t) l.out.0
  held_mark enabled run t j l at en rest own loads rest_is own_is loads_is = (there rest own loads refl refl refl, back)
    where
      stands : IsLatch (circuit_of n) l.name l.out.0 l.next.0
      stands = latch_stands n j l at

      others : rest ≡ true → (u : ℕ) → InCone (circuit_of n) l.next.0 u → u ≢ l.out.0 → Marked (circuit_of n) enabled run t u
      others e u cone ne = by cone.0
        where
          by : IsSource (circuit_of n) u → Marked (circuit_of n) enabled run t u
          by (inl i) = Marked.input i
          by (inr x) = of (equation_from n (latch_equation x.0 u x.1) x.2)
            where
              of : OfGate n (latch_equation x.0 u x.1) ⊎ OfLatch n (latch_equation x.0 u x.1) → Marked (circuit_of n) enabled run t u
              of (inl g) = absurd (let q = g.is in cc)
              of (inr k) = rest_is.0 e u k.j k.latch k.at (let q = k.is in cc) cone ne

      asked : rest ≡ true → own ≡ false → (rest && not own) ≡ true
      asked p q = ap (λ z. z && not own) p ∙ ap not q

      there : (a b c : Bool) → rest ≡ a → own ≡ b → loads ≡ c → (a && (b || c)) ≡ true → Marked (circuit_of n) enabled run (suc t) l.out.0
      there false b c p q r e = absurd (cc)
      there true true c p q r e = Marked.keeps stands en (others p) (own_is.0 q)
      there true false true p q r e = Marked.loads stands en (others p) ((loads_is (asked p q)).0 r)
      there true false false p q r e = absurd (cc)

      join : rest ≡ true → (own ≡ true) ⊎ (loads ≡ true) → (rest && (own || loads)) ≡ true
      join p q = go rest own loads p q
        where
          go : (a b c : Bool) → a ≡ true → (b ≡ true) ⊎ (c ≡ true) → (a && (b || c)) ≡ true
          go true true c p q = refl
          go true false true p q = refl
          go true false false p (inl q) = absurd (cc)
          go true false false p (inr q) = absurd (cc)
          go false b c p q = absurd (cc)

      pick : ((enabled l.out.0 → ⊥) × Marked (circuit_of n) enabled run t l.next.0)
          ⊎ (enabled l.out.0 × ((u : ℕ) → InCone (circuit_of n) l.next.0 u → u ≢ l.out.0 → Marked (circuit_of n) enabled run t u) × (Loads (circuit_of n) (run t) l.out.0 l.next.0 ⊎ Marked (circuit_of n) enabled run t l.out.0)) →
          (rest && (own || loads)) ≡ true
      pick (inl m) = absurd (m.0 en)
      pick (inr m) = join all (which m.2)
        where
          all : rest ≡ true
          all = rest_is.1 (λ s i k h o cone ne. m.1 s cone ne)

          which : Loads (circuit_of n) (run t) l.out.0 l.next.0 ⊎ Marked (circuit_of n) enabled run t l.out.0 → (own ≡ true) ⊎ (loads ≡ true)
          which (inl x) = by own refl
            where
              by : (b : Bool) → own ≡ b → (own ≡ true) ⊎ (loads ≡ true)
              by true q = inl q
              by false q = inr ((loads_is (asked all q)).1 x)
          which (inr x) = inl (own_is.1 x)

      back : Marked (circuit_of n) enabled run (suc t) l.out.0 → (rest && (own || loads)) ≡ true
      back settled = pick (mark_step (circuit_of n) enabled run net.single settled (latch_equation l.name l.out.0 l.next.0) stands refl)

-- what a test of two bits tells of the bits that they are
pub told : {L : Type 0} (a b x y : Bool) → a ≡ x → b ≡ y → (x ≡ y) ↔ L → (beq a b ≡ true) ↔ L
told {L} a b x y p q right = (λ e. right.0 (sym p ∙ (is a b e ∙ q)), λ h. test a b (p ∙ (right.1 h ∙ sym q)))
  where
    is : (a b : Bool) → beq a b ≡ true → a ≡ b
    is true true e = refl
    is false false e = refl
    is true false e = absurd (cc)
    is false true e = absurd (cc)

    test : (a b : Bool) → a ≡ b → beq a b ≡ true
    test true true e = refl
    test false false e = refl
    test true false e = absurd (cc)
    test false true e = absurd (cc)

module _ (n : NetView) (sound : IsSound n) (bits : List Bool) (run : ℕ → ℕ → Bool) (t : ℕ) (marks : List Bool) (are : AreMarks n bits run t marks) where
  pub mark_of : (p : ℕ) (d : Bool) → p < length n.drivers → (get_or marks p d ≡ true) ↔ Marked (circuit_of n) (IsMarkedBy n.latches bits) run t p
  mark_of p d inside = let x = are p inside in subst (λ z. (z ≡ true) ↔ Marked (circuit_of n) (IsMarkedBy n.latches bits) run t p) (sym (get_or_from_slice_get marks p x.0 d x.1)) x.2

  -- the other latches of the cone are marked
  pub rest_marked : (l : LatchAt) (sides : List Signal) → AreSides n l.next.0 l.out.0 sides → (rest : Bool) → rest ≡ list_all (λ (f : Signal). get_or marks f.0 false) sides →
      (rest ≡ true) ↔ ((s i : ℕ) (k : LatchAt) → slice_get n.latches i ≡ Some k → k.out.0 ≡ s → InCone (circuit_of n) l.next.0 s → s ≢ l.out.0 → Marked (circuit_of n) (IsMarkedBy n.latches bits) run t s)
  rest_marked l sides o rest is = (there, back)
    where
      net_here : IsNet (circuit_of n) (length n.drivers)
      net_here = sound_is_net n sound

      there : rest ≡ true → (s i : ℕ) (k : LatchAt) → slice_get n.latches i ≡ Some k → k.out.0 ≡ s → InCone (circuit_of n) l.next.0 s → s ≢ l.out.0 → Marked (circuit_of n) (IsMarkedBy n.latches bits) run t s
      there e s i k h out cone ne =
          let found = o.all s cone.0 ne cone.1 in
          marks_down (circuit_of n) (IsMarkedBy n.latches bits) run net_here.single found.2 t
          ((mark_of found.0.0 false (o.within found.0 found.1)).0 (all_pass (λ (f : Signal). get_or marks f.0 false) sides (sym is ∙ e) found.0 found.1))

      back : ((s i : ℕ) (k : LatchAt) → slice_get n.latches i ≡ Some k → k.out.0 ≡ s → InCone (circuit_of n) l.next.0 s → s ≢ l.out.0 → Marked (circuit_of n) (IsMarkedBy n.latches bits) run t s) → rest ≡ true
      back all = is ∙ all_from_each (λ (f : Signal). get_or marks f.0 false) sides (λ f h. (mark_of f.0 false (o.within f h)).1
          (mark_by_cone (circuit_of n) (IsMarkedBy n.latches bits) run t (net_determined (circuit_of n) (length n.drivers) net_here f.0 (o.within f h)) (λ u cone. each f h u cone cone.0)))
        where
          each : (f : Signal) → Contains sides f → (u : ℕ) → InCone (circuit_of n) f.0 u → IsSource (circuit_of n) u → Marked (circuit_of n) (IsMarkedBy n.latches bits) run t u
          each f h u cone (inl i) = Marked.input i
          each f h u cone (inr x) = of (equation_from n (latch_equation x.0 u x.1) x.2)
            where
              of : OfGate n (latch_equation x.0 u x.1) ⊎ OfLatch n (latch_equation x.0 u x.1) → Marked (circuit_of n) (IsMarkedBy n.latches bits) run t u
              of (inl g) = absurd (let q = g.is in cc)
              of (inr k) =
                  all u k.j k.latch k.at (let q = k.is in cc) (cone.0, reach_on (o.reached f h) cone.1) (λ e. o.aside f h (subst (λ z. Reaches (circuit_of n) f.0 z) e cone.1))

-- marks depend on nothing but which latches count as enabled
pub marked_same : {P : Type 0} (c : Circuit P) (a b : P → Type 0) → ((name : List ℕ) (u next : P) → IsLatch c name u next → a u ↔ b u) → (run : ℕ → P → Bool) → {t : ℕ} {p : P} → Marked c a run t p → Marked c b run t p
marked_same c a b same run (Marked.input i) = Marked.input i
marked_same c a b same run (Marked.gate eq each) = Marked.gate eq (λ q h. marked_same c a b same run (each q h))
marked_same c a b same run (Marked.port eq from) = Marked.port eq (marked_same c a b same run from)
marked_same c a b same run (Marked.plain {name = name} {out = out} {next = next} latch other mark) = Marked.plain latch (λ x. other ((same name out next latch).1 x)) (marked_same c a b same run mark)
marked_same c a b same run (Marked.loads {name = name} {out = out} {next = next} latch en others loads) =
    Marked.loads latch ((same name out next latch).0 en) (λ u cone ne. marked_same c a b same run (others u cone ne)) loads
marked_same c a b same run (Marked.keeps {name = name} {out = out} {next = next} latch en others mark) =
    Marked.keeps latch ((same name out next latch).0 en) (λ u cone ne. marked_same c a b same run (others u cone ne)) (marked_same c a b same run mark)
