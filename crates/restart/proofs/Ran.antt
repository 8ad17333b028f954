-- The three-valued run grows by one cycle at a time; what it has is known.
use Rattle.std.proofs.Common.{◌≡◌, ◌∙◌, ℕ, zero, suc, ◌-◌, ◌<◌, Bool, List, [], map, length, get_or, slice_get, refl, sym, ap, subst, arith, inl, inr, ◌⊎◌, Option, Some, None}
use Rattle.std.specs.List.{Contains}
use Rattle.std.proofs.lemmas.List.{length-map}
use Rattle.std.proofs.lemmas.Option.{get_or_from_slice_get, slice_get_within, slice_get-get_or}
use Rattle.circuit_theory.specs.Circuit.{Gate as gate_equation, Latch as latch_equation, IsLatch}
use Rattle.circuit_theory.specs.Cover.{Cover}
use Rattle.circuit_theory.specs.Tree.{IsInputNumber}
use Rattle.circuit_theory.proofs.Lists.{map_same, map-map}
use Rattle.circuit_laws.specs.start_laws.Known.{IsKnown, cover_three, row_bit}
use Rattle.circuit_laws.proofs.start_laws.Three.{three_known, latch_known}
use Rattle.cycle_sim.proofs.Lists.{map_is}
use Rattle.flat_net.specs.declared.signals.Signal.{Signal}
use Rattle.flat_net.specs.declared.parts.Driver.{Driver}
use Rattle.flat_net.specs.declared.parts.Driver.TheVariants as driver
use Rattle.flat_net.specs.declared.parts.Port.{Port}
use Rattle.flat_net.specs.declared.parts.Gate.{Gate}
use Rattle.flat_net.specs.declared.parts.LatchAt.{LatchAt}
use Rattle.flat_net.specs.Sound.{IsSound}
use Rattle.flat_net.specs.View.{NetView, circuit_of, cover_of, named, equation_of_gate, equation_of_latch}
use Rattle.flat_net.proofs.Drivers.{gate_of_equation}
use Rattle.flat_net.proofs.Nets.{OfGate, OfLatch, equation_from, latch_stands, sound_is_net}
use Rattle.restart.specs.Behind.{AreColumnsOf, AreKnownBehind, IsThreeRunTo}
use Rattle.restart.specs.Cycle.{AreOfCycle, TakesOver}
use Rattle.restart.proofs.Begun.{port_at}

-- values before a cycle, in it and behind it
abbrev splice : {X : Type 0} → ℕ → (ℕ → X) → X → X → ℕ → X
splice zero f here after zero = here
splice zero f here after (suc s) = after
splice (suc t) f here after zero = f 0
splice (suc t) f here after (suc s) = splice t (λ k. f (suc k)) here after s

spliced_before : {X : Type 0} (t : ℕ) (f : ℕ → X) (here after : X) (s : ℕ) → s < t → splice t f here after s ≡ f s
spliced_before zero f here after s h = absurd (omega (arith, h))
spliced_before (suc t) f here after zero h = refl
spliced_before (suc t) f here after (suc s) h = spliced_before t (λ k. f (suc k)) here after s (omega (arith, h))

spliced_here : {X : Type 0} (t : ℕ) (f : ℕ → X) (here after : X) → splice t f here after t ≡ here
spliced_here zero f here after = refl
spliced_here (suc t) f here after = spliced_here t (λ k. f (suc k)) here after

spliced_after : {X : Type 0} (t : ℕ) (f : ℕ → X) (here after : X) → splice t f here after (suc t) ≡ after
spliced_after zero f here after = refl
spliced_after (suc t) f here after = spliced_after t (λ k. f (suc k)) here after

before_or_at : (s t : ℕ) → s < suc t → (s < t) ⊎ (s ≡ t)
before_or_at s t h = grind arith

-- a latch's value, by what drives the signal
abbrev by_driver : List (Option Bool) → Option Driver → Option Bool
by_driver latches (Some (driver.Latch j)) = get_or latches j None
by_driver latches (Some (driver.Input i)) = None
by_driver latches (Some (driver.Gate j)) = None
by_driver latches None = None

-- nothing is known of any latch
abbrev pub nothing : LatchAt → Option Bool
nothing l = None

-- a latch of the circuit is one of the net
pub latch_of : (n : NetView) (name : List ℕ) (u next : ℕ) → IsLatch (circuit_of n) name u next → (j : ℕ) × (l : LatchAt) × (l.out.0 ≡ u) × (l.next.0 ≡ next) × (slice_get n.latches j ≡ Some l)
latch_of n name u next h = go (equation_from n (latch_equation name u next) h)
  where
    parts : (l : LatchAt) → equation_of_latch l ≡ latch_equation name u next → (l.out.0 ≡ u) × (l.next.0 ≡ next)
    parts l e = (cc, cc)

    no_gate : (g : Gate) → equation_of_gate n.covers g ≡ latch_equation name u next → ⊥
    no_gate g e = cc

    go : OfGate n (latch_equation name u next) ⊎ OfLatch n (latch_equation name u next) → (j : ℕ) × (l : LatchAt) × (l.out.0 ≡ u) × (l.next.0 ≡ next) × (slice_get n.latches j ≡ Some l)
    go (inl g) = absurd (no_gate g.gate g.is)
    go (inr l) = let p = parts l.latch l.is in (l.j, l.latch, p.0, p.1, l.at)

module _ (n : NetView) (columns : List ℕ) (rows : List (List Bool)) (first : LatchAt → Option Bool) where
  -- the run over so many rows, in which this is known of each latch at first
  pub record Ran (count : ℕ) (latches values : List (Option Bool)) : Type 0 where
    pub run : ℕ → ℕ → Option Bool
    pub power : (j : ℕ) (l : LatchAt) → slice_get n.latches j ≡ Some l → run 0 l.out.0 ≡ first l
    pub inputs : (t i k : ℕ) (port : Port) → t < count → slice_get n.inputs i ≡ Some port → slice_get columns i ≡ Some k → run t port.signal.0 ≡ row_bit rows k t
    pub gates : (t j : ℕ) (g : Gate) → t < count → slice_get n.gates j ≡ Some g → run t g.out.0 ≡ cover_three (cover_of n.covers g) (map (λ (f : Signal). run t f.0) g.fanins)
    pub later : (t j : ℕ) (l : LatchAt) → t < count → slice_get n.latches j ≡ Some l → run (suc t) l.out.0 ≡ run t l.next.0
    pub behind : (j : ℕ) (l : LatchAt) → slice_get n.latches j ≡ Some l → get_or latches j None ≡ run count l.out.0
    pub last : (t p : ℕ) → count ≡ suc t → get_or values p None ≡ run t p
    pub none : count ≡ 0 → (p : ℕ) → get_or values p None ≡ None

  pub ran_none : IsSound n → (latches values : List (Option Bool)) → ((j : ℕ) (l : LatchAt) → slice_get n.latches j ≡ Some l → get_or latches j None ≡ first l) → ((p : ℕ) → get_or values p None ≡ None) → Ran 0 latches values
  ran_none sound latches values begins no_value = record {
    run = λ t p. by_driver latches (slice_get n.drivers p);
    power = λ j l at. ap (by_driver latches) (sound.latches j l at).owner ∙ begins j l at;
    inputs = λ t i k port h at column. absurd (omega (arith, h));
    gates = λ t j g h at. absurd (omega (arith, h));
    later = λ t j l h at. absurd (omega (arith, h));
    behind = λ j l at. sym (ap (by_driver latches) (sound.latches j l at).owner);
    last = λ t p e. absurd (omega (arith, e));
    none = λ e p. no_value p;
  }

  module _ (sound : IsSound n) (t : ℕ) (row : List Bool) (latches values others next : List (Option Bool)) (has : slice_get rows t ≡ Some row) (ran : Ran t latches others) (of : AreOfCycle n columns row latches values)
      (takes : TakesOver n values next) where
    abbrev w : ℕ → ℕ → Option Bool
    w s p = splice t (λ k. ran.run k p) (get_or values p None) (by_driver next (slice_get n.drivers p)) s

    before : (s p : ℕ) → s < t → w s p ≡ ran.run s p
    before s p h = spliced_before t (λ k. ran.run k p) (get_or values p None) (by_driver next (slice_get n.drivers p)) s h

    now : (p : ℕ) → w t p ≡ get_or values p None
    now p = spliced_here t (λ k. ran.run k p) (get_or values p None) (by_driver next (slice_get n.drivers p))

    at_cycle : (s p : ℕ) → s ≡ t → w s p ≡ get_or values p None
    at_cycle s p e = ap (λ k. w k p) e ∙ now p

    after : (j : ℕ) (l : LatchAt) → slice_get n.latches j ≡ Some l → w (suc t) l.out.0 ≡ get_or next j None
    after j l at =
        spliced_after t (λ k. ran.run k l.out.0) (get_or values l.out.0 None) (by_driver next (slice_get n.drivers l.out.0)) ∙ ap (by_driver next) (sound.latches j l at).owner

    latch_now : (s j : ℕ) (l : LatchAt) → slice_get n.latches j ≡ Some l → s < suc t → w s l.out.0 ≡ ran.run s l.out.0
    latch_now s j l at h = go (before_or_at s t h)
      where
        go : (s < t) ⊎ (s ≡ t) → w s l.out.0 ≡ ran.run s l.out.0
        go (inl low) = before s l.out.0 low
        go (inr e) = at_cycle s l.out.0 e ∙ (of.latches_are j l at ∙ (ran.behind j l at ∙ ap (λ k. ran.run k l.out.0) (sym e)))

    taken : (j : ℕ) (l : LatchAt) → slice_get n.latches j ≡ Some l → get_or next j None ≡ get_or values l.next.0 None
    taken j l at = get_or_from_slice_get next j (get_or values l.next.0 None) None (takes j l at)

    w_inputs : (s i k : ℕ) (port : Port) → s < suc t → slice_get n.inputs i ≡ Some port → slice_get columns i ≡ Some k → w s port.signal.0 ≡ row_bit rows k s
    w_inputs s i k port h at column = go (before_or_at s t h)
      where
        go : (s < t) ⊎ (s ≡ t) → w s port.signal.0 ≡ row_bit rows k s
        go (inl low) = before s port.signal.0 low ∙ ran.inputs s i k port low at column
        go (inr e) = at_cycle s port.signal.0 e ∙ (of.inputs i k port at column ∙ (ap (λ (r : List Bool). slice_get r k) (sym (get_or_from_slice_get rows t row [] has)) ∙ ap (row_bit rows k) (sym e)))

    w_gates : (s j : ℕ) (g : Gate) → s < suc t → slice_get n.gates j ≡ Some g → w s g.out.0 ≡ cover_three (cover_of n.covers g) (map (λ (f : Signal). w s f.0) g.fanins)
    w_gates s j g h at = go (before_or_at s t h)
      where
        go : (s < t) ⊎ (s ≡ t) → w s g.out.0 ≡ cover_three (cover_of n.covers g) (map (λ (f : Signal). w s f.0) g.fanins)
        go (inl low) =
            before s g.out.0 low
            ∙ (ran.gates s j g low at ∙ ap (cover_three (cover_of n.covers g)) (map_same (λ (f : Signal). ran.run s f.0) (λ (f : Signal). w s f.0) g.fanins (λ f reads. sym (before s f.0 low))))
        go (inr e) =
            at_cycle s g.out.0 e
            ∙ (of.gates j g at ∙ ap (cover_three (cover_of n.covers g)) (map_same (λ (f : Signal). get_or values f.0 None) (λ (f : Signal). w s f.0) g.fanins (λ f reads. sym (at_cycle s f.0 e))))

    w_later : (s j : ℕ) (l : LatchAt) → s < suc t → slice_get n.latches j ≡ Some l → w (suc s) l.out.0 ≡ w s l.next.0
    w_later s j l h at = go (before_or_at s t h)
      where
        go : (s < t) ⊎ (s ≡ t) → w (suc s) l.out.0 ≡ w s l.next.0
        go (inl low) = latch_now (suc s) j l at (omega (arith, low)) ∙ (ran.later s j l low at ∙ sym (before s l.next.0 low))
        go (inr e) = ap (λ k. w (suc k) l.out.0) e ∙ (after j l at ∙ (taken j l at ∙ sym (at_cycle s l.next.0 e)))

    pub ran_more : Ran (suc t) next values
    ran_more = record {
      run = w;
      power = λ j l at. latch_now 0 j l at (omega arith) ∙ ran.power j l at;
      inputs = w_inputs;
      gates = w_gates;
      later = w_later;
      behind = λ j l at. sym (after j l at);
      last = λ s p e. let same : s ≡ t = omega (arith, e) in sym (at_cycle s p same);
      none = λ e p. absurd (omega (arith, e));
    }

    -- in the cycles before it is the run
    pub ran_grown : (more : Ran (suc t) next values) × ((s p : ℕ) → s < t → more.run s p ≡ ran.run s p)
    unfolding ran_more
    ran_grown = (ran_more, before)

  -- over all rows
  module _ (sound : IsSound n) (latches values : List (Option Bool)) (ran : Ran (length rows) latches values) where
    pub ran_inputs : (t p i : ℕ) → t < length rows → IsInputNumber (circuit_of n) columns p i → ran.run t p ≡ row_bit rows i t
    ran_inputs t p i h number = let x = port_at n.inputs columns p i number in ap (ran.run t) (sym x.4) ∙ ran.inputs t x.0 i x.1 h x.2 x.3

    pub ran_gates : (t out : ℕ) (fanins : List ℕ) (cover : Cover) → t < length rows → Contains (circuit_of n).equations (gate_equation out fanins cover) → ran.run t out ≡ cover_three cover (map (ran.run t) fanins)
    ran_gates t out fanins cover h eq =
        let g = gate_of_equation n sound out fanins cover eq in
        ap (ran.run t) (sym g.out) ∙ (ran.gates t g.j g.gate h g.at
        ∙ (ap (λ (k : Cover). cover_three k (map (λ (f : Signal). ran.run t f.0) g.gate.fanins)) g.cover_is
        ∙ ap (cover_three cover) (sym (map-map (ran.run t) (λ (f : Signal). f.0) g.gate.fanins) ∙ ap (map (ran.run t)) g.fanins_are)))

    pub ran_later : (t : ℕ) (name : List ℕ) (u next : ℕ) → t < length rows → IsLatch (circuit_of n) name u next → ran.run (suc t) u ≡ ran.run t next
    ran_later t name u next h latch = let l = latch_of n name u next latch in ap (ran.run (suc t)) (sym l.2) ∙ (ran.later t l.0 l.1 h l.4 ∙ ap (ran.run t) l.3)

    -- from nothing it is the one run
    pub ran_all : ((l : LatchAt) → first l ≡ None) → IsThreeRunTo n columns rows latches values
    ran_all unknown = record {
      run = ran.run;
      is_run = record {
        power = λ name u next latch. let l = latch_of n name u next latch in ap (ran.run 0) (sym l.2) ∙ (ran.power l.0 l.1 l.4 ∙ unknown l.1);
        inputs = ran_inputs;
        gates = ran_gates;
        later = ran_later;
      };
      behind = ran.behind;
      last = ran.last;
      none = ran.none;
    }

module _ (n : NetView) (columns : List ℕ) (rows : List (List Bool)) where
  module _ (sound : IsSound n) (size : length columns ≡ length n.inputs) where
    ports_long : (ports : List Port) → length (map named ports) ≡ length ports
    ports_long ports = length-map ports named

    -- what it has is known
    pub known_last : (latches values : List (Option Bool)) → IsThreeRunTo n columns rows latches values → (p : ℕ) (bit : Bool) → p < length n.drivers → slice_get values p ≡ Some (Some bit) → IsKnown (circuit_of n) columns rows (length rows - 1) p bit
    known_last latches values to p bit low at = go (length rows) refl
      where
        read : get_or values p None ≡ Some bit
        read = get_or_from_slice_get values p (Some bit) None at

        wrong : ◌≡◌ {A = Option Bool} None (Some bit) → ⊥
        wrong e = cc

        go : (count : ℕ) → length rows ≡ count → IsKnown (circuit_of n) columns rows (length rows - 1) p bit
        go zero e = absurd (wrong (sym (to.none e p) ∙ read))
        go (suc t) e =
            let s : t ≡ length rows - 1 = omega (arith, e) in
            subst (λ k. IsKnown (circuit_of n) columns rows k p bit) s
            (three_known (circuit_of n) (length n.drivers) columns rows to.run (sound_is_net n sound) (size ∙ sym (ports_long n.inputs)) to.is_run t p bit (omega (arith, e)) low (sym (to.last t p e) ∙ read))

    pub known_of : (names : List (List ℕ)) (latches values : List (Option Bool)) → AreColumnsOf n names columns → length latches ≡ length n.latches → IsThreeRunTo n columns rows latches values → AreKnownBehind n names rows latches
    known_of names latches values are long to = record {
      columns = columns;
      are_columns = are;
      run = to.run;
      is_run = to.is_run;
      are = map_is (λ (l : LatchAt). to.run (length rows) l.out.0) n.latches latches long (λ j l at. stands j l at);
      each = λ j l bit at here.
          latch_known (circuit_of n) (length n.drivers) columns rows to.run (sound_is_net n sound) (size ∙ sym (ports_long n.inputs)) to.is_run l.name l.out.0 l.next.0 bit (latch_stands n j l at)
          (sym (to.behind j l at) ∙ get_or_from_slice_get latches j (Some bit) None here);
    }
      where
        stands : (j : ℕ) (l : LatchAt) → slice_get n.latches j ≡ Some l → slice_get latches j ≡ Some (to.run (length rows) l.out.0)
        stands j l at = let w = slice_get_within n.latches j l at in slice_get-get_or latches j None (omega (arith, w, long)) ∙ ap Some (to.behind j l at)
