-- Writing the values of one cycle of a three-valued run, one after the other.
use Rattle.std.proofs.Common.{◌≡◌, ◌≢◌, ℕ, zero, suc, ◌+◌, ◌<◌, Bool, List, [], ◌∷◌, map, length, get_or, set, slice_get, Some, None, Option, sym, ◌∙◌, ap, arith, inl, inr, ◌⊎◌}
use Rattle.std.specs.List.{Contains}
use Rattle.std.proofs.lemmas.List.{get_or-set_same, get_or-set_other}
use Rattle.std.proofs.lemmas.List.Elements.{All-contains}
use Rattle.std.proofs.lemmas.Option.{slice_get_within, slice_get-get_or}
use Rattle.circuit_theory.proofs.Lists.{map_same}
use Rattle.flat_net.specs.declared.signals.Signal.{Signal}
use Rattle.flat_net.specs.declared.parts.Driver.{Driver}
use Rattle.flat_net.specs.declared.parts.Driver.TheVariants as driver
use Rattle.flat_net.specs.declared.parts.Port.{Port}
use Rattle.flat_net.specs.declared.parts.Gate.{Gate}
use Rattle.flat_net.specs.declared.parts.LatchAt.{LatchAt}
use Rattle.flat_net.specs.Sound.{IsSound}
use Rattle.flat_net.specs.View.{NetView, cover_of}
use Rattle.flat_net.proofs.Places.{one_at}
use Rattle.cycle_sim.proofs.Lists.{set_here, set_there, below_or_here}
use Rattle.circuit_laws.specs.start_laws.Known.{cover_three}
use Rattle.restart.specs.Cycle.{HasInputs, HasLatches}

-- a value that is read with None elsewhere stands there
pub read_some : (values : List (Option Bool)) (p : ℕ) (bit : Bool) → get_or values p None ≡ Some bit → slice_get values p ≡ Some (Some bit)
read_some [] p bit e = absurd (cc)
read_some (v ∷ values) zero bit e = ap Some e
read_some (v ∷ values) (suc p) bit e = read_some values p bit e

-- so many inputs, latches or gates have their values
abbrev pub InputsBelow : NetView → List ℕ → List Bool → List (Option Bool) → ℕ → Type 0
InputsBelow n columns row values count = (k c : ℕ) (port : Port) → k < count → slice_get n.inputs k ≡ Some port → slice_get columns k ≡ Some c → get_or values port.signal.0 None ≡ slice_get row c

abbrev pub LatchesBelow : NetView → List (Option Bool) → List (Option Bool) → ℕ → Type 0
LatchesBelow n latches values count = (k : ℕ) (l : LatchAt) → k < count → slice_get n.latches k ≡ Some l → get_or values l.out.0 None ≡ get_or latches k None

abbrev pub GatesBelow : NetView → List (Option Bool) → ℕ → Type 0
GatesBelow n values count = (k : ℕ) (g : Gate) → k < count → slice_get n.gates k ≡ Some g → get_or values g.out.0 None ≡ cover_three (cover_of n.covers g) (map (λ (f : Signal). get_or values f.0 None) g.fanins)

same_input : {i j : ℕ} → driver.Input i ≡ driver.Input j → i ≡ j
same_input e = cc

same_latch : {i j : ℕ} → driver.Latch i ≡ driver.Latch j → i ≡ j
same_latch e = cc

no_input_gate : {i j : ℕ} → driver.Input i ≡ driver.Gate j → ⊥
no_input_gate e = cc

no_input_latch : {i j : ℕ} → driver.Input i ≡ driver.Latch j → ⊥
no_input_latch e = cc

no_latch_gate : {i j : ℕ} → driver.Latch i ≡ driver.Gate j → ⊥
no_latch_gate e = cc

module _ (n : NetView) (sound : IsSound n) where
  -- what other drivers drive is another signal
  apart : (p s : ℕ) (d e : Driver) → slice_get n.drivers p ≡ Some d → slice_get n.drivers s ≡ Some e → (d ≡ e → ⊥) → p ≢ s
  apart p s d e hp hs other same = other (one_at n.drivers s d e (sym (ap (slice_get n.drivers) same) ∙ hp) hs)

  pub inputs_more : (columns : List ℕ) (row : List Bool) (values : List (Option Bool)) (i c : ℕ) (port : Port) (value : Option Bool) → slice_get n.inputs i ≡ Some port → slice_get columns i ≡ Some c → port.signal.0 < length values → value ≡ slice_get row c →
      InputsBelow n columns row values i → InputsBelow n columns row (set values port.signal.0 value) (i + 1)
  inputs_more columns row values i c port value at column within is before k e q low at_q column_q = go (below_or_here k i low)
    where
      go : (k < i) ⊎ (k ≡ i) → get_or (set values port.signal.0 value) q.signal.0 None ≡ slice_get row e
      go (inl l) =
          get_or-set_other values port.signal.0 q.signal.0 value None
          (apart q.signal.0 port.signal.0 (driver.Input k) (driver.Input i) (sound.inputs k q at_q).owner (sound.inputs i port at).owner (λ h. let same = same_input h in omega (arith, l, same))) ∙ before k e q l at_q column_q
      go (inr same) =
          let one : port ≡ q = one_at n.inputs i port q at (sym (ap (slice_get n.inputs) same) ∙ at_q) in
          let columns_one : c ≡ e = one_at columns i c e column (sym (ap (slice_get columns) same) ∙ column_q) in
          ap (λ (x : Port). get_or (set values port.signal.0 value) x.signal.0 None) (sym one) ∙ (get_or-set_same values port.signal.0 value None within ∙ (is ∙ ap (slice_get row) columns_one))

  module _ (values : List (Option Bool)) (j : ℕ) (l : LatchAt) (value : Option Bool) (at : slice_get n.latches j ≡ Some l) where
    pub inputs_by_latch : (columns : List ℕ) (row : List Bool) → HasInputs n columns row values → HasInputs n columns row (set values l.out.0 value)
    inputs_by_latch columns row before i c port at_port column =
        get_or-set_other values l.out.0 port.signal.0 value None (apart port.signal.0 l.out.0 (driver.Input i) (driver.Latch j) (sound.inputs i port at_port).owner (sound.latches j l at).owner no_input_latch)
        ∙ before i c port at_port column

    pub latches_more : (latches : List (Option Bool)) → l.out.0 < length values → value ≡ get_or latches j None → LatchesBelow n latches values j → LatchesBelow n latches (set values l.out.0 value) (j + 1)
    latches_more latches within is before k m low at_m = go (below_or_here k j low)
      where
        go : (k < j) ⊎ (k ≡ j) → get_or (set values l.out.0 value) m.out.0 None ≡ get_or latches k None
        go (inl h) =
            get_or-set_other values l.out.0 m.out.0 value None
            (apart m.out.0 l.out.0 (driver.Latch k) (driver.Latch j) (sound.latches k m at_m).owner (sound.latches j l at).owner (λ e. let same = same_latch e in omega (arith, h, same))) ∙ before k m h at_m
        go (inr same) =
            let one : l ≡ m = one_at n.latches j l m at (sym (ap (slice_get n.latches) same) ∙ at_m) in
            ap (λ (x : LatchAt). get_or (set values l.out.0 value) x.out.0 None) (sym one) ∙ (get_or-set_same values l.out.0 value None within ∙ (is ∙ ap (λ (i : ℕ). get_or latches i None) (sym same)))

  module _ (values : List (Option Bool)) (j : ℕ) (g : Gate) (value : Option Bool) (at : slice_get n.gates j ≡ Some g) where
    pub inputs_by_gate : (columns : List ℕ) (row : List Bool) → HasInputs n columns row values → HasInputs n columns row (set values g.out.0 value)
    inputs_by_gate columns row before i c port at_port column =
        get_or-set_other values g.out.0 port.signal.0 value None (apart port.signal.0 g.out.0 (driver.Input i) (driver.Gate j) (sound.inputs i port at_port).owner (sound.gates j g at).owner no_input_gate)
        ∙ before i c port at_port column

    pub latches_by_gate : (latches : List (Option Bool)) → HasLatches n latches values → HasLatches n latches (set values g.out.0 value)
    latches_by_gate latches before k l at_l =
        get_or-set_other values g.out.0 l.out.0 value None (apart l.out.0 g.out.0 (driver.Latch k) (driver.Gate j) (sound.latches k l at_l).owner (sound.gates j g at).owner no_latch_gate) ∙ before k l at_l

    -- gates up to this one read lower signals alone
    fanins_stay : (h : Gate) (k : ℕ) → slice_get n.gates k ≡ Some h → ((f : Signal) → Contains h.fanins f → f.0 < g.out.0) → map (λ (f : Signal). get_or values f.0 None) h.fanins ≡ map (λ (f : Signal). get_or (set values g.out.0 value) f.0 None) h.fanins
    fanins_stay h k at_h below =
        map_same (λ (f : Signal). get_or values f.0 None) (λ (f : Signal). get_or (set values g.out.0 value) f.0 None) h.fanins
        (λ f reads. sym (get_or-set_other values g.out.0 f.0 value None (λ e. let low = below f reads in omega (arith, low, e))))

    pub gates_more : g.out.0 < length values → value ≡ cover_three (cover_of n.covers g) (map (λ (f : Signal). get_or values f.0 None) g.fanins) → GatesBelow n values j → GatesBelow n (set values g.out.0 value) (j + 1)
    gates_more within is before k h low at_h = go (below_or_here k j low)
      where
        above : (f : Signal) → Contains h.fanins f → f.0 < h.out.0
        above f reads = All-contains (λ (s : Signal). s.0 < h.out.0) h.fanins f (sound.gates k h at_h).above reads

        go : (k < j) ⊎ (k ≡ j) → get_or (set values g.out.0 value) h.out.0 None ≡ cover_three (cover_of n.covers h) (map (λ (f : Signal). get_or (set values g.out.0 value) f.0 None) h.fanins)
        go (inl l) =
            let lower : h.out.0 < g.out.0 = sound.ordered k j h g l at_h at in
            get_or-set_other values g.out.0 h.out.0 value None (λ e. omega (arith, lower, e))
            ∙ (before k h l at_h ∙ ap (cover_three (cover_of n.covers h)) (fanins_stay h k at_h (λ f reads. let low = above f reads in omega (arith, low, lower))))
        go (inr same) =
            let one : g ≡ h = one_at n.gates j g h at (sym (ap (slice_get n.gates) same) ∙ at_h) in
            let stays : cover_three (cover_of n.covers g) (map (λ (f : Signal). get_or values f.0 None) g.fanins) ≡ cover_three (cover_of n.covers g) (map (λ (f : Signal). get_or (set values g.out.0 value) f.0 None) g.fanins) =
            ap (cover_three (cover_of n.covers g)) (fanins_stay g j at (λ f reads. All-contains (λ (s : Signal). s.0 < g.out.0) g.fanins f (sound.gates j g at).above reads)) in
            ap (λ (x : Gate). get_or (set values g.out.0 value) x.out.0 None) (sym one)
            ∙ (get_or-set_same values g.out.0 value None within ∙ (is ∙ (stays ∙ ap (λ (x : Gate). cover_three (cover_of n.covers x) (map (λ (f : Signal). get_or (set values g.out.0 value) f.0 None) x.fanins)) one)))

-- the column at a place
pub column_at : (columns : List ℕ) (i : ℕ) → i < length columns → slice_get columns i ≡ Some (get_or columns i 0)
column_at columns i h = slice_get-get_or columns i 0 h

-- so many latches have taken over what is known of their data
pub taken_more : (n : NetView) (values bits : List (Option Bool)) (j : ℕ) (l : LatchAt) → slice_get n.latches j ≡ Some l → length bits ≡ length n.latches →
    ((k : ℕ) (m : LatchAt) → k < j → slice_get n.latches k ≡ Some m → slice_get bits k ≡ Some (get_or values m.next.0 None)) →
    (k : ℕ) (m : LatchAt) → k < j + 1 → slice_get n.latches k ≡ Some m → slice_get (set bits j (get_or values l.next.0 None)) k ≡ Some (get_or values m.next.0 None)
taken_more n values bits j l at size have k m h at_m = go (below_or_here k j h)
  where
    go : (k < j) ⊎ (k ≡ j) → slice_get (set bits j (get_or values l.next.0 None)) k ≡ Some (get_or values m.next.0 None)
    go (inl low) = set_there bits j k _ _ (λ e. omega (arith, low, e)) (have k m low at_m)
    go (inr e) =
        let same : l ≡ m = one_at n.latches j l m at (sym (ap (slice_get n.latches) e) ∙ at_m) in
        let within : j < length bits = let w = slice_get_within n.latches j l at in omega (arith, w, size) in
        ap (slice_get (set bits j (get_or values l.next.0 None))) e ∙ (set_here bits j _ within ∙ ap (λ (q : LatchAt). Some (get_or values q.next.0 None)) same)
