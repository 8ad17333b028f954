-- What drives a signal says what it reads and what it counts.
use Rattle.std.proofs.Common.{◌≡◌, ◌∙◌, ◌+◌, ◌*◌, ◌<◌, ◌≤◌, max, ℕ, suc, List, [], ◌∷◌, length, map, slice_get, Option, Some, None, refl, sym, ap, subst, arith, inl, inr}
use Rattle.std.specs.Prelude.{◌⊎◌}
use Rattle.std.specs.List.{Contains}
use Rattle.std.proofs.lemmas.List.Elements.{All-contains}
use Rattle.circuit_theory.specs.Cover.{Cover}
use Rattle.circuit_theory.specs.Circuit.{Gate as gate_equation, Latch as latch_equation, Port, IsInput, IsLatch, IsSource, Reads}
use Rattle.circuit_theory.specs.Sizes.{WeighsAt}
use Rattle.circuit_theory.specs.Net.{IsAbove, IsWithin}
use Rattle.circuit_theory.proofs.Lists.{Contains-map, Contains-map_from}
use Rattle.flat_net.specs.declared.signals.Signal.{Signal}
use Rattle.flat_net.specs.declared.parts.Port.{Port as InputPort}
use Rattle.flat_net.specs.declared.parts.Gate.{Gate}
use Rattle.flat_net.specs.declared.parts.LatchAt.{LatchAt}
use Rattle.flat_net.specs.declared.parts.Driver.{Driver}
use Rattle.flat_net.specs.declared.parts.Driver.TheVariants as driver
use Rattle.flat_net.specs.View.{NetView, circuit_of, cover_of, equation_of_gate, equation_of_latch}
use Rattle.flat_net.specs.Sound.{IsSound}
use Rattle.flat_net.proofs.Nets.{OfGate, OfLatch, some_at, equation_from, input_from, input_stands, gate_stands, latch_stands, sound_is_net}
use Rattle.flat_net.proofs.Places.{one_at}
use Rattle.flat_net.specs.Weights.{weight_at, driver_weight, gate_weight}

-- which driver it is
same_gate : {i j : ℕ} → driver.Gate i ≡ driver.Gate j → i ≡ j
same_gate e = cc

pub same_latch : {i j : ℕ} → driver.Latch i ≡ driver.Latch j → i ≡ j
same_latch e = cc

same_input : {i j : ℕ} → driver.Input i ≡ driver.Input j → i ≡ j
same_input e = cc

no_gate_latch : {i j : ℕ} → driver.Gate i ≡ driver.Latch j → ⊥
no_gate_latch e = cc

pub no_input_gate : {i j : ℕ} → driver.Input i ≡ driver.Gate j → ⊥
no_input_gate e = cc

pub no_input_latch : {i j : ℕ} → driver.Input i ≡ driver.Latch j → ⊥
no_input_latch e = cc

-- one input, or one latch, drives the signal
pub one_input : (n : NetView) (s i j : ℕ) → slice_get n.drivers s ≡ Some (driver.Input i) → slice_get n.drivers s ≡ Some (driver.Input j) → i ≡ j
one_input n s i j a b = same_input (one_at n.drivers s _ _ a b)

pub one_latch : (n : NetView) (s i j : ℕ) → slice_get n.drivers s ≡ Some (driver.Latch i) → slice_get n.drivers s ≡ Some (driver.Latch j) → i ≡ j
one_latch n s i j a b = same_latch (one_at n.drivers s _ _ a b)

module _ (n : NetView) (sound : IsSound n) where
  -- the gate of a gate's equation
  pub record GateOf (s : ℕ) (fanins : List ℕ) (cover : Cover) : Type 0 where
    pub j : ℕ
    pub gate : Gate
    pub at : slice_get n.gates j ≡ Some gate
    pub owner : slice_get n.drivers s ≡ Some (driver.Gate j)
    pub out : gate.out.0 ≡ s
    pub fanins_are : map (λ f. f.0) gate.fanins ≡ fanins
    pub cover_is : cover_of n.covers gate ≡ cover

  pub gate_of_equation : (s : ℕ) (fanins : List ℕ) (cover : Cover) → Contains (circuit_of n).equations (gate_equation s fanins cover) → GateOf s fanins cover
  gate_of_equation s fanins cover h = pick (equation_from n _ h)
    where
      no : (l : LatchAt) → equation_of_latch l ≡ gate_equation s fanins cover → ⊥
      no l e = cc

      parts : (g : Gate) → equation_of_gate n.covers g ≡ gate_equation s fanins cover → (g.out.0 ≡ s) × (map (λ (f : Signal). f.0) g.fanins ≡ fanins) × (cover_of n.covers g ≡ cover)
      parts g e = (cc, cc, cc)

      pick : OfGate n (gate_equation s fanins cover) ⊎ OfLatch n (gate_equation s fanins cover) → GateOf s fanins cover
      pick (inl g) =
          let p = parts g.gate g.is in
          record { j = g.j; gate = g.gate; at = g.at; owner = subst (λ o. slice_get n.drivers o ≡ Some (driver.Gate g.j)) p.0 (sound.gates g.j g.gate g.at).owner; out = p.0; fanins_are = p.1; cover_is = p.2 }
      pick (inr l) = absurd (no l.latch l.is)

  -- the latch of a latch's equation
  pub record LatchOf (name : List ℕ) (s next : ℕ) : Type 0 where
    pub j : ℕ
    pub latch : LatchAt
    pub at : slice_get n.latches j ≡ Some latch
    pub owner : slice_get n.drivers s ≡ Some (driver.Latch j)
    pub next_is : latch.next.0 ≡ next

  pub latch_of_equation : (name : List ℕ) (s next : ℕ) → IsLatch (circuit_of n) name s next → LatchOf name s next
  latch_of_equation name s next h = pick (equation_from n _ h)
    where
      no : (g : Gate) → equation_of_gate n.covers g ≡ latch_equation name s next → ⊥
      no g e = cc

      parts : (l : LatchAt) → equation_of_latch l ≡ latch_equation name s next → (l.out.0 ≡ s) × (l.next.0 ≡ next)
      parts l e = (cc, cc)

      pick : OfGate n (latch_equation name s next) ⊎ OfLatch n (latch_equation name s next) → LatchOf name s next
      pick (inl g) = absurd (no g.gate g.is)
      pick (inr l) =
          let p = parts l.latch l.is in
          record { j = l.j; latch = l.latch; at = l.at; owner = subst (λ o. slice_get n.drivers o ≡ Some (driver.Latch l.j)) p.0 (sound.latches l.j l.latch l.at).owner; next_is = p.1 }

  pub no_port : (s from : ℕ) → Contains (circuit_of n).equations (Port s from) → ⊥
  no_port s from h = All-contains IsAbove (circuit_of n).equations (Port s from) (sound_is_net n sound).above h

  -- the input of an input's place
  pub input_owner : (s : ℕ) → IsInput (circuit_of n) s → (i : ℕ) × (port : InputPort) × (slice_get n.inputs i ≡ Some port) × (port.signal.0 ≡ s) × (slice_get n.drivers s ≡ Some (driver.Input i))
  input_owner s h =
      let i = input_from n _ h.1 in
      let place : i.port.signal.0 ≡ s = ap (λ k. k.place) i.is in
      (i.j, i.port, i.at, place, subst (λ o. slice_get n.drivers o ≡ Some (driver.Input i.j)) place (sound.inputs i.j i.port i.at).owner)

  -- an input reads nothing, and is no latch
  pub input_reads : (s i q : ℕ) → slice_get n.drivers s ≡ Some (driver.Input i) → Reads (circuit_of n) s q → ⊥
  input_reads s i q drives (Reads.by_gate {fanins = fanins} {cover = cover} eq k) = no_input_gate (one_at n.drivers s _ _ drives (gate_of_equation s fanins cover eq).owner)
  input_reads s i q drives (Reads.by_port {from = from} eq) = no_port s from eq

  pub input_latch : (s i next : ℕ) (name : List ℕ) → slice_get n.drivers s ≡ Some (driver.Input i) → IsLatch (circuit_of n) name s next → ⊥
  input_latch s i next name drives h = no_input_latch (one_at n.drivers s _ _ drives (latch_of_equation name s next h).owner)

  -- what no gate drives reads nothing
  pub no_gate_reads : (s q : ℕ) (d : Driver) → slice_get n.drivers s ≡ Some d → ((j : ℕ) → d ≡ driver.Gate j → ⊥) → Reads (circuit_of n) s q → ⊥
  no_gate_reads s q d drives other (Reads.by_gate {fanins = fanins} {cover = cover} eq k) = let g = gate_of_equation s fanins cover eq in other g.j (one_at n.drivers s _ _ drives g.owner)
  no_gate_reads s q d drives other (Reads.by_port {from = from} eq) = no_port s from eq

  module _ (s j : ℕ) (drives : slice_get n.drivers s ≡ Some (driver.Gate j)) where
    pub driven_gate : (g : Gate) × (slice_get n.gates j ≡ Some g) × (g.out.0 ≡ s)
    driven_gate = sound.drivers s (driver.Gate j) drives

    module _ (g : Gate) (at : slice_get n.gates j ≡ Some g) where
      pub gate_out : g.out.0 ≡ s
      gate_out = ap (λ (h : Gate). h.out.0) (one_at n.gates j g driven_gate.0 at driven_gate.1) ∙ driven_gate.2

      pub gate_equation_stands : Contains (circuit_of n).equations (gate_equation s (map (λ f. f.0) g.fanins) (cover_of n.covers g))
      gate_equation_stands = subst (λ o. Contains (circuit_of n).equations (gate_equation o (map (λ f. f.0) g.fanins) (cover_of n.covers g))) gate_out (gate_stands n j g at)

      same_as : (fanins : List ℕ) (cover : Cover) (other : GateOf s fanins cover) → other.gate ≡ g
      same_as fanins cover other =
          let one : other.j ≡ j = same_gate (one_at n.drivers s _ _ other.owner drives) in
          one_at n.gates j other.gate g (ap (slice_get n.gates) (sym one) ∙ other.at) at

      -- a gate reads its fan-ins, and is no latch
      pub gate_reads_to : (f : Signal) → Contains g.fanins f → Reads (circuit_of n) s f.0
      gate_reads_to f h = Reads.by_gate gate_equation_stands (Contains-map (λ (k : Signal). k.0) g.fanins f h)

      pub gate_reads_from : (q : ℕ) → Reads (circuit_of n) s q → (f : Signal) × Contains g.fanins f × (f.0 ≡ q)
      gate_reads_from q (Reads.by_gate {fanins = fanins} {cover = cover} eq k) =
          let other = gate_of_equation s fanins cover eq in
          let mine : map (λ (f : Signal). f.0) g.fanins ≡ fanins = ap (λ (z : Gate). map (λ (f : Signal). f.0) z.fanins) (sym (same_as fanins cover other)) ∙ other.fanins_are in
          Contains-map_from (λ (f : Signal). f.0) g.fanins q (subst (λ l. Contains l q) (sym mine) k)
      gate_reads_from q (Reads.by_port {from = from} eq) = absurd (no_port s from eq)

      pub gate_latch : (name : List ℕ) (next : ℕ) → IsLatch (circuit_of n) name s next → ⊥
      gate_latch name next h = no_gate_latch (one_at n.drivers s _ _ drives (latch_of_equation name s next h).owner)

      pub gate_weight_is : weight_at n s ≡ gate_weight n.covers (Some g)
      gate_weight_is = ap (driver_weight n) drives ∙ ap (gate_weight n.covers) at

  module _ (s j : ℕ) (drives : slice_get n.drivers s ≡ Some (driver.Latch j)) where
    pub driven_latch : (l : LatchAt) × (slice_get n.latches j ≡ Some l) × (l.out.0 ≡ s)
    driven_latch = sound.drivers s (driver.Latch j) drives

    module _ (l : LatchAt) (at : slice_get n.latches j ≡ Some l) where
      pub latch_out : l.out.0 ≡ s
      latch_out = ap (λ (m : LatchAt). m.out.0) (one_at n.latches j l driven_latch.0 at driven_latch.1) ∙ driven_latch.2

      pub latch_equation_stands : IsLatch (circuit_of n) l.name s l.next.0
      latch_equation_stands = subst (λ o. IsLatch (circuit_of n) l.name o l.next.0) latch_out (latch_stands n j l at)

      -- a latch reads nothing in its own cycle, and takes over one signal
      pub latch_reads : (q : ℕ) → Reads (circuit_of n) s q → ⊥
      latch_reads q (Reads.by_gate {fanins = fanins} {cover = cover} eq k) = no_gate_latch (one_at n.drivers s _ _ (gate_of_equation s fanins cover eq).owner drives)
      latch_reads q (Reads.by_port {from = from} eq) = no_port s from eq

      pub latch_next : (name : List ℕ) (next : ℕ) → IsLatch (circuit_of n) name s next → l.next.0 ≡ next
      latch_next name next h =
          let other = latch_of_equation name s next h in
          let one : other.j ≡ j = same_latch (one_at n.drivers s _ _ other.owner drives) in
          let latch : other.latch ≡ l = one_at n.latches j other.latch l (ap (slice_get n.latches) (sym one) ∙ other.at) at in
          ap (λ (m : LatchAt). m.next.0) (sym latch) ∙ other.next_is

  -- a signal's weight is what it counts
  pub weighs : (s : ℕ) → s < length n.drivers → WeighsAt (circuit_of n) s (weight_at n s)
  weighs s h = let d = some_at n.drivers s h in subst (λ o. WeighsAt (circuit_of n) s (driver_weight n o)) (sym d.1) (by d.0 d.1)
    where
      by : (d : Driver) → slice_get n.drivers s ≡ Some d → WeighsAt (circuit_of n) s (driver_weight n (Some d))
      by (driver.Input i) drives =
          let p = sound.drivers s (driver.Input i) drives in
          WeighsAt.input (p.0.name, subst (λ o. Contains (circuit_of n).inputs (record { name = p.0.name; place = o })) p.2 (input_stands n i p.0 p.1))
      by (driver.Gate j) drives =
          let g = driven_gate s j drives in
          subst (λ o. WeighsAt (circuit_of n) s (gate_weight n.covers o)) (sym g.1)
          (subst (λ k. WeighsAt (circuit_of n) s (1 + max 1 (length (cover_of n.covers g.0).rows) * (k + 1))) (length-map_is g.0.fanins) (WeighsAt.gate (gate_equation_stands s j drives g.0 g.1)))
        where
          length-map_is : (fs : List Signal) → length (map (λ (f : Signal). f.0) fs) ≡ length fs
          length-map_is [] = refl
          length-map_is (f ∷ fs) = ap suc (length-map_is fs)
      by (driver.Latch j) drives = let l = driven_latch s j drives in WeighsAt.latch (latch_equation_stands s j drives l.0 l.1)

  -- each signal counts something
  pub weight_positive : (s : ℕ) → 1 ≤ weight_at n s
  weight_positive s = by (slice_get n.drivers s)
    where
      gate : (o : Option Gate) → 1 ≤ gate_weight n.covers o
      gate None = omega arith
      gate (Some g) = omega arith

      by : (o : Option Driver) → 1 ≤ driver_weight n o
      by None = omega arith
      by (Some (driver.Input i)) = omega arith
      by (Some (driver.Gate j)) = gate (slice_get n.gates j)
      by (Some (driver.Latch j)) = omega arith

  -- what is read is a signal of the net, and is lower
  pub reads_lower : (p q : ℕ) → Reads (circuit_of n) p q → q < p
  reads_lower p q (Reads.by_gate {fanins = fanins} {cover = cover} eq k) =
      All-contains (λ f. f < p) fanins q (All-contains IsAbove (circuit_of n).equations (gate_equation p fanins cover) (sound_is_net n sound).above eq) k
  reads_lower p q (Reads.by_port {from = from} eq) = absurd (no_port p from eq)

  pub latch_within : (name : List ℕ) (p next : ℕ) → IsLatch (circuit_of n) name p next → next < length n.drivers
  latch_within name p next h = (All-contains (IsWithin (length n.drivers)) (circuit_of n).equations (latch_equation name p next) (sound_is_net n sound).within h).1

  -- inputs and latches are what gates don't drive
  pub input_source : (s i : ℕ) → slice_get n.drivers s ≡ Some (driver.Input i) → IsSource (circuit_of n) s
  input_source s i drives =
      let p = sound.drivers s (driver.Input i) drives in
      inl (p.0.name, subst (λ o. Contains (circuit_of n).inputs (record { name = p.0.name; place = o })) p.2 (input_stands n i p.0 p.1))

  pub latch_source : (s j : ℕ) → slice_get n.drivers s ≡ Some (driver.Latch j) → IsSource (circuit_of n) s
  latch_source s j drives = let l = driven_latch s j drives in inr (l.0.name, l.0.next.0, latch_equation_stands s j drives l.0 l.1)

  pub source_drives : (s : ℕ) → IsSource (circuit_of n) s → ((i : ℕ) × (slice_get n.drivers s ≡ Some (driver.Input i))) ⊎ ((j : ℕ) × (slice_get n.drivers s ≡ Some (driver.Latch j)))
  source_drives s (inl h) = let p = input_owner s h in inl (p.0, p.4)
  source_drives s (inr h) = let p = latch_of_equation h.0 s h.1 h.2 in inr (p.j, p.owner)

  pub no_gate_source : (s : ℕ) (d : Driver) → slice_get n.drivers s ≡ Some d → ((j : ℕ) → d ≡ driver.Gate j → ⊥) → IsSource (circuit_of n) s
  no_gate_source s (driver.Input i) drives other = input_source s i drives
  no_gate_source s (driver.Gate j) drives other = absurd (other j refl)
  no_gate_source s (driver.Latch j) drives other = latch_source s j drives
