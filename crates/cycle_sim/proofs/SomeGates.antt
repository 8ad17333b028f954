-- Writing the values of some gates, and taking them back.
use Rattle.std.proofs.Common.{◌≡◌, ◌≢◌, ◌∙◌, ℕ, zero, suc, ◌+◌, ◌<◌, ◌≤◌, Bool, false, List, [], ◌∷◌, map, length, get_or, set, slice_get, Option, Some, None, refl, sym, ap, subst, arith, inl, inr, ◌⊎◌}
use Rattle.std.specs.List.{Contains}
use Rattle.std.specs.Prelude.{option_and_then}
use Rattle.std.proofs.lemmas.List.Elements.{All-contains}
use Rattle.std.proofs.lemmas.Option.{slice_get_within, slice_get-get_or, get_or_from_slice_get, same_Some}
use Rattle.circuit_theory.specs.Circuit.{Meets, Holds}
use Rattle.circuit_theory.specs.Cover.{cover_value}
use Rattle.circuit_theory.proofs.Lists.{map_same, map-map, at_of, of_at}
use Rattle.circuit_theory.proofs.Sums.{same_or_not}
use Rattle.flat_net.specs.declared.signals.Signal.{Signal}
use Rattle.flat_net.specs.declared.parts.Gate.{Gate}
use Rattle.flat_net.specs.declared.parts.LatchAt.{LatchAt}
use Rattle.flat_net.specs.declared.parts.Driver.{Driver}
use Rattle.flat_net.specs.declared.parts.Driver.TheVariants as driver
use Rattle.flat_net.specs.View.{NetView, circuit_of, cover_of}
use Rattle.flat_net.specs.Sound.{IsSound, Drives}
use Rattle.flat_net.proofs.Nets.{some_at, gate_stands}
use Rattle.flat_net.proofs.Places.{one_at, sound_in_order}
use Rattle.signal_graph.specs.inner_cone.latch_cone.Parts.{gate_of, gate_at}
use Rattle.signal_graph.specs.inner_cone.Inner.{LeadsAside}
use Rattle.signal_graph.specs.inner_cone.Gates.{AreInnerGates}
use Rattle.cycle_sim.specs.Steps.{IsRight, AreInputsRight, AreLatchesRight, AreAsideRight}
use Rattle.cycle_sim.specs.Turning.{AreSomeRight, IsOutOfSome}
use Rattle.cycle_sim.proofs.Lists.{below_or_here, set_here, gate_within}
use Rattle.cycle_sim.proofs.Values.{right_kept, right_here}

-- a list after a write at another place
pub set_elsewhere : {X : Type 0} (xs : List X) (s p : ℕ) (x : X) → p ≢ s → slice_get (set xs s x) p ≡ slice_get xs p
set_elsewhere [] s p x ne = refl
set_elsewhere (y ∷ ys) zero zero x ne = absurd (ne refl)
set_elsewhere (y ∷ ys) zero (suc p) x ne = refl
set_elsewhere (y ∷ ys) (suc s) zero x ne = refl
set_elsewhere (y ∷ ys) (suc s) (suc p) x ne = set_elsewhere ys s p x (λ e. ne (ap suc e))

-- lists with one element at each place are one
pub same_lists : {X : Type 0} (xs ys : List X) → ((p : ℕ) → slice_get xs p ≡ slice_get ys p) → xs ≡ ys
same_lists [] [] same = refl
same_lists {X} [] (y ∷ ys) same = absurd (no (same zero))
  where
    no : ◌≡◌ {A = Option X} None (Some y) → ⊥
    no q = cc
same_lists {X} (x ∷ xs) [] same = absurd (no (same zero))
  where
    no : ◌≡◌ {A = Option X} (Some x) None → ⊥
    no q = cc
same_lists (x ∷ xs) (y ∷ ys) same =
    let head : x ≡ y = same_Some x y (same zero) in
    let tail : xs ≡ ys = same_lists xs ys (λ p. same (suc p)) in
    cc

-- inputs, latches, what doesn't lead back to a signal, and so many of these gates have their values
pub record SomeBelow (n : NetView) (own : ℕ) (gates : List ℕ) (v : ℕ → Bool) (values : List Bool) (count : ℕ) : Type 0 where
  pub inputs : AreInputsRight n v values
  pub latches : AreLatchesRight n v values
  pub aside : AreAsideRight n own v values
  pub some : (k j : ℕ) (g : Gate) → k < count → slice_get gates k ≡ Some j → slice_get n.gates j ≡ Some g → IsRight v values g.out.0

-- the gate that drives the signal, by its position
pub gate_there : (n : NetView) (s j : ℕ) → slice_get n.drivers s ≡ Some (driver.Gate j) → gate_at n s ≡ Some j
gate_there n s j e = ap (option_and_then gate_of) e

module _ (n : NetView) (sound : IsSound n) where
  module _ (l : LatchAt) (gates : List ℕ) (are : AreInnerGates n l gates) (v : ℕ → Bool) (meets : Meets (circuit_of n) v) where
    -- the fan-ins of the next of these gates have their values
    fanin_right : (values : List Bool) (i j : ℕ) (g : Gate) → slice_get gates i ≡ Some j → slice_get n.gates j ≡ Some g → SomeBelow n l.out.0 gates v values i → (f : Signal) → Contains g.fanins f → IsRight v values f.0
    fanin_right values i j g at_j at have f reads =
        let low : f.0 < g.out.0 = All-contains (λ (s : Signal). s.0 < g.out.0) g.fanins f (sound.gates j g at).above reads in
        let within : f.0 < length n.drivers = let w = gate_within n sound j g at in omega (arith, low, w) in
        let d = some_at n.drivers f.0 within in
        by_driver within d.0 d.1 (sound.drivers f.0 d.0 d.1)
      where
        below_or_not : (a b : ℕ) → (a < b) ⊎ (b ≤ a)
        below_or_not a b = grind arith

        earlier : (p k : ℕ) → slice_get gates p ≡ Some k → k < j → (p < i) ⊎ (i ≤ p) → p < i
        earlier p k at_k before (inl l) = l
        earlier p k at_k before (inr h) =
            let inside = slice_get_within gates p k at_k in
            let order = are.in_order i p 0 h inside in
            let a = get_or_from_slice_get gates i j 0 at_j in
            let b = get_or_from_slice_get gates p k 0 at_k in
            absurd (omega (arith, order, a, b, before))

        by_gate : (k : ℕ) (h : Gate) → slice_get n.gates k ≡ Some h → h.out.0 ≡ f.0 → k < j → f.0 < length n.drivers → Contains gates k ⊎ LeadsAside n l.out.0 f.0 → IsRight v values f.0
        by_gate k h at_h out before within (inl there) =
            let place = at_of gates k there in
            subst (IsRight v values) out (have.some place.0 k h (earlier place.0 k place.1 before (below_or_not place.0 i)) place.1 at_h)
        by_gate k h at_h out before within (inr aside) = have.aside f.0 within aside

        by_driver : f.0 < length n.drivers → (d : Driver) → slice_get n.drivers f.0 ≡ Some d → Drives n f.0 d → IsRight v values f.0
        by_driver within (driver.Input x) drives h = subst (IsRight v values) h.2 (have.inputs x h.0 h.1)
        by_driver within (driver.Gate k) drives h = by_gate k h.0 h.1 h.2 (sound_in_order n sound j k g f at reads drives) within (are.closed j k g f (of_at gates i j at_j) at reads (gate_there n f.0 k drives))
        by_driver within (driver.Latch x) drives h = subst (IsRight v values) h.2 (have.latches x h.0 h.1)

    pub some_more : (values new : List Bool) (i j : ℕ) (g : Gate) → slice_get gates i ≡ Some j → slice_get n.gates j ≡ Some g → length values ≡ length n.drivers →
        new ≡ set values g.out.0 (cover_value (cover_of n.covers g) (map (λ f. get_or values f.0 false) g.fanins)) → SomeBelow n l.out.0 gates v values i → SomeBelow n l.out.0 gates v new (i + 1)
    some_more values new i j g at_j at size is have = subst (λ (z : List Bool). SomeBelow n l.out.0 gates v z (i + 1)) (sym is) (record {
      inputs = λ k port h. right_kept v values g.out.0 bit right port.signal.0 (have.inputs k port h);
      latches = λ k m h. right_kept v values g.out.0 bit right m.out.0 (have.latches k m h);
      aside = λ p inside aside. right_kept v values g.out.0 bit right p (have.aside p inside aside);
      some = λ k m h low at_m at_h. go k m h at_m at_h (below_or_here k i low);
    })
      where
        bit : Bool
        bit = cover_value (cover_of n.covers g) (map (λ f. get_or values f.0 false) g.fanins)

        right : bit ≡ v g.out.0
        right =
            ap (cover_value (cover_of n.covers g)) (map_same (λ (f : Signal). get_or values f.0 false) (λ (f : Signal). v f.0) g.fanins
            (λ f reads. get_or_from_slice_get values f.0 (v f.0) false (fanin_right values i j g at_j at have f reads)))
            ∙ (ap (cover_value (cover_of n.covers g)) (sym (map-map v (λ (f : Signal). f.0) g.fanins))
            ∙ sym (All-contains (Holds v) (circuit_of n).equations _ meets (gate_stands n j g at)))

        within : g.out.0 < length values
        within = let w = gate_within n sound j g at in omega (arith, w, size)

        go : (k m : ℕ) (h : Gate) → slice_get gates k ≡ Some m → slice_get n.gates m ≡ Some h → (k < i) ⊎ (k ≡ i) → IsRight v (set values g.out.0 bit) h.out.0
        go k m h at_m at_h (inl low) = right_kept v values g.out.0 bit right h.out.0 (have.some k m h low at_m at_h)
        go k m h at_m at_h (inr e) =
            let one : j ≡ m = one_at gates i j m at_j (sym (ap (slice_get gates) e) ∙ at_m) in
            let same : g ≡ h = one_at n.gates j g h at (ap (slice_get n.gates) one ∙ at_h) in
            subst (λ (q : Gate). IsRight v (set values g.out.0 bit) q.out.0) same (right_here v values g.out.0 bit right within)

    pub some_all : (values : List Bool) → SomeBelow n l.out.0 gates v values (length gates) → AreSomeRight n l.out.0 gates v values
    some_all values have = record {
      inputs = have.inputs;
      latches = have.latches;
      aside = have.aside;
      some = λ j g h at. let place = at_of gates j h in have.some place.0 j g (slice_get_within gates place.0 j place.1) place.1 at;
    }

    -- what the latch takes over has its value
    pub data_right : l.next.0 < length n.drivers → (values : List Bool) → AreSomeRight n l.out.0 gates v values → IsRight v values l.next.0
    data_right within values have = let d = some_at n.drivers l.next.0 within in by_driver d.0 d.1 (sound.drivers l.next.0 d.0 d.1)
      where
        by_gate : (k : ℕ) (h : Gate) → slice_get n.gates k ≡ Some h → h.out.0 ≡ l.next.0 → Contains gates k ⊎ LeadsAside n l.out.0 l.next.0 → IsRight v values l.next.0
        by_gate k h at_h out (inl there) = subst (IsRight v values) out (have.some k h there at_h)
        by_gate k h at_h out (inr aside) = have.aside l.next.0 within aside

        by_driver : (d : Driver) → slice_get n.drivers l.next.0 ≡ Some d → Drives n l.next.0 d → IsRight v values l.next.0
        by_driver (driver.Input x) drives h = subst (IsRight v values) h.2 (have.inputs x h.0 h.1)
        by_driver (driver.Gate k) drives h = by_gate k h.0 h.1 h.2 (are.taken k (gate_there n l.next.0 k drives))
        by_driver (driver.Latch x) drives h = subst (IsRight v values) h.2 (have.latches x h.0 h.1)

-- a write to what one of these gates drives
pub others_more : (n : NetView) (gates : List ℕ) (j : ℕ) (g : Gate) (start values new : List Bool) (bit : Bool) → Contains gates j → slice_get n.gates j ≡ Some g → new ≡ set values g.out.0 bit →
    ((p : ℕ) → IsOutOfSome n gates p ⊎ (slice_get values p ≡ slice_get start p)) → (p : ℕ) → IsOutOfSome n gates p ⊎ (slice_get new p ≡ slice_get start p)
others_more n gates j g start values new bit among at is have p = go (same_or_not p g.out.0) (have p)
  where
    go : (p ≡ g.out.0) ⊎ (p ≢ g.out.0) → IsOutOfSome n gates p ⊎ (slice_get values p ≡ slice_get start p) → IsOutOfSome n gates p ⊎ (slice_get new p ≡ slice_get start p)
    go (inl e) h = inl (record { position = j; gate = g; among = among; here = at; out = sym e })
    go (inr ne) (inl out) = inl out
    go (inr ne) (inr same) = inr (ap (λ (z : List Bool). slice_get z p) is ∙ (set_elsewhere values g.out.0 p bit ne ∙ same))

-- What has been taken back: what was the same is so, and so is what so many gates drive.
pub record BackBelow (n : NetView) (gates : List ℕ) (values start tried : List Bool) (count : ℕ) : Type 0 where
  pub kept : (p : ℕ) → slice_get start p ≡ slice_get values p → slice_get tried p ≡ slice_get values p
  pub put : (k j : ℕ) (g : Gate) → k < count → slice_get gates k ≡ Some j → slice_get n.gates j ≡ Some g → slice_get tried g.out.0 ≡ slice_get values g.out.0

-- a value that is taken back
pub taken_back : (values tried : List Bool) (s : ℕ) → s < length values → s < length tried → slice_get (set tried s (get_or values s false)) s ≡ slice_get values s
taken_back values tried s below within = set_here tried s (get_or values s false) within ∙ sym (slice_get-get_or values s false below)

pub kept_back : (values tried : List Bool) (s : ℕ) → s < length values → s < length tried → (p : ℕ) → slice_get tried p ≡ slice_get values p → slice_get (set tried s (get_or values s false)) p ≡ slice_get values p
kept_back values tried s below within p same = go (same_or_not p s)
  where
    go : (p ≡ s) ⊎ (p ≢ s) → slice_get (set tried s (get_or values s false)) p ≡ slice_get values p
    go (inl e) = ap (slice_get (set tried s (get_or values s false))) e ∙ (taken_back values tried s below within ∙ sym (ap (slice_get values) e))
    go (inr ne) = set_elsewhere tried s p (get_or values s false) ne ∙ same

pub back_more : (n : NetView) (sound : IsSound n) (gates : List ℕ) (values start tried new : List Bool) (i j : ℕ) (g : Gate) → slice_get gates i ≡ Some j → slice_get n.gates j ≡ Some g → length values ≡ length n.drivers → length tried ≡ length n.drivers →
    new ≡ set tried g.out.0 (get_or values g.out.0 false) → BackBelow n gates values start tried i → BackBelow n gates values start new (i + 1)
back_more n sound gates values start tried new i j g at_j at size room is have = subst (λ (z : List Bool). BackBelow n gates values start z (i + 1)) (sym is) (record {
  kept = λ p same. kept_back values tried g.out.0 below within p (have.kept p same);
  put = λ k m h low at_m at_h. go k m h at_m at_h (below_or_here k i low);
})
  where
    below : g.out.0 < length values
    below = let w = gate_within n sound j g at in omega (arith, w, size)

    within : g.out.0 < length tried
    within = let w = gate_within n sound j g at in omega (arith, w, room)

    go : (k m : ℕ) (h : Gate) → slice_get gates k ≡ Some m → slice_get n.gates m ≡ Some h → (k < i) ⊎ (k ≡ i) → slice_get (set tried g.out.0 (get_or values g.out.0 false)) h.out.0 ≡ slice_get values h.out.0
    go k m h at_m at_h (inl low) = kept_back values tried g.out.0 below within h.out.0 (have.put k m h low at_m at_h)
    go k m h at_m at_h (inr e) =
        let one : j ≡ m = one_at gates i j m at_j (sym (ap (slice_get gates) e) ∙ at_m) in
        let same : g ≡ h = one_at n.gates j g h at (ap (slice_get n.gates) one ∙ at_h) in
        subst (λ (q : Gate). slice_get (set tried g.out.0 (get_or values g.out.0 false)) q.out.0 ≡ slice_get values q.out.0) same (taken_back values tried g.out.0 below within)

-- all is as it was
pub all_back : (n : NetView) (gates : List ℕ) (values start tried : List Bool) → BackBelow n gates values start tried (length gates) → ((p : ℕ) → IsOutOfSome n gates p ⊎ (slice_get start p ≡ slice_get values p)) → tried ≡ values
all_back n gates values start tried back have = same_lists tried values (λ p. go p (have p))
  where
    go : (p : ℕ) → IsOutOfSome n gates p ⊎ (slice_get start p ≡ slice_get values p) → slice_get tried p ≡ slice_get values p
    go p (inl out) =
        let place = at_of gates out.position out.among in
        subst (λ s. slice_get tried s ≡ slice_get values s) out.out (back.put place.0 out.position out.gate (slice_get_within gates place.0 out.position place.1) place.1 out.here)
    go p (inr same) = back.kept p same

-- the latch's own signal is put back too
pub own_back : (n : NetView) (gates : List ℕ) (values turned tried : List Bool) (own : ℕ) (bit : Bool) → own < length values → length tried ≡ length values → turned ≡ set values own bit →
    ((p : ℕ) → IsOutOfSome n gates p ⊎ (slice_get tried p ≡ slice_get turned p)) → (p : ℕ) → IsOutOfSome n gates p ⊎ (slice_get (set tried own (get_or values own false)) p ≡ slice_get values p)
own_back n gates values turned tried own bit below size is have p = go (same_or_not p own) (have p)
  where
    go : (p ≡ own) ⊎ (p ≢ own) → IsOutOfSome n gates p ⊎ (slice_get tried p ≡ slice_get turned p) → IsOutOfSome n gates p ⊎ (slice_get (set tried own (get_or values own false)) p ≡ slice_get values p)
    go (inl e) h = inr (ap (slice_get (set tried own (get_or values own false))) e ∙ (taken_back values tried own below (omega (arith, below, size)) ∙ sym (ap (slice_get values) e)))
    go (inr ne) (inl out) = inl out
    go (inr ne) (inr same) = inr (set_elsewhere tried own p (get_or values own false) ne ∙ (same ∙ (ap (λ (z : List Bool). slice_get z p) is ∙ set_elsewhere values own p bit ne)))
