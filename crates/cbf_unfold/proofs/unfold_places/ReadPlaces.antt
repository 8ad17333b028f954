-- The places that one place reads, put into a table.
use Rattle.std.proofs.Common.{◌≡◌, ◌+◌, ◌-◌, ◌<◌, ℕ, List, length, take, get_or, slice_get, Some, Result, Ok, Err, OnOk, sym, subst}
use Rattle.std.specs.List.{All, Contains}
use Rattle.std.proofs.lemmas.List.Elements.{All-more, All-weaker, All-contains, Contains-get_or}
use Rattle.flat_net.specs.declared.signals.Signal.{Signal}
use Rattle.flat_net.specs.declared.parts.Gate.{Gate}
use Rattle.flat_net.specs.declared.parts.LatchAt.{LatchAt}
use Rattle.flat_net.specs.declared.parts.Driver.TheVariants as driver
use Rattle.flat_net.specs.View.{NetView, circuit_of}
use Rattle.flat_net.specs.Sound.{IsSound}
use Rattle.cbf_unfold.specs.unfold_places.Places.{Steps}
use Rattle.aig.specs.declared.node.Lit.{Lit}
use Rattle.aig.specs.Adds.{Adds}
use Rattle.cbf_unfold.specs.unfold_places.Reach.{IsThere}
use Rattle.aig.proofs.Lists.{adds_trans, adds_weaker}
use Rattle.cbf_unfold.proofs.unfold_places.Lists.{there_later}
use Rattle.cbf_unfold.proofs.unfold_places.Steps.{gate_steps_to, gate_steps_from, latch_steps_to, latch_steps_from}

-- the place of one of these fan-ins
abbrev pub IsFaninPlace : List Signal → ℕ → ℕ × ℕ → Type 0
IsFaninPlace fanins cycle q = (f : Signal) × Contains fanins f × ((cycle, f.0) ≡ q)

pub fanin_adds : (fanins : List Signal) (cycle i : ℕ) (d : Signal) (first old new : List (ℕ × ℕ)) → i < length fanins → Adds (IsFaninPlace fanins cycle) first old → Adds (λ q. q ≡ (cycle, (get_or fanins i d).0)) old new →
    Adds (IsFaninPlace fanins cycle) first new
fanin_adds fanins cycle i d first old new inside before more =
    adds_trans (IsFaninPlace fanins cycle) first old new before
    (adds_weaker (λ q. q ≡ (cycle, (get_or fanins i d).0)) (IsFaninPlace fanins cycle) old new (λ q e. (get_or fanins i d, Contains-get_or fanins i d inside, sym e)) more)

pub fanin_all : (memo : List ((ℕ × ℕ) × Lit)) (fanins : List Signal) (cycle i : ℕ) (d : Signal) (old new : List (ℕ × ℕ)) → i < length fanins → All (λ f. IsThere memo old (cycle, f.0)) (take i fanins) →
    Adds (λ q. q ≡ (cycle, (get_or fanins i d).0)) old new → IsThere memo new (cycle, (get_or fanins i d).0) → All (λ f. IsThere memo new (cycle, f.0)) (take (i + 1) fanins)
fanin_all memo fanins cycle i d old new inside before more here =
    All-more (λ (f : Signal). IsThere memo new (cycle, f.0)) fanins i d inside
    (All-weaker (λ (f : Signal). IsThere memo old (cycle, f.0)) (λ (f : Signal). IsThere memo new (cycle, f.0)) (λ f h. there_later (λ q. q ≡ (cycle, (get_or fanins i d).0)) memo old new (cycle, f.0) more h) (take i fanins) before)
    here

module _ (n : NetView) (sound : IsSound n) (s j : ℕ) (cycle : ℕ) (old new : List (ℕ × ℕ)) where
  module _ (drives : slice_get n.drivers s ≡ Some (driver.Gate j)) (g : Gate) (at : slice_get n.gates j ≡ Some g) (fanins : List Signal) (are : fanins ≡ g.fanins) where
    pub gate_adds : Adds (IsFaninPlace fanins cycle) old new → Adds (Steps (circuit_of n) (cycle, s)) old new
    gate_adds a =
        adds_weaker (IsFaninPlace fanins cycle) (Steps (circuit_of n) (cycle, s)) old new
        (λ q h. subst (Steps (circuit_of n) (cycle, s)) h.2 (gate_steps_to n sound s j drives g at cycle h.0 (subst (λ (l : List Signal). Contains l h.0) are h.1))) a

    pub gate_all : (There : ℕ × ℕ → Type 0) → All (λ f. There (cycle, f.0)) fanins → (q : ℕ × ℕ) → Steps (circuit_of n) (cycle, s) q → There q
    gate_all There all q steps =
        let f = gate_steps_from n sound s j drives g at cycle q steps in
        subst There f.2 (All-contains (λ (k : Signal). There (cycle, k.0)) fanins f.0 all (subst (λ (l : List Signal). Contains l f.0) (sym are) f.1))

    pub gate_all_ok : (There : ℕ × ℕ → Type 0) {T E : Type 0} (r : Result T E) → OnOk r (All (λ f. There (cycle, f.0)) fanins) → OnOk r ((q : ℕ × ℕ) → Steps (circuit_of n) (cycle, s) q → There q)
    gate_all_ok There (Ok x) h = gate_all There h
    gate_all_ok There (Err e) h = h

  module _ (drives : slice_get n.drivers s ≡ Some (driver.Latch j)) (l : LatchAt) (at : slice_get n.latches j ≡ Some l) where
    pub latch_adds : 0 < cycle → Adds (λ q. q ≡ (cycle - 1, l.next.0)) old new → Adds (Steps (circuit_of n) (cycle, s)) old new
    latch_adds early a =
        adds_weaker (λ q. q ≡ (cycle - 1, l.next.0)) (Steps (circuit_of n) (cycle, s)) old new
        (λ q e. subst (Steps (circuit_of n) (cycle, s)) (sym e) (latch_steps_to n sound s j drives l at cycle early)) a

    pub latch_all : (There : ℕ × ℕ → Type 0) → There (cycle - 1, l.next.0) → (q : ℕ × ℕ) → Steps (circuit_of n) (cycle, s) q → There q
    latch_all There h q steps = subst There (latch_steps_from n sound s j drives l at cycle q steps) h

    pub latch_all_ok : (There : ℕ × ℕ → Type 0) {T E : Type 0} (r : Result T E) → OnOk r (There (cycle - 1, l.next.0)) → OnOk r ((q : ℕ × ℕ) → Steps (circuit_of n) (cycle, s) q → There q)
    latch_all_ok There (Ok x) h = latch_all There h
    latch_all_ok There (Err e) h = h
