-- The literal of a place, by what drives its signal.
use Rattle.std.proofs.Common.{◌≡◌, ◌+◌, ◌-◌, ◌<◌, ℕ, List, length, slice_get, Some, None, Result, Ok, Err, IfOk, Bool, if◌then◌else◌, refl, sym, subst, inr}
use Rattle.std.specs.List.{Contains}
use Rattle.circuit_theory.proofs.Lists.{zip_weaker}
use Rattle.flat_net.specs.declared.parts.LatchAt.{LatchAt}
use Rattle.flat_net.specs.declared.parts.Driver.TheVariants as driver
use Rattle.flat_net.specs.View.{cover_of, start_of}
use Rattle.flat_net.specs.Sound.{IsSound}
use Rattle.aig.specs.declared.node.Lit.{Lit}
use Rattle.aig.specs.declared.node.Node.{Node}
use Rattle.aig.specs.Graph.{Grows}
use Rattle.cbf_unfold.specs.unfold_places.Reach.{IsMet}
use Rattle.cbf_unfold.proofs.unfold_places.Lists.{adds_none}
use Rattle.flat_net.proofs.Drivers.{gate_equation_stands, latch_equation_stands}
use Rattle.cbf_unfold.proofs.unfold_places.Steps.{latch_steps_to}
use Rattle.cbf_unfold.proofs.unfold_places.Growing.{Any}
use Rattle.reset_form.specs.reset_unfold.View.{ResetView}
use Rattle.reset_form.specs.reset_unfold.Unfolded.{IsKnown}
use Rattle.cbf_unfold.specs.unfold_places.Literals.{IsVariableLit, IsGateLit}
use Rattle.reset_form.specs.reset_unfold.Building.{AreKnown, IsReady}
use Rattle.reset_form.proofs.reset_unfold.Known.{known_later, known_leaf, known_latch, known_start, known_gate}
use Rattle.reset_form.proofs.reset_unfold.Numbers.{input_leaf, free_here, started}

module _ (u : ResetView) (sound : IsSound u.net) (p : ℕ × ℕ) where
  -- an input's place
  pub input_is : {E : Type 0} (i number : ℕ) (g : List Node) (places : List (ℕ × ℕ)) (r : Result Lit E) → slice_get u.net.drivers p.1 ≡ Some (driver.Input i) → slice_get u.order i ≡ Some number →
      IfOk r (λ x. IsVariableLit number p.0 g places x.0) → IfOk r (λ x. IsKnown u.net u.order u.base g places p x.0)
  input_is i number g places (Ok x) drives at l = known_leaf u.net u.order u.base g places p x.0 number (input_leaf u.net sound u.order u.base p i number drives at) l
  input_is i number g places (Err e) drives at l = l

  -- a gate's place
  pub gate_is : {E : Type 0} (j : ℕ) (g h : List Node) (places : List (ℕ × ℕ)) (r : Result Lit E) → slice_get u.net.drivers p.1 ≡ Some (driver.Gate j) → AreKnown u g places → Grows g h → IfOk r (λ x. IsGateLit u.net u.memo p.0 j h x.0) →
      IfOk r (λ x. IsKnown u.net u.order u.base h places p x.0)
  gate_is j g h places (Ok x) drives known grows l =
      known_gate u.net u.order u.base h places p.0 p.1 x.0 l.gate.fanins (cover_of u.net.covers l.gate) l.lits (gate_equation_stands u.net sound p.1 j drives l.gate l.at)
      (zip_weaker (λ f y. Contains u.memo ((p.0, f.0), y)) (λ f y. IsKnown u.net u.order u.base h places (p.0, f.0) y.0) (λ f y m. known_later u.net u.order u.base g h places places (p.0, f.0) y.0 grows (adds_none Any places places refl) (known (p.0, f.0) y m)) l.gate.fanins l.lits l.each)
      l.is l.within
  gate_is j g h places (Err e) drives known grows l = l

  -- a latch's place
  module _ (j : ℕ) (l : LatchAt) (drives : slice_get u.net.drivers p.1 ≡ Some (driver.Latch j)) (at : slice_get u.net.latches j ≡ Some l) where
    pub latch_met : 0 < p.0 → IsReady u p → IsMet u.memo (p.0 - 1, l.next.0)
    latch_met early ready = ready.read (p.0 - 1, l.next.0) (latch_steps_to u.net sound p.1 j drives l at p.0 early)

    pub latch_is : (x : Lit) (g : List Node) (places : List (ℕ × ℕ)) → 0 < p.0 → AreKnown u g places → Contains u.memo ((p.0 - 1, l.next.0), x) → IsKnown u.net u.order u.base g places p x.0
    latch_is x g places early known h =
        known_latch u.net u.order u.base g places p.0 p.1 l.next.0 x.0 l.name (latch_equation_stands u.net sound p.1 j drives l at) early (known (p.0 - 1, l.next.0) x h)

    -- its initial value
    pub start_is : (x : ℕ) (bit : Bool) (g : List Node) (places : List (ℕ × ℕ)) → p.0 ≡ 0 → start_of l.out.0 l.init ≡ Some (record { place = l.out.0; bit = bit }) → x ≡ (if bit then 1 else 0) → 0 < length g →
        IsKnown u.net u.order u.base g places p x
    start_is x bit g places zero is same some =
        known_start u.net u.order u.base g places p x l.next.0 l.name bit (latch_equation_stands u.net sound p.1 j drives l at) (started u.net sound u.order u.base p j drives l at bit is) zero same some

    -- its variable
    pub free_is : {E : Type 0} (number : ℕ) (g : List Node) (places : List (ℕ × ℕ)) (r : Result Lit E) → p.0 ≡ 0 → start_of l.out.0 l.init ≡ None → number ≡ u.base + j → IfOk r (λ x. IsVariableLit number 0 g places x.0) →
        IfOk r (λ x. IsKnown u.net u.order u.base g places p x.0)
    free_is number g places (Ok x) zero none same v =
        known_leaf u.net u.order u.base g places p x.0 (u.base + j) (inr (free_here u.net sound u.order u.base p j drives l at none zero))
        (subst (λ (k : ℕ). IsVariableLit (u.base + j) k g places x.0) (sym zero) (subst (λ (m : ℕ). IsVariableLit m 0 g places x.0) same v))
    free_is number g places (Err e) zero none same v = v
