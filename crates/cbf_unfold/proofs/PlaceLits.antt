-- The literal of a place, by what drives its signal.
use Rattle.std.proofs.Common.{◌≡◌, ◌∙◌, ◌-◌, ℕ, List, map, slice_get, Some, Result, Ok, Err, IfOk, refl, ap, subst}
use Rattle.std.specs.List.{Contains}
use Rattle.circuit_theory.specs.Tree.{IsInputNumber}
use Rattle.circuit_theory.proofs.Lists.{zip_weaker}
use Rattle.circuit_theory.proofs.Numbers.{at_beside, slice_get-map}
use Rattle.flat_net.specs.declared.parts.LatchAt.{LatchAt}
use Rattle.flat_net.specs.declared.parts.Driver.TheVariants as driver
use Rattle.flat_net.specs.View.{named, circuit_of, cover_of}
use Rattle.flat_net.specs.Sound.{IsSound}
use Rattle.aig.specs.declared.node.Lit.{Lit}
use Rattle.aig.specs.declared.node.Node.{Node}
use Rattle.aig.specs.Graph.{Grows}
use Rattle.cbf_unfold.specs.View.{UnfolderView, IsOrderOf}
use Rattle.cbf_unfold.specs.Unfolded.{IsKnown}
use Rattle.cbf_unfold.specs.unfold_places.Literals.{IsVariableLit, IsGateLit}
use Rattle.cbf_unfold.specs.Building.{AreKnown, IsMet, IsReady}
use Rattle.aig.proofs.Lists.{adds_none}
pub use Rattle.cbf_unfold.proofs.unfold_places.Zips.{zip_more_left}
pub use Rattle.cbf_unfold.proofs.unfold_places.Growing.{zip_all, grown_none, cover_within_weight, input_grown, gate_grown, grown_as}
use Rattle.flat_net.proofs.Drivers.{gate_equation_stands, latch_equation_stands}
use Rattle.cbf_unfold.proofs.unfold_places.Steps.{latch_steps_to}
use Rattle.cbf_unfold.proofs.Known.{Any, known_later, known_input, known_latch, known_gate}

module _ (u : UnfolderView) (sound : IsSound u.net) (order : IsOrderOf u.net u.order) (p : ℕ × ℕ) where
  -- an input's place
  pub input_is : {E : Type 0} (i number shift : ℕ) (g : List Node) (places : List (ℕ × ℕ)) (r : Result Lit E) → slice_get u.net.drivers p.1 ≡ Some (driver.Input i) → slice_get u.order i ≡ Some number → shift ≡ u.cap - p.0 →
      IfOk r (λ x. IsVariableLit number shift g places x.0) → IfOk r (λ x. IsKnown u.net u.order u.cap g places p x.0)
  input_is i number shift g places (Ok x) drives at same l =
      let port = sound.drivers p.1 (driver.Input i) drives in
      let beside = at_beside (map named u.net.inputs) u.order i number (named port.0) (slice_get-map named u.net.inputs i port.0 port.1) at in
      known_input u.net u.order u.cap g places p x.0 number l.variable (subst (λ s. IsInputNumber (circuit_of u.net) u.order s number) port.2 beside) (l.numbered ∙ ap (λ (k : ℕ). Some (number, k)) same) l.lit l.within
  input_is i number shift g places (Err e) drives at same l = l

  -- a gate's place
  pub gate_is : {E : Type 0} (j : ℕ) (g h : List Node) (places : List (ℕ × ℕ)) (r : Result Lit E) → slice_get u.net.drivers p.1 ≡ Some (driver.Gate j) → AreKnown u g places → Grows g h → IfOk r (λ x. IsGateLit u.net u.memo p.0 j h x.0) →
      IfOk r (λ x. IsKnown u.net u.order u.cap h places p x.0)
  gate_is j g h places (Ok x) drives known grows l =
      known_gate u.net u.order u.cap h places p.0 p.1 x.0 l.gate.fanins (cover_of u.net.covers l.gate) l.lits (gate_equation_stands u.net sound p.1 j drives l.gate l.at)
      (zip_weaker (λ f y. Contains u.memo ((p.0, f.0), y)) (λ f y. IsKnown u.net u.order u.cap h places (p.0, f.0) y.0) (λ f y m. known_later u.net u.order u.cap g h places places (p.0, f.0) y.0 grows (adds_none Any places places refl) (known (p.0, f.0) y m)) l.gate.fanins l.lits l.each)
      l.is l.within
  gate_is j g h places (Err e) drives known grows l = l

  -- a latch's place
  pub latch_met : (j : ℕ) (l : LatchAt) → slice_get u.net.drivers p.1 ≡ Some (driver.Latch j) → slice_get u.net.latches j ≡ Some l → IsReady u p → IsMet u.memo (p.0 - 1, l.next.0)
  latch_met j l drives at ready = ready.read (p.0 - 1, l.next.0) (latch_steps_to u.net sound p.1 j drives l at p.0 ready.early)

  pub latch_is : (j : ℕ) (l : LatchAt) (x : Lit) (g : List Node) (places : List (ℕ × ℕ)) → slice_get u.net.drivers p.1 ≡ Some (driver.Latch j) → slice_get u.net.latches j ≡ Some l → IsReady u p → AreKnown u g places →
      Contains u.memo ((p.0 - 1, l.next.0), x) → IsKnown u.net u.order u.cap g places p x.0
  latch_is j l x g places drives at ready known h =
      known_latch u.net u.order u.cap g places p.0 p.1 l.next.0 x.0 l.name (latch_equation_stands u.net sound p.1 j drives l at) ready.early ready.visited.cycle (known (p.0 - 1, l.next.0) x h)
