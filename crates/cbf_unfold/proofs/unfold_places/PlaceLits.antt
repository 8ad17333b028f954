-- The literals that places are given.
use Rattle.std.proofs.Common.{◌≡◌, ◌*◌, ◌<◌, ℕ, List, length, map, slice_get, Some, Result, Ok, Err, IfOk, IfSome, sym, ap, subst}
use Rattle.std.specs.List.{All, AllZip, Contains}
use Rattle.circuit_theory.specs.Cover.{Cover}
use Rattle.circuit_theory.proofs.Lists.{All-from_each}
use Rattle.flat_net.specs.declared.signals.Signal.{Signal}
use Rattle.flat_net.specs.declared.parts.Gate.{Gate}
use Rattle.flat_net.specs.declared.parts.Driver.TheVariants as driver
use Rattle.flat_net.specs.View.{NetView, circuit_of, cover_of}
use Rattle.flat_net.specs.Sound.{IsSound}
use Rattle.aig.specs.declared.node.Lit.{Lit}
use Rattle.aig.specs.declared.node.Node.{Node}
use Rattle.aig.specs.declared.node.Node.TheVariants.{Input}
use Rattle.aig.specs.Graph.{IsLitOf}
use Rattle.aig.specs.Rules.{IsCoverOf}
use Rattle.flat_net.specs.Weights.{weight_at, driver_weight, gate_weight}
use Rattle.cbf_unfold.specs.unfold_places.Places.{Steps}
use Rattle.cbf_unfold.specs.unfold_places.Reach.{IsMet}
use Rattle.cbf_unfold.specs.unfold_places.Literals.{IsVariableLit, IsGateLit}
use Rattle.flat_net.proofs.Drivers.{driven_gate}
use Rattle.cbf_unfold.proofs.unfold_places.Steps.{gate_steps_to}

-- the variable from what the calls gave
pub variable_lit : {E : Type 0} (number at v : ℕ) (h : List Node) (places : List (ℕ × ℕ)) (r : Result Lit E) → slice_get places v ≡ Some (number, at) → IfOk r (λ x. IsLitOf h (Input v) x.0) → IfOk r (λ x. x.0 < 2 * length h) →
    IfOk r (λ x. IsVariableLit number at h places x.0)
variable_lit number at v h places (Ok x) numbered lit within = record { variable = v; numbered = numbered; lit = lit; within = within }
variable_lit number at v h places (Err e) numbered lit within = lit

abbrev Memo : Type 0
Memo = List ((ℕ × ℕ) × Lit)

gate_lit : {E : Type 0} (n : NetView) (memo : Memo) (cycle j : ℕ) (h : List Node) (g : Gate) (lits : List Lit) (r : Result Lit E) → slice_get n.gates j ≡ Some g → AllZip (λ f y. Contains memo ((cycle, f.0), y)) g.fanins lits →
    IfOk r (λ x. IsCoverOf h (cover_of n.covers g) (map (λ y. y.0) lits) x.0) → IfOk r (λ x. x.0 < 2 * length h) → IfOk r (λ x. IsGateLit n memo cycle j h x.0)
gate_lit n memo cycle j h g lits (Ok x) at each is within = record { gate = g; at = at; lits = lits; each = each; is = is; within = within }
gate_lit n memo cycle j h g lits (Err e) at each is within = is

-- the gate's literal from what the calls gave
pub gate_lit_from : {E : Type 0} (n : NetView) (memo : Memo) (cycle j : ℕ) (h : List Node) (g : Gate) (lits : List Lit) (r : Result Lit E) → slice_get n.gates j ≡ Some g → (fanins : List Signal) → fanins ≡ g.fanins →
    AllZip (λ f y. Contains memo ((cycle, f.0), y)) fanins lits → (cover : Cover) → cover_of n.covers g ≡ cover → (read : List Lit) → read ≡ lits → IfOk r (λ x. IsCoverOf h cover (map (λ y. y.0) read) x.0) →
    IfOk r (λ x. x.0 < 2 * length h) → IfOk r (λ x. IsGateLit n memo cycle j h x.0)
gate_lit_from n memo cycle j h g lits r at fanins are each cover is read same here within =
    gate_lit n memo cycle j h g lits r at (subst (λ (l : List Signal). AllZip (λ f y. Contains memo ((cycle, f.0), y)) l lits) are each)
    (subst (λ (k : Cover). IfOk r (λ x. IsCoverOf h k (map (λ y. y.0) lits) x.0)) (sym is) (subst (λ (l : List Lit). IfOk r (λ x. IsCoverOf h cover (map (λ y. y.0) l) x.0)) same here)) within

module _ (n : NetView) (sound : IsSound n) (p : ℕ × ℕ) (j : ℕ) (drives : slice_get n.drivers p.1 ≡ Some (driver.Gate j)) where
  -- the gate's fan-ins have been met
  pub gate_met : (memo : Memo) → ((q : ℕ × ℕ) → Steps (circuit_of n) p q → IsMet memo q) → IfSome (slice_get n.gates j) (λ g. All (λ f. IsMet memo (p.0, f.0)) g.fanins)
  gate_met memo read =
      let g = driven_gate n sound p.1 j drives in
      subst (λ o. IfSome o (λ (k : Gate). All (λ f. IsMet memo (p.0, f.0)) k.fanins)) (sym g.1)
      (All-from_each (λ (f : Signal). IsMet memo (p.0, f.0)) g.0.fanins (λ f h. read (p.0, f.0) (gate_steps_to n sound p.1 j drives g.0 g.1 p.0 f h)))

  -- what a gate counts
  pub gate_counts : weight_at n p.1 ≡ gate_weight n.covers (slice_get n.gates j)
  gate_counts = ap (driver_weight n) drives
