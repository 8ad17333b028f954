-- The pairs of a comparison are of the circuits' outputs, and each has one depth.
use Rattle.std.proofs.Common.{◌≡◌, ◌<◌, ℕ, List, length, subst, arith}
use Rattle.std.specs.List.{Contains}
use Rattle.std.proofs.lemmas.List.Elements.{All-contains}
use Rattle.circuit_theory.specs.Circuit.{Circuit}
use Rattle.circuit_theory.specs.Depth.{IsDepth}
use Rattle.circuit_theory.specs.Fits.{IsPairDepth}
use Rattle.circuit_theory.specs.Run.{NoneEnabled}
use Rattle.circuit_theory.proofs.Lists.{Contains-map, Contains-map_from}
use Rattle.flat_net.specs.declared.parts.Port.{Port}
use Rattle.flat_net.specs.View.{NetView}
use Rattle.flat_net.specs.Sound.{IsSound}
use Rattle.sec_setup.specs.declared.ports.pairs.SignalPair.{SignalPair}
use Rattle.sec_setup.specs.declared.setup.Setup.{Setup}
use Rattle.sec_setup.specs.Setup.{IsSetup}
use Rattle.sec_setup.specs.ports.Pairs.{outputs_of}

-- both signals of each pair are outputs
pub record ArePairsIn (s : Setup) (pairs : List SignalPair) : Type 0 where
  pub left : (p : SignalPair) → Contains pairs p → Contains (outputs_of s.left.now) p.left.0
  pub right : (p : SignalPair) → Contains pairs p → Contains (outputs_of s.right.now) p.right.0

pub own_pairs : (s : Setup) → IsSetup s → ArePairsIn s s.pairs
own_pairs s h = record {
  left = λ p k. subst (λ (l : List ℕ). Contains l p.left.0) h.pairs.left (Contains-map (λ (q : SignalPair). q.left.0) s.pairs p k);
  right = λ p k. (h.pairs.right p.right.0).0 (Contains-map (λ (q : SignalPair). q.right.0) s.pairs p k);
}

-- an output is a signal of the net
pub output_within : (n : NetView) → IsSound n → (s : ℕ) → Contains (outputs_of n) s → s < length n.drivers
output_within n sound s h =
    let o = Contains-map_from (λ (p : Port). p.signal.0) n.outputs s h in
    subst (λ k. k < length n.drivers) o.2 (All-contains (λ (p : Port). p.signal.0 < length n.drivers) n.outputs o.0 sound.outputs o.1)

-- there is one depth
one_depth : (c : Circuit ℕ) (s d e : ℕ) → IsDepth c NoneEnabled s d → IsDepth c NoneEnabled s e → d ≡ e
one_depth c s d e x y = let l = y.greatest d x.reached in let m = x.greatest e y.reached in omega (arith, l, m)

pub one_pair_depth : (a b : Circuit ℕ) (p q d e : ℕ) → IsPairDepth a b p q d → IsPairDepth a b p q e → d ≡ e
one_pair_depth a b p q d e x y =
    let l = one_depth a p x.left y.left x.left_is y.left_is in
    let r = one_depth b q x.right y.right x.right_is y.right_is in
    let m = x.greater in
    let n = y.greater in
    omega (arith, l, r, m, n)
