-- The sizes of a cut net are those of the cut circuit.
use Rattle.std.proofs.Common.{◌≡◌, ◌∙◌, ℕ, List, map, sym, ap, subst}
use Rattle.std.specs.List.{Contains}
use Rattle.circuit_theory.specs.Agree.{cut}
use Rattle.circuit_theory.specs.Circuit.{Circuit, Equation, Gate, Latch, Port, Named, Reads}
use Rattle.circuit_theory.specs.Sizes.{Visits, WeighsAt, IsWeight, IsOver}
use Rattle.circuit_theory.proofs.Lists.{map-map}
use Rattle.sec_setup.specs.flat_net.Cut.{IsCutCircuit}
use Rattle.sec_setup.specs.flat_net.View.{NetView, named, circuit_of}
use Rattle.sec_setup.specs.ports.Pairs.{outputs_of}
use Rattle.outcome_fits.specs.Fitting.{IsLight, IsTooLarge, cut_outputs, IsCutOver, IsCutLight}

-- sizes look at inputs and equations alone
module _ {P : Type 0} (c d : Circuit P) (inputs : c.inputs ≡ d.inputs) (equations : c.equations ≡ d.equations) where
  there : (e : Equation P) → Contains c.equations e → Contains d.equations e
  there e h = subst (λ (es : List (Equation P)). Contains es e) equations h

  reads : {p q : P} → Reads c p q → Reads d p q
  reads (Reads.by_gate {out = out} {fanins = fanins} {cover = cover} h k) = Reads.by_gate {fanins = fanins} {cover = cover} (there (Gate out fanins cover) h) k
  reads (Reads.by_port {out = out} {from = from} h) = Reads.by_port (there (Port out from) h)

  visits : {p : P} {k : ℕ} {q : P} {j : ℕ} → Visits c p k q j → Visits d p k q j
  visits Visits.itself = Visits.itself
  visits (Visits.reads v r) = Visits.reads (visits v) (reads r)
  visits (Visits.back {q = q} {next = next} {name = name} v l) = Visits.back {name = name} (visits v) (there (Latch name q next) l)

  weighs : {p : P} {w : ℕ} → WeighsAt c p w → WeighsAt d p w
  weighs (WeighsAt.input {p = p} i) = WeighsAt.input (i.0, subst (λ (is : List (Named P)). Contains is (record { name = i.0; place = p })) inputs i.1)
  weighs (WeighsAt.latch {p = p} {next = next} {name = name} l) = WeighsAt.latch {name = name} (there (Latch name p next) l)
  weighs (WeighsAt.gate {p = p} {fanins = fanins} {cover = cover} h) = WeighsAt.gate {fanins = fanins} {cover = cover} (there (Gate p fanins cover) h)

  same_over : (outputs : List P) (cap : ℕ) → IsOver c outputs cap → IsOver d outputs cap
  same_over outputs cap o = record {
    places = o.places;
    distinct = o.distinct;
    weighed = λ x h. weighs (o.weighed x h);
    met = λ x h. (let m = o.met x h in (m.0, m.1, visits m.2));
    total = o.total;
  }

  same_weight : ((p q : P) (k j : ℕ) → Visits d p k q j → Visits c p k q j) → (outputs : List P) (w : ℕ) → IsWeight c outputs w → IsWeight d outputs w
  same_weight back outputs w o = record {
    places = o.places;
    distinct = o.distinct;
    weighed = λ x h. weighs (o.weighed x h);
    met = λ q j. ((λ h. (let m = (o.met q j).0 h in (m.0, m.1, visits m.2))), (λ h. (o.met q j).1 (h.0, h.1, back h.0 q 0 j h.2)));
    total = o.total;
  }

module _ (names : List (List ℕ)) (c : Circuit ℕ) (m : NetView) (is : IsCutCircuit names c (circuit_of m)) where
  outputs_are : outputs_of m ≡ cut_outputs names c
  outputs_are = sym (map-map (λ (o : Named ℕ). o.place) named m.outputs) ∙ ap (map (λ (o : Named ℕ). o.place)) is.outputs

  pub cut_over : IsTooLarge m → IsCutOver names c
  cut_over o = subst (λ (os : List ℕ). IsOver (cut names c) os 2000000) outputs_are (same_over (circuit_of m) (cut names c) is.inputs is.equations (outputs_of m) 2000000 o)

  pub cut_light : IsLight m → IsCutLight names c
  cut_light o = (
    o.0,
    subst (λ (os : List ℕ). IsWeight (cut names c) os o.0) outputs_are
        (same_weight (circuit_of m) (cut names c) is.inputs is.equations (λ p q k j v. visits (cut names c) (circuit_of m) (sym is.inputs) (sym is.equations) v) (outputs_of m) o.0 o.1),
    o.2,
  )
