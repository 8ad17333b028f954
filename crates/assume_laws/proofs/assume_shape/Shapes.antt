-- A net of the shape is an assumption.
use Rattle.std.proofs.Common.{◌≡◌, ◌<◌, ℕ, List, [], ◌∷◌, length, map, refl, sym, ◌∙◌, ap, subst, arith, inl, inr}
use Rattle.std.specs.Prelude.{◌⊎◌}
use Rattle.std.specs.List.{Contains}
use Rattle.std.proofs.lemmas.List.Elements.{All-contains, Contains-append_cases}
use Rattle.circuit_theory.specs.Circuit.{Latch as latch_equation, Named, IsLatch}
use Rattle.circuit_theory.specs.Interface.{AreNumbersOf}
use Rattle.circuit_theory.proofs.Lists.{Contains-head, Contains-map_from, length-map}
use Rattle.sec_setup.specs.ports.flat_net.Port.{Port}
use Rattle.sec_setup.specs.ports.flat_net.Gate.{Gate}
use Rattle.sec_setup.specs.ports.flat_net.LatchAt.{LatchAt}
use Rattle.sec_setup.specs.ports.flat_net.View.{NetView, named, equation_of_gate, equation_of_latch, circuit_of}
use Rattle.sec_setup.proofs.ports.flat_net.Nets.{sound_is_net}
use Rattle.assume_laws.specs.Assume.{IsAssumption}
use Rattle.assume_laws.proofs.Reading.{numbers_read}
use Rattle.assume_laws.specs.assume_shape.Shape.{assumption_of}
use Rattle.assume_laws.specs.assume_shape.Laws.{ShapesAreAssumptions}

same_names : (ports : List Port) → map (λ (m : Named ℕ). m.name) (map named ports) ≡ map (λ (p : Port). p.name) ports
same_names [] = refl
same_names (p ∷ ports) = ap (λ (names : List (List ℕ)). p.name ∷ names) (same_names ports)

none_there : {X : Type 0} (x : X) → Contains [] x → ⊥
none_there x h = omega (arith, h.1)

no_latch : (n : NetView) → n.latches ≡ [] → (name : List ℕ) (u next : ℕ) → IsLatch (circuit_of n) name u next → ⊥
no_latch n none name u next h = pick (Contains-append_cases (map (equation_of_gate n.covers) n.gates) (map equation_of_latch n.latches) (latch_equation name u next) h)
  where
    no : (g : Gate) → equation_of_gate n.covers g ≡ latch_equation name u next → ⊥
    no g e = cc

    pick : Contains (map (equation_of_gate n.covers) n.gates) (latch_equation name u next) ⊎ Contains (map equation_of_latch n.latches) (latch_equation name u next) → ⊥
    pick (inl g) = let k = Contains-map_from (equation_of_gate n.covers) n.gates (latch_equation name u next) g in no k.0 k.2
    pick (inr l) =
        let k = Contains-map_from equation_of_latch n.latches (latch_equation name u next) l in
        none_there k.0 (subst (λ (ls : List LatchAt). Contains ls k.0) none k.1)

pub shapes_are_assumptions : ShapesAreAssumptions
shapes_are_assumptions n columns order others sound shape numbers = (is, λ a left right theirs there. numbers_read (assumption_of n order shape.output.signal.0) (length n.drivers) a columns left right others is own theirs all there)
  where
    own : AreNumbersOf (map (λ (m : Named ℕ). m.name) (circuit_of n).inputs) columns order others
    own = subst (λ (names : List (List ℕ)). AreNumbersOf names columns order others) (sym (same_names n.inputs)) numbers

    is : IsAssumption (assumption_of n order shape.output.signal.0) (length n.drivers)
    is = record {
      net = sound_is_net n sound;
      gates = no_latch n shape.latches;
      each = own.each ∙ length-map (λ (m : Named ℕ). m.name) (circuit_of n).inputs;
      output = All-contains (λ (p : Port). p.signal.0 < length n.drivers) n.outputs shape.output sound.outputs (subst (λ (ps : List Port). Contains ps shape.output) (sym shape.outputs) (Contains-head shape.output []));
    }

    all : (name : List ℕ) → Contains (map (λ (m : Named ℕ). m.name) (circuit_of n).inputs) name → Contains columns name
    all name h =
        let k = Contains-map_from (λ (p : Port). p.name) n.inputs name (subst (λ (names : List (List ℕ)). Contains names name) (same_names n.inputs) h) in
        subst (Contains columns) k.2 (All-contains (λ (p : Port). Contains columns p.name) n.inputs k.0 shape.inputs k.1)
