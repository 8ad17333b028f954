-- An assumption on the inputs that two circuits share reads inputs of the first one, as it is and with latches cut out.
use Rattle.std.proofs.Common.{◌≡◌, ℕ, List, ◌++◌, map, sym, ◌∙◌, ap, subst, inl, inr}
use Rattle.std.specs.Prelude.{◌⊎◌}
use Rattle.std.specs.List.{Contains}
use Rattle.std.proofs.lemmas.List.Elements.{Contains-append_left, Contains-append_right, Contains-append_cases}
use Rattle.circuit_theory.specs.Agree.{cut}
use Rattle.circuit_theory.specs.Circuit.{Named}
use Rattle.circuit_theory.specs.Interface.{AreNumbersOf}
use Rattle.circuit_theory.proofs.Lists.{map-map, Contains-map, Contains-map_from, Contains-filter}
use Rattle.base_tables.specs.Table.{AreDistinct}
use Rattle.flat_net.specs.declared.parts.Port.{Port}
use Rattle.flat_net.specs.Cut.{latch_at, as_input, exposed_names, IsCut, IsCutCircuit}
use Rattle.flat_net.specs.View.{NetView, named, circuit_of, ports_of}
use Rattle.outcome_fits.proofs.CutNets.{cut_numbers}
use Rattle.assume_laws.specs.Assume.{ReadsInputs}
use Rattle.assume_laws.specs.assume_shape.Shape.{HasShape}
use Rattle.assume_laws.proofs.assume_shape.Shapes.{shapes_are_assumptions}
use Rattle.assume_queries.specs.assume_sequences.assume_taken.Taken.{IsAssumed, assumed_by}
use Rattle.assume_queries.proofs.assume_sequences.assume_taken.Shapes.{shape_over, numbers_over}
use Rattle.plain_check.specs.under_base.Met.{shared_by}

-- a shared input is one of the first circuit
shared_there : (a b : NetView) (name : List ℕ) → Contains (shared_by a b) name → (p : Port) × Contains a.inputs p × (p.name ≡ name)
shared_there a b name h = Contains-map_from (λ (p : Port). p.name) a.inputs name (Contains-filter _ (ports_of a).inputs name h)

module _ (a b c : NetView) (is : IsAssumed (shared_by a b) c) where
  -- the names of the circuit's inputs are those of the net's
  same_names : map (λ (p : Port). p.name) a.inputs ≡ map (λ (i : Named ℕ). i.name) (circuit_of a).inputs
  same_names = sym (map-map (λ (i : Named ℕ). i.name) named a.inputs)

  pub reads_inputs : (left right : List ℕ) → AreNumbersOf (ports_of a).inputs (shared_by a b) left right → ReadsInputs (assumed_by is) (circuit_of a) left
  reads_inputs left right numbers =
      (shapes_are_assumptions c (shared_by a b) is.order is.others is.sound is.shape is.numbers).1 (circuit_of a) left right
      (subst (λ (names : List (List ℕ)). AreNumbersOf names (shared_by a b) left right) same_names numbers)
      (λ name h. let p = shared_there a b name h in subst (λ (names : List (List ℕ)). Contains names name) same_names (subst (Contains (map (λ (q : Port). q.name) a.inputs)) p.2 (Contains-map (λ (q : Port). q.name) a.inputs p.0 p.1)))

  -- with latches cut out, which become inputs
  module _ (m : NetView) (names : List (List ℕ)) (positions : List ℕ) (is_cut : IsCut a m positions) (called : exposed_names a positions ≡ names) (circuit : IsCutCircuit names (circuit_of a) (circuit_of m)) where
    input_there : (p : Port) (name : List ℕ) → Contains m.inputs p → p.name ≡ name → Contains (map (λ (i : Named ℕ). i.name) (cut names (circuit_of a)).inputs) name
    input_there p name h e =
        subst (λ (ns : List (List ℕ)). Contains ns name) (sym (map-map (λ (i : Named ℕ). i.name) named m.inputs) ∙ ap (map (λ (i : Named ℕ). i.name)) circuit.inputs)
        (subst (Contains (map (λ (q : Port). q.name) m.inputs)) e (Contains-map (λ (q : Port). q.name) m.inputs p h))

    column_there : (name : List ℕ) → Contains (shared_by a b ++ names) name → Contains (map (λ (i : Named ℕ). i.name) (cut names (circuit_of a)).inputs) name
    column_there name h = go (Contains-append_cases (shared_by a b) names name h)
      where
        added : List Port
        added = map (λ j. as_input (latch_at a j)) positions

        go : Contains (shared_by a b) name ⊎ Contains names name → Contains (map (λ (i : Named ℕ). i.name) (cut names (circuit_of a)).inputs) name
        go (inl k) =
            let p = shared_there a b name k in
            input_there p.0 name (subst (λ (ps : List Port). Contains ps p.0) (sym is_cut.inputs) (Contains-append_left a.inputs (map (λ j. as_input (latch_at a j)) positions) p.0 p.1)) p.2
        go (inr k) =
            let j = Contains-map_from (λ i. (latch_at a i).name) positions name (subst (λ (ns : List (List ℕ)). Contains ns name) (sym called) k) in
            let p : Port = as_input (latch_at a j.0) in
            input_there p name
            (subst (λ (ps : List Port). Contains ps p) (sym is_cut.inputs)
            (Contains-append_right a.inputs (map (λ i. as_input (latch_at a i)) positions) p (Contains-map (λ i. as_input (latch_at a i)) positions j.0 j.1))) j.2

    -- the shape over all columns, with the same output
    abbrev wider : HasShape c (shared_by a b ++ names)
    wider = record { latches = is.shape.latches; output = is.shape.output; outputs = is.shape.outputs; inputs = (shape_over c (shared_by a b) names is.shape).inputs }

    pub reads_cut : (left right : List ℕ) → AreDistinct (shared_by a b ++ names) → AreNumbersOf (ports_of m).inputs (shared_by a b ++ names) left right → ReadsInputs (assumed_by is) (cut names (circuit_of a)) left
    reads_cut left right distinct numbers =
        (shapes_are_assumptions c (shared_by a b ++ names) is.order is.others is.sound wider (numbers_over c (shared_by a b) is.shape is.order is.others is.numbers names distinct)).1
        (cut names (circuit_of a)) left right (cut_numbers names (shared_by a b ++ names) left right a m circuit numbers) column_there
