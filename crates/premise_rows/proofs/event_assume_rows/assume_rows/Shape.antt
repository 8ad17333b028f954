-- What the nets of the three texts are, and that the third has the shape of an assumption.
use Rattle.std.proofs.Common.{◌≡◌, ◌∙◌, ℕ, zero, suc, ◌<◌, List, [], ◌∷◌, map, length, slice_get, Some, sym, ap, ap₂, subst, arith}
use Rattle.std.specs.Prelude.{codes}
use Rattle.std.specs.List.{Contains}
use Rattle.std.proofs.lemmas.Option.{slice_get_within}
use Rattle.circuit_theory.specs.Circuit.{Circuit, Named}
use Rattle.circuit_theory.specs.Interface.{Ports, shared_inputs}
use Rattle.circuit_theory.specs.Sizes.{IsWeight, IsOver}
use Rattle.circuit_theory.proofs.Lists.{Contains-map, of_at, length-map}
use Rattle.flat_net.specs.declared.parts.LatchAt.{LatchAt}
use Rattle.flat_net.specs.declared.parts.Port.{Port}
use Rattle.flat_net.specs.View.{NetView, named, circuit_of}
use Rattle.assume_laws.specs.declared.assume_shape.shape.ShapeFault.{ShapeFault}
use Rattle.assume_laws.specs.declared.assume_shape.shape.ShapeFault.TheVariants as fault
use Rattle.assume_queries.specs.assume_sequences.assume_taken.Taken.{IsFirstFault}
use Rattle.plain_check.specs.under_base.Met.{shared_by}
use Rattle.pair_texts.specs.design_rows.Small.{IsSmall, small_and}
use Rattle.pair_texts.proofs.design_rows.Spelling.{ports_are}
use Rattle.pair_texts.proofs.check_texts.Uncut.{uncut_is}
use Rattle.premise_rows.specs.event_assume_rows.assume_rows.SameInputs.{small_or, small_same}

-- the places of the outputs
abbrev outputs_in : Circuit ℕ → List ℕ
outputs_in c = map (λ (o : Named ℕ). o.place) c.outputs

module _ (a b : NetView) (left : IsSmall small_and a) (right : IsSmall small_or b) where
  pub shared_are : shared_by a b ≡ codes "a" ∷ codes "b" ∷ []
  shared_are = ap₂ (λ (p q : Ports). shared_inputs p q) (ports_are small_and a left) (ports_are small_or b right)

module _ (c : NetView) (small : IsSmall small_same c) (output : Port) (one : c.outputs ≡ output ∷ []) where
  -- what the output reads weighs less than 9
  pub light : (cap : ℕ) → IsOver (circuit_of c) (output.signal.0 ∷ []) cap → cap < 9
  light cap over =
      let outputs_are : outputs_in (circuit_of c) ≡ output.signal.0 ∷ [] = ap (λ (ps : List Port). map (λ (o : Named ℕ). o.place) (map named ps)) one in
      small.light cap (subst (λ (d : Circuit ℕ). IsOver d (outputs_in d) cap) (sym (uncut_is (circuit_of c))) (subst (λ (ps : List ℕ). IsOver (circuit_of c) ps cap) (sym outputs_are) over))

  over_below : (weight : ℕ) → IsWeight (circuit_of c) (output.signal.0 ∷ []) (suc weight) → IsOver (circuit_of c) (output.signal.0 ∷ []) weight
  over_below weight w = record {
    places = w.places;
    distinct = w.distinct;
    weighed = w.weighed;
    met = λ x h. (w.met x.place x.shift).0 (x.weight, h);
    total = let total = w.total in omega (arith, total);
  }

  pub weighs_few : (weight : ℕ) → IsWeight (circuit_of c) (output.signal.0 ∷ []) weight → weight < 10
  weighs_few zero w = omega arith
  weighs_few (suc weight) w = let h : weight < 9 = light weight (over_below weight w) in omega (arith, h)

-- the third is no fault of an assumption on inputs that have these names
module _ (names : List (List ℕ)) (shared : (name : List ℕ) → Contains (codes "a" ∷ codes "b" ∷ []) name → Contains names name) (c : NetView) (small : IsSmall small_same c) where
  one_output : length c.outputs ≡ 1
  one_output = sym (length-map (λ (p : Port). p.name) c.outputs) ∙ ap length small.outputs

  no_latch : length c.latches ≡ 0
  no_latch = sym (length-map (λ (l : LatchAt). l.name) c.latches) ∙ ap length small.counted

  shares : (position : ℕ) (p : Port) → slice_get c.inputs position ≡ Some p → Contains names p.name
  shares position p at =
      shared p.name (subst (λ (ns : List (List ℕ)). Contains ns p.name) small.inputs (Contains-map (λ (q : Port). q.name) c.inputs p (of_at c.inputs position p at)))

  pub no_fault : (f : ShapeFault) → IsFirstFault names c f → ⊥
  no_fault (fault.Latch name) (l, at, is) = let within : 0 < length c.latches = slice_get_within c.latches 0 l at in let none = no_latch in omega (arith, within, none)
  no_fault (fault.Outputs count) (none, count_is, other) = other (count_is ∙ one_output)
  no_fault (fault.Input name) (none, one, (position, is, name_is)) = is.foreign (shares position is.port is.at)
  no_fault fault.TooLarge (shape, over) = let few : 2000000 < 9 = light c small shape.output shape.outputs 2000000 over in omega (arith, few)
