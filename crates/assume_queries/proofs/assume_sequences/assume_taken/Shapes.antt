-- The numbers of an assumption's inputs.
use Rattle.std.proofs.Common.{◌≡◌, ℕ, ◌<◌, List, ◌++◌, length, sym, ◌∙◌, subst, arith, Some, slice_get}
use Rattle.std.specs.List.{All, Contains}
use Rattle.std.proofs.lemmas.List.Elements.{All-contains, All-weaker, Contains-append_left}
use Rattle.std.proofs.lemmas.Option.{slice_get_within, same_Some}
use Rattle.circuit_theory.specs.Interface.{AreNumbersOf}
use Rattle.circuit_theory.proofs.Lists.{All-from_each, at_of, of_at, map_at}
use Rattle.base_tables.specs.Table.{AreDistinct}
use Rattle.flat_net.specs.declared.parts.Port.{Port}
use Rattle.flat_net.specs.View.{NetView, ports_of}
use Rattle.flat_net.proofs.Growth.{slice_get-append}
use Rattle.flat_net.proofs.Nets.{some_at}
use Rattle.assume_laws.specs.assume_shape.Shape.{HasShape}

-- a circuit that has the shape over some names has it over more
pub shape_over : (c : NetView) (names more : List (List ℕ)) → HasShape c names → HasShape c (names ++ more)
shape_over c names more shape = record {
  latches = shape.latches;
  output = shape.output;
  outputs = shape.outputs;
  inputs = All-weaker (λ (p : Port). Contains names p.name) (λ (p : Port). Contains (names ++ more) p.name) (λ p h. Contains-append_left names more p.name h) c.inputs shape.inputs;
}

module _ (c : NetView) (names : List (List ℕ)) (shape : HasShape c names) (order others : List ℕ) (numbers : AreNumbersOf (ports_of c).inputs names order others) where
  -- each input has one of the names
  own_name : (k : ℕ) (name : List ℕ) → slice_get (ports_of c).inputs k ≡ Some name → Contains names name
  own_name k name at =
      let p = map_at (λ (port : Port). port.name) c.inputs k name at in
      subst (Contains names) p.2 (All-contains (λ (port : Port). Contains names port.name) c.inputs p.0 shape.inputs (of_at c.inputs k p.0 p.1))

  -- so each number is a place of a name
  pub below : All (λ i. i < length names) order
  below = All-from_each (λ i. i < length names) order (λ i h. go i (at_of order i h))
    where
      go : (i : ℕ) → (k : ℕ) × (slice_get order k ≡ Some i) → i < length names
      go i (k, at) =
          let n = some_at (ports_of c).inputs k (omega (arith, numbers.each, slice_get_within order k i at)) in
          let j = at_of names n.0 (own_name k n.0 n.1) in
          let same : j.0 ≡ i = same_Some j.0 i (sym (numbers.common k j.0 n.0 n.1 j.1) ∙ at) in
          subst (λ x. x < length names) same (slice_get_within names j.0 n.0 j.1)

  -- and stays that over more names
  pub numbers_over : (more : List (List ℕ)) → AreDistinct (names ++ more) → AreNumbersOf (ports_of c).inputs (names ++ more) order others
  numbers_over more distinct = record {
    each = numbers.each;
    distinct = numbers.distinct;
    common = λ k i name at here.
        let j = at_of names name (own_name k name at) in
        let same : j.0 ≡ i = distinct j.0 i name (slice_get-append names more j.0 name j.1) here in
        numbers.common k i name at (subst (λ x. slice_get names x ≡ Some name) same j.1);
    left_out = λ k i name at none h. absurd (none (Contains-append_left names more name (own_name k name at)));
  }
