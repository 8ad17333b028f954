-- What is said of an assumption by the numbers of its inputs is said of its net by their names.
use Rattle.std.specs.List.{Contains}
use Rattle.std.proofs.Common.{◌≡◌, ◌∙◌, ℕ, ◌++◌, Bool, List, [], ◌∷◌, map, arith, sym, ap, subst, inl, inr, ◌⊎◌, Some, slice_get}
use Rattle.std.proofs.lemmas.List.Elements.{All-contains}
use Rattle.circuit_theory.specs.Circuit.{Circuit, Named}
use Rattle.circuit_theory.specs.Sequence.{row_value}
use Rattle.circuit_theory.proofs.Lists.{Contains-cases, Contains-head, Contains-map_from, at_of, map-map, of_at}
use Rattle.circuit_theory.proofs.Numbers.{beside_at, slice_get-map}
use Rattle.flat_net.specs.declared.parts.Port.{Port}
use Rattle.flat_net.specs.View.{NetView, circuit_of, named, ports_of}
use Rattle.flat_net.proofs.Growth.{slice_get-append}
use Rattle.witness_report.specs.declared.stimulus.Stimulus.{Stimulus}
use Rattle.obligations.specs.declared.outcome.verdict.Outcome.{Outcome}
use Rattle.obligations.specs.declared.outcome.verdict.ResetWitness.{ResetWitness}
use Rattle.assume_laws.specs.Assume.{RunMeets, AgreeFromResetUnder}
use Rattle.assume_laws.specs.Sequences.{RowsMeet}
use Rattle.plain_check.specs.under_base.Taken.{IsAssumed, assumed_by}
use Rattle.plain_check.specs.under_base.under_fits.Outcome.{AreEqualUnder}
use Rattle.plain_check.specs.under_base.under_fits.ResetOutcome.{MakesResetsDifferUnder}
use Rattle.pair_texts.specs.assume_texts.Agreement.{AgreeFromResetWhereMet, AreEqualWhereMet, MakesResetsDifferWhereMet}
use Rattle.pair_texts.specs.assume_texts.Meets.{RunMeetsCircuit, SequenceMeetsCircuit}

some_is : {X : Type 0} {x y : X} → Some x ≡ Some y → x ≡ y
some_is q = cc

-- an element of a list of one is that
the_one : {X : Type 0} (x y : X) → Contains (x ∷ []) y → x ≡ y
the_one {X} x y h = by (Contains-cases x y [] h)
  where
    by : (x ≡ y) ⊎ Contains [] y → x ≡ y
    by (inl e) = e
    by (inr k) = absurd (omega (arith, k.1))

module _ (names : List (List ℕ)) (c : NetView) (is : IsAssumed names c) where
  -- its output is the only one
  own_output : Contains (circuit_of c).outputs (record { name = is.shape.output.name; place = is.shape.output.signal.0 })
  own_output = subst (λ (ps : List Port). Contains (map named ps) (named is.shape.output)) (sym is.shape.outputs) (Contains-head (named is.shape.output) [])

  output_is : (name : List ℕ) (o : ℕ) → Contains (circuit_of c).outputs (record { name = name; place = o }) → is.shape.output.signal.0 ≡ o
  output_is name o h =
      ap (λ (n : Named ℕ). n.place)
      (the_one (named is.shape.output) (record { name = name; place = o }) (subst (λ (ps : List Port). Contains (map named ps) (record { name = name; place = o })) is.shape.outputs h))

  -- a run that meets its net meets the assumption
  pub run_meets : {P : Type 0} (a : Circuit P) (n : ℕ) (run : ℕ → P → Bool) → RunMeetsCircuit (circuit_of c) a n run → RunMeets (assumed_by is) a n run
  run_meets a n run meets t low v holds given = meets t low v holds given is.shape.output.name is.shape.output.signal.0 own_output

  -- an input with a number has the name that stands there
  record HasName (p i : ℕ) : Type 0 where
    pub name : List ℕ
    pub input : Contains (circuit_of c).inputs (record { name = name; place = p })
    pub there : slice_get names i ≡ Some name

  name_at : (k : ℕ) (n : Named ℕ) → slice_get (circuit_of c).inputs k ≡ Some n → slice_get (ports_of c).inputs k ≡ Some n.name
  name_at k n at = ap (λ (ns : List (List ℕ)). slice_get ns k) (sym (map-map (λ (m : Named ℕ). m.name) named c.inputs)) ∙ slice_get-map (λ (m : Named ℕ). m.name) (circuit_of c).inputs k n at

  has_name : (k i : ℕ) (n : Named ℕ) → slice_get (circuit_of c).inputs k ≡ Some n → slice_get is.order k ≡ Some i → HasName n.place i
  has_name k i n at number =
      let port = Contains-map_from named c.inputs n (of_at (circuit_of c).inputs k n at) in
      let shared : Contains names n.name = subst (Contains names) (ap (λ (m : Named ℕ). m.name) port.2) (All-contains (λ (q : Port). Contains names q.name) c.inputs port.0 is.shape.inputs port.1) in
      let there = at_of names n.name shared in
      let same : there.0 ≡ i = some_is (sym (is.numbers.common k there.0 n.name (name_at k n at) there.1) ∙ number) in
      record { name = n.name; input = of_at (circuit_of c).inputs k n at; there = ap (slice_get names) (sym same) ∙ there.1 }

  -- a sequence whose rows meet the assumption meets its net
  pub sequence_meets : (more : List (List ℕ)) (stimulus : Stimulus) → stimulus.names ≡ names ++ more → (last : ℕ) → RowsMeet (assumed_by is) stimulus.rows last → SequenceMeetsCircuit (circuit_of c) stimulus last
  sequence_meets more stimulus columns last meets t within v holds given name o output =
      ap v (sym (output_is name o output)) ∙ meets t within v holds (λ p i number. value p i (beside_at (circuit_of c).inputs is.order p i number))
    where
      value : (p i : ℕ) → (k : ℕ) × (n : Named ℕ) × (slice_get (circuit_of c).inputs k ≡ Some n) × (n.place ≡ p) × (slice_get is.order k ≡ Some i) → v p ≡ row_value stimulus.rows i t
      value p i (k, n, at, place, number) =
          let x = has_name k i n at number in
          given i x.name p (ap (λ (ns : List (List ℕ)). slice_get ns i) columns ∙ slice_get-append names more i x.name x.there)
          (subst (λ (q : ℕ). Contains (circuit_of c).inputs (record { name = x.name; place = q })) place x.input)

  -- nets that are equal under the assumption are so where its net is met
  pub equal_where_met : (a b : NetView) (o : Outcome) → AreEqualUnder (assumed_by is) (circuit_of a) (circuit_of b) o → AreEqualWhereMet (circuit_of c) (circuit_of a) (circuit_of b) o
  equal_where_met a b o equal = record {
    agree = λ n left right alike meets. equal.agree n left right alike (run_meets (circuit_of a) n left meets);
    onward = λ n left right alike meets. equal.onward n left right alike (run_meets (circuit_of a) n left meets);
    from = λ n left right alike meets. equal.from n left right alike (run_meets (circuit_of a) n left meets);
  }

  pub resets_where_met : (a b : NetView) → AgreeFromResetUnder (assumed_by is) (circuit_of a) (circuit_of b) → AgreeFromResetWhereMet (circuit_of c) (circuit_of a) (circuit_of b)
  resets_where_met a b agree n left right alike meets = agree n left right alike (run_meets (circuit_of a) n left meets)

  -- what different shows under it, it shows so
  pub differ_where_met : (a b : NetView) (w : ResetWitness) → MakesResetsDifferUnder (assumed_by is) (circuit_of a) (circuit_of b) w → MakesResetsDifferWhereMet (circuit_of c) (circuit_of a) (circuit_of b) w
  differ_where_met a b w shows = record {
    name = shows.name;
    left_place = shows.left_place;
    right_place = shows.right_place;
    named = shows.named;
    left_output = shows.left_output;
    right_output = shows.right_output;
    differ = shows.differ;
    left_each = shows.left_each;
    right_each = shows.right_each;
    left_begins = shows.left_begins;
    right_begins = shows.right_begins;
    left_shows = shows.left_shows;
    right_shows = shows.right_shows;
    earlier = λ n left right alike meets. shows.earlier n left right alike (run_meets (circuit_of a) n left meets);
  }
