-- The row of ones meets the assumption.
use Rattle.std.proofs.Common.{◌≡◌, ◌∙◌, ℕ, Bool, true, List, [], ◌∷◌, map, length, Option, None, refl, sym, ap, ap₂, subst, arith, inl, inr}
use Rattle.std.specs.Prelude.{◌⊎◌, codes}
use Rattle.std.specs.List.{Contains}
use Rattle.std.proofs.lemmas.List.Elements.{All-contains}
use Rattle.circuit_theory.specs.Circuit.{Gate, Named, Holds}
use Rattle.circuit_theory.specs.Cover.{cover_value}
use Rattle.circuit_theory.specs.Tree.{StandsBeside}
use Rattle.circuit_theory.proofs.Lists.{Contains-head, Contains-tail, Contains-cases, length-map}
use Rattle.blif_read.specs.declared.design.BlifModel.{BlifModel}
use Rattle.blif_read.specs.Design.{top, walk, circuit_of_design}
use Rattle.flat_net.specs.declared.parts.Port.{Port}
use Rattle.flat_net.specs.View.{NetView, named, circuit_of}
use Rattle.net_assembly.specs.net_alike.FlatCircuit.{IsFlatCircuit}
use Rattle.flatten.specs.DesignFaults.{IsClocked, IsFlatOf}
use Rattle.job_base.specs.sec_files.Formats.{Blif}
use Rattle.job_base.specs.sec_files.Loading.{Loads}
use Rattle.job_base.proofs.sec_files.Texts.{text_net}
use Rattle.assume_laws.specs.Assume.{RowMeets}
use Rattle.assume_queries.specs.assume_sequences.assume_taken.Taken.{IsAssumed, assumed_by}
use Rattle.pair_texts.proofs.design_rows.Spelling.{net_is_small}
use Rattle.premise_rows.specs.event_assume_rows.assume_rows.SameInputs.{same, same_cover, same_design, small_same}
use Rattle.premise_rows.proofs.event_assume_rows.assume_rows.Spelled.{same_spells}

-- each input has a number
numbered : (inputs : List (Named ℕ)) (order : List ℕ) → length order ≡ length inputs → (n : Named ℕ) → Contains inputs n → (i : ℕ) × StandsBeside inputs order n.place i
numbered [] order each n h = absurd (let l = h.1 in omega (arith, l))
numbered (m ∷ inputs) [] each n h = absurd (omega (arith, each))
numbered (m ∷ inputs) (j ∷ order) each n h = by (Contains-cases m n inputs h) (numbered inputs order (omega (arith, each)) n)
  where
    by : (m ≡ n) ⊎ Contains inputs n → (Contains inputs n → (i : ℕ) × StandsBeside inputs order n.place i) → (i : ℕ) × StandsBeside (m ∷ inputs) (j ∷ order) n.place i
    by (inl is) later = (j, inl (ap (λ (k : Named ℕ). k.place) is, refl))
    by (inr k) later = let x = later k in (x.0, inr x.1)

-- the place of the first, or 0
abbrev first_place : List (Named ℕ) → ℕ
first_place [] = 0
first_place (n ∷ ns) = n.place

module _ (c : NetView) (loads : Loads same c) where
  flat : IsFlatOf same_design c
  flat = subst (λ (ms : List BlifModel). IsFlatOf ms c) same_spells.models_are (text_net same c loads Blif same_spells.format)

  abbrev IsFlatAt : Option (List ℕ) → Type 0
  IsFlatAt clock = IsFlatCircuit (circuit_of_design same_design clock) (circuit_of c) (length c.drivers) (IsClocked (circuit_of_design same_design clock) c.clock) flat.origin flat.signal

  circuit : IsFlatAt None
  circuit = subst IsFlatAt (net_is_small same same_design small_same same_spells c loads).unclocked flat.circuit

  abbrev of : List ℕ → ℕ
  of name = flat.signal (top name)

  inputs_are : (circuit_of c).inputs ≡ record { name = codes "a"; place = of (codes "a") } ∷ record { name = codes "b"; place = of (codes "b") } ∷ []
  unfolding circuit_of_design walk
  inputs_are = circuit.inputs

  outputs_are : (circuit_of c).outputs ≡ record { name = codes "ok"; place = of (codes "ok") } ∷ []
  unfolding circuit_of_design walk
  outputs_are = circuit.outputs

  gate : Contains (circuit_of c).equations (Gate (of (codes "ok")) (of (codes "a") ∷ of (codes "b") ∷ []) same_cover)
  unfolding circuit_of_design walk
  gate = circuit.gate (top (codes "ok")) (top (codes "a") ∷ top (codes "b") ∷ []) same_cover (Contains-head (Gate (top (codes "ok")) (top (codes "a") ∷ top (codes "b") ∷ []) same_cover) [])

  module _ (names : List (List ℕ)) (is : IsAssumed names c) where
    output_is : is.shape.output.signal.0 ≡ of (codes "ok")
    output_is = ap (λ (ps : List Port). first_place (map named ps)) (sym is.shape.outputs) ∙ ap first_place outputs_are

    has_number : (n : Named ℕ) → Contains (circuit_of c).inputs n → (i : ℕ) × StandsBeside (circuit_of c).inputs is.order n.place i
    has_number n h = numbered (circuit_of c).inputs is.order (is.numbers.each ∙ length-map (λ (p : Port). p.name) c.inputs ∙ sym (length-map named c.inputs)) n h

    entered : (n : Named ℕ) → Contains (record { name = codes "a"; place = of (codes "a") } ∷ record { name = codes "b"; place = of (codes "b") } ∷ []) n → (i : ℕ) × StandsBeside (circuit_of c).inputs is.order n.place i
    entered n h = has_number n (subst (λ (is : List (Named ℕ)). Contains is n) (sym inputs_are) h)

    pub ones_meet : RowMeets (assumed_by is) (λ i. true)
    unfolding cover_value
    ones_meet v meets row =
        let a : Named ℕ = record { name = codes "a"; place = of (codes "a") } in
        let b : Named ℕ = record { name = codes "b"; place = of (codes "b") } in
        let first = entered a (Contains-head a (b ∷ [])) in
        let second = entered b (Contains-tail a b (b ∷ []) (Contains-head b [])) in
        let value : v (of (codes "ok")) ≡ cover_value same_cover (v (of (codes "a")) ∷ v (of (codes "b")) ∷ []) = All-contains (Holds v) (circuit_of c).equations (Gate (of (codes "ok")) (of (codes "a") ∷ of (codes "b") ∷ []) same_cover) meets gate in
        ap v output_is ∙ value ∙ ap₂ (λ (p q : Bool). cover_value same_cover (p ∷ q ∷ [])) (row (of (codes "a")) first.0 first.1) (row (of (codes "b")) second.0 second.1)
