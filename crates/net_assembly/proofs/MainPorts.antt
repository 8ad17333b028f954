-- The ports of the main model: its inputs are distinct, its outputs too, and there are few.
use Rattle.std.proofs.Common.{◌≡◌, ℕ, ◌+◌, ◌≤◌, Bool, true, false, true≢false, List, [], ◌∷◌, ◌++◌, map, length, refl, sym, ◌∙◌, ap, subst, arith, inl, inr}
use Rattle.std.specs.Prelude.{◌⊎◌, ◌||◌, not}
use Rattle.std.specs.List.{Contains, list_all}
use Rattle.std.proofs.lemmas.Bool.{and_parts}
use Rattle.std.proofs.lemmas.List.{length-append}
use Rattle.std.proofs.lemmas.List.Elements.{Contains-append_left, Contains-append_right}
use Rattle.std.proofs.lemmas.Option.{none-some}
use Rattle.circuit_theory.proofs.Lists.{Contains-head, Contains-cases, at_of}
use Rattle.base_tables.specs.Table.{is_among, AreDistinct}
use Rattle.base_tables.proofs.TableLemmas.{Contains_not-is_among}
use Rattle.elaborate.specs.blif_read.BlifModel.{BlifModel}
use Rattle.elaborate.specs.blif_read.Design.{top, name_of, main_inputs, main_outputs}
use Rattle.elaborate.specs.blif_read.Fault.{repeats}
use Rattle.elaborate.specs.blif_read.Kept.{ports_distinct, written_names, names_in_model, names_in_all}
use Rattle.elaborate.specs.declared.flat.Flat.{Flat}
use Rattle.elaborate.specs.Flat.{FlatDesign, name_at}
use Rattle.elaborate.specs.Walked.{IsWalked}
use Rattle.net_assembly.proofs.DistinctLists.{distinct_nil, distinct_cons, distinct_named}

neither : (x y : Bool) → (x || y) ≡ false → (x ≡ false) × (y ≡ false)
neither true y h = absurd (true≢false h)
neither false y h = (refl, h)

not_so : (x : Bool) → not x ≡ true → x ≡ false
not_so true h = absurd (true≢false (sym h))
not_so false h = refl

-- names of which none repeats one before
pub repeats_none : (sofar names : List (List ℕ)) → repeats sofar names ≡ false → AreDistinct names × ((name : List ℕ) → Contains names name → Contains sofar name → ⊥)
repeats_none sofar [] h = (distinct_nil, λ name there before. (let at = at_of [] name there in none-some name at.1))
repeats_none sofar (n ∷ names) h = by (neither (is_among sofar n) (repeats (sofar ++ n ∷ []) names) h) (λ e. repeats_none (sofar ++ n ∷ []) names e)
  where
    apart : (is_among sofar n ≡ false) → ((m : List ℕ) → Contains names m → Contains (sofar ++ n ∷ []) m → ⊥) → (name : List ℕ) → Contains sofar name → (n ≡ name) ⊎ Contains names name → ⊥
    apart new rest name before (inl same) = Contains_not-is_among sofar n new (subst (Contains sofar) (sym same) before)
    apart new rest name before (inr later) = rest name later (Contains-append_left sofar (n ∷ []) name before)

    by : (is_among sofar n ≡ false) × (repeats (sofar ++ n ∷ []) names ≡ false) →
        (repeats (sofar ++ n ∷ []) names ≡ false → AreDistinct names × ((name : List ℕ) → Contains names name → Contains (sofar ++ n ∷ []) name → ⊥)) → AreDistinct (n ∷ names) × ((name : List ℕ) → Contains (n ∷ names) name → Contains sofar name → ⊥)
    by parts others =
        let rest = others parts.1 in (
          distinct_cons n names rest.0 (λ there. rest.1 n there (Contains-append_right sofar (n ∷ []) n (Contains-head n []))),
          λ name there before. apart parts.0 rest.1 name before (Contains-cases n name names there),
        )

-- the main model's inputs and outputs
pub main_distinct : (models : List BlifModel) → list_all ports_distinct models ≡ true → AreDistinct (main_inputs models) × AreDistinct (main_outputs models)
main_distinct [] h = (distinct_nil, distinct_nil)
main_distinct (m ∷ ms) h =
    let first = and_parts (ports_distinct m) (list_all ports_distinct ms) h in
    let both = and_parts (not (repeats [] m.inputs)) (not (repeats [] m.outputs)) first.0 in
    ((repeats_none [] m.inputs (not_so (repeats [] m.inputs) both.0)).0, (repeats_none [] m.outputs (not_so (repeats [] m.outputs) both.1)).0)

-- a design writes each of them
pub main_few : (models : List BlifModel) → length (main_inputs models) + length (main_outputs models) ≤ length (written_names models)
main_few [] = omega arith
main_few (m ∷ ms) =
    let whole = length-append (names_in_model m) (written_names ms) in
    let first = length-append m.inputs (m.outputs ++ (m.clocks ++ names_in_all m.statements)) in
    let second = length-append m.outputs (m.clocks ++ names_in_all m.statements) in
    omega (arith, whole, first, second)

-- a name of the main model is its own flat name
top_names : (names : List (List ℕ)) → map name_of (map top names) ≡ names
top_names [] = refl
top_names (n ∷ names) = ap (λ (ns : List (List ℕ)). n ∷ ns) (top_names names)

module _ (models : List BlifModel) (flat : Flat) (walked : IsWalked models flat) where
  pub inputs_named : map (name_at flat.names) flat.inputs ≡ main_inputs models
  inputs_named = ap (λ (d : FlatDesign (List ℕ)). d.inputs) walked.same ∙ top_names (main_inputs models)

  pub outputs_named : map (name_at flat.names) flat.outputs ≡ main_outputs models
  outputs_named = ap (λ (d : FlatDesign (List ℕ)). d.outputs) walked.same ∙ top_names (main_outputs models)

  -- no number stands twice among the inputs
  pub inputs_distinct : list_all ports_distinct models ≡ true → AreDistinct flat.inputs
  inputs_distinct ports = distinct_named (name_at flat.names) flat.inputs (subst AreDistinct (sym inputs_named) (main_distinct models ports).0)
