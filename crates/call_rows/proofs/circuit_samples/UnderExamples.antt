-- The remaining examples under the assumption that a is 1: an exposed latch in the plain form, runs from initial values, numbers and runs.
use Rattle.std.proofs.Common.{◌≡◌, ℕ, zero, suc, ◌<◌, ◌≤◌, Bool, true, false, List, [], ◌∷◌, refl, sym, ◌∙◌, ap, subst, arith, inl, inr, Some, slice_get}
use Rattle.std.specs.Prelude.{◌⊎◌, ◌==◌, codes}
use Rattle.std.specs.List.{Contains}
use Rattle.std.proofs.lemmas.List.Elements.{All-nil}
use Rattle.circuit_theory.specs.declared.Mode.TheVariants.{Plain}
use Rattle.circuit_theory.specs.Cover.{Cover, cover_value}
use Rattle.circuit_theory.specs.Circuit.{Circuit, Gate, Latch, Port, Named, Started, IsLatch, Reads, Reaches}
use Rattle.circuit_theory.specs.Run.{NoneEnabled}
use Rattle.circuit_theory.specs.Net.{HasDistinctNames}
use Rattle.circuit_theory.specs.Depth.{LatchReads, LatchPath, HasCycle, without}
use Rattle.circuit_theory.specs.Tree.{Tree, Leaf, Fixed, Branch, Nil, Cons, AreNumbered, IsInputNumber, StandsBeside, Unfolds, UnfoldsAll, tree_value}
use Rattle.circuit_theory.specs.Query.{Query, Variable, HasLeaf, HasLeafIn, Distinguishes, assigned, same_shift}
use Rattle.circuit_theory.specs.Sequence.{row_value}
use Rattle.circuit_theory.specs.Agree.{cut, EnabledIn, IsPair, IsMinimalCut}
use Rattle.circuit_theory.specs.Interface.{AreNumbersOf}
use Rattle.circuit_theory.specs.Fits.{IsPairDepth}
use Rattle.circuit_theory.specs.Sizes.{WeighsAt}
use Rattle.circuit_theory.proofs.Inputs.{beside_is_input, test_same}
use Rattle.circuit_theory.proofs.Lists.{Contains-head, Contains-cases, only}
use Rattle.circuit_theory.proofs.Numbers.{one_place}
use Rattle.circuit_laws.proofs.LawProofs.{runs_exist}
use Rattle.circuit_laws.proofs.TreeDepth.{tree_depth}
use Rattle.circuit_laws.specs.reset_laws.Reset.{ResetUnfolds, ResetUnfoldsAll, HasStarts, MakesDifferFromReset}
use Rattle.circuit_laws.specs.reset_laws.Weight.{ResetVisits, PlaceInCycle, WeighedInCycle}
use Rattle.circuit_laws.proofs.reset_laws.ResetRuns.{reset_runs_exist}
use Rattle.assume_laws.specs.Assume.{IsAssumption, ReadsInputs, HasVariableAt, HaveEqualFunctionsUnder, HaveEqualResetsUnder, AreEqualFromResetUnder, AgreeUnder, AgreeOnwardUnder, AgreeFromResetUnder}
use Rattle.assume_laws.specs.Sequences.{RowsMeet, IsTreeUnder, IsResetWitnessUnder}
use Rattle.assume_laws.proofs.PlainLaws.{exposed_functions_agree_under, equal_resets_agree_under}
use Rattle.assume_laws.proofs.ResetFilled.{reset_witness_makes_differ_under}
use Rattle.call_rows.specs.circuit_samples.Circuits.{input_a, and_cover, inverter, constant_one, first_cover, two, only_a, one_from, constant_from_zero, toggle_with, toggled, ones, only_first}
use Rattle.call_rows.specs.circuit_samples.Assumed.{HasResetValue, AreResetSidesUnder, AreExposedSidesUnder, AreColumnNumbers, HasRunOverOnes}
use Rattle.call_rows.proofs.circuit_samples.NetTest.{net_test-sound, numbers_distinct-sound}
use Rattle.call_rows.proofs.circuit_samples.Each.{each_at, each_latch, each_pair}
use Rattle.call_rows.proofs.circuit_samples.AssumeExamples.{row_meets, meets_row, reads_a}
use Rattle.call_rows.proofs.circuit_samples.ResetExamples.{one_starts, one_based, no_leaf, one_none}

pub only_a_is_assumption : IsAssumption only_a 2
only_a_is_assumption = record {
  net = net_test-sound only_a.circuit 2 refl;
  gates = λ name u next latch. each_latch (λ m v to. ⊥) only_a.circuit.equations tt name u next latch;
  each = refl;
  output = omega arith;
}

-- the toggle with its latch cut open
abbrev opened : Cover → Circuit ℕ
opened cover = record {
  inputs = input_a ∷ record { name = codes "q"; place = 1 } ∷ [];
  outputs = record { name = codes "y"; place = 3 } ∷ record { name = codes "q"; place = 2 } ∷ [];
  equations = Gate 2 (1 ∷ []) inverter ∷ Gate 3 (1 ∷ 0 ∷ []) cover ∷ [];
  starts = [];
}

cut_is : (cover : Cover) → cut toggled (toggle_with cover) ≡ opened cover
unfolding cut
cut_is cover = refl

pub one_letter : (x y : ℕ) → x ∷ [] ≡ y ∷ [] → x ≡ y
one_letter x y e = cc

pub toggle_latch : (cover : Cover) (name : List ℕ) (u next : ℕ) → IsLatch (toggle_with cover) name u next → (codes "q" ≡ name) × (1 ≡ u) × (2 ≡ next)
toggle_latch cover name u next latch = each_latch (λ m v to. (codes "q" ≡ m) × (1 ≡ v) × (2 ≡ to)) (toggle_with cover).equations ((refl, refl, refl), tt) name u next latch

pub toggle_names : (cover : Cover) → HasDistinctNames (toggle_with cover)
toggle_names cover = record {
  inputs = λ name p q h k. sym (place_of name p h) ∙ place_of name q k;
  latches = λ name u next v next' l r. sym (toggle_latch cover name u next l).1 ∙ (toggle_latch cover name v next' r).1;
  apart = λ name p u next h l. letter (name_of name p h ∙ sym (toggle_latch cover name u next l).0);
}
  where
    place_of : (name : List ℕ) (p : ℕ) → Contains (toggle_with cover).inputs (record { name = name; place = p }) → 0 ≡ p
    place_of name p h = ap (λ (n : Named ℕ). n.place) (only input_a (record { name = name; place = p }) h)

    name_of : (name : List ℕ) (p : ℕ) → Contains (toggle_with cover).inputs (record { name = name; place = p }) → codes "a" ≡ name
    name_of name p h = ap (λ (n : Named ℕ). n.name) (only input_a (record { name = name; place = p }) h)

    letter : codes "a" ≡ codes "q" → ⊥
    letter e = let k = one_letter 97 113 e in omega (arith, k)

toggle_free : (cover : Cover) → HasCycle (toggle_with cover) (EnabledIn Plain (toggle_with cover)) toggled → ⊥
toggle_free cover (u, path) = go path
  where
    none : {u v : ℕ} → LatchReads (toggle_with cover) NoneEnabled toggled u v → ⊥
    none {u} e = e.kept (0, omega arith, (toggle_latch cover e.name u e.next e.latch).0)

    go : {u v : ℕ} → LatchPath (toggle_with cover) NoneEnabled toggled u v → ⊥
    go (LatchPath.edge e) = none e
    go (LatchPath.step e rest) = none e

toggle_cycle : (cover : Cover) → HasCycle (toggle_with cover) (EnabledIn Plain (toggle_with cover)) []
toggle_cycle cover = (
  1,
  LatchPath.edge (record {
    name = codes "q";
    next = 2;
    latch = (2, omega arith, refl);
    kept = λ h. omega (arith, h.1);
    other_name = codes "q";
    other_next = 2;
    other = (2, omega arith, refl);
    other_kept = λ h. omega (arith, h.1);
    cone = (inr (codes "q", 2, (2, omega arith, refl)), Reaches.there (Reads.by_gate {fanins = 1 ∷ []} (0, omega arith, refl) (0, omega arith, refl)) Reaches.here);
    no_self_edge = λ en. absurd en;
  }),
)

abbrev both_numbers : List ℕ
both_numbers = 0 ∷ 1 ∷ []

-- what is asked of the cut circuits
record AreMet (a b : Circuit ℕ) : Type 0 where
  numbered : AreNumbered a b both_numbers both_numbers
  reads : ReadsInputs only_a a both_numbers
  equal : (p q : ℕ) → IsPair toggled (toggle_with and_cover) (toggle_with first_cover) p q → HaveEqualFunctionsUnder only_a a b both_numbers both_numbers p q

and_bit : (b a : Bool) → a ≡ true → cover_value and_cover (b ∷ a ∷ []) ≡ cover_value first_cover (b ∷ a ∷ [])
unfolding cover_value
and_bit true true e = refl
and_bit true false e = cc
and_bit false true e = refl
and_bit false false e = refl

met : AreMet (opened and_cover) (opened first_cover)
unfolding tree_value
met = record { numbered = numbered; reads = reads; equal = λ p q pair. equal p q pair }
  where
    once : (p q i : ℕ) → StandsBeside (opened and_cover).inputs both_numbers p i → StandsBeside (opened and_cover).inputs both_numbers q i → p ≡ q
    once p q i h k = one_place (opened and_cover).inputs both_numbers (numbers_distinct-sound both_numbers refl) p q i h k

    numbered : AreNumbered (opened and_cover) (opened first_cover) both_numbers both_numbers
    numbered = record {
      left_once = λ p q i h k. once p q i h k;
      right_once = λ p q i h k. once p q i h k;
      shared = λ p q i h k. let n = beside_is_input (opened and_cover).inputs both_numbers p i h in (n.0, n.1, subst (λ z. Contains (opened first_cover).inputs (record { name = n.0; place = z })) (once p q i h k) n.1);
    }

    letter : codes "q" ≡ codes "a" → ⊥
    letter e = let k = one_letter 113 97 e in omega (arith, k)

    named : (p i : ℕ) → ((0 ≡ p) × (0 ≡ i)) ⊎ ⊥ → Contains only_a.circuit.inputs (record { name = codes "a"; place = p })
    named p i (inl h) = subst (λ x. Contains only_a.circuit.inputs (record { name = codes "a"; place = x })) h.0 (0, omega arith, refl)
    named p i (inr h) = absurd h

    number : (p i : ℕ) → ((0 ≡ p) × (0 ≡ i)) ⊎ ⊥ → IsInputNumber (opened and_cover) both_numbers 0 i
    number p i (inl h) = inl (refl, h.1)
    number p i (inr h) = absurd h

    place_of : (name : List ℕ) (q : ℕ) → Contains (opened and_cover).inputs (record { name = name; place = q }) → name ≡ codes "a" → 0 ≡ q
    place_of name q h e =
        each_at (λ (n : Named ℕ). n.name ≡ codes "a" → 0 ≡ n.place) (opened and_cover).inputs ((λ d. refl), ((λ d. absurd (letter d)), tt)) (record { name = name; place = q }) h e

    reads : ReadsInputs only_a (opened and_cover) both_numbers
    reads = record {
      each = refl;
      found = λ p i h. (codes "a", 0, named p i h, (0, omega arith, refl), number p i h);
      numbered = λ name p i q mine other h.
          subst (λ x. IsInputNumber (opened and_cover) both_numbers x i) (place_of name q other (sym (ap (λ (n : Named ℕ). n.name) (only input_a (record { name = name; place = p }) mine)))) (number p i h);
    }

    Equal : ℕ → ℕ → Type 0
    Equal p q = HaveEqualFunctionsUnder only_a (opened and_cover) (opened first_cover) both_numbers both_numbers p q

    y_equal : Equal 3 3
    y_equal = record {
      left_tree = Branch and_cover (Cons (Leaf 1 0) (Cons (Leaf 0 0) Nil));
      right_tree = Branch first_cover (Cons (Leaf 1 0) (Cons (Leaf 0 0) Nil));
      left_unfolds = (0, Unfolds.gate {fanins = 1 ∷ 0 ∷ []} (1, omega arith, refl) (UnfoldsAll.more (Unfolds.input (inr (inl (refl, refl)))) (UnfoldsAll.more (Unfolds.input (inl (refl, refl))) UnfoldsAll.none)));
      right_unfolds = (0, Unfolds.gate {fanins = 1 ∷ 0 ∷ []} (1, omega arith, refl) (UnfoldsAll.more (Unfolds.input (inr (inl (refl, refl)))) (UnfoldsAll.more (Unfolds.input (inl (refl, refl))) UnfoldsAll.none)));
      same = λ x care. and_bit (x 1 0) (x 0 0) (meets_row (λ i. x i 0) (care.1 0 (Branch and_cover (Cons (Leaf 1 0) (Cons (Leaf 0 0) Nil)), 0, Contains-head (Branch and_cover (Cons (Leaf 1 0) (Cons (Leaf 0 0) Nil))) (Branch first_cover (Cons (Leaf 1 0) (Cons (Leaf 0 0) Nil)) ∷ []), HasLeaf.inside (HasLeafIn.later (HasLeafIn.first HasLeaf.leaf)))));
    }

    q_equal : Equal 2 2
    q_equal = record {
      left_tree = Branch inverter (Cons (Leaf 1 0) Nil);
      right_tree = Branch inverter (Cons (Leaf 1 0) Nil);
      left_unfolds = (0, Unfolds.gate {fanins = 1 ∷ []} (0, omega arith, refl) (UnfoldsAll.more (Unfolds.input (inr (inl (refl, refl)))) UnfoldsAll.none));
      right_unfolds = (0, Unfolds.gate {fanins = 1 ∷ []} (0, omega arith, refl) (UnfoldsAll.more (Unfolds.input (inr (inl (refl, refl)))) UnfoldsAll.none));
      same = λ x meets. refl;
    }

    at : (p q i j : ℕ) → Equal i j → i ≡ p → j ≡ q → Equal p q
    at p q i j equal e d = subst (λ k. Equal k q) e (subst (Equal i) d equal)

    place : (name : List ℕ) (p : ℕ) → Contains {X = Named ℕ} (record { name = codes "y"; place = 3 } ∷ []) (record { name = name; place = p }) → 3 ≡ p
    place name p h = ap (λ (n : Named ℕ). n.place) (only (record { name = codes "y"; place = 3 }) (record { name = name; place = p }) h)

    equal : (p q : ℕ) → IsPair toggled (toggle_with and_cover) (toggle_with first_cover) p q → Equal p q
    equal p q (IsPair.outputs {name = name} l r) = at p q 3 3 y_equal (place name p l) (place name q r)
    equal p q (IsPair.nexts {name = name} {u = u} {v = v} h l r) = at p q 2 2 q_equal (toggle_latch and_cover name u p l).2 (toggle_latch first_cover name v q r).2

cut_met : AreMet (cut toggled (toggle_with and_cover)) (cut toggled (toggle_with first_cover))
cut_met = subst (λ a. AreMet a (cut toggled (toggle_with first_cover))) (sym (cut_is and_cover)) (subst (AreMet (opened and_cover)) (sym (cut_is first_cover)) met)

toggle_minimal : IsMinimalCut Plain (toggle_with and_cover) (toggle_with first_cover) toggled
toggle_minimal = record {
  common = λ name h.
      let e = only (codes "q") name h in
      (1, 2, 1, 2, subst (λ m. IsLatch (toggle_with and_cover) m 1 2) e (2, omega arith, refl), subst (λ m. IsLatch (toggle_with first_cover) m 1 2) e (2, omega arith, refl));
  left_free = toggle_free and_cover;
  right_free = toggle_free first_cover;
  needed = needed;
}
  where
    needed : (i : ℕ) → i < 1 →
        HasCycle (toggle_with and_cover) (EnabledIn Plain (toggle_with and_cover)) (without toggled i) ⊎ HasCycle (toggle_with first_cover) (EnabledIn Plain (toggle_with first_cover)) (without toggled i)
    needed zero h = inl (toggle_cycle and_cover)
    needed (suc i) h = absurd (omega arith)

pub exposed_sides : AreExposedSidesUnder
exposed_sides = record {
  left_net = net_test-sound (toggle_with and_cover) 4 refl;
  right_net = net_test-sound (toggle_with first_cover) 4 refl;
  left_names = toggle_names and_cover;
  right_names = toggle_names first_cover;
  minimal = toggle_minimal;
  numbered = cut_met.numbered;
  reads = cut_met.reads;
  equal = cut_met.equal;
}

pub exposed_agree : AgreeUnder Plain only_a (toggle_with and_cover) (toggle_with first_cover) × AgreeOnwardUnder Plain toggled only_a (toggle_with and_cover) (toggle_with first_cover)
exposed_agree =
    let s = exposed_sides in
    exposed_functions_agree_under only_a (toggle_with and_cover) (toggle_with first_cover) 4 4 toggled both_numbers both_numbers s.left_net s.right_net s.left_names s.right_names s.minimal s.numbered s.reads s.equal

-- from initial values
constant_starts : HasStarts constant_from_zero
constant_starts = record {
  of_latches = λ u b h. let e = only (record { place = 2; bit = false }) (record { place = u; bit = b }) h in
      subst (λ (s : Started ℕ). (name : List ℕ) × (next : ℕ) × IsLatch constant_from_zero name s.place next) e (codes "y", 1, (1, omega arith, refl));
  once = λ u x y h k.
      ap (λ (s : Started ℕ). s.bit) (sym (only (record { place = 2; bit = false }) (record { place = u; bit = x }) h) ∙ only (record { place = 2; bit = false }) (record { place = u; bit = y }) k);
}

one_bit : cover_value constant_one [] ≡ true
unfolding cover_value
one_bit = refl

pub reset_sides_under : AreResetSidesUnder
unfolding tree_value
reset_sides_under = record {
  left_net = net_test-sound (one_from false) 2 refl;
  right_net = net_test-sound constant_from_zero 3 refl;
  left_starts = one_starts false;
  right_starts = constant_starts;
  numbered = record {
    left_once = λ p q i h k. once p q i h k;
    right_once = λ p q i h k. once p q i h k;
    shared = λ p q i h k. let n = beside_is_input (one_from false).inputs (0 ∷ []) p i h in (n.0, n.1, subst (λ z. Contains constant_from_zero.inputs (record { name = n.0; place = z })) (once p q i h k) n.1);
  };
  based = record { left_inputs = low; right_inputs = low; latches = omega arith };
  reads = reads_a (one_from false) refl;
  equal = λ p q pair. equal p q pair;
}
  where
    once : (p q i : ℕ) → StandsBeside (one_from false).inputs (0 ∷ []) p i → StandsBeside (one_from false).inputs (0 ∷ []) q i → p ≡ q
    once p q i h k = one_place (one_from false).inputs (0 ∷ []) (numbers_distinct-sound (0 ∷ []) refl) p q i h k

    low : (p i : ℕ) → ((0 ≡ p) × (0 ≡ i)) ⊎ ⊥ → i < 1
    low p i (inl h) = omega (arith, h.1)
    low p i (inr h) = absurd h

    Equal : ℕ → ℕ → ℕ → Type 0
    Equal p q t = HaveEqualResetsUnder only_a (one_from false) constant_from_zero (0 ∷ []) (0 ∷ []) 1 2 p q t

    each : (t : ℕ) → t ≤ 1 → Equal 1 2 t
    each zero le = record {
      left_tree = Fixed false;
      right_tree = Fixed false;
      left_unfolds = ResetUnfolds.started {name = codes "y"} {next = 0} (0, omega arith, refl) (0, omega arith, refl);
      right_unfolds = ResetUnfolds.started {name = codes "y"} {next = 1} (1, omega arith, refl) (0, omega arith, refl);
      same = λ x meets. refl;
    }
    each (suc zero) le = record {
      left_tree = Leaf 0 0;
      right_tree = Branch constant_one Nil;
      left_unfolds = ResetUnfolds.later {name = codes "y"} {next = 0} (0, omega arith, refl) (ResetUnfolds.input (inl (refl, refl)));
      right_unfolds = ResetUnfolds.later {name = codes "y"} {next = 1} (1, omega arith, refl) (ResetUnfolds.gate {fanins = []} (0, omega arith, refl) ResetUnfoldsAll.none);
      same = λ x meets. meets_row (λ i. x i 0) (meets.1 0 (Leaf 0 0, 0, Contains-head (Leaf 0 0) (Branch constant_one Nil ∷ []), HasLeaf.leaf)) ∙ sym one_bit;
    }
    each (suc (suc t)) le = absurd (omega arith)

    left_tree : Unfolds (one_from false) (0 ∷ []) 1 0 1 (Leaf 0 1)
    left_tree = Unfolds.latch {name = codes "y"} {next = 0} (0, omega arith, refl) (Unfolds.input (inl (refl, refl)))

    right_tree : Unfolds constant_from_zero (0 ∷ []) 2 0 1 (Branch constant_one Nil)
    right_tree = Unfolds.latch {name = codes "y"} {next = 1} (1, omega arith, refl) (Unfolds.gate {fanins = []} (0, omega arith, refl) UnfoldsAll.none)

    depth : IsPairDepth (one_from false) constant_from_zero 1 2 1
    depth = record {
      left = 1;
      right = 1;
      left_is = tree_depth (one_from false) (net_test-sound (one_from false) 2 refl).single left_tree;
      right_is = tree_depth constant_from_zero (net_test-sound constant_from_zero 3 refl).single right_tree;
      greater = refl;
    }

    equal : (p q : ℕ) → IsPair [] (one_from false) constant_from_zero p q → AreEqualFromResetUnder only_a (one_from false) constant_from_zero (0 ∷ []) (0 ∷ []) 1 2 p q
    equal p q (IsPair.outputs {name = name} l r) =
        let left : 1 ≡ p = ap (λ (n : Named ℕ). n.place) (only (record { name = codes "y"; place = 1 }) (record { name = name; place = p }) l) in
        let right : 2 ≡ q = ap (λ (n : Named ℕ). n.place) (only (record { name = codes "y"; place = 2 }) (record { name = name; place = q }) r) in
        subst (λ x. AreEqualFromResetUnder only_a (one_from false) constant_from_zero (0 ∷ []) (0 ∷ []) 1 2 x q) left
        (subst (λ x. AreEqualFromResetUnder only_a (one_from false) constant_from_zero (0 ∷ []) (0 ∷ []) 1 2 1 x) right (record { depth = 1; is_depth = depth; each = each }))
    equal p q (IsPair.nexts h l r) = absurd (omega (arith, h.1))

pub reset_agree_under : AgreeFromResetUnder only_a (one_from false) constant_from_zero
reset_agree_under =
    let s = reset_sides_under in
    equal_resets_agree_under only_a (one_from false) constant_from_zero 2 3 (0 ∷ []) (0 ∷ []) 1 2 s.left_net s.right_net s.left_starts s.right_starts s.numbered s.based s.reads s.equal

-- a difference in cycle 0
pub reset_witness_under : IsResetWitnessUnder only_a (one_from false) (one_from true) (0 ∷ []) (0 ∷ []) 1 2 1 1 1 only_first ((true ∷ []) ∷ []) (false ∷ []) (true ∷ []) 0 false true
unfolding tree_value
reset_witness_under = record {
  left_tree = Fixed false;
  right_tree = Fixed true;
  left_unfolds = ResetUnfolds.started {name = codes "y"} {next = 0} (0, omega arith, refl) (0, omega arith, refl);
  right_unfolds = ResetUnfolds.started {name = codes "y"} {next = 0} (0, omega arith, refl) (0, omega arith, refl);
  sides = [];
  variables = [];
  bits = [];
  difference = record {
    are_sides = record { in_order = λ i j d l k. absurd (omega arith); exactly = one_none };
    are_variables = record { in_order = λ i j d l k. absurd (omega arith); exactly = λ x. ((λ h. absurd (omega (arith, h.1))), λ h. absurd (no_variable x h.0 h.1 h.2)) };
    each = refl;
    query = query;
    asks = record { left_is = λ x. refl; right_is = λ x. refl; care_is = λ x. ((λ e at h. absurd (no_place at h)), λ meets. refl) };
    distinguishes = distinguishes;
    least = λ le. (0, refl, record { in_range = omega arith; distinguishes = distinguishes; least = λ m l d. omega arith });
  };
  inputs = All-nil (λ (x : Variable ℕ). (x.input < 1) ⊎ (1 ≤ x.input));
  meeting_is = record { meets = row_meets only_first refl; others = λ i none. other i (λ e. none 0 (inl (refl, e))); above = λ i h. other i (λ e. omega arith) };
  rows_are = refl;
  left_power_is = refl;
  right_power_is = refl;
  left_value = refl;
  right_value = refl;
}
  where
    no_side : {x : Variable ℕ} (tree : Tree ℕ) → Contains (Fixed false ∷ Fixed true ∷ []) tree → HasLeaf x tree → ⊥
    no_side {x} tree one h = go (Contains-cases (Fixed false) tree (Fixed true ∷ []) one)
      where
        go : (Fixed false ≡ tree) ⊎ Contains (Fixed true ∷ []) tree → ⊥
        go (inl e) = no_leaf h false e
        go (inr k) = no_leaf h true (only (Fixed true) tree k)

    no_place : (at : ℕ) → HasVariableAt (Fixed false) (Fixed true) at → ⊥
    no_place at (tree, i, one, h) = no_side tree one h

    no_variable : (x : Variable ℕ) (tree : Tree ℕ) → IsTreeUnder only_a (Fixed false) (Fixed true) tree → HasLeaf x tree → ⊥
    no_variable x tree (inl one) h = no_side tree one h
    no_variable x tree (inr k) h = no_place k.0 k.1

    other : (i : ℕ) → (0 ≡ i → ⊥) → (i == 0) ≡ false
    other i h = not_zero (i == 0) refl
      where
        not_zero : (t : Bool) → (i == 0) ≡ t → (i == 0) ≡ false
        not_zero true e = absurd (h (sym (test_same i 0 e)))
        not_zero false e = e

    query : Query ℕ
    query = record { left = λ x. false; right = λ x. true; care = λ x. true }

    apart : false ≡ true → ⊥
    apart e = cc

    distinguishes : Distinguishes query (assigned same_shift [] [])
    distinguishes = record { care = refl; differs = apart }

pub reset_differ_under : MakesDifferFromReset (one_from false) (one_from true) (0 ∷ []) (0 ∷ []) 1 1 ((true ∷ []) ∷ []) (false ∷ []) (true ∷ []) 0 false true × RowsMeet only_a ((true ∷ []) ∷ []) 0
reset_differ_under =
    reset_witness_makes_differ_under only_a (one_from false) (one_from true) (0 ∷ []) (0 ∷ []) 1 2 1 1 1 only_first ((true ∷ []) ∷ []) (false ∷ []) (true ∷ []) 0 false true (one_starts false) (one_starts true) (one_based false true)
    (reads_a (one_from false) refl) reset_witness_under

-- a has one column
pub column_numbers : AreColumnNumbers
column_numbers = record { assumed = numbers; own = numbers; columns = λ name h. h }
  where
    one_at : (k : ℕ) (name : List ℕ) → slice_get (codes "a" ∷ []) k ≡ Some name → (k ≡ 0) × (codes "a" ≡ name)
    one_at zero name e = (refl, some e)
      where
        some : Some (codes "a") ≡ Some name → codes "a" ≡ name
        some d = cc
    one_at (suc k) name e = cc

    found : (k i : ℕ) → k ≡ 0 → i ≡ 0 → slice_get (0 ∷ []) k ≡ Some i
    found zero zero e d = refl
    found zero (suc i) e d = absurd (omega arith)
    found (suc k) i e d = absurd (omega arith)

    numbers : AreNumbersOf (codes "a" ∷ []) (codes "a" ∷ []) (0 ∷ []) []
    numbers = record {
      each = refl;
      distinct = λ i j d l k. absurd (omega arith);
      common = λ k i name h l. found k i (one_at k name h).0 (one_at i name l).0;
      left_out = λ k i name h absent at. absurd (absent (0, omega arith, (one_at k name h).1));
    }

all_ones : (t p i : ℕ) → t < 3 → ((0 ≡ p) × (0 ≡ i)) ⊎ ⊥ → true ≡ row_value ones i t
all_ones t p i l (inr h) = absurd h
all_ones t p i l (inl h) = subst (λ k. true ≡ row_value ones k t) h.1 (first t l)
  where
    first : (t : ℕ) → t < 3 → true ≡ row_value ones 0 t
    first zero l = refl
    first (suc zero) l = refl
    first (suc (suc zero)) l = refl
    first (suc (suc (suc t))) l = absurd (omega arith)

pub run_over_ones : HasRunOverOnes
run_over_ones =
    let r = runs_exist two 3 3 (λ p. false) (λ t p. true) (net_test-sound two 3 refl) in
    (r.0, r.1, λ t p i l h. r.2 t p (beside_is_input two.inputs (0 ∷ []) p i h) ∙ all_ones t p i l h)

-- the tree of a latch in cycle 1, and its weight
abbrev start : PlaceInCycle ℕ
start = record { place = 1; cycle = 1 }

abbrev places : List (WeighedInCycle ℕ)
places = record { place = 1; cycle = 1; weight = 1 } ∷ record { place = 0; cycle = 0; weight = 1 } ∷ []

abbrev latch_of_a : Circuit ℕ
latch_of_a = one_from false

-- a gate there is none
no_gate : {q r : ℕ} → Reads latch_of_a q r → ⊥
no_gate {q} (Reads.by_gate {fanins = fanins} {cover = cover} eq h) = wrong (only (Latch (codes "y") 1 0) (Gate q fanins cover) eq)
  where
    wrong : Latch (codes "y") 1 0 ≡ Gate q fanins cover → ⊥
    wrong e = cc
no_gate {q} (Reads.by_port {from = from} eq) = wrong (only (Latch (codes "y") 1 0) (Port q from) eq)
  where
    wrong : Latch (codes "y") 1 0 ≡ Port q from → ⊥
    wrong e = cc

latch_next : (name : List ℕ) (u next : ℕ) → IsLatch latch_of_a name u next → (1 ≡ u) × (0 ≡ next)
latch_next name u next latch = each_latch (λ m v to. (1 ≡ v) × (0 ≡ to)) latch_of_a.equations ((refl, refl), tt) name u next latch

Visited : ℕ → ℕ → Type 0
Visited q j = ((1 ≡ q) × (1 ≡ j)) ⊎ ((0 ≡ q) × (0 ≡ j))

visits : {q j : ℕ} → ResetVisits latch_of_a 1 1 q j → Visited q j
unfolding Visited
visits ResetVisits.itself = inl (refl, refl)
visits (ResetVisits.reads v r) = absurd (no_gate r)
visits (ResetVisits.back {q = q} {next = next} {j = j} {name = name} v latch) = go (visits v) (latch_next name q next latch)
  where
    go : ((1 ≡ q) × (1 ≡ suc j)) ⊎ ((0 ≡ q) × (0 ≡ suc j)) → (1 ≡ q) × (0 ≡ next) → ((1 ≡ next) × (1 ≡ j)) ⊎ ((0 ≡ next) × (0 ≡ j))
    go (inl h) l = inr (l.1, omega (arith, h.1))
    go (inr h) l = absurd (omega (arith, h.1))

visited : (x : WeighedInCycle ℕ) → Contains places x → ResetVisits latch_of_a 1 1 x.place x.cycle
visited x h = each_at (λ (y : WeighedInCycle ℕ). ResetVisits latch_of_a 1 1 y.place y.cycle) places (ResetVisits.itself, (ResetVisits.back {name = codes "y"} ResetVisits.itself (0, omega arith, refl), tt)) x h

listed : (q j : ℕ) → ResetVisits latch_of_a 1 1 q j → (w : ℕ) × Contains places (record { place = q; cycle = j; weight = w })
unfolding Visited
listed q j v = go (visits v)
  where
    Listed : ℕ → ℕ → Type 0
    Listed p k = (w : ℕ) × Contains places (record { place = p; cycle = k; weight = w })

    go : ((1 ≡ q) × (1 ≡ j)) ⊎ ((0 ≡ q) × (0 ≡ j)) → Listed q j
    go (inl h) = subst (λ p. Listed p j) h.0 (subst (Listed 1) h.1 (1, (0, omega arith, refl)))
    go (inr h) = subst (λ p. Listed p j) h.0 (subst (Listed 0) h.1 (1, (1, omega arith, refl)))

weighed : (x : WeighedInCycle ℕ) → Contains places x → WeighsAt latch_of_a x.place x.weight
weighed x h = each_at (λ (y : WeighedInCycle ℕ). WeighsAt latch_of_a y.place y.weight) places (WeighsAt.latch {next = 0} {name = codes "y"} (0, omega arith, refl), (WeighsAt.input (codes "a", (0, omega arith, refl)), tt)) x h

abbrev Apart : WeighedInCycle ℕ → WeighedInCycle ℕ → Type 0
Apart x y = (x.place ≡ y.place) → (x.cycle ≡ y.cycle) → ⊥

pub reset_value : HasResetValue
reset_value =
    let r = reset_runs_exist latch_of_a 2 2 (λ p. false) (λ t p. true) (net_test-sound latch_of_a 2 refl) (one_starts false) in
    record {
      net = net_test-sound latch_of_a 2 refl;
      starts = one_starts false;
      unfolds = ResetUnfolds.later {name = codes "y"} {next = 0} (0, omega arith, refl) (ResetUnfolds.input (inl (refl, refl)));
      run = r.0;
      is_run = r.1;
      weight = record {
        places = places;
        distinct = each_pair Apart places (((λ e d. omega arith), tt), (tt, tt));
        weighed = weighed;
        met = λ q j. ((λ h. (start, (0, omega arith, refl), visited (record { place = q; cycle = j; weight = h.0 }) h.1)), λ h. listed q j (from_start q j h.0 h.1 h.2));
        total = refl;
      };
      over = record {
        places = places;
        distinct = each_pair Apart places (((λ e d. omega arith), tt), (tt, tt));
        weighed = weighed;
        met = λ x h. (start, (0, omega arith, refl), visited x h);
        total = omega arith;
      };
    }
  where
    from_start : (q j : ℕ) (s : PlaceInCycle ℕ) → Contains (start ∷ []) s → ResetVisits latch_of_a s.place s.cycle q j → ResetVisits latch_of_a 1 1 q j
    from_start q j s h v = subst (λ (x : PlaceInCycle ℕ). ResetVisits latch_of_a x.place x.cycle q j) (sym (only start s h)) v
