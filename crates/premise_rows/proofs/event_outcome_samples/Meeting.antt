-- That the second input is 1 is an assumption on both inputs, and the row that is kept meets it.
use Rattle.std.proofs.Common.{◌≡◌, ◌∙◌, ℕ, zero, suc, ◌<◌, ◌≤◌, Bool, true, false, List, [], ◌∷◌, slice_get, Some, refl, sym, ap, subst, arith, inl, inr}
use Rattle.std.specs.Prelude.{◌⊎◌, codes}
use Rattle.std.specs.List.{Contains}
use Rattle.std.proofs.lemmas.List.Elements.{All-nil, All-cons}
use Rattle.std.proofs.lemmas.Option.{none-some, same_Some}
use Rattle.circuit_theory.specs.Circuit.{Circuit, Holds}
use Rattle.circuit_theory.specs.Interface.{AreNumbersOf}
use Rattle.circuit_theory.specs.Query.{Variable, HasLeaf, Distinguishes, assigned, bits_of, same_shift}
use Rattle.circuit_theory.specs.Sizes.{IsWeight, Visits, Weighed, WeighsAt}
use Rattle.circuit_theory.specs.Tree.{Tree, Leaf, tree_value}
use Rattle.circuit_theory.proofs.Lists.{Contains-head, Contains-tail, only}
use Rattle.flat_net.specs.declared.parts.Port.{Port}
use Rattle.flat_net.specs.View.{circuit_of}
use Rattle.flat_net.proofs.Nets.{sound_is_net}
use Rattle.assume_laws.specs.Assume.{Assumption, IsAssumption, PlaceUnfolds, RowMeets}
use Rattle.assume_laws.specs.Sequences.{IsMeetingDifference, assumption_query}
use Rattle.assume_laws.proofs.Meeting.{meeting_row_meets}
use Rattle.event_setup.specs.event_meaning.event_meaning_under.Taken.{IsAssumed, assumed_by}
use Rattle.event_setup.specs.event_meaning.event_meaning_under.Met.{IsMet}
use Rattle.premise_rows.specs.event_outcome_samples.Different.{shows_a, shows_b, b_is_one}
use Rattle.premise_rows.proofs.event_outcome_samples.Nets.{assumed_sound, both_names}
use Rattle.premise_rows.proofs.event_outcome_samples.Sides.{names, no_latch, no_reading}

abbrev pub c : Circuit ℕ
c = circuit_of b_is_one

pub b_among : Contains names (codes "b")
b_among = Contains-tail (codes "a") (codes "b") (codes "b" ∷ []) (Contains-head (codes "b") [])

pub input_numbers : AreNumbersOf (codes "b" ∷ []) names (1 ∷ []) []
input_numbers = record { each = refl; distinct = λ i j d l h. absurd (omega (arith, l, h)); common = common; left_out = left_out }
  where
    common : (k i : ℕ) (name : List ℕ) → slice_get (codes "b" ∷ []) k ≡ Some name → slice_get names i ≡ Some name → slice_get (1 ∷ []) k ≡ Some i
    common zero i name own shared = ap Some (both_names 1 i name own shared)
    common (suc k) i name own shared = absurd (none-some name own)

    left_out : (k i : ℕ) (name : List ℕ) → slice_get (codes "b" ∷ []) k ≡ Some name → (Contains names name → ⊥) → slice_get (1 ∷ []) k ≡ Some i → (2 ≤ i) × (Contains [] i → ⊥)
    left_out zero i name own foreign number = absurd (foreign (subst (Contains names) (same_Some (codes "b") name own) b_among))
    left_out (suc k) i name own foreign number = absurd (none-some name own)

-- its output reads one input
abbrev pub weighed : Weighed ℕ
weighed = record { place = 0; shift = 0; weight = 1 }

visited : {p q j : ℕ} → Visits c p 0 q j → (p ≡ q) × (0 ≡ j)
visited Visits.itself = (refl, refl)
visited (Visits.reads {q = q} {r = r} before reads) = absurd (no_reading c refl q r reads)
visited (Visits.back {q = q} {next = next} {name = name} before latch) = absurd (no_latch c refl name q next latch)

pub weighs : IsWeight c (0 ∷ []) 1
weighs = record {
  places = weighed ∷ [];
  distinct = λ i j d l h. absurd (omega (arith, l, h));
  weighed = λ x h. subst (λ (y : Weighed ℕ). WeighsAt c y.place y.weight) (only weighed x h) (WeighsAt.input (codes "b", Contains-head (record { name = codes "b"; place = 0 }) []));
  met = λ q j. (there q j, back q j);
  total = refl;
}
  where
    there : (q j : ℕ) → ((w : ℕ) × Contains (weighed ∷ []) (record { place = q; shift = j; weight = w })) → (p : ℕ) × Contains (0 ∷ []) p × Visits c p 0 q j
    there q j f =
        let same = only weighed (record { place = q; shift = j; weight = f.0 }) f.1 in
        (0, Contains-head 0 [], subst (λ (x : Weighed ℕ). Visits c 0 0 x.place x.shift) same Visits.itself)

    back : (q j : ℕ) → ((p : ℕ) × Contains (0 ∷ []) p × Visits c p 0 q j) → (w : ℕ) × Contains (weighed ∷ []) (record { place = q; shift = j; weight = w })
    back q j v =
        let at = visited v.2 in
        let place : 0 ≡ q = only 0 v.0 v.1 ∙ at.0 in
        (1, subst (λ (z : ℕ). Contains (weighed ∷ []) (record { place = z; shift = j; weight = 1 })) place (subst (λ (s : ℕ). Contains (weighed ∷ []) (record { place = 0; shift = s; weight = 1 })) at.1 (Contains-head weighed [])))

abbrev pub assumed : IsAssumed names b_is_one
assumed = record {
  sound = assumed_sound;
  shape = record {
    latches = refl;
    output = record { name = codes "ok"; signal = record { 0 = 0 } };
    outputs = refl;
    inputs = All-cons (λ (p : Port). Contains names p.name) (record { name = codes "b"; signal = record { 0 = 0 } }) [] b_among (All-nil (λ (p : Port). Contains names p.name));
  };
  order = 1 ∷ [];
  others = [];
  numbers = input_numbers;
  weight = 1;
  weighs = weighs;
  light = omega arith;
}

abbrev pub b_assumed : Assumption
b_assumed = assumed_by assumed

-- a row meets it exactly where b is 1
pub row_meets : (sent : ℕ → Bool) → sent 1 ≡ true → RowMeets b_assumed sent
row_meets sent e v values inputs = inputs 0 1 (inl (refl, refl)) ∙ e

pub meets_row : (sent : ℕ → Bool) → RowMeets b_assumed sent → sent 1 ≡ true
meets_row sent meets = meets (λ p. sent 1) (All-nil (Holds (λ p. sent 1))) number
  where
    number : (p i : ℕ) → ((0 ≡ p) × (1 ≡ i)) ⊎ ⊥ → sent 1 ≡ sent i
    number p i (inl h) = ap sent h.1
    number p i (inr h) = absurd h

pub is_assumption : IsAssumption b_assumed 1
is_assumption = record { net = sound_is_net b_is_one assumed_sound; gates = λ name u next latch. no_latch c refl name u next latch; each = refl; output = omega arith }

-- the least assignment of its query
abbrev pub b_variable : Variable ℕ
b_variable = record { input = 1; at = 0 }

leaf_is : (x : Variable ℕ) (i k : ℕ) → HasLeaf x (Leaf i k) → record { input = i; at = k } ≡ x
leaf_is x i k HasLeaf.leaf = refl

apart : true ≡ false → ⊥
apart e = cc

distinguishes : Distinguishes (assumption_query (Leaf 1 0)) (assigned same_shift (b_variable ∷ []) (true ∷ []))
unfolding tree_value
distinguishes = record { care = refl; differs = apart }

least : (m : ℕ) → m < 1 → Distinguishes (assumption_query (Leaf 1 0)) (assigned same_shift (b_variable ∷ []) (bits_of m 1)) → ⊥
unfolding tree_value
least zero h d = d.differs refl
least (suc m) h d = omega (arith, h)

abbrev Found : Variable ℕ → Type 0
Found x = (tree : Tree ℕ) × Contains (Leaf 1 0 ∷ []) tree × HasLeaf x tree

pub difference : IsMeetingDifference b_assumed 0 (Leaf 1 0) (b_variable ∷ []) (true ∷ [])
difference = record {
  unfolds = PlaceUnfolds.input (inl (refl, refl));
  are_variables = record {
    in_order = λ i j d l h. absurd (omega (arith, l, h));
    exactly = λ x. (
      (λ h. subst Found (only b_variable x h) (Leaf 1 0, Contains-head (Leaf 1 0) [], HasLeaf.leaf)),
      λ f. subst (Contains (b_variable ∷ [])) (leaf_is x 1 0 (subst (HasLeaf x) (sym (only (Leaf 1 0) f.0 f.1)) f.2)) (Contains-head b_variable []),
    );
  };
  each = refl;
  distinguishes = distinguishes;
  least = λ le. (1, refl, record { in_range = omega arith; distinguishes = distinguishes; least = least });
}

abbrev pub met : IsMet shows_a shows_b b_is_one
met = record {
  matches = refl;
  assumed = assumed;
  row = λ i. assigned same_shift (b_variable ∷ []) (true ∷ []) i 0;
  kept = record {
    tree = Leaf 1 0;
    variables = b_variable ∷ [];
    bits = true ∷ [];
    difference = difference;
    row_is = λ i. refl;
    meets = (meeting_row_meets b_assumed 1 0 (Leaf 1 0) is_assumption).0 (b_variable ∷ []) (true ∷ []) 2 difference
        (All-cons (λ (x : Variable ℕ). x.input < 2) b_variable [] (omega arith) (All-nil (λ (x : Variable ℕ). x.input < 2)));
  };
}
