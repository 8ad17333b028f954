-- Under the assumption that a is 1, a latch that loads the complement of a and one that loads 0 are equal, without and with t cut open.
use Rattle.std.proofs.Common.{◌≡◌, ℕ, Bool, true, false, List, [], ◌∷◌, refl, sym, ap, subst, arith, inl, inr, None}
use Rattle.std.specs.Prelude.{◌⊎◌, codes}
use Rattle.std.specs.List.{Contains}
use Rattle.std.proofs.lemmas.List.Elements.{All-nil, All-cons}
use Rattle.circuit_theory.specs.declared.Mode.TheVariants.{Event}
use Rattle.circuit_theory.specs.Cover.{cover_value}
use Rattle.circuit_theory.specs.Circuit.{Circuit, Gate, Named, Holds}
use Rattle.circuit_theory.specs.Tree.{Tree, IsInputNumber, tree_value}
use Rattle.circuit_theory.specs.Query.{HasLeaf, HasLeafIn}
use Rattle.circuit_theory.specs.Joined.{Either, Left, Right}
use Rattle.circuit_theory.specs.Agree.{cut}
use Rattle.circuit_theory.specs.Frame.{EventSide, EventUnfolds}
use Rattle.circuit_theory.proofs.Lists.{only}
use Rattle.assume_laws.specs.Assume.{IsAssumption, RowMeets, ReadsInputs, HasCareUnder, HaveEqualEventsUnder, AgreeUnder, AgreeOnwardUnder}
use Rattle.assume_laws.proofs.EventLaws.{event_functions_agree_under, exposed_event_functions_agree_under}
use Rattle.call_rows.proofs.circuit_samples.NetTest.{net_test-sound}
use Rattle.call_rows.specs.circuit_samples.event_samples.Samples.{opened, before, cleared, opened_before, opened_cleared, exposed, load_not_cover, load_zero_cover, same_cover, numbers, class_of}
use Rattle.call_rows.specs.circuit_samples.event_samples.Premises.{AreEventSides, AreExposedSides}
use Rattle.call_rows.specs.circuit_samples.event_samples.Assumed.{a_is_one, PairsAreEqualUnder}
use Rattle.call_rows.proofs.circuit_samples.Each.{each_at, each_latch}
use Rattle.call_rows.proofs.circuit_samples.event_samples.Opened
use Rattle.call_rows.proofs.circuit_samples.event_samples.Opened.{LoadPair, holds_not, loads_not}
use Rattle.call_rows.proofs.circuit_samples.event_samples.ExposedPair.{exposed_sides, at_cut, at_pairs}

pub holds_zero : (b bit : Bool) → cover_value load_zero_cover (false ∷ b ∷ bit ∷ []) ≡ bit
unfolding cover_value
holds_zero true true = refl
holds_zero true false = refl
holds_zero false true = refl
holds_zero false false = refl

pub loads_zero : (b : Bool) → cover_value load_zero_cover (true ∷ b ∷ false ∷ []) ≡ cover_value load_zero_cover (true ∷ b ∷ true ∷ [])
unfolding cover_value
loads_zero true = refl
loads_zero false = refl

abbrev pub cleared_pair : LoadPair
cleared_pair = record { la = load_not_cover; oa = same_cover; lb = load_zero_cover; ob = same_cover; holds_a = holds_not; loads_a = loads_not; holds_b = holds_zero; loads_b = loads_zero }

abbrev side : EventSide (Either ℕ ℕ)
side = Opened.side cleared_pair

pub is_assumption : IsAssumption a_is_one 2
is_assumption = record {
  net = net_test-sound a_is_one.circuit 2 refl;
  gates = λ name u next latch. each_latch (λ m v to. ⊥) a_is_one.circuit.equations tt name u next latch;
  each = refl;
  output = omega arith;
}

same_bit : (b : Bool) → cover_value same_cover (b ∷ []) ≡ b
unfolding cover_value
same_bit true = refl
same_bit false = refl

-- a sent meets it only where a is 1
meets_row : (sent : ℕ → Bool) → RowMeets a_is_one sent → sent 2 ≡ true
meets_row sent meets = meets (λ p. sent 2) (All-cons (Holds (λ p. sent 2)) (Gate 1 (0 ∷ []) same_cover) [] (sym (same_bit (sent 2))) (All-nil (Holds (λ p. sent 2)))) number
  where
    number : (p i : ℕ) → ((0 ≡ p) × (2 ≡ i)) ⊎ ⊥ → sent 2 ≡ sent i
    number p i (inl h) = ap sent h.1
    number p i (inr h) = absurd h

-- a is an input of the opened circuits, of number 2
reads_a : (load out : _) → ReadsInputs a_is_one (opened load out) numbers
reads_a load out = record { each = refl; found = λ p i h. (codes "a", 2, named p i h, (2, omega arith, refl), number p i h); numbered = λ name p i q mine other h. at_place name p i q mine other h }
  where
    named : (p i : ℕ) → ((0 ≡ p) × (2 ≡ i)) ⊎ ⊥ → Contains a_is_one.circuit.inputs (record { name = codes "a"; place = p })
    named p i (inl h) = subst (λ x. Contains a_is_one.circuit.inputs (record { name = codes "a"; place = x })) h.0 (0, omega arith, refl)
    named p i (inr h) = absurd h

    number : (p i : ℕ) → ((0 ≡ p) × (2 ≡ i)) ⊎ ⊥ → IsInputNumber (opened load out) numbers 2 i
    number p i (inl h) = inr (inr (inl (refl, h.1)))
    number p i (inr h) = absurd h

    letter : (i j : ℕ) → (i ≡ j → ⊥) → j ∷ [] ≡ i ∷ [] → ⊥
    letter i j n e = n (first e)
      where
        first : j ∷ [] ≡ i ∷ [] → i ≡ j
        first d = cc

    place_of : (name : List ℕ) (q : ℕ) → Contains (opened load out).inputs (record { name = name; place = q }) → codes "a" ≡ name → 2 ≡ q
    place_of name q h e =
        each_at (λ (n : Named ℕ). codes "a" ≡ n.name → 2 ≡ n.place) (opened load out).inputs
        ((λ d. absurd (letter 101 97 (λ k. omega arith) d)), ((λ d. absurd (letter 102 97 (λ k. omega arith) d)), ((λ d. refl), ((λ d. absurd (letter 116 97 (λ k. omega arith) d)), tt)))) (record { name = name; place = q }) h e

    at_place : (name : List ℕ) (p i q : ℕ) → Contains a_is_one.circuit.inputs (record { name = name; place = p }) → Contains (opened load out).inputs (record { name = name; place = q }) →
        ((0 ≡ p) × (2 ≡ i)) ⊎ ⊥ → IsInputNumber (opened load out) numbers q i
    at_place name p i q mine other h =
        let same = only (record { name = codes "a"; place = 0 }) (record { name = name; place = p }) mine in
        subst (λ x. IsInputNumber (opened load out) numbers x i) (place_of name q other (ap (λ (n : Named ℕ). n.name) same)) (number p i h)

abbrev Value : Bool → Bool → Type 0
Value b a = cover_value same_cover (cover_value load_not_cover (b ∷ a ∷ false ∷ []) ∷ []) ≡ cover_value same_cover (cover_value load_zero_cover (b ∷ a ∷ false ∷ []) ∷ [])

both_one : Value true true
unfolding cover_value
both_one = refl

-- where the load enable and a are 1
z_values : (bits : ℕ → List ℕ → Bool) → true ≡ bits 0 (1 ∷ []) → true ≡ bits 2 (1 ∷ []) → tree_value bits (Opened.left_z cleared_pair) ≡ tree_value bits (Opened.right_z cleared_pair)
unfolding tree_value
z_values bits e d = subst (λ a. Value (bits 0 (1 ∷ [])) a) d (subst (λ b. Value b true) e both_one)

-- the assumption holds where q of the first side has loaded
a_is_on : (bits : ℕ → List ℕ → Bool) (p q : Either ℕ ℕ) (tree : Tree (List ℕ)) → EventUnfolds side (Opened.On cleared_pair) None p [] tree → HasLeaf (record { input = 2; at = 1 ∷ [] }) tree → HasCareUnder a_is_one side p q bits → true ≡ bits 2 (1 ∷ [])
a_is_on bits p q tree unfolds stands care = sym (meets_row (λ i. bits i (1 ∷ [])) (care.1 (1 ∷ []) (tree, 2, inl (inl unfolds), stands)))

z_leaf : HasLeaf (record { input = 2; at = 1 ∷ [] }) (Opened.left_z cleared_pair)
z_leaf = HasLeaf.inside (HasLeafIn.first (HasLeaf.inside (HasLeafIn.later (HasLeafIn.first HasLeaf.leaf))))

y_leaf : HasLeaf (record { input = 2; at = 1 ∷ [] }) (Opened.y_of cleared_pair (Opened.left_z cleared_pair))
y_leaf = HasLeaf.inside (HasLeafIn.first z_leaf)

z_equal : HaveEqualEventsUnder a_is_one side (Left 9) (Right 9)
z_equal = record {
  left_tree = Opened.left_z cleared_pair;
  right_tree = Opened.right_z cleared_pair;
  left_unfolds = Opened.left_z_unfolds cleared_pair;
  right_unfolds = Opened.right_z_unfolds cleared_pair;
  same = λ bits care. z_values bits (Opened.e_is_on cleared_pair bits (Left 9) (Opened.left_z_reads cleared_pair) care.0.0) (a_is_on bits (Left 9) (Right 9) (Opened.left_z cleared_pair) (Opened.left_z_unfolds cleared_pair) z_leaf care);
}

y_equal : HaveEqualEventsUnder a_is_one side (Left 10) (Right 10)
y_equal = record {
  left_tree = Opened.y_of cleared_pair (Opened.left_z cleared_pair);
  right_tree = Opened.y_of cleared_pair (Opened.right_z cleared_pair);
  left_unfolds = Opened.left_y_unfolds cleared_pair;
  right_unfolds = Opened.right_y_unfolds cleared_pair;
  same = λ bits care. Opened.y_values cleared_pair bits (Opened.left_z cleared_pair) (Opened.right_z cleared_pair)
      (z_values bits (Opened.e_is_on cleared_pair bits (Left 10) (Opened.left_y_reads cleared_pair) care.0.0) (a_is_on bits (Left 10) (Right 10) (Opened.y_of cleared_pair (Opened.left_z cleared_pair)) (Opened.left_y_unfolds cleared_pair) y_leaf care));
}

t_equal : HaveEqualEventsUnder a_is_one side (Left 8) (Right 8)
t_equal = record { left_tree = Opened.t_tree cleared_pair; right_tree = Opened.t_tree cleared_pair; left_unfolds = Opened.left_t_unfolds cleared_pair; right_unfolds = Opened.right_t_unfolds cleared_pair; same = λ bits care. refl }

pub assumed_sides : AreEventSides opened_before opened_cleared 11 11 numbers numbers class_of
assumed_sides = Opened.event_sides cleared_pair

pub assumed_reads : ReadsInputs a_is_one opened_before numbers
assumed_reads = reads_a load_not_cover same_cover

pub assumed_equal : PairsAreEqualUnder a_is_one [] opened_before opened_cleared opened_before opened_cleared numbers numbers class_of
assumed_equal = Opened.at_outputs cleared_pair (λ p q. HaveEqualEventsUnder a_is_one side (Left p) (Right q)) y_equal z_equal t_equal

pub assumed_agree : AgreeUnder Event a_is_one opened_before opened_cleared
assumed_agree =
    let s = assumed_sides in
    event_functions_agree_under a_is_one opened_before opened_cleared 11 11 numbers numbers class_of s.left_net s.right_net s.numbered s.left_long s.right_long s.classes s.depths assumed_reads assumed_equal

-- with t cut open
pub assumed_exposed_sides : AreExposedSides before cleared 11 11 exposed numbers numbers class_of
assumed_exposed_sides = exposed_sides cleared_pair

abbrev Met : Circuit ℕ → Circuit ℕ → Type 0
Met a b = ReadsInputs a_is_one a numbers × PairsAreEqualUnder a_is_one exposed before cleared a b numbers numbers class_of

pub assumed_cut : ReadsInputs a_is_one (cut exposed before) numbers × PairsAreEqualUnder a_is_one exposed before cleared (cut exposed before) (cut exposed cleared) numbers numbers class_of
assumed_cut = at_cut cleared_pair Met (assumed_reads, (λ p q h. at_pairs cleared_pair (λ i j. HaveEqualEventsUnder a_is_one side (Left i) (Right j)) y_equal z_equal t_equal p q h))

pub assumed_onward : AgreeUnder Event a_is_one before cleared × AgreeOnwardUnder Event exposed a_is_one before cleared
assumed_onward =
    let x = assumed_exposed_sides in
    let s = x.sides in
    exposed_event_functions_agree_under a_is_one before cleared 11 11 exposed numbers numbers class_of x.left_net x.right_net x.left_names x.right_names x.minimal s.numbered s.left_long s.right_long s.classes s.depths assumed_cut.0 assumed_cut.1
