-- One latch that starts with 0 against one that starts with 1: the premises of the laws are met, the pair differs in cycle 0 and would
-- agree from its depth on. And a latch behind a gate against latches before it, all from 0: they agree in every cycle.
use Rattle.std.proofs.Common.{◌≡◌, ℕ, zero, suc, ◌<◌, ◌≤◌, Bool, true, false, List, [], ◌∷◌, refl, sym, ◌∙◌, ap, subst, arith, inl, inr}
use Rattle.std.specs.Prelude.{◌⊎◌, ◌↔◌, codes}
use Rattle.std.specs.List.{Contains}
use Rattle.std.proofs.lemmas.List.Elements.{All-nil}
use Rattle.circuit_theory.specs.Cover.{cover_value}
use Rattle.circuit_theory.specs.Circuit.{Named, Started, IsLatch}
use Rattle.circuit_theory.specs.Tree.{Tree, Leaf, Fixed, Branch, Nil, Cons, AreNumbered, tree_value, Unfolds, UnfoldsAll}
use Rattle.circuit_theory.specs.Query.{Variable, HasLeaf, Distinguishes, pair_query, assigned, same_shift}
use Rattle.circuit_theory.specs.Agree.{IsPair}
use Rattle.circuit_theory.specs.Fits.{IsPairDepth}
use Rattle.circuit_theory.proofs.Lists.{Contains-cases, only}
use Rattle.call_rows.specs.circuit_samples.Assumed.{AreResetSides}
use Rattle.call_rows.specs.circuit_samples.Circuits.{and_cover, one_from, late_from_zero, early_from_zero}
use Rattle.call_rows.proofs.circuit_samples.NetTest.{net_test-sound, numbers_distinct-sound}
use Rattle.circuit_theory.proofs.Numbers.{one_place}
use Rattle.circuit_laws.proofs.TreeDepth.{tree_depth}
use Rattle.circuit_laws.specs.reset_laws.Reset.{ResetUnfolds, ResetUnfoldsAll, HasStarts, AreBased, AreEqualFromReset, HaveEqualResets, AgreeFromReset, IsResetWitness, MakesDifferFromReset}
use Rattle.circuit_laws.proofs.reset_laws.ResetAgreement.{equal_resets_agree}
use Rattle.circuit_laws.proofs.reset_laws.ResetWindows.{reset_witness_makes_differ}

pub one_starts : (bit : Bool) → HasStarts (one_from bit)
one_starts bit = record {
  of_latches = λ u b h. let e = only (record { place = 1; bit = bit }) (record { place = u; bit = b }) h in
      subst (λ (s : Started ℕ). (name : List ℕ) × (next : ℕ) × IsLatch (one_from bit) name s.place next) e (codes "y", 0, (0, omega arith, refl));
  once = λ u x y h k.
      ap (λ (s : Started ℕ). s.bit) (sym (only (record { place = 1; bit = bit }) (record { place = u; bit = x }) h) ∙ only (record { place = 1; bit = bit }) (record { place = u; bit = y }) k);
}

pub one_based : (x y : Bool) → AreBased (one_from x) (one_from y) (0 ∷ []) (0 ∷ []) 1 2
one_based x y = record { left_inputs = low; right_inputs = low; latches = omega arith }
  where
    low : (p i : ℕ) → ((0 ≡ p) × (0 ≡ i)) ⊎ ⊥ → i < 1
    low p i (inl h) = omega (arith, h.1)
    low p i (inr h) = absurd h

pub no_leaf : {x : Variable ℕ} {tree : Tree ℕ} → HasLeaf x tree → (bit : Bool) → Fixed bit ≡ tree → ⊥
no_leaf HasLeaf.leaf bit e = cc
no_leaf (HasLeaf.inside h) bit e = cc

one_apart : false ≡ true → ⊥
one_apart e = cc

one_distinguishes : Distinguishes (pair_query (Fixed false) (Fixed true)) (assigned same_shift [] [])
unfolding tree_value
one_distinguishes = record { care = refl; differs = one_apart }

pub one_none : (x : Variable ℕ) → Contains [] x ↔ ((tree : Tree ℕ) × Contains (Fixed false ∷ Fixed true ∷ []) tree × HasLeaf x tree)
one_none x = (λ h. absurd (omega (arith, h.1)), λ h. go h.0 h.2 (Contains-cases (Fixed false) h.0 (Fixed true ∷ []) h.1))
  where
    go : (tree : Tree ℕ) → HasLeaf x tree → (Fixed false ≡ tree) ⊎ Contains (Fixed true ∷ []) tree → Contains [] x
    go tree stands (inl e) = absurd (no_leaf stands false e)
    go tree stands (inr k) = absurd (no_leaf stands true (only (Fixed true) tree k))

pub one_witness : IsResetWitness (one_from false) (one_from true) (0 ∷ []) (0 ∷ []) 1 2 1 1 1 ((false ∷ []) ∷ []) (false ∷ []) (true ∷ []) 0 false true
unfolding tree_value
one_witness = record {
  left_tree = Fixed false;
  right_tree = Fixed true;
  left_unfolds = ResetUnfolds.started {name = codes "y"} {next = 0} (0, omega arith, refl) (0, omega arith, refl);
  right_unfolds = ResetUnfolds.started {name = codes "y"} {next = 0} (0, omega arith, refl) (0, omega arith, refl);
  variables = [];
  are_variables = record { in_order = λ i j d l k. absurd (omega arith); exactly = one_none };
  inputs = All-nil (λ (x : Variable ℕ). (x.input < 1) ⊎ (1 ≤ x.input));
  bits = [];
  each = refl;
  distinguishes = one_distinguishes;
  least = λ h. (0, refl, record { in_range = omega arith; distinguishes = one_distinguishes; least = λ m l d. omega arith });
  rows_are = refl;
  left_power_is = refl;
  right_power_is = refl;
  left_value = refl;
  right_value = refl;
}

-- they differ in cycle 0, whatever the input is
pub one_differs : MakesDifferFromReset (one_from false) (one_from true) (0 ∷ []) (0 ∷ []) 1 1 ((false ∷ []) ∷ []) (false ∷ []) (true ∷ []) 0 false true
one_differs = reset_witness_makes_differ (one_from false) (one_from true) (0 ∷ []) (0 ∷ []) 1 2 1 1 1 ((false ∷ []) ∷ []) (false ∷ []) (true ∷ []) 0 false true (one_starts false) (one_starts true) (one_based false true) one_witness

late_starts : HasStarts late_from_zero
late_starts = record {
  of_latches = λ u b h. let e = only (record { place = 3; bit = false }) (record { place = u; bit = b }) h in
      subst (λ (s : Started ℕ). (name : List ℕ) × (next : ℕ) × IsLatch late_from_zero name s.place next) e (codes "y", 2, (1, omega arith, refl));
  once = λ u x y h k.
      ap (λ (s : Started ℕ). s.bit) (sym (only (record { place = 3; bit = false }) (record { place = u; bit = x }) h) ∙ only (record { place = 3; bit = false }) (record { place = u; bit = y }) k);
}

-- each of them starts with 0
early_bit : (u : ℕ) (x : Bool) → Contains early_from_zero.starts (record { place = u; bit = x }) → ((2 ≡ u) ⊎ (3 ≡ u)) × (false ≡ x)
early_bit u x h = go (Contains-cases (record { place = 2; bit = false }) (record { place = u; bit = x }) (record { place = 3; bit = false } ∷ []) h)
  where
    go : (◌≡◌ {A = Started ℕ} (record { place = 2; bit = false }) (record { place = u; bit = x })) ⊎ Contains {X = Started ℕ} (record { place = 3; bit = false } ∷ []) (record { place = u; bit = x }) → ((2 ≡ u) ⊎ (3 ≡ u)) × (false ≡ x)
    go (inl e) = (inl (ap (λ (s : Started ℕ). s.place) e), ap (λ (s : Started ℕ). s.bit) e)
    go (inr k) = let e = only (record { place = 3; bit = false }) (record { place = u; bit = x }) k in (inr (ap (λ (s : Started ℕ). s.place) e), ap (λ (s : Started ℕ). s.bit) e)

early_starts : HasStarts early_from_zero
early_starts = record { of_latches = λ u b h. latch u (early_bit u b h).0; once = λ u x y h k. sym (early_bit u x h).1 ∙ (early_bit u y k).1 }
  where
    latch : (u : ℕ) → (2 ≡ u) ⊎ (3 ≡ u) → (name : List ℕ) × (next : ℕ) × IsLatch early_from_zero name u next
    latch u (inl e) = subst (λ (v : ℕ). (name : List ℕ) × (next : ℕ) × IsLatch early_from_zero name v next) e (codes "p", 0, (1, omega arith, refl))
    latch u (inr e) = subst (λ (v : ℕ). (name : List ℕ) × (next : ℕ) × IsLatch early_from_zero name v next) e (codes "q", 1, (2, omega arith, refl))

late_low : (p i : ℕ) → ((0 ≡ p) × (0 ≡ i)) ⊎ (((1 ≡ p) × (1 ≡ i)) ⊎ ⊥) → i < 2
late_low p i (inl h) = omega (arith, h.1)
late_low p i (inr (inl h)) = omega (arith, h.1)
late_low p i (inr (inr h)) = absurd h

abbrev BothEarly : ℕ → ℕ → Type 0
BothEarly p q = (name : List ℕ) × Contains late_from_zero.inputs (record { name = name; place = p }) × Contains early_from_zero.inputs (record { name = name; place = q })

late_shared : (p q i : ℕ) → ((0 ≡ p) × (0 ≡ i)) ⊎ (((1 ≡ p) × (1 ≡ i)) ⊎ ⊥) → ((0 ≡ q) × (0 ≡ i)) ⊎ (((1 ≡ q) × (1 ≡ i)) ⊎ ⊥) → BothEarly p q
late_shared p q i (inl h) (inl k) = subst (λ x. BothEarly x q) h.0 (subst (BothEarly 0) k.0 (codes "a", (0, omega arith, refl), (0, omega arith, refl)))
late_shared p q i (inl h) (inr (inl k)) = absurd (omega (arith, h.1, k.1))
late_shared p q i (inl h) (inr (inr k)) = absurd k
late_shared p q i (inr (inl h)) (inl k) = absurd (omega (arith, h.1, k.1))
late_shared p q i (inr (inl h)) (inr (inl k)) = subst (λ x. BothEarly x q) h.0 (subst (BothEarly 1) k.0 (codes "b", (1, omega arith, refl), (1, omega arith, refl)))
late_shared p q i (inr (inl h)) (inr (inr k)) = absurd k
late_shared p q i (inr (inr h)) k = absurd h

late_numbered : AreNumbered late_from_zero early_from_zero (0 ∷ 1 ∷ []) (0 ∷ 1 ∷ [])
late_numbered = record {
  left_once = λ p q i h k. one_place late_from_zero.inputs (0 ∷ 1 ∷ []) (numbers_distinct-sound (0 ∷ 1 ∷ []) refl) p q i h k;
  right_once = λ p q i h k. one_place early_from_zero.inputs (0 ∷ 1 ∷ []) (numbers_distinct-sound (0 ∷ 1 ∷ []) refl) p q i h k;
  shared = late_shared;
}

late_first : HaveEqualResets late_from_zero early_from_zero (0 ∷ 1 ∷ []) (0 ∷ 1 ∷ []) 2 3 3 4 0
unfolding tree_value cover_value
late_first = record {
  left_tree = Fixed false;
  right_tree = Branch and_cover (Cons (Fixed false) (Cons (Fixed false) Nil));
  left_unfolds = ResetUnfolds.started {name = codes "y"} {next = 2} (1, omega arith, refl) (0, omega arith, refl);
  right_unfolds = ResetUnfolds.gate {fanins = 2 ∷ 3 ∷ []} (0, omega arith, refl)
      (ResetUnfoldsAll.more (ResetUnfolds.started {name = codes "p"} {next = 0} (1, omega arith, refl) (0, omega arith, refl))
      (ResetUnfoldsAll.more (ResetUnfolds.started {name = codes "q"} {next = 1} (2, omega arith, refl) (1, omega arith, refl)) ResetUnfoldsAll.none));
  same = λ x care. refl;
}

late_second : HaveEqualResets late_from_zero early_from_zero (0 ∷ 1 ∷ []) (0 ∷ 1 ∷ []) 2 3 3 4 1
unfolding tree_value cover_value
late_second = record {
  left_tree = Branch and_cover (Cons (Leaf 0 0) (Cons (Leaf 1 0) Nil));
  right_tree = Branch and_cover (Cons (Leaf 0 0) (Cons (Leaf 1 0) Nil));
  left_unfolds = ResetUnfolds.later {name = codes "y"} {next = 2} (1, omega arith, refl) (ResetUnfolds.gate {fanins = 0 ∷ 1 ∷ []} (0, omega arith, refl)
      (ResetUnfoldsAll.more (ResetUnfolds.input (inl (refl, refl))) (ResetUnfoldsAll.more (ResetUnfolds.input (inr (inl (refl, refl)))) ResetUnfoldsAll.none)));
  right_unfolds = ResetUnfolds.gate {fanins = 2 ∷ 3 ∷ []} (0, omega arith, refl)
      (ResetUnfoldsAll.more (ResetUnfolds.later {name = codes "p"} {next = 0} (1, omega arith, refl) (ResetUnfolds.input (inl (refl, refl))))
      (ResetUnfoldsAll.more (ResetUnfolds.later {name = codes "q"} {next = 1} (2, omega arith, refl) (ResetUnfolds.input (inr (inl (refl, refl))))) ResetUnfoldsAll.none));
  same = λ x care. refl;
}

late_each : (t : ℕ) → t ≤ 1 → HaveEqualResets late_from_zero early_from_zero (0 ∷ 1 ∷ []) (0 ∷ 1 ∷ []) 2 3 3 4 t
late_each zero le = late_first
late_each (suc zero) le = late_second
late_each (suc (suc t)) le = absurd (omega arith)

late_tree : Unfolds late_from_zero (0 ∷ 1 ∷ []) 3 0 1 (Branch and_cover (Cons (Leaf 0 1) (Cons (Leaf 1 1) Nil)))
late_tree = Unfolds.latch {name = codes "y"} {next = 2} (1, omega arith, refl)
    (Unfolds.gate {fanins = 0 ∷ 1 ∷ []} (0, omega arith, refl) (UnfoldsAll.more (Unfolds.input (inl (refl, refl))) (UnfoldsAll.more (Unfolds.input (inr (inl (refl, refl)))) UnfoldsAll.none)))

early_tree : Unfolds early_from_zero (0 ∷ 1 ∷ []) 4 0 1 (Branch and_cover (Cons (Leaf 0 1) (Cons (Leaf 1 1) Nil)))
early_tree = Unfolds.gate {fanins = 2 ∷ 3 ∷ []} (0, omega arith, refl)
    (UnfoldsAll.more (Unfolds.latch {name = codes "p"} {next = 0} (1, omega arith, refl) (Unfolds.input (inl (refl, refl))))
    (UnfoldsAll.more (Unfolds.latch {name = codes "q"} {next = 1} (2, omega arith, refl) (Unfolds.input (inr (inl (refl, refl))))) UnfoldsAll.none))

late_depth : IsPairDepth late_from_zero early_from_zero 3 4 1
late_depth = record {
  left = 1;
  right = 1;
  left_is = tree_depth late_from_zero (net_test-sound late_from_zero 4 refl).single late_tree;
  right_is = tree_depth early_from_zero (net_test-sound early_from_zero 5 refl).single early_tree;
  greater = refl;
}

late_equal : (p q : ℕ) → IsPair [] late_from_zero early_from_zero p q → AreEqualFromReset late_from_zero early_from_zero (0 ∷ 1 ∷ []) (0 ∷ 1 ∷ []) 2 3 p q
late_equal p q (IsPair.outputs {name = name} l r) =
    let left : 3 ≡ p = ap (λ (n : Named ℕ). n.place) (only (record { name = codes "y"; place = 3 }) (record { name = name; place = p }) l) in
    let right : 4 ≡ q = ap (λ (n : Named ℕ). n.place) (only (record { name = codes "y"; place = 4 }) (record { name = name; place = q }) r) in
    subst (λ x. AreEqualFromReset late_from_zero early_from_zero (0 ∷ 1 ∷ []) (0 ∷ 1 ∷ []) 2 3 x q) left
    (subst (λ x. AreEqualFromReset late_from_zero early_from_zero (0 ∷ 1 ∷ []) (0 ∷ 1 ∷ []) 2 3 3 x) right (record { depth = 1; is_depth = late_depth; each = late_each }))
late_equal p q (IsPair.nexts h l r) = absurd (omega (arith, h.1))

late_based : AreBased late_from_zero early_from_zero (0 ∷ 1 ∷ []) (0 ∷ 1 ∷ []) 2 3
late_based = record { left_inputs = late_low; right_inputs = late_low; latches = omega arith }

pub reset_sides : AreResetSides
reset_sides = record {
  left_net = net_test-sound late_from_zero 4 refl;
  right_net = net_test-sound early_from_zero 5 refl;
  left_starts = late_starts;
  right_starts = early_starts;
  numbered = late_numbered;
  based = late_based;
  equal = late_equal;
}

-- so they agree in every cycle
pub late_and_early_agree : AgreeFromReset late_from_zero early_from_zero
late_and_early_agree =
    let s = reset_sides in
    equal_resets_agree late_from_zero early_from_zero 4 5 (0 ∷ 1 ∷ []) (0 ∷ 1 ∷ []) 2 3 s.left_net s.right_net s.left_starts s.right_starts s.numbered s.based s.equal
