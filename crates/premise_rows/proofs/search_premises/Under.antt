-- Where an input is 1 circuits whose latches lie on cycles agree, or differ.
use Rattle.std.proofs.Common.{◌≡◌, ◌∙◌, ℕ, zero, suc, ◌+◌, ◌<◌, ◌≤◌, Bool, true, false, List, [], ◌∷◌, refl, sym, ap, ap₂, subst, arith, add-one, inl, inr}
use Rattle.std.specs.Prelude.{◌⊎◌, ◌↔◌, ◌&&◌, not, codes}
use Rattle.std.specs.List.{All, Contains}
use Rattle.std.proofs.lemmas.List.Elements.{All-from_recursion}
use Rattle.circuit_theory.specs.Agree.{IsPair}
use Rattle.circuit_theory.specs.Asked.{AreEqual}
use Rattle.circuit_theory.specs.Circuit.{Named, Started, Gate, Holds, Carries, IsLatch}
use Rattle.circuit_theory.specs.Cover.{Cover, cover_value}
use Rattle.circuit_theory.specs.Fits.{IsPairDepth}
use Rattle.circuit_theory.specs.Query.{Query, Variable, HasLeaf, HasLeafIn, Distinguishes, IsLeast, assigned, bits_of, same_shift}
use Rattle.circuit_theory.specs.Run.{IsRun, IsResetRun}
use Rattle.circuit_theory.specs.Tree.{Tree, Leaf, Fixed, Branch, Cons, Nil, Unfolds, UnfoldsAll, tree_value}
use Rattle.circuit_theory.proofs.Lists.{Contains-head, Contains-tail, Contains-cases, only}
use Rattle.circuit_laws.specs.reset_laws.Reset.{ResetUnfolds, ResetUnfoldsAll, HasStarts, AreBased, AreAlikeFromReset, CycleBefore}
use Rattle.circuit_laws.specs.cycle_laws.Bounded.{AgreeUpTo}
use Rattle.circuit_laws.proofs.TreeDepth.{tree_depth}
use Rattle.assume_laws.specs.Assume.{RowMeets, PlaceUnfolds, PlaceUnfoldsAll}
use Rattle.assume_laws.proofs.Meeting.{leaf_input, leaf_at}
use Rattle.cycle_under.specs.First.{MeetsFirst, IsWantedFirst, IsDifferenceOf, IsWitnessFirst, reset_pair_under}
use Rattle.cycle_under.proofs.Runs.{equal_up_to_agree_under, equal_to_depths_agree_under, witness_differs_under}
use Rattle.pair_texts.specs.design_rows.Designs.{xor_cover}
use Rattle.call_rows.specs.circuit_samples.Circuits.{buffer, constant_one, inverter, only_a, one_from, constant_from_zero}
use Rattle.call_rows.proofs.circuit_samples.AssumeExamples.{row_meets, meets_row, reads_a, numbered_a}
use Rattle.call_rows.proofs.circuit_samples.Each.{each_at, each_pair}
use Rattle.call_rows.proofs.circuit_samples.ResetExamples.{one_based}
use Rattle.call_rows.proofs.circuit_samples.UnderExamples.{reset_sides_under}
use Rattle.premise_rows.specs.search_premises.Under.{taking, turning_with, turning, staying, of_a, two_ones, AgreeWhereOne, AgreeToDepth, DifferWhereOne, CircuitsMeetUnder}

-- what the covers give
with_one : (b : Bool) → cover_value xor_cover (true ∷ b ∷ []) ≡ cover_value inverter (b ∷ [])
unfolding cover_value
with_one true = refl
with_one false = refl

turned : (b : Bool) → not b ≡ cover_value inverter (b ∷ [])
unfolding cover_value
turned true = refl
turned false = refl

one_bit : true ≡ cover_value constant_one []
unfolding cover_value
one_bit = refl

starts : (fanins : List ℕ) (cover : Cover) → HasStarts (taking fanins cover)
starts fanins cover = record {
  of_latches = λ u bit h. let e = only _ _ h in (codes "y", 2, subst (λ (s : Started ℕ). IsLatch (taking fanins cover) (codes "y") s.place 2) e (1, omega arith, refl));
  once = λ u x y h k. let e = ap (λ (s : Started ℕ). s.bit) (only _ _ h) in let f = ap (λ (s : Started ℕ). s.bit) (only _ _ k) in sym e ∙ f;
}

-- what both have in a cycle
abbrev with_tree : (t : ℕ) → Tree ℕ
with_tree zero = Fixed false
with_tree (suc t) = Branch xor_cover (Cons (Leaf 0 t) (Cons (with_tree t) Nil))

abbrev turning_tree : (t : ℕ) → Tree ℕ
turning_tree zero = Fixed false
turning_tree (suc t) = Branch inverter (Cons (turning_tree t) Nil)

with_unfolds : (t : ℕ) → ResetUnfolds turning_with of_a 1 1 t (with_tree t)
with_unfolds zero = ResetUnfolds.started {name = codes "y"} {next = 2} (1, omega arith, refl) (0, omega arith, refl)
with_unfolds (suc t) =
    ResetUnfolds.later {name = codes "y"} {next = 2} (1, omega arith, refl)
    (ResetUnfolds.gate {fanins = 0 ∷ 1 ∷ []} {cover = xor_cover} (0, omega arith, refl) (ResetUnfoldsAll.more (ResetUnfolds.input (inl (refl, refl))) (ResetUnfoldsAll.more (with_unfolds t) ResetUnfoldsAll.none)))

turning_unfolds : (t : ℕ) → ResetUnfolds turning of_a 2 1 t (turning_tree t)
turning_unfolds zero = ResetUnfolds.started {name = codes "y"} {next = 2} (1, omega arith, refl) (0, omega arith, refl)
turning_unfolds (suc t) =
    ResetUnfolds.later {name = codes "y"} {next = 2} (1, omega arith, refl) (ResetUnfolds.gate {fanins = 1 ∷ []} {cover = inverter} (0, omega arith, refl) (ResetUnfoldsAll.more (turning_unfolds t) ResetUnfoldsAll.none))

-- where a is 1 in the cycles before
same : (t : ℕ) (x : ℕ → ℕ → Bool) → ((k : ℕ) → k < t → RowMeets only_a (λ i. x i k)) → tree_value x (with_tree t) ≡ tree_value x (turning_tree t)
unfolding tree_value
same zero x ones = refl
same (suc t) x ones =
    ap₂ (λ (a b : Bool). cover_value xor_cover (a ∷ b ∷ [])) (meets_row (λ i. x i t) (ones t (omega arith))) (same t x (λ k low. ones k (omega (arith, low)))) ∙ with_one (tree_value x (turning_tree t))

equal : (t : ℕ) → AreEqual (reset_pair_under only_a turning_with turning of_a of_a 1 2 1 1 t)
equal t = record {
  left_tree = with_tree t;
  right_tree = turning_tree t;
  left_unfolds = with_unfolds t;
  right_unfolds = turning_unfolds t;
  same = λ x care. same t x (λ k low. care.1 k (omega (arith, low)));
}

equal_pair : (p q t : ℕ) → IsPair [] turning_with turning p q → AreEqual (reset_pair_under only_a turning_with turning of_a of_a 1 2 p q t)
equal_pair p q t (IsPair.outputs {name = name} l r) =
    let left : 1 ≡ p = ap (λ (n : Named ℕ). n.place) (only (record { name = codes "y"; place = 1 }) (record { name = name; place = p }) l) in
    let right : 1 ≡ q = ap (λ (n : Named ℕ). n.place) (only (record { name = codes "y"; place = 1 }) (record { name = name; place = q }) r) in
    subst (λ x. AreEqual (reset_pair_under only_a turning_with turning of_a of_a 1 2 x q t)) left (subst (λ x. AreEqual (reset_pair_under only_a turning_with turning of_a of_a 1 2 1 x t)) right (equal t))
equal_pair p q t (IsPair.nexts h l r) = absurd (omega (arith, h.1))

-- runs in which a is always 0: the one latch stays, and the other turns
phase : ℕ → Bool
phase zero = false
phase (suc t) = not (phase t)

abbrev staying_run : ℕ → ℕ → Bool
staying_run t p = false

abbrev turning_run : ℕ → ℕ → Bool
turning_run t zero = false
turning_run t (suc zero) = phase t
turning_run t (suc (suc p)) = not (phase t)

staying_is : (n : ℕ) → IsResetRun turning_with n staying_run
unfolding cover_value
staying_is n = record {
  is_run = record {
    meets = λ t low. All-from_recursion (Holds (staying_run t)) turning_with.equations (refl, (tt, tt));
    carries = λ t low. All-from_recursion (Carries (staying_run t) (staying_run (t + 1))) turning_with.equations (tt, (refl, tt));
  };
  starts = λ p bit x. subst (λ (s : Started ℕ). false ≡ s.bit) (only _ _ x) refl;
}

turning_is : (n : ℕ) → IsResetRun turning n turning_run
unfolding phase
turning_is n = record {
  is_run = record {
    meets = λ t low. All-from_recursion (Holds (turning_run t)) turning.equations (turned (phase t), (tt, tt));
    carries = λ t low. subst (λ s. All (Carries (turning_run t) (turning_run s)) turning.equations) (sym (add-one t)) (All-from_recursion (Carries (turning_run t) (turning_run (suc t))) turning.equations (tt, (refl, tt)));
  };
  starts = λ p bit x. subst (λ (s : Started ℕ). turning_run 0 s.place ≡ s.bit) (only _ _ x) refl;
}

alike : AreAlikeFromReset turning_with turning 2 staying_run turning_run
alike = record {
  left_run = staying_is 2;
  right_run = turning_is 2;
  equal_inputs = λ name p q x y t low.
      let right : 0 ≡ q = ap (λ (n : Named ℕ). n.place) (only (record { name = codes "a"; place = 0 }) (record { name = name; place = q }) y) in
      subst (λ b. false ≡ turning_run t b) right refl;
}

apart : AgreeUpTo 1 turning_with turning → ⊥
unfolding phase
apart agree = let e : false ≡ true = agree 2 staying_run turning_run alike 1 1 1 (omega arith) (omega arith) (IsPair.outputs {name = codes "y"} (0, omega arith, refl) (0, omega arith, refl)) in cc

agree_where_one : AgreeWhereOne
agree_where_one = record {
  numbered = record { left_once = numbered_a.left_once; right_once = numbered_a.right_once; shared = numbered_a.shared };
  based = record { left_inputs = (one_based false false).left_inputs; right_inputs = (one_based false false).right_inputs; latches = omega arith };
  reads = reads_a turning_with refl;
  equal = equal_pair;
  agree = λ last.
      equal_up_to_agree_under only_a turning_with turning of_a of_a 1 2 last (record { left_once = numbered_a.left_once; right_once = numbered_a.right_once; shared = numbered_a.shared })
      (record { left_inputs = (one_based false false).left_inputs; right_inputs = (one_based false false).right_inputs; latches = omega arith }) (reads_a turning_with refl) (λ p q t pair low. equal_pair p q t pair);
  apart = apart;
}

-- a latch of a, and one of the constant 1
latch_tree : Unfolds (one_from false) of_a 1 0 1 (Leaf 0 1)
latch_tree = Unfolds.latch {name = codes "y"} {next = 0} (0, omega arith, refl) (Unfolds.input (inl (refl, refl)))

constant_tree : Unfolds constant_from_zero of_a 2 0 1 (Branch constant_one Nil)
constant_tree = Unfolds.latch {name = codes "y"} {next = 1} (1, omega arith, refl) (Unfolds.gate {fanins = []} (0, omega arith, refl) UnfoldsAll.none)

abbrev Deep : ℕ → ℕ → Type 0
Deep p q = (d : ℕ) × IsPairDepth (one_from false) constant_from_zero p q d × (d ≤ 1)

deep : Deep 1 2
deep = (
  1,
  record {
    left = 1;
    right = 1;
    left_is = tree_depth (one_from false) reset_sides_under.left_net.single latch_tree;
    right_is = tree_depth constant_from_zero reset_sides_under.right_net.single constant_tree;
    greater = refl;
  },
  omega arith,
)

abbrev Equal : ℕ → ℕ → ℕ → Type 0
Equal p q t = AreEqual (reset_pair_under only_a (one_from false) constant_from_zero of_a of_a 1 2 p q t)

equal_in : (t : ℕ) → t ≤ 1 → Equal 1 2 t
unfolding tree_value
equal_in zero le = record {
  left_tree = Fixed false;
  right_tree = Fixed false;
  left_unfolds = ResetUnfolds.started {name = codes "y"} {next = 0} (0, omega arith, refl) (0, omega arith, refl);
  right_unfolds = ResetUnfolds.started {name = codes "y"} {next = 1} (1, omega arith, refl) (0, omega arith, refl);
  same = λ x care. refl;
}
equal_in (suc zero) le = record {
  left_tree = Leaf 0 0;
  right_tree = Branch constant_one Nil;
  left_unfolds = ResetUnfolds.later {name = codes "y"} {next = 0} (0, omega arith, refl) (ResetUnfolds.input (inl (refl, refl)));
  right_unfolds = ResetUnfolds.later {name = codes "y"} {next = 1} (1, omega arith, refl) (ResetUnfolds.gate {fanins = []} (0, omega arith, refl) ResetUnfoldsAll.none);
  same = λ x care. meets_row (λ i. x i 0) (care.1 0 (omega arith)) ∙ one_bit;
}
equal_in (suc (suc t)) le = absurd (omega (arith, le))

module _ (F : ℕ → ℕ → Type 0) (one : F 1 2) where
  of_outputs : (p q : ℕ) → IsPair [] (one_from false) constant_from_zero p q → F p q
  of_outputs p q (IsPair.outputs {name = name} l r) =
      let left : 1 ≡ p = ap (λ (n : Named ℕ). n.place) (only (record { name = codes "y"; place = 1 }) (record { name = name; place = p }) l) in
      let right : 2 ≡ q = ap (λ (n : Named ℕ). n.place) (only (record { name = codes "y"; place = 2 }) (record { name = name; place = q }) r) in
      subst (λ x. F x q) left (subst (F 1) right one)
  of_outputs p q (IsPair.nexts h l r) = absurd (omega (arith, h.1))

agree_to_depth : AgreeToDepth
agree_to_depth =
    let s = reset_sides_under in
    record {
      sides = s;
      deep = of_outputs Deep deep;
      equal = λ p q t pair le. of_outputs (λ u v. Equal u v t) (equal_in t le) p q pair;
      agree = equal_to_depths_agree_under only_a (one_from false) constant_from_zero 2 3 of_a of_a 1 2 1 s.left_net s.right_net s.left_starts s.right_starts s.numbered s.based s.reads (of_outputs Deep deep)
          (λ p q t pair le. of_outputs (λ u v. Equal u v t) (equal_in t le) p q pair);
    }

-- The difference in cycle 1: of the trees one reads a in cycle 0, and the assumption in both.
abbrev a_in : ℕ → Variable ℕ
a_in k = record { input = 0; at = k }

abbrev both : List (Variable ℕ)
both = a_in 0 ∷ a_in 1 ∷ []

abbrev left_tree : Tree ℕ
left_tree = Branch xor_cover (Cons (Leaf 0 0) (Cons (Fixed false) Nil))

abbrev right_tree : Tree ℕ
right_tree = Branch buffer (Cons (Fixed false) Nil)

abbrev IsWanted : Tree ℕ → Type 0
IsWanted tree = IsWantedFirst only_a 2 (Contains (left_tree ∷ right_tree ∷ [])) tree

abbrev IsRead : Variable ℕ → Type 0
IsRead x = (tree : Tree ℕ) × IsWanted tree × HasLeaf x tree

-- the assumption in a cycle
assumed : (k : ℕ) → PlaceUnfolds only_a.circuit only_a.order k only_a.output (Branch buffer (Cons (Leaf 0 k) Nil))
assumed k = PlaceUnfolds.gate {fanins = 0 ∷ []} (0, omega arith, refl) (PlaceUnfoldsAll.more (PlaceUnfolds.input (inl (refl, refl))) PlaceUnfoldsAll.none)

read_there : (k : ℕ) → k < 2 → IsRead (a_in k)
read_there k low = (Branch buffer (Cons (Leaf 0 k) Nil), inr (k, low, assumed k), HasLeaf.inside (HasLeafIn.first HasLeaf.leaf))

leaf_is : (x : Variable ℕ) (i k : ℕ) → HasLeaf x (Leaf i k) → record { input = i; at = k } ≡ x
leaf_is x i k HasLeaf.leaf = refl

of_left : (x : Variable ℕ) → HasLeaf x left_tree → a_in 0 ≡ x
of_left x (HasLeaf.inside (HasLeafIn.first h)) = leaf_is x 0 0 h
of_left x (HasLeaf.inside (HasLeafIn.later (HasLeafIn.first h))) = elim h [ ]
of_left x (HasLeaf.inside (HasLeafIn.later (HasLeafIn.later h))) = elim h [ ]

of_right : (x : Variable ℕ) → HasLeaf x right_tree → ⊥
of_right x (HasLeaf.inside (HasLeafIn.first h)) = elim h [ ]
of_right x (HasLeaf.inside (HasLeafIn.later h)) = elim h [ ]

-- a variable of a in a cycle up to 1
listed : (x : Variable ℕ) → 0 ≡ x.input → x.at < 2 → Contains both x
listed x e low = go x.at refl low
  where
    named : (k : ℕ) → x.at ≡ k → a_in k ≡ x
    named k f = ap₂ (λ (i j : ℕ). record { input = i; at = j }) e (sym f)

    go : (k : ℕ) → x.at ≡ k → k < 2 → Contains both x
    go zero f below = subst (Contains both) (named 0 f) (Contains-head (a_in 0) (a_in 1 ∷ []))
    go (suc zero) f below = subst (Contains both) (named 1 f) (Contains-tail (a_in 0) (a_in 1) (a_in 1 ∷ []) (Contains-head (a_in 1) []))
    go (suc (suc k)) f below = absurd (omega (arith, below))

read_by : (x : Variable ℕ) (tree : Tree ℕ) → IsWanted tree → HasLeaf x tree → Contains both x
read_by x tree (inl one) leaf = by (Contains-cases left_tree tree (right_tree ∷ []) one)
  where
    by : (left_tree ≡ tree) ⊎ Contains (right_tree ∷ []) tree → Contains both x
    by (inl e) = subst (Contains both) (of_left x (subst (HasLeaf x) (sym e) leaf)) (Contains-head (a_in 0) (a_in 1 ∷ []))
    by (inr k) = absurd (of_right x (subst (HasLeaf x) (sym (only right_tree tree k)) leaf))
read_by x tree (inr m) leaf =
    let n = leaf_input only_a.circuit only_a.order m.0 x m.2 leaf in
    let at = leaf_at only_a.circuit only_a.order m.0 x m.2 leaf in
    listed x (number n.0 x.input n.1) (let low = m.1 in omega (arith, low, at))
  where
    number : (q i : ℕ) → ((0 ≡ q) × (0 ≡ i)) ⊎ ⊥ → 0 ≡ i
    number q i (inl h) = h.1
    number q i (inr h) = absurd h

abbrev query : Query ℕ
query = record { left = λ y. tree_value y left_tree; right = λ y. tree_value y right_tree; care = λ y. y 0 0 && y 0 1 }

both_true : (a b : Bool) → a ≡ true → b ≡ true → (a && b) ≡ true
both_true a b e f = ap₂ (λ (x y : Bool). x && y) e f

of_both : (a b : Bool) → (a && b) ≡ true → (a ≡ true) × (b ≡ true)
of_both true b e = (refl, e)
of_both false b e = cc

cared : (y : ℕ → ℕ → Bool) → ((y 0 0 && y 0 1) ≡ true) ↔ (Unit {0} × MeetsFirst only_a 2 y)
cared y = (λ e. (tt, λ k low. meets (of_both (y 0 0) (y 0 1) e) k low), λ c. both_true (y 0 0) (y 0 1) (meets_row (λ i. y i 0) (c.1 0 (omega arith))) (meets_row (λ i. y i 1) (c.1 1 (omega arith))))
  where
    meets : (y 0 0 ≡ true) × (y 0 1 ≡ true) → (k : ℕ) → k < 2 → RowMeets only_a (λ i. y i k)
    meets e zero low = row_meets (λ i. y i 0) e.0
    meets e (suc zero) low = row_meets (λ i. y i 1) e.1
    meets e (suc (suc k)) low = absurd (omega (arith, low))

distinguishes : Distinguishes query (assigned same_shift both (true ∷ true ∷ []))
unfolding tree_value cover_value
distinguishes = record { care = refl; differs = λ e. (let f : true ≡ false = e in cc) }

least : (m : ℕ) → m < 3 → Distinguishes query (assigned same_shift both (bits_of m 2)) → ⊥
least zero low d = let e : false ≡ true = d.care in cc
least (suc zero) low d = let e : false ≡ true = d.care in cc
least (suc (suc zero)) low d = let e : false ≡ true = d.care in cc
least (suc (suc (suc m))) low d = absurd (omega (arith, low))

difference : IsDifferenceOf (reset_pair_under only_a turning_with staying of_a of_a 1 2 1 1 1) left_tree right_tree both (true ∷ true ∷ [])
difference = record {
  are_variables = record {
    in_order = each_pair CycleBefore both ((inl (omega arith), tt), (tt, tt));
    exactly = λ x. (λ h. each_at IsRead both (read_there 0 (omega arith), (read_there 1 (omega arith), tt)) x h, λ h. read_by x h.0 h.1 h.2);
  };
  each = refl;
  query = query;
  left_is = λ y. refl;
  right_is = λ y. refl;
  care_is = cared;
  distinguishes = distinguishes;
  least = λ le. (3, refl, record { in_range = (let h : 3 < 4 = omega arith in h); distinguishes = distinguishes; least = least });
}

witness : IsWitnessFirst only_a turning_with staying of_a of_a 1 2 1 1 1 two_ones (false ∷ []) (false ∷ []) 1 true false
unfolding tree_value cover_value
witness = record {
  left_tree = left_tree;
  right_tree = right_tree;
  left_unfolds = with_unfolds 1;
  right_unfolds = ResetUnfolds.later {name = codes "y"} {next = 2} (1, omega arith, refl) (ResetUnfolds.gate {fanins = 1 ∷ []} {cover = buffer} (0, omega arith, refl)
      (ResetUnfoldsAll.more (ResetUnfolds.started {name = codes "y"} {next = 2} (1, omega arith, refl) (0, omega arith, refl)) ResetUnfoldsAll.none));
  variables = both;
  bits = true ∷ true ∷ [];
  difference = difference;
  inputs = λ tree x one leaf. side x.input;
  rows_are = refl;
  left_power_is = refl;
  right_power_is = refl;
  left_value = refl;
  right_value = refl;
}
  where
    side : (i : ℕ) → (i < 1) ⊎ (1 ≤ i)
    side zero = inl (omega arith)
    side (suc i) = inr (omega arith)

based : AreBased turning_with staying of_a of_a 1 2
based = record { left_inputs = (one_based false false).left_inputs; right_inputs = (one_based false false).right_inputs; latches = omega arith }

low : (p i : ℕ) → ((0 ≡ p) × (0 ≡ i)) ⊎ ⊥ → i < 1
low p i (inl h) = omega (arith, h.1)
low p i (inr h) = absurd h

differ_where_one : DifferWhereOne
differ_where_one = record {
  left_starts = starts (0 ∷ 1 ∷ []) xor_cover;
  right_starts = starts (1 ∷ []) buffer;
  based = based;
  low = low;
  witness = witness;
  differ = witness_differs_under only_a turning_with staying of_a of_a 1 2 1 1 1 two_ones (false ∷ []) (false ∷ []) 1 true false (starts (0 ∷ 1 ∷ []) xor_cover) (starts (1 ∷ []) buffer) based low witness;
}

pub circuits_meet_under : CircuitsMeetUnder
circuits_meet_under = (agree_where_one, agree_to_depth, differ_where_one)
