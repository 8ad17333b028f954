-- The sequences of differences under an assumption: they meet it in each cycle, and make their pair differ in all runs.
use Rattle.std.proofs.Common.{◌≡◌, ℕ, suc, ◌+◌, ◌-◌, ◌<◌, ◌≤◌, max, Bool, true, false, cond, List, [], ◌∷◌, length, refl, sym, ◌∙◌, ap, subst, arith, inl, inr}
use Rattle.std.specs.Prelude.{◌⊎◌, ◌||◌}
use Rattle.std.specs.List.{All, Contains, list_any}
use Rattle.std.proofs.lemmas.List.Elements.{All-contains}
use Rattle.circuit_theory.specs.Names.{same_name}
use Rattle.circuit_theory.specs.Tree.{Tree, tree_value}
use Rattle.circuit_theory.specs.Query.{Variable, HasLeaf, AreVariables, same_shift, assigned}
use Rattle.circuit_theory.specs.Sequence.{sequence_rows, row_value, TakesInputs}
use Rattle.circuit_theory.specs.Frame.{always_node, bits_as_shifts}
use Rattle.circuit_theory.specs.EventFrames.{frame_of}
use Rattle.circuit_theory.proofs.Inputs.{test_same, test_refl, same_name-sound}
use Rattle.circuit_theory.proofs.Lists.{Contains-head, Contains-tail, Contains-cases}
use Rattle.circuit_theory.proofs.Numbers.{same_name-refl}
use Rattle.circuit_laws.proofs.Windows.{rows_length, row_value-is, window}
use Rattle.circuit_laws.proofs.event_laws.EventVariables.{tree_same}
use Rattle.circuit_laws.proofs.reset_laws.ResetWindows.{assigned_absent}
use Rattle.assume_laws.specs.Assume.{Assumption, RowMeets}
use Rattle.assume_laws.specs.Sequences.{RowsMeet, IsMeetingRow, filled, filled_frame, IsDifferenceUnder}
use Rattle.assume_laws.specs.Laws.{WitnessMakesDifferUnder, EventDifferenceIsWitnessUnder}
use Rattle.assume_laws.proofs.Care.{row_same}

any_true : {X : Type 0} (test : X → Bool) (xs : List X) → list_any test xs ≡ true → (x : X) × Contains xs x × (test x ≡ true)
any_true test [] h = cc
any_true {X} test (x ∷ xs) h = go (test x) refl (λ k. any_true test xs k)
  where
    go : (b : Bool) → test x ≡ b → (list_any test xs ≡ true → (y : X) × Contains xs y × (test y ≡ true)) → (y : X) × Contains (x ∷ xs) y × (test y ≡ true)
    go true e later = (x, Contains-head x xs, e)
    go false e later = let f = later (sym (ap (λ b. b || list_any test xs) e) ∙ h) in (f.0, Contains-tail x f.0 xs f.1, f.2)

any_has : {X : Type 0} (test : X → Bool) (xs : List X) (x : X) → Contains xs x → test x ≡ true → list_any test xs ≡ true
any_has test [] x h e = absurd (omega (arith, h.1))
any_has {X} test (y ∷ xs) x h e = go (Contains-cases y x xs h) (λ k. any_has test xs x k e)
  where
    or_true : (b : Bool) → (b || true) ≡ true
    or_true true = refl
    or_true false = refl

    go : (y ≡ x) ⊎ Contains xs x → (Contains xs x → list_any test xs ≡ true) → (test y || list_any test xs) ≡ true
    go (inl q) later = ap (λ b. b || list_any test xs) (ap test q ∙ e)
    go (inr k) later = ap (λ b. test y || b) (later k) ∙ or_true (test y)

module _ {L : Type 0} (same : L → L → Bool) (sound : (x y : L) → same x y ≡ true → x ≡ y) (itself : (x : L) → same x x ≡ true) (sides : List (Variable L)) (meeting : ℕ → Bool) (x : ℕ → L → Bool) where
  -- at a variable the assignment stays
  pub filled_at : (v : Variable L) → Contains sides v → filled same sides meeting x v.input v.at ≡ x v.input v.at
  filled_at v h = ap (λ b. cond b (x v.input v.at) (meeting v.input)) (any_has (λ w. same w.at v.at) sides v h (itself v.at))

  -- so a tree whose leaves are among the variables keeps its value
  pub filled_tree : (tree : Tree L) → ((v : Variable L) → HasLeaf v tree → Contains sides v) → tree_value (filled same sides meeting x) tree ≡ tree_value x tree
  filled_tree tree leaves = tree_same (filled same sides meeting x) x tree (λ v leaf. filled_at v (leaves v leaf))

  -- each place meets the assumption: by the query's care where it has a variable, else by the meeting row
  pub filled_meets : (c : Assumption) (count : ℕ) → IsMeetingRow c count meeting → ((v : Variable L) → Contains sides v → RowMeets c (λ i. x i v.at)) → (at : L) → RowMeets c (λ i. filled same sides meeting x i at)
  filled_meets c count is care at = go (list_any (λ w. same w.at at) sides) refl
    where
      go : (b : Bool) → list_any (λ w. same w.at at) sides ≡ b → RowMeets c (λ i. filled same sides meeting x i at)
      go true e =
          let f = any_true (λ (w : Variable L). same w.at at) sides e in
          row_same c (λ i. x i f.0.at) (λ i. filled same sides meeting x i at) (λ p i h. ap (x i) (sound f.0.at at f.2) ∙ ap (λ b. cond b (x i at) (meeting i)) (sym e)) (care f.0 f.1)
      go false e = row_same c meeting (λ i. filled same sides meeting x i at) (λ p i h. ap (λ b. cond b (x i at) (meeting i)) (sym e)) is.meets

  -- and no input above the count is 1
  pub filled_above : (c : Assumption) (count : ℕ) → IsMeetingRow c count meeting → (i : ℕ) (at : L) → count ≤ i → x i at ≡ false → filled same sides meeting x i at ≡ false
  filled_above c count is i at h none = go (list_any (λ w. same w.at at) sides) refl
    where
      go : (b : Bool) → list_any (λ w. same w.at at) sides ≡ b → filled same sides meeting x i at ≡ false
      go true e = ap (λ b. cond b (x i at) (meeting i)) e ∙ none
      go false e = ap (λ b. cond b (x i at) (meeting i)) e ∙ is.above i h

pub shift_itself : (k : ℕ) → same_shift k k ≡ true
shift_itself k = test_refl k

-- the leaves of both sides are their variables
pub left_leaves : {L : Type 0} {before : Variable L → Variable L → Type 0} {l r : Tree L} {sides : List (Variable L)} → AreVariables before (l ∷ r ∷ []) sides → (v : Variable L) → HasLeaf v l → Contains sides v
left_leaves {l = l} {r = r} are v stands = (are.exactly v).1 (l, Contains-head l (r ∷ []), stands)

pub right_leaves : {L : Type 0} {before : Variable L → Variable L → Type 0} {l r : Tree L} {sides : List (Variable L)} → AreVariables before (l ∷ r ∷ []) sides → (v : Variable L) → HasLeaf v r → Contains sides v
right_leaves {l = l} {r = r} are v stands = (are.exactly v).1 (r, Contains-tail l r (r ∷ []) (Contains-head r []), stands)

-- and where a place has one, the assignment of a difference meets the assumption
pub difference_cares : {before : Variable ℕ → Variable ℕ → Type 0} (c : Assumption) (l r : Tree ℕ) (sides variables : List (Variable ℕ)) (bits : List Bool) → IsDifferenceUnder before c l r sides variables bits →
    (v : Variable ℕ) → Contains sides v → RowMeets c (λ i. assigned same_shift variables bits i v.at)
difference_cares {before} c l r sides variables bits d v h =
    let f = (d.are_sides.exactly v).0 h in (d.asks.care_is (assigned same_shift variables bits)).0 d.distinguishes.care v.at (f.0, v.input, f.1, f.2)

-- no variable is of an input above the count
pub below_count : {L : Type 0} (same : L → L → Bool) (variables : List (Variable L)) (bits : List Bool) (count i : ℕ) (at : L) → All (λ x. x.input < count) variables → count ≤ i → assigned same variables bits i at ≡ false
below_count same variables bits count i at all h = assigned_absent same variables bits i at (λ v k e. let low = All-contains (λ y. y.input < count) variables v all k in omega (arith, low, e))

-- the rows of an assignment of which each place meets the assumption meet it
pub sequence_meets : (c : Assumption) (last : ℕ) (y : ℕ → ℕ → Bool) (count : ℕ) → ((i k : ℕ) → count ≤ i → y i k ≡ false) → ((k : ℕ) → RowMeets c (λ i. y i k)) → RowsMeet c (sequence_rows last y count) last
sequence_meets c last y count none meets cycle le =
    row_same c (λ i. y i (last - cycle)) (λ i. row_value (sequence_rows last y count) i cycle)
    (λ p i h. sym (row_value-is last y count i (last - cycle) (omega arith) (none i (last - cycle))) ∙ ap (row_value (sequence_rows last y count) i) (let e : last - (last - cycle) ≡ cycle = omega arith in e))
    (meets (last - cycle))

pub witness_makes_differ_under : WitnessMakesDifferUnder
witness_makes_differ_under c a b left right p q count meeting rows last l r w = (
  record {
    cycles = ap length w.rows_are ∙ (rows_length last y count 0 (suc last) ∙ (let e : suc last ≡ last + 1 = omega arith in e));
    left_is = λ n run is_run h takes. window a left p w.left_depth w.left_tree w.left_unfolds y count last (deep_left w.left_depth w.right_depth last w.last_is) none n run is_run h
        (subst (λ (rs : List (List Bool)). TakesInputs a left (row_value rs) (last + 1) run) w.rows_are takes) ∙ (filled_tree same_shift test_same shift_itself w.sides meeting x w.left_tree (left_leaves w.difference.are_sides) ∙ sym w.left_value);
    right_is = λ n run is_run h takes. window b right q w.right_depth w.right_tree w.right_unfolds y count last (deep_right w.left_depth w.right_depth last w.last_is) none n run is_run h
        (subst (λ (rs : List (List Bool)). TakesInputs b right (row_value rs) (last + 1) run) w.rows_are takes) ∙ (filled_tree same_shift test_same shift_itself w.sides meeting x w.right_tree (right_leaves w.difference.are_sides) ∙ sym w.right_value);
    differ = λ e. w.difference.distinguishes.differs (w.difference.asks.left_is x ∙ (sym w.left_value ∙ (e ∙ (w.right_value ∙ sym (w.difference.asks.right_is x)))));
  },
  subst (λ (rs : List (List Bool)). RowsMeet c rs last) (sym w.rows_are)
      (sequence_meets c last y count none (filled_meets same_shift test_same shift_itself w.sides meeting x c count w.meeting_is (difference_cares c w.left_tree w.right_tree w.sides w.variables w.bits w.difference))),
)
  where
    x : ℕ → ℕ → Bool
    x = assigned same_shift w.variables w.bits

    y : ℕ → ℕ → Bool
    y = filled same_shift w.sides meeting (assigned same_shift w.variables w.bits)

    none : (i k : ℕ) → count ≤ i → filled same_shift w.sides meeting (assigned same_shift w.variables w.bits) i k ≡ false
    none i k h = filled_above same_shift test_same shift_itself w.sides meeting x c count w.meeting_is i k h (below_count same_shift w.variables w.bits count i k w.inputs h)

    deep_left : (d e m : ℕ) → m ≡ max d e → d ≤ m
    deep_left d e m h = omega (arith, h)

    deep_right : (d e m : ℕ) → m ≡ max d e → e ≤ m
    deep_right d e m h = omega (arith, h)

pub event_difference_is_witness_under : EventDifferenceIsWitnessUnder
event_difference_is_witness_under c s p q count d e query sides variables bits meeting difference inputs is left_depth right_depth left_always right_always = (
  record {
    left_depth = d;
    right_depth = e;
    left_tree = difference.asks.left_tree;
    right_tree = difference.asks.right_tree;
    left_is = left_depth;
    right_is = right_depth;
    left_unfolds = difference.asks.left_unfolds;
    right_unfolds = difference.asks.right_unfolds;
    left_always = left_always;
    right_always = right_always;
    last_is = refl;
    bits = filled_frame sides variables meeting bits;
    above = λ i k h. none i k h;
    rows_are = refl;
    left_value = difference.asks.left x
        ∙ sym (filled_tree same_name same_name-sound same_name-refl sides meeting x difference.asks.left_tree (λ v leaf. (difference.are_sides.exactly v).1 (difference.asks.left_tree, inl difference.asks.left_unfolds, leaf)));
    right_value = difference.asks.right x
        ∙ sym (filled_tree same_name same_name-sound same_name-refl sides meeting x difference.asks.right_tree (λ v leaf. (difference.are_sides.exactly v).1 (difference.asks.right_tree, inr difference.asks.right_unfolds, leaf)));
    differ = difference.distinguishes.differs;
  },
  sequence_meets c (max d e) (bits_as_shifts (filled_frame sides variables meeting bits)) count none
      (λ k. filled_meets same_name same_name-sound same_name-refl sides meeting x c count is care (always_node k)),
)
  where
    x : ℕ → List ℕ → Bool
    x = frame_of variables bits

    none : (i k : ℕ) → count ≤ i → bits_as_shifts (filled_frame sides variables meeting bits) i k ≡ false
    none i k h = filled_above same_name same_name-sound same_name-refl sides meeting x c count is i (always_node k) h (below_count same_name variables bits count i (always_node k) inputs h)

    care : (v : Variable (List ℕ)) → Contains sides v → RowMeets c (λ i. frame_of variables bits i v.at)
    care v h =
        let f = (difference.are_sides.exactly v).0 h in
        ((difference.asks.care x).0 difference.distinguishes.care).1 v.at (f.0, v.input, inl f.1, f.2)
