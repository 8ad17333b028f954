-- The sequence of an assignment gives each place, in every run and in the last cycle, the value of its tree under the assignment.
use Rattle.std.proofs.Common.{◌≡◌, ℕ, zero, suc, ◌+◌, ◌-◌, ◌<◌, ◌≤◌, max, Bool, true, false, cond, List, [], ◌∷◌, length, refl, sym, ◌∙◌, ap, subst, arith, inl, inr, nat_le}
use Rattle.std.specs.Prelude.{◌⊎◌, ◌&&◌, ◌==◌, slice_index_or}
use Rattle.std.specs.List.{All}
use Rattle.std.proofs.lemmas.List.Elements.{All-head, All-tail}
use Rattle.circuit_theory.specs.Circuit.{Circuit}
use Rattle.circuit_theory.specs.Run.{IsRun}
use Rattle.circuit_theory.specs.Tree.{Tree, Unfolds, tree_value}
use Rattle.circuit_theory.specs.Query.{Variable, assigned, same_shift}
use Rattle.circuit_theory.specs.Sequence.{sequence_value, sequence_row, sequence_rows_from, sequence_rows, row_value, TakesInputs}
use Rattle.circuit_theory.specs.Fits.{IsWitness, MakesDiffer}
use Rattle.circuit_theory.proofs.Inputs.{test_same}
use Rattle.circuit_laws.proofs.Values.{tree_is_run}

row_at : (last : ℕ) (a : ℕ → ℕ → Bool) (cycle input count i : ℕ) → i < count → slice_index_or (sequence_row last a cycle input count) i false ≡ sequence_value last a (input + i) cycle
row_at last a cycle input zero i h = absurd (omega arith)
row_at last a cycle input (suc count) zero h = ap (λ k. sequence_value last a k cycle) (let e : input ≡ input + 0 = omega arith in e)
row_at last a cycle input (suc count) (suc i) h =
    row_at last a cycle (suc input) count i (omega arith) ∙ ap (λ k. sequence_value last a k cycle) (let e : suc input + i ≡ input + suc i = omega arith in e)

past_row : (last : ℕ) (a : ℕ → ℕ → Bool) (cycle input count i : ℕ) → count ≤ i → slice_index_or (sequence_row last a cycle input count) i false ≡ false
past_row last a cycle input zero i h = nothing i
  where
    nothing : (i : ℕ) → slice_index_or [] i false ≡ false
    nothing zero = refl
    nothing (suc i) = refl
past_row last a cycle input (suc count) zero h = absurd (omega arith)
past_row last a cycle input (suc count) (suc i) h = past_row last a cycle (suc input) count i (omega arith)

rows_at : (last : ℕ) (a : ℕ → ℕ → Bool) (count cycle cycles t : ℕ) → t < cycles → slice_index_or (sequence_rows_from last a count cycle cycles) t [] ≡ sequence_row last a (cycle + t) 0 count
rows_at last a count cycle zero t h = absurd (omega arith)
rows_at last a count cycle (suc cycles) zero h = ap (λ k. sequence_row last a k 0 count) (let e : cycle ≡ cycle + 0 = omega arith in e)
rows_at last a count cycle (suc cycles) (suc t) h =
    rows_at last a count (suc cycle) cycles t (omega arith) ∙ ap (λ k. sequence_row last a k 0 count) (let e : suc cycle + t ≡ cycle + suc t = omega arith in e)

pub rows_length : (last : ℕ) (a : ℕ → ℕ → Bool) (count cycle cycles : ℕ) → length (sequence_rows_from last a count cycle cycles) ≡ cycles
rows_length last a count cycle zero = refl
rows_length last a count cycle (suc cycles) = ap suc (rows_length last a count (suc cycle) cycles)

le_true : (m n : ℕ) → m ≤ n → nat_le m n ≡ true
le_true m n h = grind arith

-- the rows give back what the assignment has for each input and each cycle up to the last
pub row_value-is : (last : ℕ) (a : ℕ → ℕ → Bool) (count i k : ℕ) → k ≤ last → (count ≤ i → a i k ≡ false) → row_value (sequence_rows last a count) i (last - k) ≡ a i k
row_value-is last a count i k h none =
    ap (λ row. slice_index_or row i false) (rows_at last a count 0 (suc last) (last - k) (omega arith) ∙ ap (λ t. sequence_row last a t 0 count) (let e : 0 + (last - k) ≡ last - k = omega arith in e))
    ∙ go (which i count)
  where
    which : (m n : ℕ) → (m < n) ⊎ (n ≤ m)
    which m n = grind arith

    value : sequence_value last a i (last - k) ≡ a i k
    value = ap (λ b. cond b (a i (last - (last - k))) false) (le_true (last - k) last (omega arith)) ∙ ap (a i) (let e : last - (last - k) ≡ k = omega arith in e)

    go : (i < count) ⊎ (count ≤ i) → slice_index_or (sequence_row last a (last - k) 0 count) i false ≡ a i k
    go (inl l) = row_at last a (last - k) 0 count i l ∙ (ap (λ m. sequence_value last a m (last - k)) (let e : 0 + i ≡ i = omega arith in e) ∙ value)
    go (inr l) = past_row last a (last - k) 0 count i l ∙ sym (none l)

-- an input above all variables has 0
pub assigned_above : (variables : List (Variable ℕ)) (bits : List Bool) (count i k : ℕ) → All (λ x. x.input < count) variables → count ≤ i → assigned same_shift variables bits i k ≡ false
assigned_above [] bits count i k all h = refl
assigned_above (x ∷ xs) [] count i k all h = refl
assigned_above (x ∷ xs) (b ∷ bits) count i k all h =
    go (x.input == i) refl (assigned_above xs bits count i k (All-tail (λ y. y.input < count) x xs all) h)
  where
    low : x.input < count
    low = All-head (λ y. y.input < count) x xs all

    go : (t : Bool) → (x.input == i) ≡ t → assigned same_shift xs bits i k ≡ false → assigned same_shift (x ∷ xs) (b ∷ bits) i k ≡ false
    go true e rest = absurd (let same = test_same x.input i e in omega (arith, low))
    go false e rest = ap (λ t. cond (t && same_shift x.at k) b (assigned same_shift xs bits i k)) e ∙ rest

-- the window of a tree: in a run over the sequence of an assignment the place has in the last cycle the tree's value
pub window : {P : Type 0} (c : Circuit P) (order : List ℕ) (p : P) (d : ℕ) (tree : Tree ℕ) → Unfolds c order p 0 d tree → (a : ℕ → ℕ → Bool) (count last : ℕ) → d ≤ last →
    ((i k : ℕ) → count ≤ i → a i k ≡ false) → (n : ℕ) (run : ℕ → P → Bool) → IsRun c n run → last < n → TakesInputs c order (row_value (sequence_rows last a count)) (last + 1) run →
    run last p ≡ tree_value a tree
window {P} c order p d tree unfolds a count last deep none n run is_run h takes =
    sym (tree_is_run c order n run is_run last h a (λ q i k m l. sym (takes (last - k) q i (omega arith) m ∙ row_value-is last a count i k l (none i k))) unfolds (omega arith)
    ∙ ap (λ t. run t p) (let e : last - 0 ≡ last = omega arith in e))

-- so a witness makes its pair differ in all runs
pub witness_makes_differ : {P Q : Type 0} (a : Circuit P) (b : Circuit Q) (left right : List ℕ) (p : P) (q : Q) (count : ℕ) (rows : List (List Bool)) (last : ℕ) (l r : Bool) →
    IsWitness a b left right p q count rows last l r → MakesDiffer a b left right p q rows last l r
witness_makes_differ {P} {Q} a b left right p q count rows last l r w = record {
  cycles = ap length w.rows_are ∙ (rows_length last x count 0 (suc last) ∙ (let e : suc last ≡ last + 1 = omega arith in e));
  left_is = λ n run is_run h takes. window a left p w.left_depth w.left_tree w.left_unfolds x count last (deep_left w.left_depth w.right_depth last w.last_is) none n run is_run h
      (subst (λ (rs : List (List Bool)). TakesInputs a left (row_value rs) (last + 1) run) w.rows_are takes) ∙ sym w.left_value;
  right_is = λ n run is_run h takes. window b right q w.right_depth w.right_tree w.right_unfolds x count last (deep_right w.left_depth w.right_depth last w.last_is) none n run is_run h
      (subst (λ (rs : List (List Bool)). TakesInputs b right (row_value rs) (last + 1) run) w.rows_are takes) ∙ sym w.right_value;
  differ = λ e. w.distinguishes.differs (sym w.left_value ∙ (e ∙ w.right_value));
}
  where
    x : ℕ → ℕ → Bool
    x = assigned same_shift w.variables w.bits

    none : (i k : ℕ) → count ≤ i → x i k ≡ false
    none i k h = assigned_above w.variables w.bits count i k w.inputs h

    deep_left : (d e m : ℕ) → m ≡ max d e → d ≤ m
    deep_left d e m h = omega (arith, h)

    deep_right : (d e m : ℕ) → m ≡ max d e → e ≤ m
    deep_right d e m h = omega (arith, h)
