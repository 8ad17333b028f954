-- The sequence and the power-ups of a difference in the reset form under an assumption.
use Rattle.std.proofs.Common.{◌≡◌, ℕ, suc, ◌+◌, ◌-◌, ◌<◌, ◌≤◌, Bool, false, cond, List, length, sym, ◌∙◌, ap, subst, arith, inl, inr, nat_lt}
use Rattle.std.specs.Prelude.{◌⊎◌}
use Rattle.std.specs.List.{Contains}
use Rattle.std.proofs.lemmas.List.Elements.{All-contains}
use Rattle.circuit_theory.specs.Cone.{latches_of}
use Rattle.circuit_theory.specs.Tree.{Tree, tree_value}
use Rattle.circuit_theory.specs.Query.{Variable, HasLeaf, same_shift, assigned}
use Rattle.circuit_theory.specs.Sequence.{row_value, TakesInputs}
use Rattle.circuit_theory.proofs.Inputs.{test_same}
use Rattle.circuit_laws.proofs.Windows.{rows_length}
use Rattle.circuit_laws.proofs.event_laws.EventVariables.{tree_same}
use Rattle.circuit_laws.specs.reset_laws.Reset.{reset_rows, powers, start_at, power_of, TakesPower}
use Rattle.circuit_laws.proofs.reset_laws.ResetAgreement.{lt_true, lt_false}
use Rattle.circuit_laws.proofs.reset_laws.ResetWindows.{assigned_absent, powers_at, powers_length, powered_is_reset, reset_window_by, reset_rows-is}
use Rattle.assume_laws.specs.Sequences.{RowsMeet, filled}
use Rattle.assume_laws.specs.Laws.{ResetWitnessMakesDifferUnder}
use Rattle.assume_laws.proofs.Care.{row_same}
use Rattle.assume_laws.proofs.Filled.{filled_at, filled_meets, filled_above, shift_itself, left_leaves, right_leaves, difference_cares}

pub reset_witness_makes_differ_under : ResetWitnessMakesDifferUnder
reset_witness_makes_differ_under c a b left right left_base right_base p q count meeting rows left_power right_power last l r sa sb based reads w = (
  record {
    cycles = ap length w.rows_are ∙ (rows_length last (λ i k. y i (last - k)) count 0 (suc last) ∙ (let e : suc last ≡ last + 1 = omega arith in e));
    left_each = ap length w.left_power_is ∙ powers_length a.starts x left_base (latches_of a);
    right_each = ap length w.right_power_is ∙ powers_length b.starts x right_base (latches_of b);
    left_reset = λ n run is_run takes. powered_is_reset a left left_base sa x n run is_run (subst (λ (ps : List Bool). TakesPower a ps run) w.left_power_is takes);
    right_reset = λ n run is_run takes. powered_is_reset b right right_base sb x n run is_run (subst (λ (ps : List Bool). TakesPower b ps run) w.right_power_is takes);
    left_is = λ n run is_run powered h takes.
        let takes_power = subst (λ (ps : List Bool). TakesPower a ps run) w.left_power_is powered in
        reset_window_by a left left_base sa z p last w.left_tree w.left_unfolds (reset_rows last y count) (powers a left_base x)
        (λ s i k m le. rows_at i k (based.left_inputs s i m) le ∙ sym (low i k (based.left_inputs s i m)))
        (λ j u at. powers_at a.starts x left_base (latches_of a) j u at ∙ ap (power_of (start_at a.starts u)) (sym (high (left_base + j) 0 (omega arith))))
        n run (powered_is_reset a left left_base sa x n run is_run takes_power) takes_power h (subst (λ (rs : List (List Bool)). TakesInputs a left (row_value rs) (last + 1) run) w.rows_are takes)
        ∙ (same w.left_tree (left_leaves w.difference.are_sides) ∙ sym w.left_value);
    right_is = λ n run is_run powered h takes.
        let takes_power = subst (λ (ps : List Bool). TakesPower b ps run) w.right_power_is powered in
        reset_window_by b right right_base sb z q last w.right_tree w.right_unfolds (reset_rows last y count) (powers b right_base x)
        (λ s i k m le. rows_at i k (based.right_inputs s i m) le ∙ sym (low i k (based.right_inputs s i m)))
        (λ j u at. powers_at b.starts x right_base (latches_of b) j u at ∙ ap (power_of (start_at b.starts u)) (sym (high (right_base + j) 0 (omega (arith, based.latches)))))
        n run (powered_is_reset b right right_base sb x n run is_run takes_power) takes_power h (subst (λ (rs : List (List Bool)). TakesInputs b right (row_value rs) (last + 1) run) w.rows_are takes)
        ∙ (same w.right_tree (right_leaves w.difference.are_sides) ∙ sym w.right_value);
    differ = λ e. w.difference.distinguishes.differs (w.difference.asks.left_is x ∙ (sym w.left_value ∙ (e ∙ (w.right_value ∙ sym (w.difference.asks.right_is x)))));
  },
  subst (λ (rs : List (List Bool)). RowsMeet c rs last) (sym w.rows_are) (λ cycle le.
      row_same c (λ i. y i cycle) (λ i. row_value (reset_rows last y count) i cycle) (λ s i number. let f = reads.found s i number in sym (rows_at i cycle (based.left_inputs f.1 i f.4) le))
      (filled_meets same_shift test_same shift_itself w.sides meeting x c count w.meeting_is (difference_cares c w.left_tree w.right_tree w.sides w.variables w.bits w.difference) cycle)),
)
  where
    x : ℕ → ℕ → Bool
    x = assigned same_shift w.variables w.bits

    y : ℕ → ℕ → Bool
    y = filled same_shift w.sides meeting (assigned same_shift w.variables w.bits)

    -- inputs as in the rows, and the variables of latches
    z : ℕ → ℕ → Bool
    z i k = cond (nat_lt i left_base) (filled same_shift w.sides meeting (assigned same_shift w.variables w.bits) i k) (assigned same_shift w.variables w.bits i k)

    low : (i k : ℕ) → i < left_base → z i k ≡ y i k
    low i k h = ap (λ t. cond t (y i k) (x i k)) (lt_true i left_base h)

    high : (i k : ℕ) → left_base ≤ i → z i k ≡ x i k
    high i k h = ap (λ t. cond t (y i k) (x i k)) (lt_false i left_base h)

    none : (i k : ℕ) → i < left_base → count ≤ i → y i k ≡ false
    none i k small h =
        filled_above same_shift test_same shift_itself w.sides meeting x c count w.meeting_is i k h
        (assigned_absent same_shift w.variables w.bits i k (λ v there e. go v e (All-contains (λ u. (u.input < count) ⊎ (left_base ≤ u.input)) w.variables v w.inputs there)))
      where
        go : (v : Variable ℕ) → v.input ≡ i → (v.input < count) ⊎ (left_base ≤ v.input) → ⊥
        go v e (inl k) = omega arith
        go v e (inr k) = omega arith

    rows_at : (i k : ℕ) → i < left_base → k ≤ last → row_value (reset_rows last y count) i k ≡ y i k
    rows_at i k small le = reset_rows-is last y count i k le (λ above s. none i s small above)

    same : (tree : Tree ℕ) → ((v : Variable ℕ) → HasLeaf v tree → Contains w.sides v) → tree_value z tree ≡ tree_value x tree
    same tree leaves = tree_same z x tree (λ v leaf'. go v (leaves v leaf') (which v.input left_base))
      where
        which : (i j : ℕ) → (i < j) ⊎ (j ≤ i)
        which i j = grind arith

        go : (v : Variable ℕ) → Contains w.sides v → (v.input < left_base) ⊎ (left_base ≤ v.input) → z v.input v.at ≡ x v.input v.at
        go v there (inl small) = low v.input v.at small ∙ filled_at same_shift test_same shift_itself w.sides meeting x v there
        go v there (inr large) = high v.input v.at large
