-- The runs that meet an assumption, by what the queries of cycles say of their pairs.
use Rattle.std.proofs.Common.{◌≡◌, ℕ, suc, ◌+◌, ◌-◌, ◌<◌, ◌≤◌, Bool, false, List, [], ◌∷◌, length, sym, ◌∙◌, ap, subst, arith, inl, inr, ◌⊎◌}
use Rattle.std.specs.List.{Contains}
use Rattle.circuit_theory.specs.Cone.{latches_of}
use Rattle.circuit_theory.specs.Query.{Variable, HasLeaf, assigned, same_shift}
use Rattle.circuit_theory.specs.Sequence.{row_value, TakesInputs}
use Rattle.circuit_theory.specs.Tree.{Tree}
use Rattle.circuit_laws.proofs.Windows.{rows_length}
use Rattle.circuit_laws.proofs.reset_laws.ResetAgreement.{reset_pair_agrees, reset_same_at}
use Rattle.circuit_laws.proofs.reset_laws.ResetWindows.{assigned_absent, powers_at, powers_length, powered_is_reset, reset_window_by, reset_rows-is}
use Rattle.circuit_laws.specs.reset_laws.Reset.{MakesDifferFromReset, TakesPower, powers, reset_rows}
use Rattle.assume_laws.specs.Assume.{RowMeets}
use Rattle.assume_laws.specs.Sequences.{RowsMeet}
use Rattle.assume_laws.proofs.Care.{run_holds}
use Rattle.assume_laws.proofs.Meeting.{leaf_input}
use Rattle.cycle_under.specs.First.{MeetsFirst, IsWantedFirst, IsWitnessFirst}
use Rattle.cycle_under.specs.Laws.{EqualUpToAgreeUnder, EqualToDepthsAgreeUnder, WitnessDiffersUnder}

pub equal_up_to_agree_under : EqualUpToAgreeUnder
equal_up_to_agree_under c a b left right left_base right_base last numbered based reads equal n l r alike meets t p q h le pair =
    let e = equal p q t pair le in
    reset_same_at a b left right left_base right_base numbered based l r n alike (RowMeets c) (run_holds c a left reads n l meets) p q t e.left_tree e.right_tree h e.left_unfolds e.right_unfolds (λ x all. e.same x (tt, λ k low. all k))

pub equal_to_depths_agree_under : EqualToDepthsAgreeUnder
equal_to_depths_agree_under c a b m n left right left_base right_base last na nb sa sb numbered based reads deep equal size l r alike meets t p q h pair =
    let d = deep p q pair in
    reset_pair_agrees (RowMeets c) a b m n left right left_base right_base na nb sa sb numbered based size l r alike (run_holds c a left reads size l meets) p q d.0 d.1
    (λ s le.
    let x = equal p q s pair (let low = d.2 in omega (arith, le, low)) in
    record { left_tree = x.left_tree; right_tree = x.right_tree; left_unfolds = x.left_unfolds; right_unfolds = x.right_unfolds; same = λ y all. x.same y (tt, λ k low. all k) }) t h

pub witness_differs_under : WitnessDiffersUnder
witness_differs_under c a b left right left_base right_base p q count rows left_power right_power last l r sa sb based own_low w = (differs, meets)
  where
    x : ℕ → ℕ → Bool
    x = assigned same_shift w.variables w.bits

    care : MeetsFirst c (last + 1) (assigned same_shift w.variables w.bits)
    care = ((w.difference.care_is (assigned same_shift w.variables w.bits)).0 w.difference.distinguishes.care).1

    -- an input that isn't printed is 0
    none : (i k : ℕ) → i < left_base → count ≤ i → assigned same_shift w.variables w.bits i k ≡ false
    none i k low above = assigned_absent same_shift w.variables w.bits i k (λ v h e. let f = (w.difference.are_variables.exactly v).0 h in go v e f.0 f.1 f.2)
      where
        of_sides : (v : Variable ℕ) → v.input ≡ i → (v.input < count) ⊎ (left_base ≤ v.input) → ⊥
        of_sides v e (inl y) = omega (arith, y, e, above)
        of_sides v e (inr y) = omega (arith, y, e, low)

        go : (v : Variable ℕ) → v.input ≡ i → (tree : Tree ℕ) → IsWantedFirst c (last + 1) (Contains (w.left_tree ∷ w.right_tree ∷ [])) tree → HasLeaf v tree → ⊥
        go v e tree (inl m) leaf = of_sides v e (w.inputs tree v m leaf)
        go v e tree (inr m) leaf = let n = leaf_input c.circuit c.order m.0 v m.2 leaf in let y = own_low n.0 v.input n.1 in omega (arith, y, e, above)

    differs : MakesDifferFromReset a b left right p q rows left_power right_power last l r
    differs = record {
      cycles = ap length w.rows_are ∙ (rows_length last (λ i k. x i (last - k)) count 0 (suc last) ∙ (let e : suc last ≡ last + 1 = omega arith in e));
      left_each = ap length w.left_power_is ∙ powers_length a.starts x left_base (latches_of a);
      right_each = ap length w.right_power_is ∙ powers_length b.starts x right_base (latches_of b);
      left_reset = λ n run is_run takes. powered_is_reset a left left_base sa x n run is_run (subst (λ (ps : List Bool). TakesPower a ps run) w.left_power_is takes);
      right_reset = λ n run is_run takes. powered_is_reset b right right_base sb x n run is_run (subst (λ (ps : List Bool). TakesPower b ps run) w.right_power_is takes);
      left_is = λ n run is_run powered h takes.
          let takes_power = subst (λ (ps : List Bool). TakesPower a ps run) w.left_power_is powered in
          reset_window_by a left left_base sa x p last w.left_tree w.left_unfolds (reset_rows last x count) (powers a left_base x)
          (λ y i k m le. reset_rows-is last x count i k le (λ above s. none i s (based.left_inputs y i m) above)) (λ j u at. powers_at a.starts x left_base (latches_of a) j u at)
          n run (powered_is_reset a left left_base sa x n run is_run takes_power) takes_power h (subst (λ (rs : List (List Bool)). TakesInputs a left (row_value rs) (last + 1) run) w.rows_are takes) ∙ sym w.left_value;
      right_is = λ n run is_run powered h takes.
          let takes_power = subst (λ (ps : List Bool). TakesPower b ps run) w.right_power_is powered in
          reset_window_by b right right_base sb x q last w.right_tree w.right_unfolds (reset_rows last x count) (powers b right_base x)
          (λ y i k m le. reset_rows-is last x count i k le (λ above s. none i s (based.right_inputs y i m) above)) (λ j u at. powers_at b.starts x right_base (latches_of b) j u at)
          n run (powered_is_reset b right right_base sb x n run is_run takes_power) takes_power h (subst (λ (rs : List (List Bool)). TakesInputs b right (row_value rs) (last + 1) run) w.rows_are takes) ∙ sym w.right_value;
      differ = λ e. w.difference.distinguishes.differs (w.difference.left_is x ∙ (sym w.left_value ∙ (e ∙ (w.right_value ∙ sym (w.difference.right_is x)))));
    }

    at_row : (i k : ℕ) → i < count → k ≤ last → row_value rows i k ≡ assigned same_shift w.variables w.bits i k
    at_row i k low le =
        ap (λ (z : List (List Bool)). row_value z i k) w.rows_are ∙ reset_rows-is last (assigned same_shift w.variables w.bits) count i k le (λ above s. absurd (omega (arith, above, low)))

    meets : RowsMeet c rows last
    meets k le v values inputs = care k (omega (arith, le)) v values (λ y i number. inputs y i number ∙ at_row i k (own_low y i number) le)
