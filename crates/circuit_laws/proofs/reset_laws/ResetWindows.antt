-- The rows and the power-up of an assignment give a place, in every run that begins so and in the last cycle, the value of its tree.
use Rattle.std.proofs.Common.{◌≡◌, ℕ, zero, suc, ◌+◌, ◌-◌, ◌<◌, ◌≤◌, Bool, true, false, cond, List, [], ◌∷◌, length, refl, sym, ◌∙◌, ap, subst, arith, inl, inr, Some, None, slice_get}
use Rattle.std.specs.Prelude.{◌⊎◌, ◌&&◌, ◌==◌, slice_index_or}
use Rattle.std.specs.List.{Contains}
use Rattle.std.proofs.lemmas.List.Elements.{All-contains}
use Rattle.std.proofs.lemmas.Option.{slice_get_within}
use Rattle.circuit_theory.specs.Circuit.{Circuit, Started}
use Rattle.circuit_theory.specs.Cone.{latches_of}
use Rattle.circuit_theory.specs.Run.{IsRun, IsResetRun}
use Rattle.circuit_theory.specs.Tree.{Tree, IsInputNumber, tree_value}
use Rattle.circuit_theory.specs.Query.{Variable, assigned, same_shift}
use Rattle.circuit_theory.specs.Sequence.{row_value, TakesInputs}
use Rattle.circuit_theory.proofs.Inputs.{test_same}
use Rattle.circuit_theory.proofs.Lists.{Contains-head, Contains-tail}
use Rattle.circuit_laws.proofs.Windows.{rows_length, row_value-is}
use Rattle.circuit_laws.specs.reset_laws.Reset.{ResetUnfolds, HasStarts, reset_rows, start_at, power_of, powers_from, powers, TakesPower}
use Rattle.circuit_laws.specs.reset_laws.Laws.{ResetWitnessMakesDiffer}
use Rattle.circuit_laws.proofs.reset_laws.ResetTrees.{reset_tree_is_run}
use Rattle.circuit_laws.proofs.reset_laws.ResetAgreement.{latch_listed, power_is}

pub powers_at : (starts : List (Started ℕ)) (x : ℕ → ℕ → Bool) (number : ℕ) (us : List ℕ) (j u : ℕ) → slice_get us j ≡ Some u →
    slice_index_or (powers_from starts x number us) j false ≡ power_of (start_at starts u) (x (number + j) 0)
powers_at starts x number [] j u h = absurd (let k = slice_get_within [] j u h in omega arith)
powers_at starts x number (v ∷ us) zero u h =
    ap (λ w. power_of (start_at starts w) (x number 0)) (unwrap h) ∙ ap (λ k. power_of (start_at starts u) (x k 0)) (let e : number ≡ number + 0 = omega arith in e)
  where
    unwrap : Some v ≡ Some u → v ≡ u
    unwrap q = cc
powers_at starts x number (v ∷ us) (suc j) u h =
    powers_at starts x (suc number) us j u h ∙ ap (λ k. power_of (start_at starts u) (x k 0)) (let e : suc number + j ≡ number + suc j = omega arith in e)

pub powers_length : (starts : List (Started ℕ)) (x : ℕ → ℕ → Bool) (number : ℕ) (us : List ℕ) → length (powers_from starts x number us) ≡ length us
powers_length starts x number [] = refl
powers_length starts x number (u ∷ us) = ap suc (powers_length starts x (suc number) us)

pub start_none : (starts : List (Started ℕ)) (u : ℕ) → ((bit : Bool) → Contains starts (record { place = u; bit = bit }) → ⊥) → start_at starts u ≡ None
start_none [] u none = refl
start_none (s ∷ starts) u none = go (s.place == u) refl (start_none starts u (λ bit h. none bit (Contains-tail s _ starts h)))
  where
    go : (t : Bool) → (s.place == u) ≡ t → start_at starts u ≡ None → start_at (s ∷ starts) u ≡ None
    go true e rest = absurd (none s.bit (subst (λ (p : ℕ). Contains (s ∷ starts) (record { place = p; bit = s.bit })) (test_same s.place u e) (Contains-head s starts)))
    go false e rest = ap (λ t. cond t (Some s.bit) (start_at starts u)) e ∙ rest

-- an input that no variable is of has 0
pub assigned_absent : {L : Type 0} (same : L → L → Bool) (variables : List (Variable L)) (bits : List Bool) (i : ℕ) (k : L) → ((x : Variable L) → Contains variables x → x.input ≡ i → ⊥) →
    assigned same variables bits i k ≡ false
assigned_absent same [] bits i k none = refl
assigned_absent same (x ∷ xs) [] i k none = refl
assigned_absent same (x ∷ xs) (b ∷ bits) i k none = go (x.input == i) refl (assigned_absent same xs bits i k (λ y h. none y (Contains-tail x y xs h)))
  where
    go : (t : Bool) → (x.input == i) ≡ t → assigned same xs bits i k ≡ false → assigned same (x ∷ xs) (b ∷ bits) i k ≡ false
    go true e rest = absurd (none x (Contains-head x xs) (test_same x.input i e))
    go false e rest = ap (λ t. cond (t && same x.at k) b (assigned same xs bits i k)) e ∙ rest

module _ (c : Circuit ℕ) (order : List ℕ) (base : ℕ) (starts : HasStarts c) (x : ℕ → ℕ → Bool) where
  -- a run that begins so is a reset run
  pub powered_is_reset : (n : ℕ) (run : ℕ → ℕ → Bool) → IsRun c n run → TakesPower c (powers c base x) run → IsResetRun c n run
  powered_is_reset n run is_run takes = record {
    is_run = is_run;
    starts = λ u bit h.
        let l = starts.of_latches u bit h in
        let at = latch_listed c.equations l.0 u l.1 l.2 in
        takes at.0 u at.1 ∙ (powers_at c.starts x base (latches_of c) at.0 u at.1 ∙ power_is c starts u bit (x (base + at.0) 0) h);
  }

  -- in a run over rows and power-ups that hold the assignment the place has its tree's value in the last cycle
  pub reset_window_by : (p last : ℕ) (tree : Tree ℕ) → ResetUnfolds c order base p last tree → (rows : List (List Bool)) (power : List Bool) →
      ((q i k : ℕ) → IsInputNumber c order q i → k ≤ last → row_value rows i k ≡ x i k) →
      ((j u : ℕ) → slice_get (latches_of c) j ≡ Some u → slice_index_or power j false ≡ power_of (start_at c.starts u) (x (base + j) 0)) →
      (n : ℕ) (run : ℕ → ℕ → Bool) → IsResetRun c n run → TakesPower c power run → last < n → TakesInputs c order (row_value rows) (last + 1) run → run last p ≡ tree_value x tree
  reset_window_by p last tree unfolds rows power rows_hold power_holds n run is_reset takes_power h takes =
      sym (reset_tree_is_run c order base n run is_reset x last h (λ q i k m le. sym (takes k q i (omega arith) m ∙ rows_hold q i k m le))
      (λ j u at free. sym (takes_power j u at ∙ (power_holds j u at ∙ ap (λ o. power_of o (x (base + j) 0)) (start_none c.starts u free)))) unfolds (omega arith))

-- the rows give back what the assignment has in each cycle up to the last
pub reset_rows-is : (last : ℕ) (x : ℕ → ℕ → Bool) (count i k : ℕ) → k ≤ last → (count ≤ i → (s : ℕ) → x i s ≡ false) → row_value (reset_rows last x count) i k ≡ x i k
reset_rows-is last x count i k le none =
    let back : last - (last - k) ≡ k = omega arith in
    ap (row_value (reset_rows last x count) i) (sym back)
    ∙ (row_value-is last (λ j s. x j (last - s)) count i (last - k) (omega arith) (λ above. none above (last - (last - k))) ∙ ap (x i) back)

pub reset_witness_makes_differ : ResetWitnessMakesDiffer
reset_witness_makes_differ a b left right left_base right_base p q count rows left_power right_power last l r sa sb based w = record {
  cycles = ap length w.rows_are ∙ (rows_length last (λ i k. x i (last - k)) count 0 (suc last) ∙ (let e : suc last ≡ last + 1 = omega arith in e));
  left_each = ap length w.left_power_is ∙ powers_length a.starts x left_base (latches_of a);
  right_each = ap length w.right_power_is ∙ powers_length b.starts x right_base (latches_of b);
  left_reset = λ n run is_run takes. powered_is_reset a left left_base sa x n run is_run (subst (λ (ps : List Bool). TakesPower a ps run) w.left_power_is takes);
  right_reset = λ n run is_run takes. powered_is_reset b right right_base sb x n run is_run (subst (λ (ps : List Bool). TakesPower b ps run) w.right_power_is takes);
  left_is = λ n run is_run powered h takes.
      let takes_power = subst (λ (ps : List Bool). TakesPower a ps run) w.left_power_is powered in
      reset_window_by a left left_base sa x p last w.left_tree w.left_unfolds (reset_rows last x count) (powers a left_base x)
      (λ y i k m le. reset_rows-is last x count i k le (λ above s. none i s (based.left_inputs y i m) above)) (λ j u at. powers_at a.starts x left_base (latches_of a) j u at)
      n run (powered_is_reset a left left_base sa x n run is_run takes_power) takes_power h (subst (λ (rs : List (List Bool)). TakesInputs a left (row_value rs) (last + 1) run) w.rows_are takes) ∙ sym w.left_value;
  right_is = λ n run is_run powered h takes.
      let takes_power = subst (λ (ps : List Bool). TakesPower b ps run) w.right_power_is powered in
      reset_window_by b right right_base sb x q last w.right_tree w.right_unfolds (reset_rows last x count) (powers b right_base x)
      (λ y i k m le. reset_rows-is last x count i k le (λ above s. none i s (based.right_inputs y i m) above)) (λ j u at. powers_at b.starts x right_base (latches_of b) j u at)
      n run (powered_is_reset b right right_base sb x n run is_run takes_power) takes_power h (subst (λ (rs : List (List Bool)). TakesInputs b right (row_value rs) (last + 1) run) w.rows_are takes) ∙ sym w.right_value;
  differ = λ e. w.distinguishes.differs (sym w.left_value ∙ (e ∙ w.right_value));
}
  where
    x : ℕ → ℕ → Bool
    x = assigned same_shift w.variables w.bits

    none : (i k : ℕ) → i < left_base → count ≤ i → assigned same_shift w.variables w.bits i k ≡ false
    none i k low above = assigned_absent same_shift w.variables w.bits i k (λ v h e. go v e (All-contains (λ y. (y.input < count) ⊎ (left_base ≤ y.input)) w.variables v w.inputs h))
      where
        go : (v : Variable ℕ) → v.input ≡ i → (v.input < count) ⊎ (left_base ≤ v.input) → ⊥
        go v e (inl y) = omega arith
        go v e (inr y) = omega arith
