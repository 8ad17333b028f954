-- The value of a tree of a cycle in a run from the initial values, by the values of its leaves alone; and what a sequence with a power-up
-- makes of a place, in all runs that obey it.
use Rattle.std.proofs.Common.{◌≡◌, ℕ, ◌+◌, ◌-◌, ◌<◌, ◌≤◌, Bool, List, map, length, refl, sym, ◌∙◌, ap, subst, arith, add-one, Some, slice_get}
use Rattle.std.proofs.lemmas.List.Elements.{All-contains}
use Rattle.circuit_theory.specs.Cover.{cover_value}
use Rattle.circuit_theory.specs.Circuit.{Circuit, Named, Holds, Carries}
use Rattle.circuit_theory.specs.Cone.{latches_of}
use Rattle.circuit_theory.specs.Interface.{AreNumbersOf}
use Rattle.circuit_theory.specs.Run.{IsRun, IsResetRun}
use Rattle.circuit_theory.specs.Tree.{Tree, Trees, tree_value, tree_values, IsInputNumber}
use Rattle.circuit_theory.specs.Query.{HasLeaf, HasLeafIn}
use Rattle.circuit_laws.specs.reset_laws.Reset.{ResetUnfolds, ResetUnfoldsAll, IsFree, HasStarts, TakesPower, power_of, powers, reset_rows}
use Rattle.circuit_laws.proofs.reset_laws.ResetWindows.{powers_at, start_none, powered_is_reset}
use Rattle.witness_report.specs.declared.witness.Witness.{Witness}
use Rattle.witness_report.specs.Shown.{Obeys}
use Rattle.plain_check.proofs.under_base.compare_base.Sequences.{printed}

-- the leaf's value is that of its input in the leaf's cycle
abbrev pub HasInputsThere : {P : Type 0} → Circuit P → List ℕ → (ℕ → P → Bool) → ℕ → (ℕ → ℕ → Bool) → (ℕ → ℕ → Type 0) → Type 0
HasInputsThere {P} c order run last x meant = (q : P) (i k : ℕ) → IsInputNumber c order q i → meant i k → k ≤ last → x i k ≡ run k q

module _ {P : Type 0} (c : Circuit P) (order : List ℕ) (base n : ℕ) (run : ℕ → P → Bool) (is_run : IsResetRun c n run) (last : ℕ) (in_run : last < n) (x : ℕ → ℕ → Bool)
    (power : (j : ℕ) (u : P) → slice_get (latches_of c) j ≡ Some u → IsFree c u → x (base + j) 0 ≡ run 0 u) where
  mutual
    unfolding tree_value

    pub reset_by_leaves : {p : P} {t : ℕ} {tree : Tree ℕ} → ResetUnfolds c order base p t tree → t ≤ last → HasInputsThere c order run last x (λ i k. HasLeaf (record { input = i; at = k }) tree) → tree_value x tree ≡ run t p
    reset_by_leaves {p} {t} (ResetUnfolds.input {i = i} h) le leaves = leaves p i t h HasLeaf.leaf le
    reset_by_leaves {p} {t} (ResetUnfolds.gate {cover = cover} eq each) le leaves =
        ap (cover_value cover) (all_reset_by_leaves each le (λ q i k h m l. leaves q i k h (HasLeaf.inside m) l)) ∙ sym (All-contains (Holds (run t)) c.equations _ (is_run.is_run.meets t (omega arith)) eq)
    reset_by_leaves {p} {t} (ResetUnfolds.port eq rest) le leaves = reset_by_leaves rest le leaves ∙ sym (All-contains (Holds (run t)) c.equations _ (is_run.is_run.meets t (omega arith)) eq)
    reset_by_leaves (ResetUnfolds.later {out = out} {next = next} {t = t} eq rest) le leaves =
        reset_by_leaves rest (omega arith) leaves
        ∙ (sym (All-contains (Carries (run t) (run (t + 1))) c.equations _ (is_run.is_run.carries t (omega arith)) eq) ∙ ap (λ s. run s out) (add-one t))
    reset_by_leaves (ResetUnfolds.started {out = out} {bit = bit} eq start) le leaves = sym (is_run.starts out bit start)
    reset_by_leaves (ResetUnfolds.free {out = out} j at none) le leaves = power j out at none

    pub all_reset_by_leaves : {ps : List P} {t : ℕ} {trees : Trees ℕ} → ResetUnfoldsAll c order base ps t trees → t ≤ last → HasInputsThere c order run last x (λ i k. HasLeafIn (record { input = i; at = k }) trees) →
        tree_values x trees ≡ map (run t) ps
    all_reset_by_leaves ResetUnfoldsAll.none le leaves = refl
    all_reset_by_leaves (ResetUnfoldsAll.more one rest) le leaves =
        let head = reset_by_leaves one le (λ q i k h m l. leaves q i k h (HasLeafIn.first m) l) in
        let tail = all_reset_by_leaves rest le (λ q i k h m l. leaves q i k h (HasLeafIn.later m) l) in
        cc

-- One side: in a run that obeys the sequence and begins with the power-up the place has in the last cycle the value of its tree. The
-- numbers of the inputs are the places of their names among the sequence's; inputs have the bits of the rows, what stands above the base
-- those of the power-up.
module _ (c : Circuit ℕ) (order others : List ℕ) (base : ℕ) (columns : List (List ℕ)) (numbers : AreNumbersOf (map (λ (i : Named ℕ). i.name) c.inputs) columns order others) (starts : HasStarts c) (w : Witness)
    (names : w.stimulus.names ≡ columns) (x y z : ℕ → ℕ → Bool) (low : (q i k : ℕ) → IsInputNumber c order q i → z i k ≡ y i k) (high : (i k : ℕ) → base ≤ i → z i k ≡ x i k) (rows : w.stimulus.rows ≡ reset_rows w.cycle y (length columns))
    (power : List Bool) (power_is : power ≡ powers c base x) (steps : ℕ) (run : ℕ → ℕ → Bool) (in_run : w.cycle < steps) (is_run : IsRun c steps run) (takes : TakesPower c power run) (obeys : Obeys c w.stimulus steps run) where
  takes_powers : TakesPower c (powers c base x) run
  takes_powers = subst (λ (ps : List Bool). TakesPower c ps run) power_is takes

  -- a latch without an initial value begins with its variable's bit
  free_value : (j u : ℕ) → slice_get (latches_of c) j ≡ Some u → IsFree c u → z (base + j) 0 ≡ run 0 u
  free_value j u at free =
      high (base + j) 0 (omega arith) ∙ sym (takes_powers j u at ∙ (powers_at c.starts x base (latches_of c) j u at ∙ ap (λ o. power_of o (x (base + j) 0)) (start_none c.starts u free)))

  -- an input of the sequence has its bit in each cycle
  input_value : (q i k : ℕ) → IsInputNumber c order q i → i < length columns → k ≤ w.cycle → z i k ≡ run k q
  input_value q i k number small le =
      let back : w.cycle - (w.cycle - k) ≡ k = omega arith in
      low q i k number
      ∙ (ap (y i) (sym back) ∙ (printed c order others columns numbers w names (λ j s. y j (w.cycle - s)) rows steps run in_run is_run obeys q i (w.cycle - k) number small (omega arith) ∙ ap (λ t. run t q) back))

  pub powered_by : (p : ℕ) (tree : Tree ℕ) → ResetUnfolds c order base p w.cycle tree → ((q i k : ℕ) → IsInputNumber c order q i → HasLeaf (record { input = i; at = k }) tree → i < length columns) →
      run w.cycle p ≡ tree_value z tree
  powered_by p tree unfolds small =
      sym (reset_by_leaves c order base steps run (powered_is_reset c order base starts x steps run is_run takes_powers) w.cycle in_run z free_value unfolds (omega arith)
      (λ q i k number leaf le. input_value q i k number (small q i k number leaf) le))

-- the same where the power-up is by the bits of the rows
module _ (c : Circuit ℕ) (order others : List ℕ) (base : ℕ) (columns : List (List ℕ)) (numbers : AreNumbersOf (map (λ (i : Named ℕ). i.name) c.inputs) columns order others) (starts : HasStarts c) (w : Witness)
    (names : w.stimulus.names ≡ columns) (x : ℕ → ℕ → Bool) (rows : w.stimulus.rows ≡ reset_rows w.cycle x (length columns)) (power : List Bool) (power_is : power ≡ powers c base x)
    (steps : ℕ) (run : ℕ → ℕ → Bool) (in_run : w.cycle < steps) (is_run : IsRun c steps run) (takes : TakesPower c power run) (obeys : Obeys c w.stimulus steps run) where
  pub powered_value : (p : ℕ) (tree : Tree ℕ) → ResetUnfolds c order base p w.cycle tree → ((q i k : ℕ) → IsInputNumber c order q i → HasLeaf (record { input = i; at = k }) tree → i < length columns) →
      run w.cycle p ≡ tree_value x tree
  powered_value p tree unfolds small =
      powered_by c order others base columns numbers starts w names x x x (λ q i k number. refl) (λ i k le. refl) rows power power_is steps run in_run is_run takes obeys p tree unfolds small
