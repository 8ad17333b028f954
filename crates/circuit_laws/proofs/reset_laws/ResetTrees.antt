-- The unfolding of a cycle has the value of each reset run; in a flat net there is one.
use Rattle.std.proofs.Common.{◌≡◌, ℕ, ◌+◌, ◌<◌, ◌≤◌, Bool, List, map, refl, sym, ◌∙◌, ap, arith, add-one, Some, slice_get}
use Rattle.std.proofs.lemmas.List.Elements.{All-contains}
use Rattle.circuit_theory.specs.Cover.{cover_value}
use Rattle.circuit_theory.specs.Circuit.{Circuit, Holds, Carries}
use Rattle.circuit_theory.specs.Cone.{latches_of}
use Rattle.circuit_theory.specs.Run.{IsResetRun}
use Rattle.circuit_theory.specs.Tree.{Tree, Trees, tree_value, tree_values, IsInputNumber}
use Rattle.circuit_laws.specs.reset_laws.Reset.{ResetUnfolds, ResetUnfoldsAll, IsFree}

-- the inputs and free latches of an assignment are those of a run up to a cycle
module _ {P : Type 0} (c : Circuit P) (order : List ℕ) (base n : ℕ) (run : ℕ → P → Bool) (is_run : IsResetRun c n run) (x : ℕ → ℕ → Bool) (last : ℕ) (in_run : last < n)
    (inputs : (p : P) (i k : ℕ) → IsInputNumber c order p i → k ≤ last → x i k ≡ run k p)
    (power : (j : ℕ) (u : P) → slice_get (latches_of c) j ≡ Some u → IsFree c u → x (base + j) 0 ≡ run 0 u) where
  mutual
    unfolding tree_value

    pub reset_tree_is_run : {p : P} {t : ℕ} {tree : Tree ℕ} → ResetUnfolds c order base p t tree → t ≤ last → tree_value x tree ≡ run t p
    reset_tree_is_run {p} {t} (ResetUnfolds.input {i = i} h) le = inputs p i t h le
    reset_tree_is_run {p} {t} (ResetUnfolds.gate {cover = cover} eq each) le =
        ap (cover_value cover) (reset_trees_are_run each le) ∙ sym (All-contains (Holds (run t)) c.equations _ (is_run.is_run.meets t (omega arith)) eq)
    reset_tree_is_run {p} {t} (ResetUnfolds.port eq rest) le =
        reset_tree_is_run rest le ∙ sym (All-contains (Holds (run t)) c.equations _ (is_run.is_run.meets t (omega arith)) eq)
    reset_tree_is_run (ResetUnfolds.later {out = out} {next = next} {t = t} eq rest) le =
        reset_tree_is_run rest (omega arith)
        ∙ (sym (All-contains (Carries (run t) (run (t + 1))) c.equations _ (is_run.is_run.carries t (omega arith)) eq) ∙ ap (λ s. run s out) (add-one t))
    reset_tree_is_run (ResetUnfolds.started {out = out} {bit = bit} eq start) le = sym (is_run.starts out bit start)
    reset_tree_is_run (ResetUnfolds.free {out = out} j at none) le = power j out at none

    pub reset_trees_are_run : {ps : List P} {t : ℕ} {trees : Trees ℕ} → ResetUnfoldsAll c order base ps t trees → t ≤ last → tree_values x trees ≡ map (run t) ps
    reset_trees_are_run ResetUnfoldsAll.none le = refl
    reset_trees_are_run (ResetUnfoldsAll.more one rest) le =
        let head = reset_tree_is_run one le in let tail = reset_trees_are_run rest le in cc
