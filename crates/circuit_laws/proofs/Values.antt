-- The values of a cycle are determined by its inputs and latches; a tree has the value of each run.
use Rattle.std.proofs.Common.{◌≡◌, ℕ, suc, ◌+◌, ◌-◌, ◌<◌, ◌≤◌, Bool, List, map, refl, sym, ◌∙◌, ap, arith, add-one}
use Rattle.std.proofs.lemmas.List.Elements.{All-contains}
use Rattle.circuit_theory.specs.Cover.{cover_value}
use Rattle.circuit_theory.specs.Circuit.{Circuit, Holds, Carries}
use Rattle.circuit_theory.specs.Run.{IsRun, IsPast, Extends, IsDetermined}
use Rattle.circuit_theory.specs.Tree.{Tree, Trees, tree_value, tree_values, Unfolds, UnfoldsAll, IsInputNumber}
use Rattle.circuit_theory.proofs.Lists.{map_same}

module _ {P : Type 0} (c : Circuit P) (x u v : P → Bool) (eu : Extends c x u) (ev : Extends c x v) where
  pub values_unique : {p : P} → IsDetermined c p → u p ≡ v p
  values_unique {p} (IsDetermined.source s) = eu.sources p s ∙ sym (ev.sources p s)
  values_unique (IsDetermined.gate {fanins = fanins} {cover = cover} eq each) =
      All-contains (Holds u) c.equations _ eu.meets eq
      ∙ (ap (cover_value cover) (map_same u v fanins (λ p h. values_unique (each p h))) ∙ sym (All-contains (Holds v) c.equations _ ev.meets eq))
  values_unique (IsDetermined.port eq from) =
      All-contains (Holds u) c.equations _ eu.meets eq ∙ (values_unique from ∙ sym (All-contains (Holds v) c.equations _ ev.meets eq))

module _ {P : Type 0} (c : Circuit P) (order : List ℕ) (w : ℕ → P → Bool) (past : IsPast c w) (a : ℕ → ℕ → Bool)
    (inputs : (p : P) (i k : ℕ) → IsInputNumber c order p i → a i k ≡ w k p) where
  mutual
    unfolding tree_value

    pub tree_is_past : {p : P} {k d : ℕ} {tree : Tree ℕ} → Unfolds c order p k d tree → tree_value a tree ≡ w k p
    tree_is_past {p} {k} (Unfolds.input {i = i} h) = inputs p i k h
    tree_is_past {p} {k} (Unfolds.gate {fanins = fanins} {cover = cover} eq each) =
        ap (cover_value cover) (trees_are_past each) ∙ sym (All-contains (Holds (w k)) c.equations _ (past.meets k) eq)
    tree_is_past {p} {k} (Unfolds.port eq from) = tree_is_past from ∙ sym (All-contains (Holds (w k)) c.equations _ (past.meets k) eq)
    tree_is_past {p} {k} (Unfolds.latch {next = next} eq rest) =
        tree_is_past rest ∙ (sym (ap (λ j. w j next) (add-one k)) ∙ sym (All-contains (Carries (w (k + 1)) (w k)) c.equations _ (past.goes_back k) eq))

    pub trees_are_past : {ps : List P} {k d : ℕ} {trees : Trees ℕ} → UnfoldsAll c order ps k d trees → tree_values a trees ≡ map (w k) ps
    trees_are_past UnfoldsAll.none = refl
    trees_are_past (UnfoldsAll.more one rest) =
        let head = tree_is_past one in let tail = trees_are_past rest in cc

module _ {P : Type 0} (c : Circuit P) (order : List ℕ) (n : ℕ) (run : ℕ → P → Bool) (is_run : IsRun c n run) (last : ℕ) (in_run : last < n)
    (a : ℕ → ℕ → Bool) (inputs : (p : P) (i k : ℕ) → IsInputNumber c order p i → k ≤ last → a i k ≡ run (last - k) p) where
  mutual
    unfolding tree_value

    -- from the cycle on in which all latches on the way have taken over, the tree has the run's value
    pub tree_is_run : {p : P} {k d : ℕ} {tree : Tree ℕ} → Unfolds c order p k d tree → k + d ≤ last → tree_value a tree ≡ run (last - k) p
    tree_is_run {p} {k} (Unfolds.input {i = i} h) le = inputs p i k h (omega arith)
    tree_is_run {p} {k} (Unfolds.gate {fanins = fanins} {cover = cover} eq each) le =
        ap (cover_value cover) (trees_are_run each le) ∙ sym (All-contains (Holds (run (last - k))) c.equations _ (is_run.meets (last - k) (omega arith)) eq)
    tree_is_run {p} {k} (Unfolds.port eq from) le = tree_is_run from le ∙ sym (All-contains (Holds (run (last - k))) c.equations _ (is_run.meets (last - k) (omega arith)) eq)
    tree_is_run {p} (Unfolds.latch {out = out} {next = next} {k = k} {d = d} {tree = tree} eq rest) le =
        let step : last - suc k + 1 ≡ last - k = omega arith in
        let ih : tree_value a tree ≡ run (last - suc k) next = tree_is_run rest (omega arith) in
        ih ∙ (sym (All-contains (Carries (run (last - suc k)) (run (last - suc k + 1))) c.equations _ (is_run.carries (last - suc k) (omega arith)) eq) ∙ ap (λ t. run t out) step)

    pub trees_are_run : {ps : List P} {k d : ℕ} {trees : Trees ℕ} → UnfoldsAll c order ps k d trees → k + d ≤ last → tree_values a trees ≡ map (run (last - k)) ps
    trees_are_run UnfoldsAll.none le = refl
    trees_are_run (UnfoldsAll.more one rest) le =
        let head = tree_is_run one (omega arith) in let tail = trees_are_run rest (omega arith) in cc
