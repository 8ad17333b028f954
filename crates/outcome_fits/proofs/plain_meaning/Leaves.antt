-- The value of a tree in a run, by the values of its leaves alone.
use Rattle.std.proofs.Common.{◌≡◌, ℕ, suc, ◌+◌, ◌-◌, ◌<◌, ◌≤◌, Bool, true, false, List, map, length, refl, sym, ◌∙◌, ap, arith, Some, slice_get}
use Rattle.std.proofs.lemmas.List.Elements.{All-contains}
use Rattle.circuit_theory.specs.Cover.{cover_value}
use Rattle.circuit_theory.specs.Names.{is_among}
use Rattle.circuit_theory.specs.Circuit.{Circuit, Holds, Carries}
use Rattle.circuit_theory.specs.Interface.{AreNumbersOf}
use Rattle.circuit_theory.specs.Run.{IsRun}
use Rattle.circuit_theory.specs.Tree.{Tree, Trees, tree_value, tree_values, Unfolds, UnfoldsAll, IsInputNumber}
use Rattle.circuit_theory.specs.Query.{HasLeaf, HasLeafIn}
use Rattle.circuit_theory.proofs.Lists.{at_of}
use Rattle.circuit_theory.proofs.Numbers.{is_among-sound, is_among-complete}
use Rattle.sec_setup.proofs.ports.Shared.{some_is}

-- the leaf's value is that of its input, so many cycles before the last
abbrev pub HasInputsValue : {P : Type 0} → Circuit P → List ℕ → (ℕ → P → Bool) → ℕ → (ℕ → ℕ → Bool) → (ℕ → ℕ → Type 0) → Type 0
HasInputsValue {P} c order run last x meant = (q : P) (i j : ℕ) → IsInputNumber c order q i → meant i j → j ≤ last → x i j ≡ run (last - j) q

module _ {P : Type 0} (c : Circuit P) (order : List ℕ) (n : ℕ) (run : ℕ → P → Bool) (is_run : IsRun c n run) (last : ℕ) (in_run : last < n) (x : ℕ → ℕ → Bool) where
  mutual
    unfolding tree_value

    -- where all latches on the way have taken over, the tree has the run's value
    pub run_by_leaves : {p : P} {k d : ℕ} {tree : Tree ℕ} → Unfolds c order p k d tree → k + d ≤ last →
        HasInputsValue c order run last x (λ i j. HasLeaf (record { input = i; at = j }) tree) → tree_value x tree ≡ run (last - k) p
    run_by_leaves {p} {k} (Unfolds.input {i = i} h) le leaves = leaves p i k h HasLeaf.leaf (omega arith)
    run_by_leaves {p} {k} (Unfolds.gate {cover = cover} eq each) le leaves =
        ap (cover_value cover) (all_by_leaves each le (λ q i j h m l. leaves q i j h (HasLeaf.inside m) l)) ∙ sym (All-contains (Holds (run (last - k))) c.equations _ (is_run.meets (last - k) (omega arith)) eq)
    run_by_leaves {p} {k} (Unfolds.port eq from) le leaves = run_by_leaves from le leaves ∙ sym (All-contains (Holds (run (last - k))) c.equations _ (is_run.meets (last - k) (omega arith)) eq)
    run_by_leaves {p} (Unfolds.latch {out = out} {next = next} {k = k} {d = d} {tree = tree} eq rest) le leaves =
        let step : last - suc k + 1 ≡ last - k = omega arith in
        let ih : tree_value x tree ≡ run (last - suc k) next = run_by_leaves rest (omega arith) leaves in
        ih ∙ (sym (All-contains (Carries (run (last - suc k)) (run (last - suc k + 1))) c.equations _ (is_run.carries (last - suc k) (omega arith)) eq) ∙ ap (λ t. run t out) step)

    pub all_by_leaves : {ps : List P} {k d : ℕ} {trees : Trees ℕ} → UnfoldsAll c order ps k d trees → k + d ≤ last →
        HasInputsValue c order run last x (λ i j. HasLeafIn (record { input = i; at = j }) trees) → tree_values x trees ≡ map (run (last - k)) ps
    all_by_leaves UnfoldsAll.none le leaves = refl
    all_by_leaves (UnfoldsAll.more one rest) le leaves =
        let head = run_by_leaves one (omega arith) (λ q i j h m l. leaves q i j h (HasLeafIn.first m) l) in
        let tail = all_by_leaves rest (omega arith) (λ q i j h m l. leaves q i j h (HasLeafIn.later m) l) in
        cc

-- a number below the count of shared inputs is that of the shared input there
pub shared_name : (own shared : List (List ℕ)) (numbers others : List ℕ) → AreNumbersOf own shared numbers others → (k i : ℕ) (name : List ℕ) →
    slice_get own k ≡ Some name → slice_get numbers k ≡ Some i → i < length shared → slice_get shared i ≡ Some name
shared_name own shared numbers others are k i name at number below = go (is_among shared name) refl
  where
    go : (b : Bool) → is_among shared name ≡ b → slice_get shared i ≡ Some name
    go true e =
        let there = at_of shared name (is_among-sound shared name e) in
        let same : there.0 ≡ i = some_is (sym (are.common k there.0 name at there.1) ∙ number) in
        sym (ap (slice_get shared) same) ∙ there.1
    go false e = absurd (let out = are.left_out k i name at (λ h. no (sym (is_among-complete shared name h) ∙ e)) number in omega (arith, below, out.0))
      where
        no : true ≡ false → ⊥
        no q = cc
