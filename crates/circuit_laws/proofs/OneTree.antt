-- A place has one tree at a shift.
use Rattle.std.proofs.Common.{◌≡◌, ℕ, suc, max, List, refl, sym, ◌∙◌, ap, subst}
use Rattle.std.specs.List.{Contains}
use Rattle.circuit_theory.specs.Circuit.{Circuit, Equation, Gate, Latch, Port, IsInput, out_of, IsSingleDriven}
use Rattle.circuit_theory.specs.Tree.{Tree, Trees, Leaf, Branch, Cons, Unfolds, UnfoldsAll, IsInputNumber}
use Rattle.circuit_theory.proofs.Inputs.{beside_is_input}

module _ {P : Type 0} (c : Circuit P) (order : List ℕ) (single : IsSingleDriven c) (one_number : (p : P) (i j : ℕ) → IsInputNumber c order p i → IsInputNumber c order p j → i ≡ j) where
  -- what an unfolding says of the equation that drives the place
  abbrev pub UnfoldSays : ℕ → ℕ → Tree ℕ → Equation P → Type 0
  UnfoldSays k d tree (Gate out fanins cover) = (trees : Trees ℕ) × UnfoldsAll c order fanins k d trees × (tree ≡ Branch cover trees)
  UnfoldSays k d tree (Latch name out next) = (e : ℕ) × (d ≡ suc e) × Unfolds c order next (suc k) e tree
  UnfoldSays k d tree (Port out from) = Unfolds c order from k d tree

  pub unfold_says : {p : P} {k d : ℕ} {tree : Tree ℕ} → Unfolds c order p k d tree → (e : Equation P) → Contains c.equations e → out_of e ≡ p → UnfoldSays k d tree e
  unfold_says {p} (Unfolds.input {i = i} h) e k q = absurd (single.no_input e k (subst (IsInput c) (sym q) (beside_is_input c.inputs order p i h)))
  unfold_says (Unfolds.gate {out = out} {fanins = fanins} {cover = cover} {k = k} {d = d} {trees = trees} eq each) e h q =
      subst (UnfoldSays k d (Branch cover trees)) (single.one (Gate out fanins cover) e eq h (sym q)) (trees, each, refl)
  unfold_says (Unfolds.port {out = out} {from = from} {k = k} {d = d} {tree = tree} eq rest) e h q = subst (UnfoldSays k d tree) (single.one (Port out from) e eq h (sym q)) rest
  unfold_says (Unfolds.latch {name = name} {out = out} {next = next} {k = k} {d = d} {tree = tree} eq rest) e h q =
      subst (UnfoldSays k (suc d) tree) (single.one (Latch name out next) e eq h (sym q)) (d, refl, rest)

  at_input : {p : P} {k e : ℕ} {r : Tree ℕ} (i : ℕ) → IsInputNumber c order p i → Unfolds c order p k e r → (Leaf i k ≡ r) × (0 ≡ e)
  at_input {p} {k} i h (Unfolds.input {i = j} g) = (ap (λ m. Leaf m k) (one_number p i j h g), refl)
  at_input {p} i h (Unfolds.gate {fanins = fanins} {cover = cover} eq each) = absurd (single.no_input (Gate p fanins cover) eq (beside_is_input c.inputs order p i h))
  at_input {p} i h (Unfolds.port {from = from} eq rest) = absurd (single.no_input (Port p from) eq (beside_is_input c.inputs order p i h))
  at_input {p} i h (Unfolds.latch {name = name} {next = next} eq rest) = absurd (single.no_input (Latch name p next) eq (beside_is_input c.inputs order p i h))

  mutual
    pub one_tree : {p : P} {k d e : ℕ} {l r : Tree ℕ} → Unfolds c order p k d l → Unfolds c order p k e r → (l ≡ r) × (d ≡ e)
    one_tree {p} (Unfolds.input {i = i} h) other = at_input i h other
    one_tree (Unfolds.gate {out = out} {fanins = fanins} {cover = cover} eq each) other =
        let s = unfold_says other (Gate out fanins cover) eq refl in
        let same = one_trees each s.1 in
        (ap (Branch cover) same.0 ∙ sym s.2, same.1)
    one_tree (Unfolds.port {out = out} {from = from} eq rest) other = one_tree rest (unfold_says other (Port out from) eq refl)
    one_tree (Unfolds.latch {name = name} {out = out} {next = next} eq rest) other =
        let s = unfold_says other (Latch name out next) eq refl in
        let same = one_tree rest s.2 in
        (same.0, ap suc same.1 ∙ sym s.1)

    pub one_trees : {ps : List P} {k d e : ℕ} {ls rs : Trees ℕ} → UnfoldsAll c order ps k d ls → UnfoldsAll c order ps k e rs → (ls ≡ rs) × (d ≡ e)
    one_trees UnfoldsAll.none UnfoldsAll.none = (refl, refl)
    one_trees (UnfoldsAll.more one rest) (UnfoldsAll.more other others) =
        let head = one_tree one other in
        let tail = one_trees rest others in
        (λ i. Cons (head.0 i) (tail.0 i), λ i. max (head.1 i) (tail.1 i))
