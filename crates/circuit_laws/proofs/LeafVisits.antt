-- The leaves of a tree are the inputs that the unfolding visits.
use Rattle.std.proofs.Common.{◌≡◌, ℕ, suc, List, [], ◌∷◌, refl, sym, subst, arith, inl, inr}
use Rattle.std.specs.Prelude.{◌⊎◌, ◌↔◌}
use Rattle.std.specs.List.{Contains, AllPairs}
use Rattle.circuit_theory.specs.Circuit.{Circuit, Gate, Latch, Port, Reads, IsSingleDriven}
use Rattle.circuit_theory.specs.Tree.{Tree, Trees, Leaf, Fixed, Branch, Nil, Cons, Unfolds, UnfoldsAll, IsInputNumber}
use Rattle.circuit_theory.specs.Query.{Variable, HasLeaf, HasLeafIn, AreVariables}
use Rattle.circuit_theory.specs.Sizes.{Visits}
use Rattle.circuit_theory.proofs.Lists.{Contains-head, Contains-tail, Contains-cases}
use Rattle.circuit_laws.proofs.OneTree.{unfold_says, one_tree}

-- what a leaf says of the tree's own form
abbrev pub LeafSays : {L : Type 0} → Variable L → Tree L → Type 0
LeafSays x (Leaf input at) = (input ≡ x.input) × (at ≡ x.at)
LeafSays x (Fixed bit) = ⊥
LeafSays x (Branch cover trees) = HasLeafIn x trees

abbrev pub LeafInSays : {L : Type 0} → Variable L → Trees L → Type 0
LeafInSays x Nil = ⊥
LeafInSays x (Cons tree trees) = HasLeaf x tree ⊎ HasLeafIn x trees

pub leaf_says : {L : Type 0} {x : Variable L} {tree : Tree L} → HasLeaf x tree → LeafSays x tree
leaf_says HasLeaf.leaf = (refl, refl)
leaf_says (HasLeaf.inside h) = h

pub leaf_in_says : {L : Type 0} {x : Variable L} {trees : Trees L} → HasLeafIn x trees → LeafInSays x trees
leaf_in_says (HasLeafIn.first h) = inl h
leaf_in_says (HasLeafIn.later h) = inr h

module _ {P : Type 0} (c : Circuit P) (order : List ℕ) (s : P) (from : ℕ) where
  -- an input, by its number, that is visited at a shift
  abbrev pub VisitsInput : Variable ℕ → Type 0
  VisitsInput x = (p : P) × IsInputNumber c order p x.input × Visits c s from p x.at

  mutual
    pub leaf_visits : {q : P} {j d : ℕ} {tree : Tree ℕ} (x : Variable ℕ) → Unfolds c order q j d tree → Visits c s from q j → HasLeaf x tree → VisitsInput x
    leaf_visits x (Unfolds.input {p = p} {k = k} {i = i} h) visits is_leaf =
        let e = leaf_says is_leaf in
        (p, subst (IsInputNumber c order p) e.0 h, subst (Visits c s from p) e.1 visits)
    leaf_visits x (Unfolds.gate eq each) visits is_leaf = leaves_visit x each (λ q h. Visits.reads visits (Reads.by_gate eq h)) (leaf_says is_leaf)
    leaf_visits x (Unfolds.port eq rest) visits is_leaf = leaf_visits x rest (Visits.reads visits (Reads.by_port eq)) is_leaf
    leaf_visits x (Unfolds.latch latch rest) visits is_leaf = leaf_visits x rest (Visits.back visits latch) is_leaf

    pub leaves_visit : {ps : List P} {j d : ℕ} {trees : Trees ℕ} (x : Variable ℕ) → UnfoldsAll c order ps j d trees → ((q : P) → Contains ps q → Visits c s from q j) → HasLeafIn x trees → VisitsInput x
    leaves_visit x UnfoldsAll.none visits h = absurd (leaf_in_says h)
    leaves_visit x (UnfoldsAll.more {p = p} {ps = ps} {tree = tree} {trees = trees} one rest) visits within =
        pick (leaf_in_says within) (λ h. leaf_visits x one (visits p (Contains-head p ps)) h) (λ h. leaves_visit x rest (λ q k. visits q (Contains-tail p q ps k)) h)
      where
        pick : HasLeaf x tree ⊎ HasLeafIn x trees → (HasLeaf x tree → VisitsInput x) → (HasLeafIn x trees → VisitsInput x) → VisitsInput x
        pick (inl h) here there = here h
        pick (inr h) here there = there h

  module _ (single : IsSingleDriven c) (one_number : (p : P) (i j : ℕ) → IsInputNumber c order p i → IsInputNumber c order p j → i ≡ j) (d : ℕ) (tree : Tree ℕ) (unfolds : Unfolds c order s from d tree) where
    -- a visited place unfolds to a part of the tree
    pub record Part (q : P) (j : ℕ) : Type 0 where
      pub depth : ℕ
      pub part : Tree ℕ
      pub unfolds_to : Unfolds c order q j depth part
      pub leaves : (x : Variable ℕ) → HasLeaf x part → HasLeaf x tree

    -- of the fan-ins' trees, that of one fan-in
    one_of : {ps : List P} {j e : ℕ} {trees : Trees ℕ} → UnfoldsAll c order ps j e trees → (q : P) → Contains ps q →
        (depth : ℕ) × (part : Tree ℕ) × Unfolds c order q j depth part × ((x : Variable ℕ) → HasLeaf x part → HasLeafIn x trees)
    one_of UnfoldsAll.none q h = absurd (omega (arith, h.1))
    one_of (UnfoldsAll.more {p = p} {ps = ps} {k = k} {d = a} {tree = t} {trees = ts} one rest) q h = go (Contains-cases p q ps h) (λ m. one_of rest q m)
      where
        Of : P → Trees ℕ → Type 0
        Of z us = (depth : ℕ) × (part : Tree ℕ) × Unfolds c order z k depth part × ((x : Variable ℕ) → HasLeaf x part → HasLeafIn x us)

        go : (p ≡ q) ⊎ Contains ps q → (Contains ps q → Of q ts) → Of q (Cons t ts)
        go (inl e) later = (a, t, subst (λ (z : P). Unfolds c order z k a t) e one, λ x h. HasLeafIn.first h)
        go (inr m) later = let r = later m in (r.0, r.1, r.2, λ x h. HasLeafIn.later (r.3 x h))

    pub part_of : {q : P} {j : ℕ} → Visits c s from q j → Part q j
    part_of Visits.itself = record { depth = d; part = tree; unfolds_to = unfolds; leaves = λ x h. h }
    part_of (Visits.reads {q = q} {r = r} {j = j} visits reads) = go (part_of visits) reads
      where
        go : Part q j → Reads c q r → Part r j
        go above (Reads.by_gate {fanins = fanins} {cover = cover} eq h) =
            let own = unfold_says c order single one_number above.unfolds_to (Gate q fanins cover) eq refl in
            let one = one_of own.1 r h in
            record { depth = one.0; part = one.1; unfolds_to = one.2; leaves = λ x k. above.leaves x (subst (HasLeaf x) (sym own.2) (HasLeaf.inside (one.3 x k))) }
        go above (Reads.by_port eq) =
            record { depth = above.depth; part = above.part; unfolds_to = unfold_says c order single one_number above.unfolds_to (Port q r) eq refl; leaves = above.leaves }
    part_of (Visits.back {q = q} {next = next} {j = j} {name = name} visits latch) = go (part_of visits)
      where
        go : Part q j → Part next (suc j)
        go above =
            let own = unfold_says c order single one_number above.unfolds_to (Latch name q next) latch refl in
            record { depth = own.0; part = above.part; unfolds_to = own.2; leaves = above.leaves }

    pub visit_is_leaf : (x : Variable ℕ) → VisitsInput x → HasLeaf x tree
    visit_is_leaf x v =
        let part = part_of v.2 in
        let same = one_tree c order single one_number (Unfolds.input {k = x.at} v.1) part.unfolds_to in
        part.leaves x (subst (HasLeaf x) same.0 HasLeaf.leaf)

    -- so the variables of one function are the inputs that its unfolding visits
    pub leaves_are_visits : (x : Variable ℕ) → HasLeaf x tree ↔ VisitsInput x
    leaves_are_visits x = (λ h. leaf_visits x unfolds Visits.itself h, visit_is_leaf x)

    pub variables_are_visits : (before : Variable ℕ → Variable ℕ → Type 0) (variables : List (Variable ℕ)) → AllPairs before variables → ((x : Variable ℕ) → Contains variables x ↔ VisitsInput x) →
        AreVariables before (tree ∷ []) variables
    variables_are_visits before variables in_order exactly = record { in_order = in_order; exactly = λ x. (λ h. (tree, Contains-head tree [], visit_is_leaf x ((exactly x).0 h)), λ h. back x h) }
      where
        only : (t : Tree ℕ) → Contains (tree ∷ []) t → tree ≡ t
        only t h = go (Contains-cases tree t [] h)
          where
            go : (tree ≡ t) ⊎ Contains [] t → tree ≡ t
            go (inl e) = e
            go (inr k) = absurd (omega (arith, k.1))

        back : (x : Variable ℕ) → (t : Tree ℕ) × Contains (tree ∷ []) t × HasLeaf x t → Contains variables x
        back x h = (exactly x).1 (leaf_visits x unfolds Visits.itself (subst (HasLeaf x) (sym (only h.0 h.1)) h.2))
