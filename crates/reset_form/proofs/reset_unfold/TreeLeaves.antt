-- The leaves of a tree are those that the unfolding visits.
use Rattle.std.proofs.Common.{◌≡◌, ◌≢◌, ℕ, List, [], ◌∷◌, length, map, refl, sym, subst, arith, inl, inr}
use Rattle.std.specs.Prelude.{◌⊎◌}
use Rattle.std.specs.List.{AllPairs, Contains}
use Rattle.std.proofs.lemmas.List.Elements.{All-contains}
use Rattle.circuit_theory.specs.Circuit.{Circuit, Gate, Latch, Port, Reads}
use Rattle.circuit_theory.specs.Cone.{latches_of}
use Rattle.circuit_theory.specs.Net.{IsAbove, IsNet}
use Rattle.circuit_theory.specs.Tree.{Tree, Trees, Leaf, Cons, IsInputNumber}
use Rattle.circuit_theory.specs.Query.{Variable, HasLeaf, HasLeafIn, AreVariables}
use Rattle.circuit_theory.proofs.Lists.{Contains-head, Contains-tail, Contains-cases, Contains-map, Contains-map_from}
use Rattle.circuit_laws.proofs.LeafVisits.{leaf_says, leaf_in_says}
use Rattle.circuit_laws.specs.reset_laws.Reset.{ResetUnfolds, ResetUnfoldsAll, HasStarts, CycleBefore}
use Rattle.circuit_laws.specs.reset_laws.Weight.{ResetVisits}
use Rattle.circuit_laws.proofs.reset_laws.ResetExist.{shape, one_tree}
use Rattle.cbf_unfold.specs.unfold_places.Places.{PlaceBefore}
use Rattle.cbf_unfold.proofs.unfold_places.Lists.{pairs_map}
use Rattle.reset_form.specs.reset_unfold.Places.{IsLeafAt}
use Rattle.reset_form.specs.reset_unfold.Reach.{AreLeavesAt}
use Rattle.reset_form.proofs.reset_unfold.LeafLists.{variable_of}

module _ (c : Circuit ℕ) (order : List ℕ) (base : ℕ) (s t : ℕ) where
  -- a leaf that is visited
  abbrev pub VisitsLeaf : Variable ℕ → Type 0
  VisitsLeaf x = (p : ℕ) × IsLeafAt c order base (x.at, p) x.input × ResetVisits c s t p x.at

  mutual
    pub leaf_visits : {q j : ℕ} {tree : Tree ℕ} (x : Variable ℕ) → ResetUnfolds c order base q j tree → ResetVisits c s t q j → HasLeaf x tree → VisitsLeaf x
    leaf_visits x (ResetUnfolds.input {p = p} {t = k} {i = i} h) visits is_leaf =
        let e = leaf_says is_leaf in
        (p, inl (subst (IsInputNumber c order p) e.0 h), subst (ResetVisits c s t p) e.1 visits)
    leaf_visits x (ResetUnfolds.gate eq each) visits is_leaf = leaves_visit x each (λ q h. ResetVisits.reads visits (Reads.by_gate eq h)) (leaf_says is_leaf)
    leaf_visits x (ResetUnfolds.port eq rest) visits is_leaf = leaf_visits x rest (ResetVisits.reads visits (Reads.by_port eq)) is_leaf
    leaf_visits x (ResetUnfolds.later latch rest) visits is_leaf = leaf_visits x rest (ResetVisits.back visits latch) is_leaf
    leaf_visits x (ResetUnfolds.started latch start) visits is_leaf = absurd (leaf_says is_leaf)
    leaf_visits x (ResetUnfolds.free {out = out} j at none) visits is_leaf =
        let e = leaf_says is_leaf in
        (out, inr (sym e.1, j, at, none, e.0), subst (ResetVisits c s t out) e.1 visits)

    pub leaves_visit : {ps : List ℕ} {j : ℕ} {trees : Trees ℕ} (x : Variable ℕ) → ResetUnfoldsAll c order base ps j trees → ((q : ℕ) → Contains ps q → ResetVisits c s t q j) → HasLeafIn x trees → VisitsLeaf x
    leaves_visit x ResetUnfoldsAll.none visits h = absurd (leaf_in_says h)
    leaves_visit x (ResetUnfoldsAll.more {p = p} {ps = ps} {tree = tree} {trees = trees} one rest) visits within =
        pick (leaf_in_says within) (λ h. leaf_visits x one (visits p (Contains-head p ps)) h) (λ h. leaves_visit x rest (λ q k. visits q (Contains-tail p q ps k)) h)
      where
        pick : HasLeaf x tree ⊎ HasLeafIn x trees → (HasLeaf x tree → VisitsLeaf x) → (HasLeafIn x trees → VisitsLeaf x) → VisitsLeaf x
        pick (inl h) here there = here h
        pick (inr h) here there = there h

module _ (c : Circuit ℕ) (size : ℕ) (net : IsNet c size) (starts : HasStarts c) (distinct : AllPairs (λ u v. u ≢ v) (latches_of c)) (order : List ℕ) (numbered : length order ≡ length c.inputs) (base s t : ℕ)
    (tree : Tree ℕ) (unfolds : ResetUnfolds c order base s t tree) where
  -- a visited place unfolds to a part of the tree
  pub record Part (q j : ℕ) : Type 0 where
    pub part : Tree ℕ
    pub unfolds_to : ResetUnfolds c order base q j part
    pub leaves : (x : Variable ℕ) → HasLeaf x part → HasLeaf x tree

  -- of the fan-ins' trees, that of one fan-in
  one_of : {ps : List ℕ} {j : ℕ} {trees : Trees ℕ} → ResetUnfoldsAll c order base ps j trees → (q : ℕ) → Contains ps q →
      (part : Tree ℕ) × ResetUnfolds c order base q j part × ((x : Variable ℕ) → HasLeaf x part → HasLeafIn x trees)
  one_of ResetUnfoldsAll.none q h = absurd (omega (arith, h.1))
  one_of (ResetUnfoldsAll.more {p = p} {ps = ps} {t = k} {tree = u} {trees = us} one rest) q h = go (Contains-cases p q ps h) (λ m. one_of rest q m)
    where
      Of : ℕ → Trees ℕ → Type 0
      Of z ts = (part : Tree ℕ) × ResetUnfolds c order base z k part × ((x : Variable ℕ) → HasLeaf x part → HasLeafIn x ts)

      go : (p ≡ q) ⊎ Contains ps q → (Contains ps q → Of q us) → Of q (Cons u us)
      go (inl e) later = (u, subst (λ (z : ℕ). ResetUnfolds c order base z k u) e one, λ x h. HasLeafIn.first h)
      go (inr m) later = let r = later m in (r.0, r.1, λ x h. HasLeafIn.later (r.2 x h))

  pub part_of : {q j : ℕ} → ResetVisits c s t q j → Part q j
  part_of ResetVisits.itself = record { part = tree; unfolds_to = unfolds; leaves = λ x h. h }
  part_of (ResetVisits.reads {q = q} {r = r} {j = j} visits reads) = go (part_of visits) reads
    where
      go : Part q j → Reads c q r → Part r j
      go above (Reads.by_gate {fanins = fanins} {cover = cover} eq h) =
          let own = shape c size net starts distinct order numbered base above.unfolds_to (Gate q fanins cover) eq refl in
          let one = one_of own.1 r h in
          record { part = one.0; unfolds_to = one.1; leaves = λ x k. above.leaves x (subst (HasLeaf x) (sym own.2) (HasLeaf.inside (one.2 x k))) }
      go above (Reads.by_port eq) = absurd (All-contains IsAbove c.equations (Port q r) net.above eq)
  part_of (ResetVisits.back {q = q} {next = next} {j = j} {name = name} visits latch) =
      let above = part_of visits in
      record { part = above.part; unfolds_to = shape c size net starts distinct order numbered base above.unfolds_to (Latch name q next) latch refl; leaves = above.leaves }

  pub visit_is_leaf : (x : Variable ℕ) → VisitsLeaf c order base s t x → HasLeaf x tree
  visit_is_leaf x v = go v.1
    where
      part : Part v.0 x.at
      part = part_of v.2

      from : ResetUnfolds c order base v.0 x.at (Leaf x.input x.at) → HasLeaf x tree
      from u = let same = one_tree c size net starts distinct order numbered base u part.unfolds_to in part.leaves x (subst (HasLeaf x) same HasLeaf.leaf)

      go : IsLeafAt c order base (x.at, v.0) x.input → HasLeaf x tree
      go (inl h) = from (ResetUnfolds.input h)
      go (inr h) =
          from (subst (λ (k : ℕ). ResetUnfolds c order base v.0 k (Leaf x.input k)) (sym h.0)
          (subst (λ (m : ℕ). ResetUnfolds c order base v.0 0 (Leaf m 0)) h.4 (ResetUnfolds.free h.1 h.2 h.3)))

  -- so the leaves that are visited are the variables of the tree
  pub leaves_are_variables : (found : List (ℕ × ℕ)) → AreLeavesAt c order base (t, s) found → AllPairs PlaceBefore found → AreVariables CycleBefore (tree ∷ []) (map variable_of found)
  leaves_are_variables found are ordered = record {
    in_order = pairs_map variable_of PlaceBefore CycleBefore found (λ x y hx hy before. before) ordered;
    exactly = λ v. (λ h. (tree, Contains-head tree [], visit_is_leaf v (to v h)), λ h. back v h);
  }
    where
      to : (v : Variable ℕ) → Contains (map variable_of found) v → VisitsLeaf c order base s t v
      to v h =
          let x = Contains-map_from variable_of found v h in
          subst (VisitsLeaf c order base s t) x.2 (are.from x.0 x.1)

      from : (v : Variable ℕ) → VisitsLeaf c order base s t v → Contains (map variable_of found) v
      from v h = Contains-map variable_of found (v.at, v.input) (are.all h.0 v.input v.at h.2 h.1)

      only : (u : Tree ℕ) → Contains (tree ∷ []) u → tree ≡ u
      only u h = go (Contains-cases tree u [] h)
        where
          go : (tree ≡ u) ⊎ Contains [] u → tree ≡ u
          go (inl e) = e
          go (inr k) = absurd (omega (arith, k.1))

      back : (v : Variable ℕ) → (u : Tree ℕ) × Contains (tree ∷ []) u × HasLeaf v u → Contains (map variable_of found) v
      back v h = from v (leaf_visits c order base s t v unfolds ResetVisits.itself (subst (HasLeaf v) (sym (only h.0 h.1)) h.2))
