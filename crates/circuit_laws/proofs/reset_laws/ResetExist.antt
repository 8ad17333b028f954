-- In a flat net each signal has one unfolding in each cycle.
use Rattle.std.proofs.Common.{◌≡◌, ◌≢◌, ℕ, zero, suc, ◌+◌, ◌<◌, Bool, true, false, List, [], ◌∷◌, length, refl, sym, ◌∙◌, ap, subst, arith, inl, inr, Some, slice_get}
use Rattle.std.specs.Prelude.{◌⊎◌, ◌==◌}
use Rattle.std.specs.List.{AllPairs, Contains}
use Rattle.std.proofs.lemmas.List.Elements.{All-contains}
use Rattle.circuit_theory.specs.Cover.{Cover}
use Rattle.circuit_theory.specs.Circuit.{Circuit, Started, Equation, Gate, Latch, Port, IsInput, IsLatch, out_of}
use Rattle.circuit_theory.specs.Cone.{latches_of}
use Rattle.circuit_theory.specs.Net.{IsAbove, IsWithin, IsDriven, IsNet}
use Rattle.circuit_theory.specs.Tree.{Tree, Trees, Leaf, Fixed, Branch, Nil, Cons, IsInputNumber}
use Rattle.circuit_theory.proofs.Inputs.{test_same, test_refl, beside_is_input}
use Rattle.circuit_theory.proofs.Lists.{Contains-head, Contains-tail, Contains-cases}
use Rattle.circuit_theory.proofs.Numbers.{distinct_at, one_number}
use Rattle.circuit_laws.proofs.NetLaws.{fanin_below}
use Rattle.circuit_laws.proofs.NetTrees.{has_number}
use Rattle.circuit_laws.specs.reset_laws.Reset.{ResetUnfolds, ResetUnfoldsAll, IsFree, HasStarts}
use Rattle.circuit_laws.specs.reset_laws.Laws.{ResetTreesAreOne}
use Rattle.circuit_laws.proofs.reset_laws.ResetAgreement.{latch_from, latch_listed}

module _ (c : Circuit ℕ) (size : ℕ) (net : IsNet c size) (starts : HasStarts c) (distinct : AllPairs (λ u v. u ≢ v) (latches_of c)) (order : List ℕ) (numbered : length order ≡ length c.inputs) (base : ℕ) where
  abbrev HasTree : ℕ → ℕ → Type 0
  HasTree s t = (tree : Tree ℕ) × ResetUnfolds c order base s t tree

  trees_of : (ps : List ℕ) (t : ℕ) → ((p : ℕ) → Contains ps p → HasTree p t) → (trees : Trees ℕ) × ResetUnfoldsAll c order base ps t trees
  trees_of [] t each = (Nil, ResetUnfoldsAll.none)
  trees_of (p ∷ ps) t each =
      let first = each p (Contains-head p ps) in
      let rest = trees_of ps t (λ q h. each q (Contains-tail p q ps h)) in
      (Cons first.0 rest.0, ResetUnfoldsAll.more first.1 rest.1)

  start_or : (ss : List (Started ℕ)) (u : ℕ) → ((bit : Bool) × Contains ss (record { place = u; bit = bit })) ⊎ ((bit : Bool) → Contains ss (record { place = u; bit = bit }) → ⊥)
  start_or [] u = inr (λ bit h. omega (arith, h.1))
  start_or (s ∷ ss) u = go (s.place == u) refl (start_or ss u)
    where
      go : (t : Bool) → (s.place == u) ≡ t → ((bit : Bool) × Contains ss (record { place = u; bit = bit })) ⊎ ((bit : Bool) → Contains ss (record { place = u; bit = bit }) → ⊥) →
          ((bit : Bool) × Contains (s ∷ ss) (record { place = u; bit = bit })) ⊎ ((bit : Bool) → Contains (s ∷ ss) (record { place = u; bit = bit }) → ⊥)
      go true e rest = inl (s.bit, subst (λ (p : ℕ). Contains (s ∷ ss) (record { place = p; bit = s.bit })) (test_same s.place u e) (Contains-head s ss))
      go false e (inl f) = inl (f.0, Contains-tail s _ ss f.1)
      go false e (inr none) = inr (λ bit h. pick bit (Contains-cases s (record { place = u; bit = bit }) ss h))
        where
          pick : (bit : Bool) → (s ≡ record { place = u; bit = bit }) ⊎ Contains ss (record { place = u; bit = bit }) → ⊥
          pick bit (inl q) = let z : (s.place == u) ≡ true = subst (λ (y : Started ℕ). (y.place == u) ≡ true) (sym q) (test_refl u) in cc
          pick bit (inr k) = none bit k

  input_tree : (s t : ℕ) → IsInput c s → HasTree s t
  input_tree s t i = let n = has_number c.inputs order numbered (record { name = i.0; place = s }) i.1 in (Leaf n.0 t, ResetUnfolds.input n.1)

  gate_tree : (s t : ℕ) (out : ℕ) (fanins : List ℕ) (cover : Cover) → ((f : ℕ) → f < s → HasTree f t) → Contains c.equations (Gate out fanins cover) → out ≡ s → HasTree s t
  gate_tree s t out fanins cover lower h q =
      let gate : Contains c.equations (Gate s fanins cover) = subst (λ p. Contains c.equations (Gate p fanins cover)) q h in
      let trees = trees_of fanins t (λ f m. lower f (fanin_below c size net s fanins cover gate f m)) in
      (Branch cover trees.0, ResetUnfolds.gate gate trees.1)

  first_tree : (name : List ℕ) (s next : ℕ) → IsLatch c name s next → HasTree s 0
  first_tree name s next latch = go (start_or c.starts s)
    where
      go : ((bit : Bool) × Contains c.starts (record { place = s; bit = bit })) ⊎ ((bit : Bool) → Contains c.starts (record { place = s; bit = bit }) → ⊥) → HasTree s 0
      go (inl x) = (Fixed x.0, ResetUnfolds.started latch x.1)
      go (inr none) = let at = latch_listed c.equations name s next latch in (Leaf (base + at.0) 0, ResetUnfolds.free at.0 at.1 none)

  by_driver : (s t : ℕ) → ((f : ℕ) → f < s → HasTree f t) → ((name : List ℕ) (next : ℕ) → IsLatch c name s next → next < size → HasTree s t) → (e : Equation ℕ) → Contains c.equations e → out_of e ≡ s → HasTree s t
  by_driver s t lower latch (Port out from) h q = absurd (All-contains IsAbove c.equations (Port out from) net.above h)
  by_driver s t lower latch (Gate out fanins cover) h q = gate_tree s t out fanins cover lower h q
  by_driver s t lower latch (Latch name out next) h q =
      latch name next (subst (λ p. IsLatch c name p next) q h) (All-contains (IsWithin size) c.equations (Latch name out next) net.within h).1

  by_net : (s t : ℕ) → ((f : ℕ) → f < s → HasTree f t) → ((name : List ℕ) (next : ℕ) → IsLatch c name s next → next < size → HasTree s t) → IsDriven c s → HasTree s t
  by_net s t lower latch (inl i) = input_tree s t i
  by_net s t lower latch (inr e) = by_driver s t lower latch e.0 e.1 e.2

  tree_below : (t bound s : ℕ) → s < bound → s < size → HasTree s t
  tree_below t zero s h l = absurd (omega arith)
  tree_below zero (suc bound) s h l = by_net s zero (λ f k. tree_below zero bound f (omega arith) (omega arith)) (λ name next latch within. first_tree name s next latch) (net.driven s l)
  tree_below (suc t) (suc bound) s h l =
      by_net s (suc t) (λ f k. tree_below (suc t) bound f (omega arith) (omega arith))
      (λ name next latch within. let rest = tree_below t (suc next) next (omega arith) within in (rest.0, ResetUnfolds.later latch rest.1)) (net.driven s l)

  next_of : Equation ℕ → ℕ
  next_of (Gate out fanins cover) = out
  next_of (Latch name out next) = next
  next_of (Port out from) = from

  -- what derives the second unfolding, given what drives the place
  abbrev pub Shape : ℕ → Tree ℕ → Equation ℕ → Type 0
  Shape t tree (Gate out fanins cover) = (trees : Trees ℕ) × ResetUnfoldsAll c order base fanins t trees × (tree ≡ Branch cover trees)
  Shape zero tree (Latch name out next) = ((bit : Bool) × Contains c.starts (record { place = out; bit = bit }) × (tree ≡ Fixed bit)) ⊎ ((j : ℕ) × (slice_get (latches_of c) j ≡ Some out) × IsFree c out × (tree ≡ Leaf (base + j) 0))
  Shape (suc t) tree (Latch name out next) = ResetUnfolds c order base next t tree
  Shape t tree (Port out from) = ⊥

  pub shape : {p t : ℕ} {tree : Tree ℕ} → ResetUnfolds c order base p t tree → (e : Equation ℕ) → Contains c.equations e → out_of e ≡ p → Shape t tree e
  shape {p} (ResetUnfolds.input {i = i} h) e k q = absurd (net.single.no_input e k (subst (IsInput c) (sym q) (beside_is_input c.inputs order p i h)))
  shape {p} {t} {tree} (ResetUnfolds.gate {fanins = fanins} {cover = cover} {trees = trees} eq each) e k q = subst (Shape t tree) (net.single.one (Gate p fanins cover) e eq k (sym q)) (trees, each, refl)
  shape (ResetUnfolds.port eq rest) e k q = absurd (All-contains IsAbove c.equations _ net.above eq)
  shape {p} {tree = tree} (ResetUnfolds.later {name = name} {next = next} {t = t} eq rest) e k q = subst (Shape (suc t) tree) (net.single.one (Latch name p next) e eq k (sym q)) rest
  shape {p} {tree = tree} (ResetUnfolds.started {name = name} {next = next} {bit = bit} eq start) e k q = subst (Shape 0 tree) (net.single.one (Latch name p next) e eq k (sym q)) (inl (bit, start, refl))
  shape {p} {tree = tree} (ResetUnfolds.free j at none) e k q =
      let l = latch_from c.equations j p at in
      subst (Shape 0 tree) (net.single.one (Latch l.0 p l.1) e l.2 k (sym q)) (inr (j, at, none, refl))

  input_only : {p t : ℕ} {tree : Tree ℕ} → ResetUnfolds c order base p t tree → (i : ℕ) → IsInputNumber c order p i → tree ≡ Leaf i t
  input_only {p} {t} (ResetUnfolds.input {i = j} h) i k = ap (λ n. Leaf n t) (one_number c.inputs order net.inputs p j i h k)
  input_only {p} (ResetUnfolds.gate eq each) i k = absurd (net.single.no_input _ eq (beside_is_input c.inputs order p i k))
  input_only {p} (ResetUnfolds.port eq rest) i k = absurd (net.single.no_input _ eq (beside_is_input c.inputs order p i k))
  input_only {p} (ResetUnfolds.later eq rest) i k = absurd (net.single.no_input _ eq (beside_is_input c.inputs order p i k))
  input_only {p} (ResetUnfolds.started eq start) i k = absurd (net.single.no_input _ eq (beside_is_input c.inputs order p i k))
  input_only {p} (ResetUnfolds.free j at none) i k = let l = latch_from c.equations j p at in absurd (net.single.no_input _ l.2 (beside_is_input c.inputs order p i k))

  mutual
    pub one_tree : {p t : ℕ} {l r : Tree ℕ} → ResetUnfolds c order base p t l → ResetUnfolds c order base p t r → l ≡ r
    one_tree (ResetUnfolds.input {i = i} h) r = sym (input_only r i h)
    one_tree (ResetUnfolds.gate {out = out} {fanins = fanins} {cover = cover} eq each) r =
        let s = shape r (Gate out fanins cover) eq refl in
        ap (Branch cover) (one_trees each s.1) ∙ sym s.2
    one_tree (ResetUnfolds.port eq rest) r = absurd (All-contains IsAbove c.equations _ net.above eq)
    one_tree (ResetUnfolds.later {name = name} {out = out} {next = next} eq rest) r = one_tree rest (shape r (Latch name out next) eq refl)
    one_tree {r = tree} (ResetUnfolds.started {name = name} {out = out} {next = next} {bit = bit} eq start) r = go (shape r (Latch name out next) eq refl)
      where
        go : Shape 0 tree (Latch name out next) → Fixed bit ≡ tree
        go (inl x) = ap Fixed (starts.once out bit x.0 start x.1) ∙ sym x.2
        go (inr x) = absurd (x.2 bit start)
    one_tree {r = tree} (ResetUnfolds.free {out = out} j at none) r = let l = latch_from c.equations j out at in go (shape r (Latch l.0 out l.1) l.2 refl)
      where
        go : ((bit : Bool) × Contains c.starts (record { place = out; bit = bit }) × (tree ≡ Fixed bit)) ⊎ ((j : ℕ) × (slice_get (latches_of c) j ≡ Some out) × IsFree c out × (tree ≡ Leaf (base + j) 0)) → Leaf (base + j) 0 ≡ tree
        go (inl x) = absurd (none x.0 x.1)
        go (inr x) = ap (λ k. Leaf (base + k) 0) (distinct_at (λ (u : ℕ). u) (latches_of c) distinct j x.0 out out at x.1 refl) ∙ sym x.3

    one_trees : {ps : List ℕ} {t : ℕ} {l r : Trees ℕ} → ResetUnfoldsAll c order base ps t l → ResetUnfoldsAll c order base ps t r → l ≡ r
    one_trees ResetUnfoldsAll.none ResetUnfoldsAll.none = refl
    one_trees (ResetUnfoldsAll.more one rest) (ResetUnfoldsAll.more one' rest') =
        let head = one_tree one one' in let tail = one_trees rest rest' in cc

pub reset_trees_are_one : ResetTreesAreOne
reset_trees_are_one c size order base s t net starts distinct numbered h = (
  tree_below c size net starts distinct order numbered base t (suc s) s (omega arith) h,
  λ l r x y. one_tree c size net starts distinct order numbered base x y,
)
