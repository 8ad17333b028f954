-- In a flat net a signal has a tree exactly where it has a depth, and the depth is that of the tree.
use Rattle.std.proofs.Common.{◌≡◌, ℕ, zero, suc, ◌<◌, ◌≤◌, max, List, [], ◌∷◌, length, refl, ap, subst, arith, inl, inr}
use Rattle.std.specs.Prelude.{◌⊎◌}
use Rattle.std.specs.List.{Contains}
use Rattle.std.proofs.lemmas.List.Elements.{All-contains}
use Rattle.circuit_theory.specs.Circuit.{Circuit, Equation, Gate, Latch, Port, Named, IsInput, IsLatch, Reads, out_of}
use Rattle.circuit_theory.specs.Run.{NoneEnabled}
use Rattle.circuit_theory.specs.Depth.{ChainFrom, IsDepth}
use Rattle.circuit_theory.specs.Tree.{Tree, Trees, Leaf, Branch, Nil, Cons, StandsBeside, Unfolds, UnfoldsAll}
use Rattle.circuit_theory.specs.Net.{IsAbove, IsWithin, IsDriven, IsNet}
use Rattle.circuit_theory.proofs.Lists.{Contains-head, Contains-tail, Contains-cases}
use Rattle.circuit_laws.proofs.TreeDepth.{chain_up, extend, tree_depth}
use Rattle.circuit_laws.proofs.NetLaws.{fanin_below}

-- where each input has a number, each stands beside one
pub has_number : {P : Type 0} (inputs : List (Named P)) (order : List ℕ) → length order ≡ length inputs → (n : Named P) → Contains inputs n → (i : ℕ) × StandsBeside inputs order n.place i
has_number [] order e n h = absurd (omega (arith, h.1))
has_number (m ∷ inputs) [] e n h = absurd (let z : 0 ≡ suc (length inputs) = e in omega arith)
has_number {P} (m ∷ inputs) (j ∷ order) e n h = go (Contains-cases m n inputs h) (λ k. has_number inputs order (let z : suc (length order) ≡ suc (length inputs) = e in omega arith) n k)
  where
    go : (m ≡ n) ⊎ Contains inputs n → (Contains inputs n → (i : ℕ) × StandsBeside inputs order n.place i) → (i : ℕ) × StandsBeside (m ∷ inputs) (j ∷ order) n.place i
    go (inl q) later = (j, inl (ap (λ (x : Named P). x.place) q, refl))
    go (inr k) later = let r = later k in (r.0, inr r.1)

module _ (c : Circuit ℕ) (size : ℕ) (net : IsNet c size) (order : List ℕ) (numbered : length order ≡ length c.inputs) where
  -- a tree of the place at each shift
  abbrev pub HasTree : ℕ → ℕ → Type 0
  HasTree s k = (d : ℕ) × (tree : Tree ℕ) × Unfolds c order s k d tree

  abbrev HasTrees : List ℕ → ℕ → Type 0
  HasTrees ps k = (d : ℕ) × (trees : Trees ℕ) × UnfoldsAll c order ps k d trees

  have_trees : (ps : List ℕ) (k : ℕ) → ((p : ℕ) → Contains ps p → HasTree p k) → HasTrees ps k
  have_trees [] k each = (0, Nil, UnfoldsAll.none)
  have_trees (p ∷ ps) k each =
      let first = each p (Contains-head p ps) in
      let rest = have_trees ps k (λ q h. each q (Contains-tail p q ps h)) in
      (max first.0 rest.0, Cons first.1 rest.1, UnfoldsAll.more first.2 rest.2)

  -- no chain from the place is longer
  abbrev Bounded : ℕ → ℕ → Type 0
  Bounded s d = (n : ℕ) → ChainFrom c NoneEnabled s n → n ≤ d

  input_tree : (s k : ℕ) → IsInput c s → HasTree s k
  input_tree s k i = let n = has_number c.inputs order numbered (record { name = i.0; place = s }) i.1 in (0, Leaf n.0 k, Unfolds.input n.1)

  -- by what drives the place: lower places with the same bound, or any place with a lower bound
  by_driver : (s d k : ℕ) → ((f : ℕ) → f < s → Bounded f d → HasTree f k) → ((next b : ℕ) → b < d → next < size → Bounded next b → HasTree next (suc k)) →
      Bounded s d → (e : Equation ℕ) → Contains c.equations e → out_of e ≡ s → HasTree s k
  by_driver s d k lower back bounded (Port out from) h q = absurd (All-contains IsAbove c.equations (Port out from) net.above h)
  by_driver s d k lower back bounded (Gate out fanins cover) h q =
      let gate : Contains c.equations (Gate s fanins cover) = subst (λ p. Contains c.equations (Gate p fanins cover)) q h in
      let trees = have_trees fanins k (λ f m. lower f (fanin_below c size net s fanins cover gate f m) (λ n chain. bounded n (chain_up c net.single (Reads.by_gate gate m) chain))) in
      (trees.0, Branch cover trees.1, Unfolds.gate gate trees.2)
  by_driver s zero k lower back bounded (Latch name out next) h q =
      absurd (let l : 1 ≤ 0 = bounded 1 (extend c net.single (subst (λ p. IsLatch c name p next) q h) (inl refl)) in omega arith)
  by_driver s (suc d) k lower back bounded (Latch name out next) h q =
      let latch : IsLatch c name s next = subst (λ p. IsLatch c name p next) q h in
      let inside = All-contains (IsWithin size) c.equations (Latch name out next) net.within h in
      let rest = back next d (omega arith) inside.1 (λ n chain. let l = bounded (suc n) (extend c net.single latch chain) in omega arith) in
      (suc rest.0, rest.1, Unfolds.latch latch rest.2)

  tree_below : (bound d : ℕ) → d < bound → (under s k : ℕ) → s < under → s < size → Bounded s d → HasTree s k
  tree_below zero d h under s k l m bounded = absurd (omega arith)
  tree_below (suc bound) d h zero s k l m bounded = absurd (omega arith)
  tree_below (suc bound) d h (suc under) s k l m bounded =
      go (λ f g b. tree_below (suc bound) d h under f k (omega arith) (omega arith) b) (λ next b g w z. tree_below bound b (omega arith) (suc next) next (suc k) (omega arith) w z) (net.driven s m)
    where
      go : ((f : ℕ) → f < s → Bounded f d → HasTree f k) → ((next b : ℕ) → b < d → next < size → Bounded next b → HasTree next (suc k)) → IsDriven c s → HasTree s k
      go lower back (inl i) = input_tree s k i
      go lower back (inr e) = by_driver s d k lower back bounded e.0 e.1 e.2

  -- a signal with a depth has a tree at each shift
  pub net_tree : (s d k : ℕ) → s < size → IsDepth c NoneEnabled s d → HasTree s k
  net_tree s d k h depth = tree_below (suc d) d (omega arith) (suc s) s k (omega arith) h depth.greatest

  -- a place has one depth
  pub one_depth : (s d e : ℕ) → IsDepth c NoneEnabled s d → IsDepth c NoneEnabled s e → d ≡ e
  one_depth s d e l r = let a = l.greatest e r.reached in let b = r.greatest d l.reached in omega arith

  -- and that is the number of latches on the deepest way down
  pub net_tree_at_depth : (s d k : ℕ) → s < size → IsDepth c NoneEnabled s d → (tree : Tree ℕ) × Unfolds c order s k d tree
  net_tree_at_depth s d k h depth =
      let t = net_tree s d k h depth in
      (t.1, subst (λ e. Unfolds c order s k e t.1) (one_depth s t.0 d (tree_depth c net.single t.2) depth) t.2)
