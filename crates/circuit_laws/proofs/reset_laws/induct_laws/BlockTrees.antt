-- Each signal of two nets has an unfolding over the blocks.
use Rattle.std.proofs.Common.{◌≡◌, ℕ, List, [], ◌∷◌, ◌++◌, length, map, refl, ap, arith, inl, inr}
use Rattle.std.specs.Prelude.{◌⊎◌}
use Rattle.std.specs.List.{Contains}
use Rattle.std.proofs.lemmas.List.{length-append}
use Rattle.circuit_theory.specs.Circuit.{Circuit, Named, IsInput}
use Rattle.circuit_theory.specs.Run.{IsDetermined}
use Rattle.circuit_theory.specs.Tree.{Tree, Trees, Leaf, Branch, Nil, Cons, StandsBeside, IsInputNumber}
use Rattle.circuit_theory.specs.Cone.{Source, AnInput, ALatch}
use Rattle.circuit_theory.specs.Joined.{Either, Left, Right, moved_name, joined}
use Rattle.circuit_laws.proofs.JoinedParts.{left_part, right_part, replace_left, replace_right}
use Rattle.circuit_theory.proofs.Lists.{length-map, Contains-head, Contains-tail, Contains-cases}
use Rattle.circuit_laws.proofs.NetLaws.{net_determined}
use Rattle.circuit_laws.proofs.Parts.{determined_up}
use Rattle.circuit_laws.specs.reset_laws.induct_laws.Queries.{BlockUnfolds, BlockUnfoldsAll}
use Rattle.circuit_laws.specs.reset_laws.induct_laws.Laws.{BlocksHaveTrees}

-- each input has a number, where there is one for each
input_number : {P : Type 0} (inputs : List (Named P)) (order : List ℕ) → length order ≡ length inputs → (n : Named P) → Contains inputs n → (i : ℕ) × StandsBeside inputs order n.place i
input_number [] order same n h = absurd (omega (arith, h.1))
input_number (m ∷ inputs) [] same n h = absurd (omega (arith, same))
input_number {P} (m ∷ inputs) (j ∷ order) same n h = go (λ k. input_number inputs order (omega (arith, same)) n k) (Contains-cases m n inputs h)
  where
    go : (Contains inputs n → (i : ℕ) × StandsBeside inputs order n.place i) → (m ≡ n) ⊎ Contains inputs n → (i : ℕ) × (((m.place ≡ n.place) × (j ≡ i)) ⊎ StandsBeside inputs order n.place i)
    go later (inl e) = (j, inl (ap (λ (x : Named P). x.place) e, refl))
    go later (inr k) = let r = later k in (r.0, inr r.1)

module _ {P : Type 0} (c : Circuit P) (order : List ℕ) (block : P → ℕ) (numbered : (p : P) → IsInput c p → (i : ℕ) × IsInputNumber c order p i) where
  all_trees : (ps : List P) → ((p : P) → Contains ps p → (tree : Tree Source) × BlockUnfolds c order block p tree) → (trees : Trees Source) × BlockUnfoldsAll c order block ps trees
  all_trees [] h = (Nil, BlockUnfoldsAll.none)
  all_trees (p ∷ ps) h =
      let first = h p (Contains-head p ps) in
      let rest = all_trees ps (λ q k. h q (Contains-tail p q ps k)) in
      (Cons first.0 rest.0, BlockUnfoldsAll.more first.1 rest.1)

  tree_of : {p : P} → IsDetermined c p → (tree : Tree Source) × BlockUnfolds c order block p tree
  tree_of {p} (IsDetermined.source (inl i)) = let k = numbered p i in (Leaf k.0 AnInput, BlockUnfolds.input k.1)
  tree_of {p} (IsDetermined.source (inr l)) = (Leaf (block p) ALatch, BlockUnfolds.latch {name = l.0} {next = l.1} l.2)
  tree_of {p} (IsDetermined.gate {fanins = fanins} {cover = cover} eq each) =
      let all = all_trees fanins (λ q h. tree_of (each q h)) in
      (Branch cover all.0, BlockUnfolds.gate {fanins = fanins} {cover = cover} eq all.1)
  tree_of {p} (IsDetermined.port {from = from} eq rest) = let t = tree_of rest in (t.0, BlockUnfolds.port eq t.1)

pub blocks_have_trees : BlocksHaveTrees
blocks_have_trees a b m n left right block na nb long long' = (
  λ p h. tree_of (joined a b) (left ++ right) block numbered (determined_up a (joined a b) Left (replace_left a b) (left_part a b) (net_determined a m na p h)),
  λ q h. tree_of (joined a b) (left ++ right) block numbered (determined_up b (joined a b) Right (replace_right a b) (right_part a b) (net_determined b n nb q h)),
)
  where
    lefts : List (Named (Either ℕ ℕ))
    lefts = map (moved_name {P = ℕ} {Q = Either ℕ ℕ} Left) a.inputs

    rights : List (Named (Either ℕ ℕ))
    rights = map (moved_name {P = ℕ} {Q = Either ℕ ℕ} Right) b.inputs

    same : length (left ++ right) ≡ length (lefts ++ rights)
    same =
        let e : length lefts ≡ length a.inputs = length-map (moved_name {P = ℕ} {Q = Either ℕ ℕ} Left) a.inputs in
        let f : length rights ≡ length b.inputs = length-map (moved_name {P = ℕ} {Q = Either ℕ ℕ} Right) b.inputs in
        omega (arith, e, f, long, long', length-append left right, length-append lefts rights)

    numbered : (p : Either ℕ ℕ) → IsInput (joined a b) p → (i : ℕ) × IsInputNumber (joined a b) (left ++ right) p i
    numbered p i = input_number (lefts ++ rights) (left ++ right) same (record { name = i.0; place = p }) i.1
