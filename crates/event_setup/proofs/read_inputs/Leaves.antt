-- The variables of pairs of outputs and of enables are inputs that are read.
use Rattle.std.proofs.Common.{◌≡◌, ◌<◌, ℕ, Bool, List, length, map, Option, refl, sym, ap, subst, inl, inr}
use Rattle.std.specs.Prelude.{◌⊎◌}
use Rattle.std.specs.List.{Contains}
use Rattle.std.proofs.lemmas.List.Elements.{Contains-append_cases, Contains-append_left, Contains-append_right}
use Rattle.circuit_theory.specs.Circuit.{Circuit, Named, IsLatch, Reads}
use Rattle.circuit_theory.specs.Joined.{Either, Left, Right, joined, moved_name}
use Rattle.circuit_theory.specs.Query.{Variable, HasLeaf, HasLeafIn}
use Rattle.circuit_theory.specs.Run.{IsEnabled}
use Rattle.circuit_theory.specs.Tree.{Tree, Trees, IsInputNumber}
use Rattle.circuit_theory.proofs.Lists.{Contains-head, Contains-map, Contains-map_from, Contains-tail}
use Rattle.circuit_laws.proofs.JoinedParts.{joined_number, left_is_not_right, left_one, left_part, replace_left, replace_right, right_one, right_part}
use Rattle.circuit_laws.proofs.Parts.{latch_from, reads_from}
use Rattle.circuit_theory.specs.EventFrames.{AreNodeVariables, IsCareTree, IsClassTree, IsEnableTree, IsPairTree}
use Rattle.circuit_theory.specs.Frame.{EventSide, EventUnfolds, EventUnfoldsAll}
use Rattle.flat_net.specs.Sound.{IsSound}
use Rattle.flat_net.specs.View.{circuit_of}
use Rattle.sec_setup.specs.Setup.{AreColumns}
use Rattle.edbf_unfold.specs.class_queries.Enables.{both_of}
use Rattle.event_nodes.specs.View.{EventCircuitView}
use Rattle.event_setup.proofs.read_inputs.Places.{IsShown}
use Rattle.event_setup.proofs.read_inputs.Reading.{IsReadPlace, read_below}

-- the leaves of a tree whose root is read are read inputs
module _ {P : Type 0} (side : EventSide P) where
  abbrev IsReadInput : ℕ → Type 0
  IsReadInput i = (q : P) × IsReadPlace side.circuit q × IsInputNumber side.circuit side.order q i

  mutual
    leaf_read : {put : Option (P × Bool)} {p : P} {node : List ℕ} {tree : Tree (List ℕ)} → EventUnfolds side (IsEnabled side.circuit) put p node tree → IsReadPlace side.circuit p → (y : Variable (List ℕ)) → HasLeaf y tree → IsReadInput y.input
    leaf_read (EventUnfolds.input {p = p} h) read y HasLeaf.leaf = (p, read, h)
    leaf_read (EventUnfolds.gate {out = out} stands all) read y (HasLeaf.inside h) = leaves_read all (λ q m. inl (out, Reads.by_gate stands m)) y h
    leaf_read (EventUnfolds.port {out = out} stands rest) read y h = leaf_read rest (inl (out, Reads.by_port stands)) y h
    leaf_read (EventUnfolds.plain {name = name} {u = u} latch free off rest) read y h = leaf_read rest (inr (inl (name, u, latch))) y h
    leaf_read (EventUnfolds.held {name = name} {u = u} latch free enabled rest) read y h = leaf_read rest (inr (inl (name, u, latch))) y h
    leaf_read (EventUnfolds.fixed {u = u} {bit = bit} {node = node}) read y h = elim h [ ]

    leaves_read : {put : Option (P × Bool)} {ps : List P} {node : List ℕ} {trees : Trees (List ℕ)} → EventUnfoldsAll side (IsEnabled side.circuit) put ps node trees → ((q : P) → Contains ps q → IsReadPlace side.circuit q) → (y : Variable (List ℕ)) → HasLeafIn y trees → IsReadInput y.input
    leaves_read EventUnfoldsAll.none each y h = elim h [ ]
    leaves_read (EventUnfoldsAll.more {p = p} {ps = ps} first rest) each y (HasLeafIn.first h) = leaf_read first (each p (Contains-head p ps)) y h
    leaves_read (EventUnfoldsAll.more {p = p} {ps = ps} first rest) each y (HasLeafIn.later h) = leaves_read rest (λ q m. each q (Contains-tail p q ps m)) y h

  care_read : {start : P → Type 0} (tree : Tree (List ℕ)) → IsCareTree side start tree → (y : Variable (List ℕ)) → HasLeaf y tree → IsReadInput y.input
  care_read tree (IsCareTree.enable {name = name} {v = v} reached latch enabled unfolds) y h = leaf_read unfolds (inr (inl (name, v, latch))) y h

  enable_read : (u : P) (tree : Tree (List ℕ)) → IsEnableTree side u tree → (y : Variable (List ℕ)) → HasLeaf y tree → IsReadInput y.input
  enable_read u tree (IsEnableTree.own {name = name} latch enabled unfolds) y h = leaf_read unfolds (inr (inl (name, u, latch))) y h

  -- the variables of a pair whose places are read, and of two enables
  pub pair_read : (p q : P) → IsReadPlace side.circuit p → IsReadPlace side.circuit q → (variables : List (Variable (List ℕ))) → AreNodeVariables (IsPairTree side p q) variables → (x : Variable (List ℕ)) → Contains variables x → IsReadInput x.input
  pair_read p q at_p at_q variables are x m = let t = (are.exactly x).0 m in go t.0 t.1 t.2
    where
      go : (tree : Tree (List ℕ)) → IsPairTree side p q tree → HasLeaf x tree → IsReadInput x.input
      go tree (inl (inl unfolds)) h = leaf_read unfolds at_p x h
      go tree (inl (inr unfolds)) h = leaf_read unfolds at_q x h
      go tree (inr (inl care)) h = care_read tree care x h
      go tree (inr (inr care)) h = care_read tree care x h

  pub class_read : (u v : P) (variables : List (Variable (List ℕ))) → AreNodeVariables (IsClassTree side u v) variables → (x : Variable (List ℕ)) → Contains variables x → IsReadInput x.input
  class_read u v variables are x m = let t = (are.exactly x).0 m in go t.0 t.1 t.2
    where
      go : (tree : Tree (List ℕ)) → IsClassTree side u v tree → HasLeaf x tree → IsReadInput x.input
      go tree (inl (inl k)) h = enable_read u tree k x h
      go tree (inl (inr k)) h = enable_read v tree k x h
      go tree (inr (inl care)) h = care_read tree care x h
      go tree (inr (inr care)) h = care_read tree care x h

-- what is read in both circuits is read in one of them
module _ (a b : Circuit ℕ) where
  abbrev lefts : List (Named (Either ℕ ℕ))
  lefts = map (moved_name Left) a.outputs

  abbrev rights : List (Named (Either ℕ ℕ))
  rights = map (moved_name Right) b.outputs

  left_read : (u : ℕ) → IsReadPlace (joined a b) (Left u) → IsReadPlace a u
  left_read u (inl (Left p, reads)) =
      let x = reads_from a (joined a b) Left (replace_left a b) (left_part a b) reads p refl in
      inl (p, subst (Reads a p) (left_one x.0 u x.1) x.2)
  left_read u (inl (Right p, reads)) = absurd (let x = reads_from b (joined a b) Right (replace_right a b) (right_part a b) reads p refl in left_is_not_right u x.0 (sym x.1))
  left_read u (inr (inl (name, Left p, latch))) =
      let x = latch_from a (joined a b) Left (replace_left a b) (left_part a b) name p (Left u) latch in
      inr (inl (name, p, subst (IsLatch a name p) (left_one x.0 u x.2) x.1))
  left_read u (inr (inl (name, Right p, latch))) = absurd (let x = latch_from b (joined a b) Right (replace_right a b) (right_part a b) name p (Left u) latch in left_is_not_right u x.0 (sym x.2))
  left_read u (inr (inr (name, there))) = inr (inr (go (Contains-append_cases lefts rights _ there)))
    where
      go : Contains lefts (record { name = name; place = Left u }) ⊎ Contains rights (record { name = name; place = Left u }) → IsShown a u
      go (inl k) = let o = Contains-map_from (moved_name Left) a.outputs _ k in (o.0.name, subst (λ z. Contains a.outputs (record { name = o.0.name; place = z })) (left_one o.0.place u (ap (λ (m : Named (Either ℕ ℕ)). m.place) o.2)) o.1)
      go (inr k) = absurd (let o = Contains-map_from (moved_name Right) b.outputs _ k in left_is_not_right u o.0.place (sym (ap (λ (m : Named (Either ℕ ℕ)). m.place) o.2)))

  right_read : (u : ℕ) → IsReadPlace (joined a b) (Right u) → IsReadPlace b u
  right_read u (inl (Right p, reads)) =
      let x = reads_from b (joined a b) Right (replace_right a b) (right_part a b) reads p refl in
      inl (p, subst (Reads b p) (right_one x.0 u x.1) x.2)
  right_read u (inl (Left p, reads)) = absurd (let x = reads_from a (joined a b) Left (replace_left a b) (left_part a b) reads p refl in left_is_not_right x.0 u x.1)
  right_read u (inr (inl (name, Right p, latch))) =
      let x = latch_from b (joined a b) Right (replace_right a b) (right_part a b) name p (Right u) latch in
      inr (inl (name, p, subst (IsLatch b name p) (right_one x.0 u x.2) x.1))
  right_read u (inr (inl (name, Left p, latch))) = absurd (let x = latch_from a (joined a b) Left (replace_left a b) (left_part a b) name p (Right u) latch in left_is_not_right x.0 u x.2)
  right_read u (inr (inr (name, there))) = inr (inr (go (Contains-append_cases lefts rights _ there)))
    where
      go : Contains lefts (record { name = name; place = Right u }) ⊎ Contains rights (record { name = name; place = Right u }) → IsShown b u
      go (inr k) = let o = Contains-map_from (moved_name Right) b.outputs _ k in (o.0.name, subst (λ z. Contains b.outputs (record { name = o.0.name; place = z })) (right_one o.0.place u (ap (λ (m : Named (Either ℕ ℕ)). m.place) o.2)) o.1)
      go (inl k) = absurd (let o = Contains-map_from (moved_name Left) a.outputs _ k in left_is_not_right o.0.place u (ap (λ (m : Named (Either ℕ ℕ)). m.place) o.2))

  -- an output is one of both
  pub left_shown : (p : ℕ) → IsShown a p → IsReadPlace (joined a b) (Left p)
  left_shown p h = inr (inr (h.0, Contains-append_left lefts rights _ (Contains-map (moved_name Left) a.outputs (record { name = h.0; place = p }) h.1)))

  pub right_shown : (p : ℕ) → IsShown b p → IsReadPlace (joined a b) (Right p)
  right_shown p h = inr (inr (h.0, Contains-append_right lefts rights _ (Contains-map (moved_name Right) b.outputs (record { name = h.0; place = p }) h.1)))

-- a read input of both has the number of a column
module _ (a b : EventCircuitView) (left_sound : IsSound a.net) (right_sound : IsSound b.net) (long : length a.order ≡ length (circuit_of a.net).inputs) (columns : List (List ℕ)) (left_columns : AreColumns a.net columns a.order b.order) (right_columns : AreColumns b.net columns b.order a.order) where
  below : (i : ℕ) → IsReadInput (both_of a b) i → i < length columns
  below i (q, read, number) = go (joined_number (circuit_of a.net) (circuit_of b.net) a.order b.order long q i number)
    where
      go : ((p : ℕ) × (Left p ≡ q) × IsInputNumber (circuit_of a.net) a.order p i) ⊎ ((p : ℕ) × (Right p ≡ q) × IsInputNumber (circuit_of b.net) b.order p i) → i < length columns
      go (inl x) = read_below a.net left_sound columns a.order b.order left_columns x.0 i (left_read (circuit_of a.net) (circuit_of b.net) x.0 (subst (IsReadPlace (joined (circuit_of a.net) (circuit_of b.net))) (sym x.1) read)) x.2
      go (inr x) = read_below b.net right_sound columns b.order a.order right_columns x.0 i (right_read (circuit_of a.net) (circuit_of b.net) x.0 (subst (IsReadPlace (joined (circuit_of a.net) (circuit_of b.net))) (sym x.1) read)) x.2

  -- so has each variable of a pair of outputs, and of two enables
  pub pair_below : (p q : ℕ) → IsShown (circuit_of a.net) p → IsShown (circuit_of b.net) q → (variables : List (Variable (List ℕ))) → AreNodeVariables (IsPairTree (both_of a b) (Left p) (Right q)) variables → (x : Variable (List ℕ)) → Contains variables x → x.input < length columns
  pair_below p q at_p at_q variables are x h =
      below x.input (pair_read (both_of a b) (Left p) (Right q) (left_shown (circuit_of a.net) (circuit_of b.net) p at_p) (right_shown (circuit_of a.net) (circuit_of b.net) q at_q) variables are x h)

  pub class_below : (u v : Either ℕ ℕ) (variables : List (Variable (List ℕ))) → AreNodeVariables (IsClassTree (both_of a b) u v) variables → (x : Variable (List ℕ)) → Contains variables x → x.input < length columns
  class_below u v variables are x h = below x.input (class_read (both_of a b) u v variables are x h)
