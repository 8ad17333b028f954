-- The walk: what waits on the stack, and one visit of it.
use Rattle.std.proofs.Common.{◌≡◌, ℕ, ◌*◌, ◌<◌, ◌⊎◌, inl, inr, List, [], ◌∷◌, ◌++◌, length, slice_get, Some, refl, sym, subst, ◌∙◌, arith, append_assoc}
use Rattle.std.specs.List.{AllZip, Contains}
use Rattle.std.proofs.lemmas.List.{append-nil}
use Rattle.circuit_theory.specs.Tree.{Tree}
use Rattle.circuit_theory.proofs.Lists.{at_of, of_at}
use Rattle.base_tables.specs.Table.{AreDistinct}
use Rattle.base_tables.specs.unique_table.Places.{StandOnce}
use Rattle.flat_net.specs.View.{NetView}
use Rattle.flat_net.specs.Sound.{IsSound}
use Rattle.aig.specs.declared.node.Lit.{Lit}
use Rattle.aig.specs.declared.node.Node.{Node}
use Rattle.aig.specs.Graph.{IsGraph}
use Rattle.aig.proofs.Growth.{Builds-one, Grows-length}
use Rattle.aig.proofs.Insert.{push-cases}
use Rattle.aig.specs.Builds.{Builds}
use Rattle.tree_graph.specs.Making.{Makes}
use Rattle.tree_graph.specs.Rooted.{IsTreeAt}
use Rattle.tree_graph.specs.Walking.{reads_of, IsKnown, AreKnown, MakesEach, IsVisited}
use Rattle.tree_graph.proofs.Lists.{Last, zip_append, zip_last, zip_none}
use Rattle.tree_graph.proofs.Kept.{tree_kept}
use Rattle.tree_graph.proofs.Built.{stays, tree_grown, tree_built}
use Rattle.tree_graph.proofs.Places.{one_at, has_reads}

module _ (places : List (ℕ × ℕ)) where
  each_split : (g h : List Node) (us vs : List (Tree ℕ)) → MakesEach places g (us ++ vs) h → (k : List Node) × MakesEach places g vs k × MakesEach places k us h
  each_split g h [] vs m = (h, m, refl)
  each_split g h (u ∷ us) vs (k, x, rest, here) = let r = each_split g k us vs rest in (r.0, r.1, (k, x, r.2, here))

  each_join : (g k h : List Node) (us vs : List (Tree ℕ)) → MakesEach places g vs k → MakesEach places k us h → MakesEach places g (us ++ vs) h
  each_join g k h [] vs m e = subst (MakesEach places g vs) (sym e) m
  each_join g k h (u ∷ us) vs m (l, x, rest, here) = (l, x, each_join g k l us vs m rest, here)

module _ (n : NetView) (order : List ℕ) (places : List (ℕ × ℕ)) where
  -- to make what waits on the stack, the last first, makes the root's tree
  pub record IsWaiting (root : ℕ × ℕ) (start g : List Node) (stack : List (ℕ × ℕ)) : Type 0 where
    pub trees : List (Tree ℕ)
    pub are : AllZip (IsTreeAt n order) stack trees
    pub makes : (t : Tree ℕ) → IsTreeAt n order root t → (h : List Node) → MakesEach places g trees h → (x : ℕ) × Makes places start t h x

  module _ (root : ℕ × ℕ) (start g : List Node) where
    -- the last place has a tree
    pub last_tree : (stack front : List (ℕ × ℕ)) (p : ℕ × ℕ) → stack ≡ front ++ p ∷ [] → IsWaiting root start g stack → (t : Tree ℕ) × IsTreeAt n order p t
    last_tree stack front p is w = let l = zip_last (IsTreeAt n order) front p w.trees (subst (λ ps. AllZip (IsTreeAt n order) ps w.trees) is w.are) in (l.last, l.here)

    -- after a visit of the last place
    pub waits_on : (h : List Node) (stack front new : List (ℕ × ℕ)) (p : ℕ × ℕ) → stack ≡ front ++ p ∷ [] → IsWaiting root start g stack → ((t : Tree ℕ) → IsTreeAt n order p t → IsVisited n order places p t g h front new) → IsWaiting root start h new
    waits_on h stack front new p is w visit =
        let l : Last (IsTreeAt n order) front p w.trees = zip_last (IsTreeAt n order) front p w.trees (subst (λ ps. AllZip (IsTreeAt n order) ps w.trees) is w.are) in
        let v = visit l.last l.here in
        record {
          trees = l.front ++ v.trees;
          are = subst (λ ps. AllZip (IsTreeAt n order) ps (l.front ++ v.trees)) (sym v.is) (zip_append (IsTreeAt n order) front l.front v.more v.trees l.each v.are_trees);
          makes = λ t is_root k made.
              let s = each_split places h k l.front v.trees made in
              let here = v.makes s.0 s.1 in
              let one : MakesEach places g (l.last ∷ []) s.0 = (g, here.0, refl, here.1) in
              w.makes t is_root k (subst (λ us. MakesEach places g us k) (sym l.is) (each_join places g s.0 k l.front (l.last ∷ []) one s.2));
        }

    -- nothing waits
    pub waits_none : (stack : List (ℕ × ℕ)) → stack ≡ [] → IsWaiting root start g stack → (t : Tree ℕ) → IsTreeAt n order root t → (x : ℕ) × Makes places start t g x
    waits_none stack none w t is = w.makes t is g (subst (λ us. MakesEach places g us g) (sym (zip_none (IsTreeAt n order) w.trees (subst (λ ps. AllZip (IsTreeAt n order) ps w.trees) none w.are))) refl)

  module _ (sound : IsSound n) where
    -- the root alone
    pub waits_root : (root : ℕ × ℕ) (g : List Node) (t : Tree ℕ) → IsTreeAt n order root t → (stack : List (ℕ × ℕ)) → stack ≡ root ∷ [] → IsWaiting root g g stack
    waits_root root g t is stack e = record {
      trees = t ∷ [];
      are = subst (λ ps. AllZip (IsTreeAt n order) ps (t ∷ [])) (sym e) (is, tt);
      makes = λ r is_root h m. made r is_root h m;
    }
      where
        made : (r : Tree ℕ) → IsTreeAt n order root r → (h : List Node) → MakesEach places g (t ∷ []) h → (x : ℕ) × Makes places g r h x
        made r is_root h (k, x, same, here) = (x, subst (λ (u : Tree ℕ). Makes places g u h x) (one_at n order sound root t r is is_root) (subst (λ (z : List Node). Makes places z t h x) same here))

    module _ (p : ℕ × ℕ) where
      -- the place has been made: it leaves the stack
      pub made_visited : (g h : List Node) (old : List (ℕ × ℕ)) (x : ℕ) → ((t : Tree ℕ) → IsTreeAt n order p t → Makes places g t h x) → (t : Tree ℕ) → IsTreeAt n order p t → IsVisited n order places p t g h old old
      made_visited g h old x made t is = record {
        more = [];
        trees = [];
        is = sym (append-nil old);
        are_trees = tt;
        makes = λ k e. (x, subst (λ (z : List Node). Makes places g t z x) (sym e) (made t is));
      }

      -- it had been met
      pub met_visited : (g : List Node) (old : List (ℕ × ℕ)) (x : ℕ) → IsKnown n order places g p x → (t : Tree ℕ) → IsTreeAt n order p t → IsVisited n order places p t g g old old
      met_visited g old x k t is =
          made_visited g g old x (λ r is_r. subst (λ (u : Tree ℕ). Makes places g u g x) (one_at n order sound p k.tree r k.is_tree is_r) (tree_kept g places k.tree x k.builds)) t is

      -- it waits again, below what it reads
      pub put_back : AreDistinct places → (g : List Node) → StandOnce g → (old new : List (ℕ × ℕ)) → new ≡ (old ++ p ∷ []) ++ reads_of n p → (t : Tree ℕ) → IsTreeAt n order p t → IsVisited n order places p t g g old new
      put_back distinct g once old new is t tree =
          let r = has_reads n order sound places distinct tree.1 in
          record {
            more = p ∷ reads_of n p;
            trees = t ∷ r.trees;
            is = is ∙ append_assoc old (p ∷ []) (reads_of n p);
            are_trees = (tree, r.are);
            makes = λ k each. r.makes g k once each;
          }

      -- what is known with one place more
      pub known_more : (g h : List Node) (memo new : List ((ℕ × ℕ) × Lit)) (x : Lit) → AreKnown n order places memo g → (t : Tree ℕ) → IsTreeAt n order p t → Makes places g t h x.0 → x.0 < 2 * length h → new ≡ memo ++ (p, x) ∷ [] → AreKnown n order places new h
      known_more g h memo new x known t tree made within is q y m =
          let at = at_of (memo ++ (p, x) ∷ []) (q, y) (subst (λ es. Contains es (q, y)) is m) in
          by (push-cases memo (p, x) at.0 (q, y) at.1)
        where
          by : {i : ℕ} → (slice_get memo i ≡ Some (q, y)) ⊎ ((i ≡ length memo) × (◌≡◌ {A = (ℕ × ℕ) × Lit} (q, y) (p, x))) → IsKnown n order places h q y.0
          by {i} (inl there) =
              let k = known q y (of_at memo i (q, y) there) in
              let grows = tree_grown places g h t x.0 made in
              record { tree = k.tree; is_tree = k.is_tree; builds = stays places g h grows k.tree y.0 k.builds; within = omega (arith, k.within, Grows-length g h grows) }
          by (inr (e, same)) =
              subst (λ (e : (ℕ × ℕ) × Lit). IsKnown n order places h e.0 e.1.0) (sym same) (record { tree = t; is_tree = tree; builds = tree_built places g h t x.0 made; within = within })

    -- the literal that is known of a place
    pub known_lit : (p : ℕ × ℕ) (g : List Node) (x : ℕ) → IsGraph g → AreDistinct places → IsKnown n order places g p x → (t : Tree ℕ) (y : ℕ) → IsTreeAt n order p t → Builds g places t y → y ≡ x
    known_lit p g x graph distinct k t y is builds =
        Builds-one g graph places distinct t y x builds (subst (λ (u : Tree ℕ). Builds g places u x) (one_at n order sound p k.tree t k.is_tree is) k.builds)
