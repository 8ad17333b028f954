-- The latches at the chosen places are exposed.
use Rattle.std.proofs.Common.{◌≡◌, ◌≢◌, ◌<◌, ◌∙◌, ℕ, List, [], ◌∷◌, length, map, get_or, slice_get, Some, refl, sym, ap, subst, arith}
use Rattle.std.specs.List.{All, AllPairs}
use Rattle.std.proofs.lemmas.List.{get_or-map, length-map}
use Rattle.std.proofs.lemmas.List.Elements.{All-head, All-tail, All-cons, All-nil, All-get_or}
use Rattle.std.proofs.lemmas.Option.{slice_get-get_or}
use Rattle.circuit_theory.specs.Agree.{IsMinimalCut}
use Rattle.circuit_theory.specs.declared.Mode.{Mode}
use Rattle.latch_graph.specs.flat_net.LatchAt.{LatchAt}
use Rattle.latch_graph.specs.flat_net.Driver.TheVariants as driver
use Rattle.latch_graph.specs.flat_net.View.{NetView, circuit_of}
use Rattle.latch_graph.specs.flat_net.Sound.{IsSound}
use Rattle.latch_graph.specs.flat_net.Cut.{no_latch, latch_at, exposed_names}
use Rattle.latch_graph.proofs.flat_net.Places.{one_at}
use Rattle.latch_graph.specs.Graph.{GraphView, IsGraphOf, IsGraphIn}
use Rattle.latch_graph.proofs.Skipping.{cycle_in_graph}
use Rattle.sec_setup.specs.declared.cut_points.expose_pick.pairs.LatchPair.{LatchPair}
use Rattle.latch_graph.specs.minimal_cut.Chosen.{IsFree, IsMinimalChoice, at_places, names_at}
use Rattle.sec_setup.specs.cut_points.expose_pick.Pairs.{lefts, rights}
use Rattle.sec_setup.specs.cut_points.expose_pick.Laws.{ChosenIsMinimalCut}
use Rattle.sec_setup.specs.cut_points.expose_pick.Laws as laws
use Rattle.sec_setup.proofs.cut_points.expose_pick.Paired.{distinct_by}
use Rattle.sec_setup.specs.declared.cut_points.exposed.Exposure.{Exposure}
use Rattle.sec_setup.specs.cut_points.Common.{common_names, HaveOneName, AreCommon}
use Rattle.sec_setup.specs.cut_points.Exposed.{AreExposed, IsFreeWithout}

-- stands where there is no pair
abbrev no_pair : LatchPair
no_pair = record { left = 0; right = 0 }

-- two latches of a net with one name are one
one_name : (n : NetView) → IsSound n → (i j : ℕ) → i < length n.latches → j < length n.latches → (latch_at n i).name ≡ (latch_at n j).name → i ≡ j
one_name n sound i j l m e =
    let a = sound.latches i (latch_at n i) (slice_get-get_or n.latches i no_latch l) in
    let b = sound.latches j (latch_at n j) (slice_get-get_or n.latches j no_latch m) in
    let out : (latch_at n i).out.0 ≡ (latch_at n j).out.0 = sound.distinct (latch_at n i).out.0 (latch_at n j).out.0 (latch_at n j).name (subst (λ z. slice_get n.names (latch_at n i).out.0 ≡ Some z) e a.named) b.named in
    same_latch (one_at n.drivers (latch_at n j).out.0 (driver.Latch i) (driver.Latch j) (subst (λ z. slice_get n.drivers z ≡ Some (driver.Latch i)) out a.owner) b.owner)
  where
    same_latch : driver.Latch i ≡ driver.Latch j → i ≡ j
    same_latch e = cc

-- what follows of each element
all_then : {X : Type 0} (P Q : X → Type 0) (xs : List X) → ((x : X) → P x → Q x) → All P xs → All Q xs
all_then P Q [] follows all = All-nil Q
all_then P Q (x ∷ xs) follows all = All-cons Q x xs (follows x (All-head P x xs all)) (all_then P Q xs follows (All-tail P x xs all))

all_mapped : {X Y : Type 0} (P : X → Type 0) (Q : Y → Type 0) (f : X → Y) (xs : List X) → ((x : X) → P x → Q (f x)) → All P xs → All Q (map f xs)
all_mapped P Q f [] follows all = All-nil Q
all_mapped P Q f (x ∷ xs) follows all = All-cons Q (f x) (map f xs) (follows x (All-head P x xs all)) (all_mapped P Q f xs follows (All-tail P x xs all))

module _ (h : LatchPair → ℕ) (common : List LatchPair) where
  -- the number of a pair at a place
  number_at : (k : ℕ) → k < length common → get_or (map h common) k 0 ≡ h (get_or common k no_pair)
  number_at k inside = get_or-map h common k no_pair 0 inside

  -- what holds of each two pairs holds of those at increasing places
  pairs_at : (R : ℕ → ℕ → Type 0) → AllPairs (λ (p q : LatchPair). R (h p) (h q)) common → (places : List ℕ) → AllPairs (λ (j k : ℕ). j < k) places → All (λ (k : ℕ). k < length common) places →
      AllPairs (λ (j k : ℕ). R (get_or (map h common) j 0) (get_or (map h common) k 0)) places
  pairs_at R each places increasing within i j d less inside =
      let first = get_or places i d in
      let second = get_or places j d in
      let order : first < second = increasing i j d less inside in
      let below : second < length common = All-get_or (λ (k : ℕ). k < length common) places j d inside within in
      let above : first < length common = omega arith in
      subst (λ (x : ℕ). R x (get_or (map h common) second 0)) (sym (number_at first above))
      (subst (λ (y : ℕ). R (h (get_or common first no_pair)) y) (sym (number_at second below)) (each first second no_pair order below))

-- the numbers of increasing places in order
in_order_mapped : (f : ℕ → ℕ) (places : List ℕ) → AllPairs (λ (j k : ℕ). f j < f k) places → AllPairs (λ (j k : ℕ). j < k) (map f places)
in_order_mapped f places each i j d less inside =
    let below : j < length places = omega (arith, length-map places f, inside) in
    let above : i < length places = omega arith in
    let order = each i j 0 less below in
    omega (arith, get_or-map f places i 0 d above, get_or-map f places j 0 d below, order)

-- where no cycle of the graph is left, none of the circuit is in the mode
free_in : (mode : Mode) (n : NetView) (g : GraphView) → IsGraphIn mode n g → (positions : List ℕ) → IsFree g positions → IsFreeWithout mode n (names_at g.latches positions)
free_in mode n g is positions free cycle =
    free n is.graph (cycle_in_graph mode n g is (names_at g.latches positions) cycle)

module _ (a b : NetView) (ga gb : GraphView) (of_a : IsGraphOf a ga) (of_b : IsGraphOf b gb) (common : List LatchPair) (are : AreCommon a b common) where
  pub left_once : AllPairs (λ (p q : LatchPair). p.left ≢ q.left) common
  left_once i j d less inside e = let order = are.in_order i j d less inside in omega (arith, order, e)

  pub right_once : AllPairs (λ (p q : LatchPair). p.right ≢ q.right) common
  right_once i j d less inside e =
      let p = All-get_or (HaveOneName a.latches b.latches) common i d (omega arith) are.each in
      let q = All-get_or (HaveOneName a.latches b.latches) common j d inside are.each in
      left_once i j d less inside
      (one_name a of_a.sound (get_or common i d).left (get_or common j d).left p.left q.left (p.name ∙ ap (λ (k : ℕ). (latch_at b k).name) e ∙ sym q.name))

  graph_named : All (laws.HaveOneName ga gb) common
  graph_named = all_then (HaveOneName a.latches b.latches) (laws.HaveOneName ga gb) common one are.each
    where
      one : (p : LatchPair) → HaveOneName a.latches b.latches p → laws.HaveOneName ga gb p
      one p h =
          let k : HaveOneName ga.latches gb.latches p =
          subst (λ (ls : List LatchAt). HaveOneName ls gb.latches p) (sym of_a.latches) (subst (λ (ls : List LatchAt). HaveOneName a.latches ls p) (sym of_b.latches) h) in
          record { left = k.left; right = k.right; name = k.name }

  -- the names of the pairs' latches, from both sides
  right_named : (pairs : List LatchPair) → All (HaveOneName a.latches b.latches) pairs → exposed_names b (rights pairs) ≡ exposed_names a (lefts pairs)
  right_named [] all = refl
  right_named (p ∷ pairs) all =
      let h = All-head (HaveOneName a.latches b.latches) p pairs all in
      ap (λ (name : List ℕ). name ∷ exposed_names b (rights pairs)) (sym h.name)
      ∙ ap (λ (names : List (List ℕ)). (latch_at a p.left).name ∷ names) (right_named pairs (All-tail (HaveOneName a.latches b.latches) p pairs all))

  pub left_common : names_at ga.latches (lefts common) ≡ common_names (circuit_of a) (circuit_of b)
  left_common = ap (λ (ls : List LatchAt). names_at ls (lefts common)) of_a.latches ∙ are.names

  pub right_common : names_at gb.latches (rights common) ≡ common_names (circuit_of a) (circuit_of b)
  right_common = ap (λ (ls : List LatchAt). names_at ls (rights common)) of_b.latches ∙ right_named common are.each ∙ are.names

  pub left_free : (mode : Mode) → IsGraphIn mode a ga → IsFree ga (lefts common) → IsFreeWithout mode a (common_names (circuit_of a) (circuit_of b))
  left_free mode is free = subst (IsFreeWithout mode a) left_common (free_in mode a ga is (lefts common) free)

  pub right_free : (mode : Mode) → IsGraphIn mode b gb → IsFree gb (rights common) → IsFreeWithout mode b (common_names (circuit_of a) (circuit_of b))
  right_free mode is free = subst (IsFreeWithout mode b) right_common (free_in mode b gb is (rights common) free)

  module _ (mode : Mode) (in_a : IsGraphIn mode a ga) (in_b : IsGraphIn mode b gb) (places : List ℕ) (choice : IsMinimalChoice ga gb (lefts common) (rights common) places) where
    pub places_within : All (λ (k : ℕ). k < length common) places
    places_within = subst (λ (n : ℕ). All (λ (k : ℕ). k < n) places) (length-map common (λ (p : LatchPair). p.left)) choice.within

    -- the names of the latches at the places, from both sides
    right_at : (ks : List ℕ) → All (λ (k : ℕ). k < length common) ks → exposed_names b (at_places (rights common) ks) ≡ exposed_names a (at_places (lefts common) ks)
    right_at [] within = refl
    right_at (k ∷ ks) within =
        let inside = All-head (λ (k : ℕ). k < length common) k ks within in
        let h = All-get_or (HaveOneName a.latches b.latches) common k no_pair inside are.each in
        let one : (latch_at b (get_or (rights common) k 0)).name ≡ (latch_at a (get_or (lefts common) k 0)).name =
        ap (λ (j : ℕ). (latch_at b j).name) (number_at (λ p. p.right) common k inside) ∙ sym h.name ∙ ap (λ (j : ℕ). (latch_at a j).name) (sym (number_at (λ p. p.left) common k inside)) in
        ap (λ (name : List ℕ). name ∷ exposed_names b (at_places (rights common) ks)) one
        ∙ ap (λ (names : List (List ℕ)). (latch_at a (get_or (lefts common) k 0)).name ∷ names) (right_at ks (All-tail (λ (k : ℕ). k < length common) k ks within))

    -- such a choice, with its names
    made : ChosenIsMinimalCut → IsFree ga (lefts common) → IsFree gb (rights common) →
        AreExposed mode a b (record { names = exposed_names a (at_places (lefts common) places); left = at_places (lefts common) places; right = at_places (rights common) places })
    made law free_a free_b = record {
      minimal =
          subst (λ (ls : List LatchAt). IsMinimalCut mode (circuit_of a) (circuit_of b) (names_at ls (at_places (lefts common) places))) of_a.latches
          (law mode a b ga gb common places in_a in_b graph_named choice);
      in_order =
          in_order_mapped (λ (k : ℕ). get_or (lefts common) k 0) places (pairs_at (λ p. p.left) common (λ (j k : ℕ). j < k) are.in_order places choice.increasing places_within);
      left_within = all_mapped (λ (k : ℕ). k < length common) (λ (j : ℕ). j < length a.latches) (λ (k : ℕ). get_or (lefts common) k 0) places
          (λ k inside. subst (λ (j : ℕ). j < length a.latches) (sym (number_at (λ p. p.left) common k inside)) (All-get_or (HaveOneName a.latches b.latches) common k no_pair inside are.each).left) places_within;
      right_within = all_mapped (λ (k : ℕ). k < length common) (λ (j : ℕ). j < length b.latches) (λ (k : ℕ). get_or (rights common) k 0) places
          (λ k inside. subst (λ (j : ℕ). j < length b.latches) (sym (number_at (λ p. p.right) common k inside)) (All-get_or (HaveOneName a.latches b.latches) common k no_pair inside are.each).right) places_within;
      left_distinct =
          distinct_by (λ (k : ℕ). get_or (lefts common) k 0) places (pairs_at (λ p. p.left) common (λ (j k : ℕ). j ≢ k) left_once places choice.increasing places_within);
      right_distinct =
          distinct_by (λ (k : ℕ). get_or (rights common) k 0) places (pairs_at (λ p. p.right) common (λ (j k : ℕ). j ≢ k) right_once places choice.increasing places_within);
      left_names = refl;
      right_names = right_at places places_within;
      paired = (left_free mode in_a free_a, right_free mode in_b free_b);
    }

    pub exposed : ChosenIsMinimalCut → IsFree ga (lefts common) → IsFree gb (rights common) → (e : Exposure) → e.left ≡ at_places (lefts common) places → e.right ≡ at_places (rights common) places →
        e.names ≡ exposed_names a (at_places (lefts common) places) → AreExposed mode a b e
    exposed law free_a free_b e left right names =
        subst (λ (ns : List (List ℕ)). AreExposed mode a b (record { names = ns; left = e.left; right = e.right })) (sym names)
        (subst (λ (l : List ℕ). AreExposed mode a b (record { names = exposed_names a (at_places (lefts common) places); left = l; right = e.right })) (sym left)
        (subst (λ (r : List ℕ). AreExposed mode a b (record { names = exposed_names a (at_places (lefts common) places); left = at_places (lefts common) places; right = r })) (sym right)
        (made law free_a free_b)))

-- the positions at the places are those of latches
pub lefts_within : (n : ℕ) (common : List LatchPair) → All (λ (p : LatchPair). p.left < n) common → (places : List ℕ) → All (λ (k : ℕ). k < length common) places → All (λ (j : ℕ). j < n) (at_places (lefts common) places)
lefts_within n common below places within = all_mapped (λ (k : ℕ). k < length common) (λ (j : ℕ). j < n) (λ (k : ℕ). get_or (lefts common) k 0) places
    (λ k inside. subst (λ (j : ℕ). j < n) (sym (number_at (λ p. p.left) common k inside)) (All-get_or (λ (p : LatchPair). p.left < n) common k no_pair inside below)) within
