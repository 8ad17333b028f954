-- A latch that loads in every cycle is of class 0, and the sequence of its difference from the constant 0 makes the two differ in all runs.
use Rattle.std.proofs.Common.{◌≡◌, ℕ, zero, suc, ◌<◌, ◌≤◌, Bool, true, false, List, [], ◌∷◌, refl, sym, ◌∙◌, subst, arith, inl, inr, Some, None}
use Rattle.std.specs.Prelude.{◌⊎◌, ◌||◌, not, codes}
use Rattle.std.specs.List.{Contains}
use Rattle.std.proofs.lemmas.List.Elements.{All-contains, All-nil, All-cons}
use Rattle.circuit_theory.specs.Cover.{cover_value}
use Rattle.circuit_theory.specs.Circuit.{Gate, IsLatch, IsSource, IsSingleDriven, InCone, Reads, Reaches, Holds}
use Rattle.circuit_theory.specs.Run.{ExtendsWith, IsEnabled}
use Rattle.circuit_theory.specs.Net.{IsNet}
use Rattle.circuit_theory.specs.Depth.{LatchChain, ChainFrom, IsDepth, LatchesHaveDepths}
use Rattle.circuit_theory.specs.Tree.{Tree, Leaf, Fixed, Branch, Nil, Cons, AreNumbered, IsInputNumber, StandsBeside, tree_value}
use Rattle.circuit_theory.specs.Query.{Variable, HasLeaf, HasLeafIn, Distinguishes, bits_of}
use Rattle.circuit_theory.specs.Joined.{Either, Left, Right}
use Rattle.circuit_theory.specs.Fits.{MakesDiffer}
use Rattle.circuit_theory.specs.Frame.{EventUnfolds, EventUnfoldsAll, ConeLatches, ConeOthers, ReachedAt, IsEnable, HasCare}
use Rattle.circuit_theory.specs.Classes.{IsInFirstClass, HasClasses}
use Rattle.circuit_theory.specs.EventQueries.{IsEventPairQuery}
use Rattle.circuit_theory.specs.EventFrames.{IsCareTree, AreNodeVariables, IsPairTree, frame_of, HaveDifferentEvents, IsEventDifference}
use Rattle.circuit_theory.specs.EventFits.{ReachesAlways}
use Rattle.circuit_theory.proofs.Inputs.{beside_is_input}
use Rattle.circuit_theory.proofs.Lists.{Contains-head, only}
use Rattle.circuit_theory.proofs.Numbers.{one_place}
use Rattle.circuit_laws.proofs.JoinedParts.{joined_same, joined_single, joined_number_once}
use Rattle.circuit_laws.proofs.finite_laws.EnabledDecided.{gate_reads, steps}
use Rattle.circuit_laws.proofs.event_laws.EventTrees.{one_event_tree, one_enable}
use Rattle.circuit_laws.proofs.event_laws.EventVariables.{event_difference_gives_witness}
use Rattle.circuit_laws.proofs.event_laws.EventWindows.{event_witness_makes_differ_in_nets}
use Rattle.call_rows.proofs.circuit_samples.NetTest.{net_test-sound, numbers_distinct-sound}
use Rattle.call_rows.proofs.circuit_samples.Each.{each_latch, each_split}
use Rattle.call_rows.specs.circuit_samples.event_samples.Samples.{same_cover}
use Rattle.call_rows.specs.circuit_samples.event_samples.Premises.{AreEventSides}
use Rattle.call_rows.specs.circuit_samples.event_samples.Always.{first_cover, nothing_cover, always_loads, nothing, always_both, no_class, always_side, always_query, always_variables}

left_net : IsNet always_loads 4
left_net = net_test-sound always_loads 4 refl

right_net : IsNet nothing 2
right_net = net_test-sound nothing 2 refl

abbrev one_number : List ℕ
one_number = 0 ∷ []

numbered : AreNumbered always_loads nothing one_number one_number
numbered = record {
  left_once = λ p q i h k. once p q i h k;
  right_once = λ p q i h k. once p q i h k;
  shared = λ p q i h k. let n = beside_is_input always_loads.inputs one_number p i h in (n.0, n.1, subst (λ z. Contains nothing.inputs (record { name = n.0; place = z })) (once p q i h k) n.1);
}
  where
    once : (p q i : ℕ) → StandsBeside always_loads.inputs one_number p i → StandsBeside always_loads.inputs one_number q i → p ≡ q
    once p q i h k = one_place always_loads.inputs one_number (numbers_distinct-sound one_number refl) p q i h k

abbrev On : Either ℕ ℕ → Type 0
On = IsEnabled always_both

single : IsSingleDriven always_both
single = joined_single always_loads nothing 4 2 left_net right_net

number_once : (p : Either ℕ ℕ) (i j : ℕ) → IsInputNumber always_both always_side.order p i → IsInputNumber always_both always_side.order p j → i ≡ j
number_once p i j h k = joined_number_once always_loads nothing 4 2 left_net right_net one_number one_number refl p i j h k

first_bit : (a b : Bool) → cover_value first_cover (a ∷ b ∷ []) ≡ a
unfolding cover_value
first_bit true true = refl
first_bit true false = refl
first_bit false true = refl
first_bit false false = refl

same_bit : (b : Bool) → cover_value same_cover (b ∷ []) ≡ b
unfolding cover_value
same_bit true = refl
same_bit false = refl

no_bit : cover_value nothing_cover [] ≡ false
unfolding cover_value
no_bit = refl

q_latch : IsLatch always_both (codes "q") (Left 1) (Left 2)
q_latch = (2, omega arith, refl)

-- q is the one latch
latch_is : (name : List ℕ) (u next : Either ℕ ℕ) → IsLatch always_both name u next → (Left 1 ≡ u) × (Left 2 ≡ next)
latch_is name u next latch = each_latch (λ m v to. (Left 1 ≡ v) × (Left 2 ≡ to)) always_both.equations ((refl, refl), tt) name u next latch

a_is_input : IsSource always_both (Left 0)
a_is_input = inl (codes "a", (0, omega arith, refl))

-- with q put to either bit it takes over a
next_value : (bit : Bool) (x v : Either ℕ ℕ → Bool) → ExtendsWith always_both (Left 1) bit x v → v (Left 2) ≡ x (Left 0)
next_value bit x v ex =
    let gate : v (Left 2) ≡ cover_value first_cover (v (Left 0) ∷ v (Left 1) ∷ []) = All-contains (Holds v) always_both.equations (Gate (Left 2) (Left 0 ∷ Left 1 ∷ []) first_cover) ex.meets (0, omega arith, refl) in
    gate ∙ (first_bit (v (Left 0)) (v (Left 1)) ∙ ex.sources (Left 0) a_is_input (λ e. apart e))
  where
    apart : ◌≡◌ {A = Either ℕ ℕ} (Left 0) (Left 1) → ⊥
    apart e = cc

pub q_enabled : IsEnabled always_both (Left 1)
q_enabled = record {
  name = codes "q";
  next = Left 2;
  latch = q_latch;
  self_edge = (inr (codes "q", Left 2, q_latch), Reaches.there (Reads.by_gate {fanins = Left 0 ∷ Left 1 ∷ []} (0, omega arith, refl) (1, omega arith, refl)) Reaches.here);
  rises = λ x low high l h e. next_value true x high h ∙ (sym (next_value false x low l) ∙ e);
}

no_others : (u w : Either ℕ ℕ) → ConeOthers always_both On u w → ⊥
no_others u w others =
    let l = latch_is others.0 u others.1 others.2 in
    let r = latch_is others.3.0 w others.3.1 others.3.2 in
    others.4 (subst On l.0 q_enabled) (sym r.0 ∙ l.0)

short : {u : Either ℕ ℕ} {n : ℕ} → LatchChain always_both On u n → n ≤ 1
short (LatchChain.last latch) = omega arith
short (LatchChain.more {u = u} {v = v} e rest) = absurd (no_others u v (e.name, e.next, e.latch, (e.other_name, e.other_next, e.other, e.cone.1), λ en q. e.no_self_edge en (sym q)))

depth_of : (p u : Either ℕ ℕ) → InCone always_both p u → Left 1 ≡ u → IsDepth always_both On p 1
depth_of p u cone e = record { reached = inr (u, cone, subst (λ v. LatchChain always_both On v 1) e (LatchChain.last {next = Left 2} {name = codes "q"} q_latch)); greatest = greatest }
  where
    greatest : (k : ℕ) → ChainFrom always_both On p k → k ≤ 1
    greatest k (inl h) = omega arith
    greatest k (inr x) = short x.2

depths : LatchesHaveDepths always_both On
depths name u next latch = (1, depth_of u u (inr (name, next, latch), Reaches.here) (latch_is name u next latch).0)

y_reads_q : Reaches always_both (Left 3) (Left 1)
y_reads_q = Reaches.there (Reads.by_gate {fanins = Left 1 ∷ []} (1, omega arith, refl) (0, omega arith, refl)) Reaches.here

pub left_depth : IsDepth always_both (IsEnabled always_both) (Left 3) 1
left_depth = depth_of (Left 3) (Left 1) (inr (codes "q", Left 2, q_latch), y_reads_q) refl

-- the constant reads nothing
nothing_read : (u : Either ℕ ℕ) (name : List ℕ) (next : Either ℕ ℕ) → IsLatch always_both name u next → Reaches always_both (Right 1) u → ⊥
nothing_read u name next latch reaches = go (steps always_both joined_same single reaches)
  where
    go : (Right 1 ≡ u) ⊎ ((q : Either ℕ ℕ) × Reads always_both (Right 1) q × Reaches always_both q u) → ⊥
    go (inl e) = other ((latch_is name u next latch).0 ∙ sym e)
      where
        other : ◌≡◌ {A = Either ℕ ℕ} (Left 1) (Right 1) → ⊥
        other d = cc
    go (inr r) = omega (arith, (gate_reads always_both joined_same single [] nothing_cover (3, omega arith, refl) r.1).1)

pub right_depth : IsDepth always_both (IsEnabled always_both) (Right 1) 0
right_depth = record { reached = inl refl; greatest = greatest }
  where
    none : {u : Either ℕ ℕ} {n : ℕ} → LatchChain always_both On u n → Reaches always_both (Right 1) u → n ≤ 0
    none (LatchChain.last {u = u} {next = next} {name = name} latch) r = absurd (nothing_read u name next latch r)
    none (LatchChain.more {u = u} e rest) r = absurd (nothing_read u e.name e.next e.latch r)

    greatest : (k : ℕ) → ChainFrom always_both On (Right 1) k → k ≤ 0
    greatest k (inl h) = omega arith
    greatest k (inr x) = none x.2 x.1.1

-- the two functions of q at a node
abbrev next_tree : Bool → List ℕ → Tree (List ℕ)
next_tree bit node = Branch first_cover (Cons (Leaf 0 node) (Cons (Fixed bit) Nil))

next_unfolds : (bit : Bool) (node : List ℕ) → EventUnfolds always_side On (Some (Left 1, bit)) (Left 2) node (next_tree bit node)
next_unfolds bit node = EventUnfolds.gate {fanins = Left 0 ∷ Left 1 ∷ []} (0, omega arith, refl) (EventUnfoldsAll.more (EventUnfolds.input (inl (refl, refl))) (EventUnfoldsAll.more EventUnfolds.fixed EventUnfoldsAll.none))

-- its enable is 1 everywhere
q_enable : (bits : ℕ → List ℕ → Bool) (node : List ℕ) → IsEnable always_side On bits (Left 1) node true
unfolding tree_value
q_enable bits node = IsEnable.own q_enabled q_latch (next_unfolds false node) (next_unfolds true node) (one (bits 0 node))
  where
    or_not : (x y b : Bool) → x ≡ b → y ≡ b → (x || not y) ≡ true
    or_not true y b h k = refl
    or_not false false b h k = refl
    or_not false true b h k = h ∙ sym k

    one : (a : Bool) → (cover_value first_cover (a ∷ false ∷ []) || not (cover_value first_cover (a ∷ true ∷ []))) ≡ true
    one a = or_not (cover_value first_cover (a ∷ false ∷ [])) (cover_value first_cover (a ∷ true ∷ [])) a (first_bit a false) (first_bit a true)

q_enable_is : (bits : ℕ → List ℕ → Bool) (node : List ℕ) (x : Bool) → IsEnable always_side On bits (Left 1) node x → x ≡ true
q_enable_is bits node x h = one_enable always_side On single number_once bits (Left 1) node x true h (q_enable bits node)

-- each frame has care for what reaches q alone
has_care : (start : Either ℕ ℕ → Type 0) → ((v : Either ℕ ℕ) → start v → Left 1 ≡ v) → (bits : ℕ → List ℕ → Bool) → HasCare always_side On start bits
has_care start only_q bits [] v h = subst (λ u. IsEnable always_side On bits u (0 ∷ []) true) (only_q v h) (q_enable bits (0 ∷ []))
has_care start only_q bits (k ∷ node) v h = absurd (no_others h.0 v h.3)

cone_is_q : (p v : Either ℕ ℕ) → ConeLatches always_both p v → Left 1 ≡ v
cone_is_q p v cone = (latch_is cone.0 v cone.1 cone.2).0

pub classes : HasClasses always_side
classes = record {
  numbered = refl;
  order = Left 1 ∷ [];
  is_order = record {
    all = λ u en. subst (Contains (Left 1 ∷ [])) (latch_is en.name u en.next en.latch).0 (0, omega arith, refl);
    enabled = λ u h. subst On (only (Left 1) u h) q_enabled;
    in_order = λ i j d l h. absurd (omega arith);
  };
  is_map = record { plain = λ name u next latch off. refl; each = λ front after v e. each_split (IsInFirstClass always_side) (Left 1 ∷ []) (first, tt) front after v e };
}
  where
    first : IsInFirstClass always_side [] (Left 1)
    first = record { not_past_next = omega arith; joins = λ l bits x care at. q_enable_is bits [] x at; not_earlier = λ k h. absurd (omega arith) }

pub always_sides : AreEventSides always_loads nothing 4 2 (0 ∷ []) (0 ∷ []) no_class
always_sides = record { left_net = left_net; right_net = right_net; numbered = numbered; left_long = refl; right_long = refl; classes = classes; depths = depths }

abbrev pub left_tree : Tree (List ℕ)
left_tree = Branch same_cover (Cons (next_tree false (0 ∷ [])) Nil)

abbrev pub right_tree : Tree (List ℕ)
right_tree = Branch nothing_cover Nil

pub left_unfolds : EventUnfolds always_side (IsEnabled always_both) None (Left 3) [] left_tree
left_unfolds = EventUnfolds.gate {fanins = Left 1 ∷ []} (1, omega arith, refl) (EventUnfoldsAll.more (EventUnfolds.held {name = codes "q"} {next = Left 2} q_latch tt q_enabled (next_unfolds false (0 ∷ []))) EventUnfoldsAll.none)

pub right_unfolds : EventUnfolds always_side (IsEnabled always_both) None (Right 1) [] right_tree
right_unfolds = EventUnfolds.gate {fanins = []} (3, omega arith, refl) EventUnfoldsAll.none

pub left_value : (bits : ℕ → List ℕ → Bool) → bits 0 (0 ∷ []) ≡ tree_value bits left_tree
unfolding tree_value
left_value bits = sym (same_bit (cover_value first_cover (bits 0 (0 ∷ []) ∷ false ∷ [])) ∙ first_bit (bits 0 (0 ∷ [])) false)

pub right_value : (bits : ℕ → List ℕ → Bool) → false ≡ tree_value bits right_tree
unfolding tree_value
right_value bits = sym no_bit

pub care_of : (p : Either ℕ ℕ) (bits : ℕ → List ℕ → Bool) → HasCare always_side (IsEnabled always_both) (ConeLatches always_both p) bits
care_of p bits = has_care (ConeLatches always_both p) (cone_is_q p) bits

asks : IsEventPairQuery always_side (Left 3) (Right 1) always_query
asks = record {
  left_tree = left_tree;
  right_tree = right_tree;
  left_unfolds = left_unfolds;
  right_unfolds = right_unfolds;
  left = left_value;
  right = right_value;
  care = λ bits. (λ e. (care_of (Left 3) bits, care_of (Right 1) bits), λ h. refl);
}

abbrev pub the_variable : Variable (List ℕ)
the_variable = record { input = 0; at = 0 ∷ [] }

-- the one leaf of each tree of the pair
LeafOf : Tree (List ℕ) → Type 0
LeafOf tree = (x : Variable (List ℕ)) → HasLeaf x tree → the_variable ≡ x

same_leaf : (i : ℕ) (at : List ℕ) (x : Variable (List ℕ)) → HasLeaf x (Leaf i at) → record { input = i; at = at } ≡ x
same_leaf i at x HasLeaf.leaf = refl

next_leaf : (bit : Bool) (x : Variable (List ℕ)) → HasLeaf x (next_tree bit (0 ∷ [])) → the_variable ≡ x
next_leaf bit x (HasLeaf.inside (HasLeafIn.first h)) = same_leaf 0 (0 ∷ []) x h
next_leaf bit x (HasLeaf.inside (HasLeafIn.later (HasLeafIn.first h))) = absurd (fixed_leaf h)
  where
    fixed_leaf : HasLeaf x (Fixed bit) → ⊥
    fixed_leaf k = elim k [ ]
next_leaf bit x (HasLeaf.inside (HasLeafIn.later (HasLeafIn.later h))) = absurd (elim h [ ])

left_leaf : (x : Variable (List ℕ)) → HasLeaf x left_tree → the_variable ≡ x
left_leaf x (HasLeaf.inside (HasLeafIn.first h)) = next_leaf false x h
left_leaf x (HasLeaf.inside (HasLeafIn.later h)) = absurd (elim h [ ])

right_leaf : (x : Variable (List ℕ)) → HasLeaf x right_tree → the_variable ≡ x
right_leaf x (HasLeaf.inside h) = absurd (elim h [ ])

care_leaf : (start : Either ℕ ℕ → Type 0) → ((v : Either ℕ ℕ) → start v → Left 1 ≡ v) → (tree : Tree (List ℕ)) → IsCareTree always_side start tree → (x : Variable (List ℕ)) → HasLeaf x tree → the_variable ≡ x
care_leaf start only_q tree (IsCareTree.enable {node = node} {name = name} {v = v} {next = next} {bit = bit} {tree = t} reached latch on unfolds) x h = at node reached unfolds
  where
    at : (node : List ℕ) → ReachedAt always_side On start node v → EventUnfolds always_side On (Some (v, bit)) next (0 ∷ node) t → the_variable ≡ x
    at [] r u =
        let l = latch_is name v next latch in
        let moved : EventUnfolds always_side On (Some (Left 1, bit)) (Left 2) (0 ∷ []) t = subst (λ w. EventUnfolds always_side On (Some (w, bit)) (Left 2) (0 ∷ []) t) (sym l.0) (subst (λ w. EventUnfolds always_side On (Some (v, bit)) w (0 ∷ []) t) (sym l.1) u) in
        let e : t ≡ next_tree bit (0 ∷ []) = one_event_tree always_side On single number_once (codes "q", Left 2, q_latch) moved (next_unfolds bit (0 ∷ [])) in
        next_leaf bit x (subst (HasLeaf x) e h)
    at (k ∷ rest) r u = absurd (no_others r.0 v r.3)

pub pair_leaf : (tree : Tree (List ℕ)) → IsPairTree always_side (Left 3) (Right 1) tree → (x : Variable (List ℕ)) → HasLeaf x tree → the_variable ≡ x
pair_leaf tree (inl (inl u)) x h = left_leaf x (subst (HasLeaf x) (one_event_tree always_side On single number_once tt u left_unfolds) h)
pair_leaf tree (inl (inr u)) x h = right_leaf x (subst (HasLeaf x) (one_event_tree always_side On single number_once tt u right_unfolds) h)
pair_leaf tree (inr (inl c)) x h = care_leaf (ConeLatches always_both (Left 3)) (cone_is_q (Left 3)) tree c x h
pair_leaf tree (inr (inr c)) x h = care_leaf (ConeLatches always_both (Right 1)) (cone_is_q (Right 1)) tree c x h

pub left_has_leaf : HasLeaf the_variable left_tree
left_has_leaf = HasLeaf.inside (HasLeafIn.first (HasLeaf.inside (HasLeafIn.first HasLeaf.leaf)))

-- one variable, where each wanted tree has that leaf alone, and the first side's tree is wanted
pub variables_of : (wanted : Tree (List ℕ) → Type 0) → wanted left_tree → ((tree : Tree (List ℕ)) → wanted tree → (x : Variable (List ℕ)) → HasLeaf x tree → the_variable ≡ x) → AreNodeVariables wanted always_variables
variables_of wanted has leaf = record {
  in_order = λ i j d l h. absurd (omega arith);
  exactly = λ x. ((λ h. subst Found (only the_variable x h) (left_tree, has, left_has_leaf)), λ f. subst (Contains always_variables) (leaf f.0 f.1 x f.2) (Contains-head the_variable []));
}
  where
    Found : Variable (List ℕ) → Type 0
    Found x = (tree : Tree (List ℕ)) × wanted tree × HasLeaf x tree

pub always_are_variables : AreNodeVariables (IsPairTree always_side (Left 3) (Right 1)) always_variables
always_are_variables = variables_of (IsPairTree always_side (Left 3) (Right 1)) (inl (inl left_unfolds)) pair_leaf

apart : true ≡ false → ⊥
apart e = cc

distinguishes : Distinguishes always_query (frame_of always_variables (true ∷ []))
distinguishes = record { care = refl; differs = apart }

least : (m : ℕ) → m < 1 → Distinguishes always_query (frame_of always_variables (bits_of m 1)) → ⊥
least zero h d = d.differs refl
least (suc m) h d = omega arith

pub always_difference : IsEventDifference always_side (Left 3) (Right 1) always_query always_variables (true ∷ [])
always_difference = record { asks = asks; are_variables = always_are_variables; each = refl; distinguishes = distinguishes; least = λ le. (1, refl, record { in_range = omega arith; distinguishes = distinguishes; least = least }) }

pub left_always : ReachesAlways always_side (Left 3)
left_always node u h = refl

pub right_always : ReachesAlways always_side (Right 1)
right_always node u h = refl

pub always_shown : HaveDifferentEvents always_side (Left 3) (Right 1)
always_shown = record {
  left_tree = left_tree;
  right_tree = right_tree;
  left_unfolds = left_unfolds;
  right_unfolds = right_unfolds;
  bits = frame_of always_variables (true ∷ []);
  care = (care_of (Left 3) (frame_of always_variables (true ∷ [])), care_of (Right 1) (frame_of always_variables (true ∷ [])));
  differ = λ e. apart (left_value (frame_of always_variables (true ∷ [])) ∙ (e ∙ sym (right_value (frame_of always_variables (true ∷ [])))));
}

pub always_differ : MakesDiffer always_loads nothing (0 ∷ []) (0 ∷ []) 3 1 ((true ∷ []) ∷ (false ∷ []) ∷ []) 1 true false
always_differ =
    event_witness_makes_differ_in_nets always_loads nothing 4 2 one_number one_number no_class left_net right_net numbered refl refl classes depths 3 1 1 ((true ∷ []) ∷ (false ∷ []) ∷ []) 1 true false
    (event_difference_gives_witness always_side 3 1 1 1 0 always_query always_variables (true ∷ []) always_difference (All-cons (λ (x : Variable (List ℕ)). x.input < 1) the_variable [] (omega arith) (All-nil (λ (x : Variable (List ℕ)). x.input < 1)))
    left_depth right_depth left_always right_always)
