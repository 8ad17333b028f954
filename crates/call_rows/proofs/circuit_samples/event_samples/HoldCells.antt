-- Circuits whose latches load an input where another input is 1, and else keep their values: each latch is enabled, its enable is that
-- input, and it reads no other latch.
use Rattle.std.proofs.Common.{◌≡◌, ◌≢◌, ℕ, zero, suc, ◌+◌, ◌<◌, ◌≤◌, Bool, true, false, List, [], ◌∷◌, length, refl, sym, ◌∙◌, ap, subst, arith, inl, inr, Some, None, slice_get}
use Rattle.std.specs.Prelude.{◌⊎◌, ◌||◌, ◌==◌, not, slice_index_or}
use Rattle.std.specs.List.{Contains, AllPairs}
use Rattle.std.proofs.lemmas.List.Elements.{All-contains}
use Rattle.std.proofs.lemmas.Option.{slice_get-get_or}
use Rattle.circuit_theory.specs.Cover.{Cover, cover_value}
use Rattle.circuit_theory.specs.Circuit.{Circuit, Gate, Latch, IsInput, IsLatch, IsSource, IsSingleDriven, InCone, Reads, Reaches, Meets, Holds, Equation, Port}
use Rattle.circuit_theory.specs.Run.{IsRun, ExtendsWith, IsEnabled, Loads, CanPut, Marked}
use Rattle.circuit_theory.specs.Depth.{LatchReads, LatchChain, ChainFrom, IsDepth, LatchesHaveDepths}
use Rattle.circuit_theory.specs.Tree.{Tree, Leaf, Fixed, Branch, Nil, Cons, IsInputNumber, tree_value}
use Rattle.circuit_theory.specs.Cone.{latches_of}
use Rattle.circuit_theory.specs.Query.{Variable, HasLeaf, HasLeafIn}
use Rattle.circuit_theory.specs.EventFrames.{IsEnableTree, IsCareTree}
use Rattle.circuit_theory.specs.Frame.{EventSide, EventUnfolds, EventUnfoldsAll, ConeOthers, ReachedAt, IsEnable}
use Rattle.circuit_theory.specs.Classes.{EnableCare, EnablesEqual, EnablesDiffer, SometimesOff, EqualsMembers, DiffersFromMember, IsInFirstClass, IsLatchOrder, classes_of}
use Rattle.circuit_theory.proofs.Lists.{of_at}
use Rattle.circuit_theory.proofs.Inputs.{beside_is_input, test_same, test_refl}
use Rattle.circuit_theory.proofs.Numbers.{distinct_at}
use Rattle.circuit_laws.proofs.finite_laws.EnabledDecided.{source_reads, gate_reads, steps}
use Rattle.circuit_laws.proofs.event_laws.EventTrees.{one_enable, one_event_tree}
use Rattle.call_rows.proofs.circuit_samples.Each.{Each, each_at}

-- the latch loads the input a, or what its cover makes of it, where the input e is 1; i and j are their numbers
pub record IsHold {P : Type 0} (side : EventSide P) (u next : P) : Type 0 where
  pub e : P
  pub a : P
  pub i : ℕ
  pub j : ℕ
  pub load : Cover
  pub gate : Contains side.circuit.equations (Gate next (e ∷ a ∷ u ∷ []) load)
  pub e_is : IsInputNumber side.circuit side.order e i
  pub a_is : IsInputNumber side.circuit side.order a j
  pub holds : (b bit : Bool) → cover_value load (false ∷ b ∷ bit ∷ []) ≡ bit
  pub loads : (b : Bool) → cover_value load (true ∷ b ∷ false ∷ []) ≡ cover_value load (true ∷ b ∷ true ∷ [])

at_leaf : (i : ℕ) (x : Variable (List ℕ)) → HasLeaf x (Leaf i []) → record { input = i; at = [] } ≡ x
at_leaf i x HasLeaf.leaf = refl

abbrev next_of : {P : Type 0} → Equation P → P
next_of (Gate out fanins cover) = out
next_of (Latch m out to) = to
next_of (Port out from) = from

-- the tree of what such a latch takes over, with itself read as a bit
abbrev pub hold_tree : Cover → ℕ → ℕ → Bool → List ℕ → Tree (List ℕ)
hold_tree load i j bit node = Branch load (Cons (Leaf i node) (Cons (Leaf j node) (Cons (Fixed bit) Nil)))

module _ {P : Type 0} (side : EventSide P) (same : (p q : P) → (p ≡ q) ⊎ (p ≢ q)) (single : IsSingleDriven side.circuit)
    (once : (p : P) (i j : ℕ) → IsInputNumber side.circuit side.order p i → IsInputNumber side.circuit side.order p j → i ≡ j) where
  abbrev c : Circuit P
  c = side.circuit

  abbrev On : P → Type 0
  On = IsEnabled side.circuit

  input_of : (p : P) (i : ℕ) → IsInputNumber c side.order p i → IsInput c p
  input_of p i h = beside_is_input c.inputs side.order p i h

  -- an input is no latch
  apart : (p u : P) (name : List ℕ) (next : P) → IsInput c p → IsLatch c name u next → p ≢ u
  apart p u name next i latch e = single.no_input (Latch name u next) latch (subst (IsInput c) e i)

  module _ (name : List ℕ) (u next : P) (latch : IsLatch c name u next) (h : IsHold side u next) where
    -- what the latch takes over, with it put to a bit
    pub hold_value : (bit : Bool) (x v : P → Bool) → ExtendsWith c u bit x v → v next ≡ cover_value h.load (x h.e ∷ x h.a ∷ bit ∷ [])
    hold_value bit x v ex =
        let gate : v next ≡ cover_value h.load (v h.e ∷ v h.a ∷ v u ∷ []) = All-contains (Holds v) c.equations _ ex.meets h.gate in
        let e : v h.e ≡ x h.e = ex.sources h.e (inl (input_of h.e h.i h.e_is)) (apart h.e u name next (input_of h.e h.i h.e_is) latch) in
        let d : v h.a ≡ x h.a = ex.sources h.a (inl (input_of h.a h.j h.a_is)) (apart h.a u name next (input_of h.a h.j h.a_is) latch) in
        let q = ex.put in
        let bits : v h.e ∷ v h.a ∷ v u ∷ [] ≡ x h.e ∷ x h.a ∷ bit ∷ [] = cc in
        gate ∙ ap (cover_value h.load) bits

    rises : (e a : Bool) → cover_value h.load (e ∷ a ∷ false ∷ []) ≡ true → cover_value h.load (e ∷ a ∷ true ∷ []) ≡ true
    rises true a k = sym (h.loads a) ∙ k
    rises false a k = h.holds a true

    pub hold_enabled : On u
    hold_enabled = record {
      name = name;
      next = next;
      latch = latch;
      self_edge = (inr (name, next, latch), Reaches.there (Reads.by_gate h.gate (2, omega arith, refl)) Reaches.here);
      rises = λ x low high l k e. hold_value true x high k ∙ rises (x h.e) (x h.a) (sym (hold_value false x low l) ∙ e);
    }

    -- with its enable it loads, whatever it would load
    pub hold_loads : CanPut c → (x : P → Bool) → Meets c x → x h.e ≡ true → Loads c x u next
    hold_loads can x meets e =
        let low = can x name u next false latch meets in
        let high = can x name u next true latch meets in
        record {
          low = low.0;
          high = high.0;
          low_is = low.1;
          high_is = high.1;
          same = hold_value false x low.0 low.1
              ∙ (ap (λ b. cover_value h.load (b ∷ x h.a ∷ false ∷ [])) e
              ∙ (h.loads (x h.a) ∙ (sym (ap (λ b. cover_value h.load (b ∷ x h.a ∷ true ∷ [])) e) ∙ sym (hold_value true x high.0 high.1))));
        }

    -- of the latches it reads itself alone
    pub hold_reads : (w : P) (other : List ℕ) (to : P) → IsLatch c other w to → Reaches c next w → w ≡ u
    hold_reads w other to is reaches = first (steps c same single reaches)
      where
        wrong : Gate next (h.e ∷ h.a ∷ u ∷ []) h.load ≡ Latch other next to → ⊥
        wrong q = cc

        at_input : (p : P) → IsInput c p → (p ≡ w) ⊎ ((q : P) × Reads c p q × Reaches c q w) → w ≡ u
        at_input p i (inl e) = absurd (apart p w other to i is e)
        at_input p i (inr r) = absurd (source_reads c same single (inl i) r.1)

        at_latch : (u ≡ w) ⊎ ((q : P) × Reads c u q × Reaches c q w) → w ≡ u
        at_latch (inl e) = sym e
        at_latch (inr r) = absurd (source_reads c same single (inr (name, next, latch)) r.1)

        Goes : P → Type 0
        Goes q = Reaches c q w → w ≡ u

        fanin : Each Goes (h.e ∷ h.a ∷ u ∷ [])
        fanin = (λ r. at_input h.e (input_of h.e h.i h.e_is) (steps c same single r), (λ r. at_input h.a (input_of h.a h.j h.a_is) (steps c same single r), (λ r. at_latch (steps c same single r), tt)))

        first : (next ≡ w) ⊎ ((q : P) × Reads c next q × Reaches c q w) → w ≡ u
        first (inl e) = absurd (wrong (single.one (Gate next (h.e ∷ h.a ∷ u ∷ []) h.load) (Latch other next to) h.gate (subst (λ (z : P). IsLatch c other z to) (sym e) is) refl))
        first (inr r) = each_at Goes (h.e ∷ h.a ∷ u ∷ []) fanin r.0 (gate_reads c same single (h.e ∷ h.a ∷ u ∷ []) h.load h.gate r.1) r.2

    -- where it loads in a run it is settled from then on
    pub hold_marked : CanPut c → (n : ℕ) (run : ℕ → P → Bool) → IsRun c n run → (t : ℕ) → t < n → run t h.e ≡ true → Marked c On run (suc t) u
    hold_marked can n run is_run t l e = Marked.loads {name = name} {next = next} latch hold_enabled others (hold_loads can (run t) (is_run.meets t l) e)
      where
        others : (w : P) → InCone c next w → w ≢ u → Marked c On run t w
        others w cone n = go cone.0
          where
            go : IsSource c w → Marked c On run t w
            go (inl i) = Marked.input i
            go (inr l) = absurd (n (hold_reads w l.0 l.1 l.2 cone.1))

    -- the tree of what it takes over
    pub hold_next : (bit : Bool) (node : List ℕ) → EventUnfolds side On (Some (u, bit)) next node (hold_tree h.load h.i h.j bit node)
    hold_next bit node =
        EventUnfolds.gate {fanins = h.e ∷ h.a ∷ u ∷ []} {cover = h.load} h.gate
        (EventUnfoldsAll.more (EventUnfolds.input h.e_is) (EventUnfoldsAll.more (EventUnfolds.input h.a_is) (EventUnfoldsAll.more EventUnfolds.fixed EventUnfoldsAll.none)))

    -- and its own
    pub hold_unfolds : (node : List ℕ) → EventUnfolds side On None u node (hold_tree h.load h.i h.j false (side.class u ∷ node))
    hold_unfolds node = EventUnfolds.held {name = name} {next = next} latch tt hold_enabled (hold_next false (side.class u ∷ node))

    enable_bit : (e a : Bool) → (cover_value h.load (e ∷ a ∷ false ∷ []) || not (cover_value h.load (e ∷ a ∷ true ∷ []))) ≡ e
    enable_bit true a = or_not _ _ (h.loads a)
      where
        or_not : (x y : Bool) → x ≡ y → (x || not y) ≡ true
        or_not true y k = refl
        or_not false true k = cc
        or_not false false k = refl
    enable_bit false a = off _ _ (h.holds a false) (h.holds a true)
      where
        off : (x y : Bool) → x ≡ false → y ≡ true → (x || not y) ≡ false
        off true y k l = k
        off false true k l = refl
        off false false k l = cc

    -- its enable at a node is the input e there
    pub hold_enable : (bits : ℕ → List ℕ → Bool) (node : List ℕ) → IsEnable side On bits u node (bits h.i node)
    unfolding tree_value
    hold_enable bits node = IsEnable.own hold_enabled latch (hold_next false node) (hold_next true node) (enable_bit (bits h.i node) (bits h.j node))

    pub hold_enable_is : (bits : ℕ → List ℕ → Bool) (node : List ℕ) (x : Bool) → IsEnable side On bits u node x → x ≡ bits h.i node
    hold_enable_is bits node x k = one_enable side On single once bits u node x (bits h.i node) k (hold_enable bits node)

    -- the leaves of its enable at the root are both inputs there
    pub hold_leaf : (tree : Tree (List ℕ)) → IsEnableTree side u tree → (x : Variable (List ℕ)) → HasLeaf x tree → (record { input = h.i; at = [] } ≡ x) ⊎ (record { input = h.j; at = [] } ≡ x)
    hold_leaf tree (IsEnableTree.own {name = other} {next = to} {bit = bit} {tree = t} is on unfolds) x stands =
        two_leaves bit x (subst (HasLeaf x) (one_event_tree side On single once (name, next, latch) moved (hold_next bit [])) stands)
      where
        to_is : to ≡ next
        to_is = ap next_of (single.one (Latch other u to) (Latch name u next) is latch refl)

        moved : EventUnfolds side On (Some (u, bit)) next [] t
        moved = subst (λ (q : P). EventUnfolds side On (Some (u, bit)) q [] t) to_is unfolds

        two_leaves : (b : Bool) (y : Variable (List ℕ)) → HasLeaf y (hold_tree h.load h.i h.j b []) → (record { input = h.i; at = [] } ≡ y) ⊎ (record { input = h.j; at = [] } ≡ y)
        two_leaves b y (HasLeaf.inside (HasLeafIn.first k)) = inl (at_leaf h.i y k)
        two_leaves b y (HasLeaf.inside (HasLeafIn.later (HasLeafIn.first k))) = inr (at_leaf h.j y k)
        two_leaves b y (HasLeaf.inside (HasLeafIn.later (HasLeafIn.later (HasLeafIn.first k)))) = absurd (elim k [ ])
        two_leaves b y (HasLeaf.inside (HasLeafIn.later (HasLeafIn.later (HasLeafIn.later k)))) = absurd (elim k [ ])

  module _ (all : (name : List ℕ) (u next : P) → IsLatch c name u next → IsHold side u next) where
    -- no latch reads another
    pub no_others : (u w : P) → ConeOthers c On u w → ⊥
    no_others u w others =
        let h = all others.0 u others.1 others.2 in
        others.4 (hold_enabled others.0 u others.1 others.2 h) (hold_reads others.0 u others.1 others.2 h w others.3.0 others.3.1 others.3.2 others.3.3)

    pub no_reading : (removed : List (List ℕ)) (u v : P) → LatchReads c On removed u v → ⊥
    no_reading removed u v e = no_others u v (e.name, e.next, e.latch, (e.other_name, e.other_next, e.other, e.cone.1), λ en q. e.no_self_edge en (sym q))

    short : {u : P} {n : ℕ} → LatchChain c On u n → n ≤ 1
    short (LatchChain.last latch) = omega arith
    short (LatchChain.more {u = u} {v = v} e rest) = absurd (no_reading [] u v e)

    -- so each has depth 1
    pub depth_one : (name : List ℕ) (u next : P) → IsLatch c name u next → IsDepth c On u 1
    depth_one name u next latch = record { reached = inr (u, (inr (name, next, latch), Reaches.here), LatchChain.last latch); greatest = greatest }
      where
        greatest : (k : ℕ) → ChainFrom c On u k → k ≤ 1
        greatest k (inl e) = omega arith
        greatest k (inr x) = short x.2

    pub hold_depths : LatchesHaveDepths c On
    hold_depths name u next latch = (1, depth_one name u next latch)

    -- a latch is reached at the root alone
    pub at_root : (start : P → Type 0) (node : List ℕ) (v : P) → ReachedAt side On start node v → (node ≡ []) × start v
    at_root start [] v h = (refl, h)
    at_root start (k ∷ node) v h = absurd (no_others h.0 v h.3)

    -- each frame has care for each enable
    pub enable_care : (bits : ℕ → List ℕ → Bool) (u : P) → EnableCare side bits u
    enable_care bits u node v h = absurd (no_others u v (at_root (ConeOthers c On u) node v h).1)

    -- no care of an enable reads a tree
    pub no_care_tree : (u : P) (tree : Tree (List ℕ)) → IsCareTree side (ConeOthers c On u) tree → ⊥
    no_care_tree u tree (IsCareTree.enable {node = node} {v = v} reached is on unfolds) = no_others u v (at_root (ConeOthers c On u) node v reached).1

    pub sometimes_off : (name : List ℕ) (u next : P) → IsLatch c name u next → SometimesOff side u
    sometimes_off name u next latch = record { bits = λ i node. false; care = enable_care (λ i node. false) u; off = hold_enable name u next latch (all name u next latch) (λ i node. false) [] }

    pub enables_equal : (name : List ℕ) (u next : P) (l : IsLatch c name u next) (name' : List ℕ) (v next' : P) (r : IsLatch c name' v next') → (all name u next l).i ≡ (all name' v next' r).i → EnablesEqual side u v
    enables_equal name u next l name' v next' r e bits x y cx cy ax ay =
        hold_enable_is name u next l (all name u next l) bits [] x ax ∙ (ap (λ k. bits k []) e ∙ sym (hold_enable_is name' v next' r (all name' v next' r) bits [] y ay))

    pub enables_differ : (name : List ℕ) (u next : P) (l : IsLatch c name u next) (name' : List ℕ) (v next' : P) (r : IsLatch c name' v next') → (all name u next l).i ≢ (all name' v next' r).i → EnablesDiffer side u v
    enables_differ name u next l name' v next' r n = record {
      bits = bits;
      left = bits m [];
      right = bits k [];
      left_care = enable_care bits u;
      right_care = enable_care bits v;
      left_is = hold_enable name u next l (all name u next l) bits [];
      right_is = hold_enable name' v next' r (all name' v next' r) bits [];
      differ = λ e. n (test_same m k (e ∙ test_refl k));
    }
      where
        m : ℕ
        m = (all name u next l).i

        k : ℕ
        k = (all name' v next' r).i

        bits : ℕ → List ℕ → Bool
        bits i node = i == k

    abbrev LatchAt : P → Type 0
    LatchAt u = (name : List ℕ) × (next : P) × IsLatch c name u next

    -- the class of each latch is one more than the number of its enable
    module _ (class_is : (name : List ℕ) (u next : P) (latch : IsLatch c name u next) → side.class u ≡ suc (all name u next latch).i) where
      pub in_first : (before : List P) (v : P) → LatchAt v → ((u : P) → Contains before u → LatchAt u) → side.class v ≤ classes_of side before + 1 →
          ((k : ℕ) → suc k < side.class v → (u : P) × Contains before u × (side.class u ≡ suc k)) → IsInFirstClass side before v
      in_first before v at latches next_most earlier = record { not_past_next = next_most; joins = λ l. subst (λ n. EqualsMembers side before n v) (sym own) members; not_earlier = not_earlier }
        where
          own : side.class v ≡ suc (all at.0 v at.1 at.2).i
          own = class_is at.0 v at.1 at.2

          members : (u : P) → Contains before u → side.class u ≡ suc (all at.0 v at.1 at.2).i → EnablesEqual side u v
          members u h e =
              let l = latches u h in
              enables_equal l.0 u l.1 l.2 at.0 v at.1 at.2 (let q = class_is l.0 u l.1 l.2 in omega (arith, q, e))

          not_earlier : (k : ℕ) → k < side.class v → DiffersFromMember side before k v
          not_earlier zero h = sometimes_off at.0 v at.1 at.2
          not_earlier (suc k) h =
              let u = earlier k h in
              let l = latches u.0 u.1 in
              (u.0, u.1, u.2, enables_differ l.0 u.0 l.1 l.2 at.0 v at.1 at.2 (λ q. let x = class_is l.0 u.0 l.1 l.2 in omega (arith, x, u.2, q, own, h)))

      -- all latches in the order of the equations are in the order of the class map
      pub in_their_order : AllPairs (λ u v. u ≢ v) (latches_of c) → ((u : P) → Contains (latches_of c) u → LatchAt u) → ((name : List ℕ) (u next : P) → IsLatch c name u next → Contains (latches_of c) u) →
          IsLatchOrder side (latches_of c)
      in_their_order distinct latches listed = record {
        all = λ u en. listed en.name u en.next en.latch;
        enabled = λ u h. let l = latches u h in hold_enabled l.0 u l.1 l.2 (all l.0 u l.1 l.2);
        in_order = λ i j d l h. sorted i j d l h;
      }
        where
          one_depth : (u : P) (d : ℕ) → Contains (latches_of c) u → IsDepth c On u d → d ≡ 1
          one_depth u d h is =
              let at = latches u h in
              let one = depth_one at.0 u at.1 at.2 in
              let x = one.greatest d is.reached in
              let y = is.greatest 1 one.reached in
              omega arith

          place : (i k : ℕ) (d : P) → i < length (latches_of c) → slice_get (latches_of c) k ≡ Some (slice_index_or (latches_of c) i d) → k ≡ i
          place i k d h at = distinct_at (λ (p : P). p) (latches_of c) distinct k i (slice_index_or (latches_of c) i d) (slice_index_or (latches_of c) i d) at (slice_get-get_or (latches_of c) i d h) refl

          sorted : (i j : ℕ) (d : P) → i < j → j < length (latches_of c) → (e f k l : ℕ) → IsDepth c On (slice_index_or (latches_of c) i d) e → IsDepth c On (slice_index_or (latches_of c) j d) f →
              slice_get (latches_of c) k ≡ Some (slice_index_or (latches_of c) i d) → slice_get (latches_of c) l ≡ Some (slice_index_or (latches_of c) j d) → (e < f) ⊎ ((e ≡ f) × (k < l))
          sorted i j d l h e f k m he hf hk hm =
              let i_in : i < length (latches_of c) = omega arith in
              let x = place i k d i_in hk in
              let y = place j m d h hm in
              let first = one_depth (slice_index_or (latches_of c) i d) e (of_at (latches_of c) i (slice_index_or (latches_of c) i d) (slice_get-get_or (latches_of c) i d i_in)) he in
              let second = one_depth (slice_index_or (latches_of c) j d) f (of_at (latches_of c) j (slice_index_or (latches_of c) j d) (slice_get-get_or (latches_of c) j d h)) hf in
              inr (first ∙ sym second, omega (arith, x, y, l))
