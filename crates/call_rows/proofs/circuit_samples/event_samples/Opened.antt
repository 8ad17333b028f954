-- Two opened circuits side by side, whatever q of either side loads and z makes of it: they have two classes besides `always`.
use Rattle.std.proofs.Common.{◌≡◌, ◌≢◌, ℕ, zero, suc, ◌+◌, ◌<◌, ◌≤◌, Bool, true, false, List, [], ◌∷◌, refl, sym, ◌∙◌, ap, subst, arith, inl, inr, None}
use Rattle.std.specs.Prelude.{◌⊎◌, codes}
use Rattle.std.specs.List.{Contains, AllPairs}
use Rattle.circuit_theory.specs.Cover.{Cover, cover_value}
use Rattle.circuit_theory.specs.Circuit.{Circuit, Named, IsLatch, IsSingleDriven, Reads, Reaches}
use Rattle.circuit_theory.specs.Run.{IsEnabled}
use Rattle.circuit_theory.specs.Net.{IsNet}
use Rattle.circuit_theory.specs.Depth.{LatchesHaveDepths}
use Rattle.circuit_theory.specs.Tree.{Tree, Leaf, Branch, Nil, Cons, AreNumbered, IsInputNumber, StandsBeside, tree_value}
use Rattle.circuit_theory.specs.Joined.{Either, Left, Right, joined}
use Rattle.circuit_theory.specs.Agree.{IsPair}
use Rattle.circuit_theory.specs.Frame.{EventSide, EventUnfolds, EventUnfoldsAll, ConeLatches, HasCare}
use Rattle.circuit_theory.specs.Classes.{IsInFirstClass, IsClassMap, IsLatchOrder, HasClasses, classes_of}
use Rattle.circuit_theory.specs.EventFits.{side_by_side}
use Rattle.circuit_theory.proofs.Inputs.{beside_is_input}
use Rattle.circuit_theory.proofs.Numbers.{one_place}
use Rattle.circuit_laws.proofs.JoinedParts.{joined_same, joined_single, joined_number_once}
use Rattle.call_rows.proofs.circuit_samples.NetTest.{net_test-sound, numbers_distinct-sound}
use Rattle.call_rows.specs.circuit_samples.event_samples.Samples.{opened, load_cover, load_not_cover, not_cover, all_cover, numbers, class_of}
use Rattle.call_rows.specs.circuit_samples.event_samples.Premises.{AreEventSides}
use Rattle.call_rows.proofs.circuit_samples.Each.{Each, each_at, each_latch, each_pair, each_split}
use Rattle.call_rows.proofs.circuit_samples.event_samples.HoldCells.{IsHold, hold_tree, hold_enabled, hold_unfolds, hold_enable_is, hold_depths, in_first, in_their_order}

pub holds_load : (b bit : Bool) → cover_value load_cover (false ∷ b ∷ bit ∷ []) ≡ bit
unfolding cover_value
holds_load true true = refl
holds_load true false = refl
holds_load false true = refl
holds_load false false = refl

pub loads_load : (b : Bool) → cover_value load_cover (true ∷ b ∷ false ∷ []) ≡ cover_value load_cover (true ∷ b ∷ true ∷ [])
unfolding cover_value
loads_load true = refl
loads_load false = refl

pub holds_not : (b bit : Bool) → cover_value load_not_cover (false ∷ b ∷ bit ∷ []) ≡ bit
unfolding cover_value
holds_not true true = refl
holds_not true false = refl
holds_not false true = refl
holds_not false false = refl

pub loads_not : (b : Bool) → cover_value load_not_cover (true ∷ b ∷ false ∷ []) ≡ cover_value load_not_cover (true ∷ b ∷ true ∷ [])
unfolding cover_value
loads_not true = refl
loads_not false = refl

-- what q of both sides loads, and what z makes of it
pub record LoadPair : Type 0 where
  pub la : Cover
  pub oa : Cover
  pub lb : Cover
  pub ob : Cover
  pub holds_a : (b bit : Bool) → cover_value la (false ∷ b ∷ bit ∷ []) ≡ bit
  pub loads_a : (b : Bool) → cover_value la (true ∷ b ∷ false ∷ []) ≡ cover_value la (true ∷ b ∷ true ∷ [])
  pub holds_b : (b bit : Bool) → cover_value lb (false ∷ b ∷ bit ∷ []) ≡ bit
  pub loads_b : (b : Bool) → cover_value lb (true ∷ b ∷ false ∷ []) ≡ cover_value lb (true ∷ b ∷ true ∷ [])

module _ (x : LoadPair) where
  abbrev pub left_side : Circuit ℕ
  left_side = opened x.la x.oa

  abbrev pub right_side : Circuit ℕ
  right_side = opened x.lb x.ob

  abbrev pub whole : Circuit (Either ℕ ℕ)
  whole = joined left_side right_side

  abbrev pub side : EventSide (Either ℕ ℕ)
  side = side_by_side left_side right_side numbers numbers class_of

  pub left_net : IsNet left_side 11
  left_net = net_test-sound left_side 11 refl

  pub right_net : IsNet right_side 11
  right_net = net_test-sound right_side 11 refl

  pub numbered : AreNumbered left_side right_side numbers numbers
  numbered = record {
    left_once = λ p q i h k. once p q i h k;
    right_once = λ p q i h k. once p q i h k;
    shared = λ p q i h k. let n = beside_is_input left_side.inputs numbers p i h in (n.0, n.1, subst (λ z. Contains right_side.inputs (record { name = n.0; place = z })) (once p q i h k) n.1);
  }
    where
      once : (p q i : ℕ) → StandsBeside left_side.inputs numbers p i → StandsBeside left_side.inputs numbers q i → p ≡ q
      once p q i h k = one_place left_side.inputs numbers (numbers_distinct-sound numbers refl) p q i h k

  pub single : IsSingleDriven whole
  single = joined_single left_side right_side 11 11 left_net right_net

  pub number_once : (p : Either ℕ ℕ) (i j : ℕ) → IsInputNumber whole side.order p i → IsInputNumber whole side.order p j → i ≡ j
  number_once p i j h k = joined_number_once left_side right_side 11 11 left_net right_net numbers numbers refl p i j h k

  -- the four latches
  abbrev pub left_q : IsHold side (Left 3) (Left 4)
  left_q = record { e = Left 0; a = Left 2; i = 0; j = 2; load = x.la; gate = (0, omega arith, refl); e_is = inl (refl, refl); a_is = inr (inr (inl (refl, refl))); holds = x.holds_a; loads = x.loads_a }

  abbrev pub left_r : IsHold side (Left 5) (Left 6)
  left_r = record { e = Left 1; a = Left 2; i = 1; j = 2; load = load_cover; gate = (1, omega arith, refl); e_is = inr (inl (refl, refl)); a_is = inr (inr (inl (refl, refl))); holds = holds_load; loads = loads_load }

  abbrev pub right_q : IsHold side (Right 3) (Right 4)
  right_q = record {
    e = Right 0;
    a = Right 2;
    i = 0;
    j = 2;
    load = x.lb;
    gate = (7, omega arith, refl);
    e_is = inr (inr (inr (inr (inl (refl, refl)))));
    a_is = inr (inr (inr (inr (inr (inr (inl (refl, refl)))))));
    holds = x.holds_b;
    loads = x.loads_b;
  }

  abbrev pub right_r : IsHold side (Right 5) (Right 6)
  right_r = record {
    e = Right 1;
    a = Right 2;
    i = 1;
    j = 2;
    load = load_cover;
    gate = (8, omega arith, refl);
    e_is = inr (inr (inr (inr (inr (inl (refl, refl))))));
    a_is = inr (inr (inr (inr (inr (inr (inl (refl, refl)))))));
    holds = holds_load;
    loads = loads_load;
  }

  pub left_q_latch : IsLatch whole (codes "q") (Left 3) (Left 4)
  left_q_latch = (5, omega arith, refl)

  pub left_r_latch : IsLatch whole (codes "r") (Left 5) (Left 6)
  left_r_latch = (6, omega arith, refl)

  pub right_q_latch : IsLatch whole (codes "q") (Right 3) (Right 4)
  right_q_latch = (12, omega arith, refl)

  pub right_r_latch : IsLatch whole (codes "r") (Right 5) (Right 6)
  right_r_latch = (13, omega arith, refl)

  -- each latch is one of them, and of the class after its enable's number
  abbrev HoldOfClass : List ℕ → Either ℕ ℕ → Either ℕ ℕ → Type 0
  HoldOfClass name u next = (h : IsHold side u next) × (class_of u ≡ suc h.i)

  each_hold : (name : List ℕ) (u next : Either ℕ ℕ) → IsLatch whole name u next → HoldOfClass name u next
  each_hold name u next latch = each_latch HoldOfClass whole.equations ((left_q, refl), ((left_r, refl), ((right_q, refl), ((right_r, refl), tt)))) name u next latch

  pub all_hold : (name : List ℕ) (u next : Either ℕ ℕ) → IsLatch whole name u next → IsHold side u next
  all_hold name u next latch = (each_hold name u next latch).0

  class_is : (name : List ℕ) (u next : Either ℕ ℕ) (latch : IsLatch whole name u next) → class_of u ≡ suc (all_hold name u next latch).i
  unfolding all_hold
  class_is name u next latch = (each_hold name u next latch).1

  pub depths : LatchesHaveDepths whole (IsEnabled whole)
  depths = hold_depths side joined_same single number_once all_hold

  abbrev pub order : List (Either ℕ ℕ)
  order = Left 3 ∷ Left 5 ∷ Right 3 ∷ Right 5 ∷ []

  abbrev LatchAt : Either ℕ ℕ → Type 0
  LatchAt u = (name : List ℕ) × (next : Either ℕ ℕ) × IsLatch whole name u next

  lq : LatchAt (Left 3)
  lq = (codes "q", Left 4, left_q_latch)

  lr : LatchAt (Left 5)
  lr = (codes "r", Left 6, left_r_latch)

  rq : LatchAt (Right 3)
  rq = (codes "q", Right 4, right_q_latch)

  rr : LatchAt (Right 5)
  rr = (codes "r", Right 6, right_r_latch)

  -- r of either side comes after A's q, which founds class 1
  after_q : (front : List (Either ℕ ℕ)) → Contains front (Left 3) → (k : ℕ) → suc k < 2 → (u : Either ℕ ℕ) × Contains front u × (class_of u ≡ suc k)
  after_q front h zero l = (Left 3, h, refl)
  after_q front h (suc k) l = absurd (omega arith)

  none_before : (front : List (Either ℕ ℕ)) → (k : ℕ) → suc k < 1 → (u : Either ℕ ℕ) × Contains front u × (class_of u ≡ suc k)
  none_before front k l = absurd (omega arith)

  first_class : (front : List (Either ℕ ℕ)) (v : Either ℕ ℕ) → LatchAt v → Each LatchAt front → class_of v ≤ classes_of side front + 1 → ((k : ℕ) → suc k < class_of v → (u : Either ℕ ℕ) × Contains front u × (class_of u ≡ suc k)) → IsInFirstClass side front v
  first_class front v at latches most earlier = in_first side joined_same single number_once all_hold class_is front v at (λ u h. each_at LatchAt front latches u h) most earlier

  pub class_map : IsClassMap side order
  class_map = record {
    plain = λ name u next latch off. absurd (off (hold_enabled side joined_same single number_once name u next latch (all_hold name u next latch)));
    each = λ front after v e. each_split (IsInFirstClass side) order splits front after v e;
  }
    where
      splits : IsInFirstClass side [] (Left 3) × (IsInFirstClass side (Left 3 ∷ []) (Left 5) × (IsInFirstClass side (Left 3 ∷ Left 5 ∷ []) (Right 3) × (IsInFirstClass side (Left 3 ∷ Left 5 ∷ Right 3 ∷ []) (Right 5) × Unit {0})))
      splits = (
        first_class [] (Left 3) lq tt (omega arith) (none_before []),
        (
          first_class (Left 3 ∷ []) (Left 5) lr (lq, tt) (omega arith) (after_q (Left 3 ∷ []) (0, omega arith, refl)),
          (
            first_class (Left 3 ∷ Left 5 ∷ []) (Right 3) rq (lq, (lr, tt)) (omega arith) (none_before (Left 3 ∷ Left 5 ∷ [])),
            (first_class (Left 3 ∷ Left 5 ∷ Right 3 ∷ []) (Right 5) rr (lq, (lr, (rq, tt))) (omega arith) (after_q (Left 3 ∷ Left 5 ∷ Right 3 ∷ []) (0, omega arith, refl)), tt),
          ),
        ),
      )

  apart : AllPairs (λ u v. u ≢ v) order
  apart = each_pair (λ u v. u ≢ v) order (((λ e. cc), ((λ e. cc), ((λ e. cc), tt))), (((λ e. cc), ((λ e. cc), tt)), (((λ e. cc), tt), (tt, tt))))

  pub latch_order : IsLatchOrder side order
  latch_order = in_their_order side joined_same single number_once all_hold class_is apart (λ u h. each_at LatchAt order (lq, (lr, (rq, (rr, tt)))) u h)
      (λ name u next latch. each_latch (λ m v to. Contains order v) whole.equations ((0, omega arith, refl), ((1, omega arith, refl), ((2, omega arith, refl), ((3, omega arith, refl), tt)))) name u next latch)

  pub classes : HasClasses side
  classes = record { numbered = refl; order = order; is_order = latch_order; is_map = class_map }

  pub two_classes : (c : HasClasses side) × (classes_of side c.order ≡ 2)
  unfolding classes
  two_classes = (classes, refl)

  pub event_sides : AreEventSides left_side right_side 11 11 numbers numbers class_of
  event_sides = record { left_net = left_net; right_net = right_net; numbered = numbered; left_long = refl; right_long = refl; classes = classes; depths = depths }

  -- the trees of the outputs
  abbrev pub left_z : Tree (List ℕ)
  left_z = Branch x.oa (Cons (hold_tree x.la 0 2 false (1 ∷ [])) Nil)

  abbrev pub right_z : Tree (List ℕ)
  right_z = Branch x.ob (Cons (hold_tree x.lb 0 2 false (1 ∷ [])) Nil)

  abbrev pub y_of : Tree (List ℕ) → Tree (List ℕ)
  y_of z = Branch all_cover (Cons z (Cons (hold_tree load_cover 1 2 false (2 ∷ [])) (Cons (Leaf 3 []) Nil)))

  abbrev pub t_tree : Tree (List ℕ)
  t_tree = Branch not_cover (Cons (Leaf 3 []) Nil)

  abbrev pub On : Either ℕ ℕ → Type 0
  On = IsEnabled whole

  pub left_z_unfolds : EventUnfolds side On None (Left 9) [] left_z
  left_z_unfolds = EventUnfolds.gate {fanins = Left 3 ∷ []} (3, omega arith, refl) (EventUnfoldsAll.more (hold_unfolds side joined_same single number_once (codes "q") (Left 3) (Left 4) left_q_latch left_q []) EventUnfoldsAll.none)

  pub right_z_unfolds : EventUnfolds side On None (Right 9) [] right_z
  right_z_unfolds = EventUnfolds.gate {fanins = Right 3 ∷ []} (10, omega arith, refl) (EventUnfoldsAll.more (hold_unfolds side joined_same single number_once (codes "q") (Right 3) (Right 4) right_q_latch right_q []) EventUnfoldsAll.none)

  pub left_y_unfolds : EventUnfolds side On None (Left 10) [] (y_of left_z)
  left_y_unfolds =
      EventUnfolds.gate {fanins = Left 9 ∷ Left 5 ∷ Left 7 ∷ []} (4, omega arith, refl)
      (EventUnfoldsAll.more left_z_unfolds
      (EventUnfoldsAll.more (hold_unfolds side joined_same single number_once (codes "r") (Left 5) (Left 6) left_r_latch left_r [])
      (EventUnfoldsAll.more (EventUnfolds.input (inr (inr (inr (inl (refl, refl)))))) EventUnfoldsAll.none)))

  pub right_y_unfolds : EventUnfolds side On None (Right 10) [] (y_of right_z)
  right_y_unfolds =
      EventUnfolds.gate {fanins = Right 9 ∷ Right 5 ∷ Right 7 ∷ []} (11, omega arith, refl)
      (EventUnfoldsAll.more right_z_unfolds
      (EventUnfoldsAll.more (hold_unfolds side joined_same single number_once (codes "r") (Right 5) (Right 6) right_r_latch right_r [])
      (EventUnfoldsAll.more (EventUnfolds.input (inr (inr (inr (inr (inr (inr (inr (inl (refl, refl)))))))))) EventUnfoldsAll.none)))

  pub left_z_reads : Reaches whole (Left 9) (Left 3)
  left_z_reads = Reaches.there (Reads.by_gate {fanins = Left 3 ∷ []} (3, omega arith, refl) (0, omega arith, refl)) Reaches.here

  pub left_y_reads : Reaches whole (Left 10) (Left 3)
  left_y_reads = Reaches.there (Reads.by_gate {fanins = Left 9 ∷ Left 5 ∷ Left 7 ∷ []} (4, omega arith, refl) (0, omega arith, refl)) left_z_reads

  -- with care for what reads q, e is 1 at the last load
  pub e_is_on : (bits : ℕ → List ℕ → Bool) (p : Either ℕ ℕ) → Reaches whole p (Left 3) → HasCare side On (ConeLatches whole p) bits → true ≡ bits 0 (1 ∷ [])
  e_is_on bits p reads care = hold_enable_is side joined_same single number_once (codes "q") (Left 3) (Left 4) left_q_latch left_q bits (1 ∷ []) true (care [] (Left 3) (codes "q", Left 4, left_q_latch, reads))

  pub left_t_unfolds : EventUnfolds side On None (Left 8) [] t_tree
  left_t_unfolds = EventUnfolds.gate {fanins = Left 7 ∷ []} (2, omega arith, refl) (EventUnfoldsAll.more (EventUnfolds.input (inr (inr (inr (inl (refl, refl)))))) EventUnfoldsAll.none)

  pub right_t_unfolds : EventUnfolds side On None (Right 8) [] t_tree
  right_t_unfolds = EventUnfolds.gate {fanins = Right 7 ∷ []} (9, omega arith, refl) (EventUnfoldsAll.more (EventUnfolds.input (inr (inr (inr (inr (inr (inr (inr (inl (refl, refl)))))))))) EventUnfoldsAll.none)

  pub joined_q_enabled : IsEnabled whole (Left 3)
  joined_q_enabled = hold_enabled side joined_same single number_once (codes "q") (Left 3) (Left 4) left_q_latch left_q

  pub y_values : (bits : ℕ → List ℕ → Bool) (l r : Tree (List ℕ)) → tree_value bits l ≡ tree_value bits r → tree_value bits (y_of l) ≡ tree_value bits (y_of r)
  unfolding tree_value
  y_values bits l r e = ap (λ b. cover_value all_cover (b ∷ cover_value load_cover (bits 1 (2 ∷ []) ∷ bits 2 (2 ∷ []) ∷ false ∷ []) ∷ bits 3 [] ∷ [])) e

  -- an output by its name
  abbrev pub Output : Named ℕ → Type 0
  Output n = ((n.name ≡ codes "y") × (n.place ≡ 10)) ⊎ (((n.name ≡ codes "z") × (n.place ≡ 9)) ⊎ ((n.name ≡ codes "t") × (n.place ≡ 8)))

  -- the pairs are those of y, z and t
  pub at_outputs : (F : ℕ → ℕ → Type 0) → F 10 10 → F 9 9 → F 8 8 → (p q : ℕ) → IsPair [] left_side right_side p q → F p q
  at_outputs F y z t p q (IsPair.nexts h l r) = absurd (omega (arith, h.1))
  at_outputs F y z t p q (IsPair.outputs {name = name} l r) = go (output p l) (output q r)
    where
      output : (s : ℕ) → Contains left_side.outputs (record { name = name; place = s }) → Output (record { name = name; place = s })
      output s h = each_at Output left_side.outputs (inl (refl, refl), (inr (inl (refl, refl)), (inr (inr (refl, refl)), tt))) (record { name = name; place = s }) h

      at : (i j : ℕ) → F i j → p ≡ i → q ≡ j → F p q
      at i j equal e d = subst (λ k. F k q) (sym e) (subst (F i) (sym d) equal)

      other : (i j : ℕ) → i ≢ j → name ≡ i ∷ [] → name ≡ j ∷ [] → ⊥
      other i j n e d = n (first (sym e ∙ d))
        where
          first : i ∷ [] ≡ j ∷ [] → i ≡ j
          first k = cc

      go : Output (record { name = name; place = p }) → Output (record { name = name; place = q }) → F p q
      go (inl a) (inl b) = at 10 10 y a.1 b.1
      go (inl a) (inr (inl b)) = absurd (other 121 122 (λ e. omega arith) a.0 b.0)
      go (inl a) (inr (inr b)) = absurd (other 121 116 (λ e. omega arith) a.0 b.0)
      go (inr (inl a)) (inl b) = absurd (other 122 121 (λ e. omega arith) a.0 b.0)
      go (inr (inl a)) (inr (inl b)) = at 9 9 z a.1 b.1
      go (inr (inl a)) (inr (inr b)) = absurd (other 122 116 (λ e. omega arith) a.0 b.0)
      go (inr (inr a)) (inl b) = absurd (other 116 121 (λ e. omega arith) a.0 b.0)
      go (inr (inr a)) (inr (inl b)) = absurd (other 116 122 (λ e. omega arith) a.0 b.0)
      go (inr (inr a)) (inr (inr b)) = at 8 8 t a.1 b.1
