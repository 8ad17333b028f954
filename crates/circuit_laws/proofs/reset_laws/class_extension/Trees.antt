-- Trees, and what tells enables apart, look at the classes of latches of lower rank alone.
use Rattle.std.proofs.Common.{◌≡◌, ◌≢◌, ◌∙◌, ℕ, ◌<◌, ◌≤◌, Bool, false, List, [], ◌∷◌, ◌++◌, sym, ap, subst, arith, inl, inr, Option, Some, None, append_assoc}
use Rattle.std.specs.Prelude.{◌⊎◌}
use Rattle.std.specs.List.{Contains}
use Rattle.std.proofs.lemmas.List.Elements.{Contains-append_left, Contains-append_right}
use Rattle.circuit_theory.specs.Circuit.{Circuit, IsLatch, IsSingleDriven, Reads, Reaches}
use Rattle.circuit_theory.specs.Depth.{LatchesHaveDepths}
use Rattle.circuit_theory.specs.Query.{Variable}
use Rattle.circuit_theory.specs.Run.{IsEnabled}
use Rattle.circuit_theory.specs.Tree.{Tree, Trees}
use Rattle.circuit_theory.proofs.Lists.{Contains-head, Contains-tail}
use Rattle.circuit_theory.specs.Classes.{EnablesEqual, IsFounder}
use Rattle.circuit_theory.specs.EventFrames.{IsCareTree, IsEnableTree, IsClassTree, AreNodeVariables, frame_of}
use Rattle.circuit_theory.specs.Frame.{NotPut, EventUnfolds, EventUnfoldsAll, ConeLatches, ConeOthers, ReachedAt}
use Rattle.circuit_laws.proofs.event_laws.EventAgreement.{rank_falls}
use Rattle.circuit_laws.proofs.event_laws.OneClassMap.{side, rank_of, Agrees, enable_to, enable_care}
use Rattle.circuit_laws.specs.reset_laws.class_extension.Telling.{TellsApart, TellsFromAlways}

module _ {P : Type 0} (c : Circuit P) (single : IsSingleDriven c) (same : (p q : P) → (p ≡ q) ⊎ (p ≢ q)) (depths : LatchesHaveDepths c (IsEnabled c)) (o : List ℕ) where
  abbrev Rank : P → ℕ
  Rank = rank_of c single same depths o

  falls : (u w : P) → ConeOthers c (IsEnabled c) u w → Rank w < Rank u
  falls = rank_falls c single same depths

  module _ (R : ℕ) (f g : P → ℕ) (agree : Agrees c single same depths o R f g) where
    -- all latches in its cone but the one that is put are of lower rank
    abbrev Low : Option (P × Bool) → P → Type 0
    Low put p = (v : P) → ConeLatches c p v → NotPut put v → Rank v < R

    mutual
      unfolds_to : {put : Option (P × Bool)} {p : P} {node : List ℕ} {tree : Tree (List ℕ)} → EventUnfolds (side c single same depths o f) (IsEnabled c) put p node tree → Low put p → EventUnfolds (side c single same depths o g) (IsEnabled c) put p node tree
      unfolds_to (EventUnfolds.input h) low = EventUnfolds.input h
      unfolds_to (EventUnfolds.gate eq each) low = EventUnfolds.gate eq (all_to each (λ q m v cone k. low v (cone.0, cone.1, cone.2, Reaches.there (Reads.by_gate eq m) cone.3) k))
      unfolds_to (EventUnfolds.port eq rest) low = EventUnfolds.port eq (unfolds_to rest (λ v cone k. low v (cone.0, cone.1, cone.2, Reaches.there (Reads.by_port eq) cone.3) k))
      unfolds_to (EventUnfolds.plain {name = name} {u = u} {next = next} {node = node} {tree = tree} latch free off rest) low =
          let here = low u (name, next, latch, Reaches.here) free in
          EventUnfolds.plain latch free off
          (subst (λ k. EventUnfolds (side c single same depths o g) (IsEnabled c) None next (k ∷ node) tree) (agree name u next latch here)
          (unfolds_to rest (λ v cone k. let down = falls u v (name, next, latch, cone, λ en. absurd (off en)) in omega (arith, down, here))))
      unfolds_to (EventUnfolds.held {name = name} {u = u} {next = next} {node = node} {tree = tree} latch free on rest) low =
          let here = low u (name, next, latch, Reaches.here) free in
          EventUnfolds.held latch free on
          (subst (λ k. EventUnfolds (side c single same depths o g) (IsEnabled c) (Some (u, false)) next (k ∷ node) tree) (agree name u next latch here)
          (unfolds_to rest (λ v cone k. let down = falls u v (name, next, latch, cone, λ en. k) in omega (arith, down, here))))
      unfolds_to (EventUnfolds.fixed) low = EventUnfolds.fixed

      all_to : {put : Option (P × Bool)} {ps : List P} {node : List ℕ} {trees : Trees (List ℕ)} → EventUnfoldsAll (side c single same depths o f) (IsEnabled c) put ps node trees → ((q : P) → Contains ps q → Low put q) →
          EventUnfoldsAll (side c single same depths o g) (IsEnabled c) put ps node trees
      all_to EventUnfoldsAll.none low = EventUnfoldsAll.none
      all_to (EventUnfoldsAll.more {p = p} {ps = ps} one rest) low = EventUnfoldsAll.more (unfolds_to one (low p (Contains-head p ps))) (all_to rest (λ q m. low q (Contains-tail p q ps m)))

    -- what a latch of this rank or a lower one takes over
    pub held_to : (name : List ℕ) (u next : P) (bit : Bool) (node : List ℕ) (tree : Tree (List ℕ)) → IsLatch c name u next → Rank u ≤ R → EventUnfolds (side c single same depths o f) (IsEnabled c) (Some (u, bit)) next node tree →
        EventUnfolds (side c single same depths o g) (IsEnabled c) (Some (u, bit)) next node tree
    held_to name u next bit node tree latch small rest = unfolds_to rest (λ v cone k. let down = falls u v (name, next, latch, cone, λ en. k) in omega (arith, down, small))

    enable_tree_to : (u : P) (tree : Tree (List ℕ)) → Rank u ≤ R → IsEnableTree (side c single same depths o f) u tree → IsEnableTree (side c single same depths o g) u tree
    enable_tree_to u tree small (IsEnableTree.own {name = name} {next = next} {bit = bit} latch on unfolds) = IsEnableTree.own latch on (held_to name u next bit [] tree latch small unfolds)

    -- what is reached from the other latches of a cone
    reached_to : (u : P) → Rank u ≤ R → (node : List ℕ) (w : P) → ReachedAt (side c single same depths o f) (IsEnabled c) (ConeOthers c (IsEnabled c) u) node w →
        ReachedAt (side c single same depths o g) (IsEnabled c) (ConeOthers c (IsEnabled c) u) node w × (Rank w < R)
    reached_to u small [] w r = (r, let down = falls u w r in omega (arith, down, small))
    reached_to u small (k ∷ node) w r =
        let up = reached_to u small node r.0 r.1 in
        let others = r.3 in
        let down = falls r.0 w others in
        ((r.0, up.0, sym (agree others.0 r.0 others.1 others.2 up.1) ∙ r.2, others), omega (arith, down, up.1))

    care_tree_to : (u : P) (tree : Tree (List ℕ)) → Rank u ≤ R → IsCareTree (side c single same depths o f) (ConeOthers c (IsEnabled c) u) tree → IsCareTree (side c single same depths o g) (ConeOthers c (IsEnabled c) u) tree
    care_tree_to u tree small (IsCareTree.enable {node = node} {name = name} {v = v} {next = next} {bit = bit} reached latch on unfolds) =
        let there = reached_to u small node v reached in
        IsCareTree.enable there.0 latch on
        (subst (λ k. EventUnfolds (side c single same depths o g) (IsEnabled c) (Some (v, bit)) next (k ∷ node) tree) (agree name v next latch there.1)
        (held_to name v next bit (f v ∷ node) tree latch (omega (arith, there.1)) unfolds))

    class_tree_to : (u w : P) (tree : Tree (List ℕ)) → Rank u ≤ R → Rank w ≤ R → IsClassTree (side c single same depths o f) u w tree → IsClassTree (side c single same depths o g) u w tree
    class_tree_to u w tree low_u low_w (inl (inl t)) = inl (inl (enable_tree_to u tree low_u t))
    class_tree_to u w tree low_u low_w (inl (inr t)) = inl (inr (enable_tree_to w tree low_w t))
    class_tree_to u w tree low_u low_w (inr (inl t)) = inr (inl (care_tree_to u tree low_u t))
    class_tree_to u w tree low_u low_w (inr (inr t)) = inr (inr (care_tree_to w tree low_w t))

  module _ (R : ℕ) (f g : P → ℕ) (agree : Agrees c single same depths o R f g) where
    back : Agrees c single same depths o R g f
    back name w next latch low = sym (agree name w next latch low)

    pub variables_to : (u w : P) (variables : List (Variable (List ℕ))) → Rank u ≤ R → Rank w ≤ R → AreNodeVariables (IsClassTree (side c single same depths o f) u w) variables → AreNodeVariables (IsClassTree (side c single same depths o g) u w) variables
    variables_to u w variables low_u low_w are = record {
      in_order = are.in_order;
      exactly = λ x. (
        λ h. let t = (are.exactly x).0 h in (t.0, class_tree_to R f g agree u w t.0 low_u low_w t.1, t.2),
        λ t. (are.exactly x).1 (t.0, class_tree_to R g f back u w t.0 low_u low_w t.1, t.2),
      );
    }

    equal_to : (u w : P) → Rank u ≤ R → Rank w ≤ R → EnablesEqual (side c single same depths o f) u w → EnablesEqual (side c single same depths o g) u w
    equal_to u w low_u low_w equal bits x y care_u care_w is_x is_y =
        equal bits x y (enable_care c single same depths o R g f back bits u low_u care_u) (enable_care c single same depths o R g f back bits w low_w care_w)
        (enable_to c single same depths o R g f back bits u [] x low_u is_x) (enable_to c single same depths o R g f back bits w [] y low_w is_y)

    module _ (taken more : List P) (kept : (u : P) → Contains taken u → f u ≡ g u) where
      longer : (before after : List P) (u : P) → taken ≡ before ++ u ∷ after → taken ++ more ≡ before ++ u ∷ (after ++ more)
      longer before after u split = ap (λ zs. zs ++ more) split ∙ append_assoc before (u ∷ after) more

      here : (before after : List P) (u : P) → taken ≡ before ++ u ∷ after → Contains taken u
      here before after u split = subst (λ zs. Contains zs u) (sym split) (Contains-append_right before (u ∷ after) u (Contains-head u after))

      ahead : (before after : List P) (u w : P) → taken ≡ before ++ u ∷ after → Contains before w → Contains taken w
      ahead before after u w split h = subst (λ zs. Contains zs w) (sym split) (Contains-append_left before (u ∷ after) w h)

      pub founder_to : (class : ℕ) (w : P) → IsFounder (side c single same depths o f) taken class w → IsFounder (side c single same depths o g) (taken ++ more) class w
      founder_to class w is = record {
        before = is.before;
        after = is.after ++ more;
        split = longer is.before is.after w is.split;
        class_is = sym (kept w (here is.before is.after w is.split)) ∙ is.class_is;
        first = λ u h e. is.first u h (kept u (ahead is.before is.after w u is.split h) ∙ e);
      }

      module _ (low_taken : (u : P) → Contains taken u → Rank u ≤ R) (latch : P) (low_latch : Rank latch ≤ R) (variables : List (Variable (List ℕ))) (bits : List Bool) where
        pub apart_to : (low : ℕ) (u : P) (l r : Bool) → TellsApart (side c single same depths o f) taken low u latch variables bits l r → TellsApart (side c single same depths o g) (taken ++ more) low u latch variables bits l r
        apart_to low u l r t =
            let low_u = low_taken u (here t.before t.after u t.split) in
            record {
              before = t.before;
              after = t.after ++ more;
              split = longer t.before t.after u t.split;
              class_is = sym (kept u (here t.before t.after u t.split)) ∙ t.class_is;
              earlier = λ w h e. let inside = ahead t.before t.after u w t.split h in equal_to w latch (low_taken w inside) low_latch (t.earlier w h (kept w inside ∙ e));
              are_variables = variables_to u latch variables low_u low_latch t.are_variables;
              each = t.each;
              left_care = enable_care c single same depths o R f g agree (frame_of variables bits) u low_u t.left_care;
              right_care = enable_care c single same depths o R f g agree (frame_of variables bits) latch low_latch t.right_care;
              left_is = enable_to c single same depths o R f g agree (frame_of variables bits) u [] l low_u t.left_is;
              right_is = enable_to c single same depths o R f g agree (frame_of variables bits) latch [] r low_latch t.right_is;
              differ = t.differ;
            }

        pub always_to : TellsFromAlways (side c single same depths o f) latch variables bits → TellsFromAlways (side c single same depths o g) latch variables bits
        always_to t = record {
          are_variables = variables_to latch latch variables low_latch low_latch t.are_variables;
          each = t.each;
          care = enable_care c single same depths o R f g agree (frame_of variables bits) latch low_latch t.care;
          off = enable_to c single same depths o R f g agree (frame_of variables bits) latch [] false low_latch t.off;
        }
