-- The class map is one: trees, care and enables look at the classes of latches of lower rank alone, and these are given before.
use Rattle.std.proofs.Common.{◌≡◌, ◌≢◌, ℕ, zero, suc, ◌<◌, ◌≤◌, max, Bool, true, false, List, [], ◌∷◌, ◌++◌, refl, sym, ◌∙◌, ap, subst, arith, inl, inr, Option, Some, None, slice_get}
use Rattle.std.specs.Prelude.{◌⊎◌}
use Rattle.std.specs.List.{Contains, AllPairs, fold}
use Rattle.std.proofs.lemmas.List.Elements.{Contains-append_cases, Contains-append_left, Contains-append_right}
use Rattle.circuit_theory.specs.Circuit.{Circuit, Latch, IsLatch, IsSingleDriven, Reads, Reaches}
use Rattle.circuit_theory.specs.Run.{IsEnabled}
use Rattle.circuit_theory.specs.Depth.{IsDepth, LatchesHaveDepths}
use Rattle.circuit_theory.specs.Tree.{Tree, Trees}
use Rattle.circuit_theory.specs.Cone.{latch_place, latches_of}
use Rattle.circuit_theory.specs.Frame.{EventSide, NotPut, EventUnfolds, EventUnfoldsAll, ConeLatches, ConeOthers, ReachedAt, IsEnable, HasCare}
use Rattle.circuit_theory.specs.Joined.{joined}
use Rattle.circuit_theory.specs.Classes.{EnableCare, EnablesDiffer, SometimesOff, EqualsMembers, DiffersFromMember, classes_of, IsInFirstClass, IsLatchOrder, HasClasses}
use Rattle.circuit_theory.specs.EventTotals.{IsMapSoFar}
use Rattle.circuit_laws.specs.event_laws.Laws.{ClassesAreOne, ClassesSoFarAreOne}
use Rattle.circuit_theory.proofs.Lists.{Contains-head, Contains-tail, Contains-cases, at_of}
use Rattle.circuit_theory.proofs.Sums.{AllPairs-head, AllPairs-tail}
use Rattle.circuit_laws.proofs.Finite.{weakly_decided}
use Rattle.circuit_laws.proofs.Pairs.{filter_map-has}
use Rattle.circuit_laws.proofs.JoinedParts.{joined_same, joined_single}
use Rattle.circuit_laws.proofs.event_laws.EventAgreement.{rank, rank_is, rank_falls, numbers_same}

-- two lists with the same elements, each in one strict order, are one
sorted_once : {X : Type 0} (same : (x y : X) → (x ≡ y) ⊎ (x ≢ y)) (R : X → X → Type 0) (xs ys : List X) → ((x y : X) → Contains xs x → Contains xs y → R x y → R y x → ⊥) → AllPairs R xs → AllPairs R ys →
    ((x : X) → Contains xs x → Contains ys x) → ((y : X) → Contains ys y → Contains xs y) → xs ≡ ys
sorted_once same R [] [] apart px py to back = refl
sorted_once same R [] (y ∷ ys) apart px py to back = absurd (let k = back y (Contains-head y ys) in omega (arith, k.1))
sorted_once same R (x ∷ xs) [] apart px py to back = absurd (let k = to x (Contains-head x xs) in omega (arith, k.1))
sorted_once {X} same R (x ∷ xs) (y ∷ ys) apart px py to back =
    go (same x y)
    (λ to_tail back_tail. sorted_once same R xs ys (λ v w hv hw. apart v w (Contains-tail x v xs hv) (Contains-tail x w xs hw)) (AllPairs-tail R x xs px) (AllPairs-tail R y ys py) to_tail back_tail)
  where
    heads : x ≢ y → ⊥
    heads n = pick (Contains-cases y x ys (to x (Contains-head x xs))) (Contains-cases x y xs (back y (Contains-head y ys)))
      where
        pick : (y ≡ x) ⊎ Contains ys x → (x ≡ y) ⊎ Contains xs y → ⊥
        pick (inl e) other = n (sym e)
        pick (inr k) (inl e) = n e
        pick (inr k) (inr m) = apart x y (Contains-head x xs) (Contains-tail x y xs m) (AllPairs-head R x xs px y m) (AllPairs-head R y ys py x k)

    go : (x ≡ y) ⊎ (x ≢ y) → (((z : X) → Contains xs z → Contains ys z) → ((z : X) → Contains ys z → Contains xs z) → xs ≡ ys) → x ∷ xs ≡ y ∷ ys
    go (inr n) later = absurd (heads n)
    go (inl e) later = let rest = later to_tail back_tail in λ i. e i ∷ rest i
      where
        to_tail : (z : X) → Contains xs z → Contains ys z
        to_tail z k = pick (Contains-cases y z ys (to z (Contains-tail x z xs k)))
          where
            pick : (y ≡ z) ⊎ Contains ys z → Contains ys z
            pick (inr m) = m
            pick (inl q) = let r = subst (R x) (sym (e ∙ q)) (AllPairs-head R x xs px z k) in absurd (apart x x (Contains-head x xs) (Contains-head x xs) r r)

        back_tail : (z : X) → Contains ys z → Contains xs z
        back_tail z k = pick (Contains-cases x z xs (back z (Contains-tail y z ys k)))
          where
            pick : (x ≡ z) ⊎ Contains xs z → Contains xs z
            pick (inr m) = m
            pick (inl q) =
                let after : R y z = AllPairs-head R y ys py z k in
                let r : R x x = subst (R x) (sym q) (subst (λ w. R w z) (sym e) after) in
                absurd (apart x x (Contains-head x xs) (Contains-head x xs) r r)

module _ {P : Type 0} (c : Circuit P) (single : IsSingleDriven c) (same : (p q : P) → (p ≡ q) ⊎ (p ≢ q)) (depths : LatchesHaveDepths c (IsEnabled c)) (o : List ℕ) where
  abbrev pub On : P → Type 0
  On = IsEnabled c

  abbrev pub side : (P → ℕ) → EventSide P
  side f = record { circuit = c; order = o; class = f }

  abbrev pub rank_of : P → ℕ
  rank_of = rank c single same depths

  falls : (u w : P) → ConeOthers c On u w → rank_of w < rank_of u
  falls = rank_falls c single same depths

  -- one class for each latch of a rank below R
  abbrev pub Agrees : ℕ → (P → ℕ) → (P → ℕ) → Type 0
  Agrees R f g = (name : List ℕ) (w next : P) → IsLatch c name w next → rank_of w < R → f w ≡ g w

  module _ (R : ℕ) (f g : P → ℕ) (agree : Agrees R f g) where
    abbrev Low : Option (P × Bool) → P → Type 0
    Low put p = (v : P) → ConeLatches c p v → NotPut put v → rank_of v < R

    mutual
      unfolds_to : {put : Option (P × Bool)} {p : P} {node : List ℕ} {tree : Tree (List ℕ)} → EventUnfolds (side f) On put p node tree → Low put p → EventUnfolds (side g) On put p node tree
      unfolds_to (EventUnfolds.input h) low = EventUnfolds.input h
      unfolds_to (EventUnfolds.gate eq each) low = EventUnfolds.gate eq (all_to each (λ q m v cone k. low v (cone.0, cone.1, cone.2, Reaches.there (Reads.by_gate eq m) cone.3) k))
      unfolds_to (EventUnfolds.port eq rest) low = EventUnfolds.port eq (unfolds_to rest (λ v cone k. low v (cone.0, cone.1, cone.2, Reaches.there (Reads.by_port eq) cone.3) k))
      unfolds_to (EventUnfolds.plain {name = name} {u = u} {next = next} {node = node} {tree = tree} latch free off rest) low =
          let here = low u (name, next, latch, Reaches.here) free in
          EventUnfolds.plain latch free off
          (subst (λ k. EventUnfolds (side g) On None next (k ∷ node) tree) (agree name u next latch here)
          (unfolds_to rest (λ v cone k. let down = falls u v (name, next, latch, cone, λ en. absurd (off en)) in omega (arith, down, here))))
      unfolds_to (EventUnfolds.held {name = name} {u = u} {next = next} {node = node} {tree = tree} latch free on rest) low =
          let here = low u (name, next, latch, Reaches.here) free in
          EventUnfolds.held latch free on
          (subst (λ k. EventUnfolds (side g) On (Some (u, false)) next (k ∷ node) tree) (agree name u next latch here)
          (unfolds_to rest (λ v cone k. let down = falls u v (name, next, latch, cone, λ en. k) in omega (arith, down, here))))
      unfolds_to (EventUnfolds.fixed) low = EventUnfolds.fixed

      all_to : {put : Option (P × Bool)} {ps : List P} {node : List ℕ} {trees : Trees (List ℕ)} → EventUnfoldsAll (side f) On put ps node trees → ((q : P) → Contains ps q → Low put q) → EventUnfoldsAll (side g) On put ps node trees
      all_to EventUnfoldsAll.none low = EventUnfoldsAll.none
      all_to (EventUnfoldsAll.more {p = p} {ps = ps} one rest) low = EventUnfoldsAll.more (unfolds_to one (low p (Contains-head p ps))) (all_to rest (λ q m. low q (Contains-tail p q ps m)))

    pub enable_to : (bits : ℕ → List ℕ → Bool) (u : P) (node : List ℕ) (bit : Bool) → rank_of u ≤ R → IsEnable (side f) On bits u node bit → IsEnable (side g) On bits u node bit
    enable_to bits u node bit low (IsEnable.always off e) = IsEnable.always off e
    enable_to bits u node bit low (IsEnable.own {name = name} {next = next} on latch low_is high_is e) = IsEnable.own on latch (unfolds_to low_is below) (unfolds_to high_is below) e
      where
        below : (v : P) → ConeLatches c next v → v ≢ u → rank_of v < R
        below v cone k = let down = falls u v (name, next, latch, cone, λ en. k) in omega (arith, down, low)

    abbrev Starts : (P → Type 0) → Type 0
    Starts start = (w : P) → start w → ((name : List ℕ) × (next : P) × IsLatch c name w next) × (rank_of w < R)

    reached_to : (start : P → Type 0) → Starts start → (node : List ℕ) (w : P) → ReachedAt (side f) On start node w → ReachedAt (side g) On start node w × ((name : List ℕ) × (next : P) × IsLatch c name w next) × (rank_of w < R)
    reached_to start first [] w r = (r, (first w r).0, (first w r).1)
    reached_to start first (k ∷ node) w r =
        let up = reached_to start first node r.0 r.1 in
        let others = r.3 in
        let cone = others.3 in
        let down = falls r.0 w others in
        ((r.0, up.0, sym (agree others.0 r.0 others.1 others.2 up.2) ∙ r.2, others), (cone.0, cone.1, cone.2), omega (arith, down, up.2))

  module _ (R : ℕ) (f g : P → ℕ) (agree : Agrees R f g) where
    flipped : Agrees R g f
    flipped name w next latch low = sym (agree name w next latch low)

    care_to : (start : P → Type 0) → Starts R f g agree start → (bits : ℕ → List ℕ → Bool) → HasCare (side f) On start bits → HasCare (side g) On start bits
    care_to start first bits care node v r =
        let back = reached_to R g f flipped start first node v r in
        let l = back.1 in
        enable_to R f g agree bits v (g v ∷ node) true (omega (arith, back.2)) (subst (λ k. IsEnable (side f) On bits v (k ∷ node) true) (agree l.0 v l.1 l.2 back.2) (care node v back.0))

    pub enable_care : (bits : ℕ → List ℕ → Bool) (u : P) → rank_of u ≤ R → EnableCare (side f) bits u → EnableCare (side g) bits u
    enable_care bits u low care = care_to (ConeOthers c On u) first bits care
      where
        first : (w : P) → ConeOthers c On u w → ((name : List ℕ) × (next : P) × IsLatch c name w next) × (rank_of w < R)
        first w k = let cone = k.3 in let down = falls u w k in ((cone.0, cone.1, cone.2), omega (arith, down, low))

    -- a frame in which two enables differ, and one in which an enable is 0
    pub differ_to : (u v : P) → rank_of u ≤ R → rank_of v ≤ R → EnablesDiffer (side f) u v → EnablesDiffer (side g) u v
    differ_to u v low low' d = record {
      bits = d.bits;
      left = d.left;
      right = d.right;
      left_care = enable_care d.bits u low d.left_care;
      right_care = enable_care d.bits v low' d.right_care;
      left_is = enable_to R f g agree d.bits u [] d.left low d.left_is;
      right_is = enable_to R f g agree d.bits v [] d.right low' d.right_is;
      differ = d.differ;
    }

    pub off_to : (u : P) → rank_of u ≤ R → SometimesOff (side f) u → SometimesOff (side g) u
    off_to u low d = record { bits = d.bits; care = enable_care d.bits u low d.care; off = enable_to R f g agree d.bits u [] false low d.off }

  -- the lower of two classes can't be the first that fits
  not_lower : (f g : P → ℕ) (before : List P) (v : P) → Agrees (rank_of v) g f → ((u : P) → Contains before u → f u ≡ g u) → ((u : P) → Contains before u → rank_of u ≤ rank_of v) →
      classes_of (side f) before ≡ classes_of (side g) before → IsInFirstClass (side f) before v → IsInFirstClass (side g) before v → f v < g v → ⊥
  not_lower f g before v agree members low number l r lower = go (f v) (l.joins (omega (arith, r.not_past_next, lower, number))) (r.not_earlier (f v) lower)
    where
      no : false ≡ true → ⊥
      no e = cc

      go : (k : ℕ) → EqualsMembers (side f) before k v → DiffersFromMember (side g) before k v → ⊥
      go zero always off = let x = off_to (rank_of v) g f agree v (omega arith) off in no (always x.bits false x.care x.off)
      go (suc k) equal d =
          let x = differ_to (rank_of v) g f agree d.0 v (low d.0 d.1) (omega arith) d.3 in
          x.differ (equal d.0 d.1 (members d.0 d.1 ∙ d.2) x.bits x.left x.right x.left_care x.right_care x.left_is x.right_is)

  pub fold_same : (f g : P → ℕ) (n : ℕ) (xs : List P) → ((u : P) → Contains xs u → f u ≡ g u) → fold (λ m u. max m (f u)) n xs ≡ fold (λ m u. max m (g u)) n xs
  fold_same f g n [] h = refl
  fold_same f g n (x ∷ xs) h = fold_same f g (max n (f x)) xs (λ u k. h u (Contains-tail x u xs k)) ∙ ap (λ m. fold (λ m u. max m (g u)) (max n m) xs) (h x (Contains-head x xs))

  -- earlier in the order is no deeper
  abbrev pub Before : P → P → Type 0
  Before u v = (d e i j : ℕ) → IsDepth c On u d → IsDepth c On v e → slice_get (latches_of c) i ≡ Some u → slice_get (latches_of c) j ≡ Some v → (d < e) ⊎ ((d ≡ e) × (i < j))

  pub place_of : (u : P) → On u → (i : ℕ) × (slice_get (latches_of c) i ≡ Some u)
  place_of u en = at_of (latches_of c) u (filter_map-has latch_place c.equations (Latch en.name u en.next) u en.latch refl)

  pub depth_of : (u : P) → On u → IsDepth c On u (rank_of u)
  depth_of u en = rank_is c single same depths en.name u en.next en.latch

  -- two class maps that both give their classes to the latches taken so far, which stand first in the order
  module _ (f g : P → ℕ) (order taken rest : List P) (is_order : IsLatchOrder (side f) order) (whole : order ≡ taken ++ rest)
      (plain : (name : List ℕ) (u next : P) → IsLatch c name u next → (On u → ⊥) → f u ≡ 0) (plain_too : (name : List ℕ) (u next : P) → IsLatch c name u next → (On u → ⊥) → g u ≡ 0)
      (joins : (before after : List P) (v : P) → taken ≡ before ++ v ∷ after → IsInFirstClass (side f) before v)
      (joins_too : (before after : List P) (v : P) → taken ≡ before ++ v ∷ after → IsInFirstClass (side g) before v) where
    -- what stands before in the order is no deeper
    no_deeper : (before after : List P) (v : P) → order ≡ before ++ v ∷ after → (u : P) → Contains before u → rank_of u ≤ rank_of v
    no_deeper before after v split u h =
        let ev = is_order.enabled v (subst (λ zs. Contains zs v) (sym split) (Contains-append_right before (v ∷ after) v (Contains-head v after))) in
        let eu = is_order.enabled u (subst (λ zs. Contains zs u) (sym split) (Contains-append_left before (v ∷ after) u h)) in
        let i = place_of u eu in
        let j = place_of v ev in
        low (ahead before (subst (AllPairs Before) split is_order.in_order) h (rank_of u) (rank_of v) i.0 j.0 (depth_of u eu) (depth_of v ev) i.1 j.1)
      where
        low : {i j : ℕ} → (rank_of u < rank_of v) ⊎ ((rank_of u ≡ rank_of v) × (i < j)) → rank_of u ≤ rank_of v
        low (inl a) = omega arith
        low (inr a) = omega (arith, a.0)

        ahead : (xs : List P) → AllPairs Before (xs ++ v ∷ after) → Contains xs u → Before u v
        ahead [] all k = absurd (omega (arith, k.1))
        ahead (x ∷ xs) all k = pick (Contains-cases x u xs k) (λ m. ahead xs (AllPairs-tail Before x (xs ++ v ∷ after) all) m)
          where
            pick : (x ≡ u) ⊎ Contains xs u → (Contains xs u → Before u v) → Before u v
            pick (inl e) later = subst (λ z. Before z v) e (AllPairs-head Before x (xs ++ v ∷ after) all v (Contains-append_right xs (v ∷ after) v (Contains-head v after)))
            pick (inr m) later = later m

    -- an enabled latch of a lower rank stands before
    stands_before : (before after : List P) (v w : P) → order ≡ before ++ v ∷ after → On w → rank_of w < rank_of v → Contains before w
    stands_before before after v w split en low = pick (Contains-append_cases before (v ∷ after) w (subst (λ zs. Contains zs w) split (is_order.all w en)))
      where
        ev : On v
        ev = is_order.enabled v (subst (λ zs. Contains zs v) (sym split) (Contains-append_right before (v ∷ after) v (Contains-head v after)))

        behind : (xs : List P) → AllPairs Before (xs ++ v ∷ after) → Contains after w → Before v w
        behind [] all k = AllPairs-head Before v after all w k
        behind (x ∷ xs) all k = behind xs (AllPairs-tail Before x (xs ++ v ∷ after) all) k

        deeper : {i j : ℕ} → (rank_of v < rank_of w) ⊎ ((rank_of v ≡ rank_of w) × (i < j)) → ⊥
        deeper (inl a) = omega (arith, a, low)
        deeper (inr a) = omega (arith, a.0, low)

        pick : Contains before w ⊎ Contains (v ∷ after) w → Contains before w
        pick (inl k) = k
        pick (inr k) = other (Contains-cases v w after k)
          where
            other : (v ≡ w) ⊎ Contains after w → Contains before w
            other (inl e) = let q : rank_of v ≡ rank_of w = ap rank_of e in absurd (omega (arith, q, low))
            other (inr m) =
                let i = place_of v ev in
                let j = place_of w en in
                absurd (deeper (behind before (subst (AllPairs Before) split is_order.in_order) m (rank_of v) (rank_of w) i.0 j.0 (depth_of v ev) (depth_of w en) i.1 j.1))

    -- where the latches before have one class, so have all of lower rank
    lower_agree : (before after : List P) (v : P) → order ≡ before ++ v ∷ after → ((u : P) → Contains before u → f u ≡ g u) → Agrees (rank_of v) f g
    lower_agree before after v split members name w next latch low = numbers_same (f w) (g w) (λ apart. weakly_decided (λ d. apart (by d)))
      where
        by : On w ⊎ (On w → ⊥) → f w ≡ g w
        by (inl en) = members w (stands_before before after v w split en low)
        by (inr off) = plain name w next latch off ∙ sym (plain_too name w next latch off)

    in_order : (before after : List P) (v : P) → taken ≡ before ++ v ∷ after → order ≡ before ++ v ∷ (after ++ rest)
    in_order before after v split = whole ∙ (ap (λ zs. zs ++ rest) split ∙ again before)
      where
        again : (xs : List P) → (xs ++ v ∷ after) ++ rest ≡ xs ++ v ∷ (after ++ rest)
        again [] = refl
        again (x ∷ xs) = ap (λ zs. x ∷ zs) (again xs)

    step : (before after : List P) (v : P) → taken ≡ before ++ v ∷ after → ((u : P) → Contains before u → f u ≡ g u) → f v ≡ g v
    step before after v split members = go (either_way (f v) (g v))
      where
        either_way : (i j : ℕ) → (i ≡ j) ⊎ ((i < j) ⊎ (j < i))
        either_way i j = grind arith

        number : classes_of (side f) before ≡ classes_of (side g) before
        number = fold_same f g 0 before members

        placed : order ≡ before ++ v ∷ (after ++ rest)
        placed = in_order before after v split

        agree : Agrees (rank_of v) f g
        agree = lower_agree before (after ++ rest) v placed members

        first : IsInFirstClass (side f) before v
        first = joins before after v split

        second : IsInFirstClass (side g) before v
        second = joins_too before after v split

        go : (f v ≡ g v) ⊎ ((f v < g v) ⊎ (g v < f v)) → f v ≡ g v
        go (inl e) = e
        go (inr (inl l)) = absurd (not_lower f g before v (λ name w next latch low. sym (agree name w next latch low)) members (no_deeper before (after ++ rest) v placed) number first second l)
        go (inr (inr l)) = absurd (not_lower g f before v agree (λ u h. sym (members u h)) (no_deeper before (after ++ rest) v placed) (sym number) second first l)

    each_of : (before after : List P) → taken ≡ before ++ after → ((u : P) → Contains before u → f u ≡ g u) → (u : P) → Contains after u → f u ≡ g u
    each_of before [] split members u h = absurd (omega (arith, h.1))
    each_of before (v ∷ after) split members u h =
        pick (Contains-cases v u after h) (λ k. each_of (before ++ v ∷ []) after (split ∙ again before) (λ w m. longer w m) u k)
      where
        again : (xs : List P) → xs ++ v ∷ after ≡ (xs ++ v ∷ []) ++ after
        again [] = refl
        again (x ∷ xs) = ap (λ zs. x ∷ zs) (again xs)

        now : f v ≡ g v
        now = step before after v split members

        longer : (w : P) → Contains (before ++ v ∷ []) w → f w ≡ g w
        longer w k = part (Contains-append_cases before (v ∷ []) w k)
          where
            part : Contains before w ⊎ Contains (v ∷ []) w → f w ≡ g w
            part (inl m) = members w m
            part (inr m) = last (Contains-cases v w [] m)
              where
                last : (v ≡ w) ⊎ Contains [] w → f w ≡ g w
                last (inl e) = ap f (sym e) ∙ (now ∙ ap g e)
                last (inr n) = absurd (omega (arith, n.1))

        pick : (v ≡ u) ⊎ Contains after u → (Contains after u → f u ≡ g u) → f u ≡ g u
        pick (inl e) later = ap f (sym e) ∙ (now ∙ ap g e)
        pick (inr k) later = later k

    one_so_far : (u : P) → Contains taken u → f u ≡ g u
    one_so_far u h = each_of [] taken refl (λ w k. absurd (omega (arith, k.1))) u h

  -- of two class maps as far as they go, the one going on from the other
  pub one_class_so_far : (f g : P → ℕ) (taken more rest others : List P) → IsMapSoFar (side f) taken rest → IsMapSoFar (side g) (taken ++ more) others → (u : P) → Contains taken u → f u ≡ g u
  one_class_so_far f g taken more rest others mine theirs =
      one_so_far f g (taken ++ rest) taken rest mine.is_order refl mine.plain theirs.plain mine.each (λ before after v split. theirs.each before (after ++ more) v (ap (λ zs. zs ++ more) split ∙ again before after v))
    where
      again : (xs after : List P) (v : P) → (xs ++ v ∷ after) ++ more ≡ xs ++ v ∷ (after ++ more)
      again [] after v = refl
      again (x ∷ xs) after v = ap (λ zs. x ∷ zs) (again xs after v)

  module _ (f g : P → ℕ) (mine : HasClasses (side f)) (theirs : HasClasses (side g)) where
    one_order : mine.order ≡ theirs.order
    one_order =
        sorted_once same Before mine.order theirs.order apart mine.is_order.in_order theirs.is_order.in_order
        (λ u h. theirs.is_order.all u (mine.is_order.enabled u h)) (λ u h. mine.is_order.all u (theirs.is_order.enabled u h))
      where
        apart : (u v : P) → Contains mine.order u → Contains mine.order v → Before u v → Before v u → ⊥
        apart u v hu hv x y =
            let eu = mine.is_order.enabled u hu in
            let ev = mine.is_order.enabled v hv in
            let i = place_of u eu in
            let j = place_of v ev in
            clash (rank_of u) (rank_of v) i.0 j.0 (x (rank_of u) (rank_of v) i.0 j.0 (depth_of u eu) (depth_of v ev) i.1 j.1) (y (rank_of v) (rank_of u) j.0 i.0 (depth_of v ev) (depth_of u eu) j.1 i.1)
          where
            clash : (d e i j : ℕ) → (d < e) ⊎ ((d ≡ e) × (i < j)) → (e < d) ⊎ ((e ≡ d) × (j < i)) → ⊥
            clash d e i j (inl a) (inl b) = omega arith
            clash d e i j (inl a) (inr b) = omega (arith, b.0)
            clash d e i j (inr a) (inl b) = omega (arith, a.0)
            clash d e i j (inr a) (inr b) = omega (arith, a.1, b.1)

    no_more : (xs : List P) → xs ≡ xs ++ []
    no_more [] = refl
    no_more (x ∷ xs) = ap (λ zs. x ∷ zs) (no_more xs)

    pub one_class : (name : List ℕ) (u next : P) → IsLatch c name u next → f u ≡ g u
    one_class name u next latch = numbers_same (f u) (g u) (λ apart. weakly_decided (λ d. apart (by d)))
      where
        by : On u ⊎ (On u → ⊥) → f u ≡ g u
        by (inl en) = one_so_far f g mine.order mine.order [] mine.is_order (no_more mine.order) mine.is_map.plain theirs.is_map.plain mine.is_map.each
            (λ before after v split. theirs.is_map.each before after v (sym one_order ∙ split)) u (mine.is_order.all u en)
        by (inr off) = mine.is_map.plain name u next latch off ∙ sym (theirs.is_map.plain name u next latch off)

pub classes_are_one_in_nets : ClassesAreOne
classes_are_one_in_nets a b m n left right f g na nb depths mine theirs name u next latch =
    one_class (joined a b) (joined_single a b m n na nb) joined_same depths (left ++ right) f g mine theirs name u next latch

pub classes_so_far_are_one_in_nets : ClassesSoFarAreOne
classes_so_far_are_one_in_nets a b m n left right f g taken more rest others na nb depths mine theirs u h =
    one_class_so_far (joined a b) (joined_single a b m n na nb) joined_same depths (left ++ right) f g taken more rest others mine theirs u h
