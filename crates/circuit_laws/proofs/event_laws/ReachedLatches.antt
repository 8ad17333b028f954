-- What event unfoldings reach is a finite list of latches at nodes, and a list that is closed and of which each element is reached is
-- that list.
use Rattle.std.proofs.Common.{◌≡◌, ◌≢◌, ℕ, zero, suc, ◌<◌, List, [], ◌∷◌, ◌++◌, refl, sym, ◌∙◌, ap, subst, arith, inl, inr, Option, Some, None}
use Rattle.std.specs.Prelude.{◌⊎◌, ◌↔◌}
use Rattle.std.specs.List.{Contains}
use Rattle.std.proofs.lemmas.List.Elements.{Contains-append_cases, Contains-append_left, Contains-append_right}
use Rattle.circuit_theory.specs.Cover.{Cover}
use Rattle.circuit_theory.specs.Circuit.{Circuit, Equation, Gate, Latch, Port, IsLatch, IsSingleDriven, Reads, Reaches}
use Rattle.circuit_theory.specs.Run.{IsEnabled, IsDetermined}
use Rattle.circuit_theory.specs.Joined.{joined}
use Rattle.circuit_theory.specs.Frame.{EventSide, ConeLatches, ConeOthers, ReachedAt}
use Rattle.circuit_theory.specs.EventSizes.{Start, IsOther}
use Rattle.circuit_theory.specs.EventTotals.{StartLatches}
use Rattle.circuit_theory.specs.EventFits.{side_by_side}
use Rattle.circuit_theory.specs.Reached.{LatchAtNode, AreReached, IsClosed}
use Rattle.circuit_laws.specs.event_laws.Laws.{ReachedAreListed, ClosedListsAreReached}
use Rattle.circuit_theory.proofs.Lists.{Contains-head, Contains-tail, Contains-cases}
use Rattle.circuit_laws.proofs.JoinedParts.{joined_same, joined_single, joined_determined}
use Rattle.circuit_laws.proofs.event_laws.EventAgreement.{rank, rank_falls}

nothing_there : {X C : Type 0} (x : X) → Contains [] x → C
nothing_there x h = absurd (omega (arith, h.1))

-- the elements of lists that belong to the elements of a list
gather : {X Y : Type 0} (G : X → Y → Type 0) (xs : List X) → ((x : X) → Contains xs x → (list : List Y) × ((y : Y) → Contains list y ↔ G x y)) →
    (list : List Y) × ((y : Y) → Contains list y ↔ ((x : X) × Contains xs x × G x y))
gather {X} {Y} G [] each = ([], λ y. (λ h. nothing_there y h, λ r. nothing_there r.0 r.1))
gather {X} {Y} G (x ∷ xs) each = go (each x (Contains-head x xs)) (gather G xs (λ y h. each y (Contains-tail x y xs h)))
  where
    go : (list : List Y) × ((y : Y) → Contains list y ↔ G x y) → (list : List Y) × ((y : Y) → Contains list y ↔ ((z : X) × Contains xs z × G z y)) →
        (list : List Y) × ((y : Y) → Contains list y ↔ ((z : X) × Contains (x ∷ xs) z × G z y))
    go first rest = (first.0 ++ rest.0, λ y. (λ h. from y (Contains-append_cases first.0 rest.0 y h), λ r. to y r.0 r.2 (Contains-cases x r.0 xs r.1)))
      where
        from : (y : Y) → Contains first.0 y ⊎ Contains rest.0 y → (z : X) × Contains (x ∷ xs) z × G z y
        from y (inl h) = (x, Contains-head x xs, (first.1 y).0 h)
        from y (inr h) = let r = (rest.1 y).0 h in (r.0, Contains-tail x r.0 xs r.1, r.2)

        to : (y : Y) (z : X) → G z y → (x ≡ z) ⊎ Contains xs z → Contains (first.0 ++ rest.0) y
        to y z g (inl e) = Contains-append_left first.0 rest.0 y ((first.1 y).1 (subst (λ w. G w y) (sym e) g))
        to y z g (inr h) = Contains-append_right first.0 rest.0 y ((rest.1 y).1 (z, h, g))

-- a list without an element
drop : {X : Type 0} → ((x y : X) → (x ≡ y) ⊎ (x ≢ y)) → (u : X) (xs : List X) → (ys : List X) × ((x : X) → Contains ys x ↔ (Contains xs x × (x ≢ u)))
drop {X} same u [] = ([], λ x. (λ h. nothing_there x h, λ r. nothing_there x r.0))
drop {X} same u (y ∷ xs) = go (same y u) (drop same u xs)
  where
    go : (y ≡ u) ⊎ (y ≢ u) → (ys : List X) × ((x : X) → Contains ys x ↔ (Contains xs x × (x ≢ u))) → (ys : List X) × ((x : X) → Contains ys x ↔ (Contains (y ∷ xs) x × (x ≢ u)))
    go (inl e) rest = (rest.0, λ x. (λ h. let r = (rest.1 x).0 h in (Contains-tail y x xs r.0, r.1), λ r. (rest.1 x).1 (other x r.1 (Contains-cases y x xs r.0), r.1)))
      where
        other : (x : X) → x ≢ u → (y ≡ x) ⊎ Contains xs x → Contains xs x
        other x n (inl q) = absurd (n (sym q ∙ e))
        other x n (inr h) = h
    go (inr n) rest = (y ∷ rest.0, λ x. (λ h. from x (Contains-cases y x rest.0 h), λ r. to x r.1 (Contains-cases y x xs r.0)))
      where
        from : (x : X) → (y ≡ x) ⊎ Contains rest.0 x → Contains (y ∷ xs) x × (x ≢ u)
        from x (inl q) = subst (λ z. Contains (y ∷ xs) z × (z ≢ u)) q (Contains-head y xs, n)
        from x (inr h) = let r = (rest.1 x).0 h in (Contains-tail y x xs r.0, r.1)

        to : (x : X) → x ≢ u → (y ≡ x) ⊎ Contains xs x → Contains (y ∷ rest.0) x
        to x m (inl q) = subst (Contains (y ∷ rest.0)) q (Contains-head y rest.0)
        to x m (inr h) = Contains-tail y x rest.0 ((rest.1 x).1 (h, m))

module _ {P : Type 0} (c : Circuit P) (single : IsSingleDriven c) where
  -- a list of the latches in the cone of p
  abbrev Listed : P → Type 0
  Listed p = (list : List P) × ((v : P) → Contains list v ↔ ConeLatches c p v)

  -- a latch in the cone of a gate is in that of a fan-in
  through_gate : (out v : P) (fanins : List P) (cover : Cover) → Contains c.equations (Gate out fanins cover) → ConeLatches c out v → (q : P) × Contains fanins q × ConeLatches c q v
  through_gate out v fanins cover eq cone = go v cone.0 cone.1 cone.3 cone.2
    where
      go : (v : P) (name : List ℕ) (next : P) → Reaches c out v → IsLatch c name v next → (q : P) × Contains fanins q × ConeLatches c q v
      go v name next Reaches.here latch = let e = single.one (Latch name out next) (Gate out fanins cover) latch eq refl in cc
      go v name next (Reaches.there (Reads.by_gate {q = q} {fanins = others} {cover = other} eq' h) rest) latch =
          let e = single.one (Gate out others other) (Gate out fanins cover) eq' eq refl in
          (q, subst (λ (xs : List P). Contains xs q) (ap fanins_of e) h, (name, next, latch, rest))
        where
          fanins_of : Equation P → List P
          fanins_of (Gate o fs k) = fs
          fanins_of (Latch m o t) = []
          fanins_of (Port o f) = []
      go v name next (Reaches.there (Reads.by_port {from = from} eq') rest) latch = let e = single.one (Port out from) (Gate out fanins cover) eq' eq refl in cc

  through_port : (out v from : P) → Contains c.equations (Port out from) → ConeLatches c out v → ConeLatches c from v
  through_port out v from eq cone = go v cone.0 cone.1 cone.3 cone.2
    where
      go : (v : P) (name : List ℕ) (next : P) → Reaches c out v → IsLatch c name v next → ConeLatches c from v
      go v name next Reaches.here latch = let e = single.one (Latch name out next) (Port out from) latch eq refl in cc
      go v name next (Reaches.there (Reads.by_gate {fanins = others} {cover = other} eq' h) rest) latch = let e = single.one (Gate out others other) (Port out from) eq' eq refl in cc
      go v name next (Reaches.there (Reads.by_port {from = own} eq') rest) latch =
          let e = single.one (Port out own) (Port out from) eq' eq refl in (name, next, latch, subst (λ z. Reaches c z v) (ap from_of e) rest)
        where
          from_of : Equation P → P
          from_of (Gate o fs k) = o
          from_of (Latch m o t) = o
          from_of (Port o f) = f

  cone_list : {p : P} → IsDetermined c p → Listed p
  cone_list {p} (IsDetermined.source (inl i)) = ([], λ v. (λ h. nothing_there v h, λ cone. absurd (none v cone.0 cone.1 cone.2 cone.3)))
    where
      none : (v : P) (name : List ℕ) (next : P) → IsLatch c name v next → Reaches c p v → ⊥
      none v name next latch Reaches.here = single.no_input (Latch name v next) latch i
      none v name next latch (Reaches.there (Reads.by_gate {fanins = fs} {cover = k} eq h) rest) = single.no_input (Gate p fs k) eq i
      none v name next latch (Reaches.there (Reads.by_port {from = f} eq) rest) = single.no_input (Port p f) eq i
  cone_list {p} (IsDetermined.source (inr l)) = (p ∷ [], λ v. (λ h. from v (Contains-cases p v [] h), λ cone. to v cone.3))
    where
      from : (v : P) → (p ≡ v) ⊎ Contains [] v → ConeLatches c p v
      from v (inl e) = subst (ConeLatches c p) e (l.0, l.1, l.2, Reaches.here)
      from v (inr h) = nothing_there v h

      to : (v : P) → Reaches c p v → Contains (p ∷ []) v
      to v Reaches.here = Contains-head p []
      to v (Reaches.there (Reads.by_gate {fanins = fs} {cover = k} eq h) rest) = let e = single.one (Gate p fs k) (Latch l.0 p l.1) eq l.2 refl in cc
      to v (Reaches.there (Reads.by_port {from = f} eq) rest) = let e = single.one (Port p f) (Latch l.0 p l.1) eq l.2 refl in cc
  cone_list (IsDetermined.gate {out = out} {fanins = fanins} {cover = cover} eq each) =
      let all = gather (λ q v. ConeLatches c q v) fanins (λ q h. cone_list (each q h)) in
      (all.0, λ v. (λ h. let r = (all.1 v).0 h in (r.2.0, r.2.1, r.2.2, Reaches.there (Reads.by_gate eq r.1) r.2.3), λ cone. (all.1 v).1 (through_gate out v fanins cover eq cone)))
  cone_list (IsDetermined.port {out = out} {from = from} eq rest) =
      let l = cone_list rest in
      (l.0, λ v. (λ h. let r = (l.1 v).0 h in (r.0, r.1, r.2, Reaches.there (Reads.by_port eq) r.3), λ cone. (l.1 v).1 (through_port out v from eq cone)))

module _ {P : Type 0} (side : EventSide P) where
  abbrev On : P → Type 0
  On = IsEnabled side.circuit

  -- what is reached from a latch at a node
  data From (u : P) (node : List ℕ) : List ℕ → P → Type 0 where
    here : From u node node u
    step : {w v : P} {m : List ℕ} → From u node m w → ConeOthers side.circuit On w v → From u node (side.class w ∷ m) v

  front : (u w : P) (node m : List ℕ) (v : P) → ConeOthers side.circuit On u w → From w (side.class u ∷ node) m v → From u node m v
  front u w node m v first From.here = From.step From.here first
  front u w node m v first (From.step {w = z} {m = k} rest o) = From.step (front u w node k z first rest) o

  -- the latch itself, or what is reached from another one of its cone
  abbrev Parted : P → List ℕ → List ℕ → P → Type 0
  Parted u node m v = ((m ≡ node) × (v ≡ u)) ⊎ ((w : P) × ConeOthers side.circuit On u w × From w (side.class u ∷ node) m v)

  parted : (u : P) (node m : List ℕ) (v : P) → From u node m v → Parted u node m v
  parted u node m v From.here = inl (refl, refl)
  parted u node m v (From.step {w = w} {m = k} rest o) = go (parted u node k w rest)
    where
      go : Parted u node k w → Parted u node (side.class w ∷ k) v
      go (inl e) =
          let o' : ConeOthers side.circuit On u v = subst (λ z. ConeOthers side.circuit On z v) e.1 o in
          inr (v, o', subst (λ (n : List ℕ). From v (side.class u ∷ node) n v) (λ i. side.class (sym e.1 i) ∷ sym e.0 i) From.here)
      go (inr r) = inr (r.0, r.1, From.step r.2 o)

  reached_from : (start : P → Type 0) (node : List ℕ) (v : P) → ReachedAt side On start node v → (w : P) × start w × From w [] node v
  reached_from start [] v h = (v, h, From.here)
  reached_from start (k ∷ node) v r =
      let up = reached_from start node r.0 r.1 in
      (up.0, up.1, subst (λ j. From up.0 [] (j ∷ node) v) r.2 (From.step up.2 r.3))

  from_reached : (start : P → Type 0) (w : P) → start w → (node : List ℕ) (v : P) → From w [] node v → ReachedAt side On start node v
  from_reached start w s node v From.here = s
  from_reached start w s node v (From.step {w = u} {m = m} rest o) = (u, from_reached start w s m u rest, refl, o)

  pub closed_list : (start : P → Type 0) (list : List (LatchAtNode P)) → IsClosed side On start list → ((x : LatchAtNode P) → Contains list x → ReachedAt side On start x.node x.latch) → AreReached side On start list
  closed_list start list closed sound node v = (λ h. sound (record { latch = v; node = node }) h, λ r. all node v r)
    where
      all : (node : List ℕ) (v : P) → ReachedAt side On start node v → Contains list (record { latch = v; node = node })
      all [] v h = closed.roots v h
      all (k ∷ node) v r = subst (λ j. Contains list (record { latch = v; node = j ∷ node })) r.2 (closed.children r.0 v node (all node r.0 r.1) r.3)

  module _ (single : IsSingleDriven side.circuit) (same : (p q : P) → (p ≡ q) ⊎ (p ≢ q)) (det : (name : List ℕ) (u next : P) → IsLatch side.circuit name u next → IsDetermined side.circuit next)
      (rank_of : P → ℕ) (falls : (u w : P) → ConeOthers side.circuit On u w → rank_of w < rank_of u) where
    -- the other latches of the cone of a latch
    others_list : (name : List ℕ) (u next : P) → IsLatch side.circuit name u next → (list : List P) × ((v : P) → Contains list v ↔ ConeOthers side.circuit On u v)
    others_list name u next latch = (rest.0, λ v. (λ h. let r = (rest.1 v).0 h in (name, next, latch, (cone.1 v).0 r.0, λ on. r.1), λ o. (rest.1 v).1 (to v o)))
      where
        cone : Listed side.circuit single next
        cone = cone_list side.circuit single (det name u next latch)

        rest : (ys : List P) × ((v : P) → Contains ys v ↔ (Contains cone.0 v × (v ≢ u)))
        rest = drop same u cone.0

        next_of : Equation P → P
        next_of (Gate o fs k) = o
        next_of (Latch m o t) = t
        next_of (Port o f) = f

        to : (v : P) → ConeOthers side.circuit On u v → Contains cone.0 v × (v ≢ u)
        to v o =
            let e : o.1 ≡ next = ap next_of (single.one (Latch o.0 u o.1) (Latch name u next) o.2 latch refl) in
            ((cone.1 v).1 (subst (λ z. ConeLatches side.circuit z v) e o.3), λ q. let down = falls u v o in let z : rank_of v ≡ rank_of u = ap rank_of q in omega (arith, down, z))

    -- a list of all that is reached from a latch at a node
    abbrev Below : P → List ℕ → Type 0
    Below u node = (list : List (LatchAtNode P)) × ((x : LatchAtNode P) → Contains list x ↔ From u node x.node x.latch)

    list_from : (R : ℕ) (name : List ℕ) (u next : P) (node : List ℕ) → IsLatch side.circuit name u next → rank_of u < R → Below u node
    list_from zero name u next node latch low = absurd (omega (arith, low))
    list_from (suc R) name u next node latch low = build (λ m w to at l k. list_from R m w to at l k)
      where
        first : LatchAtNode P
        first = record { latch = u; node = node }

        others : (list : List P) × ((v : P) → Contains list v ↔ ConeOthers side.circuit On u v)
        others = others_list name u next latch

        build : ((m : List ℕ) (w to : P) (at : List ℕ) → IsLatch side.circuit m w to → rank_of w < R → Below w at) → Below u node
        build later = (first ∷ all.0, λ x. (λ h. from x (Contains-cases first x all.0 h), λ f. to x (parted u node x.node x.latch f)))
          where
            below : (w : P) → Contains others.0 w → Below w (side.class u ∷ node)
            below w h =
                let o = (others.1 w).0 h in
                let cone = o.3 in
                let down = falls u w o in
                later cone.0 w cone.1 (side.class u ∷ node) cone.2 (omega (arith, down, low))

            all : (list : List (LatchAtNode P)) × ((x : LatchAtNode P) → Contains list x ↔ ((w : P) × Contains others.0 w × From w (side.class u ∷ node) x.node x.latch))
            all = gather (λ w x. From w (side.class u ∷ node) x.node x.latch) others.0 below

            from : (x : LatchAtNode P) → (first ≡ x) ⊎ Contains all.0 x → From u node x.node x.latch
            from x (inl e) = subst (λ (z : LatchAtNode P). From u node z.node z.latch) e From.here
            from x (inr h) = let r = (all.1 x).0 h in front u r.0 node x.node x.latch ((others.1 r.0).0 r.1) r.2

            to : (x : LatchAtNode P) → Parted u node x.node x.latch → Contains (first ∷ all.0) x
            to x (inl e) = subst (Contains (first ∷ all.0)) (λ i. record { latch = sym e.1 i; node = sym e.0 i }) (Contains-head first all.0)
            to x (inr r) = Contains-tail first x all.0 ((all.1 x).1 (r.0, (others.1 r.0).1 r.1, r.2))

    -- the latches that a start reaches at the root
    start_list : (x : Start P) → IsDetermined side.circuit x.place → (list : List P) × ((v : P) → Contains list v ↔ (ConeLatches side.circuit x.place v × IsOther x.left_out v))
    start_list x d = go x.left_out
      where
        cone : Listed side.circuit single x.place
        cone = cone_list side.circuit single d

        go : (o : Option P) → (list : List P) × ((v : P) → Contains list v ↔ (ConeLatches side.circuit x.place v × IsOther o v))
        go None = (cone.0, λ v. (λ h. ((cone.1 v).0 h, tt), λ r. (cone.1 v).1 r.0))
        go (Some u) = let rest = drop same u cone.0 in (rest.0, λ v. (λ h. let r = (rest.1 v).0 h in ((cone.1 v).0 r.0, r.1), λ r. (rest.1 v).1 ((cone.1 v).1 r.0, r.1)))

    pub reached_list : (starts : List (Start P)) → ((x : Start P) → Contains starts x → IsDetermined side.circuit x.place) → (list : List (LatchAtNode P)) × AreReached side On (StartLatches side starts) list
    reached_list starts each = (
      all.0,
      λ node v. (
        λ h. let r = (all.1 (record { latch = v; node = node })).0 h in from_reached (StartLatches side starts) r.0 (let w = (roots.1 r.0).0 r.1 in (w.0, w.1, w.2.0, w.2.1)) node v r.2,
        λ reached. let f = reached_from (StartLatches side starts) node v reached in (all.1 (record { latch = v; node = node })).1 (f.0, (roots.1 f.0).1 (f.1.0, f.1.1, (f.1.2, f.1.3)), f.2),
      ),
    )
      where
        roots : (list : List P) × ((v : P) → Contains list v ↔ ((x : Start P) × Contains starts x × (ConeLatches side.circuit x.place v × IsOther x.left_out v)))
        roots = gather (λ x v. ConeLatches side.circuit x.place v × IsOther x.left_out v) starts (λ x h. start_list x (each x h))

        below : (w : P) → Contains roots.0 w → Below w []
        below w h =
            let cone = ((roots.1 w).0 h).2.0 in
            list_from (suc (rank_of w)) cone.0 w cone.1 [] cone.2 (omega arith)

        all : (list : List (LatchAtNode P)) × ((x : LatchAtNode P) → Contains list x ↔ ((w : P) × Contains roots.0 w × From w [] x.node x.latch))
        all = gather (λ w x. From w [] x.node x.latch) roots.0 below

pub reached_are_listed_in_nets : ReachedAreListed
reached_are_listed_in_nets a b m n left right class na nb depths starts each =
    reached_list (side_by_side a b left right class) (joined_single a b m n na nb) joined_same (joined_determined a b m n na nb)
    (rank (joined a b) (joined_single a b m n na nb) joined_same depths) (rank_falls (joined a b) (joined_single a b m n na nb) joined_same depths) starts each

pub closed_lists_are_reached : ClosedListsAreReached
closed_lists_are_reached s starts list closed sound = closed_list s (StartLatches s starts) list closed sound
