-- A round turned: the positions, and the cycle that it is.
use Rattle.std.proofs.Common.{◌≡◌, ◌≢◌, ℕ, zero, suc, ◌+◌, ◌-◌, ◌<◌, ◌≤◌, Bool, true, false, List, [], ◌∷◌, length, Option, Some, None, refl, sym, ◌∙◌, ap, subst, arith, inl, inr}
use Rattle.std.specs.Prelude.{◌⊎◌, slice_get}
use Rattle.std.specs.List.{Contains}
use Rattle.std.proofs.lemmas.Option.{slice_get_within, slice_get-get_or}
use Rattle.std.proofs.lemmas.List.Elements.{All-contains}
use Rattle.signal_graph.specs.flat_net.LatchAt.{LatchAt}
use Rattle.signal_graph.specs.flat_net.Driver.TheVariants as driver
use Rattle.signal_graph.specs.flat_net.View.{NetView, circuit_of}
use Rattle.signal_graph.specs.flat_net.Sound.{IsSound}
use Rattle.signal_graph.specs.flat_net.Cut.{no_latch}
use Rattle.signal_graph.proofs.flat_net.Places.{one_at}
use Rattle.signal_graph.proofs.flat_net.Nets.{some_at, latch_stands, sound_is_net}
use Rattle.circuit_theory.specs.Circuit.{Equation, Gate as gate_equation, Latch as latch_equation, Port as port_equation, IsLatch, Reads, Reaches}
use Rattle.circuit_theory.specs.Names.{ListBefore}
use Rattle.circuit_theory.specs.Depth.{LatchReads, LatchPath, HasCycle, IsCycle, BeginsWithLeast, after_in_round}
use Rattle.circuit_theory.specs.Net.{IsNet, IsWithin}
use Rattle.circuit_theory.proofs.Lists.{Contains-head, Contains-tail, Contains-cases, Contains-map_from, at_of, map_at, length-map}
use Rattle.circuit_theory.proofs.Sums.{same_or_not}
use Rattle.signal_graph.specs.declared.nodes.Node.{Node}
use Rattle.latch_graph.specs.declared.states.State.{State}
use Rattle.latch_graph.specs.declared.states.State.TheVariants.{New, Open, Known, Endless, Removed}
use Rattle.signal_graph.specs.Graph.{GraphView, IsGraphOf, marked_names, signals_at, step_of}
use Rattle.signal_graph.specs.inner_cone.latch_cone.Cones.{IsMarkedBy}
use Rattle.latch_graph.specs.Settling.{HasDepth, IsDepthOf, IsSettled, depth_of}
use Rattle.latch_graph.specs.Rounds.{latch_in, IsEndless, TakesOver, StandsBack, IsTurnedRound}
use Rattle.latch_graph.proofs.Tables.{one_depth}
use Rattle.signal_graph.proofs.Driving.{kept_nodes, taken_read}
use Rattle.signal_graph.proofs.Reading.{reads_node, latch_node}
use Rattle.latch_graph.proofs.Trails.{after_last, after_next}
use Rattle.signal_graph.proofs.Lists.{AllPairs-from_at}

-- the place that stands i places before the first in a round of n
abbrev IsBack : ℕ → ℕ → ℕ → ℕ → Type 0
IsBack n first i p = ((i ≤ first) × (p ≡ first - i)) ⊎ ((first < i) × (p ≡ n + first - i))

place_back : (round : List ℕ) (first i x : ℕ) → StandsBack round first i x → (p : ℕ) × IsBack (length round) first i p × (slice_get round p ≡ Some x)
place_back round first i x (inl h) = (first - i, inl (h.0, refl), h.1)
place_back round first i x (inr h) = (length round + first - i, inr (h.0, refl), h.1)

-- the latches of a turned round are in range
pub turned_within : (nodes : List Node) (latches : List LatchAt) (states : List State) (turned : List ℕ) → IsTurnedRound nodes latches states turned → (i x : ℕ) → slice_get turned i ≡ Some x → x < length latches
turned_within nodes latches states turned round i x h =
    let p = place_back round.round round.turn.first i x (round.turn.back i x h) in (round.closed.endless p.0 x p.2).within

-- one place back is behind the next
back_after : (n first i p q : ℕ) → first < n → i < n → IsBack n first i p → IsBack n first (after_in_round n i) q → after_in_round n q ≡ p
back_after n first i p q l m p_is q_is = go (same_or_not (i + 1) n)
  where
    at : (a : ℕ) → after_in_round n i ≡ a → IsBack n first a q
    at a e = subst (λ z. IsBack n first z q) e q_is

    end : (i + 1 ≡ n) → IsBack n first i p → IsBack n first 0 q → after_in_round n q ≡ p
    end e (inl x) (inl y) = after_last n q (omega (arith, e, x.0, y.1, l)) ∙ (omega (arith, e, x.0, x.1, l))
    end e (inr x) (inl y) = after_next n q (λ z. omega (arith, e, x.0, y.1, z)) ∙ (omega (arith, e, x.0, x.1, y.1, l))
    end e x (inr y) = absurd (omega (arith, y.0))

    more : (i + 1 ≢ n) → IsBack n first i p → IsBack n first (i + 1) q → after_in_round n q ≡ p
    more e (inl x) (inl y) = after_next n q (λ z. omega (arith, x.0, y.0, y.1, z, l)) ∙ (omega (arith, x.0, x.1, y.0, y.1))
    more e (inl x) (inr y) = after_last n q (omega (arith, x.0, y.0, y.1, l)) ∙ (omega (arith, x.0, x.1, y.0))
    more e (inr x) (inl y) = absurd (omega (arith, x.0, y.0))
    more e (inr x) (inr y) = after_next n q (λ z. omega (arith, x.0, y.1, z, l, m)) ∙ (omega (arith, x.0, x.1, y.1, l, m, e))

    go : (i + 1 ≡ n) ⊎ (i + 1 ≢ n) → after_in_round n q ≡ p
    go (inl e) = end e p_is (at 0 (after_last n i e))
    go (inr e) = more e p_is (at (i + 1) (after_next n i e))

-- different places back are different
back_once : (n first i j p : ℕ) → first < n → i < n → j < n → IsBack n first i p → IsBack n first j p → i ≡ j
back_once n first i j p l m k (inl x) (inl y) = omega (arith, x.0, x.1, y.0, y.1)
back_once n first i j p l m k (inl x) (inr y) = absurd (omega (arith, x.0, x.1, y.0, y.1, k, l))
back_once n first i j p l m k (inr x) (inl y) = absurd (omega (arith, x.0, x.1, y.0, y.1, m, l))
back_once n first i j p l m k (inr x) (inr y) = omega (arith, x.0, x.1, y.0, y.1, l, m, k)

-- the names of removed latches
pub marked_has : (latches : List LatchAt) (bits : List Bool) (j : ℕ) (l : LatchAt) → slice_get latches j ≡ Some l → slice_get bits j ≡ Some true → Contains (marked_names latches bits) l.name
marked_has [] bits j l h k = absurd (let m = slice_get_within [] j l h in omega (arith, m))
marked_has (x ∷ xs) [] j l h k = absurd (let m = slice_get_within [] j true k in omega (arith, m))
marked_has (x ∷ xs) (true ∷ bits) zero l h k = let same : x ≡ l = cc in subst (λ (z : LatchAt). Contains (x.name ∷ marked_names xs bits) z.name) same (Contains-head x.name (marked_names xs bits))
marked_has (x ∷ xs) (false ∷ bits) zero l h k = absurd (cc)
marked_has (x ∷ xs) (true ∷ bits) (suc j) l h k = Contains-tail x.name l.name (marked_names xs bits) (marked_has xs bits j l h k)
marked_has (x ∷ xs) (false ∷ bits) (suc j) l h k = marked_has xs bits j l h k

abbrev IsMarked : List LatchAt → List Bool → List ℕ → Type 0
IsMarked latches bits name = (j : ℕ) × (l : LatchAt) × (slice_get latches j ≡ Some l) × (slice_get bits j ≡ Some true) × (l.name ≡ name)

next_marked : (x : LatchAt) (b : Bool) (xs : List LatchAt) (bits : List Bool) (name : List ℕ) → IsMarked xs bits name → IsMarked (x ∷ xs) (b ∷ bits) name
next_marked x b xs bits name m = (suc m.0, m.1, m.2, m.3, m.4)

pub marked_from : (latches : List LatchAt) (bits : List Bool) (name : List ℕ) → Contains (marked_names latches bits) name → IsMarked latches bits name
marked_from [] bits name h = absurd (omega (arith, h.1))
marked_from (x ∷ xs) [] name h = absurd (omega (arith, h.1))
marked_from (x ∷ xs) (false ∷ bits) name h = next_marked x false xs bits name (marked_from xs bits name h)
marked_from (x ∷ xs) (true ∷ bits) name h = by (Contains-cases x.name name (marked_names xs bits) h) (λ k. marked_from xs bits name k)
  where
    by : (x.name ≡ name) ⊎ Contains (marked_names xs bits) name → (Contains (marked_names xs bits) name → IsMarked xs bits name) → IsMarked (x ∷ xs) (true ∷ bits) name
    by (inl e) rest = (zero, x, refl, refl, e)
    by (inr k) rest = next_marked x true xs bits name (rest k)

-- the name of a latch's equation
abbrev latch_name : Equation ℕ → List ℕ
latch_name (gate_equation out fanins cover) = []
latch_name (latch_equation name out next) = name
latch_name (port_equation out from) = []

-- a latch of the net's circuit is one of its signals
latch_within : (n : NetView) → IsSound n → {name : List ℕ} {u next : ℕ} → IsLatch (circuit_of n) name u next → u < length n.drivers
latch_within n sound {name} {u} {next} h = (All-contains (IsWithin (length n.drivers)) (circuit_of n).equations (latch_equation name u next) (sound_is_net n sound).within h).0

-- Which states the removed latches have.
pub record IsWithout (latches : List LatchAt) (bits : List Bool) (states : List State) : Type 0 where
  pub were : (s : ℕ) → slice_get states s ≡ Some Removed → (j : ℕ) × (l : LatchAt) × (slice_get latches j ≡ Some l) × (slice_get bits j ≡ Some true) × (l.out.0 ≡ s)
  pub marked : (j : ℕ) (l : LatchAt) → slice_get latches j ≡ Some l → slice_get bits j ≡ Some true → slice_get states l.out.0 ≡ Some Removed

module _ (n : NetView) (nodes : List Node) (latches : List LatchAt) (skipped : List Bool) (of : IsGraphOf n (record { nodes = nodes; latches = latches; skipped = skipped })) (bits : List Bool) (states : List State) (without : IsWithout latches bits states) where
  net : IsNet (circuit_of n) (length n.drivers)
  net = sound_is_net n of.sound

  abbrev g : GraphView
  g = record { nodes = nodes; latches = latches; skipped = skipped }

  abbrev left_out : ℕ → Type 0
  left_out = IsMarkedBy latches skipped

  latch_here : (j : ℕ) (l : LatchAt) → slice_get latches j ≡ Some l → slice_get n.latches j ≡ Some l
  latch_here j l h = subst (λ (z : List LatchAt). slice_get z j ≡ Some l) of.latches h

  at : (j : ℕ) → j < length latches → slice_get latches j ≡ Some (latch_in latches j)
  at j l = slice_get-get_or latches j no_latch l

  -- two latches of one signal are one, and so are two of one name
  one_signal : (i j : ℕ) (k l : LatchAt) → slice_get latches i ≡ Some k → slice_get latches j ≡ Some l → k.out.0 ≡ l.out.0 → i ≡ j
  one_signal i j k l h m e =
      let a = (of.sound.latches i k (latch_here i k h)).owner in
      let b = (of.sound.latches j l (latch_here j l m)).owner in
      same_latch (one_at n.drivers l.out.0 (driver.Latch i) (driver.Latch j) (subst (λ z. slice_get n.drivers z ≡ Some (driver.Latch i)) e a) b)
    where
      same_latch : driver.Latch i ≡ driver.Latch j → i ≡ j
      same_latch e = cc

  one_name : (i j : ℕ) (k l : LatchAt) → slice_get latches i ≡ Some k → slice_get latches j ≡ Some l → k.name ≡ l.name → k.out.0 ≡ l.out.0
  one_name i j k l h m e =
      let a = (of.sound.latches i k (latch_here i k h)).named in
      let b = (of.sound.latches j l (latch_here j l m)).named in
      of.sound.distinct k.out.0 l.out.0 l.name (subst (λ z. slice_get n.names k.out.0 ≡ Some z) e a) b

  is_latch : (j : ℕ) → j < length latches → IsLatch (circuit_of n) (latch_in latches j).name (latch_in latches j).out.0 (latch_in latches j).next.0
  is_latch j l = latch_stands n j (latch_in latches j) (latch_here j (latch_in latches j) (at j l))

  -- an endless latch isn't removed
  kept : (j : ℕ) → IsEndless latches states j → Contains (marked_names latches bits) (latch_in latches j).name → ⊥
  kept j e h =
      let m = marked_from latches bits (latch_in latches j).name h in
      let same = one_name m.0 j m.1 (latch_in latches j) m.2 (at j e.within) m.4 in
      let removed = subst (λ z. slice_get states z ≡ Some Removed) same (without.marked m.0 m.1 m.2 m.3) in
      differ (one_at states (latch_in latches j).out.0 Endless Removed e.endless removed)
    where
      differ : Endless ≡ Removed → ⊥
      differ q = cc

  edge : (j k : ℕ) → IsEndless latches states j → IsEndless latches states k → TakesOver nodes latches j k → LatchReads (circuit_of n) left_out (marked_names latches bits) (latch_in latches j).out.0 (latch_in latches k).out.0
  edge j k a b takes = record {
    name = (latch_in latches j).name;
    next = (latch_in latches j).next.0;
    latch = is_latch j a.within;
    kept = kept j a;
    other_name = (latch_in latches k).name;
    other_next = (latch_in latches k).next.0;
    other = is_latch k b.within;
    other_kept = kept k b;
    cone = (inr ((latch_in latches k).name, (latch_in latches k).next.0, is_latch k b.within), (takes n skipped of).0);
    no_self_edge = (takes n skipped of).1;
  }

  module _ (turned : List ℕ) (round : IsTurnedRound nodes latches states turned) where
    abbrev around : List ℕ
    around = round.round

    inside : (i x : ℕ) → slice_get turned i ≡ Some x → i < length around
    inside i x h = let l = slice_get_within turned i x h in omega (arith, l, round.turn.size)

    back : (i x : ℕ) → slice_get turned i ≡ Some x → (p : ℕ) × IsBack (length around) round.turn.first i p × (slice_get around p ≡ Some x)
    back i x h = place_back around round.turn.first i x (round.turn.back i x h)

    pub turned_endless : (i x : ℕ) → slice_get turned i ≡ Some x → IsEndless latches states x
    turned_endless i x h = let p = back i x h in round.closed.endless p.0 x p.2

    many : length (signals_at latches turned) ≡ length around
    many = length-map (λ j. (latch_in latches j).out.0) turned ∙ round.turn.size

    pub is_cycle : IsCycle (circuit_of n) left_out (marked_names latches bits) (signals_at latches turned)
    is_cycle = record {
      some = omega (arith, round.closed.some, many);
      distinct = AllPairs-from_at (λ u v. u ≢ v) (signals_at latches turned) distinct;
      edges = λ i u v h k. edges i u v h (subst (λ z. slice_get (signals_at latches turned) (after_in_round z i) ≡ Some v) many k);
    }
      where
        distinct : (i j x y : ℕ) → i < j → slice_get (signals_at latches turned) i ≡ Some x → slice_get (signals_at latches turned) j ≡ Some y → x ≢ y
        distinct i j x y l h k e =
            let a = map_at (λ j. (latch_in latches j).out.0) turned i x h in
            let b = map_at (λ j. (latch_in latches j).out.0) turned j y k in
            let p = back i a.0 a.1 in
            let q = back j b.0 b.1 in
            let same : a.0 ≡ b.0 = one_signal a.0 b.0 (latch_in latches a.0) (latch_in latches b.0) (at a.0 (turned_endless i a.0 a.1).within) (at b.0 (turned_endless j b.0 b.1).within) (a.2 ∙ e ∙ sym b.2) in
            let place : p.0 ≡ q.0 = round.closed.distinct p.0 q.0 b.0 (subst (λ z. slice_get around p.0 ≡ Some z) same p.2) q.2 in
            let once : i ≡ j = back_once (length around) round.turn.first i j q.0 round.turn.within (inside i a.0 a.1) (inside j b.0 b.1) (subst (λ z. IsBack (length around) round.turn.first i z) place p.1) q.1 in
            omega (arith, once, l)

        edges : (i u v : ℕ) → slice_get (signals_at latches turned) i ≡ Some u → slice_get (signals_at latches turned) (after_in_round (length around) i) ≡ Some v → LatchReads (circuit_of n) left_out (marked_names latches bits) v u
        edges i u v h k =
            let a = map_at (λ j. (latch_in latches j).out.0) turned i u h in
            let b = map_at (λ j. (latch_in latches j).out.0) turned (after_in_round (length around) i) v k in
            let p = back i a.0 a.1 in
            let q = back (after_in_round (length around) i) b.0 b.1 in
            let next : after_in_round (length around) q.0 ≡ p.0 = back_after (length around) round.turn.first i p.0 q.0 round.turn.within (inside i a.0 a.1) p.1 q.1 in
            let takes = round.closed.edges q.0 b.0 a.0 q.2 (subst (λ z. slice_get around z ≡ Some a.0) (sym next) p.2) in
            let found = edge b.0 a.0 (turned_endless (after_in_round (length around) i) b.0 b.1) (turned_endless i a.0 a.1) takes in
            subst (λ z. LatchReads (circuit_of n) left_out (marked_names latches bits) z u) b.2 (subst (λ z. LatchReads (circuit_of n) left_out (marked_names latches bits) (latch_in latches b.0).out.0 z) a.2 found)

    pub begins_with_least : BeginsWithLeast (circuit_of n) (signals_at latches turned)
    begins_with_least name name' u next v next' h k first other before =
        let a = map_at (λ j. (latch_in latches j).out.0) turned 0 u h in
        let w = Contains-map_from (λ j. (latch_in latches j).out.0) turned v k in
        let b = at_of turned w.0 w.1 in
        let p = back 0 a.0 a.1 in
        let q = back b.0 w.0 b.1 in
        let left = is_latch a.0 (turned_endless 0 a.0 a.1).within in
        let right = is_latch w.0 (turned_endless b.0 w.0 b.1).within in
        let one : (latch_in latches a.0).name ≡ name = ap latch_name (net.single.one (latch_equation (latch_in latches a.0).name (latch_in latches a.0).out.0 (latch_in latches a.0).next.0) (latch_equation name u next) left first a.2) in
        let two : (latch_in latches w.0).name ≡ name' = ap latch_name (net.single.one (latch_equation (latch_in latches w.0).name (latch_in latches w.0).out.0 (latch_in latches w.0).next.0) (latch_equation name' v next') right other w.2) in
        round.turn.least q.0 w.0 a.0 q.2 (subst (λ z. slice_get around z ≡ Some a.0) (zeroth p.0 p.1) p.2)
        (subst (λ z. ListBefore z (latch_in latches a.0).name) (sym two) (subst (λ z. ListBefore name' z) (sym one) before))
      where
        zeroth : (p : ℕ) → IsBack (length around) round.turn.first 0 p → p ≡ round.turn.first
        zeroth p (inl x) = omega (arith, x.1)
        zeroth p (inr x) = absurd (omega (arith, x.0))

  -- depths fall along a way, and without an endless signal no cycle is left
  module _ (settled : IsSettled nodes states) where
    abbrev Lower : ℕ → ℕ → Type 0
    Lower s d = (e : ℕ) × HasDepth states s e × (e ≤ d)

    abbrev Below : ℕ → ℕ → Type 0
    Below s d = (e : ℕ) × HasDepth states s e × (e < d)

    node_at : (s d : ℕ) → HasDepth states s d → (node : Node) × (slice_get nodes s ≡ Some node)
    node_at s d h = some_at nodes s (let l = slice_get_within states s h.0 h.1 in omega (arith, l, settled.table.size))

    -- where a signal has a depth and isn't removed, it is by what it reads
    by_reads : (s d : ℕ) (h : HasDepth states s d) (node : Node) → slice_get nodes s ≡ Some node → (slice_get states s ≡ Some Removed → ⊥) → IsDepthOf states node d
    by_reads s d h node here not = go h.0 h.1 h.2
      where
        go : (st : State) → slice_get states s ≡ Some st → depth_of st ≡ Some d → IsDepthOf states node d
        go New k e = absurd (cc)
        go Open k e = absurd (cc)
        go (Known f) k e = let same : f ≡ d = cc in subst (λ z. IsDepthOf states node z) same (settled.table.right s node (Known f) here k)
        go Endless k e = absurd (cc)
        go Removed k e = absurd (not k)

    read_lower : {q r : ℕ} → Reads (circuit_of n) q r → (d : ℕ) → HasDepth states q d → Lower r d
    read_lower {q} {r} reads d h =
        let node = node_at q d h in
        let x = reads_node n g of reads node.0 node.1 in
        let y = by_reads q d h node.0 node.1 (λ k. not_removed node.0 node.1 x.0 (without.were q k)) in
        let z = y.1.each x.1 x.2 x.3 in
        let plain : step_of node.0.latch ≡ 0 = ap step_of x.0 in
        subst (λ z. Lower z d) x.4 (z.0, z.1, omega (arith, z.2, y.2, plain))
      where
        not_removed : (node : Node) → slice_get nodes q ≡ Some node → node.latch ≡ None → (j : ℕ) × (l : LatchAt) × (slice_get latches j ≡ Some l) × (slice_get bits j ≡ Some true) × (l.out.0 ≡ q) → ⊥
        not_removed node here lone m =
            let out = (kept_nodes n g of).out m.0 m.1 m.2 in
            let same : out.0 ≡ node = one_at nodes q out.0 node (subst (λ z. slice_get nodes z ≡ Some out.0) m.4 out.1) here in
            none_some m.0 (sym lone ∙ ap (λ (z : Node). z.latch) (sym same) ∙ out.2)
          where
            none_some : (j : ℕ) → ◌≡◌ {A = Option ℕ} None (Some j) → ⊥
            none_some j e = cc

    pub reach_lower : {p u : ℕ} → Reaches (circuit_of n) p u → (d : ℕ) → HasDepth states p d → Lower u d
    reach_lower Reaches.here d h = (d, h, omega arith)
    reach_lower (Reaches.there reads rest) d h =
        let x = read_lower reads d h in
        let y = reach_lower rest x.0 x.1 in
        (y.0, y.1, omega (arith, x.2, y.2))

    pub edge_lower : {u v : ℕ} → LatchReads (circuit_of n) left_out (marked_names latches bits) u v → (d : ℕ) → HasDepth states u d → Below v d
    edge_lower {u} {v} e d h =
        let node = node_at u d h in
        let x = latch_node n g of e.latch node.0 node.1 in
        let y = by_reads u d h node.0 node.1 (λ k. not_removed x.latch x.out_is x.name_is (without.were u k)) in
        let read = taken_read n g of x.position x.latch x.bit node.0.reads x.here x.bit_is x.taken e.other (subst (λ z. Reaches (circuit_of n) z v) (sym x.next_is) e.cone.1) (subst (λ z. left_out z → z ≢ v) (sym x.out_is) e.no_self_edge) in
        let z = y.1.each read.0 read.1 read.2 in
        let one : step_of node.0.latch ≡ 1 = ap step_of x.named in
        let w = reach_lower read.3 z.0 z.1 in
        (w.0, w.1, omega (arith, w.2, z.2, y.2, one))
      where
        not_removed : (l : LatchAt) → l.out.0 ≡ u → l.name ≡ e.name → (j : ℕ) × (k : LatchAt) × (slice_get latches j ≡ Some k) × (slice_get bits j ≡ Some true) × (k.out.0 ≡ u) → ⊥
        not_removed l out name m =
            let stands = latch_stands n m.0 m.1 (latch_here m.0 m.1 m.2) in
            let same : m.1.name ≡ e.name = ap latch_name (net.single.one (latch_equation m.1.name m.1.out.0 m.1.next.0) (latch_equation e.name u e.next) stands e.latch m.4) in
            e.kept (subst (λ z. Contains (marked_names latches bits) z) same (marked_has latches bits m.0 m.1 m.2 m.3))

    -- a kept latch is one more than what it takes over
    pub latch_deep : {name : List ℕ} {u next : ℕ} → IsLatch (circuit_of n) name u next → (Contains (marked_names latches bits) name → ⊥) → (d : ℕ) → HasDepth states u d → 1 ≤ d
    latch_deep {name} {u} {next} latch kept d h =
        let node = node_at u d h in
        let x = latch_node n g of latch node.0 node.1 in
        let y = by_reads u d h node.0 node.1 (λ k. not_removed (without.were u k)) in
        let one : step_of node.0.latch ≡ 1 = ap step_of x.named in
        omega (arith, y.2, one)
      where
        not_removed : (j : ℕ) × (k : LatchAt) × (slice_get latches j ≡ Some k) × (slice_get bits j ≡ Some true) × (k.out.0 ≡ u) → ⊥
        not_removed m =
            let stands = latch_stands n m.0 m.1 (latch_here m.0 m.1 m.2) in
            let same : m.1.name ≡ name = ap latch_name (net.single.one (latch_equation m.1.name m.1.out.0 m.1.next.0) (latch_equation name u next) stands latch m.4) in
            kept (subst (λ z. Contains (marked_names latches bits) z) same (marked_has latches bits m.0 m.1 m.2 m.3))

    path_lower : {u v : ℕ} → LatchPath (circuit_of n) left_out (marked_names latches bits) u v → (d : ℕ) → HasDepth states u d → Below v d
    path_lower (LatchPath.edge e) d h = edge_lower e d h
    path_lower (LatchPath.step e rest) d h =
        let x = edge_lower e d h in
        let y = path_lower rest x.0 x.1 in
        (y.0, y.1, omega (arith, x.2, y.2))

    depth_at : ((s : ℕ) → slice_get states s ≡ Some Endless → ⊥) → (s : ℕ) → s < length nodes → (d : ℕ) × HasDepth states s d
    depth_at none s l = by st.0 st.1
      where
        st : (st : State) × (slice_get states s ≡ Some st)
        st = some_at states s (omega (arith, l, settled.table.size))

        by : (st : State) → slice_get states s ≡ Some st → (d : ℕ) × HasDepth states s d
        by New h = absurd (settled.final s New h)
        by Open h = absurd (settled.final s Open h)
        by (Known d) h = (d, (Known d, h, refl))
        by Endless h = absurd (none s h)
        by Removed h = (0, (Removed, h, refl))

    start_of : {u v : ℕ} → LatchPath (circuit_of n) left_out (marked_names latches bits) u v → (name : List ℕ) × (next : ℕ) × IsLatch (circuit_of n) name u next
    start_of (LatchPath.edge e) = (e.name, e.next, e.latch)
    start_of (LatchPath.step e rest) = (e.name, e.next, e.latch)

    pub no_cycle : ((s : ℕ) → slice_get states s ≡ Some Endless → ⊥) → HasCycle (circuit_of n) left_out (marked_names latches bits) → ⊥
    no_cycle none cycle =
        let latch = start_of cycle.1 in
        let inside = latch_within n of.sound latch.2 in
        let d = depth_at none cycle.0 (omega (arith, inside, of.size)) in
        let e = path_lower cycle.1 d.0 d.1 in
        let same : d.0 ≡ e.0 = one_depth states cycle.0 d.0 e.0 d.1 e.1 in
        omega (arith, e.2, same)
