-- How a walk from a latch goes on, and what it means that it meets the other walk or ends.
use Rattle.std.proofs.Common.{◌≡◌, ◌≢◌, ℕ, zero, suc, ◌+◌, ◌<◌, ◌≤◌, Bool, true, false, not, List, [], ◌∷◌, ◌++◌, length, Some, refl, sym, ◌∙◌, ap, subst, arith, inl, inr}
use Rattle.std.specs.Prelude.{◌⊎◌, slice_get}
use Rattle.std.proofs.Math.ListN.{set}
use Rattle.std.proofs.lemmas.Option.{slice_get_within}
use Rattle.circuit_theory.proofs.Sums.{same_or_not}
use Rattle.latch_graph.specs.minimal_cut.graph_components.flat_net.Signal.{Signal}
use Rattle.latch_graph.proofs.minimal_cut.graph_components.flat_net.Places.{one_at}
use Rattle.latch_graph.proofs.minimal_cut.graph_components.flat_net.Growth.{slice_get-append, slice_get-push, slice_get-push_cases, length-push}
use Rattle.latch_graph.specs.minimal_cut.graph_components.Node.{Node}
use Rattle.latch_graph.proofs.minimal_cut.graph_components.Lists.{set_same, set_cases}
use Rattle.latch_graph.specs.declared.minimal_cut.marks.Direction.{Direction}
use Rattle.latch_graph.specs.declared.minimal_cut.marks.Direction.TheVariants.{Back, Ahead}
use Rattle.latch_graph.specs.declared.minimal_cut.marks.Mark.{Mark}
use Rattle.latch_graph.specs.declared.minimal_cut.marks.Mark.TheVariants.{Out, Met}
use Rattle.latch_graph.specs.minimal_cut.Readers.{NodeReads, WayBack, AreReaders}
use Rattle.latch_graph.specs.minimal_cut.Marks.{IsBlocked, AreMarks}
use Rattle.latch_graph.specs.minimal_cut.Walk.{other_way, IsOlder, IsLater, IsPassed, IsMet, IsWalk, IsGoing, HasMet, Adds, Meets, unseen_count}
use Rattle.latch_graph.proofs.minimal_cut.WayLemmas.{way_then, way_more, way_ahead, way_behind}
use Rattle.latch_graph.proofs.minimal_cut.Marking.{way_along, met_free, later_refl, later-set, later_same, later_table, marks-back, met_stays, other_were, unseen-met}

module _ (nodes : List Node) (root : ℕ) (way : Direction) (turn : ℕ) where
  -- what is passed or met stays so, whichever walk goes on
  passed_along : (v : Direction) (old new : List Mark) → IsLater v turn old new → (r : ℕ) → IsPassed old root way turn r → IsPassed new root way turn r
  passed_along v old new later r p = (p.0, go p.1)
    where
      go : IsBlocked old r ⊎ (slice_get old r ≡ Some (Met way turn)) → IsBlocked new r ⊎ (slice_get new r ≡ Some (Met way turn))
      go (inl b) = inl ((later_same v turn old new later).stay r b)
      go (inr h) = inr (met_stays v turn old new later way r h)

  met_along : (v : Direction) (old new : List Mark) → IsLater v turn old new → (s : ℕ) → IsMet nodes old root way turn s → IsMet nodes new root way turn s
  met_along v old new later s (inl e) = inl e
  met_along v old new later s (inr x) = inr (way_along nodes old new (later_same v turn old new later) x.0, met_stays v turn old new later way s x.1)

  -- the walk stays where the other one goes on
  pub walk_other : (v : Direction) → (way ≡ v → ⊥) → (old new : List Mark) → IsLater v turn old new → (met : List ℕ) (at : ℕ) → IsWalk nodes old root way turn met at → IsWalk nodes new root way turn met at
  walk_other v other old new later met at w = record {
    begun = w.begun;
    seen = λ s h. w.seen s (other_were v turn old new later way s other h);
    are_met = λ i s h. met_along v old new later s (w.are_met i s h);
    passed = λ i s r l h e. passed_along v old new later r (w.passed i s r l h e);
  }

  -- the walk begins
  pub walk_begins : (table : List Node) (marks : List Mark) → AreMarks table marks turn → IsBlocked marks root → IsWalk nodes (set marks root (Met Back turn)) root way turn (root ∷ []) 0
  walk_begins table marks early out = record {
    begun = refl;
    seen = λ s h. seen s (set_cases marks root s (Met Back turn) (Met way turn) h);
    are_met = are_met;
    passed = λ i s r l h e. absurd (omega (arith, l));
  }
    where
      seen : (s : ℕ) → ((s ≡ root) × (Met Back turn ≡ Met way turn)) ⊎ ((s ≢ root) × (slice_get marks s ≡ Some (Met way turn))) → (i : ℕ) × (slice_get (root ∷ []) i ≡ Some s)
      seen s (inl x) = (0, ap Some (sym x.0))
      seen s (inr x) = absurd (let l = early.early s turn way x.1 in omega (arith, l))

      are_met : (i s : ℕ) → slice_get (root ∷ []) i ≡ Some s → IsMet nodes (set marks root (Met Back turn)) root way turn s
      are_met zero s h = inl (let e : root ≡ s = cc in sym e)
      are_met (suc i) s h = absurd (let l = slice_get_within (root ∷ []) (suc i) s h in let one : length (root ∷ []) ≡ 1 = refl in omega (arith, l, one))

  -- a signal that was met is one of the graph
  pub met_within : (marks : List Mark) (met : List ℕ) (at i s : ℕ) → IsWalk nodes marks root way turn met at → root < length nodes → length marks ≡ length nodes → slice_get met i ≡ Some s → s < length nodes
  met_within marks met at i s w root_in size h = go (w.are_met i s h)
    where
      go : IsMet nodes marks root way turn s → s < length nodes
      go (inl e) = omega (arith, e, root_in)
      go (inr x) = let l = slice_get_within marks s (Met way turn) x.1 in omega (arith, l, size)

  pub going_begins : (marks : List Mark) (met : List ℕ) (at s : ℕ) (reads : List Signal) → IsWalk nodes marks root way turn met at → slice_get met at ≡ Some s → IsGoing nodes marks root way turn met at 0 s reads
  going_begins marks met at s reads w here = record { walk = w; here = here; reads_passed = λ i r l h. absurd (omega (arith, l)) }

  -- a way leads to what a met signal reads
  reach_more : (marks : List Mark) (s r : ℕ) → IsMet nodes marks root way turn s → NodeReads nodes s r → WayBack nodes (IsBlocked marks) root r
  reach_more marks s r (inl same) e = WayBack.last (subst (λ z. NodeReads nodes z r) same e)
  reach_more marks s r (inr x) e = way_more nodes (IsBlocked marks) x.0 (met_free marks s turn way x.1) e

  module _ (marks : List Mark) (met : List ℕ) (at k s : ℕ) (reads : List Signal) (g : IsGoing nodes marks root way turn met at k s reads) where
    here : slice_get met at ≡ Some s
    here = g.here

    -- it reads the root, or what the other walk has met
    pub going_found : (r : Signal) → NodeReads nodes s r.0 → (new : List Mark) (later : List ℕ) → Meets marks new met later r.0 way root turn true → HasMet nodes new root way turn
    going_found r e new later m = subst (λ z. HasMet nodes z root way turn) (sym m.0) (r.0, reach_more marks s r.0 (g.walk.are_met at s here) e, m.2)

    -- all that it reads is passed
    pub going_ends : (node : Node) → slice_get nodes s ≡ Some node → reads ≡ node.reads → length reads ≤ k → IsWalk nodes marks root way turn met (at + 1)
    going_ends node node_here same all = record {
      begun = g.walk.begun;
      seen = g.walk.seen;
      are_met = g.walk.are_met;
      passed = λ i u r l h e. passed i u r l h e (same_or_not i at);
    }
      where
        passed : (i u r : ℕ) → i < at + 1 → slice_get met i ≡ Some u → NodeReads nodes u r → (i ≡ at) ⊎ (i ≢ at) → IsPassed marks root way turn r
        passed i u r l h e (inr n) = g.walk.passed i u r (omega (arith, l, n)) h e
        passed i u r l h e (inl q) =
            let one : u ≡ s = one_at met at u s (subst (λ z. slice_get met z ≡ Some u) q h) here in
            let two : e.node ≡ node = one_at nodes s e.node node (subst (λ z. slice_get nodes z ≡ Some e.node) one e.here) node_here in
            let read : slice_get reads e.place ≡ Some e.signal = subst (λ (z : List Signal). slice_get z e.place ≡ Some e.signal) (ap (λ (z : Node). z.reads) two ∙ sym same) e.read in
            let inside = slice_get_within reads e.place e.signal read in
            subst (λ z. IsPassed marks root way turn z) e.is (g.reads_passed e.place e.signal (omega (arith, inside, all)) read)

    -- what is left to say once one reading more is passed
    pub record IsMore (new : List Mark) (later : List ℕ) : Type 0 where
      pub going : IsGoing nodes new root way turn later at (k + 1) s reads
      pub later_is : IsLater way turn marks new
      pub room : length later + unseen_count turn new ≡ length met + unseen_count turn marks

    pub going_more : (r : Signal) → slice_get reads k ≡ Some r → NodeReads nodes s r.0 → (new : List Mark) (later : List ℕ) → Meets marks new met later r.0 way root turn false → IsMore new later
    going_more r read e new later m = go m.1
      where
        inside : at < length met
        inside = slice_get_within met at s here

        passed_more : (others : List Mark) → ((q : ℕ) → IsPassed marks root way turn q → IsPassed others root way turn q) → IsPassed others root way turn r.0 → (i : ℕ) (q : Signal) → i < k + 1 → slice_get reads i ≡ Some q → IsPassed others root way turn q.0
        passed_more others along this i q l h = by (same_or_not i k)
          where
            by : (i ≡ k) ⊎ (i ≢ k) → IsPassed others root way turn q.0
            by (inl same) = subst (λ (z : Signal). IsPassed others root way turn z.0) (one_at reads k r q read (subst (λ z. slice_get reads z ≡ Some q) same h)) this
            by (inr n) = along q.0 (g.reads_passed i q (omega (arith, l, n)) h)

        same_as : (slice_get marks r.0 ≡ Some Out) ⊎ (slice_get marks r.0 ≡ Some (Met way turn)) → IsMore marks met
        same_as pass = record { going = record { walk = g.walk; here = here; reads_passed = passed_more marks (λ q p. p) (m.0, pass) }; later_is = later_refl way turn marks; room = refl }

        added : (x : (mark : Mark) × (slice_get marks r.0 ≡ Some mark) × IsOlder turn mark) → IsMore (set marks r.0 (Met way turn)) (met ++ r.0 ∷ [])
        added x = record {
          going = record {
            walk = record {
              begun = slice_get-append met (r.0 ∷ []) 0 root g.walk.begun;
              seen = λ u h. seen u (set_cases marks r.0 u (Met way turn) (Met way turn) h);
              are_met = λ i u h. are_met i u (slice_get-push_cases met r.0 i u h);
              passed = λ i u q l h o. passed i u q l o (slice_get-push_cases met r.0 i u h);
            };
            here = slice_get-append met (r.0 ∷ []) at s here;
            reads_passed = passed_more (set marks r.0 (Met way turn)) (passed_along way marks (set marks r.0 (Met way turn)) moved) (m.0, inr marked);
          };
          later_is = moved;
          room = let fewer = unseen-met way turn marks r.0 x.0 x.1 x.2 in omega (arith, fewer, length-push met r.0);
        }
          where
            moved : IsLater way turn marks (set marks r.0 (Met way turn))
            moved = later-set way turn marks r.0 x.0 x.1 x.2

            marked : slice_get (set marks r.0 (Met way turn)) r.0 ≡ Some (Met way turn)
            marked = set_same marks r.0 x.0 (Met way turn) x.1

            seen : (u : ℕ) → ((u ≡ r.0) × (Met way turn ≡ Met way turn)) ⊎ ((u ≢ r.0) × (slice_get marks u ≡ Some (Met way turn))) → (i : ℕ) × (slice_get (met ++ r.0 ∷ []) i ≡ Some u)
            seen u (inl y) = (length met, slice_get-push met r.0 (length met) refl ∙ ap Some (sym y.0))
            seen u (inr y) = let z = g.walk.seen u y.1 in (z.0, slice_get-append met (r.0 ∷ []) z.0 u z.1)

            are_met : (i u : ℕ) → (slice_get met i ≡ Some u) ⊎ ((i ≡ length met) × (r.0 ≡ u)) → IsMet nodes (set marks r.0 (Met way turn)) root way turn u
            are_met i u (inl h) = met_along way marks (set marks r.0 (Met way turn)) moved u (g.walk.are_met i u h)
            are_met i u (inr h) = subst (λ z. IsMet nodes (set marks r.0 (Met way turn)) root way turn z) h.1
                (inr (way_along nodes marks (set marks r.0 (Met way turn)) (later_same way turn marks (set marks r.0 (Met way turn)) moved) (reach_more marks s r.0 (g.walk.are_met at s here) e), marked))

            passed : (i u q : ℕ) → i < at → NodeReads nodes u q → (slice_get met i ≡ Some u) ⊎ ((i ≡ length met) × (r.0 ≡ u)) → IsPassed (set marks r.0 (Met way turn)) root way turn q
            passed i u q l o (inl h) = passed_along way marks (set marks r.0 (Met way turn)) moved q (g.walk.passed i u q l h o)
            passed i u q l o (inr h) = absurd (omega (arith, l, h.0, inside))

        go : Adds marks new met later r.0 way turn → IsMore new later
        go (inl x) = subst (λ z. IsMore z later) (sym x.0) (subst (λ z. IsMore marks z) (sym x.1) (same_as x.2))
        go (inr x) = subst (λ z. IsMore z later) (sym x.0) (subst (λ z. IsMore (set marks r.0 (Met way turn)) z) (sym x.1) (added x.2))

  -- a walk that has ended has not come back to the root
  module _ (marks : List Mark) (met : List ℕ) (at : ℕ) (w : IsWalk nodes marks root way turn met at) (all : length met ≤ at) where
    never : (i s : ℕ) → slice_get met i ≡ Some s → {r : ℕ} → WayBack nodes (IsBlocked marks) s r → r ≢ root
    never i s h {r} (WayBack.last e) = (w.passed i s r (let l = slice_get_within met i s h in omega (arith, l, all)) h e).0
    never i s h {r} (WayBack.more {q = q} e free rest) = go (w.passed i s q (let l = slice_get_within met i s h in omega (arith, l, all)) h e).1 (λ j k. never j q k rest)
      where
        go : IsBlocked marks q ⊎ (slice_get marks q ≡ Some (Met way turn)) → ((j : ℕ) → slice_get met j ≡ Some q → r ≢ root) → r ≢ root
        go (inl b) later = absurd (free b)
        go (inr k) later = let x = w.seen q k in later x.0 x.1

    pub walk_ends : WayBack nodes (IsBlocked marks) root root → ⊥
    walk_ends round = never 0 root w.begun round refl

-- a walk back over the nodes, and a walk ahead over the readers
pub record AreWalks (nodes readers : List Node) (marks : List Mark) (root turn : ℕ) (behind ahead : List ℕ) (at : ℕ) : Type 0 where
  pub table : AreMarks nodes marks (turn + 1)
  pub back : slice_get marks root ≡ Some (Met Back turn)
  pub walk_back : IsWalk nodes marks root Back turn behind at
  pub walk_ahead : IsWalk readers marks root Ahead turn ahead at

pub walks_begin : (nodes readers : List Node) (marks new : List Mark) (root turn : ℕ) (behind ahead : List ℕ) → AreMarks nodes marks turn → IsBlocked marks root → new ≡ set marks root (Met Back turn) → behind ≡ root ∷ [] → ahead ≡ root ∷ [] →
    AreWalks nodes readers new root turn behind ahead 0
walks_begin nodes readers marks new root turn behind ahead table out new_is behind_is ahead_is =
    subst (λ (z : List Mark). AreWalks nodes readers z root turn behind ahead 0) (sym new_is)
    (subst (λ (z : List ℕ). AreWalks nodes readers (set marks root (Met Back turn)) root turn z ahead 0) (sym behind_is)
    (subst (λ (z : List ℕ). AreWalks nodes readers (set marks root (Met Back turn)) root turn (root ∷ []) z 0) (sym ahead_is) (record {
      table = marks-back nodes marks turn root table;
      back = set_same marks root Out (Met Back turn) out;
      walk_back = walk_begins nodes root Back turn nodes marks table out;
      walk_ahead = walk_begins readers root Ahead turn nodes marks table out;
    })))

pub ahead_back : Ahead ≡ Back → ⊥
ahead_back e = cc

pub back_ahead : Back ≡ Ahead → ⊥
back_ahead e = cc

module _ (nodes readers : List Node) (marks mid : List Mark) (root turn : ℕ) (behind ahead met : List ℕ) (at : ℕ) (w : AreWalks nodes readers marks root turn behind ahead at) (later : IsLater Back turn marks mid) where
  -- the walk ahead, once the walk back has gone on
  pub ahead_stays : IsWalk readers mid root Ahead turn ahead at
  ahead_stays = walk_other readers root Ahead turn Back ahead_back marks mid later ahead at w.walk_ahead

  pub walks_on : (new : List Mark) (met_ahead : List ℕ) → IsLater Ahead turn mid new → IsWalk nodes mid root Back turn met (at + 1) → IsWalk readers new root Ahead turn met_ahead (at + 1) → AreWalks nodes readers new root turn met met_ahead (at + 1)
  walks_on new met_ahead later_ahead on on_ahead = record {
    table = later_table Ahead turn mid new later_ahead nodes (later_table Back turn marks mid later nodes w.table);
    back = met_stays Ahead turn mid new later_ahead Back root (met_stays Back turn marks mid later Back root w.back);
    walk_back = walk_other nodes root Back turn Ahead back_ahead mid new later_ahead met (at + 1) on;
    walk_ahead = on_ahead;
  }

-- two walks that meet close a cycle
module _ (nodes readers : List Node) (are : AreReaders nodes readers) (root turn : ℕ) (marks : List Mark) where
  join : (x : ℕ) → WayBack nodes (IsBlocked marks) root x → (x ≡ root) ⊎ (WayBack nodes (IsBlocked marks) x root × (IsBlocked marks x → ⊥)) → WayBack nodes (IsBlocked marks) root root
  join x way (inl same) = subst (λ z. WayBack nodes (IsBlocked marks) root z) same way
  join x way (inr back) = way_then nodes (IsBlocked marks) way back.1 back.0

  ahead_met : (x : ℕ) → IsMet readers marks root Ahead turn x → (x ≡ root) ⊎ (WayBack nodes (IsBlocked marks) x root × (IsBlocked marks x → ⊥))
  ahead_met x (inl same) = inl same
  ahead_met x (inr m) = inr (way_behind nodes readers (IsBlocked marks) are m.0, met_free marks x turn Ahead m.1)

  -- the walk ahead has ended
  pub ahead_ends : (met : List ℕ) (at : ℕ) → IsWalk readers marks root Ahead turn met at → length met ≤ at → WayBack nodes (IsBlocked marks) root root → ⊥
  ahead_ends met at w all way = walk_ends readers root Ahead turn marks met at w all (way_ahead nodes readers (IsBlocked marks) are way)

  pub back_meets : HasMet nodes marks root Back turn → (met : List ℕ) (at : ℕ) → IsWalk readers marks root Ahead turn met at → WayBack nodes (IsBlocked marks) root root
  back_meets m met at w = go m.2
    where
      go : (m.0 ≡ root) ⊎ (slice_get marks m.0 ≡ Some (Met Ahead turn)) → WayBack nodes (IsBlocked marks) root root
      go (inl same) = join m.0 m.1 (inl same)
      go (inr h) = let x = w.seen m.0 h in join m.0 m.1 (ahead_met m.0 (w.are_met x.0 m.0 x.1))

  pub ahead_meets : HasMet readers marks root Ahead turn → (met : List ℕ) (at : ℕ) → IsWalk nodes marks root Back turn met at → WayBack nodes (IsBlocked marks) root root
  ahead_meets m met at w = go m.2
    where
      back : WayBack nodes (IsBlocked marks) m.0 root
      back = way_behind nodes readers (IsBlocked marks) are m.1

      by : IsMet nodes marks root Back turn m.0 → WayBack nodes (IsBlocked marks) root root
      by (inl same) = subst (λ z. WayBack nodes (IsBlocked marks) z root) same back
      by (inr x) = way_then nodes (IsBlocked marks) x.0 (met_free marks m.0 turn Back x.1) back

      go : (m.0 ≡ root) ⊎ (slice_get marks m.0 ≡ Some (Met Back turn)) → WayBack nodes (IsBlocked marks) root root
      go (inl same) = subst (λ z. WayBack nodes (IsBlocked marks) z root) same back
      go (inr h) = let x = w.seen m.0 h in by (w.are_met x.0 m.0 x.1)
