-- A table that holds what a start reaches at the root, and all that its members pass on, holds exactly what the start reaches.
use Rattle.std.proofs.Common.{◌≡◌, ◌∙◌, ◌+◌, ◌<◌, ◌≤◌, ℕ, List, [], ◌∷◌, ◌++◌, length, slice_get, Some, None, sym, ap, subst, arith, inl, inr}
use Rattle.std.specs.Prelude.{◌⊎◌}
use Rattle.std.specs.List.{All, Contains}
use Rattle.std.proofs.lemmas.Bool.{cases_lt}
use Rattle.std.proofs.lemmas.List.Elements.{All-append, All-weaker}
use Rattle.std.proofs.lemmas.Option.{slice_get_within}
use Rattle.circuit_theory.specs.Circuit.{IsLatch}
use Rattle.circuit_theory.proofs.Lists.{at_of, All-from_each}
use Rattle.circuit_theory.specs.Frame.{ReachedAt}
use Rattle.circuit_theory.specs.EventSizes.{Start}
use Rattle.event_nodes.specs.flat_net.Signal.{Signal}
use Rattle.event_nodes.specs.flat_net.LatchAt.{LatchAt}
use Rattle.event_nodes.specs.flat_net.View.{circuit_of}
use Rattle.event_nodes.specs.flat_net.Sound.{IsSound}
use Rattle.event_nodes.proofs.flat_net.Growth.{slice_get-append}
use Rattle.event_nodes.proofs.flat_net.Nets.{some_at, latch_stands}
use Rattle.event_nodes.proofs.flat_net.Places.{one_at, All-at}
use Rattle.signal_graph.specs.inner_cone.latch_cone.Cones.{AreOthers, AreReached}
use Rattle.event_nodes.specs.Adds.{Adds}
use Rattle.event_nodes.specs.Nodes.{EventGraphView, IsChild, IsTree, path_of, GrowsEvents}
use Rattle.event_nodes.specs.Reach.{IsBegun, IsReachedPlace, IsPassedOn, IsListedAt}
use Rattle.event_nodes.specs.View.{EventCircuitView, side_of, Enabled}
use Rattle.event_nodes.proofs.flat_net.Drivers.{latch_of_equation, latch_out}
use Rattle.event_classes.proofs.event_functions.event_reach.Latches.{IsRootLatch}
use Rattle.event_nodes.proofs.Lists.{adds_contains, adds_at}
use Rattle.event_nodes.proofs.Growing.{children_more}
use Rattle.event_nodes.proofs.Paths.{path_grows, child_path}

-- a child goes on to be one
pub child_later : (w v : EventGraphView) → GrowsEvents w v → (node class m : ℕ) → IsChild w.children node class m → IsChild v.children node class m
child_later w v grows node class m child =
    (child.0, child.1, ap (λ (es : List (ℕ × ℕ)). slice_get es child.0) grows.children.1 ∙ slice_get-append w.children grows.children.0 child.0 (node, class) child.2)

module _ (e : EventCircuitView) (w v : EventGraphView) (grows : GrowsEvents w v) where
  -- what is reached goes on to be
  pub reached_later : (x : Start ℕ) (p : ℕ × ℕ) → IsReachedPlace e w.children x p → IsReachedPlace e v.children x p
  reached_later x p r =
      let path : path_of v.children p.0 ≡ path_of w.children p.0 = ap (λ (es : List (ℕ × ℕ)). path_of es p.0) grows.children.1 ∙ path_grows w.children grows.children.0 p.0 r.node in
      let more = children_more w v grows in
      record {
        node = omega (arith, r.node, more);
        latch = r.latch;
        reached = subst (λ (l : List ℕ). ReachedAt (side_of e) (Enabled e) (IsBegun (circuit_of e.net) x) l p.1) (sym path) r.reached;
      }

  -- and what is passed on stays so in a longer table
  pub passed_later : (old new : List (ℕ × ℕ)) (p : ℕ × ℕ) → Adds (λ q. q ≡ q) old new → IsPassedOn e w.children old p → IsPassedOn e v.children new p
  passed_later old new p adds passed u others =
      let m = passed u others in
      (m.0, child_later w v grows p.0 ((side_of e).class p.1) m.0 m.1, adds_contains (λ (q : ℕ × ℕ). q ≡ q) old new (m.0, u) adds m.2)

  -- one place more was passed on, and what it passes on is reached
  pub reached_more : (x : Start ℕ) (old new : List (ℕ × ℕ)) (at : ℕ) (p : ℕ × ℕ) → slice_get old at ≡ Some p → All (IsReachedPlace e w.children x) old →
      (IsReachedPlace e v.children x p → Adds (IsReachedPlace e v.children x) old new) → All (IsReachedPlace e v.children x) new
  reached_more x old new at p here all passed =
      let adds = passed (reached_later x p (All-at (IsReachedPlace e w.children x) old at p here all)) in
      subst (All (IsReachedPlace e v.children x)) (sym adds.is)
      (All-append (IsReachedPlace e v.children x) old adds.more (All-weaker (IsReachedPlace e w.children x) (IsReachedPlace e v.children x) (reached_later x) old all) adds.each)

  pub passed_more : (old new : List (ℕ × ℕ)) (at : ℕ) (p : ℕ × ℕ) → slice_get old at ≡ Some p → Adds (λ q. q ≡ q) old new → ((i : ℕ) (q : ℕ × ℕ) → i < at → slice_get old i ≡ Some q → IsPassedOn e w.children old q) →
      IsPassedOn e v.children new p → (i : ℕ) (q : ℕ × ℕ) → i < at + 1 → slice_get new i ≡ Some q → IsPassedOn e v.children new q
  passed_more old new at p here adds before own i q below there = go (cases_lt i at)
    where
      go : (i < at) ⊎ (at ≤ i) → IsPassedOn e v.children new q
      go (inl l) =
          let inside = slice_get_within old at p here in
          let was = some_at old i (omega (arith, l, inside)) in
          let same : was.0 ≡ q = one_at new i was.0 q (adds_at (λ (r : ℕ × ℕ). r ≡ r) old new i was.0 adds was.1) there in
          subst (IsPassedOn e v.children new) same (passed_later old new was.0 adds (before i was.0 l was.1))
      go (inr l) =
          let place : i ≡ at = omega arith in
          let same : p ≡ q = one_at new at p q (adds_at (λ (r : ℕ × ℕ). r ≡ r) old new at p adds here) (subst (λ (k : ℕ). slice_get new k ≡ Some q) place there) in
          subst (IsPassedOn e v.children new) same own

-- all places were passed on
pub passed_all : (e : EventCircuitView) (children table : List (ℕ × ℕ)) (at : ℕ) → length table ≤ at → ((i : ℕ) (q : ℕ × ℕ) → i < at → slice_get table i ≡ Some q → IsPassedOn e children table q) → All (IsPassedOn e children table) table
passed_all e children table at done each =
    All-from_each (IsPassedOn e children table) table (λ q h. let i = at_of table q h in let inside = slice_get_within table i.0 q i.1 in each i.0 q (omega (arith, inside, done)) i.1)

-- what is there at the root, and is passed on, is all
pub reached_all : (e : EventCircuitView) (children : List (ℕ × ℕ)) → IsTree children → (x : Start ℕ) (table : List (ℕ × ℕ)) → ((v : ℕ) → IsBegun (circuit_of e.net) x v → Contains table (0, v)) → All (IsPassedOn e children table) table →
    (path : List ℕ) (v : ℕ) → ReachedAt (side_of e) (Enabled e) (IsBegun (circuit_of e.net) x) path v → IsListedAt children table path v
reached_all e children tree x table roots passed [] v r = record { node = 0; made = omega arith; path_is = path_grows [] children 0 (omega arith); listed = roots v r }
reached_all e children tree x table roots passed (k ∷ path) v r = next (reached_all e children tree x table roots passed path r.0 r.1)
  where
    next : IsListedAt children table path r.0 → IsListedAt children table (k ∷ path) v
    next l =
        let i = at_of table (l.node, r.0) l.listed in
        let m = All-at (IsPassedOn e children table) table i.0 (l.node, r.0) i.1 passed v r.3 in
        let inside = slice_get_within children m.1.0 _ m.1.2 in
        record {
          node = m.0;
          made = omega (arith, m.1.1, inside);
          path_is = child_path children tree l.node ((side_of e).class r.0) m.0 m.1 ∙ (ap (λ (c : ℕ). c ∷ path_of children l.node) r.2 ∙ ap (λ (ns : List ℕ). k ∷ ns) l.path_is);
          listed = m.2;
        }

-- a latch that is begun, at the root
pub root_reached : (e : EventCircuitView) (children : List (ℕ × ℕ)) (x : Start ℕ) (v : ℕ) → ((name : List ℕ) × (next : ℕ) × IsLatch (circuit_of e.net) name v next) → IsBegun (circuit_of e.net) x v → IsReachedPlace e children x (0, v)
root_reached e children x v latch begun = record {
  node = omega arith;
  latch = latch;
  reached = subst (λ (l : List ℕ). ReachedAt (side_of e) (Enabled e) (IsBegun (circuit_of e.net) x) l v) (sym (path_grows [] children 0 (omega arith))) begun;
}

-- each place of a table that was empty
pub added_all : {X : Type 0} (P Q : X → Type 0) (xs ys : List X) → xs ≡ [] → ((x : X) → P x → Q x) → Adds P xs ys → All Q ys
added_all P Q xs ys none f adds = subst (All Q) (sym (adds.is ∙ ap (λ l. l ++ adds.more) none)) (All-weaker P Q f adds.more adds.each)

module _ (e : EventCircuitView) (children table : List (ℕ × ℕ)) where
  -- the latches of a signal's cone, at the root
  pub signal_begun : (s : ℕ) (keys : List ℕ) (empty : List (ℕ × ℕ)) → empty ≡ [] → AreReached e.net s keys → Adds (IsRootLatch e.net keys) empty table → All (IsReachedPlace e children (record { place = s; left_out = None })) table
  signal_begun s keys empty is seen adds =
      added_all (IsRootLatch e.net keys) (IsReachedPlace e children (record { place = s; left_out = None })) empty table is
      (λ q h.
      let i = at_of keys q.1 h.1 in
      subst (λ (n : ℕ). IsReachedPlace e children (record { place = s; left_out = None }) (n, q.1)) (sym h.0)
      (root_reached e children (record { place = s; left_out = None }) q.1 h.2 ((h.2.0, h.2.1, h.2.2, seen.some.each i.0 q.1 i.1), tt)))
      adds

  pub signal_roots : (s : ℕ) (keys : List ℕ) → AreReached e.net s keys → ((v : ℕ) (name : List ℕ) (next : ℕ) → Contains keys v → IsLatch (circuit_of e.net) name v next → Contains table (0, v)) →
      (v : ℕ) → IsBegun (circuit_of e.net) (record { place = s; left_out = None }) v → Contains table (0, v)
  signal_roots s keys seen all v begun = all v begun.0.0 begun.0.1 (seen.all v begun.0.3) begun.0.2

  module _ (sound : IsSound e.net) (l : LatchAt) (others : List Signal) (are : AreOthers e.net l others) where
    abbrev Own : Start ℕ
    Own = record { place = l.next.0; left_out = Some l.out.0 }

    other_begun : (f : Signal) → Contains others f → IsReachedPlace e children Own (0, f.0)
    other_begun f among =
        let i = at_of others f among in
        let o = are.each i.0 f i.1 in
        let latch : IsLatch (circuit_of e.net) o.latch.name f.0 o.latch.next.0 = subst (λ (s : ℕ). IsLatch (circuit_of e.net) o.latch.name s o.latch.next.0) o.out (latch_stands e.net o.position o.latch o.here) in
        root_reached e children Own f.0 (o.latch.name, o.latch.next.0, latch) ((o.latch.name, o.latch.next.0, latch, are.reached i.0 f i.1), o.apart)

    -- the other latches of a latch's cone, at the root
    pub others_begun : (empty : List (ℕ × ℕ)) → empty ≡ [] → Adds (λ q. (f : Signal) × Contains others f × ((0, f.0) ≡ q)) empty table → All (IsReachedPlace e children Own) table
    others_begun empty is adds =
        added_all (λ (q : ℕ × ℕ). (f : Signal) × Contains others f × ((0, f.0) ≡ q)) (IsReachedPlace e children Own) empty table is (λ q h. subst (IsReachedPlace e children Own) h.2 (other_begun h.0 h.1)) adds

    pub others_roots : All (λ (f : Signal). Contains table (0, f.0)) others → (v : ℕ) → IsBegun (circuit_of e.net) Own v → Contains table (0, v)
    others_roots all v begun =
        let o = latch_of_equation e.net sound begun.0.0 v begun.0.1 begun.0.2 in
        let k = are.all v (record { position = o.j; latch = o.latch; here = o.at; out = latch_out e.net sound v o.j o.owner o.latch o.at; apart = begun.1 }) begun.0.3 in
        All-at (λ (f : Signal). Contains table (0, f.0)) others k.0 (record { 0 = v }) k.1 all
