-- A signal is unfolded from a frame at the root.
use Rattle.std.proofs.Common.{◌≡◌, ◌∙◌, ◌+◌, ◌*◌, ◌<◌, ◌≤◌, ℕ, true, false, List, [], ◌∷◌, ◌++◌, length, take, slice_get, Some, refl, sym, ap, subst, arith, inl, inr}
use Rattle.std.specs.Prelude.{◌⊎◌}
use Rattle.std.specs.List.{All, Contains, sum_by}
use Rattle.std.proofs.lemmas.List.{take_all}
use Rattle.std.proofs.lemmas.List.Elements.{All-weaker}
use Rattle.std.proofs.lemmas.Option.{slice_get_within}
use Rattle.circuit_theory.proofs.Lists.{at_of}
use Rattle.event_nodes.specs.flat_net.LatchAt.{LatchAt}
use Rattle.event_nodes.specs.flat_net.Sound.{IsSound}
use Rattle.event_nodes.specs.flat_net.View.{NetView}
use Rattle.event_nodes.proofs.flat_net.Growth.{slice_get-append}
use Rattle.event_nodes.proofs.flat_net.Places.{one_at}
use Rattle.event_nodes.specs.Lit.{Lit}
use Rattle.event_nodes.specs.Graph.{flip}
use Rattle.aig.specs.graph_copy.aig_or.ShortOr.{IsShortOr}
use Rattle.event_nodes.specs.Adds.{Adds}
use Rattle.event_nodes.specs.Nodes.{EventGraphView, IsEventGraph, IsTree, GrowsEvents}
use Rattle.event_nodes.specs.View.{EventCircuitView}
use Rattle.event_nodes.specs.Visited.{CounterView}
use Rattle.event_nodes.specs.flat_net.Weights.{weight_at}
use Rattle.event_nodes.proofs.Growing.{grows_refl, grows_trans}
use Rattle.event_nodes.proofs.Lists.{adds_none, adds_trans, adds_at, adds_contains}
use Rattle.edbf_unfold.specs.declared.event_literals.event_walk.frames.Frame.{Frame}
use Rattle.edbf_unfold.specs.declared.event_literals.event_walk.frames.Put.{Put}
use Rattle.edbf_unfold.specs.declared.event_literals.event_walk.frames.Put.TheVariants.{Low, High}
use Rattle.edbf_unfold.specs.declared.event_literals.event_walk.frames.Step.{Step}
use Rattle.edbf_unfold.specs.declared.event_literals.event_walk.frames.Ways.{Ways}
use Rattle.edbf_unfold.specs.event_literals.Known.{EventUnfolderView, unfolder_of, walker_of, IsKnownAt, IsKnownIn, IsEnableLit, AreKnown, HasUnfolded, IsMet, IsLater}
use Rattle.edbf_unfold.specs.event_literals.event_walk.Plan.{AreExpanded, IsPlanOf}
use Rattle.edbf_unfold.specs.event_literals.event_walk.Walk.{IsSeen, IsExpanded, IsVisitedPlace, IsOpened, IsWalk, IsCounted, IsExact}
use Rattle.edbf_unfold.specs.event_literals.event_walk.Ready.{EventWalkerView, put_beside, frame_beside}
use Rattle.edbf_unfold.specs.event_literals.Built.{IsWalked, AreMetOn}
use Rattle.edbf_unfold.proofs.event_literals.event_walk.InFrames.{interned_frame}
use Rattle.edbf_unfold.proofs.event_literals.event_walk.Exact.{visited_later}
use Rattle.edbf_unfold.proofs.event_literals.event_walk.Rooting.{root_path, roots_visited}
use Rattle.edbf_unfold.proofs.event_literals.Going.{are_known_later}
use Rattle.edbf_unfold.proofs.event_literals.Known.{known_at_later}
use Rattle.edbf_unfold.proofs.event_literals.event_walk.Opening.{ready_later}

-- what is known is known with a frame more
pub frame_known : (i u : EventUnfolderView) → i ≡ u → (k : EventWalkerView) → k ≡ record { circuit = i.circuit; frames = k.frames } → (w : EventGraphView) (f : Frame) → (k.frames ≡ i.frames) ⊎ (k.frames ≡ i.frames ++ f ∷ []) → AreKnown u.circuit w u.frames u.memo →
    AreKnown k.circuit w k.frames i.memo
frame_known i u same k is w f which known =
    subst (λ (e : EventCircuitView). AreKnown e w k.frames i.memo) (sym (ap (λ (v : EventWalkerView). v.circuit) is)) (λ p x h. let y = own p x h in (y.0, kept which p.0 y.0 y.1, y.2, y.3))
  where
    own : AreKnown i.circuit w i.frames i.memo
    own = subst (λ (v : EventUnfolderView). AreKnown v.circuit w v.frames v.memo) (sym same) known

    kept : (k.frames ≡ i.frames) ⊎ (k.frames ≡ i.frames ++ f ∷ []) → (n : ℕ) (g : Frame) → slice_get i.frames n ≡ Some g → slice_get k.frames n ≡ Some g
    kept (inl e) n g at = subst (λ (l : List Frame). slice_get l n ≡ Some g) (sym e) at
    kept (inr e) n g at = subst (λ (l : List Frame). slice_get l n ≡ Some g) (sym e) (slice_get-append i.frames (f ∷ []) n g at)

-- and with the frame beside it, where both stand then
pub both_framed : (old new : List Frame) (frame : Frame) (put : Put) (id high : ℕ) → put ≡ put_beside frame.put → slice_get old id ≡ Some frame → (new ≡ old) ⊎ (new ≡ old ++ record { node = frame.node; put = put } ∷ []) → slice_get new high ≡ Some (record { node = frame.node; put = put }) →
    (slice_get new id ≡ Some frame) × (slice_get new high ≡ Some (frame_beside frame))
both_framed old new frame put id high same at which beside = (
  adds_at (λ (f : Frame). Unit {0}) old new id frame (interned_frame old new (record { node = frame.node; put = put }) which).0 at,
  subst (λ (p : Put). slice_get new high ≡ Some (record { node = frame.node; put = p })) same beside,
)

pub both_added : (old mid new : List Frame) (f g : Frame) → (mid ≡ old) ⊎ (mid ≡ old ++ f ∷ []) → (new ≡ mid) ⊎ (new ≡ mid ++ g ∷ []) → Adds (λ f. Unit {0}) old new × (length new ≤ length old + 2)
both_added old mid new f g first second =
    let a = interned_frame old mid f first in
    let b = interned_frame mid new g second in (adds_trans (λ (h : Frame). Unit {0}) old mid new a.0 b.0, omega (arith, a.1, b.1))

-- and while a walk opens frames and event nodes
pub opened_known : (u v : EventWalkerView) (memo : List ((ℕ × ℕ) × Lit)) (w x : EventGraphView) (room : ℕ) → IsOpened u v w x room → IsEventGraph w → AreKnown u.circuit w u.frames memo → AreKnown v.circuit x v.frames memo
opened_known u v memo w x room opened is known =
    subst (λ (e : EventCircuitView). AreKnown e x v.frames memo) (sym opened.circuit)
    (λ p y h. let k = are_known_later u.circuit w x u.frames memo is opened.grows known p y h in (k.0, adds_at (λ (f : Frame). Unit {0}) u.frames v.frames p.0 k.0 opened.frames k.1, k.2, k.3))

-- a walk to its end gives what its places are built from
module _ (u v : EventWalkerView) (w x : EventGraphView) (root beside : ℕ × ℕ) (table : List (ℕ × ℕ)) (ways : List Ways) (at weight cap : ℕ) (walk : IsWalk u v w x root beside table ways at weight cap) (done : length table ≤ at) where
  pub walk_expanded : (now : List Ways) → now ≡ ways → AreExpanded v.circuit v.frames x.children table now
  walk_expanded now same = subst (AreExpanded v.circuit v.frames x.children table) (sym same) (record { each = omega (arith, walk.each, walk.inside, done); seen = walk.seen; expanded = walk.expanded })

  pub walk_weighs : sum_by (λ (p : ℕ × ℕ). weight_at v.circuit.net p.1) table ≤ cap
  walk_weighs =
      let whole : take at table ≡ table = take_all at table done in
      let all : sum_by (λ (p : ℕ × ℕ). weight_at v.circuit.net p.1) table ≡ weight = sym (ap (sum_by (λ (p : ℕ × ℕ). weight_at v.circuit.net p.1)) whole) ∙ walk.weighs in
      omega (arith, all, walk.small)

-- the places of expanded ones have frames
pub expanded_frames : (e : EventCircuitView) (frames now : List Frame) (children table : List (ℕ × ℕ)) (ways : List Ways) (nodes : ℕ) → AreExpanded e frames children table ways → now ≡ frames → nodes ≡ length children →
    All (λ p. (f : Frame) × (slice_get now p.0 ≡ Some f) × (f.node ≤ nodes)) table
expanded_frames e frames now children table ways nodes is same many =
    All-weaker (IsSeen e frames children) (λ (p : ℕ × ℕ). (f : Frame) × (slice_get now p.0 ≡ Some f) × (f.node ≤ nodes)) (λ p s. (s.0, subst (λ (l : List Frame). slice_get l p.0 ≡ Some s.0) (sym same) s.1, omega (arith, many, s.2))) table is.seen

-- they have a plan
pub expanded_plan : (e : EventCircuitView) (frames now : List Frame) (children table : List (ℕ × ℕ)) (ways : List Ways) (nodes : ℕ) (plan : List Step) → AreExpanded e frames children table ways → now ≡ frames → nodes ≡ length children → IsTree children → IsSound e.net →
    ((d : EventCircuitView) (cs : List (ℕ × ℕ)) → length cs ≡ nodes → IsTree cs → IsSound d.net → AreExpanded d now cs table ways → IsPlanOf d now cs table plan) → IsPlanOf e frames children table plan
expanded_plan e frames now children table ways nodes plan is same many tree sound made =
    subst (λ (l : List Frame). IsPlanOf e l children table plan) same (made e children (sym many) tree sound (subst (λ (l : List Frame). AreExpanded e l children table ways) (sym same) is))

-- what is in the table was met
pub table_met : (e : EventCircuitView) (frames : List Frame) (children table : List (ℕ × ℕ)) (plan now : List Step) (memo : List ((ℕ × ℕ) × Lit)) → IsPlanOf e frames children table plan → now ≡ plan → ((p : Step) → Contains now p → IsMet memo (p.frame, p.signal)) →
    (p : ℕ × ℕ) → Contains table p → IsMet memo p
table_met e frames children table plan now memo is same met p h = let s = is.has p h in subst (IsMet memo) s.2 (met s.0 (subst (λ (l : List Step). Contains l s.0) (sym same) s.1))

-- so its literal is right in its frame
pub root_known : (u v : EventWalkerView) (memo : List ((ℕ × ℕ) × Lit)) (t : EventUnfolderView) (w x y : EventGraphView) (room more id s : ℕ) (frame : Frame) (lit : Lit) → slice_get u.frames id ≡ Some frame → IsOpened u v w x room → IsLater (unfolder_of v memo) t x y more → AreKnown t.circuit y t.frames t.memo →
    Contains t.memo ((id, s), lit) → IsKnownIn t.circuit y frame s lit.0
root_known u v memo t w x y room more id s frame lit here opened later known met =
    let k = known (id, s) lit met in
    let at_v : slice_get v.frames id ≡ Some frame = adds_at (λ (f : Frame). Unit {0}) u.frames v.frames id frame opened.frames here in
    let at_t : slice_get t.frames id ≡ Some frame = subst (λ (l : List Frame). slice_get l id ≡ Some frame) (sym later.frames) at_v in
    subst (λ (f : Frame). IsKnownIn t.circuit y f s lit.0) (one_at t.frames id k.0 frame k.1 at_t) k.3

-- a latch takes over a signal of the net
pub next_within : (e now : EventCircuitView) (n : NetView) (j : ℕ) (l : LatchAt) → now ≡ e → n ≡ now.net → IsSound now.net → slice_get n.latches j ≡ Some l → l.next.0 < length e.net.drivers
next_within e now n j l same net sound at =
    subst (λ (k : EventCircuitView). l.next.0 < length k.net.drivers) same (sound.latches j l (subst (λ (m : NetView). slice_get m.latches j ≡ Some l) net at)).within

-- the enable's literal is made of those of its two functions
pub enable_lit : (e : EventCircuitView) (w y : EventGraphView) → IsEventGraph w → GrowsEvents w y → (l : LatchAt) (f0 f1 lit : ℕ) → IsKnownIn e w (record { node = 0; put = Low l.out.0 }) l.next.0 f0 → IsKnownIn e w (record { node = 0; put = High l.out.0 }) l.next.0 f1 →
    IsShortOr y.graph f0 (flip f1) lit → lit < 2 * length y.graph → IsEnableLit e y [] l lit
enable_lit e w y is grows l f0 f1 lit low high or_is within = record {
  f0 = f0;
  f1 = f1;
  low = known_at_later e w y is grows (Some (l.out.0, false)) l.next.0 [] f0 (subst (λ (n : List ℕ). IsKnownAt e w (Some (l.out.0, false)) l.next.0 n f0) (root_path w.children) low);
  high = known_at_later e w y is grows (Some (l.out.0, true)) l.next.0 [] f1 (subst (λ (n : List ℕ). IsKnownAt e w (Some (l.out.0, true)) l.next.0 n f1) (root_path w.children) high);
  or_is = or_is;
  within = within;
}

-- what a walk to its end gives, once its plan was built
pub walked_to : (u v : EventWalkerView) (memo : List ((ℕ × ℕ) × Lit)) (t : EventUnfolderView) (w x y : EventGraphView) (c d : CounterView) (frame : Frame) (id high s : ℕ) (table : List (ℕ × ℕ)) (ways : List Ways) (at weight cap room : ℕ) → (slice_get u.frames id ≡ Some frame) × (slice_get u.frames high ≡ Some (frame_beside frame)) → frame.node ≡ 0 →
    IsWalk u v w x (id, s) (high, s) table ways at weight cap → IsExact u v w x c d (id, s) (high, s) table at → length table ≤ at → IsLater (unfolder_of v memo) t x y room → ((p : ℕ × ℕ) → Contains table p → IsMet t.memo p) → IsWalked t y frame s d.places cap table ways
walked_to u v memo t w x y c d frame id high s table ways at weight cap room here root walk exact whole later met = record {
  number = id;
  at = subst (λ (l : List Frame). slice_get l id ≡ Some frame) (sym later.frames) (adds_at (λ (f : Frame). Unit {0}) u.frames v.frames id frame walk.opened.frames here.0);
  begins = walk.begins;
  each = omega (arith, walk.each, walk.inside, whole);
  few = omega (arith, whole, walk.passed, walk.small);
  expanded = λ i p g at_i over.
      subst (λ (e : EventCircuitView). IsExpanded e t.frames y.children table p g) (sym later.circuit)
      (subst (λ (l : List Frame). IsExpanded v.circuit l y.children table p g) (sym later.frames)
      (subst (λ (cs : List (ℕ × ℕ)). IsExpanded v.circuit v.frames cs table p g) (sym later.grown.children) (walk.expanded i p g at_i over)));
  met = met;
  done = λ p h.
      let i = at_of table p h in
      let inside = slice_get_within table i.0 p i.1 in
      subst (λ (l : List Frame). IsCounted l d.places p) (sym later.frames) (exact.done i.0 p (omega (arith, inside, whole)) i.1);
  visits = λ z begins.
      subst (λ (e : EventCircuitView). All (IsVisitedPlace e t.frames y.children z) table) (sym later.circuit)
      (subst (λ (l : List Frame). All (IsVisitedPlace v.circuit l y.children z) table) (sym later.frames)
      (subst (λ (cs : List (ℕ × ℕ)). All (IsVisitedPlace v.circuit v.frames cs z) table) (sym later.grown.children)
      (exact.visits z (roots_visited u.circuit u.frames w.children frame id high s here root z begins))));
}

-- the same after another signal was unfolded
pub walked_later : (t r : EventUnfolderView) (y z : EventGraphView) (frame : Frame) (s : ℕ) (counted more : List (ℕ × ℕ)) (cap : ℕ) (table : List (ℕ × ℕ)) (ways : List Ways) → r.circuit ≡ t.circuit → GrowsEvents y z → Adds (λ f. Unit {0}) t.frames r.frames →
    Adds (λ e. Unit {0}) t.memo r.memo → Adds (λ q. Unit {0}) counted more → IsWalked t y frame s counted cap table ways → IsWalked r z frame s more cap table ways
walked_later t r y z frame s counted more cap table ways circuit grows frames memo adds k = record {
  number = k.number;
  at = adds_at (λ (f : Frame). Unit {0}) t.frames r.frames k.number frame frames k.at;
  begins = k.begins;
  each = k.each;
  few = k.few;
  expanded = λ i p g at over.
      subst (λ (e : EventCircuitView). IsExpanded e r.frames z.children table p g) (sym circuit)
      (ready_later t.circuit t.frames r.frames y z (Contains table) (Contains table) _ frames grows (λ q h. h) (k.expanded i p g at over));
  met = λ p h. let m = k.met p h in (m.0, adds_contains (λ (e : (ℕ × ℕ) × Lit). Unit {0}) t.memo r.memo (p, m.0) memo m.1);
  done = λ p h. let d = k.done p h in (d.0, adds_at (λ (f : Frame). Unit {0}) t.frames r.frames p.0 d.0 frames d.1, adds_contains (λ (q : ℕ × ℕ). Unit {0}) counted more (d.0.node, p.1) adds d.2);
  visits = λ x begins. All-weaker (IsVisitedPlace t.circuit t.frames y.children x) (IsVisitedPlace r.circuit r.frames z.children x) (visited_later y z grows (walker_of t) (walker_of r) circuit frames x) table (k.visits x begins);
}

-- so that the care of the table can be made
pub walked_met : (t : EventUnfolderView) (y : EventGraphView) (frame : Frame) (s : ℕ) (counted : List (ℕ × ℕ)) (cap : ℕ) (table : List (ℕ × ℕ)) (ways : List Ways) → IsWalked t y frame s counted cap table ways → AreMetOn t y.children table ways
walked_met t y frame s counted cap table ways k = record {
  each = k.each;
  ready = λ i p g at over. ready_later t.circuit t.frames t.frames y y (Contains table) (IsMet t.memo) _ (adds_none (λ (f : Frame). Unit {0}) t.frames t.frames refl) (grows_refl y) k.met (k.expanded i p g at over);
}

-- what a signal more adds
pub unfolded_from : (i u : EventUnfolderView) → i ≡ u → (k v : EventWalkerView) → k.circuit ≡ u.circuit → (t : EventUnfolderView) (w x y : EventGraphView) → Adds (λ f. Unit {0}) i.frames k.frames × (length k.frames ≤ length i.frames + 2) → (at cap : ℕ) → IsOpened k v w x at → at ≤ cap →
    IsLater (unfolder_of v i.memo) t x y cap → HasUnfolded u t w y (cap + 1)
unfolded_from i u same k v is t w x y one at cap opened few later =
    subst (λ (l : EventUnfolderView). HasUnfolded l t w y (cap + 1)) same
    (record {
      circuit = later.circuit ∙ (opened.circuit ∙ (is ∙ sym (ap (λ (l : EventUnfolderView). l.circuit) same)));
      grows = grows_trans w x y opened.grows later.grown.grows;
      frames = subst (λ (l : List Frame). Adds (λ (g : Frame). Unit {0}) i.frames l) (sym later.frames) (adds_trans (λ (g : Frame). Unit {0}) i.frames k.frames v.frames one.0 opened.frames);
      few_frames = omega (arith, ap length later.frames, opened.few_frames, one.1, few);
      memo = later.memo;
      nodes = omega (arith, later.grown.nodes, ap length opened.graph);
      places = omega (arith, later.grown.places, ap length opened.places);
    })
