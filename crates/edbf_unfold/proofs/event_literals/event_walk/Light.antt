-- The places of a walk weigh at most five times what is counted: a signal at a node stands in one of the two frames where the walk begins, in
-- the one without a latch put, or in one of two with the latch of the greatest depth in its cone.
use Rattle.std.proofs.Common.{◌≡◌, ◌≢◌, ◌∙◌, ◌+◌, ◌*◌, ◌<◌, ◌≤◌, ℕ, List, [], ◌∷◌, ◌++◌, map, take, slice_get, Some, refl, sym, ap, subst, arith, inl, inr}
use Rattle.std.specs.Prelude.{◌⊎◌}
use Rattle.std.specs.List.{Contains, sum_by}
use Rattle.std.proofs.lemmas.List.Elements.{Contains-append_left, Contains-append_right}
use Rattle.std.proofs.lemmas.Bool.{cases_lt}
use Rattle.std.proofs.lemmas.List.Sums.{sum_by-append, sum_by_more}
use Rattle.std.proofs.lemmas.Option.{slice_get_within, get_or_from_slice_get}
use Rattle.base_tables.specs.unique_table.Places.{StandOnce}
use Rattle.base_tables.proofs.TableLemmas.{slice_get-take}
use Rattle.circuit_theory.specs.Depth.{LatchesHaveDepths}
use Rattle.circuit_theory.specs.Run.{IsEnabled}
use Rattle.circuit_theory.proofs.Lists.{Contains-cases, Contains-map, Contains-map_from, at_of, of_at}
use Rattle.circuit_theory.proofs.Sums.{sum_within}
use Rattle.aig.proofs.Lists.{pairs_map, sum_by-map}
use Rattle.event_nodes.specs.flat_net.Sound.{IsSound}
use Rattle.event_nodes.specs.flat_net.View.{NetView, circuit_of}
use Rattle.event_nodes.specs.flat_net.Weights.{weight_at}
use Rattle.event_nodes.specs.Visited.{CounterView, IsWeighed, places_weight}
use Rattle.event_nodes.proofs.flat_net.Places.{one_at, All-at}
use Rattle.event_nodes.specs.Adds.{Adds}
use Rattle.event_nodes.specs.Nodes.{EventGraphView}
use Rattle.event_nodes.specs.View.{EventCircuitView, Enabled}
use Rattle.event_nodes.proofs.Depths.{one_held}
use Rattle.event_nodes.proofs.Lists.{adds_contains}
use Rattle.event_nodes.proofs.Totals.{pairs_differ}
use Rattle.edbf_unfold.specs.declared.event_literals.event_walk.frames.Frame.{Frame}
use Rattle.edbf_unfold.specs.declared.event_literals.event_walk.frames.Put.{Put}
use Rattle.edbf_unfold.specs.declared.event_literals.event_walk.frames.Put.TheVariants.{Free, Low, High}
use Rattle.edbf_unfold.specs.declared.event_literals.event_walk.frames.Ways.{Ways}
use Rattle.edbf_unfold.specs.event_literals.event_walk.Ready.{EventWalkerView}
use Rattle.edbf_unfold.specs.event_literals.event_walk.Walk.{IsHeldBy, IsPutFor, IsOwnPlace, IsCounted, IsWalk, IsExact}

-- the frames at one node
data Kind : Type 0 where
  AtRoot : Kind
  Beside : Kind
  Alone : Kind
  AsLow : Kind
  AsHigh : Kind

abbrev kinds : List Kind
kinds = AtRoot ∷ Beside ∷ Alone ∷ AsLow ∷ AsHigh ∷ []

each_kind : (k : Kind) → Contains kinds k
each_kind AtRoot = of_at kinds 0 AtRoot refl
each_kind Beside = of_at kinds 1 Beside refl
each_kind Alone = of_at kinds 2 Alone refl
each_kind AsLow = of_at kinds 3 AsLow refl
each_kind AsHigh = of_at kinds 4 AsHigh refl

module _ (n : NetView) (sound : IsSound n) (depths : LatchesHaveDepths (circuit_of n) (IsEnabled (circuit_of n))) (frames : List Frame) (once : StandOnce frames) (root beside : ℕ) (counted : List (ℕ × ℕ)) where
  -- the frame is of this kind, for the signal
  abbrev IsOf : Kind → ℕ → Frame → ℕ → Type 0
  IsOf AtRoot id f s = id ≡ root
  IsOf Beside id f s = id ≡ beside
  IsOf Alone id f s = f.put ≡ Free
  IsOf AsLow id f s = (u : ℕ) × (f.put ≡ Low u) × IsHeldBy n u s
  IsOf AsHigh id f s = (u : ℕ) × (f.put ≡ High u) × IsHeldBy n u s

  -- the place is in a frame of this kind, and stands for what is counted
  record Stands (p : ℕ × ℕ) (y : Kind × (ℕ × ℕ)) : Type 0 where
    frame : Frame
    at : slice_get frames p.0 ≡ Some frame
    node : frame.node ≡ y.1.0
    signal : p.1 ≡ y.1.1
    kind : IsOf y.0 p.0 frame p.1

  one_frame : (i j : ℕ) (f g : Frame) → slice_get frames i ≡ Some f → slice_get frames j ≡ Some g → f.node ≡ g.node → f.put ≡ g.put → i ≡ j
  one_frame i j f g here there node put = once i j f here (there ∙ ap Some (sym same))
    where
      same : f ≡ g
      same = λ k. record { node = node k; put = put k }

  one_latch_held : (s t u v : ℕ) → s ≡ t → IsHeldBy n u s → IsHeldBy n v t → u ≡ v
  one_latch_held s t u v same h k =
      let m : IsHeldBy n v s = subst (IsHeldBy n v) (sym same) k in
      one_held n sound depths s h.name m.name u v h.next m.next h.latch m.latch h.cone m.cone h.back m.back

  one_id : (k : Kind) (i j s t : ℕ) (f g : Frame) → slice_get frames i ≡ Some f → slice_get frames j ≡ Some g → f.node ≡ g.node → s ≡ t → IsOf k i f s → IsOf k j g t → i ≡ j
  one_id AtRoot i j s t f g here there node same a b = a ∙ sym b
  one_id Beside i j s t f g here there node same a b = a ∙ sym b
  one_id Alone i j s t f g here there node same a b = one_frame i j f g here there node (a ∙ sym b)
  one_id AsLow i j s t f g here there node same a b = one_frame i j f g here there node (a.1 ∙ (ap Low (one_latch_held s t a.0 b.0 same a.2 b.2) ∙ sym b.1))
  one_id AsHigh i j s t f g here there node same a b = one_frame i j f g here there node (a.1 ∙ (ap High (one_latch_held s t a.0 b.0 same a.2 b.2) ∙ sym b.1))

  one_place : (p q : ℕ × ℕ) (y : Kind × (ℕ × ℕ)) → Stands p y → Stands q y → p ≡ q
  one_place p q y a b =
      let same : p.1 ≡ q.1 = a.signal ∙ sym b.signal in
      let id : p.0 ≡ q.0 = one_id y.0 p.0 q.0 p.1 q.1 a.frame b.frame a.at b.at (a.node ∙ sym b.node) same a.kind b.kind in
      λ i. (id i, same i)

  -- all that is counted, once for each kind
  abbrev copies : List Kind → List (Kind × (ℕ × ℕ))
  copies [] = []
  copies (k ∷ ks) = map (λ c. (k, c)) counted ++ copies ks

  abbrev item_weight : (ℕ × ℕ) ⊎ (Kind × (ℕ × ℕ)) → ℕ
  item_weight (inl p) = weight_at n p.1
  item_weight (inr y) = weight_at n y.1.1

  abbrev Same : (ℕ × ℕ) ⊎ (Kind × (ℕ × ℕ)) → (ℕ × ℕ) ⊎ (Kind × (ℕ × ℕ)) → Type 0
  Same (inl p) (inl q) = p ≡ q
  Same (inl p) (inr y) = Stands p y
  Same (inr x) z = ⊥

  meet : (x y z : (ℕ × ℕ) ⊎ (Kind × (ℕ × ℕ))) → Same x z → Same y z → Same x y
  meet (inl p) (inl q) (inl r) a b = a ∙ sym b
  meet (inl p) (inl q) (inr y) a b = one_place p q y a b
  meet (inl p) (inr x) z a b = absurd b
  meet (inr x) y z a b = absurd a

  copy_of : (ks : List Kind) (k : Kind) (c : ℕ × ℕ) → Contains ks k → Contains counted c → Contains (copies ks) (k, c)
  copy_of [] k c there here = absurd (omega (arith, there.1))
  copy_of (x ∷ ks) k c there here = elim (Contains-cases x k ks there) [
    | inl same ↦ Contains-append_left (map (λ (d : ℕ × ℕ). (x, d)) counted) (copies ks) (k, c) (subst (λ (z : Kind). Contains {X = Kind × (ℕ × ℕ)} (map (λ (d : ℕ × ℕ). (x, d)) counted) (z, c)) same (Contains-map (λ (d : ℕ × ℕ). (x, d)) counted c here))
    | inr later ↦ Contains-append_right (map (λ (d : ℕ × ℕ). (x, d)) counted) (copies ks) (k, c) (copy_of ks k c later here)
  ]

  abbrev copy_weight : Kind × (ℕ × ℕ) → ℕ
  copy_weight y = weight_at n y.1.1

  copies_more : (k : Kind) (ks : List Kind) → sum_by copy_weight (copies (k ∷ ks)) ≡ places_weight n counted + sum_by copy_weight (copies ks)
  copies_more k ks =
      sum_by-append copy_weight (map (λ (d : ℕ × ℕ). (k, d)) counted) (copies ks)
      ∙ ap (λ (m : ℕ). m + sum_by copy_weight (copies ks)) (sum_by-map copy_weight (λ (d : ℕ × ℕ). (k, d)) counted)

  five_copies : sum_by copy_weight (copies kinds) ≡ 5 * places_weight n counted
  five_copies =
      let a = copies_more AtRoot (Beside ∷ Alone ∷ AsLow ∷ AsHigh ∷ []) in
      let b = copies_more Beside (Alone ∷ AsLow ∷ AsHigh ∷ []) in
      let c = copies_more Alone (AsLow ∷ AsHigh ∷ []) in
      let d = copies_more AsLow (AsHigh ∷ []) in
      let e = copies_more AsHigh [] in
      let none : sum_by copy_weight (copies []) ≡ 0 = refl in
      omega (arith, a, b, c, d, e, none)

  stood : (p : ℕ × ℕ) → IsOwnPlace n frames root beside p → IsCounted frames counted p → (y : Kind × (ℕ × ℕ)) × Contains (copies kinds) y × Stands p y
  stood p own is = go own
    where
      by : (k : Kind) → IsOf k p.0 is.0 p.1 → (y : Kind × (ℕ × ℕ)) × Contains (copies kinds) y × Stands p y
      by k of = ((k, (is.0.node, p.1)), copy_of kinds k (is.0.node, p.1) (each_kind k) is.2, record { frame = is.0; at = is.1; node = refl; signal = refl; kind = of })

      by_put : (put : Put) → is.0.put ≡ put → IsPutFor n put p.1 → (y : Kind × (ℕ × ℕ)) × Contains (copies kinds) y × Stands p y
      by_put Free same h = by Alone same
      by_put (Low u) same h = by AsLow (u, same, h)
      by_put (High u) same h = by AsHigh (u, same, h)

      go : (p.0 ≡ root) ⊎ ((p.0 ≡ beside) ⊎ ((f : Frame) × (slice_get frames p.0 ≡ Some f) × IsPutFor n f.put p.1)) → (y : Kind × (ℕ × ℕ)) × Contains (copies kinds) y × Stands p y
      go (inl r) = by AtRoot r
      go (inr (inl b)) = by Beside b
      go (inr (inr k)) = by_put k.0.put (ap (λ (f : Frame). f.put) (one_at frames p.0 is.0 k.0 is.1 k.1)) k.2

  pub light : (table : List (ℕ × ℕ)) → StandOnce table → ((p : ℕ × ℕ) → Contains table p → IsOwnPlace n frames root beside p × IsCounted frames counted p) → places_weight n table ≤ 5 * places_weight n counted
  light table distinct all =
      let sums : sum_by item_weight (map inl table) ≤ sum_by item_weight (map inr (copies kinds)) =
      sum_within item_weight Same meet (map inl table) (map inr (copies kinds))
      (pairs_map {Y = (ℕ × ℕ) ⊎ (Kind × (ℕ × ℕ))} inl (λ p q. p ≢ q) (λ x y. Same x y → ⊥) table (λ p q hp hq apart same. apart same) (pairs_differ table distinct)) found in
      let left : sum_by item_weight (map inl table) ≡ places_weight n table = sum_by-map item_weight inl table in
      let right : sum_by item_weight (map inr (copies kinds)) ≡ sum_by copy_weight (copies kinds) = sum_by-map item_weight inr (copies kinds) in
      omega (arith, sums, left, right, five_copies)
    where
      found : (x : (ℕ × ℕ) ⊎ (Kind × (ℕ × ℕ))) → Contains (map inl table) x → (y : (ℕ × ℕ) ⊎ (Kind × (ℕ × ℕ))) × Contains (map inr (copies kinds)) y × Same x y × (item_weight x ≡ item_weight y)
      found x h =
          let p = Contains-map_from inl table x h in
          let is = all p.0 p.1 in
          let y = stood p.0 is.0 is.1 in
          subst (λ (z : (ℕ × ℕ) ⊎ (Kind × (ℕ × ℕ))). (y : (ℕ × ℕ) ⊎ (Kind × (ℕ × ℕ))) × Contains (map inr (copies kinds)) y × Same z y × (item_weight z ≡ item_weight y)) p.2
          (inr y.0, Contains-map inr (copies kinds) y.0 y.1, y.2, ap (weight_at n) y.2.signal)

-- the first places of a table stand once
pub first_once : (table : List (ℕ × ℕ)) (count : ℕ) → StandOnce table → StandOnce (take count table)
first_once table count distinct i j x here there = distinct i j x (slice_get-take count table i x here).1 (slice_get-take count table j x there).1

-- the places that a walk has passed, and the one that it is at
module _ (u v : EventWalkerView) (w x : EventGraphView) (c d b : CounterView) (root beside : ℕ × ℕ) (table : List (ℕ × ℕ)) (ways : List Ways) (at cap : ℕ) (p : ℕ × ℕ) (walk : IsWalk u v w x root beside table ways at (places_weight v.circuit.net (take at table)) cap) (exact : IsExact u v w x c d root beside table at)
    (lent : EventCircuitView) (same : lent ≡ u.circuit) (sound : IsSound lent.net) (depths : LatchesHaveDepths (circuit_of lent.net) (Enabled lent)) (frames_once : StandOnce v.frames) (table_once : StandOnce table) (here : slice_get table at ≡ Some p) (f : Frame) (framed : slice_get v.frames p.0 ≡ Some f)
    (added : Adds (λ q. q ≡ (f.node, p.1)) d.places b.places) (there : Contains b.places (f.node, p.1)) (weighed : IsWeighed v.circuit.net b) where
  circuit_is : lent ≡ v.circuit
  circuit_is = same ∙ sym walk.opened.circuit

  now_counted : (i : ℕ) (q : ℕ × ℕ) → slice_get table i ≡ Some q → (i < at) ⊎ (at ≤ i) → i < at + 1 → IsCounted v.frames b.places q
  now_counted i q place (inl l) below = let k = exact.done i q l place in (k.0, k.1, adds_contains (λ (r : ℕ × ℕ). r ≡ (f.node, p.1)) d.places b.places (k.0.node, q.1) added k.2)
  now_counted i q place (inr l) below =
      let last : i ≡ at = omega (arith, l, below) in
      let one : p ≡ q = one_at table at p q here (subst (λ (k : ℕ). slice_get table k ≡ Some q) last place) in
      subst (IsCounted v.frames b.places) one (f, framed, there)

  passed : (q : ℕ × ℕ) → Contains (take (at + 1) table) q → IsOwnPlace v.circuit.net v.frames root.0 beside.0 q × IsCounted v.frames b.places q
  passed q h =
      let i = at_of (take (at + 1) table) q h in
      let k = slice_get-take (at + 1) table i.0 q i.1 in
      (All-at (IsOwnPlace v.circuit.net v.frames root.0 beside.0) table i.0 q k.1 walk.own, now_counted i.0 q k.1 (cases_lt i.0 at) k.0)

  pub light_next : places_weight v.circuit.net (take at table) + weight_at v.circuit.net p.1 ≤ 5 * b.weight
  light_next =
      let g : ℕ × ℕ → ℕ = λ q. weight_at v.circuit.net q.1 in
      let inside = slice_get_within table at p here in
      let one = sum_by_more g table at p inside in
      let own = ap g (get_or_from_slice_get table at p p here) in
      let all : places_weight v.circuit.net (take (at + 1) table) ≤ 5 * places_weight v.circuit.net b.places =
      light v.circuit.net (subst (λ (e : EventCircuitView). IsSound e.net) circuit_is sound) (subst (λ (e : EventCircuitView). LatchesHaveDepths (circuit_of e.net) (Enabled e)) circuit_is depths) v.frames frames_once root.0 beside.0 b.places (take (at + 1) table)
      (first_once table (at + 1) table_once) passed in
      omega (arith, one, own, all, weighed.sum)
