-- The care of the places of a walk, place by place, while the graph grows.
use Rattle.std.proofs.Common.{◌≡◌, ◌∙◌, ◌+◌, ◌*◌, ◌<◌, ℕ, suc, ◌≤◌, true, false, List, [], ◌∷◌, ◌++◌, length, take, slice_get, Some, Result, Ok, Err, refl, sym, ap, subst, arith, inl, inr}
use Rattle.std.specs.Prelude.{◌⊎◌, IfOk}
use Rattle.std.specs.List.{All, Contains}
use Rattle.std.specs.List.Sorted.{IsPermutation}
use Rattle.std.proofs.lemmas.List.{length-append, take_more}
use Rattle.std.proofs.lemmas.List.Elements.{Contains-append_left, Contains-push, Contains-push_cases}
use Rattle.std.proofs.lemmas.List.Sorted.{Contains-permutation, IsPermutation-sym}
use Rattle.std.proofs.lemmas.Option.{slice_get_within, get_or_from_slice_get}
use Rattle.circuit_theory.specs.Circuit.{IsLatch}
use Rattle.base_tables.proofs.TableLemmas.{take-push}
use Rattle.circuit_theory.proofs.Lists.{All-from_each, Contains-head, Contains-tail, Contains-cases}
use Rattle.circuit_theory.specs.Frame.{NotPut}
use Rattle.edbf_unfold.specs.event_literals.LatchAt.{LatchAt}
use Rattle.edbf_unfold.specs.event_literals.View.{circuit_of}
use Rattle.edbf_unfold.proofs.event_literals.Places.{one_at}
use Rattle.event_nodes.specs.Lit.{Lit}
use Rattle.event_nodes.specs.Node.{Node}
use Rattle.event_nodes.specs.Graph.{IsGraph, Grows, flip}
use Rattle.event_nodes.specs.Rules.{IsAndOf}
use Rattle.event_nodes.proofs.Growth.{Grows-length, IsAndOf-grows}
use Rattle.event_nodes.proofs.Literals.{flip-within}
use Rattle.event_nodes.specs.Nodes.{EventGraphView, IsEventGraph, GrowsEvents, IsChild, path_of}
use Rattle.event_nodes.specs.View.{EventCircuitView, side_of, Enabled}
use Rattle.event_nodes.proofs.Paths.{child_path}
use Rattle.edbf_unfold.specs.declared.event_literals.event_walk.frames.Frame.{Frame}
use Rattle.edbf_unfold.specs.declared.event_literals.event_walk.frames.Put.{Put}
use Rattle.edbf_unfold.specs.declared.event_literals.event_walk.frames.Put.TheVariants.{Free, Low, High}
use Rattle.edbf_unfold.specs.declared.event_literals.event_walk.frames.Step.{Step}
use Rattle.edbf_unfold.specs.event_literals.event_walk.Ready.{put_of, IsReadyBy}
use Rattle.edbf_unfold.specs.event_literals.Known.{IsKnownAt, IsEnableLit, AreKnown, IsMet}
use Rattle.edbf_unfold.specs.Care.{IsEnableOnward, IsHeldPlace, IsPlaceEnable, IsAndOfAll, IsAndOfThese, IsCareOf, AreEnablesAt, HasEnable, IsEnableBy}
use Rattle.edbf_unfold.proofs.event_literals.Known.{known_at_later}
use Rattle.edbf_unfold.proofs.event_literals.OrStaying.{IsShortOr-grows}
use Rattle.edbf_unfold.proofs.event_literals.Lits.{entry_known}

module _ (e : EventCircuitView) (w v : EventGraphView) (is : IsEventGraph w) (grows : GrowsEvents w v) where
  -- an enable's literal stays
  pub enable_later : (path : List ℕ) (l : LatchAt) (lit : ℕ) → IsEnableLit e w path l lit → IsEnableLit e v path l lit
  enable_later path l lit k = record {
    f0 = k.f0;
    f1 = k.f1;
    low = known_at_later e w v is grows (Some (l.out.0, false)) l.next.0 path k.f0 k.low;
    high = known_at_later e w v is grows (Some (l.out.0, true)) l.next.0 path k.f1 k.high;
    or_is = IsShortOr-grows w.graph v.graph is.is_graph grows.graph k.f0 (flip k.f1) lit k.low.within (flip-within k.f1 (length w.graph) k.high.within) k.or_is;
    within = omega (arith, k.within, Grows-length w.graph v.graph grows.graph);
  }

  pub onward_later : (node : List ℕ) (u lit : ℕ) → IsEnableOnward e w node u lit → IsEnableOnward e v node u lit
  onward_later node u lit k = record {
    position = k.position;
    latch = k.latch;
    at = k.at;
    out = k.out;
    enabled = k.enabled;
    enable = enable_later ((side_of e).class u ∷ node) k.latch lit k.enable;
  }

  pub all_later : (ys : List ℕ) (x : ℕ) → IsAndOfAll w.graph ys x → IsAndOfAll v.graph ys x
  all_later [] x h = h
  all_later (y ∷ ys) x h = (h.0, all_later ys h.0 h.1, IsAndOf-grows w.graph v.graph grows.graph h.0 y x h.2)

  module _ (same : v.children ≡ w.children) (frames : List Frame) where
    pub place_later : (p : ℕ × ℕ) (lit : ℕ) → IsPlaceEnable e w frames p lit → IsPlaceEnable e v frames p lit
    place_later p lit k = record {
      held = k.held;
      onward = subst (λ (es : List (ℕ × ℕ)). IsEnableOnward e v (path_of es k.held.frame.node) p.1 lit) (sym same) (onward_later (path_of w.children k.held.frame.node) p.1 lit k.onward);
    }

    pub enables_later : (places : List (ℕ × ℕ)) (enables : List ℕ) → AreEnablesAt e w frames places enables → AreEnablesAt e v frames places enables
    enables_later places enables k = record {
      each = λ y h. let p = k.each y h in (p.0, p.1, place_later p.0 y p.2);
      all = λ p h held. let y = k.all p h held in (y.0, y.1, place_later p y.0 y.2);
    }

-- no place has an enable
pub enables_none : (e : EventCircuitView) (w : EventGraphView) (frames : List Frame) (enables : List ℕ) → enables ≡ [] → AreEnablesAt e w frames [] enables
enables_none e w frames enables none = record {
  each = λ y h. absurd (nothing_in y (subst (λ (ys : List ℕ). Contains ys y) none h));
  all = λ p h held. absurd (omega (arith, h.1));
}
  where
    nothing_in : (y : ℕ) → Contains [] y → ⊥
    nothing_in y h = omega (arith, h.1)

-- one place more
enables_push : (e : EventCircuitView) (w : EventGraphView) (frames : List Frame) (places : List (ℕ × ℕ)) (enables more : List ℕ) (p : ℕ × ℕ) → AreEnablesAt e w frames places enables → HasEnable e w frames enables p more → AreEnablesAt e w frames (places ++ p ∷ []) more
enables_push e w frames places enables more p k has = go has
  where
    before : (q : ℕ × ℕ) → Contains places q → Contains (places ++ p ∷ []) q
    before q h = Contains-append_left places (p ∷ []) q h

    go : HasEnable e w frames enables p more → AreEnablesAt e w frames (places ++ p ∷ []) more
    go (inl off) = subst (AreEnablesAt e w frames (places ++ p ∷ [])) (sym off.1) (record {
      each = λ y h. let q = k.each y h in (q.0, before q.0 q.1, q.2);
      all = λ q h held. pick q held (Contains-push_cases places p q h);
    })
      where
        pick : (q : ℕ × ℕ) → IsHeldPlace e frames q → Contains places q ⊎ (p ≡ q) → (y : ℕ) × Contains enables y × IsPlaceEnable e w frames q y
        pick q held (inl h) = k.all q h held
        pick q held (inr same) = absurd (off.0 (subst (IsHeldPlace e frames) (sym same) held))
    go (inr own) = subst (AreEnablesAt e w frames (places ++ p ∷ [])) (sym own.2) (record {
      each = λ y h. from y (Contains-push_cases enables own.0 y h);
      all = λ q h held. pick q held (Contains-push_cases places p q h);
    })
      where
        from : (y : ℕ) → Contains enables y ⊎ (own.0 ≡ y) → (q : ℕ × ℕ) × Contains (places ++ p ∷ []) q × IsPlaceEnable e w frames q y
        from y (inl h) = let q = k.each y h in (q.0, before q.0 q.1, q.2)
        from y (inr same) = (p, Contains-push places p, subst (IsPlaceEnable e w frames p) same own.1)

        pick : (q : ℕ × ℕ) → IsHeldPlace e frames q → Contains places q ⊎ (p ≡ q) → (y : ℕ) × Contains (enables ++ own.0 ∷ []) y × IsPlaceEnable e w frames q y
        pick q held (inl h) = let y = k.all q h held in (y.0, Contains-append_left enables (own.0 ∷ []) y.0 y.1, y.2)
        pick q held (inr same) = (own.0, Contains-push enables own.0, subst (λ (r : ℕ × ℕ). IsPlaceEnable e w frames r own.0) same own.1)

-- the next place of a table
pub enables_next : (e : EventCircuitView) (w v : EventGraphView) → IsEventGraph w → GrowsEvents w v → v.children ≡ w.children → (frames : List Frame) (table : List (ℕ × ℕ)) (i : ℕ) (enables more : List ℕ) (p : ℕ × ℕ) → slice_get table i ≡ Some p →
    AreEnablesAt e w frames (take i table) enables → HasEnable e v frames enables p more → AreEnablesAt e v frames (take (i + 1) table) more
enables_next e w v is grows same frames table i enables more p here k has =
    subst (λ (ps : List (ℕ × ℕ)). AreEnablesAt e v frames ps more) (sym (next table i p here)) (enables_push e v frames (take i table) enables more p (enables_later e w v is grows same frames (take i table) enables k) has)
  where
    next : (ps : List (ℕ × ℕ)) (n : ℕ) (q : ℕ × ℕ) → slice_get ps n ≡ Some q → take (n + 1) ps ≡ take n ps ++ q ∷ []
    next ps n q at = take_more ps n q (slice_get_within ps n q at) ∙ ap (λ (r : ℕ × ℕ). take n ps ++ r ∷ []) (get_or_from_slice_get ps n q q at)

-- at most one enable more
pub has_few : (e : EventCircuitView) (w : EventGraphView) (frames : List Frame) (enables more : List ℕ) (p : ℕ × ℕ) → HasEnable e w frames enables p more → length more ≤ length enables + 1
has_few e w frames enables more p (inl off) = omega (arith, ap length off.1)
has_few e w frames enables more p (inr own) = omega (arith, ap length own.2, length-append enables (own.0 ∷ []))

-- no literal is their and: 1
pub and_none : (g : List Node) → IsGraph g → IsAndOfThese g [] 1
and_none g graph = record { taken = []; each = λ y h. h; all = λ y h. h; is = refl; within = let some = slice_get_within g 0 _ graph.constant in omega (arith, some) }

module _ (g : List Node) (lits : List ℕ) (i y : ℕ) (here : slice_get lits i ≡ Some y) where
  -- one literal more
  and_more : (h : List Node) → Grows g h → (x z : ℕ) → IsAndOfThese g (take i lits) x → IsAndOf h x y z → z < 2 * length h → IsAndOfThese h (take (i + 1) lits) z
  and_more h grows x z k more within = subst (λ (ls : List ℕ). IsAndOfThese h ls z) (take-push lits i y here) (record {
    taken = y ∷ k.taken;
    each = λ u m. from u (Contains-cases y u k.taken m);
    all = λ u m. onto u (Contains-push_cases (take i lits) y u m);
    is = (x, all_grow k.taken x k.is, more);
    within = within;
  })
    where
      from : (u : ℕ) → (y ≡ u) ⊎ Contains k.taken u → Contains (take i lits ++ y ∷ []) u
      from u (inl same) = subst (Contains (take i lits ++ y ∷ [])) same (Contains-push (take i lits) y)
      from u (inr m) = Contains-append_left (take i lits) (y ∷ []) u (k.each u m)

      onto : (u : ℕ) → Contains (take i lits) u ⊎ (y ≡ u) → Contains (y ∷ k.taken) u
      onto u (inl m) = Contains-tail y u k.taken (k.all u m)
      onto u (inr same) = subst (Contains (y ∷ k.taken)) same (Contains-head y k.taken)

      all_grow : (ys : List ℕ) (u : ℕ) → IsAndOfAll g ys u → IsAndOfAll h ys u
      all_grow [] u m = m
      all_grow (v ∷ ys) u m = (m.0, all_grow ys m.0 m.1, IsAndOf-grows g h grows m.0 v u m.2)

  pub and_made : {E : Type 0} (h : List Node) → Grows g h → (x : ℕ) (made : Result Lit E) → IsAndOfThese g (take i lits) x → IfOk made (λ z. IsAndOf h x y z.0) → IfOk made (λ z. z.0 < 2 * length h) → IfOk made (λ z. IsAndOfThese h (take (i + 1) lits) z.0)
  and_made h grows x (Ok z) k more within = and_more h grows x z.0 k more within
  and_made h grows x (Err e) k more within = tt

  -- one that stood before
  pub and_again : (x k : ℕ) → suc k ≡ i → slice_get lits k ≡ slice_get lits i → IsAndOfThese g (take i lits) x → IsAndOfThese g (take (i + 1) lits) x
  and_again x k before same is = subst (λ (ls : List ℕ). IsAndOfThese g ls x) (take-push lits i y here) (record {
    taken = is.taken;
    each = λ u m. Contains-append_left (take i lits) (y ∷ []) u (is.each u m);
    all = λ u m. onto u (Contains-push_cases (take i lits) y u m);
    is = is.is;
    within = is.within;
  })
    where
      there : Contains (take i lits) y
      there =
          let one : k + 1 ≡ i = omega (arith, before) in
          subst (λ (n : ℕ). Contains (take n lits) y) one (subst (λ (ls : List ℕ). Contains ls y) (take-push lits k y (same ∙ here)) (Contains-push (take k lits) y))

      onto : (u : ℕ) → Contains (take i lits) u ⊎ (y ≡ u) → Contains is.taken u
      onto u (inl m) = is.all u m
      onto u (inr e) = subst (Contains is.taken) e (is.all y there)

-- in another order, and as one and
pub care_made : (e : EventCircuitView) (w v : EventGraphView) → IsEventGraph w → GrowsEvents w v → v.children ≡ w.children → (frames : List Frame) (places : List (ℕ × ℕ)) (enables ordered : List ℕ) (lit : ℕ) → AreEnablesAt e w frames places enables →
    IsPermutation enables ordered → IsAndOfThese v.graph ordered lit → IsCareOf e v frames places lit
care_made e w v is grows same frames places enables ordered lit k moved all =
    let later = enables_later e w v is grows same frames places enables k in record {
      enables = all.taken;
      each = λ y h. later.each y (Contains-permutation ordered enables y (IsPermutation-sym enables ordered moved) (all.each y h));
      all = λ p h held. let y = later.all p h held in (y.0, all.all y.0 (Contains-permutation enables ordered y.0 moved y.1), y.2);
      is = all.is;
      within = all.within;
    }

-- each enable is a literal of the graph
pub enables_within : (e : EventCircuitView) (w : EventGraphView) (frames : List Frame) (places : List (ℕ × ℕ)) (enables ordered : List ℕ) → AreEnablesAt e w frames places enables → IsPermutation enables ordered → All (λ y. y < 2 * length w.graph) ordered
enables_within e w frames places enables ordered k moved =
    All-from_each (λ y. y < 2 * length w.graph) ordered (λ y h. (k.each y (Contains-permutation ordered enables y (IsPermutation-sym enables ordered moved) h)).2.onward.enable.within)

-- a latch that is put isn't free
pub put_not_free : (p : ℕ × ℕ) (f : Frame) (x : Lit) → ((f.put ≡ Low p.1) × (x.0 ≡ 0)) ⊎ ((f.put ≡ High p.1) × (x.0 ≡ 1)) → NotPut (put_of f.put) p.1 → ⊥
put_not_free p f x (inl h) free = subst (λ (o : Put). NotPut (put_of o) p.1) h.0 free refl
put_not_free p f x (inr h) free = subst (λ (o : Put). NotPut (put_of o) p.1) h.0 free refl

-- a latch that is put isn't held
pub put_not_held : (e : EventCircuitView) (frames : List Frame) (p : ℕ × ℕ) (f : Frame) → slice_get frames p.0 ≡ Some f → (x : Lit) → ((f.put ≡ Low p.1) × (x.0 ≡ 0)) ⊎ ((f.put ≡ High p.1) × (x.0 ≡ 1)) → IsHeldPlace e frames p → ⊥
put_not_held e frames p f at x which held = go which
  where
    free : NotPut (put_of f.put) p.1
    free = subst (λ (g : Frame). NotPut (put_of g.put) p.1) (one_at frames p.0 held.frame f held.at at) held.free

    go : ((f.put ≡ Low p.1) × (x.0 ≡ 0)) ⊎ ((f.put ≡ High p.1) × (x.0 ≡ 1)) → ⊥
    go (inl h) = subst (λ (o : Put). NotPut (put_of o) p.1) h.0 free refl
    go (inr h) = subst (λ (o : Put). NotPut (put_of o) p.1) h.0 free refl

-- the two functions of a latch at a place have been met
module _ (e : EventCircuitView) (frames : List Frame) (children : List (ℕ × ℕ)) (memo : List ((ℕ × ℕ) × Lit)) (step : Step) (ready : IsReadyBy e frames children (IsMet memo) step) (f : Frame) (at : slice_get frames step.frame ≡ Some f) (free : NotPut (put_of f.put) step.signal)
    (l : LatchAt) (latch : IsLatch (circuit_of e.net) l.name step.signal l.next.0) where
  not_put : NotPut (put_of ready.frame.put) step.signal
  not_put = subst (λ (g : Frame). NotPut (put_of g.put) step.signal) (sym (one_at frames step.frame ready.frame f ready.at at)) free

  pub low_met : IsMet memo (step.onward, l.next.0)
  low_met = (ready.onward l.name l.next.0 latch not_put).3

  pub high_met : Enabled e step.signal → IsMet memo (step.high, l.next.0)
  high_met enabled = (ready.high l.name l.next.0 latch not_put enabled).3

-- the enable of the latch at a place, by its two functions that were met
module _ (e : EventCircuitView) (w v : EventGraphView) (is : IsEventGraph v) (same : v.children ≡ w.children) (frames : List Frame) (memo : List ((ℕ × ℕ) × Lit)) (known : AreKnown e v frames memo) (step : Step)
    (ready : IsReadyBy e frames w.children (IsMet memo) step) (f : Frame) (at : slice_get frames step.frame ≡ Some f) (free : NotPut (put_of f.put) step.signal) (j : ℕ) (l : LatchAt) (on : slice_get e.net.latches j ≡ Some l)
    (out : l.out.0 ≡ step.signal) (latch : IsLatch (circuit_of e.net) l.name step.signal l.next.0) (enabled : Enabled e step.signal) where
  frame_is : ready.frame ≡ f
  frame_is = one_at frames step.frame ready.frame f ready.at at

  free_there : NotPut (put_of ready.frame.put) step.signal
  free_there = subst (λ (g : Frame). NotPut (put_of g.put) step.signal) (sym frame_is) free

  at_child : (g : Frame) (put : Put) (k : ℕ) (x : Lit) → slice_get frames k ≡ Some g → g.put ≡ put → IsChild w.children ready.frame.node ((side_of e).class step.signal) g.node → Contains memo ((k, l.next.0), x) →
      IsKnownAt e v (put_of put) l.next.0 ((side_of e).class step.signal ∷ path_of v.children f.node) x.0
  at_child g put k x there put_is child met =
      let own = (entry_known e v frames memo known k l.next.0 x g there met).1 in
      let path : path_of v.children g.node ≡ (side_of e).class step.signal ∷ path_of v.children ready.frame.node = child_path v.children is.is_tree ready.frame.node ((side_of e).class step.signal) g.node (subst (λ (es : List (ℕ × ℕ)). IsChild es ready.frame.node ((side_of e).class step.signal) g.node) (sym same) child) in
      subst (λ (h : Frame). IsKnownAt e v (put_of put) l.next.0 ((side_of e).class step.signal ∷ path_of v.children h.node) x.0) frame_is
      (subst (λ (n : List ℕ). IsKnownAt e v (put_of put) l.next.0 n x.0) path (subst (λ (o : Put). IsKnownAt e v (put_of o) l.next.0 (path_of v.children g.node) x.0) put_is own))

  pub own_enable : (lit : ℕ) → IsEnableBy memo v.graph (step.onward, l.next.0) (step.high, l.next.0) lit → IsPlaceEnable e v frames (step.frame, step.signal) lit
  own_enable lit k = record { held = record { frame = f; at = at; free = free; enabled = enabled }; onward = own }
    where
      onto : (g : Frame) × (slice_get frames step.onward ≡ Some g) × (g.put ≡ Low step.signal) × IsChild w.children ready.frame.node ((side_of e).class step.signal) g.node
      onto = let o = ready.onward l.name l.next.0 latch free_there in (o.0, o.1, low o.2.own, o.2.child)
        where
          low : {put : Put} → (Enabled e step.signal × (put ≡ Low step.signal)) ⊎ ((Enabled e step.signal → ⊥) × (put ≡ Free)) → put ≡ Low step.signal
          low (inl h) = h.1
          low (inr h) = absurd (h.0 enabled)

      low_known : IsKnownAt e v (Some (step.signal, false)) l.next.0 ((side_of e).class step.signal ∷ path_of v.children f.node) k.f0.0
      low_known = at_child onto.0 (Low step.signal) step.onward k.f0 onto.1 onto.2 onto.3 k.low_met

      high_known : IsKnownAt e v (Some (step.signal, true)) l.next.0 ((side_of e).class step.signal ∷ path_of v.children f.node) k.f1.0
      high_known = let o = ready.high l.name l.next.0 latch free_there enabled in at_child o.0 (High step.signal) step.high k.f1 o.1 o.2.1 o.2.0 k.high_met

      own : IsEnableOnward e v (path_of v.children f.node) step.signal lit
      own = record {
        position = j;
        latch = l;
        at = on;
        out = out;
        enabled = enabled;
        enable = record {
          f0 = k.f0.0;
          f1 = k.f1.0;
          low = subst (λ (u : ℕ). IsKnownAt e v (Some (u, false)) l.next.0 ((side_of e).class step.signal ∷ path_of v.children f.node) k.f0.0) (sym out) low_known;
          high = subst (λ (u : ℕ). IsKnownAt e v (Some (u, true)) l.next.0 ((side_of e).class step.signal ∷ path_of v.children f.node) k.f1.0) (sym out) high_known;
          or_is = k.or_is;
          within = k.within;
        };
      }
