-- Tables of states with one state changed.
use Rattle.std.proofs.Common.{◌≡◌, ◌≢◌, ℕ, ◌+◌, ◌<◌, ◌≤◌, List, length, Option, Some, None, refl, sym, ◌∙◌, ap, subst, arith, inl, inr, get_or, true, false}
use Rattle.std.specs.Prelude.{◌⊎◌, slice_get, is_some, IfSome}
use Rattle.std.proofs.Math.ListN.{set}
use Rattle.std.proofs.lemmas.List.Sums.{sum_by-set}
use Rattle.std.proofs.lemmas.Option.{slice_get_within, get_or_from_slice_get}
use Rattle.signal_graph.proofs.flat_net.Places.{one_at}
use Rattle.signal_graph.specs.flat_net.Signal.{Signal}
use Rattle.circuit_theory.proofs.Sums.{same_or_not}
use Rattle.signal_graph.specs.declared.nodes.Node.{Node}
use Rattle.signal_graph.proofs.Lists.{set_other}
use Rattle.latch_graph.specs.declared.states.State.{State}
use Rattle.latch_graph.specs.declared.states.State.TheVariants.{New, Open, Known, Endless, Removed}
use Rattle.latch_graph.specs.Settling.{HasDepth, IsGreatest, IsRight, depth_of, is_new, new_count}

pub new_count-set : (states : List State) (i : ℕ) (old new : State) → slice_get states i ≡ Some old → new_count (set states i new) + is_new old ≡ new_count states + is_new new
new_count-set states i old new h =
    let l : i < length states = slice_get_within states i old h in
    subst (λ x. new_count (set states i new) + is_new x ≡ new_count states + is_new new) (get_or_from_slice_get states i old old h) (sum_by-set is_new states i new old l)

-- what is found stays
pub record Keeps (old new : List State) : Type 0 where
  pub depths : (s d : ℕ) → HasDepth old s d → HasDepth new s d
  pub endless : (s : ℕ) → slice_get old s ≡ Some Endless → slice_get new s ≡ Some Endless

pub keeps_greatest : {old new : List State} (reads : List Signal) (d : ℕ) → Keeps old new → IsGreatest old reads d → IsGreatest new reads d
keeps_greatest {old} {new} reads d keeps g = record { each = λ k r h. let x = g.each k r h in (x.0, keeps.depths r.0 x.0 x.1, x.2); reached = go g.reached }
  where
    go : (d ≡ 0) ⊎ ((k : ℕ) × (r : Signal) × (slice_get reads k ≡ Some r) × HasDepth old r.0 d) → (d ≡ 0) ⊎ ((k : ℕ) × (r : Signal) × (slice_get reads k ≡ Some r) × HasDepth new r.0 d)
    go (inl e) = inl e
    go (inr x) = inr (x.0, x.1, x.2, keeps.depths x.1.0 d x.3)

pub keeps_right : {old new : List State} (node : Node) (st : State) → Keeps old new → IsRight old node st → IsRight new node st
keeps_right node New keeps h = tt
keeps_right node Open keeps h = tt
keeps_right node (Known d) keeps h = (h.0, keeps_greatest node.reads h.0 keeps h.1, h.2)
keeps_right node Endless keeps h = (h.0, h.1, h.2, keeps.endless h.1.0 h.3)
keeps_right node Removed keeps h = tt

-- a signal has one depth at most
pub one_depth : (states : List State) (s d e : ℕ) → HasDepth states s d → HasDepth states s e → d ≡ e
one_depth states s d e a b =
    let same : a.0 ≡ b.0 = one_at states s a.0 b.0 a.1 b.1 in
    let joined = sym a.2 ∙ ap depth_of same ∙ b.2 in
    some_one d e joined
  where
    some_one : (d e : ℕ) → ◌≡◌ {A = Option ℕ} (Some d) (Some e) → d ≡ e
    some_one d e h = cc

-- a state without depth is changed
pub set_keeps : (states : List State) (t : ℕ) (old new : State) → slice_get states t ≡ Some old → depth_of old ≡ None → (old ≡ Endless → ⊥) → Keeps states (set states t new)
set_keeps states t old new h none other = record { depths = depths; endless = endless }
  where
    depths : (s d : ℕ) → HasDepth states s d → HasDepth (set states t new) s d
    depths s d x = pick (same_or_not s t)
      where
        differ : (d : ℕ) → ◌≡◌ {A = Option ℕ} None (Some d) → ⊥
        differ d h = cc

        pick : (s ≡ t) ⊎ (s ≢ t) → HasDepth (set states t new) s d
        pick (inl e) =
            let here : slice_get states t ≡ Some x.0 = subst (λ z. slice_get states z ≡ Some x.0) e x.1 in
            let same : old ≡ x.0 = one_at states t old x.0 h here in
            absurd (differ d (sym none ∙ ap depth_of same ∙ x.2))
        pick (inr n) = (x.0, set_other states t s x.0 new n x.1, x.2)

    endless : (s : ℕ) → slice_get states s ≡ Some Endless → slice_get (set states t new) s ≡ Some Endless
    endless s x = pick (same_or_not s t)
      where
        pick : (s ≡ t) ⊎ (s ≢ t) → slice_get (set states t new) s ≡ Some Endless
        pick (inl e) = absurd (other (one_at states t old Endless h (subst (λ z. slice_get states z ≡ Some Endless) e x)))
        pick (inr n) = set_other states t s Endless new n x

-- a state read from the table
pub tells_depth : (states : List State) (s : ℕ) (st : State) → slice_get states s ≡ Some st → is_some (depth_of st) ≡ true → (e : ℕ) × HasDepth states s e
tells_depth states s (Known d) h e = (d, (Known d, h, refl))
tells_depth states s Removed h e = (0, (Removed, h, refl))
tells_depth states s New h e = absurd (cc)
tells_depth states s Open h e = absurd (cc)
tells_depth states s Endless h e = absurd (cc)

pub tells_none : (states : List State) (s : ℕ) (st : State) → slice_get states s ≡ Some st → is_some (depth_of st) ≡ false → (e : ℕ) → HasDepth states s e → ⊥
tells_none states s st h none e x = go st (ap depth_of (one_at states s st x.0 h x.1) ∙ x.2) none
  where
    go : (st : State) → depth_of st ≡ Some e → is_some (depth_of st) ≡ false → ⊥
    go st q r = differ (sym (ap is_some q) ∙ r)
      where
        differ : true ≡ false → ⊥
        differ z = cc

-- the greatest depth of the signals before a place
pub record IsGreatestBefore (states : List State) (reads : List Signal) (i d : ℕ) : Type 0 where
  pub each : (k : ℕ) (r : Signal) → k < i → slice_get reads k ≡ Some r → (e : ℕ) × HasDepth states r.0 e × (e ≤ d)
  pub reached : (d ≡ 0) ⊎ ((k : ℕ) × (r : Signal) × (slice_get reads k ≡ Some r) × HasDepth states r.0 d)

pub greatest_none : (states : List State) (reads : List Signal) → IsGreatestBefore states reads 0 0
greatest_none states reads = record { each = λ k r l h. absurd (omega (arith, l)); reached = inl refl }

-- one signal more, that isn't deeper
pub greatest_same : (states : List State) (reads : List Signal) (i d e : ℕ) (r : Signal) → IsGreatestBefore states reads i d → slice_get reads i ≡ Some r → HasDepth states r.0 e → e ≤ d → IsGreatestBefore states reads (i + 1) d
greatest_same states reads i d e r g at h le = record { each = λ k q l x. each k q x (same_or_not k i) l; reached = g.reached }
  where
    each : (k : ℕ) (q : Signal) → slice_get reads k ≡ Some q → (k ≡ i) ⊎ (k ≢ i) → k < i + 1 → (f : ℕ) × HasDepth states q.0 f × (f ≤ d)
    each k q x (inl s) l =
        let same : r ≡ q = one_at reads i r q at (subst (λ z. slice_get reads z ≡ Some q) s x) in
        (e, subst (λ (z : Signal). HasDepth states z.0 e) same h, le)
    each k q x (inr n) l = g.each k q (omega (arith, l, n)) x

-- one signal more, that is deeper
pub greatest_more : (states : List State) (reads : List Signal) (i d e : ℕ) (r : Signal) → IsGreatestBefore states reads i d → slice_get reads i ≡ Some r → HasDepth states r.0 e → d < e → IsGreatestBefore states reads (i + 1) e
greatest_more states reads i d e r g at h lt = record { each = λ k q l x. each k q x (same_or_not k i) l; reached = inr (i, r, at, h) }
  where
    each : (k : ℕ) (q : Signal) → slice_get reads k ≡ Some q → (k ≡ i) ⊎ (k ≢ i) → k < i + 1 → (f : ℕ) × HasDepth states q.0 f × (f ≤ e)
    each k q x (inl s) l =
        let same : r ≡ q = one_at reads i r q at (subst (λ z. slice_get reads z ≡ Some q) s x) in
        (e, subst (λ (z : Signal). HasDepth states z.0 e) same h, omega arith)
    each k q x (inr n) l = let y = g.each k q (omega (arith, l, n)) x in (y.0, y.1, omega (arith, y.2, lt))

pub greatest_all : (states : List State) (reads : List Signal) (i d : ℕ) → IsGreatestBefore states reads i d → length reads ≤ i → IsGreatest states reads d
greatest_all states reads i d g l = record { each = λ k r h. let m = slice_get_within reads k r h in g.each k r (omega (arith, l, m)) h; reached = g.reached }

-- a depth that is there is the one that is read
pub told_depth : (states : List State) (s : ℕ) (d : State) (result : ℕ) → (e : ℕ) × HasDepth states s e → IfSome (depth_of (get_or states s d)) (λ f. f ≡ result) → HasDepth states s result
told_depth states s d result h told = (h.1.0, h.1.1, go h.1.0 h.1.2 (subst (λ (z : State). IfSome (depth_of z) (λ f. f ≡ result)) (get_or_from_slice_get states s h.1.0 d h.1.1) told))
  where
    go : (st : State) → depth_of st ≡ Some h.0 → IfSome (depth_of st) (λ f. f ≡ result) → depth_of st ≡ Some result
    go New e x = absurd (cc)
    go Open e x = absurd (cc)
    go (Known f) e x = ap Some x
    go Endless e x = absurd (cc)
    go Removed e x = ap Some x
