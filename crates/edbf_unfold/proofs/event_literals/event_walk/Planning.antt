-- The steps of a walk's places, and their order.
use Rattle.std.proofs.Common.{◌≡◌, ◌∙◌, ◌+◌, ◌-◌, ◌<◌, ◌≤◌, ℕ, true, true≢false, List, [], ◌∷◌, ◌++◌, length, map, take, get_or, slice_get, Some, refl, sym, ap, subst, arith, inl, inr}
use Rattle.std.specs.Prelude.{◌⊎◌, IsSorted, IsPermutation}
use Rattle.std.specs.List.{Contains, sum_by}
use Rattle.std.specs.Cmp.{IsStrictWeakOrder}
use Rattle.std.specs.declared.cmp.Ordering.{Ordering}
use Rattle.std.specs.declared.cmp.Ordering.TheVariants.{Less, Equal, Greater}
use Rattle.std.specs.Ordering.{is_lt, nat_cmp, ordering_then, MatchOrdering}
use Rattle.std.proofs.lemmas.Bool.{cases_lt}
use Rattle.std.proofs.lemmas.Cmp.{ranked, then_total, on_total, nat_cmp_total}
use Rattle.std.proofs.lemmas.List.{map-append, take_more}
use Rattle.std.proofs.lemmas.List.Sorted.{IsPermutation-sym, Contains-permutation, sorted_far, ranks_by, sum_by-IsPermutation}
use Rattle.std.proofs.lemmas.Option.{get_or_from_slice_get, slice_get_within}
use Rattle.circuit_theory.proofs.Lists.{at_of, of_at, length-map}
use Rattle.event_nodes.specs.flat_net.Sound.{IsSound}
use Rattle.event_nodes.proofs.flat_net.Growth.{length-push, slice_get-append, slice_get-push}
use Rattle.event_nodes.proofs.flat_net.Nets.{some_at}
use Rattle.event_nodes.proofs.flat_net.Places.{one_at}
use Rattle.edbf_unfold.specs.declared.event_literals.event_walk.frames.Frame.{Frame}
use Rattle.edbf_unfold.specs.declared.event_literals.event_walk.frames.Step.{Step}
use Rattle.edbf_unfold.specs.declared.event_literals.event_walk.frames.Ways.{Ways}
use Rattle.event_nodes.specs.Nodes.{IsTree, IsChild}
use Rattle.event_nodes.specs.View.{EventCircuitView, side_of}
use Rattle.edbf_unfold.specs.event_literals.event_walk.Ready.{IsReadyBy, IsMetIn, StandsBefore}
use Rattle.edbf_unfold.specs.declared.event_literals.event_walk.frames.Put.TheVariants.{Free}
use Rattle.event_nodes.specs.flat_net.Weights.{weight_at}
use Rattle.edbf_unfold.specs.event_literals.event_walk.Walk.{IsExpanded}
use Rattle.edbf_unfold.specs.event_literals.event_walk.Plan.{IsStepOf, AreSteps, AreExpanded, IsPlanOf, place_of}
use Rattle.event_nodes.proofs.flat_net.Drivers.{reads_lower}
use Rattle.event_nodes.proofs.Lists.{sum_by-map}

-- the first places have their steps
pub record HaveSteps (frames : List Frame) (nodes : ℕ) (table : List (ℕ × ℕ)) (ways : List Ways) (at : ℕ) (steps : List Step) : Type 0 where
  pub each : length steps ≡ at
  pub places : map place_of steps ≡ take at table
  pub is : (i : ℕ) (p : ℕ × ℕ) (g : Ways) → i < at → slice_get table i ≡ Some p → slice_get ways i ≡ Some g → (s : Step) × (slice_get steps i ≡ Some s) × IsStepOf frames nodes p g s

pub steps_none : (frames : List Frame) (nodes : ℕ) (table : List (ℕ × ℕ)) (ways : List Ways) (steps : List Step) → steps ≡ [] → HaveSteps frames nodes table ways 0 steps
steps_none frames nodes table ways steps e = subst (HaveSteps frames nodes table ways 0) (sym e) (record { each = refl; places = refl; is = λ i p g below. absurd (omega arith) })

-- one step more
pub steps_more : (frames : List Frame) (nodes : ℕ) (table : List (ℕ × ℕ)) (ways : List Ways) (steps new : List Step) (at : ℕ) (q : ℕ × ℕ) (t : Step) (d : Ways) → HaveSteps frames nodes table ways at steps →
    slice_get table at ≡ Some q → IsStepOf frames nodes q (get_or ways at d) t → new ≡ steps ++ t ∷ [] → HaveSteps frames nodes table ways (at + 1) new
steps_more frames nodes table ways steps new at q t d have here is pushed = record {
  each = ap length pushed ∙ (length-push steps t ∙ ap (λ (k : ℕ). k + 1) have.each);
  places = ap (map place_of) pushed ∙ (map-append place_of steps (t ∷ []) ∙ (ap (λ (ps : List (ℕ × ℕ)). ps ++ place_of t ∷ []) have.places
      ∙ (ap (λ (p : ℕ × ℕ). take at table ++ p ∷ []) (ap place_of is.2 ∙ sym (get_or_from_slice_get table at q q here)) ∙ sym (take_more table at q (slice_get_within table at q here)))));
  is = λ i p g below place over. go i p g place over (cases_lt i at) below;
}
  where
    go : (i : ℕ) (p : ℕ × ℕ) (g : Ways) → slice_get table i ≡ Some p → slice_get ways i ≡ Some g → (i < at) ⊎ (at ≤ i) → i < at + 1 → (s : Step) × (slice_get new i ≡ Some s) × IsStepOf frames nodes p g s
    go i p g place over (inl l) below =
        let s = have.is i p g l place over in
        (s.0, subst (λ (l' : List Step). slice_get l' i ≡ Some s.0) (sym pushed) (slice_get-append steps (t ∷ []) i s.0 s.1), s.2)
    go i p g place over (inr l) below =
        let same : i ≡ at = omega arith in
        let one : q ≡ p = one_at table at q p here (subst (λ (k : ℕ). slice_get table k ≡ Some p) same place) in
        let onto : get_or ways at d ≡ g = get_or_from_slice_get ways at g d (subst (λ (k : ℕ). slice_get ways k ≡ Some g) same over) in
        (t, subst (λ (l' : List Step). slice_get l' i ≡ Some t) (sym pushed) (slice_get-push steps t i (same ∙ sym have.each)), subst (λ (r : ℕ × ℕ). IsStepOf frames nodes r g t) one (subst (λ (k : Ways). IsStepOf frames nodes q k t) onto is))

-- the order of steps by which a sort goes
abbrev pub step_cmp : Step → Step → Ordering
step_cmp x y = ordering_then (nat_cmp x.rank y.rank) (ordering_then (nat_cmp x.signal y.signal) (ordering_then (nat_cmp x.frame y.frame) (ordering_then (nat_cmp x.onward y.onward) (nat_cmp x.high y.high))))

step_order : IsStrictWeakOrder (λ x y. is_lt (step_cmp x y))
step_order =
    ranks_by (then_total (on_total (λ (s : Step). s.rank) nat_cmp_total) (then_total (on_total (λ (s : Step). s.signal) nat_cmp_total) (then_total (on_total (λ (s : Step). s.frame) nat_cmp_total) (then_total (on_total (λ (s : Step). s.onward) nat_cmp_total) (on_total (λ (s : Step). s.high) nat_cmp_total))))) (λ s. s)

-- a lower rank, or the same and a lower signal
abbrev IsLower : Step → Step → Type 0
IsLower x y = (x.rank < y.rank) ⊎ ((x.rank ≡ y.rank) × (x.signal < y.signal))

lower_first : (x y : Step) → IsLower x y → is_lt (step_cmp x y) ≡ true
lower_first x y lower =
    go (nat_cmp x.rank y.rank) (nat_cmp x.signal y.signal) (ordering_then (nat_cmp x.frame y.frame) (ordering_then (nat_cmp x.onward y.onward) (nat_cmp x.high y.high))) (ranked x.rank y.rank _ refl) (ranked x.signal y.signal _ refl) lower
  where
    go : (o r s : Ordering) → MatchOrdering o (x.rank < y.rank) (x.rank ≡ y.rank) (y.rank < x.rank) → MatchOrdering r (x.signal < y.signal) (x.signal ≡ y.signal) (y.signal < x.signal) → IsLower x y → is_lt (ordering_then o (ordering_then r s)) ≡ true
    go Less r s m k l = refl
    go Equal Less s m k l = refl
    go Equal Equal s m k (inl l) = absurd (omega (arith, m, l))
    go Equal Equal s m k (inr l) = absurd (omega (arith, k, l.1))
    go Equal Greater s m k (inl l) = absurd (omega (arith, m, l))
    go Equal Greater s m k (inr l) = absurd (omega (arith, k, l.1))
    go Greater r s m k (inl l) = absurd (omega (arith, m, l))
    go Greater r s m k (inr l) = absurd (omega (arith, m, l.0))

-- what is lower stands before
comes_before : (plan : List Step) → IsSorted step_cmp plan → (i j : ℕ) (step q : Step) → slice_get plan i ≡ Some step → slice_get plan j ≡ Some q → IsLower q step → j < i
comes_before plan sorted i j step q at other lower = go (cases_lt j i)
  where
    go : (j < i) ⊎ (i ≤ j) → j < i
    go (inl l) = l
    go (inr l) =
        let far = sorted_far (λ x y. is_lt (step_cmp x y)) step_order plan sorted i j q l (slice_get_within plan j q other) in
        let a : get_or plan j q ≡ q = get_or_from_slice_get plan j q q other in
        let b : get_or plan i q ≡ step = get_or_from_slice_get plan i step q at in
        absurd (true≢false (sym (lower_first q step lower) ∙ (sym (ap (λ (x : Step). is_lt (step_cmp x step)) a) ∙ (sym (ap (λ (y : Step). is_lt (step_cmp (get_or plan j q) y)) b) ∙ far))))

module _ (e : EventCircuitView) (sound : IsSound e.net) (frames : List Frame) (children : List (ℕ × ℕ)) (tree : IsTree children) (nodes : ℕ) (many : length children ≡ nodes) (table : List (ℕ × ℕ)) (ways : List Ways)
    (all : AreExpanded e frames children table ways) (steps plan : List Step) (are : AreSteps frames nodes table ways steps) (moved : IsPermutation steps plan) (sorted : IsSorted step_cmp plan) where
  each_step : length steps ≡ length table
  each_step = sym (length-map place_of steps) ∙ ap length are.places

  -- a place's step in the plan
  step_at : (q : ℕ × ℕ) → Contains table q → (s : Step) × (g : Ways) × Contains plan s × IsStepOf frames nodes q g s
  step_at q h =
      let m = at_of table q h in
      let inside = slice_get_within table m.0 q m.1 in
      let o = some_at ways m.0 (omega (arith, inside, all.each)) in
      let s = are.is m.0 q o.0 m.1 o.1 in
      (s.0, o.0, Contains-permutation steps plan s.0 moved (of_at steps m.0 s.0 s.1), s.2)

  same_place : (q : ℕ × ℕ) (g : Ways) (s : Step) → IsStepOf frames nodes q g s → place_of s ≡ q
  same_place q g s is = ap place_of is.2

  module _ (i : ℕ) (p : ℕ × ℕ) (g : Ways) (f : Frame) (at_f : slice_get frames p.0 ≡ Some f) (here : slice_get plan i ≡ Some (record { rank = nodes - f.node; signal = p.1; frame = p.0; onward = g.onward; high = g.high })) where
    abbrev own : Step
    own = record { rank = nodes - f.node; signal = p.1; frame = p.0; onward = g.onward; high = g.high }

    earlier : (q : ℕ × ℕ) → Contains table q → ((h : Frame) → slice_get frames q.0 ≡ Some h → (nodes - h.node < nodes - f.node) ⊎ ((nodes - h.node ≡ nodes - f.node) × (q.1 < p.1))) → StandsBefore plan i q
    earlier q h lower =
        let s = step_at q h in
        let j = at_of plan s.0 s.2 in
        let is = s.3 in
        let down : IsLower s.0 own = subst (λ (x : Step). IsLower x own) (sym is.2) (lower is.0 is.1) in
        (j.0, s.0, comes_before plan sorted i j.0 own s.0 here j.1 down, j.1, same_place q s.1 s.0 is)

    ready : IsExpanded e frames children table p g → IsReadyBy e frames children (StandsBefore plan i) own
    ready x = record {
      frame = x.frame;
      at = x.at;
      node = x.node;
      within = x.within;
      reads = λ q r. read q (reads_lower e.net sound p.1 q r) (x.reads q r);
      onward = λ name next latch free.
          let o = x.onward name next latch free in
          (o.0, o.1, o.2, earlier (g.onward, next) o.3 (λ h at_h. inl (deeper o.0 h (one_at frames g.onward o.0 h o.1 at_h) o.2.child)));
      high = λ name next latch free on.
          let o = x.high name next latch free on in
          (o.0, o.1, o.2, earlier (g.high, next) o.3 (λ h at_h. inl (deeper o.0 h (one_at frames g.high o.0 h o.1 at_h) o.2.0)));
    }
      where
        parent : x.frame ≡ f
        parent = one_at frames p.0 x.frame f x.at at_f

        read : (q : ℕ) → q < p.1 → IsMetIn e.net frames (Contains table) x.frame p.0 g.onward q → IsMetIn e.net frames (StandsBefore plan i) x.frame p.0 g.onward q
        read q lower (inl there) = inl (earlier (p.0, q) there (λ h at_h. inr (ap (λ (k : Frame). nodes - k.node) (one_at frames p.0 h f at_h at_f), lower)))
        read q lower (inr h) = inr (
          h.0,
          h.1,
          earlier (g.onward, q) h.2 (λ k at_k. inr (ap (λ (m : Frame). nodes - m.node) (one_at frames g.onward k (record { node = x.frame.node; put = Free }) at_k h.0) ∙ ap (λ (m : Frame). nodes - m.node) parent, lower)),
        )

        deeper : (k h : Frame) → k ≡ h → IsChild children x.frame.node ((side_of e).class p.1) k.node → nodes - h.node < nodes - f.node
        deeper k h same child =
            let below = tree child.0 x.frame.node ((side_of e).class p.1) child.2 in
            let inside = slice_get_within children child.0 (x.frame.node, (side_of e).class p.1) child.2 in
            let a = ap (λ (y : Frame). y.node) parent in
            let b = ap (λ (y : Frame). y.node) same in
            omega (arith, below, inside, a, b, child.1, many)

  pub planned : IsPlanOf e frames children table plan
  planned = record {
    is_plan = λ i step at. each i step at;
    has = λ p h. let s = step_at p h in (s.0, s.2, same_place p s.1 s.0 s.3);
    weighs = sum_by-IsPermutation (λ (s : Step). weight_at e.net s.signal) steps plan moved ∙ (sym (sum_by-map (λ (p : ℕ × ℕ). weight_at e.net p.1) place_of steps) ∙ ap (sum_by (λ (p : ℕ × ℕ). weight_at e.net p.1)) are.places);
  }
    where
      each : (i : ℕ) (step : Step) → slice_get plan i ≡ Some step → IsReadyBy e frames children (StandsBefore plan i) step
      each i step at =
          let k = at_of steps step (Contains-permutation plan steps step (IsPermutation-sym steps plan moved) (of_at plan i step at)) in
          let inside = slice_get_within steps k.0 step k.1 in
          let p = some_at table k.0 (omega (arith, inside, each_step)) in
          let g = some_at ways k.0 (omega (arith, inside, each_step, all.each)) in
          let s = are.is k.0 p.0 g.0 p.1 g.1 in
          let same : s.0 ≡ step = one_at steps k.0 s.0 step s.1 k.1 in
          let is = s.2 in
          let own_is : step ≡ record { rank = nodes - is.0.node; signal = p.0.1; frame = p.0.0; onward = g.0.onward; high = g.0.high } = sym same ∙ is.2 in
          subst (IsReadyBy e frames children (StandsBefore plan i)) (sym own_is)
          (ready i p.0 g.0 is.0 is.1 (subst (λ (x : Step). slice_get plan i ≡ Some x) own_is at) (all.expanded k.0 p.0 g.0 p.1 g.1))
