-- How a way of open signals goes on.
use Rattle.std.proofs.Common.{◌≡◌, ◌≢◌, ℕ, ◌+◌, ◌<◌, ◌≤◌, List, [], ◌∷◌, ◌++◌, length, Option, Some, None, refl, sym, ◌∙◌, ap, subst, arith, inl, inr}
use Rattle.std.specs.Prelude.{◌⊎◌, slice_get}
use Rattle.std.proofs.Math.ListN.{set}
use Rattle.std.proofs.lemmas.List.{length-set}
use Rattle.std.proofs.lemmas.List.Sums.{sum_by-cons}
use Rattle.std.proofs.lemmas.Option.{slice_get_within}
use Rattle.signal_graph.proofs.flat_net.Places.{one_at}
use Rattle.signal_graph.proofs.flat_net.Nets.{some_at}
use Rattle.signal_graph.proofs.flat_net.Growth.{slice_get-append, slice_get-push, slice_get-push_cases, length-push}
use Rattle.signal_graph.specs.flat_net.Signal.{Signal}
use Rattle.circuit_theory.proofs.Sums.{same_or_not}
use Rattle.signal_graph.specs.declared.nodes.Node.{Node}
use Rattle.latch_graph.specs.declared.states.State.{State}
use Rattle.latch_graph.specs.declared.states.State.TheVariants.{New, Open, Known, Endless, Removed}
use Rattle.latch_graph.specs.declared.states.Step.{Step}
use Rattle.signal_graph.specs.Graph.{step_of}
use Rattle.latch_graph.specs.Settling.{HasDepth, IsGreatest, IsDepthOf, ReadsEndless, IsRight, IsTable, IsStep, IsWay, Leads, IsLater, IsGivenUp, IsFirst, IsFinal, IsSettled, depth_of, is_new, new_count}
use Rattle.signal_graph.proofs.Lists.{set_same, set_other, set_cases}
use Rattle.latch_graph.proofs.Tables.{new_count-set, Keeps, keeps_right, set_keeps}

-- setting a state that isn't final, to one that isn't new
pub set_later : (states : List State) (t : ℕ) (old new : State) → slice_get states t ≡ Some old → (old ≡ Removed → ⊥) → (new ≡ New → ⊥) → (new ≡ Removed → ⊥) → IsLater states (set states t new)
set_later states t old new h kept not_new not_removed = record {
  size = length-set states t new;
  news = λ s x. news s (set_cases states t s new New x);
  removed = record { stay = λ s x. stay s x (same_or_not s t); were = λ s x. were s (set_cases states t s new Removed x) };
}
  where
    news : (s : ℕ) → ((s ≡ t) × (new ≡ New)) ⊎ ((s ≢ t) × (slice_get states s ≡ Some New)) → slice_get states s ≡ Some New
    news s (inl x) = absurd (not_new x.1)
    news s (inr x) = x.1

    stay : (s : ℕ) → slice_get states s ≡ Some Removed → (s ≡ t) ⊎ (s ≢ t) → slice_get (set states t new) s ≡ Some Removed
    stay s x (inl e) = absurd (kept (one_at states t old Removed h (subst (λ z. slice_get states z ≡ Some Removed) e x)))
    stay s x (inr n) = set_other states t s Removed new n x

    were : (s : ℕ) → ((s ≡ t) × (new ≡ Removed)) ⊎ ((s ≢ t) × (slice_get states s ≡ Some Removed)) → slice_get states s ≡ Some Removed
    were s (inl x) = absurd (not_removed x.1)
    were s (inr x) = x.1

-- a table stays right where one signal that has neither depth nor lack of it gets a state that is right
pub set_table : (nodes : List Node) (states : List State) (t : ℕ) (old new : State) → IsTable nodes states → slice_get states t ≡ Some old → depth_of old ≡ None → (old ≡ Endless → ⊥) →
    ((node : Node) → slice_get nodes t ≡ Some node → IsRight states node new) → IsTable nodes (set states t new)
set_table nodes states t old new table h none other right = record {
  size = length-set states t new ∙ table.size;
  right = λ s node st at x. go s node st at (set_cases states t s new st x);
}
  where
    keeps : Keeps states (set states t new)
    keeps = set_keeps states t old new h none other

    go : (s : ℕ) (node : Node) (st : State) → slice_get nodes s ≡ Some node → ((s ≡ t) × (new ≡ st)) ⊎ ((s ≢ t) × (slice_get states s ≡ Some st)) → IsRight (set states t new) node st
    go s node st at (inl x) = subst (λ z. IsRight (set states t new) node z) x.1 (keeps_right node new keeps (right node (subst (λ z. slice_get nodes z ≡ Some node) x.0 at)))
    go s node st at (inr x) = keeps_right node st keeps (table.right s node st at x.1)

-- what is known of the steps stays where the state of another signal is set
step_stays : (nodes : List Node) (states states' : List State) (step : Step) → Keeps states states' → slice_get states' step.signal ≡ Some Open → IsStep nodes states step → IsStep nodes states' step
step_stays nodes states states' step keeps opened s = record { opened = opened; node = s.node; here = s.here; passed = λ k r l h. let x = s.passed k r l h in (x.0, keeps.depths r.0 x.0 x.1) }

-- the last step goes on to a later place
pub way_waits : (nodes : List Node) (states : List State) (way : List Step) (a b : Step) → IsWay nodes states (way ++ a ∷ []) → a.signal ≡ b.signal →
    ((node : Node) → slice_get nodes b.signal ≡ Some node → (k : ℕ) (r : Signal) → k < b.read → slice_get node.reads k ≡ Some r → (e : ℕ) × HasDepth states r.0 e) → IsWay nodes states (way ++ b ∷ [])
way_waits nodes states way a b w same passed = record {
  table = w.table;
  steps = λ i step h. steps i step (slice_get-push_cases way b i step h);
  leads = λ i x y h k. leads i x y (slice_get-push_cases way b i x h) (slice_get-push_cases way b (i + 1) y k);
  once = λ i j x y h k e. once i j x y (slice_get-push_cases way b i x h) (slice_get-push_cases way b j y k) e;
  holds_open = λ s h. let x = w.holds_open s h in held s x.0 x.1 x.3 (slice_get-push_cases way a x.0 x.1 x.2);
  room = omega (arith, w.room, length-push way a, length-push way b);
  low = λ s d h. omega (arith, w.low s d h, length-push way a, length-push way b);
}
  where
    before : (i : ℕ) (x : Step) → slice_get way i ≡ Some x → slice_get (way ++ a ∷ []) i ≡ Some x
    before i x h = slice_get-append way (a ∷ []) i x h

    last : slice_get (way ++ a ∷ []) (length way) ≡ Some a
    last = slice_get-push way a (length way) refl

    old_last : IsStep nodes states a
    old_last = w.steps (length way) a last

    new_last : IsStep nodes states b
    new_last = record {
      opened = subst (λ z. slice_get states z ≡ Some Open) same old_last.opened;
      node = old_last.node;
      here = subst (λ z. slice_get nodes z ≡ Some old_last.node) same old_last.here;
      passed = passed old_last.node (subst (λ z. slice_get nodes z ≡ Some old_last.node) same old_last.here);
    }

    steps : (i : ℕ) (step : Step) → (slice_get way i ≡ Some step) ⊎ ((i ≡ length way) × (b ≡ step)) → IsStep nodes states step
    steps i step (inl h) = w.steps i step (before i step h)
    steps i step (inr h) = subst (λ z. IsStep nodes states z) h.1 new_last

    leads : (i : ℕ) (x y : Step) → (slice_get way i ≡ Some x) ⊎ ((i ≡ length way) × (b ≡ x)) → (slice_get way (i + 1) ≡ Some y) ⊎ ((i + 1 ≡ length way) × (b ≡ y)) → Leads nodes x y
    leads i x y (inl h) (inl k) = w.leads i x y (before i x h) (before (i + 1) y k)
    leads i x y (inl h) (inr k) =
        let old : Leads nodes x a = w.leads i x a (before i x h) (subst (λ z. slice_get (way ++ a ∷ []) z ≡ Some a) (sym k.0) last) in
        λ node at. let z = old node at in (z.0, z.1, z.2 ∙ same ∙ ap (λ (u : Step). u.signal) k.1)
    leads i x y (inr h) (inl k) = absurd (let l = slice_get_within way (i + 1) y k in omega (arith, l, h.0))
    leads i x y (inr h) (inr k) = absurd (omega (arith, h.0, k.0))

    once : (i j : ℕ) (x y : Step) → (slice_get way i ≡ Some x) ⊎ ((i ≡ length way) × (b ≡ x)) → (slice_get way j ≡ Some y) ⊎ ((j ≡ length way) × (b ≡ y)) → x.signal ≡ y.signal → i ≡ j
    once i j x y (inl h) (inl k) e = w.once i j x y (before i x h) (before j y k) e
    once i j x y (inl h) (inr k) e =
        w.once i (length way) x a (before i x h) last (e ∙ sym (ap (λ (u : Step). u.signal) k.1) ∙ sym same) ∙ sym k.0
    once i j x y (inr h) (inl k) e =
        h.0 ∙ w.once (length way) j a y last (before j y k) (same ∙ ap (λ (u : Step). u.signal) h.1 ∙ e)
    once i j x y (inr h) (inr k) e = h.0 ∙ sym k.0

    held : (s i : ℕ) (x : Step) → x.signal ≡ s → (slice_get way i ≡ Some x) ⊎ ((i ≡ length way) × (a ≡ x)) → (i : ℕ) × (step : Step) × (slice_get (way ++ b ∷ []) i ≡ Some step) × (step.signal ≡ s)
    held s i x e (inl h) = (i, x, slice_get-append way (b ∷ []) i x h, e)
    held s i x e (inr h) = (length way, b, slice_get-push way b (length way) refl, sym same ∙ ap (λ (u : Step). u.signal) h.1 ∙ e)

-- a new signal that the last step reads is opened
pub way_opens : (nodes : List Node) (states : List State) (way : List Step) (signal : ℕ) → IsWay nodes states way → signal < length nodes → slice_get states signal ≡ Some New →
    ((i : ℕ) (a : Step) → i + 1 ≡ length way → slice_get way i ≡ Some a → Leads nodes a (record { signal = signal; read = 0 })) →
    (node : Node) → slice_get nodes signal ≡ Some node → IsWay nodes (set states signal Open) (way ++ record { signal = signal; read = 0 } ∷ [])
way_opens nodes states way signal w inside new led node here = record {
  table = set_table nodes states signal New Open w.table new refl (λ e. cc) (λ node' h. tt);
  steps = λ i step h. steps i step (slice_get-push_cases way b i step h);
  leads = λ i x y h k. leads i x y (slice_get-push_cases way b i x h) (slice_get-push_cases way b (i + 1) y k);
  once = λ i j x y h k e. once i j x y (slice_get-push_cases way b i x h) (slice_get-push_cases way b j y k) e;
  holds_open = λ s h. held s (set_cases states signal s Open Open h);
  room = omega (arith, w.room, length-push way b, count);
  low = λ s d h. low s d h.0 h.2 (set_cases states signal s Open h.0 h.1);
}
  where
    b : Step
    b = record { signal = signal; read = 0 }

    keeps : Keeps states (set states signal Open)
    keeps = set_keeps states signal New Open new refl (λ e. cc)

    count : new_count (set states signal Open) + 1 ≡ new_count states + 0
    count = new_count-set states signal New Open new

    other : (i : ℕ) (x : Step) → slice_get way i ≡ Some x → x.signal ≢ signal
    other i x h e = differ (one_at states signal Open New (subst (λ z. slice_get states z ≡ Some Open) e (w.steps i x h).opened) new)
      where
        differ : ◌≡◌ {A = State} Open New → ⊥
        differ q = cc

    steps : (i : ℕ) (step : Step) → (slice_get way i ≡ Some step) ⊎ ((i ≡ length way) × (b ≡ step)) → IsStep nodes (set states signal Open) step
    steps i step (inl h) =
        let old = w.steps i step h in
        step_stays nodes states (set states signal Open) step keeps (set_other states signal step.signal Open Open (other i step h) old.opened) old
    steps i step (inr h) = subst (λ z. IsStep nodes (set states signal Open) z) h.1 (record { opened = set_same states signal New Open new; node = node; here = here; passed = λ k r l q. absurd (omega arith) })

    leads : (i : ℕ) (x y : Step) → (slice_get way i ≡ Some x) ⊎ ((i ≡ length way) × (b ≡ x)) → (slice_get way (i + 1) ≡ Some y) ⊎ ((i + 1 ≡ length way) × (b ≡ y)) → Leads nodes x y
    leads i x y (inl h) (inl k) = w.leads i x y h k
    leads i x y (inl h) (inr k) = subst (λ z. Leads nodes x z) k.1 (led i x k.0 h)
    leads i x y (inr h) (inl k) = absurd (let l = slice_get_within way (i + 1) y k in omega (arith, l, h.0))
    leads i x y (inr h) (inr k) = absurd (omega (arith, h.0, k.0))

    once : (i j : ℕ) (x y : Step) → (slice_get way i ≡ Some x) ⊎ ((i ≡ length way) × (b ≡ x)) → (slice_get way j ≡ Some y) ⊎ ((j ≡ length way) × (b ≡ y)) → x.signal ≡ y.signal → i ≡ j
    once i j x y (inl h) (inl k) e = w.once i j x y h k e
    once i j x y (inl h) (inr k) e = absurd (other i x h (e ∙ sym (ap (λ (u : Step). u.signal) k.1)))
    once i j x y (inr h) (inl k) e = absurd (other j y k (sym e ∙ sym (ap (λ (u : Step). u.signal) h.1)))
    once i j x y (inr h) (inr k) e = h.0 ∙ sym k.0

    held : (s : ℕ) → ((s ≡ signal) × (◌≡◌ {A = State} Open Open)) ⊎ ((s ≢ signal) × (slice_get states s ≡ Some Open)) → (i : ℕ) × (step : Step) × (slice_get (way ++ b ∷ []) i ≡ Some step) × (step.signal ≡ s)
    held s (inl h) = (length way, b, slice_get-push way b (length way) refl, sym h.0)
    held s (inr h) = let x = w.holds_open s h.1 in (x.0, x.1, slice_get-append way (b ∷ []) x.0 x.1 x.2, x.3)

    low : (s d : ℕ) (st : State) → depth_of st ≡ Some d → ((s ≡ signal) × (Open ≡ st)) ⊎ ((s ≢ signal) × (slice_get states s ≡ Some st)) → d + length (way ++ b ∷ []) + new_count (set states signal Open) ≤ length nodes
    low s d st k (inl h) = absurd (differ (ap depth_of h.1 ∙ k))
      where
        differ : ◌≡◌ {A = Option ℕ} None (Some d) → ⊥
        differ q = cc
    low s d st k (inr h) = omega (arith, w.low s d (st, h.1, k), length-push way b, count)

-- the depth of the signal of the last step is below the number of signals
pub depth_fits : (nodes : List Node) (states : List State) (way : List Step) (step : Step) → IsWay nodes states (way ++ step ∷ []) → (reads : List Signal) (e : ℕ) → IsGreatest states reads e →
    e + 1 + length way + new_count states ≤ length nodes
depth_fits nodes states way step w reads e g = go g.reached
  where
    go : (e ≡ 0) ⊎ ((k : ℕ) × (r : Signal) × (slice_get reads k ≡ Some r) × HasDepth states r.0 e) → e + 1 + length way + new_count states ≤ length nodes
    go (inl z) = omega (arith, w.room, length-push way step, z)
    go (inr x) = omega (arith, w.low x.1.0 e x.3, length-push way step)

-- the signal of the last step has its depth
pub way_settles : (nodes : List Node) (states : List State) (way : List Step) (step : Step) (d : ℕ) → IsWay nodes states (way ++ step ∷ []) →
    ((node : Node) → slice_get nodes step.signal ≡ Some node → IsDepthOf states node d) → IsWay nodes (set states step.signal (Known d)) way
way_settles nodes states way step d w right = record {
  table = set_table nodes states step.signal Open (Known d) w.table opened refl (λ e. cc) right;
  steps = λ i x h. let old = w.steps i x (before i x h) in step_stays nodes states (set states step.signal (Known d)) x keeps (set_other states step.signal x.signal Open (Known d) (other i x h) old.opened) old;
  leads = λ i x y h k. w.leads i x y (before i x h) (before (i + 1) y k);
  once = λ i j x y h k e. w.once i j x y (before i x h) (before j y k) e;
  holds_open = λ s h. held s (set_cases states step.signal s (Known d) Open h);
  room = omega (arith, w.room, length-push way step, count);
  low = λ s e h. low s e h.0 h.2 (set_cases states step.signal s (Known d) h.0 h.1);
}
  where
    before : (i : ℕ) (x : Step) → slice_get way i ≡ Some x → slice_get (way ++ step ∷ []) i ≡ Some x
    before i x h = slice_get-append way (step ∷ []) i x h

    last : slice_get (way ++ step ∷ []) (length way) ≡ Some step
    last = slice_get-push way step (length way) refl

    this : IsStep nodes states step
    this = w.steps (length way) step last

    opened : slice_get states step.signal ≡ Some Open
    opened = this.opened

    keeps : Keeps states (set states step.signal (Known d))
    keeps = set_keeps states step.signal Open (Known d) opened refl (λ e. cc)

    count : new_count (set states step.signal (Known d)) + 0 ≡ new_count states + 0
    count = new_count-set states step.signal Open (Known d) opened

    other : (i : ℕ) (x : Step) → slice_get way i ≡ Some x → x.signal ≢ step.signal
    other i x h e = let l = slice_get_within way i x h in let same = w.once i (length way) x step (before i x h) last e in omega (arith, l, same)

    held : (s : ℕ) → ((s ≡ step.signal) × (Known d ≡ Open)) ⊎ ((s ≢ step.signal) × (slice_get states s ≡ Some Open)) → (i : ℕ) × (x : Step) × (slice_get way i ≡ Some x) × (x.signal ≡ s)
    held s (inl h) = absurd (differ h.1)
      where
        differ : Known d ≡ Open → ⊥
        differ q = cc
    held s (inr h) = let x = w.holds_open s h.1 in pick x.0 x.1 x.3 (slice_get-push_cases way step x.0 x.1 x.2)
      where
        pick : (i : ℕ) (x : Step) → x.signal ≡ s → (slice_get way i ≡ Some x) ⊎ ((i ≡ length way) × (step ≡ x)) → (i : ℕ) × (x : Step) × (slice_get way i ≡ Some x) × (x.signal ≡ s)
        pick i x e (inl k) = (i, x, k, e)
        pick i x e (inr k) = absurd (h.0 (sym e ∙ sym (ap (λ (u : Step). u.signal) k.1)))

    low : (s e : ℕ) (st : State) → depth_of st ≡ Some e → ((s ≡ step.signal) × (Known d ≡ st)) ⊎ ((s ≢ step.signal) × (slice_get states s ≡ Some st)) →
        e + length way + new_count (set states step.signal (Known d)) ≤ length nodes
    low s e st k (inr h) = omega (arith, w.low s e (st, h.1, k), length-push way step, count)
    low s e st k (inl h) = omega (arith, depth_fits nodes states way step w this.node.reads r.0 r.1, r.2, below this.node, same, count)
      where
        r : IsDepthOf states this.node d
        r = right this.node this.here

        same : d ≡ e
        same = some_one (ap depth_of h.1 ∙ k)
          where
            some_one : ◌≡◌ {A = Option ℕ} (Some d) (Some e) → d ≡ e
            some_one q = cc

        below : (node : Node) → step_of node.latch ≤ 1
        below node = go node.latch
          where
            go : (latch : Option ℕ) → step_of latch ≤ 1
            go None = omega arith
            go (Some j) = omega arith

none_some : (d : ℕ) → ◌≡◌ {A = Option ℕ} None (Some d) → ⊥
none_some d q = cc

open_endless : Open ≡ Endless → ⊥
open_endless q = cc

given_up_keeps : (nodes : List Node) (states states' : List State) (way : List Step) → IsWay nodes states way → IsGivenUp way (length way) states states' → Keeps states states'
given_up_keeps nodes states states' way w g = record { depths = λ s d h. depths s d h (g.kept s h.0 h.1); endless = λ s h. endless s h (g.kept s Endless h) }
  where
    opened : (s : ℕ) (st : State) → slice_get states s ≡ Some st → (i : ℕ) × (step : Step) × (slice_get way i ≡ Some step) × (step.signal ≡ s) → Open ≡ st
    opened s st h x = one_at states s Open st (subst (λ z. slice_get states z ≡ Some Open) x.3 (w.steps x.0 x.1 x.2).opened) h

    depths : (s d : ℕ) (h : HasDepth states s d) → (slice_get states' s ≡ Some h.0) ⊎ ((i : ℕ) × (step : Step) × (slice_get way i ≡ Some step) × (step.signal ≡ s)) → HasDepth states' s d
    depths s d h (inl k) = (h.0, k, h.2)
    depths s d h (inr x) = absurd (none_some d (ap depth_of (opened s h.0 h.1 x) ∙ h.2))

    endless : (s : ℕ) → slice_get states s ≡ Some Endless → (slice_get states' s ≡ Some Endless) ⊎ ((i : ℕ) × (step : Step) × (slice_get way i ≡ Some step) × (step.signal ≡ s)) → slice_get states' s ≡ Some Endless
    endless s h (inl k) = k
    endless s h (inr x) = absurd (open_endless (opened s Endless h x))

-- the whole way leads back to a cycle
pub way_given_up : (nodes : List Node) (states states' : List State) (way : List Step) (signal : ℕ) → IsWay nodes states way → IsGivenUp way (length way) states states' → signal < length nodes →
    ((d : ℕ) → HasDepth states signal d → ⊥) → (slice_get states signal ≡ Some New → ⊥) →
    ((i : ℕ) (a : Step) → i + 1 ≡ length way → slice_get way i ≡ Some a → Leads nodes a (record { signal = signal; read = 0 })) → IsWay nodes states' []
way_given_up nodes states states' way signal w g inside unknown not_new led = record {
  table = record { size = g.size ∙ w.table.size; right = right };
  steps = λ i step h. absurd (none i step h);
  leads = λ i a b h k. absurd (none i a h);
  once = λ i j a b h k e. absurd (none i a h);
  holds_open = λ s h. absurd (not_open s (g.from s Open h) h);
  room = omega (arith, w.room, g.fewer);
  low = λ s d h. low s d h.0 h.2 (g.from s h.0 h.1);
}
  where
    none : (i : ℕ) (step : Step) → slice_get [] i ≡ Some step → ⊥
    none i step h = let l = slice_get_within [] i step h in omega (arith, l)

    keeps : Keeps states states'
    keeps = given_up_keeps nodes states states' way w g

    on_way : (s : ℕ) → slice_get states s ≡ Some Open → slice_get states' s ≡ Some Endless
    on_way s h =
        let x = w.holds_open s h in
        subst (λ z. slice_get states' z ≡ Some Endless) x.3 (g.endless x.0 x.1 (slice_get_within way x.0 x.1 x.2) x.2)

    not_open : (s : ℕ) → (slice_get states s ≡ Some Open) ⊎ (Open ≡ Endless) → slice_get states' s ≡ Some Open → ⊥
    not_open s (inl h) k = open_endless (one_at states' s Open Endless k (on_way s h))
    not_open s (inr e) k = open_endless e

    low : (s d : ℕ) (st : State) → depth_of st ≡ Some d → (slice_get states s ≡ Some st) ⊎ (st ≡ Endless) → d + 0 + new_count states' ≤ length nodes
    low s d st k (inl h) = let l = w.low s d (st, h, k) in omega (arith, l, g.fewer)
    low s d st k (inr e) = absurd (none_some d (sym (ap depth_of e) ∙ k))

    waits : slice_get states' signal ≡ Some Endless
    waits = by old.0 old.1
      where
        old : (st : State) × (slice_get states signal ≡ Some st)
        old = some_at states signal (omega (arith, inside, w.table.size))

        by : (st : State) → slice_get states signal ≡ Some st → slice_get states' signal ≡ Some Endless
        by New h = absurd (not_new h)
        by Open h = on_way signal h
        by (Known d) h = absurd (unknown d (Known d, h, refl))
        by Endless h = keeps.endless signal h
        by Removed h = absurd (unknown 0 (Removed, h, refl))

    -- what stands on the way reads what stands next on it, or the signal where it ends
    reads_endless : (i : ℕ) (step : Step) (node : Node) → slice_get way i ≡ Some step → slice_get nodes step.signal ≡ Some node → ReadsEndless states' node
    reads_endless i step node h at = go (same_or_not (i + 1) (length way))
      where
        go : (i + 1 ≡ length way) ⊎ (i + 1 ≢ length way) → ReadsEndless states' node
        go (inl e) =
            let x = led i step e h node at in
            (step.read, x.0, x.1, subst (λ z. slice_get states' z ≡ Some Endless) (sym x.2) waits)
        go (inr n) =
            let l = slice_get_within way i step h in
            let next = some_at way (i + 1) (omega (arith, l, n)) in
            let x = w.leads i step next.0 h next.1 node at in
            (step.read, x.0, x.1, subst (λ z. slice_get states' z ≡ Some Endless) (sym x.2) (g.endless (i + 1) next.0 (slice_get_within way (i + 1) next.0 next.1) next.1))

    right : (s : ℕ) (node : Node) (st : State) → slice_get nodes s ≡ Some node → slice_get states' s ≡ Some st → IsRight states' node st
    right s node st at h = by (g.from s st h)
      where
        old : (o : State) × (slice_get states s ≡ Some o)
        old = some_at states s (let l = slice_get_within states' s st h in omega (arith, l, g.size))

        was : (st ≡ Endless) → (slice_get states' s ≡ Some old.0) ⊎ ((i : ℕ) × (step : Step) × (slice_get way i ≡ Some step) × (step.signal ≡ s)) → ReadsEndless states' node
        was e (inl k) =
            let same : old.0 ≡ Endless = one_at states' s old.0 st k h ∙ e in
            keeps_right node Endless keeps (w.table.right s node Endless at (subst (λ z. slice_get states s ≡ Some z) same old.1))
        was e (inr x) = reads_endless x.0 x.1 node x.2 (subst (λ z. slice_get nodes z ≡ Some node) (sym x.3) at)

        by : (slice_get states s ≡ Some st) ⊎ (st ≡ Endless) → IsRight states' node st
        by (inl k) = keeps_right node st keeps (w.table.right s node st at k)
        by (inr e) = subst (λ z. IsRight states' node z) (sym e) (was e (g.kept s old.0 old.1))

pub given_up_later : (nodes : List Node) (states states' : List State) (way : List Step) → IsWay nodes states way → IsGivenUp way (length way) states states' → IsLater states states'
given_up_later nodes states states' way w g = record {
  size = g.size;
  news = λ s h. news s (g.from s New h);
  removed = record { stay = λ s h. stay s h (g.kept s Removed h); were = λ s h. were s (g.from s Removed h) };
}
  where
    news : (s : ℕ) → (slice_get states s ≡ Some New) ⊎ (New ≡ Endless) → slice_get states s ≡ Some New
    news s (inl h) = h
    news s (inr e) = absurd (new_endless e)
      where
        new_endless : New ≡ Endless → ⊥
        new_endless q = cc

    were : (s : ℕ) → (slice_get states s ≡ Some Removed) ⊎ (Removed ≡ Endless) → slice_get states s ≡ Some Removed
    were s (inl h) = h
    were s (inr e) = absurd (removed_endless e)
      where
        removed_endless : Removed ≡ Endless → ⊥
        removed_endless q = cc

    stay : (s : ℕ) → slice_get states s ≡ Some Removed → (slice_get states' s ≡ Some Removed) ⊎ ((i : ℕ) × (step : Step) × (slice_get way i ≡ Some step) × (step.signal ≡ s)) → slice_get states' s ≡ Some Removed
    stay s h (inl k) = k
    stay s h (inr x) = absurd (open_removed (one_at states s Open Removed (subst (λ z. slice_get states z ≡ Some Open) x.3 (w.steps x.0 x.1 x.2).opened) h))
      where
        open_removed : Open ≡ Removed → ⊥
        open_removed q = cc

pub given_up_none : (way : List Step) (states : List State) → IsGivenUp way 0 states states
given_up_none way states = record {
  size = refl;
  endless = λ i step l h. absurd (omega (arith, l));
  kept = λ s st h. inl h;
  from = λ s st h. inl h;
  fewer = omega arith;
}

pub given_up_more : (way : List Step) (i : ℕ) (old new : List State) (step : Step) → IsGivenUp way i old new → slice_get way i ≡ Some step → step.signal < length old → IsGivenUp way (i + 1) old (set new step.signal Endless)
given_up_more way i old new step g at l = record {
  size = length-set new step.signal Endless ∙ g.size;
  endless = λ j x m h. endless j x h m (same_or_not x.signal step.signal) (same_or_not j i);
  kept = λ s st h. kept s st (same_or_not s step.signal) (g.kept s st h);
  from = λ s st h. from s st (set_cases new step.signal s Endless st h);
  fewer = omega (arith, g.fewer, count);
}
  where
    there : (st : State) × (slice_get new step.signal ≡ Some st)
    there = some_at new step.signal (omega (arith, l, g.size))

    count : new_count (set new step.signal Endless) + is_new there.0 ≡ new_count new + 0
    count = new_count-set new step.signal there.0 Endless there.1

    endless : (j : ℕ) (x : Step) → slice_get way j ≡ Some x → j < i + 1 → (x.signal ≡ step.signal) ⊎ (x.signal ≢ step.signal) → (j ≡ i) ⊎ (j ≢ i) → slice_get (set new step.signal Endless) x.signal ≡ Some Endless
    endless j x h m (inl e) same = subst (λ z. slice_get (set new step.signal Endless) z ≡ Some Endless) (sym e) (set_same new step.signal there.0 Endless there.1)
    endless j x h m (inr n) (inl e) = absurd (n (ap (λ (u : Step). u.signal) (one_at way i x step (subst (λ z. slice_get way z ≡ Some x) e h) at)))
    endless j x h m (inr n) (inr d) = set_other new step.signal x.signal Endless Endless n (g.endless j x (omega (arith, m, d)) h)

    kept : (s : ℕ) (st : State) → (s ≡ step.signal) ⊎ (s ≢ step.signal) → (slice_get new s ≡ Some st) ⊎ ((i : ℕ) × (x : Step) × (slice_get way i ≡ Some x) × (x.signal ≡ s)) →
        (slice_get (set new step.signal Endless) s ≡ Some st) ⊎ ((i : ℕ) × (x : Step) × (slice_get way i ≡ Some x) × (x.signal ≡ s))
    kept s st (inl e) was = inr (i, step, at, sym e)
    kept s st (inr n) (inl h) = inl (set_other new step.signal s st Endless n h)
    kept s st (inr n) (inr x) = inr x

    from : (s : ℕ) (st : State) → ((s ≡ step.signal) × (Endless ≡ st)) ⊎ ((s ≢ step.signal) × (slice_get new s ≡ Some st)) → (slice_get old s ≡ Some st) ⊎ (st ≡ Endless)
    from s st (inl x) = inr (sym x.1)
    from s st (inr x) = g.from s st x.1

pub later_same : (states : List State) → IsLater states states
later_same states = record { size = refl; news = λ s h. h; removed = record { stay = λ s h. h; were = λ s h. h } }

pub later_after : {a b c : List State} → IsLater a b → IsLater b c → IsLater a c
later_after x y = record {
  size = y.size ∙ x.size;
  news = λ s h. x.news s (y.news s h);
  removed = record { stay = λ s h. y.removed.stay s (x.removed.stay s h); were = λ s h. x.removed.were s (y.removed.were s h) };
}

new_count-le : (states : List State) → new_count states ≤ length states
new_count-le [] = omega arith
new_count-le (st ∷ states) = let e = sum_by-cons is_new st states in let l = new_count-le states in omega (arith, e, l, one st)
  where
    one : (st : State) → is_new st ≤ 1
    one New = omega arith
    one Open = omega arith
    one (Known d) = omega arith
    one Endless = omega arith
    one Removed = omega arith

-- the first way is empty
pub first_way : (nodes : List Node) (states : List State) → length states ≡ length nodes → ((s : ℕ) (st : State) → slice_get states s ≡ Some st → IsFirst st) → IsWay nodes states []
first_way nodes states size first = record {
  table = record { size = size; right = λ s node st at h. right node st (first s st h) };
  steps = λ i step h. absurd (none i step h);
  leads = λ i a b h k. absurd (none i a h);
  once = λ i j a b h k e. absurd (none i a h);
  holds_open = λ s h. absurd (first s Open h);
  room = omega (arith, few, size);
  low = λ s d h. omega (arith, few, size, zero_depth d h.0 (first s h.0 h.1) h.2);
}
  where
    none : (i : ℕ) (step : Step) → slice_get [] i ≡ Some step → ⊥
    none i step h = let l = slice_get_within [] i step h in omega (arith, l)

    right : (node : Node) (st : State) → IsFirst st → IsRight states node st
    right node New f = tt
    right node Open f = tt
    right node (Known d) f = absurd f
    right node Endless f = absurd f
    right node Removed f = tt

    zero_depth : (d : ℕ) (st : State) → IsFirst st → depth_of st ≡ Some d → d ≡ 0
    zero_depth d New f e = absurd (none_some d e)
    zero_depth d Open f e = absurd f
    zero_depth d (Known x) f e = absurd f
    zero_depth d Endless f e = absurd f
    zero_depth d Removed f e = cc

    few : new_count states ≤ length states
    few = new_count-le states

-- a table in which nothing is new and the way is empty
pub way_ends : (nodes : List Node) (states : List State) → IsWay nodes states [] → ((s : ℕ) → slice_get states s ≡ Some New → ⊥) → IsSettled nodes states
way_ends nodes states w old = record { table = w.table; final = λ s st h. final s st h }
  where
    final : (s : ℕ) (st : State) → slice_get states s ≡ Some st → IsFinal st
    final s New h = old s h
    final s Open h = let x = w.holds_open s h in let l = slice_get_within [] x.0 x.1 x.2 in omega (arith, l)
    final s (Known d) h = tt
    final s Endless h = tt
    final s Removed h = tt

pub way_along : (nodes : List Node) {states states' : List State} {way way' : List Step} → states' ≡ states → way' ≡ way → IsWay nodes states way → IsWay nodes states' way'
way_along nodes {states} {states'} {way} {way'} p q w = subst (λ z. IsWay nodes states' z) (sym q) (subst (λ z. IsWay nodes z way) (sym p) w)

-- what is known of the last step
pub last_step : (nodes : List Node) (states : List State) (way : List Step) (step : Step) → IsWay nodes states (way ++ step ∷ []) → IsStep nodes states step
last_step nodes states way step w = w.steps (length way) step (slice_get-push way step (length way) refl)

pub last_passed : (nodes : List Node) (states : List State) (step : Step) → IsStep nodes states step → (node : Node) → slice_get nodes step.signal ≡ Some node →
    (k : ℕ) (r : Signal) → k < step.read → slice_get node.reads k ≡ Some r → (e : ℕ) × HasDepth states r.0 e
last_passed nodes states step s node at k r l h =
    let same : s.node ≡ node = one_at nodes step.signal s.node node s.here at in
    s.passed k r l (subst (λ (z : Node). slice_get z.reads k ≡ Some r) (sym same) h)

-- where a way ends with a step that stands at a signal, that step leads there
pub last_leads : (nodes : List Node) (way way' : List Step) (b : Step) (node : Node) (r : Signal) (signal : ℕ) → way' ≡ way ++ b ∷ [] → slice_get nodes b.signal ≡ Some node → slice_get node.reads b.read ≡ Some r → r.0 ≡ signal →
    (a : Step) (i : ℕ) → i + 1 ≡ length way' → slice_get way' i ≡ Some a → Leads nodes a (record { signal = signal; read = 0 })
last_leads nodes way way' b node r signal e at reads is a i l h = go (slice_get-push_cases way b i a (subst (λ z. slice_get z i ≡ Some a) e h))
  where
    go : (slice_get way i ≡ Some a) ⊎ ((i ≡ length way) × (b ≡ a)) → Leads nodes a (record { signal = signal; read = 0 })
    go (inl k) = absurd (let m = slice_get_within way i a k in omega (arith, m, l, ap length e, length-push way b))
    go (inr k) = λ node' at'.
        let same : node ≡ node' = one_at nodes b.signal node node' at (subst (λ (z : Step). slice_get nodes z.signal ≡ Some node') (sym k.1) at') in
        (r, subst (λ (z : Node). slice_get z.reads a.read ≡ Some r) same (subst (λ (z : Step). slice_get node.reads z.read ≡ Some r) k.1 reads), is)
