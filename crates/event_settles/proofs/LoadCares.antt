-- Whether a latch has loaded in some frame, by its event function over a graph of its own.
use Rattle.std.proofs.Common.{◌≡◌, ◌∙◌, ◌+◌, ◌<◌, ◌≤◌, ℕ, max, true, false, List, [], ◌∷◌, length, get_or, Some, Result, Ok, Err, refl, sym, ap, subst, arith, inl, inr}
use Rattle.std.specs.Prelude.{◌⊎◌, IfOk, OnOk, Option, None, slice_index_or}
use Rattle.std.specs.List.{Contains, fold}
use Rattle.std.proofs.lemmas.List.Elements.{All-contains}
use Rattle.std.proofs.lemmas.List.{get_or_default}
use Rattle.std.proofs.lemmas.Option.{slice_get-get_or, slice_get_within}
use Rattle.circuit_theory.specs.declared.Side.{Side}
use Rattle.circuit_theory.specs.declared.Side.TheVariants.{A, B}
use Rattle.circuit_theory.specs.Circuit.{IsLatch}
use Rattle.circuit_theory.specs.Joined.{Either, Left, Right, moved}
use Rattle.circuit_theory.proofs.Lists.{Contains-head, Contains-map, Contains-tail, length-map}
use Rattle.std.proofs.lemmas.List.Elements.{Contains-append_left, Contains-append_right}
use Rattle.circuit_theory.specs.Classes.{HasClasses, IsFounder, classes_of}
use Rattle.circuit_theory.specs.Frame.{EventSide}
use Rattle.flat_net.specs.Cut.{latch_at, no_latch}
use Rattle.flat_net.specs.Sound.{IsSound}
use Rattle.flat_net.specs.declared.parts.Driver.TheVariants as driver
use Rattle.flat_net.specs.declared.parts.LatchAt.{LatchAt}
use Rattle.flat_net.specs.View.{NetView, circuit_of, equation_of_latch}
use Rattle.flat_net.proofs.Nets.{latch_stands}
use Rattle.sec_base.specs.declared.basics.Tag.{Tag}
use Rattle.obligations.specs.outcome.Query.{Query}
use Rattle.obligations.specs.outcome.Queries.{IsQuery}
use Rattle.event_nodes.specs.Nodes.{EventGraphView, IsEventGraph, named_places, path_of}
use Rattle.event_nodes.specs.View.{EventCircuitView}
use Rattle.event_nodes.specs.Visited.{CounterView}
use Rattle.event_nodes.specs.declared.error.EventUnfoldError.{EventUnfoldError}
use Rattle.event_nodes.specs.declared.error.EventUnfoldError.TheVariants as unfold_error
use Rattle.edbf_unfold.specs.class_queries.Laws.{AreKept}
use Rattle.edbf_unfold.specs.event_literals.event_walk.Walk.{HasCountedStart, IsCounting}
use Rattle.class_search.specs.Comparing.{IsReadyEnable}
use Rattle.class_search.specs.event_order.Order.{IsTagOf, place_of}
use Rattle.class_search.specs.event_variables.Laws.{IsSignalTree}
use Rattle.class_search.specs.event_variables.Variables.{variable_of, variables_of}
use Rattle.class_search.proofs.Queries.{always_query}
use Rattle.class_search.proofs.event_variables.Named.{named_distinct}
use Rattle.event_classes.specs.declared.event_functions.signals.SignalFunction.{SignalFunction}
use Rattle.event_classes.specs.event_functions.Functions.{IsFunctionOf, signal_start}
use Rattle.event_classes.specs.event_functions.Refused.{IsRefusal}
use Rattle.event_form.specs.event_agreement.event_pairs.Functions.{IsEventFunction}
use Rattle.event_form.specs.event_agreement.pair_events.Counted.{AreTooMany, IsRefusedBy, IsTooLarge}
use Rattle.event_form.specs.event_agreement.pair_events.View.{EventsView, IsEvents, circuit_at, side_of_both, signal_at}
use Rattle.event_form.proofs.event_agreement.FrameBits.{bits_take_frame}
use Rattle.event_form.proofs.event_agreement.pair_events.Unfolding.{left_is_function, left_is_refused, right_is_function, right_is_refused}
use Rattle.event_form.proofs.event_findings.unshown_pairs.Occurring.{class_low}
use Rattle.event_form.proofs.event_findings.unshown_pairs.class_events.Begin.{begins}
use Rattle.event_settles.specs.declared.cares.Care.{Care}
use Rattle.event_settles.specs.declared.cares.Care.TheVariants as care
use Rattle.event_settles.specs.declared.cares.IdleLatch.{IdleLatch}
use Rattle.class_search.specs.class_separations.Apart.{IsSeparationBy}
use Rattle.class_search.specs.declared.class_separations.apart.Apart.{Apart}
use Rattle.event_form.specs.event_findings.unshown_pairs.class_events.Separated.{TellsClassesApart}
use Rattle.event_settles.specs.Idle.{HasLoaded, IsIdle, IsNamedAs, IsTooLargeAlone, LatchIs, MayLoad, signal_of}
use Rattle.event_settles.specs.Deciding.{CareDecides}
use Rattle.event_settles.proofs.Caring.{AsksCare, care_fits}

-- the query of a latch's care
abbrev pub load_query : SignalFunction → Query
load_query f = record { left = f.value; right = record { 0 = 1 }; care = f.care; vars = f.vars }

pub is_load_query : (w : EventGraphView) (is : IsEventGraph w) (f : SignalFunction) → IsReadyEnable w (record { value = f.value; care = f.care; vars = f.vars }) → IsQuery w.graph (load_query f)
is_load_query w is f ready = always_query w is (load_query f) (record { value = f.value; care = f.care; vars = f.vars }) ready refl refl refl refl

pub ready_function : (s : EventSide (Either ℕ ℕ)) (w : EventGraphView) (u : Either ℕ ℕ) (f : SignalFunction) → IsEventFunction s w u f → IsReadyEnable w (record { value = f.value; care = f.care; vars = f.vars })
ready_function s w u f k = record { value_within = k.value_within; care_within = k.care_within; in_order = k.in_order; covers = k.covers }

module _ (s : EventSide (Either ℕ ℕ)) (w : EventGraphView) (u : Either ℕ ℕ) (f : SignalFunction) (is : IsEventGraph w) (k : IsEventFunction s w u f) where
  asks : AsksCare (HasLoaded s u) (IsSignalTree s u) w.graph (named_places w) (load_query f)
  asks = record {
    graph = is.is_graph;
    asked = is_load_query w is f (ready_function s w u f k);
    distinct = named_distinct w is;
    variables = variables_of w f.vars;
    are_variables = k.are_variables;
    each = length-map (variable_of w) f.vars;
    named = λ v here. (
        let below : v < length w.places = All-contains (λ n. n < length w.places) f.vars v k.in_order.within here in
        let many = length-map {Y = ℕ × List ℕ} (λ (z : ℕ × ℕ). (z.0, path_of w.children z.1)) w.places in
        (get_or (named_places w) v (0, []), slice_get-get_or (named_places w) v (0, []) (omega (arith, below, many)), Contains-map (variable_of w) f.vars v here)
        );
    care_is = k.care_is;
    takes = λ bits. bits_take_frame w is f.vars bits k.in_order.within;
  }

  pub load_never : (conflicts : ℕ) (idle : CareDecides w.graph (load_query f) conflicts (care.Never None)) → LatchIs s conflicts u true
  load_never conflicts d = care_fits (HasLoaded s u) (IsSignalTree s u) w.graph (named_places w) (load_query f) asks conflicts (care.Never None) d

  pub load_other : (conflicts : ℕ) (c : Care) → ((idle : Option IdleLatch) → c ≡ care.Never idle → ⊥) → CareDecides w.graph (load_query f) conflicts c → LatchIs s conflicts u false
  load_other conflicts care.Met other d = inl (care_fits (HasLoaded s u) (IsSignalTree s u) w.graph (named_places w) (load_query f) asks conflicts care.Met d)
  load_other conflicts (care.Never idle) other d = absurd (other idle refl)
  load_other conflicts (care.Limit proof) other d = inr (inl (proof, care_fits (HasLoaded s u) (IsSignalTree s u) w.graph (named_places w) (load_query f) asks conflicts (care.Limit proof) d))

-- the signal's event function, made over a graph where nothing was made and counted before
module _ (e : EventsView) (is : IsEvents e) (kept : AreKept e.left e.right e.events) (g : EventGraphView) (none : CounterView) (ig : IsEventGraph g) (empty : g.children ≡ []) (zero_is : none ≡ record { places = []; weight = 0 })
    (w : EventGraphView) (iw : IsEventGraph w) (d : CounterView) (p : ℕ) (result : Result SignalFunction EventUnfoldError) where
  abbrev fresh : EventsView
  fresh = record e { events = g; left_count = none; right_count = none }

  fresh_events : IsEvents fresh
  fresh_events = record { classes = is.classes; number = is.number; depths = is.depths; left_depths = is.left_depths; right_depths = is.right_depths }

  fresh_kept : AreKept fresh.left fresh.right fresh.events
  fresh_kept = record { left_sound = kept.left_sound; right_sound = kept.right_sound; left = kept.left; right = kept.right; events = ig }

  abbrev pub MadeAt : EventCircuitView → Type 0
  MadeAt x = IfOk result (IsFunctionOf x w p) × OnOk result (HasCountedStart x (signal_start p) w.children none d) × IsCounting x (signal_start p) g.children w.children none d × IsRefusal x g.children w.children (signal_start p) none.places result

  abbrev Made : Side → Type 0
  Made side = MadeAt (circuit_at side e)

  pub alone_function : (side : Side) → Made side → IfOk result (IsEventFunction (side_of_both e) w (signal_at side p))
  alone_function A m = left_is_function fresh w d p result fresh_events fresh_kept iw m.0 m.1 m.2 m.3
  alone_function B m = right_is_function fresh w d p result fresh_events fresh_kept iw m.0 m.1 m.2 m.3

  alone_refused : (side : Side) → Made side → IsRefusedBy side p fresh result
  alone_refused A m = left_is_refused fresh w d p result fresh_events fresh_kept iw m.0 m.1 m.2 m.3
  alone_refused B m = right_is_refused fresh w d p result fresh_events fresh_kept iw m.0 m.1 m.2 m.3

  -- or it is too large
  pub alone_too_large : (side : Side) → Made side → (error : EventUnfoldError) → result ≡ Err error → (error ≡ unfold_error.NoMemory → ⊥) → IsTooLargeAlone (side_of_both e) (signal_at side p)
  alone_too_large side m error same other = record {
    side = side;
    signal = p;
    is = refl;
    events = fresh;
    same = refl;
    alone = begins fresh empty zero_is zero_is;
    over = by error same other;
  }
    where
      by : (x : EventUnfoldError) → result ≡ Err x → (x ≡ unfold_error.NoMemory → ⊥) → AreTooMany side p fresh ⊎ IsTooLarge side p fresh
      by unfold_error.TooManyEvents e other = inl ((alone_refused side m).many e)
      by unfold_error.TooLarge e other = inr ((alone_refused side m).large e)
      by unfold_error.NoMemory e other = absurd (other refl)

  -- where the circuit is the one of the side
  pub function_at : (side : Side) (x : EventCircuitView) → x ≡ circuit_at side e → MadeAt x → (f : SignalFunction) → result ≡ Ok f → IsEventFunction (side_of_both e) w (signal_at side p) f
  function_at side x same m f here = subst (λ (r : Result SignalFunction EventUnfoldError). IfOk r (IsEventFunction (side_of_both e) w (signal_at side p))) here (alone_function side (subst MadeAt same m))

  pub too_large_at : (side : Side) (x : EventCircuitView) → x ≡ circuit_at side e → MadeAt x → (error : EventUnfoldError) → result ≡ Err error → (error ≡ unfold_error.NoMemory → ⊥) → IsTooLargeAlone (side_of_both e) (signal_at side p)
  too_large_at side x same m = alone_too_large side (subst MadeAt same m)

-- the latch that a tag names
pub tag_within : (e : EventsView) (t : Tag) → IsTagOf e.left.net e.right.net t → t.latch < length (circuit_at t.side e).net.latches
tag_within e t h = go t.side t.latch h
  where
    go : (side : Side) (j : ℕ) → IsTagOf e.left.net e.right.net (record { side = side; latch = j }) → j < length (circuit_at side e).net.latches
    go A j h = h
    go B j h = h

pub tag_place : (e : EventsView) (t : Tag) → place_of e.left.net e.right.net t ≡ signal_of e t
tag_place e t = go t.side t.latch
  where
    go : (side : Side) (j : ℕ) → place_of e.left.net e.right.net (record { side = side; latch = j }) ≡ signal_of e (record { side = side; latch = j })
    go A j = refl
    go B j = refl

-- it stands in both circuits side by side
pub tag_latch : (e : EventsView) (t : Tag) → t.latch < length (circuit_at t.side e).net.latches → IsLatch (side_of_both e).circuit (latch_at (circuit_at t.side e).net t.latch).name (signal_of e t) (signal_at t.side (latch_at (circuit_at t.side e).net t.latch).next.0)
tag_latch e t h = go t.side t.latch h
  where
    go : (side : Side) (j : ℕ) → j < length (circuit_at side e).net.latches → IsLatch (side_of_both e).circuit (latch_at (circuit_at side e).net j).name (signal_at side (latch_at (circuit_at side e).net j).out.0) (signal_at side (latch_at (circuit_at side e).net j).next.0)
    go A j h =
        Contains-append_left _ _ _ (Contains-map (moved Left) (circuit_of e.left.net).equations (equation_of_latch (latch_at e.left.net j)) (latch_stands e.left.net j (latch_at e.left.net j) (slice_get-get_or e.left.net.latches j _ h)))
    go B j h =
        Contains-append_right _ _ _ (Contains-map (moved Right) (circuit_of e.right.net).equations (equation_of_latch (latch_at e.right.net j)) (latch_stands e.right.net j (latch_at e.right.net j) (slice_get-get_or e.right.net.latches j _ h)))

-- what tells a class from `always` has its first latch
first_latch : (e : EventsView) (class : ℕ) (x : Apart) (k : TellsClassesApart e 0 class x) → IsFounder (side_of_both e) k.classes.order class (signal_of e x.high)
first_latch e class x k = subst (IsFounder (side_of_both e) k.classes.order class) (tag_place e x.high) (go x.low k.apart.separates)
  where
    go : (low : Option Tag) → IsSeparationBy (side_of_both e) e.events (place_of e.left.net e.right.net) k.classes.order 0 class x low → IsFounder (side_of_both e) k.classes.order class (place_of e.left.net e.right.net x.high)
    go None h = h.3.founder_is
    go (Some t) h = absurd (omega (arith, h.0))

pub first_within : (e : EventsView) (class : ℕ) (x : Apart) → TellsClassesApart e 0 class x → x.high.latch < length (circuit_at x.high.side e).net.latches
first_within e class x k = tag_within e x.high k.names.high

-- of which is said what is said of the class
pub is_idle : (e : EventsView) (conflicts class : ℕ) (x : Apart) (k : TellsClassesApart e 0 class x) → 0 < class → (named : IdleLatch) → IsNamedAs e x.high named → LatchIs (side_of_both e) conflicts (signal_of e x.high) true → IsIdle (side_of_both e) named
is_idle e conflicts class x k above named same never =
    subst (IsIdle (side_of_both e)) (sym same) (record {
      class = class;
      above = above;
      classes = k.classes;
      signal = (latch_at (circuit_at x.high.side e).net x.high.latch).out.0;
      next = signal_at x.high.side (latch_at (circuit_at x.high.side e).net x.high.latch).next.0;
      named = tag_latch e x.high (first_within e class x k);
      first = first_latch e class x k;
      never = never;
    })

pub may_load : (e : EventsView) (conflicts class : ℕ) (x : Apart) (k : TellsClassesApart e 0 class x) → LatchIs (side_of_both e) conflicts (signal_of e x.high) false → MayLoad (side_of_both e) conflicts class
may_load e conflicts class x k may = record { classes = k.classes; latch = signal_of e x.high; first = first_latch e class x k; may = may }

-- one class more may load
pub may_next : (e : EventsView) (conflicts i : ℕ) → ((k : ℕ) → 0 < k → k ≤ i → MayLoad (side_of_both e) conflicts k) → MayLoad (side_of_both e) conflicts (i + 1) → (k : ℕ) → 0 < k → k ≤ i + 1 → MayLoad (side_of_both e) conflicts k
may_next e conflicts i before one k above low = go (either k (i + 1))
  where
    either : (m n : ℕ) → (m ≡ n) ⊎ ((m < n) ⊎ (n < m))
    either m n = grind arith

    go : (k ≡ i + 1) ⊎ ((k < i + 1) ⊎ (i + 1 < k)) → MayLoad (side_of_both e) conflicts k
    go (inl same) = subst (MayLoad (side_of_both e) conflicts) (sym same) one
    go (inr (inl less)) = before k above (omega (arith, less))
    go (inr (inr more)) = absurd (omega (arith, low, more))

-- the number of classes is that of the events
fold_least : {X : Type 0} (f : X → ℕ) (n bound : ℕ) (xs : List X) → n ≤ bound → ((x : X) → Contains xs x → f x ≤ bound) → fold (λ m x. max m (f x)) n xs ≤ bound
fold_least f n bound [] low each = low
fold_least f n bound (x ∷ xs) low each = fold_least f (max n (f x)) bound xs (let h = each x (Contains-head x xs) in omega (arith, low, h)) (λ y m. each y (Contains-tail x y xs m))

pub few_classes : (e : EventsView) → IsEvents e → (c : HasClasses (side_of_both e)) → classes_of (side_of_both e) c.order ≤ e.count
few_classes e is c =
    fold_least (side_of_both e).class 0 e.count c.order (omega arith)
    (λ u h. let l = c.is_order.enabled u h in let low = class_low (side_of_both e) is.classes l.name u l.next l.latch in omega (arith, low, is.number))

-- the latch at a position, whatever stands there where there is none
pub latch_is : (n : NetView) (ls : List LatchAt) (j : ℕ) (d : LatchAt) → ls ≡ n.latches → j < length n.latches → slice_index_or ls j d ≡ latch_at n j
latch_is n ls j d same h = ap (λ (xs : List LatchAt). slice_index_or xs j d) same ∙ get_or_default n.latches j d no_latch h

pub out_within : (n : NetView) → IsSound n → (j : ℕ) → j < length n.latches → (latch_at n j).out.0 < length n.drivers
out_within n sound j h = slice_get_within n.drivers (latch_at n j).out.0 (driver.Latch j) (sound.latches j (latch_at n j) (slice_get-get_or n.latches j no_latch h)).owner
