-- Both circuits, side by side: no latch is there, so the root is the one event node.
use Rattle.std.proofs.Common.{◌≡◌, ◌≢◌, ◌∙◌, ℕ, zero, suc, ◌<◌, ◌≤◌, Bool, true, false, List, [], ◌∷◌, ◌++◌, length, slice_get, Option, Some, None, refl, sym, ap, subst, arith, inl, inr}
use Rattle.std.specs.Prelude.{◌⊎◌, codes}
use Rattle.std.specs.List.{AllPairs, Contains, filter}
use Rattle.std.proofs.lemmas.List.Elements.{All-nil, All-cons}
use Rattle.std.proofs.lemmas.List.Kept.{AllPairs-cons}
use Rattle.std.proofs.lemmas.Option.{none-some, same_Some, slice_get_within}
use Rattle.circuit_theory.specs.declared.Mode.TheVariants.{Event}
use Rattle.circuit_theory.specs.Agree.{cut, IsMinimalCut}
use Rattle.circuit_theory.specs.Circuit.{Circuit, Equation, Gate, Latch, Port as port_equation, IsLatch, Reads}
use Rattle.circuit_theory.specs.Depth.{ChainFrom, IsDepth, LatchChain, LatchPath}
use Rattle.circuit_theory.specs.Interface.{AreNumbersOf}
use Rattle.circuit_theory.specs.Joined.{Either, Left, Right}
use Rattle.circuit_theory.specs.Run.{IsEnabled}
use Rattle.circuit_theory.specs.Sizes.{WeighsAt}
use Rattle.circuit_theory.proofs.Lists.{Contains-filter, Contains-head, Contains-map, Contains-map_from, Contains-tail, of_at, only}
use Rattle.circuit_theory.specs.EventFits.{ReachesAlways}
use Rattle.circuit_theory.specs.EventFrames.{IsEventSize}
use Rattle.circuit_theory.specs.EventSizes.{EventVisits, IsEventWeight, Start, WeighedAtNode}
use Rattle.circuit_theory.specs.EventTotals.{IsNodesWithin, StartLatches}
use Rattle.circuit_theory.specs.Frame.{EventSide, ConeLatches, IsNode, ReachedAt}
use Rattle.flat_net.specs.declared.parts.Port.{Port}
use Rattle.flat_net.specs.Cut.{IsCut}
use Rattle.flat_net.specs.View.{NetView, circuit_of, is_read, ports_of}
use Rattle.sec_setup.specs.Cuts.{AreCutAt}
use Rattle.sec_setup.specs.Setup.{AreColumns}
use Rattle.edbf_unfold.specs.class_queries.Enables.{both_of}
use Rattle.event_nodes.specs.View.{EventCircuitView, Enabled, side_of}
use Rattle.event_setup.specs.Recovered.{AreKnown}
use Rattle.event_setup.specs.Choosing.{HaveNoCycles}
use Rattle.event_setup.specs.event_meaning.event_names.event_fits.Circuits.{AreReached, IsReadyCircuit}
use Rattle.event_setup.specs.event_meaning.event_names.event_fits.Totals.{IsMapMade, IsWithinWith}
use Rattle.premise_rows.specs.event_outcome_samples.Different.{shows_a, shows_b, a_events, b_events, y_pair}
use Rattle.premise_rows.proofs.event_outcome_samples.Nets.{both_names, left_sound, nothing, right_sound}

-- a circuit without equations has no latch, no cycle and no depth
module _ {P : Type 0} (c : Circuit P) (bare : c.equations ≡ []) where
  pub no_latch : (name : List ℕ) (u next : P) → IsLatch c name u next → ⊥
  no_latch name u next h = nothing (Latch name u next) (subst (λ (es : List (Equation P)). Contains es (Latch name u next)) bare h)

  pub no_reading : (p q : P) → Reads c p q → ⊥
  no_reading p q (Reads.by_gate {fanins = fanins} {cover = cover} eq h) = nothing (Gate p fanins cover) (subst (λ (es : List (Equation P)). Contains es (Gate p fanins cover)) bare eq)
  no_reading p q (Reads.by_port eq) = nothing (port_equation p q) (subst (λ (es : List (Equation P)). Contains es (port_equation p q)) bare eq)

  pub no_path : {enabled : P → Type 0} {removed : List (List ℕ)} {u v : P} → LatchPath c enabled removed u v → ⊥
  no_path {u = u} (LatchPath.edge e) = no_latch e.name u e.next e.latch
  no_path {u = u} (LatchPath.step e rest) = no_latch e.name u e.next e.latch

  pub shallow : (enabled : P → Type 0) (p : P) → IsDepth c enabled p 0
  shallow enabled p = record { reached = inl refl; greatest = greatest }
    where
      chain : {u : P} {n : ℕ} → LatchChain c enabled u n → ⊥
      chain {u = u} (LatchChain.last {next = next} {name = name} latch) = no_latch name u next latch
      chain {u = u} (LatchChain.more e rest) = no_latch e.name u e.next e.latch

      greatest : (n : ℕ) → ChainFrom c enabled p n → n ≤ 0
      greatest n (inl e) = omega (arith, e)
      greatest n (inr x) = absurd (chain x.2)

abbrev pub both : EventSide (Either ℕ ℕ)
both = both_of a_events b_events

abbrev pub On : Either ℕ ℕ → Type 0
On = IsEnabled both.circuit

pub no_both : (name : List ℕ) (u next : Either ℕ ℕ) → IsLatch both.circuit name u next → ⊥
no_both = no_latch both.circuit refl

-- nothing is reached
pub unreached : (start : Either ℕ ℕ → Type 0) → ((v : Either ℕ ℕ) → start v → ⊥) → (node : List ℕ) (v : Either ℕ ℕ) → ReachedAt both On start node v → ⊥
unreached start none [] v h = none v h
unreached start none (k ∷ node) v h = unreached start none node h.0 h.1

pub no_cone : (p v : Either ℕ ℕ) → ConeLatches both.circuit p v → ⊥
no_cone p v h = no_both h.0 v h.1 h.2

pub always : (p : Either ℕ ℕ) → ReachesAlways both p
always p node u h = absurd (unreached (ConeLatches both.circuit p) (no_cone p) node u h)

-- so the root is the one node
pub root : (start : Either ℕ ℕ → Type 0) → ((v : Either ℕ ℕ) → start v → ⊥) → (node : List ℕ) → IsNode both On start node → Contains ([] ∷ []) node
root start none [] h = Contains-head [] []
root start none (k ∷ node) h = absurd (unreached start none node h.0 h.1)

pub one_node : AllPairs (λ (m n : List ℕ). m ≢ n) ([] ∷ [])
one_node = λ i j d l h. absurd (omega (arith, l, h))

abbrev PairLatches : Either ℕ ℕ → Type 0
PairLatches v = ConeLatches both.circuit (Left 0) v ⊎ ConeLatches both.circuit (Right 1) v

pub size : IsEventSize both (Left 0) (Right 1) 1
size = record { nodes = [] ∷ []; distinct = one_node; exactly = λ node. ((λ h. subst (IsNode both On PairLatches) (only [] node h) tt), root PairLatches none node); number = refl }
  where
    none : (v : Either ℕ ℕ) → PairLatches v → ⊥
    none v (inl h) = no_cone (Left 0) v h
    none v (inr h) = no_cone (Right 1) v h

-- each input has its place as its number
at_own : (k : ℕ) → k < 2 → slice_get (0 ∷ 1 ∷ []) k ≡ Some k
at_own zero l = refl
at_own (suc zero) l = refl
at_own (suc (suc k)) l = absurd (omega (arith, l))

own_number : (i x : ℕ) → slice_get (0 ∷ 1 ∷ []) i ≡ Some x → i ≡ x
own_number i x h = same_Some i x (sym (at_own i (slice_get_within (0 ∷ 1 ∷ []) i x h)) ∙ h)

distinct_numbers : (i j x : ℕ) → slice_get (0 ∷ 1 ∷ []) i ≡ Some x → slice_get (0 ∷ 1 ∷ []) j ≡ Some x → i ≡ j
distinct_numbers i j x h k = own_number i x h ∙ sym (own_number j x k)

abbrev pub names : List (List ℕ)
names = codes "a" ∷ codes "b" ∷ []

pub numbers : AreNumbersOf names names (0 ∷ 1 ∷ []) (0 ∷ 1 ∷ [])
numbers = record {
  each = refl;
  distinct = AllPairs-cons (λ (i j : ℕ). i ≢ j) 0 (1 ∷ []) (All-cons (λ (j : ℕ). 0 ≢ j) 1 [] (λ e. omega (arith, e)) (All-nil (λ (j : ℕ). 0 ≢ j))) (λ i j d l h. absurd (omega (arith, l, h)));
  common = λ k i name own shared. (
      let e : k ≡ i = both_names k i name own shared in
      subst (λ (j : ℕ). slice_get (0 ∷ 1 ∷ []) k ≡ Some j) e (at_own k (slice_get_within names k name own)));
  left_out = λ k i name own foreign number. absurd (foreign (of_at names k name own));
}

-- what is read is an input
read_input : (n : NetView) (name : List ℕ) → Contains (ports_of n).read name → Contains (ports_of n).inputs name
read_input n name h =
    let p = Contains-map_from (λ (port : Port). port.name) (filter (λ (port : Port). is_read n port.signal) n.inputs) name h in
    subst (Contains (ports_of n).inputs) p.2 (Contains-map (λ (port : Port). port.name) n.inputs p.0 (Contains-filter (λ (port : Port). is_read n port.signal) n.inputs p.0 p.1))

left_columns : AreColumns shows_a names (0 ∷ 1 ∷ []) (0 ∷ 1 ∷ [])
left_columns = record { numbers = numbers; read = read_input shows_a }

right_columns : AreColumns shows_b names (0 ∷ 1 ∷ []) (0 ∷ 1 ∷ [])
right_columns = record { numbers = numbers; read = read_input shows_b }

-- no latch is enabled, and none lies on a cycle
pub left_ready : IsReadyCircuit a_events
left_ready = record {
  sound = left_sound;
  marked = record { marks = record { each = refl; exactly = λ j l bit h k. absurd (none-some l h) }; each_order = refl; order_once = distinct_numbers; each_class = refl };
  depths = λ name u next latch. absurd (no_latch (circuit_of shows_a) refl name u next latch);
}

pub right_ready : IsReadyCircuit b_events
right_ready = record {
  sound = right_sound;
  marked = record { marks = record { each = refl; exactly = λ j l bit h k. absurd (none-some l h) }; each_order = refl; order_once = distinct_numbers; each_class = refl };
  depths = λ name u next latch. absurd (no_latch (circuit_of shows_b) refl name u next latch);
}

minimal : IsMinimalCut Event (circuit_of shows_a) (circuit_of shows_b) []
minimal = record {
  common = λ name h. absurd (nothing name h);
  left_free = λ cycle. no_path (circuit_of shows_a) refl cycle.1;
  right_free = λ cycle. no_path (circuit_of shows_b) refl cycle.1;
  needed = λ i l. absurd (omega (arith, l));
}

left_uncut : IsCut shows_a shows_a []
left_uncut = record { inputs = refl; outputs = refl; latches = refl; gates = refl; covers = refl; names = refl; clock = refl; size = refl }

right_uncut : IsCut shows_b shows_b []
right_uncut = record { inputs = refl; outputs = refl; latches = refl; gates = refl; covers = refl; names = refl; clock = refl; size = refl }

are_cut : AreCutAt shows_a shows_b [] shows_a shows_b
unfolding cut
are_cut = record {
  left = [];
  right = [];
  in_order = λ i j d l h. absurd (omega (arith, h));
  left_within = All-nil (λ (j : ℕ). j < 0);
  right_within = All-nil (λ (j : ℕ). j < 0);
  left_names = refl;
  right_names = refl;
  left_cut = left_uncut;
  right_cut = right_uncut;
  left_circuit = record { inputs = refl; outputs = refl; equations = refl };
  right_circuit = record { inputs = refl; outputs = refl; equations = refl };
}

known : (n : NetView) → n.latches ≡ [] → AreKnown n
known n none = record {
  kinds = [];
  are = record { each = ap length (sym none); right = λ j l k h g. absurd (none-some k g) };
  light = λ j within self. absurd (let zero_latches : length n.latches ≡ 0 = ap length none in omega (arith, within, zero_latches));
}

no_cycles : (expose : Bool) → HaveNoCycles shows_a shows_b expose
no_cycles false = ((λ cycle. no_path (circuit_of shows_a) refl cycle.1), (λ cycle. no_path (circuit_of shows_b) refl cycle.1))
no_cycles true = ((λ cycle. no_path (circuit_of shows_a) refl cycle.1), (λ cycle. no_path (circuit_of shows_b) refl cycle.1))

pub reached : (expose : Bool) → AreReached shows_a shows_b expose [] a_events b_events
reached expose = record {
  left_known = known shows_a refl;
  right_known = known shows_b refl;
  no_cycles = no_cycles expose;
  circuits = record { minimal = minimal; closed = λ e. refl; are_cut = are_cut; left_ready = left_ready; right_ready = right_ready; left_columns = left_columns; right_columns = right_columns };
}

-- the class map has no latch
pub no_split : {X : Type 0} (before after : List X) (v : X) → [] ≡ before ++ v ∷ after → ⊥
no_split [] after v e = cc
no_split (x ∷ before) after v e = cc

abbrev pub made : IsMapMade a_events b_events
made = record {
  map = record {
    numbered = refl;
    order = [];
    is_order = record { all = λ u on. absurd (no_both on.name u on.next on.latch); enabled = λ u h. absurd (nothing u h); in_order = λ i j d l h. absurd (omega (arith, h)) };
    is_map = record { plain = λ name u next latch off. absurd (no_both name u next latch); each = λ before after v e. absurd (no_split before after v e) };
  };
  latches = omega arith;
  few = omega arith;
  starts = [];
  are = record { enables = []; each = tt; are = refl };
  lefts = [];
  rights = [];
  both = record { left = λ x h. absurd (nothing x h); right = λ x h. absurd (nothing x h); all = λ y h. absurd (nothing y h) };
}

-- each circuit visits the one input that it shows
module _ (e : EventCircuitView) (bare : (circuit_of e.net).equations ≡ []) (p : ℕ) (shown : WeighsAt (circuit_of e.net) p 1) where
  abbrev start : Start ℕ
  start = record { place = p; left_out = None }

  abbrev weighed : WeighedAtNode ℕ
  weighed = record { place = p; node = []; weight = 1 }

  visited : {out : Option ℕ} {q : ℕ} {node : List ℕ} → EventVisits (side_of e) (Enabled e) (start ∷ []) out q node → (p ≡ q) × ([] ≡ node)
  visited (EventVisits.start {s = s} h) = (ap (λ (x : Start ℕ). x.place) (only start s h), refl)
  visited (EventVisits.reads {q = q} {r = r} before reads) = absurd (no_reading (circuit_of e.net) bare q r reads)
  visited (EventVisits.plain {q = q} {next = next} {name = name} before other latch off) = absurd (no_latch (circuit_of e.net) bare name q next latch)
  visited (EventVisits.held {q = q} {next = next} {name = name} before other latch on) = absurd (no_latch (circuit_of e.net) bare name q next latch)

  pub weight_is : IsEventWeight (side_of e) (Enabled e) (start ∷ []) 1
  weight_is = record {
    places = weighed ∷ [];
    distinct = λ i j d l h. absurd (omega (arith, l, h));
    weighed = λ x h. subst (λ (y : WeighedAtNode ℕ). WeighsAt (circuit_of e.net) y.place y.weight) (only weighed x h) shown;
    met = λ q node. (there q node, back q node);
    total = refl;
  }
    where
      there : (q : ℕ) (node : List ℕ) → ((w : ℕ) × Contains (weighed ∷ []) (record { place = q; node = node; weight = w })) → (out : Option ℕ) × EventVisits (side_of e) (Enabled e) (start ∷ []) out q node
      there q node f =
          let same = only weighed (record { place = q; node = node; weight = f.0 }) f.1 in
          (None, subst (λ (x : WeighedAtNode ℕ). EventVisits (side_of e) (Enabled e) (start ∷ []) None x.place x.node) same (EventVisits.start (Contains-head start [])))

      back : (q : ℕ) (node : List ℕ) → ((out : Option ℕ) × EventVisits (side_of e) (Enabled e) (start ∷ []) out q node) → (w : ℕ) × Contains (weighed ∷ []) (record { place = q; node = node; weight = w })
      back q node v =
          let at = visited v.1 in
          (1, subst (λ (z : ℕ). Contains (weighed ∷ []) (record { place = z; node = node; weight = 1 })) at.0 (subst (λ (m : List ℕ). Contains (weighed ∷ []) (record { place = p; node = m; weight = 1 })) at.1 (Contains-head weighed [])))

few_nodes : (starts : List (Start (Either ℕ ℕ))) → IsNodesWithin both starts 10000
few_nodes starts = record { nodes = [] ∷ []; all = root (StartLatches both starts) (λ v h. no_cone h.0.place v h.2); total = omega arith }

pub within : IsWithinWith a_events b_events made (y_pair ∷ []) (y_pair ∷ [])
within = record {
  few = few_nodes _;
  left = 1;
  left_is = weight_is a_events refl 0 (WeighsAt.input (codes "a", Contains-head (record { name = codes "a"; place = 0 }) (record { name = codes "b"; place = 1 } ∷ [])));
  left_small = omega arith;
  right = 1;
  right_is = weight_is b_events refl 1 (WeighsAt.input (codes "b", Contains-tail (record { name = codes "a"; place = 0 }) (record { name = codes "b"; place = 1 }) (record { name = codes "b"; place = 1 } ∷ []) (Contains-head (record { name = codes "b"; place = 1 }) [])));
  right_small = omega arith;
}
