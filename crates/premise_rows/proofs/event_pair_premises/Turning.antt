-- With the latch that turns cut open all that the law asks is met, and so the circuits agree.
use Rattle.std.proofs.Common.{◌≡◌, ◌∙◌, ℕ, zero, suc, ◌<◌, ◌≤◌, Bool, true, false, not, List, [], ◌∷◌, slice_get, Some, refl, sym, ap, subst, arith, inl, inr}
use Rattle.std.specs.Prelude.{◌⊎◌, codes}
use Rattle.std.specs.List.{Contains}
use Rattle.std.proofs.lemmas.List.Elements.{All-contains, All-from_recursion}
use Rattle.std.proofs.lemmas.Option.{none-some, slice_get_within}
use Rattle.circuit_theory.specs.declared.Mode.TheVariants.{Event}
use Rattle.circuit_theory.specs.Agree.{cut, EnabledIn, IsPair, IsMinimalCut}
use Rattle.circuit_theory.specs.Circuit.{Circuit, Gate, Holds, IsLatch, Named, Reads, Reaches}
use Rattle.circuit_theory.specs.Cover.{Cover, cover_value}
use Rattle.circuit_theory.specs.Depth.{HasCycle, LatchPath, LatchReads, LatchesHaveDepths, without}
use Rattle.circuit_theory.specs.EventSizes.{EventVisits}
use Rattle.circuit_theory.specs.Frame.{EventUnfolds, EventUnfoldsAll}
use Rattle.circuit_theory.specs.Joined.{Either, Left, Right}
use Rattle.circuit_theory.specs.Net.{IsNet, HasDistinctNames}
use Rattle.circuit_theory.specs.Run.{ExtendsWith, IsEnabled}
use Rattle.circuit_theory.specs.Tree.{AreNumbered, Branch, Cons, IsInputNumber, Leaf, Nil}
use Rattle.circuit_theory.specs.Classes.{HasClasses}
use Rattle.circuit_theory.proofs.Lists.{Contains-head, only}
use Rattle.circuit_laws.proofs.JoinedParts.{joined_number_once, joined_single}
use Rattle.circuit_laws.proofs.event_laws.EventTrees.{one_event_tree}
use Rattle.flat_net.proofs.Nets.{sound_is_net}
use Rattle.event_form.specs.SignalFunction.{SignalFunction}
use Rattle.event_form.specs.event_agreement.event_pairs.Functions.{IsEventFunction}
use Rattle.circuit_laws.proofs.NetLaws.{net_can_put, net_value, net_value-extends}
use Rattle.base_tables.proofs.Appended.{distinct-push}
use Rattle.sec_base.specs.Cover.{IsCoverSound, IsCube, IsPlace}
use Rattle.flat_net.specs.declared.parts.Port.{Port}
use Rattle.flat_net.specs.declared.signals.Signal.{Signal}
use Rattle.flat_net.specs.Cut.{IsCutCircuit}
use Rattle.flat_net.specs.Sound.{Drives, IsGateOf, IsInputOf, IsSound}
use Rattle.flat_net.specs.View.{circuit_of}
use Rattle.event_nodes.specs.aig.Builds.{Builds}
use Rattle.event_nodes.specs.aig.Graph.{IsAbove, flip}
use Rattle.event_nodes.specs.aig.Node.{Node}
use Rattle.event_nodes.specs.aig.Node.TheVariants.{Constant, Input, And}
use Rattle.event_nodes.specs.aig.Rules.{place_lit, simple_and}
use Rattle.event_nodes.specs.Nodes.{IsEventGraph, named_places}
use Rattle.event_nodes.specs.View.{IsEventCircuit}
use Rattle.event_nodes.specs.Visited.{HoldsNodes}
use Rattle.edbf_unfold.specs.class_queries.Laws.{AreKept}
use Rattle.event_form.specs.event_agreement.Laws.{HasSameQuery}
use Rattle.event_form.specs.Functions.{IsFunctionOf, signal_start}
use Rattle.event_form.proofs.event_agreement.CutCircuits.{cut_queries_agree}
use Rattle.event_form.proofs.event_agreement.event_pairs.Growing.{one_literal}
use Rattle.event_form.proofs.event_agreement.event_pairs.Sides.{signals_are_both}
use Rattle.call_rows.specs.circuit_samples.event_samples.Samples.{not_cover}
use Rattle.call_rows.proofs.circuit_samples.Each.{each_at, each_latch}
use Rattle.call_rows.proofs.circuit_samples.NetTest.{net_test-sound}
use Rattle.premise_rows.specs.event_pair_premises.Turning.{turning, opened, off_cover, turns, turns_too, both_opened, at_turn, t_name, of_t, CutPairsMeetPremises, OneTreeMeetsPremises}
use Rattle.premise_rows.proofs.block_premises.TurningNets.{each, one_name}
use Rattle.premise_rows.proofs.event_outcome_samples.Nets.{nothing}
use Rattle.premise_rows.proofs.event_outcome_samples.Sides.{no_split}
use Rattle.premise_rows.proofs.event_pair_premises.Shown.{input_function, of_input, root_made}

-- each circuit, whatever rows say that the gate is the complement
module _ (cover : Cover) (wide : cover.width ≡ 1) (cover_sound : IsCoverSound cover) (turn : (b : Bool) → cover_value cover (b ∷ []) ≡ not b) where
  abbrev c : Circuit ℕ
  c = circuit_of (turning cover)

  is_net : IsNet c 2
  is_net = net_test-sound c 2 refl

  latch : IsLatch c (codes "t") 0 1
  latch = (1, omega arith, refl)

  latch_is : (name : List ℕ) (u next : ℕ) → IsLatch c name u next → (codes "t" ≡ name) × (0 ≡ u) × (1 ≡ next)
  latch_is name u next h = each_latch (λ m v to. (codes "t" ≡ m) × (0 ≡ v) × (1 ≡ to)) c.equations ((refl, refl, refl), tt) name u next h

  distinct : HasDistinctNames c
  distinct = record {
    inputs = λ name p q h k. absurd (omega (arith, h.1));
    latches = λ name u next v other l r. sym (latch_is name u next l).1 ∙ (latch_is name v other r).1;
    apart = λ name p u next h l. omega (arith, h.1);
  }

  -- it isn't enabled
  next_value : (bit : Bool) (x v : ℕ → Bool) → ExtendsWith c 0 bit x v → v 1 ≡ not bit
  next_value bit x v ex =
      let gate : v 1 ≡ cover_value cover (v 0 ∷ []) = All-contains (Holds v) c.equations (Gate 1 (0 ∷ []) cover) ex.meets (0, omega arith, refl) in
      gate ∙ (turn (v 0) ∙ ap not ex.put)

  not_enabled : IsEnabled c 0 → ⊥
  not_enabled en =
      let next_is : 1 ≡ en.next = (latch_is en.name 0 en.next en.latch).2 in
      let rises : low.0 1 ≡ true → high.0 1 ≡ true = λ e. ap high.0 next_is ∙ en.rises x low.0 high.0 low.1 high.1 (sym (ap low.0 next_is) ∙ e) in
      wrong (sym (next_value true x high.0 high.1) ∙ rises (next_value false x low.0 low.1))
    where
      x : ℕ → Bool
      x = net_value c (λ p. false)

      low : (y : ℕ → Bool) × ExtendsWith c 0 false x y
      low = net_can_put c 2 is_net x (codes "t") 0 1 false latch (net_value-extends c 2 is_net (λ p. false)).meets

      high : (y : ℕ → Bool) × ExtendsWith c 0 true x y
      high = net_can_put c 2 is_net x (codes "t") 0 1 true latch (net_value-extends c 2 is_net (λ p. false)).meets

      wrong : false ≡ true → ⊥
      wrong e = cc

  gone : {u v : ℕ} → LatchReads c (EnabledIn Event c) t_name u v → ⊥
  gone {u = u} e = e.kept (subst (Contains t_name) (latch_is e.name u e.next e.latch).0 (Contains-head (codes "t") []))

  first : {u v : ℕ} → LatchPath c (EnabledIn Event c) t_name u v → ⊥
  first (LatchPath.edge e) = gone e
  first (LatchPath.step e rest) = gone e

  free : HasCycle c (EnabledIn Event c) t_name → ⊥
  free cycle = first cycle.1

  cycle : HasCycle c (EnabledIn Event c) []
  cycle = (
    0,
    LatchPath.edge (record {
      name = codes "t";
      next = 1;
      latch = latch;
      kept = λ h. omega (arith, h.1);
      other_name = codes "t";
      other_next = 1;
      other = latch;
      other_kept = λ h. omega (arith, h.1);
      cone = (inr (codes "t", 1, latch), Reaches.there (Reads.by_gate {fanins = 0 ∷ []} (0, omega arith, refl) (0, omega arith, refl)) Reaches.here);
      no_self_edge = λ en e. not_enabled en;
    }),
  )

  is_cut : IsCutCircuit t_name c (circuit_of (opened cover).net)
  unfolding cut
  is_cut = record { inputs = refl; outputs = refl; equations = refl }

  -- as it is cut
  abbrev o : Circuit ℕ
  o = circuit_of (opened cover).net

  none : (name : List ℕ) (u next : ℕ) → IsLatch o name u next → ⊥
  none name u next h = each_latch (λ m v to. ⊥) o.equations tt name u next h

  sound : IsSound (opened cover).net
  sound = record {
    inputs = each (IsInputOf (opened cover).net) (opened cover).net.inputs (record { owner = refl; named = refl }, tt);
    gates = each (IsGateOf (opened cover).net) (opened cover).net.gates (record { owner = refl; above = All-from_recursion (λ (f : Signal). f.0 < 1) (record { 0 = 0 } ∷ []) (omega arith, tt); cover = cover; covered = refl; width = wide }, tt);
    ordered = λ i j g h less l r. absurd (let one : j < 1 = slice_get_within (opened cover).net.gates j h r in omega (arith, less, one));
    latches = λ j l h. absurd (none-some l h);
    drivers = each (Drives (opened cover).net) (opened cover).net.drivers ((_, refl, refl), ((_, refl, refl), tt));
    outputs = All-from_recursion (λ (port : Port). port.signal.0 < 2) (opened cover).net.outputs (omega arith, (omega arith, tt));
    covers = All-from_recursion IsCoverSound (cover ∷ []) (cover_sound, tt);
    named = refl;
    distinct = distinct-push (codes "t" ∷ []) (codes "n") (one_name (codes "t")) refl;
    few = omega arith;
    few_inputs = omega arith;
    few_gates = omega arith;
    few_latches = omega arith;
    few_covers = omega arith;
  }

  is_circuit : IsEventCircuit (opened cover)
  is_circuit = record {
    marks = record { each = refl; exactly = λ j l bit h k. absurd (none-some l h) };
    each_order = refl;
    order_once = λ i j x h k. (let a : i < 1 = slice_get_within (0 ∷ []) i x h in let b : j < 1 = slice_get_within (0 ∷ []) j x k in omega (arith, a, b));
    each_class = refl;
  }

  number : (q j : ℕ) → IsInputNumber o (0 ∷ []) q j → 0 ≡ j
  number q j (inl h) = h.1
  number q j (inr h) = absurd h

  y_function : IsFunctionOf (opened cover) at_turn 0 (of_input 0 2)
  y_function =
      input_function (opened cover) none 0 at_turn refl 0 0 2 0 (EventVisits.start (Contains-head (signal_start 0) [])) (inl (refl, refl)) (λ put q node seen j h. number q j h)
      (omega arith) refl (Leaf 0 []) (EventUnfolds.input (inl (refl, refl))) (0, refl, (1, refl, refl)) (omega arith) (omega arith)

  t_function : Builds at_turn.graph (named_places at_turn) (Branch cover (Cons (Leaf 0 []) Nil)) 3 → IsFunctionOf (opened cover) at_turn 1 (of_input 0 3)
  t_function builds =
      input_function (opened cover) none 1 at_turn refl 0 0 3 0
      (EventVisits.reads (EventVisits.start (Contains-head (signal_start 1) [])) (Reads.by_gate {fanins = 0 ∷ []} (0, omega arith, refl) (0, omega arith, refl))) (inl (refl, refl)) (λ put q node seen j h. number q j h)
      (omega arith) refl (Branch cover (Cons (Leaf 0 []) Nil)) (EventUnfolds.gate {fanins = 0 ∷ []} (0, omega arith, refl) (EventUnfoldsAll.more (EventUnfolds.input (inl (refl, refl))) EventUnfoldsAll.none)) builds (omega arith) (omega arith)

  pub nodes_made : (p : ℕ) → HoldsNodes (opened cover) at_turn.children (signal_start p)
  nodes_made p = root_made (opened cover) none p [] refl

-- the two covers
not_turns : (b : Bool) → cover_value not_cover (b ∷ []) ≡ not b
unfolding cover_value
not_turns true = refl
not_turns false = refl

off_turns : (b : Bool) → cover_value off_cover (b ∷ []) ≡ not b
unfolding cover_value
off_turns true = refl
off_turns false = refl

not_sound : IsCoverSound not_cover
not_sound = record { cubes = All-from_recursion (IsCube 1) (codes "0" ∷ []) ((refl, All-from_recursion IsPlace (codes "0") (inl refl, tt)), tt); empty_is_on = λ e. refl }

off_sound : IsCoverSound off_cover
off_sound = record { cubes = All-from_recursion (IsCube 1) (codes "1" ∷ []) ((refl, All-from_recursion IsPlace (codes "1") (inr (inl refl), tt)), tt); empty_is_on = λ e. absurd (some e) }
  where
    some : codes "1" ∷ [] ≡ [] → ⊥
    some e = cc

minimal : IsMinimalCut Event turns turns_too t_name
minimal = record {
  common = λ name h.
      let e = only (codes "t") name h in
      (0, 1, 0, 1, subst (λ m. IsLatch turns m 0 1) e (1, omega arith, refl), subst (λ m. IsLatch turns_too m 0 1) e (1, omega arith, refl));
  left_free = free not_cover refl not_sound not_turns;
  right_free = free off_cover refl off_sound off_turns;
  needed = needed;
}
  where
    needed : (i : ℕ) → i < 1 → HasCycle turns (EnabledIn Event turns) (without t_name i) ⊎ HasCycle turns_too (EnabledIn Event turns_too) (without t_name i)
    needed zero h = inl (cycle not_cover refl not_sound not_turns)
    needed (suc i) h = absurd (omega arith)

turn_kept : IsEventGraph at_turn
turn_kept = record {
  is_graph = record { constant = refl; ordered = each IsAbove at_turn.graph (tt, (tt, tt)); once = λ n m node h k. sym (place n node h) ∙ place m node k; few = omega arith };
  is_tree = λ k n class h. absurd (none-some (n, class) h);
  once = λ i j x h k. absurd (none-some x h);
  placed = All-from_recursion (λ (p : ℕ × ℕ). p.1 ≤ 0) at_turn.places (omega arith, tt);
  place_once = λ i j x h k. (let a : i < 1 = slice_get_within at_turn.places i x h in let b : j < 1 = slice_get_within at_turn.places j x k in omega (arith, a, b));
}
  where
    node_number : Node → ℕ
    node_number Constant = 0
    node_number (Input v) = 1
    node_number (And l r) = 2

    place : (n : ℕ) (node : Node) → slice_get at_turn.graph n ≡ Some node → node_number node ≡ n
    place = each (λ n (node : Node). node_number node ≡ n) at_turn.graph (refl, (refl, tt))

kept : AreKept (opened not_cover) (opened off_cover) at_turn
kept = record {
  left_sound = sound not_cover refl not_sound not_turns;
  right_sound = sound off_cover refl off_sound off_turns;
  left = is_circuit not_cover refl not_sound not_turns;
  right = is_circuit off_cover refl off_sound off_turns;
  events = turn_kept;
}

no_both : (name : List ℕ) (u next : Either ℕ ℕ) → IsLatch both_opened.circuit name u next → ⊥
no_both name u next h = each_latch (λ m v to. ⊥) both_opened.circuit.equations tt name u next h

classes : HasClasses both_opened
classes = record {
  numbered = refl;
  order = [];
  is_order = record { all = λ u on. absurd (no_both on.name u on.next on.latch); enabled = λ u h. absurd (nothing u h); in_order = λ i j d l h. absurd (omega (arith, h)) };
  is_map = record { plain = λ name u next latch off. absurd (no_both name u next latch); each = λ before after v e. absurd (no_split before after v e) };
}

depths : LatchesHaveDepths both_opened.circuit (IsEnabled both_opened.circuit)
depths name u next latch = absurd (no_both name u next latch)

place_is : (p i : ℕ) → ((0 ≡ p) × (0 ≡ i)) ⊎ ⊥ → 0 ≡ p
place_is p i (inl h) = h.0
place_is p i (inr h) = absurd h

numbered : AreNumbered (circuit_of (opened not_cover).net) (circuit_of (opened off_cover).net) (0 ∷ []) (0 ∷ [])
numbered = record {
  left_once = λ p q i h k. sym (place_is p i h) ∙ place_is q i k;
  right_once = λ p q i h k. sym (place_is p i h) ∙ place_is q i k;
  shared = λ p q i h k. (codes "t", named p (place_is p i h), named q (place_is q i k));
}
  where
    named : (p : ℕ) → 0 ≡ p → Contains (circuit_of (opened not_cover).net).inputs (record { name = codes "t"; place = p })
    named p e = subst (λ q. Contains (circuit_of (opened not_cover).net).inputs (record { name = codes "t"; place = q })) e (Contains-head (record { name = codes "t"; place = 0 }) [])

either : (v : ℕ) → Contains (0 ∷ []) v ⊎ Contains (0 ∷ []) v → Contains (0 ∷ []) v
either v (inl h) = h
either v (inr h) = h

left_y : IsEventFunction both_opened at_turn (Left 0) of_t
left_y = (signals_are_both (opened not_cover) (opened off_cover) at_turn kept).0 0 (of_input 0 2) (y_function not_cover refl not_sound not_turns) (nodes_made not_cover refl not_sound not_turns 0)

right_y : IsEventFunction both_opened at_turn (Right 0) of_t
right_y = (signals_are_both (opened not_cover) (opened off_cover) at_turn kept).1 0 (of_input 0 2) (y_function off_cover refl off_sound off_turns) (nodes_made off_cover refl off_sound off_turns 0)

-- the output, and what the latch takes over
y_pair : HasSameQuery both_opened at_turn (Left 0) (Right 0)
unfolding simple_and
y_pair = record {
  query = record { left = record { 0 = 2 }; right = record { 0 = 2 }; care = record { 0 = 1 }; vars = 0 ∷ [] };
  asks = record {
    left_function = of_input 0 2;
    right_function = of_input 0 2;
    left_is = left_y;
    right_is = right_y;
    left = refl;
    right = refl;
    care = refl;
    care_within = omega arith;
    vars = record { ordered = λ i j d l h. absurd (omega (arith, l, h)); exactly = λ v. (λ h. inl h, λ h. either v h) };
  };
  same = λ a h. refl;
}

t_pair : HasSameQuery both_opened at_turn (Left 1) (Right 1)
unfolding simple_and flip place_lit
t_pair = record {
  query = record { left = record { 0 = 3 }; right = record { 0 = 3 }; care = record { 0 = 1 }; vars = 0 ∷ [] };
  asks = record {
    left_function = of_input 0 3;
    right_function = of_input 0 3;
    left_is = (signals_are_both (opened not_cover) (opened off_cover) at_turn kept).0 1 (of_input 0 3) (t_function not_cover refl not_sound not_turns not_built) (nodes_made not_cover refl not_sound not_turns 1);
    right_is = (signals_are_both (opened not_cover) (opened off_cover) at_turn kept).1 1 (of_input 0 3) (t_function off_cover refl off_sound off_turns off_built) (nodes_made off_cover refl off_sound off_turns 1);
    left = refl;
    right = refl;
    care = refl;
    care_within = omega arith;
    vars = record { ordered = λ i j d l h. absurd (omega (arith, l, h)); exactly = λ v. (λ h. inl h, λ h. either v h) };
  };
  same = λ a h. refl;
}
  where
    not_built : Builds at_turn.graph (named_places at_turn) (Branch not_cover (Cons (Leaf 0 []) Nil)) 3
    not_built = (2 ∷ [], (2, [], (0, refl, (1, refl, refl)), refl, refl), (3, (3, (3, (3, refl, refl), (2, refl, refl)), refl), refl))

    off_built : Builds at_turn.graph (named_places at_turn) (Branch off_cover (Cons (Leaf 0 []) Nil)) 3
    off_built = (2 ∷ [], (2, [], (0, refl, (1, refl, refl)), refl, refl), (2, (2, (2, (2, refl, refl), (3, refl, refl)), refl), refl))

each_pair : (p q : ℕ) → IsPair t_name turns turns_too p q → HasSameQuery both_opened at_turn (Left p) (Right q)
each_pair p q (IsPair.nexts {name = name} {u = u} {v = v} h l r) =
    subst (λ k. HasSameQuery both_opened at_turn (Left k) (Right q)) (latch_is not_cover refl not_sound not_turns name u p l).2
    (subst (λ k. HasSameQuery both_opened at_turn (Left 1) (Right k)) (latch_is off_cover refl off_sound off_turns name v q r).2 t_pair)
each_pair p q (IsPair.outputs {name = name} l r) =
    subst (λ k. HasSameQuery both_opened at_turn (Left k) (Right q)) (output_is p l) (subst (λ k. HasSameQuery both_opened at_turn (Left 0) (Right k)) (output_is q r) y_pair)
  where
    output_is : (s : ℕ) → Contains turns.outputs (record { name = name; place = s }) → 0 ≡ s
    output_is s h = each_at (λ (n : Named ℕ). 0 ≡ n.place) turns.outputs (refl, tt) (record { name = name; place = s }) h

pub meet_premises : CutPairsMeetPremises
meet_premises = record {
  left_net = is_net not_cover refl not_sound not_turns;
  right_net = is_net off_cover refl off_sound off_turns;
  left_names = distinct not_cover refl not_sound not_turns;
  right_names = distinct off_cover refl off_sound off_turns;
  minimal = minimal;
  left_cut = is_cut not_cover refl not_sound not_turns;
  right_cut = is_cut off_cover refl off_sound off_turns;
  kept = kept;
  classes = classes;
  depths = depths;
  numbered = numbered;
  each_pair = each_pair;
  agree = cut_queries_agree turns turns_too 2 2 t_name (opened not_cover) (opened off_cover) at_turn (is_net not_cover refl not_sound not_turns) (is_net off_cover refl off_sound off_turns)
      (distinct not_cover refl not_sound not_turns) (distinct off_cover refl off_sound off_turns) minimal (is_cut not_cover refl not_sound not_turns) (is_cut off_cover refl off_sound off_turns) kept classes depths numbered each_pair;
}

-- both outputs have the tree of t
left_net : IsNet (circuit_of (opened not_cover).net) 2
left_net = sound_is_net (opened not_cover).net kept.left_sound

right_net : IsNet (circuit_of (opened off_cover).net) 2
right_net = sound_is_net (opened off_cover).net kept.right_sound

tree_is : (p : Either ℕ ℕ) (r : SignalFunction) (k : IsEventFunction both_opened at_turn p r) → IsInputNumber both_opened.circuit both_opened.order p 0 → k.tree ≡ Leaf 0 []
tree_is p r k h =
    one_event_tree both_opened (IsEnabled both_opened.circuit) (joined_single (circuit_of (opened not_cover).net) (circuit_of (opened off_cover).net) 2 2 left_net right_net)
    (λ q i j l m. joined_number_once (circuit_of (opened not_cover).net) (circuit_of (opened off_cover).net) 2 2 left_net right_net (0 ∷ []) (0 ∷ []) refl q i j l m) tt k.unfolds (EventUnfolds.input h)

pub one_tree_meets_premises : OneTreeMeetsPremises
one_tree_meets_premises = record {
  kept = kept;
  left_is = left_y;
  right_is = right_y;
  same_tree = tree_is (Left 0) of_t left_y (inl (refl, refl)) ∙ sym (tree_is (Right 0) of_t right_y (inr (inl (refl, refl))));
  one_literal = λ p r k same. one_literal both_opened at_turn (Left 0) p of_t r turn_kept left_y k same;
}
