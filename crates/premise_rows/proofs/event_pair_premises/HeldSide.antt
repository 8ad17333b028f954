-- One circuit with an enabled latch: it keeps what each net keeps, and the function of its output is over e and a at the child.
use Rattle.std.proofs.Common.{◌≡◌, ◌∙◌, ℕ, zero, suc, ◌+◌, ◌<◌, ◌≤◌, Bool, true, false, List, [], ◌∷◌, slice_get, Option, None, Some, refl, sym, ap, subst, arith, inl, inr}
use Rattle.std.specs.Prelude.{◌⊎◌, ◌↔◌, codes}
use Rattle.std.specs.List.{Contains}
use Rattle.std.proofs.lemmas.List.Elements.{All-from_recursion}
use Rattle.circuit_theory.specs.Circuit.{Circuit, Equation, Gate, Latch, Port as port_equation, IsLatch, IsSingleDriven, Reads, Reaches}
use Rattle.circuit_theory.specs.Cover.{Cover, cover_value}
use Rattle.circuit_theory.specs.Depth.{ChainFrom, IsDepth, LatchChain, LatchesHaveDepths}
use Rattle.circuit_theory.specs.EventSizes.{EventVisits, IsOther, Start}
use Rattle.circuit_theory.specs.EventTotals.{StartLatches}
use Rattle.circuit_theory.specs.Frame.{ConeLatches, EventSide, EventUnfolds, EventUnfoldsAll, IsNode}
use Rattle.circuit_theory.specs.Net.{IsNet}
use Rattle.circuit_theory.specs.Run.{IsEnabled}
use Rattle.circuit_theory.specs.Tree.{Tree, Branch, Cons, Nil, IsInputNumber}
use Rattle.circuit_theory.proofs.Lists.{Contains-cases, Contains-head, Contains-tail, only}
use Rattle.circuit_theory.proofs.Sums.{same_or_not}
use Rattle.base_tables.specs.Table.{AreDistinct}
use Rattle.base_tables.proofs.Appended.{distinct-push}
use Rattle.sec_base.specs.Cover.{IsCoverSound}
use Rattle.flat_net.specs.declared.parts.Gate.{Gate as NetGate}
use Rattle.flat_net.specs.declared.parts.LatchAt.{LatchAt}
use Rattle.flat_net.specs.declared.parts.Port.{Port}
use Rattle.flat_net.specs.declared.signals.Signal.{Signal}
use Rattle.flat_net.specs.Sound.{Drives, IsInputOf, IsGateOf, IsLatchOf, IsSound}
use Rattle.flat_net.specs.View.{circuit_of}
use Rattle.flat_net.proofs.Nets.{sound_is_net}
use Rattle.event_nodes.specs.aig.Builds.{Builds}
use Rattle.event_nodes.specs.aig.Graph.{flip}
use Rattle.event_nodes.specs.aig.Rules.{simple_and}
use Rattle.event_nodes.specs.Nodes.{named_places, path_of}
use Rattle.event_nodes.specs.View.{EventCircuitView, IsEventCircuit, Enabled, side_of}
use Rattle.event_nodes.specs.Visited.{HoldsNodes}
use Rattle.event_nodes.specs.event_variables.Inputs.{IsVisitedInput}
use Rattle.event_nodes.specs.event_variables.Variables.{GoesBefore, variable_of}
use Rattle.edbf_unfold.specs.Care.{IsEnableOnward}
use Rattle.edbf_unfold.specs.event_literals.ShortOr.{IsShortOr}
use Rattle.sec_base.specs.declared.basics.Init.TheVariants as init
use Rattle.event_form.specs.Functions.{IsFunctionOf, signal_start}
use Rattle.call_rows.proofs.circuit_samples.Each.{each_at, each_latch, each_pair}
use Rattle.call_rows.proofs.circuit_samples.event_samples.HoldCells.{IsHold, hold_tree, hold_enabled, hold_next, hold_unfolds, hold_depths, depth_one, at_root}
use Rattle.premise_rows.specs.event_pair_premises.Held.{holding, with_class, held_nodes, at_load, over_load}
use Rattle.premise_rows.proofs.block_premises.TurningNets.{each, one_name}

names_distinct : AreDistinct (codes "e" ∷ codes "a" ∷ codes "q" ∷ codes "n" ∷ codes "y" ∷ [])
names_distinct =
    distinct-push (codes "e" ∷ codes "a" ∷ codes "q" ∷ codes "n" ∷ []) (codes "y")
    (distinct-push (codes "e" ∷ codes "a" ∷ codes "q" ∷ []) (codes "n") (distinct-push (codes "e" ∷ codes "a" ∷ []) (codes "q") (distinct-push (codes "e" ∷ []) (codes "a") (one_name (codes "e")) refl) refl) refl) refl

-- a place that is visited, at its node, and the latch that is put there
data IsMet : Option ℕ → ℕ → List ℕ → Type 0 where
  at_output : IsMet None 4 []
  at_latch : IsMet None 2 []
  before_it : {p : ℕ} → p ≤ 3 → IsMet (Some 2) p (1 ∷ [])

-- what reads what
abbrev pub ReadsSo : ℕ → ℕ → Type 0
ReadsSo p q = ((p ≡ 4) × (q ≡ 2)) ⊎ ((p ≡ 3) × (q ≤ 2))

abbrev ReadsOf : Equation ℕ → Type 0
ReadsOf (Gate out fanins cover) = (q : ℕ) → Contains fanins q → ReadsSo out q
ReadsOf (Latch name out next) = Unit {0}
ReadsOf (port_equation out from) = ⊥

onward : {out : Option ℕ} {q r : ℕ} {node : List ℕ} → IsMet out q node → ReadsSo q r → IsMet out r node
onward IsMet.at_output (inl h) = subst (λ z. IsMet None z []) (sym h.1) IsMet.at_latch
onward IsMet.at_output (inr h) = absurd (omega (arith, h.0))
onward IsMet.at_latch (inl h) = absurd (omega (arith, h.0))
onward IsMet.at_latch (inr h) = absurd (omega (arith, h.0))
onward (IsMet.before_it l) (inl h) = absurd (omega (arith, h.0, l))
onward (IsMet.before_it l) (inr h) = IsMet.before_it (omega (arith, h.1))

module _ (load out : Cover) (load_sound : IsCoverSound load) (out_sound : IsCoverSound out) (load_wide : load.width ≡ 3) (out_wide : out.width ≡ 1)
    (holds : (b bit : Bool) → cover_value load (false ∷ b ∷ bit ∷ []) ≡ bit) (loads : (b : Bool) → cover_value load (true ∷ b ∷ false ∷ []) ≡ cover_value load (true ∷ b ∷ true ∷ [])) where
  abbrev pub e : EventCircuitView
  e = with_class (holding load out)

  abbrev pub c : Circuit ℕ
  c = circuit_of e.net

  abbrev pub s : EventSide ℕ
  s = side_of e

  ordered : (i j : ℕ) (g h : NetGate) → i < j → slice_get e.net.gates i ≡ Some g → slice_get e.net.gates j ≡ Some h → g.out.0 < h.out.0
  ordered i j g h less l r =
      let first : g.out.0 ≡ 3 + i = each (λ k (x : NetGate). x.out.0 ≡ 3 + k) e.net.gates (refl, (refl, tt)) i g l in
      let second : h.out.0 ≡ 3 + j = each (λ k (x : NetGate). x.out.0 ≡ 3 + k) e.net.gates (refl, (refl, tt)) j h r in
      omega (arith, first, second, less)

  pub sound : IsSound e.net
  sound = record {
    inputs = each (IsInputOf e.net) e.net.inputs (record { owner = refl; named = refl }, (record { owner = refl; named = refl }, tt));
    gates = each (IsGateOf e.net) e.net.gates (
      record { owner = refl; above = All-from_recursion (λ (f : Signal). f.0 < 3) (record { 0 = 0 } ∷ record { 0 = 1 } ∷ record { 0 = 2 } ∷ []) (omega arith, (omega arith, (omega arith, tt))); cover = load; covered = refl; width = load_wide },
      (record { owner = refl; above = All-from_recursion (λ (f : Signal). f.0 < 4) (record { 0 = 2 } ∷ []) (omega arith, tt); cover = out; covered = refl; width = out_wide }, tt),
    );
    ordered = ordered;
    latches = each (IsLatchOf e.net) e.net.latches (record { owner = refl; named = refl; within = omega arith }, tt);
    drivers = each (Drives e.net) e.net.drivers ((_, refl, refl), ((_, refl, refl), ((_, refl, refl), ((_, refl, refl), ((_, refl, refl), tt)))));
    outputs = All-from_recursion (λ (port : Port). port.signal.0 < 5) e.net.outputs (omega arith, tt);
    covers = All-from_recursion IsCoverSound (load ∷ out ∷ []) (load_sound, (out_sound, tt));
    named = refl;
    distinct = names_distinct;
    few = omega arith;
    few_inputs = omega arith;
    few_gates = omega arith;
    few_latches = omega arith;
    few_covers = omega arith;
  }

  pub is_net : IsNet c 5
  is_net = sound_is_net e.net sound

  single : IsSingleDriven c
  single = is_net.single

  -- each input has its place as its number
  pub own_number : (p i : ℕ) → IsInputNumber c e.order p i → (p ≡ i) × (i < 2)
  own_number p i (inl h) = (sym h.0 ∙ h.1, omega (arith, h.1))
  own_number p i (inr (inl h)) = (sym h.0 ∙ h.1, omega (arith, h.1))
  own_number p i (inr (inr h)) = absurd h

  once : (p i j : ℕ) → IsInputNumber c e.order p i → IsInputNumber c e.order p j → i ≡ j
  once p i j h k = sym (own_number p i h).0 ∙ (own_number p j k).0

  abbrev hold : IsHold s 2 3
  hold = record { e = 0; a = 1; i = 0; j = 1; load = load; gate = (0, omega arith, refl); e_is = inl (refl, refl); a_is = inr (inl (refl, refl)); holds = holds; loads = loads }

  latch : IsLatch c (codes "q") 2 3
  latch = (2, omega arith, refl)

  abbrev all_hold : (name : List ℕ) (u next : ℕ) → IsLatch c name u next → IsHold s u next
  all_hold name u next is = each_latch (λ m v to. IsHold s v to) c.equations (hold, tt) name u next is

  pub latch_is : (name : List ℕ) (u next : ℕ) → IsLatch c name u next → (2 ≡ u) × (3 ≡ next)
  latch_is name u next is = each_latch (λ m v to. (2 ≡ v) × (3 ≡ to)) c.equations ((refl, refl), tt) name u next is

  enabled : Enabled e 2
  enabled = hold_enabled s same_or_not single once (codes "q") 2 3 latch hold

  pub depths : LatchesHaveDepths c (Enabled e)
  depths = hold_depths s same_or_not single once all_hold

  pub is_circuit : IsEventCircuit e
  is_circuit = record {
    marks = record {
      each = refl;
      exactly = λ j l bit h k. (
        λ on. subst (λ z. IsEnabled c z) (each (λ i (x : LatchAt). 2 ≡ x.out.0) e.net.latches (refl, tt) j l h) enabled,
        λ on. each (λ i (b : Bool). b ≡ true) (true ∷ []) (refl, tt) j bit k,
      );
    };
    each_order = refl;
    order_once = λ i j x h k. sym (place i x h) ∙ place j x k;
    each_class = refl;
  }
    where
      place : (i x : ℕ) → slice_get (0 ∷ 1 ∷ []) i ≡ Some x → x ≡ i
      place = each (λ i x. x ≡ i) (0 ∷ 1 ∷ []) (refl, (refl, tt))

  -- y is one latch deep
  pub y_reaches : Reaches c 4 2
  y_reaches = Reaches.there (Reads.by_gate {fanins = 2 ∷ []} (1, omega arith, refl) (0, omega arith, refl)) Reaches.here

  pub y_depth : IsDepth c (Enabled e) 4 1
  y_depth = record { reached = inr (2, (inr (codes "q", 3, latch), y_reaches), LatchChain.last latch); greatest = greatest }
    where
      from : (n : ℕ) (u : ℕ) (name : List ℕ) (next : ℕ) → IsLatch c name u next → LatchChain c (Enabled e) u n → n ≤ 1
      from n u name next is chain = (depth_one s same_or_not single once all_hold name u next is).greatest n (inr (u, (inr (name, next, is), Reaches.here), chain))

      chain_is : (n u : ℕ) → LatchChain c (Enabled e) u n → n ≤ 1
      chain_is n u (LatchChain.last {next = next} {name = name} is) = from 1 u name next is (LatchChain.last is)
      chain_is n u (LatchChain.more {n = m} r rest) = from (suc m) u r.name r.next r.latch (LatchChain.more r rest)

      greatest : (n : ℕ) → ChainFrom c (Enabled e) 4 n → n ≤ 1
      greatest n (inl h) = omega (arith, h)
      greatest n (inr h) = chain_is n h.0 h.2

  pub latch_depth : IsDepth c (Enabled e) 2 1
  latch_depth = depth_one s same_or_not single once all_hold (codes "q") 2 3 latch

  -- what is visited
  pub reading : {p q : ℕ} → Reads c p q → ReadsSo p q
  reading (Reads.by_gate {out = o} {q = q} {fanins = fanins} {cover = cover} h k) = each_at ReadsOf c.equations (first, (second, (tt, tt))) (Gate o fanins cover) h q k
    where
      first : (r : ℕ) → Contains (0 ∷ 1 ∷ 2 ∷ []) r → ReadsSo 3 r
      first r m = inr (refl, each_at (λ z. z ≤ 2) (0 ∷ 1 ∷ 2 ∷ []) (omega arith, (omega arith, (omega arith, tt))) r m)

      second : (r : ℕ) → Contains (2 ∷ []) r → ReadsSo 4 r
      second r m = inl (refl, sym (only 2 r m))
  reading (Reads.by_port {out = o} {from = from} h) = absurd (each_at ReadsOf c.equations (first, (second, (tt, tt))) (port_equation o from) h)
    where
      first : (r : ℕ) → Contains (0 ∷ 1 ∷ 2 ∷ []) r → ReadsSo 3 r
      first r m = inr (refl, each_at (λ z. z ≤ 2) (0 ∷ 1 ∷ 2 ∷ []) (omega arith, (omega arith, (omega arith, tt))) r m)

      second : (r : ℕ) → Contains (2 ∷ []) r → ReadsSo 4 r
      second r m = inl (refl, sym (only 2 r m))

  -- the trees of what the latch takes over, and of y
  abbrev pub next_tree : Bool → Tree (List ℕ)
  next_tree bit = hold_tree load 0 1 bit (1 ∷ [])

  abbrev pub y_tree : Tree (List ℕ)
  y_tree = Branch out (Cons (next_tree false) Nil)

  y_unfolds : EventUnfolds s (Enabled e) None 4 [] y_tree
  y_unfolds = EventUnfolds.gate {fanins = 2 ∷ []} {cover = out} (1, omega arith, refl) (EventUnfoldsAll.more (hold_unfolds s same_or_not single once (codes "q") 2 3 latch hold []) EventUnfoldsAll.none)

  -- of a place from which the latch is reached
  module _ (p : ℕ) (met : IsMet None p []) (reaches : Reaches c p 2) (to_latch : EventVisits s (Enabled e) (signal_start p ∷ []) None 2 []) where
    abbrev x : Start ℕ
    x = signal_start p

    abbrev Visits : Option ℕ → ℕ → List ℕ → Type 0
    Visits put q node = EventVisits s (Enabled e) (x ∷ []) put q node

    started : (z : Start ℕ) → x ≡ z → IsMet z.left_out z.place []
    started z same = subst (λ (y : Start ℕ). IsMet y.left_out y.place []) same met

    taken : {put : Option ℕ} {q : ℕ} {node : List ℕ} → IsMet put q node → 2 ≡ q → IsOther put q → IsMet (Some 2) 3 (1 ∷ node)
    taken IsMet.at_output same other = absurd (omega (arith, same))
    taken IsMet.at_latch same other = IsMet.before_it (omega arith)
    taken (IsMet.before_it l) same other = absurd (other (sym same))

    visited : {put : Option ℕ} {q : ℕ} {node : List ℕ} → Visits put q node → IsMet put q node
    visited (EventVisits.start {s = z} h) = started z (only x z h)
    visited (EventVisits.reads seen reads) = onward (visited seen) (reading reads)
    visited (EventVisits.plain {q = q} {next = next} {name = name} seen other is off) = absurd (off (subst (Enabled e) (latch_is name q next is).0 enabled))
    visited (EventVisits.held {q = q} {next = next} {node = node} {name = name} seen other is on) =
        let at = latch_is name q next is in
        subst (λ z. IsMet (Some z) next (s.class z ∷ node)) at.0 (subst (λ z. IsMet (Some 2) z (1 ∷ node)) at.1 (taken (visited seen) at.0 other))

    visits_next : Visits (Some 2) 3 (1 ∷ [])
    visits_next = EventVisits.held {name = codes "q"} to_latch tt latch enabled

    visits_e : Visits (Some 2) 0 (1 ∷ [])
    visits_e = EventVisits.reads visits_next (Reads.by_gate {fanins = 0 ∷ 1 ∷ 2 ∷ []} (0, omega arith, refl) (0, omega arith, refl))

    visits_a : Visits (Some 2) 1 (1 ∷ [])
    visits_a = EventVisits.reads visits_next (Reads.by_gate {fanins = 0 ∷ 1 ∷ 2 ∷ []} (0, omega arith, refl) (1, omega arith, refl))

    input_e : IsVisitedInput e x 0 (1 ∷ [])
    input_e = record { out = Some 2; place = 0; visit = visits_e; numbered = inl (refl, refl) }

    input_a : IsVisitedInput e x 1 (1 ∷ [])
    input_a = record { out = Some 2; place = 1; visit = visits_a; numbered = inr (inl (refl, refl)) }

    abbrev VariableOf : ℕ → List ℕ → Type 0
    VariableOf input path = (v : ℕ) × Contains (2 ∷ 3 ∷ []) v × (variable_of at_load v ≡ record { input = input; at = path })

    variable : (input : ℕ) (path : List ℕ) → IsVisitedInput e x input path → VariableOf input path
    variable input path h = go (visited h.visit) (own_number h.place input h.numbered)
      where
        numbered_so : (i : ℕ) → i < 2 → VariableOf i (1 ∷ [])
        numbered_so zero l = (2, Contains-head 2 (3 ∷ []), refl)
        numbered_so (suc zero) l = (3, Contains-tail 2 3 (3 ∷ []) (Contains-head 3 []), refl)
        numbered_so (suc (suc i)) l = absurd (omega (arith, l))

        go : {put : Option ℕ} {q : ℕ} {node : List ℕ} → IsMet put q node → (q ≡ input) × (input < 2) → VariableOf input node
        go IsMet.at_output n = absurd (omega (arith, n.0, n.1))
        go IsMet.at_latch n = absurd (omega (arith, n.0, n.1))
        go (IsMet.before_it l) n = numbered_so input n.1

    -- what is reached
    abbrev Begun : ℕ → Type 0
    Begun = StartLatches s (x ∷ [])

    cone : ConeLatches c p 2
    cone = (codes "q", 3, latch, reaches)

    begun : Begun 2
    begun = (x, Contains-head x [], cone, tt)

    begun_is : (v : ℕ) → Begun v → 2 ≡ v
    begun_is v h = (latch_is h.2.0 v h.2.1 h.2.2).0

    node_of : (path : List ℕ) → IsNode s (Enabled e) Begun path → (n : ℕ) × (n ≤ 1) × (path_of at_load.children n ≡ path)
    node_of [] h = (0, omega arith, refl)
    node_of (k ∷ path) h =
        let at = at_root s same_or_not single once all_hold Begun path h.0 h.1 in
        let class : s.class 2 ≡ k = ap s.class (begun_is h.0 at.1) ∙ h.2 in
        (1, omega arith, (λ i. class i ∷ sym at.0 i))

    made : HoldsNodes e at_load.children x
    made path h = node_of path h

    node_is : (k : ℕ) → Contains (0 ∷ 1 ∷ []) k ↔ ((k ≤ 1) × IsNode s (Enabled e) Begun (path_of at_load.children k))
    node_is k = (λ h. there k (Contains-cases 0 k (1 ∷ []) h), λ h. back k h.0)
      where
        Made : ℕ → Type 0
        Made m = (m ≤ 1) × IsNode s (Enabled e) Begun (path_of at_load.children m)

        there : (m : ℕ) → (0 ≡ m) ⊎ Contains (1 ∷ []) m → Made m
        there m (inl same) = subst Made same (omega arith, tt)
        there m (inr h) = subst Made (only 1 m h) (omega arith, (2, begun, refl))

        back : (m : ℕ) → m ≤ 1 → Contains (0 ∷ 1 ∷ []) m
        back zero l = Contains-head 0 (1 ∷ [])
        back (suc zero) l = Contains-tail 0 1 (1 ∷ []) (Contains-head 1 [])
        back (suc (suc m)) l = absurd (omega (arith, l))

    module _ (f0 f1 y : ℕ) (tree : Tree (List ℕ)) (unfolds : EventUnfolds s (Enabled e) None p [] tree) (low : Builds held_nodes (named_places at_load) (next_tree false) f0) (high : Builds held_nodes (named_places at_load) (next_tree true) f1) (built : Builds held_nodes (named_places at_load) tree y)
        (low_in : f0 < 18) (high_in : f1 < 18) (y_in : y < 18) (or_is : IsShortOr held_nodes f0 (flip f1) 6) where
      enable_is : IsEnableOnward e at_load [] 2 6
      enable_is = record {
        position = 0;
        latch = record { name = codes "q"; next = record { 0 = 3 }; out = record { 0 = 2 }; init = init.Unknown };
        at = refl;
        out = refl;
        enabled = enabled;
        enable = record {
          f0 = f0;
          f1 = f1;
          low = record { tree = next_tree false; unfolds = hold_next s same_or_not single once (codes "q") 2 3 latch hold false (1 ∷ []); builds = low; within = low_in };
          high = record { tree = next_tree true; unfolds = hold_next s same_or_not single once (codes "q") 2 3 latch hold true (1 ∷ []); builds = high; within = high_in };
          or_is = or_is;
          within = omega arith;
        };
      }

      function : IsFunctionOf e at_load p (over_load y)
      unfolding simple_and
      function = record {
        value = record {
          tree = tree;
          unfolds = unfolds;
          builds = built;
          within = y_in;
        };
        care = record {
          enables = 6 ∷ [];
          each = λ z h. ([], 2, (cone, tt), subst (λ m. IsEnableOnward e at_load [] 2 m) (only 6 z h) enable_is);
          all = λ path v reached on.
              let at = at_root s same_or_not single once all_hold _ path v reached in
              (6, Contains-head 6 [], subst (λ p. IsEnableOnward e at_load p v 6) (sym at.0) (subst (λ u. IsEnableOnward e at_load [] u 6) (latch_is on.name v on.next on.latch).0 enable_is));
          is = (1, refl, refl);
          within = omega arith;
        };
        vars = record {
          in_order = record { within = All-from_recursion (λ v. v < 4) (2 ∷ 3 ∷ []) (omega arith, (omega arith, tt)); ordered = each_pair (GoesBefore at_load) (2 ∷ 3 ∷ []) ((inr (refl, inr (refl, omega arith)), tt), (tt, tt)) };
          each = λ v h. each_at (λ m. IsVisitedInput e x (variable_of at_load m).input (variable_of at_load m).at) (2 ∷ 3 ∷ []) (input_e, (input_a, tt)) v h;
          all = variable;
        };
        reach = record { nodes_are = node_is; only_is = (λ same. absurd (not_so same), λ h. absurd (let one : 1 ≡ 0 = h [] 2 begun in omega (arith, one))) };
      }
        where
          not_so : false ≡ true → ⊥
          not_so same = cc

  y_visits : EventVisits s (Enabled e) (signal_start 4 ∷ []) None 2 []
  y_visits = EventVisits.reads (EventVisits.start (Contains-head (signal_start 4) [])) (Reads.by_gate {fanins = 2 ∷ []} (1, omega arith, refl) (0, omega arith, refl))

  q_visits : EventVisits s (Enabled e) (signal_start 2 ∷ []) None 2 []
  q_visits = EventVisits.start (Contains-head (signal_start 2) [])

  pub nodes_made : HoldsNodes e at_load.children (signal_start 4)
  nodes_made = made 4 IsMet.at_output y_reaches y_visits

  pub latch_nodes_made : HoldsNodes e at_load.children (signal_start 2)
  latch_nodes_made = made 2 IsMet.at_latch Reaches.here q_visits

  -- the functions of y and of the latch, by the literals of what the latch takes over with itself as 0 and as 1
  module _ (f0 f1 : ℕ) (low : Builds held_nodes (named_places at_load) (next_tree false) f0) (high : Builds held_nodes (named_places at_load) (next_tree true) f1) (low_in : f0 < 18) (high_in : f1 < 18)
      (or_is : IsShortOr held_nodes f0 (flip f1) 6) where
    pub y_function : (y : ℕ) → Builds held_nodes (named_places at_load) y_tree y → y < 18 → IsFunctionOf e at_load 4 (over_load y)
    y_function y built y_in = function 4 IsMet.at_output y_reaches y_visits f0 f1 y y_tree y_unfolds low high built low_in high_in y_in or_is

    pub latch_function : IsFunctionOf e at_load 2 (over_load f0)
    latch_function = function 2 IsMet.at_latch Reaches.here q_visits f0 f1 f0 (next_tree false) (hold_unfolds s same_or_not single once (codes "q") 2 3 latch hold []) low high low low_in high_in low_in or_is
