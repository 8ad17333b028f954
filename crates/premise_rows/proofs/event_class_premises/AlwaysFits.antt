-- The latch that loads in each cycle keeps what each circuit keeps, and its enable is 1.
use Rattle.std.proofs.Common.{◌≡◌, ◌∙◌, ℕ, ◌<◌, Bool, true, false, List, [], ◌∷◌, slice_get, Some, refl, sym, subst, arith, inl, inr}
use Rattle.std.specs.Prelude.{codes}
use Rattle.std.proofs.lemmas.List.Elements.{All-contains, All-from_recursion}
use Rattle.std.proofs.lemmas.Option.{none-some}
use Rattle.circuit_theory.specs.Cover.{cover_value}
use Rattle.circuit_theory.specs.Circuit.{Circuit, Gate, Holds, IsLatch, Reads, Reaches}
use Rattle.circuit_theory.specs.Frame.{EventSide, EventUnfolds, EventUnfoldsAll, ReachedAt}
use Rattle.circuit_theory.specs.Joined.{Left}
use Rattle.circuit_theory.specs.Run.{ExtendsWith}
use Rattle.circuit_theory.specs.Tree.{Tree, Leaf, Fixed, Branch, Nil, Cons}
use Rattle.base_tables.specs.Table.{AreDistinct}
use Rattle.base_tables.proofs.Appended.{distinct-push}
use Rattle.sec_base.specs.Cover.{IsPlace, IsCube, IsCoverSound}
use Rattle.flat_net.specs.declared.parts.Gate.{Gate as NetGate}
use Rattle.flat_net.specs.declared.parts.LatchAt.{LatchAt}
use Rattle.flat_net.specs.declared.parts.Port.{Port}
use Rattle.flat_net.specs.declared.signals.Signal.{Signal}
use Rattle.flat_net.specs.Sound.{Drives, IsInputOf, IsGateOf, IsLatchOf, IsSound}
use Rattle.flat_net.specs.View.{circuit_of}
use Rattle.event_nodes.specs.aig.Builds.{Builds}
use Rattle.event_nodes.specs.aig.Graph.{flip}
use Rattle.event_nodes.specs.aig.Rules.{place_lit, simple_and}
use Rattle.event_nodes.specs.Nodes.{named_places}
use Rattle.event_nodes.specs.Reach.{IsBegun}
use Rattle.event_nodes.specs.View.{Enabled, IsEventCircuit, side_of}
use Rattle.pair_decide.specs.declared.query.SameBy.TheVariants as same
use Rattle.edbf_unfold.specs.Care.{IsCareLit}
use Rattle.edbf_unfold.specs.class_queries.Enables.{both_of, IsEnableFunction}
use Rattle.edbf_unfold.specs.class_queries.Laws.{AreKept}
use Rattle.edbf_unfold.specs.event_literals.Known.{IsEnableLit}
use Rattle.edbf_unfold.specs.event_literals.ShortOr.{short_and, one_and, under, restricted, with_sign, is_conjunct, operands, node_operands}
use Rattle.edbf_unfold.specs.event_literals.event_walk.Walk.{enable_start}
use Rattle.edbf_unfold.proofs.class_queries.Meaning.{lits_are_functions}
use Rattle.class_search.specs.declared.search.Fit.TheVariants as fit
use Rattle.class_search.specs.Search.{IsFit}
use Rattle.class_search.specs.class_fits.Members.{HaveMembers}
use Rattle.class_search.proofs.class_fits.Fitting.{fit_first}
use Rattle.call_rows.specs.circuit_samples.event_samples.Always.{first_cover}
use Rattle.call_rows.proofs.circuit_samples.Each.{each_latch}
use Rattle.premise_rows.specs.event_pair_premises.Differing.{at_root, two_inputs}
use Rattle.premise_rows.specs.event_class_premises.ClassMap.{b_of, at_tag}
use Rattle.premise_rows.specs.event_class_premises.AlwaysFits.{always_loads, loading_latch, one_enable, AlwaysMeetsPremises}
use Rattle.premise_rows.proofs.block_premises.TurningNets.{each, one_name}
use Rattle.premise_rows.proofs.event_pair_premises.Differing.{root_kept}
use Rattle.premise_rows.proofs.event_pair_premises.HeldPair.{kept}
use Rattle.premise_rows.proofs.event_class_premises.ClassMap.{right_circuit}

names_distinct : AreDistinct (codes "a" ∷ codes "q" ∷ codes "n" ∷ [])
names_distinct = distinct-push (codes "a" ∷ codes "q" ∷ []) (codes "n") (distinct-push (codes "a" ∷ []) (codes "q") (one_name (codes "a")) refl) refl

cover_sound : IsCoverSound first_cover
cover_sound = record { cubes = All-from_recursion (IsCube 2) (codes "1-" ∷ []) ((refl, All-from_recursion IsPlace (codes "1-") (inr (inl refl), (inr (inr refl), tt))), tt); empty_is_on = λ e. refl }

ordered : (i j : ℕ) (g h : NetGate) → i < j → slice_get always_loads.net.gates i ≡ Some g → slice_get always_loads.net.gates j ≡ Some h → g.out.0 < h.out.0
ordered i j g h less l r = let second : j ≡ 0 = each (λ k (y : NetGate). k ≡ 0) always_loads.net.gates (refl, tt) j h r in absurd (omega (arith, second, less))

sound : IsSound always_loads.net
sound = record {
  inputs = each (IsInputOf always_loads.net) always_loads.net.inputs (record { owner = refl; named = refl }, tt);
  gates = each (IsGateOf always_loads.net) always_loads.net.gates (record { owner = refl; above = All-from_recursion (λ (f : Signal). f.0 < 2) (record { 0 = 0 } ∷ record { 0 = 1 } ∷ []) (omega arith, (omega arith, tt)); cover = first_cover; covered = refl; width = refl }, tt);
  ordered = ordered;
  latches = each (IsLatchOf always_loads.net) always_loads.net.latches (record { owner = refl; named = refl; within = omega arith }, tt);
  drivers = each (Drives always_loads.net) always_loads.net.drivers ((_, refl, refl), ((_, refl, refl), ((_, refl, refl), tt)));
  outputs = All-from_recursion (λ (port : Port). port.signal.0 < 3) always_loads.net.outputs (omega arith, tt);
  covers = All-from_recursion IsCoverSound (first_cover ∷ []) (cover_sound, tt);
  named = refl;
  distinct = names_distinct;
  few = omega arith;
  few_inputs = omega arith;
  few_gates = omega arith;
  few_latches = omega arith;
  few_covers = omega arith;
}

abbrev c : Circuit ℕ
c = circuit_of always_loads.net

abbrev s : EventSide ℕ
s = side_of always_loads

q_latch : IsLatch c (codes "q") 1 2
q_latch = (1, omega arith, refl)

latch_is : (name : List ℕ) (u next : ℕ) → IsLatch c name u next → 1 ≡ u
latch_is name u next is = each_latch (λ m v to. 1 ≡ v) c.equations (refl, tt) name u next is

-- with q put to either bit it takes over a
first_bit : (a b : Bool) → cover_value first_cover (a ∷ b ∷ []) ≡ a
unfolding cover_value
first_bit true true = refl
first_bit true false = refl
first_bit false true = refl
first_bit false false = refl

next_value : (bit : Bool) (x v : ℕ → Bool) → ExtendsWith c 1 bit x v → v 2 ≡ x 0
next_value bit x v ex =
    let gate : v 2 ≡ cover_value first_cover (v 0 ∷ v 1 ∷ []) = All-contains (Holds v) c.equations (Gate 2 (0 ∷ 1 ∷ []) first_cover) ex.meets (0, omega arith, refl) in
    gate ∙ (first_bit (v 0) (v 1) ∙ ex.sources 0 (inl (codes "a", (0, omega arith, refl))) (λ e. omega (arith, e)))

enabled : Enabled always_loads 1
enabled = record {
  name = codes "q";
  next = 2;
  latch = q_latch;
  self_edge = (inr (codes "q", 2, q_latch), Reaches.there (Reads.by_gate {fanins = 0 ∷ 1 ∷ []} (0, omega arith, refl) (1, omega arith, refl)) Reaches.here);
  rises = λ x low high l h e. next_value true x high h ∙ (sym (next_value false x low l) ∙ e);
}

is_circuit : IsEventCircuit always_loads
is_circuit = record {
  marks = record {
    each = refl;
    exactly = λ j l bit h m. (
      λ on. subst (Enabled always_loads) (each (λ i (y : LatchAt). 1 ≡ y.out.0) always_loads.net.latches (refl, tt) j l h) enabled,
      λ on. each (λ i (b : Bool). b ≡ true) (true ∷ []) (refl, tt) j bit m,
    );
  };
  each_order = refl;
  order_once = λ i j y h m. sym (place i y h) ∙ place j y m;
  each_class = refl;
}
  where
    place : (i y : ℕ) → slice_get (0 ∷ []) i ≡ Some y → y ≡ i
    place = each (λ i (y : ℕ). y ≡ i) (0 ∷ []) (refl, tt)

pub always_kept : AreKept always_loads (b_of 0) at_root
always_kept = record { left_sound = sound; right_sound = kept.right_sound; left = is_circuit; right = right_circuit 0; events = root_kept }

-- what q takes over with itself as either bit is a
abbrev next_tree : Bool → Tree (List ℕ)
next_tree bit = Branch first_cover (Cons (Leaf 0 []) (Cons (Fixed bit) Nil))

unfolds : (bit : Bool) → EventUnfolds s (Enabled always_loads) (Some (1, bit)) 2 [] (next_tree bit)
unfolds bit = EventUnfolds.gate {fanins = 0 ∷ 1 ∷ []} {cover = first_cover} (0, omega arith, refl) (EventUnfoldsAll.more (EventUnfolds.input (inl (refl, refl))) (EventUnfoldsAll.more EventUnfolds.fixed EventUnfoldsAll.none))

low : Builds two_inputs (named_places at_root) (next_tree false) 2
unfolding flip place_lit simple_and
low = (2 ∷ 0 ∷ [], (2, 0 ∷ [], (0, refl, (1, refl, refl)), (0, [], refl, refl, refl), refl), (2, (2, (2, (2, refl, (2, refl, refl)), (3, refl, refl)), refl), refl))

high : Builds two_inputs (named_places at_root) (next_tree true) 2
unfolding flip place_lit simple_and
high = (2 ∷ 1 ∷ [], (2, 1 ∷ [], (0, refl, (1, refl, refl)), (1, [], refl, refl, refl), refl), (2, (2, (2, (2, refl, (2, refl, refl)), (3, refl, refl)), refl), refl))

-- so that the or of a with its complement is the enable
value_is : IsEnableLit always_loads at_root [] loading_latch 1
unfolding flip simple_and short_and one_and under restricted with_sign is_conjunct operands node_operands
value_is = record {
  f0 = 2;
  f1 = 2;
  low = record { tree = next_tree false; unfolds = unfolds false; builds = low; within = omega arith };
  high = record { tree = next_tree true; unfolds = unfolds true; builds = high; within = omega arith };
  or_is = (0, refl, refl);
  within = omega arith;
}

unreached : (path : List ℕ) (v : ℕ) → ReachedAt s (Enabled always_loads) (IsBegun c (enable_start loading_latch)) path v → ⊥
unreached [] v h = h.1 (sym (latch_is h.0.0 v h.0.1 h.0.2))
unreached (k ∷ path) v h = unreached path h.0 h.1

care_is : IsCareLit always_loads at_root (enable_start loading_latch) 1
care_is = record { enables = []; each = λ y h. absurd (omega (arith, h.1)); all = λ path v reached on. absurd (unreached path v reached); is = refl; within = omega arith }

enable : IsEnableFunction (both_of always_loads (b_of 0)) at_root (Left 1) 1 1
enable = (lits_are_functions always_loads (b_of 0) at_root always_kept).0 0 loading_latch 1 1 refl enabled value_is care_is

members : HaveMembers (both_of always_loads (b_of 0)) at_root at_tag [] []
members k d h = absurd (none-some d h)

always : (conflicts : ℕ) → IsFit at_root at_root [] one_enable conflicts fit.Always
always conflicts = (
  0 ∷ [],
  same.Literal,
  record { query = record { left = record { 0 = 1 }; right = record { 0 = 1 }; care = record { 0 = 1 }; vars = 0 ∷ [] }; left = refl; right = refl; care = refl; vars = refl; own = refl; decided = (inl refl, λ a h. refl) },
)

pub always_meets_premises : AlwaysMeetsPremises
always_meets_premises = record {
  kept = always_kept;
  number = refl;
  members = members;
  enable = enable;
  fit = always;
  first = fit_first always_loads (b_of 0) at_root at_root at_tag [] (Left 1) [] one_enable 0 fit.Always always_kept refl members enable (always 0);
}
