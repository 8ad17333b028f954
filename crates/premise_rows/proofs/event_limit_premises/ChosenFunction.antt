-- The event functions of both outputs, over seventeen variables and over one.
use Rattle.std.proofs.Common.{◌≡◌, ◌∙◌, ℕ, suc, ◌*◌, ◌<◌, ◌≤◌, true, List, [], ◌∷◌, map, slice_get, None, Some, refl, sym, ap, subst, arith, inr}
use Rattle.std.specs.Prelude.{◌↔◌}
use Rattle.std.specs.List.{Contains}
use Rattle.std.proofs.lemmas.Option.{get_or_from_slice_get}
use Rattle.circuit_theory.specs.Circuit.{Reads}
use Rattle.circuit_theory.specs.EventSizes.{EventVisits}
use Rattle.circuit_theory.specs.EventTotals.{StartLatches}
use Rattle.circuit_theory.specs.Frame.{EventUnfolds, EventUnfoldsAll, IsNode, NodeBefore, ReachedAt}
use Rattle.circuit_theory.specs.Query.{Variable}
use Rattle.circuit_theory.specs.Tree.{Tree, Trees, Leaf, Branch, Nil, Cons}
use Rattle.circuit_theory.proofs.Lists.{All-from_each, Contains-head, Contains-tail, only}
use Rattle.event_nodes.specs.aig.Builds.{Builds, BuildsAll}
use Rattle.event_nodes.specs.aig.Graph.{flip}
use Rattle.event_nodes.specs.aig.Node.TheVariants.{Input}
use Rattle.event_nodes.specs.aig.Rules.{IsCubeOf, place_lit, simple_and}
use Rattle.event_nodes.specs.Nodes.{named_places, path_of}
use Rattle.event_nodes.specs.View.{Enabled, side_of}
use Rattle.event_nodes.specs.Visited.{HoldsNodes}
use Rattle.event_nodes.specs.event_variables.Inputs.{IsVisitedInput}
use Rattle.event_nodes.specs.event_variables.Variables.{GoesBefore, variable_of}
use Rattle.event_form.specs.SignalFunction.{SignalFunction}
use Rattle.event_form.specs.Functions.{IsFunctionOf, signal_start}
use Rattle.premise_rows.specs.event_limit_premises.Chosen.{at_choice, choice_ands, choice_cover, chooses, chosen_nodes, numbers_from, seventeen, shows}
use Rattle.premise_rows.proofs.event_limit_premises.ChosenNets.{left_none, numbered, own_number, right_none}
use Rattle.premise_rows.proofs.event_limit_premises.Numbers.{at, in_order, in_seventeen, of_seventeen}
use Rattle.premise_rows.proofs.event_outcome_samples.Nets.{nothing}
use Rattle.premise_rows.proofs.event_pair_premises.Shown.{alone, input_function, of_input, root_made, stays_at_root}

-- the function of the first output: over all variables, in each frame, and at the root
abbrev pub over_all : SignalFunction
over_all = record { value = record { 0 = 41 }; care = record { 0 = 1 }; vars = seventeen; nodes = 0 ∷ []; only_always = true }

-- the variable of each number
named : (v : ℕ) → v < 17 → slice_get (named_places at_choice) v ≡ Some (v, [])
named v l = at (λ k. (k, [])) [] v l

variable_is : (v : ℕ) → v < 17 → variable_of at_choice v ≡ record { input = v; at = [] }
variable_is v l = ap (λ (p : ℕ × List ℕ). record { input = p.0; at = p.1 }) (get_or_from_slice_get (named_places at_choice) v (v, []) (0, []) (named v l))

pub goes_before : (u v : ℕ) → u < v → v < 17 → GoesBefore at_choice u v
goes_before u v less l =
    let u_in : u < 17 = omega (arith, less, l) in
    subst (λ x. NodeBefore x (variable_of at_choice v)) (sym (variable_is u u_in)) (subst (NodeBefore (record { input = u; at = [] })) (sym (variable_is v l)) (inr (refl, inr (refl, less))))

-- the tree of the gate
abbrev leaves : List ℕ → Trees (List ℕ)
leaves [] = Nil
leaves (k ∷ ks) = Cons (Leaf k []) (leaves ks)

abbrev choice_tree : Tree (List ℕ)
choice_tree = Branch choice_cover (leaves seventeen)

abbrev Unfolds : List ℕ → Type 0
Unfolds ks = EventUnfoldsAll (side_of chooses) (Enabled chooses) None ks [] (leaves ks)

unfold_all : (ks : List ℕ) → ((k : ℕ) → Contains ks k → k < 17) → Unfolds ks
unfold_all [] within = EventUnfoldsAll.none
unfold_all (k ∷ ks) within = EventUnfoldsAll.more (EventUnfolds.input (numbered k (within k (Contains-head k ks)))) (unfold_all ks (λ j h. within j (Contains-tail k j ks h)))

unfolds : EventUnfolds (side_of chooses) (Enabled chooses) None 17 [] choice_tree
unfolds = EventUnfolds.gate {fanins = seventeen} {cover = choice_cover} (0, omega arith, refl) (unfold_all seventeen of_seventeen)

-- its literal
abbrev lit_of : ℕ → ℕ
lit_of k = 2 * suc k

build_all : (ks : List ℕ) → ((k : ℕ) → Contains ks k → k < 17) → BuildsAll chosen_nodes (named_places at_choice) (leaves ks) (map lit_of ks)
build_all [] within = refl
build_all (k ∷ ks) within =
    let l = within k (Contains-head k ks) in
    (lit_of k, map lit_of ks, (k, named k l, (suc k, refl, at Input choice_ands k l)), build_all ks (λ j h. within j (Contains-tail k j ks h)), refl)

-- a place that asks nothing leaves the literal
skips : (x : ℕ) (fs : List ℕ) → IsCubeOf chosen_nodes x (map (λ f. 45) fs) fs x
unfolding place_lit
skips x [] = refl
skips x (f ∷ fs) = (x, refl, skips x fs)

builds : Builds chosen_nodes (named_places at_choice) choice_tree 41
unfolding flip place_lit simple_and
builds = (
  map lit_of seventeen,
  build_all seventeen of_seventeen,
  (
    41,
    (
      36,
      (36, (2, refl, (36, (18, refl, refl), skips 36 (map lit_of (numbers_from 2 15)))), (37, refl, refl)),
      (41, (38, (2, refl, (38, (19, refl, refl), skips 38 (map lit_of (numbers_from 2 15)))), (40, (20, refl, refl), refl)), refl),
    ),
    refl,
  ),
)

-- what the gate visits
abbrev Visits : ℕ → Type 0
Visits q = EventVisits (side_of chooses) (Enabled chooses) (signal_start 17 ∷ []) None q []

visits : (k : ℕ) → k < 17 → Visits k
visits k l = EventVisits.reads (EventVisits.start (Contains-head (signal_start 17) [])) (Reads.by_gate {fanins = seventeen} (0, omega arith, refl) (in_seventeen k l))

visited_input : (v : ℕ) → v < 17 → IsVisitedInput chooses (signal_start 17) (variable_of at_choice v).input (variable_of at_choice v).at
visited_input v l =
    subst (λ (x : Variable (List ℕ)). IsVisitedInput chooses (signal_start 17) x.input x.at) (sym (variable_is v l)) (record { out = None; place = v; visit = visits v l; numbered = numbered v l })

variable_at : (input : ℕ) (path : List ℕ) → IsVisitedInput chooses (signal_start 17) input path → (v : ℕ) × Contains seventeen v × (variable_of at_choice v ≡ record { input = input; at = path })
variable_at input path h =
    let own = own_number h.place input h.numbered in
    let root = stays_at_root chooses left_none 17 h.visit in
    (input, in_seventeen input own.1, variable_is input own.1 ∙ ap (λ (at : List ℕ). record { input = input; at = at }) root)

-- what it reaches: the root
abbrev Begun : ℕ → Type 0
Begun = StartLatches (side_of chooses) (signal_start 17 ∷ [])

unreached : (path : List ℕ) (v : ℕ) → ReachedAt (side_of chooses) (Enabled chooses) Begun path v → ⊥
unreached [] v h = left_none h.2.0 v h.2.1 h.2.2
unreached (k ∷ path) v h = unreached path h.0 h.1

node_is : (k : ℕ) → Contains (0 ∷ []) k ↔ ((k ≤ 0) × IsNode (side_of chooses) (Enabled chooses) Begun (path_of [] k))
node_is k = (
  λ h. subst (λ m. (m ≤ 0) × IsNode (side_of chooses) (Enabled chooses) Begun (path_of [] m)) (only 0 k h) (omega arith, tt),
  λ h. subst (Contains (0 ∷ [])) (let zero_is : 0 ≡ k = omega (arith, h.0) in zero_is) (Contains-head 0 []),
)

pub left_function : IsFunctionOf chooses at_choice 17 over_all
left_function = record {
  value = record { tree = choice_tree; unfolds = unfolds; builds = builds; within = omega arith };
  care = record { enables = []; each = λ y h. absurd (nothing y h); all = λ path u reached on. absurd (left_none on.name u on.next on.latch); is = refl; within = omega arith };
  vars = record {
    in_order = record { within = All-from_each (λ v. v < 17) seventeen of_seventeen; ordered = in_order (GoesBefore at_choice) goes_before };
    each = λ v h. visited_input v (of_seventeen v h);
    all = variable_at;
  };
  reach = record { nodes_are = node_is; only_is = (λ same path u reached. absurd (unreached path u reached), λ h. refl) };
}

pub left_nodes : HoldsNodes chooses at_choice.children (signal_start 17)
left_nodes = root_made chooses left_none 17 [] refl

pub right_function : IsFunctionOf shows at_choice 0 (of_input 0 2)
right_function =
    input_function shows right_none 0 at_choice refl 0 0 2 0 (EventVisits.start (Contains-head (signal_start 0) [])) (numbered 0 (omega arith))
    (λ put q node seen j h. alone shows refl 0 seen ∙ (own_number q j h).0)
    (omega arith) refl (Leaf 0 []) (EventUnfolds.input (numbered 0 (omega arith))) (0, refl, (1, refl, refl)) (omega arith) (omega arith)

pub right_nodes : HoldsNodes shows at_choice.children (signal_start 0)
right_nodes = root_made shows right_none 0 [] refl
