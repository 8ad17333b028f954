-- Both unfolders fit the net from its initial values.
use Rattle.std.proofs.Common.{◌≡◌, ◌≢◌, ℕ, zero, suc, ◌+◌, ◌*◌, ◌-◌, ◌<◌, ◌≤◌, ◌==◌, if◌then◌else◌, Bool, true, false, List, [], ◌∷◌, map, slice_get, Some, refl, sym, ◌∙◌, ap, subst, arith, inl, inr}
use Rattle.std.specs.Prelude.{codes}
use Rattle.std.specs.List.{All, AllPairs, Contains}
use Rattle.std.proofs.lemmas.List.Elements.{All-from_recursion}
use Rattle.std.proofs.lemmas.Option.{none-some, same_Some}
use Rattle.circuit_theory.specs.Circuit.{Equation, Gate, Latch, Port as port_equation, Started, IsLatch, Reads, Holds, Carries}
use Rattle.circuit_theory.specs.Cone.{latches_of}
use Rattle.circuit_theory.specs.Run.{IsResetRun}
use Rattle.circuit_theory.specs.Tree.{Tree, Leaf, Fixed, IsInputNumber}
use Rattle.circuit_theory.specs.Query.{Variable, HasLeaf, AreVariables}
use Rattle.circuit_theory.proofs.Lists.{only}
use Rattle.circuit_laws.specs.reset_laws.Reset.{ResetUnfolds, CycleBefore, IsFree}
use Rattle.circuit_laws.specs.reset_laws.Weight.{ResetVisits}
use Rattle.circuit_laws.proofs.reset_laws.ResetTrees.{reset_tree_is_run}
use Rattle.base_tables.specs.Table.{AreDistinct}
use Rattle.base_tables.proofs.Appended.{distinct-push}
use Rattle.sec_base.specs.Cover.{IsCoverSound}
use Rattle.flat_net.specs.declared.parts.Port.{Port}
use Rattle.flat_net.specs.Sound.{Drives, IsInputOf, IsLatchOf, IsSound}
use Rattle.event_nodes.specs.aig.Lit.{Lit}
use Rattle.event_nodes.specs.aig.Node.{Node}
use Rattle.event_nodes.specs.aig.Node.TheVariants.{Constant, Input, And}
use Rattle.event_nodes.specs.aig.Graph.{IsAbove, IsGraph}
use Rattle.event_nodes.specs.aig.Builds.{Builds, HasTreeValues}
use Rattle.event_nodes.proofs.aig.Growth.{Builds-one}
use Rattle.event_nodes.proofs.aig.CoverMeaning.{value-tree}
use Rattle.reset_form.specs.reset_unfold.Places.{IsVisited}
use Rattle.reset_form.specs.reset_unfold.Unfolded.{IsKnown, Holds as holds_there, FitsReset}
use Rattle.reset_form.proofs.reset_unfold.Finish.{fits_new}
use Rattle.reset_form.proofs.reset_unfold.Going.{places_weigh}
use Rattle.call_rows.proofs.circuit_samples.Each.{Each, each_at, each_latch, each_pair}
use Rattle.premise_rows.specs.block_premises.ResetUnfolding.{two_in_row, row_circuit, at_first, at_last, two_places, two_inputs, UnfoldsTo, all_ones, IsValueOfRun, UnfoldersFit}
use Rattle.premise_rows.proofs.block_premises.TurningNets.{each, one_name}

names_distinct : AreDistinct two_in_row.names
names_distinct = distinct-push (codes "a" ∷ codes "p" ∷ []) (codes "q") (distinct-push (codes "a" ∷ []) (codes "p") (one_name (codes "a")) refl) refl

row_is_sound : IsSound two_in_row
row_is_sound = record {
  inputs = each (IsInputOf two_in_row) two_in_row.inputs (record { owner = refl; named = refl }, tt);
  gates = λ j g h. absurd (none-some g h);
  ordered = λ i j g h less l r. absurd (none-some g l);
  latches = each (IsLatchOf two_in_row) two_in_row.latches (record { owner = refl; named = refl; within = omega arith }, (record { owner = refl; named = refl; within = omega arith }, tt));
  drivers = each (Drives two_in_row) two_in_row.drivers ((_, refl, refl), ((_, refl, refl), ((_, refl, refl), tt)));
  outputs = All-from_recursion (λ (port : Port). port.signal.0 < 3) two_in_row.outputs (omega arith, tt);
  covers = All-from_recursion IsCoverSound [] tt;
  named = refl;
  distinct = names_distinct;
  few = omega arith;
  few_inputs = omega arith;
  few_gates = omega arith;
  few_latches = omega arith;
  few_covers = omega arith;
}

-- the place of each node, and of each variable
abbrev node_number : Node → ℕ
node_number Constant = 0
node_number (Input v) = suc v
node_number (And l r) = 0

graph : IsGraph two_inputs
graph = record {
  constant = refl;
  ordered = each IsAbove two_inputs (tt, (tt, (tt, tt)));
  once = λ n m node h k. sym (place n node h) ∙ place m node k;
  few = omega arith;
}
  where
    place : (n : ℕ) (node : Node) → slice_get two_inputs n ≡ Some node → node_number node ≡ n
    place = each (λ n (node : Node). node_number node ≡ n) two_inputs (refl, (refl, (refl, tt)))

abbrev variable_number : ℕ × ℕ → ℕ
variable_number p = if p.0 == 2 then 0 else 1

distinct : AreDistinct two_places
distinct i j p h k = sym (place i p h) ∙ place j p k
  where
    place : (i : ℕ) (p : ℕ × ℕ) → slice_get two_places i ≡ Some p → variable_number p ≡ i
    place = each (λ i (p : ℕ × ℕ). variable_number p ≡ i) two_places (refl, (refl, tt))

-- a leaf is the variable of its tree
leaf_is : (i k : ℕ) (x : Variable ℕ) → HasLeaf x (Leaf i k) → record { input = i; at = k } ≡ x
leaf_is i k x HasLeaf.leaf = refl

variable : (i k : ℕ) → AreVariables CycleBefore (Leaf i k ∷ []) (record { input = i; at = k } ∷ [])
variable i k = record { in_order = λ m n d l h. absurd (omega arith); exactly = λ x. (there x, back x) }
  where
    there : (x : Variable ℕ) → Contains (record { input = i; at = k } ∷ []) x → (tree : Tree ℕ) × Contains (Leaf i k ∷ []) tree × HasLeaf x tree
    there x h = (Leaf i k, (0, omega arith, refl), subst (λ (y : Variable ℕ). HasLeaf y (Leaf i k)) (only (record { input = i; at = k }) x h) HasLeaf.leaf)

    back : (x : Variable ℕ) → (tree : Tree ℕ) × Contains (Leaf i k ∷ []) tree × HasLeaf x tree → Contains (record { input = i; at = k } ∷ []) x
    back x h = subst (Contains (record { input = i; at = k } ∷ [])) (leaf_is i k x (subst (HasLeaf x) (sym (only (Leaf i k) h.0 h.1)) h.2)) (0, omega arith, refl)

no_leaf : {x : Variable ℕ} {tree : Tree ℕ} → HasLeaf x tree → (bit : Bool) → Fixed bit ≡ tree → ⊥
no_leaf HasLeaf.leaf bit e = cc
no_leaf (HasLeaf.inside h) bit e = cc

no_variable : (bit : Bool) → AreVariables CycleBefore (Fixed bit ∷ []) []
no_variable bit = record { in_order = λ m n d l h. absurd (omega arith); exactly = λ x. ((λ h. absurd (omega (arith, h.1))), λ h. absurd (no_leaf h.2 bit (only (Fixed bit) h.0 h.1))) }

p_latch : IsLatch row_circuit (codes "p") 1 0
p_latch = (0, omega arith, refl)

q_latch : IsLatch row_circuit (codes "q") 2 1
q_latch = (1, omega arith, refl)

q_is_free : IsFree row_circuit 2
q_is_free bit h = let e : 1 ≡ 2 = ap (λ (s : Started ℕ). s.place) (only (record { place = 1; bit = false }) (record { place = 2; bit = bit }) h) in omega (arith, e)

-- what is unfolded
abbrev Unfolding : ℕ → ℕ → Tree ℕ → Type 0
Unfolding s cycle tree = ResetUnfolds row_circuit (0 ∷ []) 1 s cycle tree

a_at_0 : Unfolding 0 0 (Leaf 0 0)
a_at_0 = ResetUnfolds.input (inl (refl, refl))

p_at_0 : Unfolding 1 0 (Fixed false)
p_at_0 = ResetUnfolds.started {name = codes "p"} {next = 0} p_latch (0, omega arith, refl)

p_at_1 : Unfolding 1 1 (Leaf 0 0)
p_at_1 = ResetUnfolds.later {name = codes "p"} {next = 0} p_latch a_at_0

q_at_0 : Unfolding 2 0 (Leaf 2 0)
q_at_0 = ResetUnfolds.free 1 refl q_is_free

q_at_1 : Unfolding 2 1 (Fixed false)
q_at_1 = ResetUnfolds.later {name = codes "q"} {next = 1} q_latch p_at_0

q_at_2 : Unfolding 2 2 (Leaf 0 0)
q_at_2 = ResetUnfolds.later {name = codes "q"} {next = 1} q_latch p_at_1

-- the literals of the three trees
q_built : Builds two_inputs two_places (Leaf 2 0) 2
q_built = (0, refl, (1, refl, refl))

zero_built : Builds two_inputs two_places (Fixed false) 0
zero_built = refl

a_built : Builds two_inputs two_places (Leaf 0 0) 4
a_built = (1, refl, (2, refl, refl))

in_cycle_0 : UnfoldsTo 2 0 2 (0 ∷ [])
in_cycle_0 = record { tree = Leaf 2 0; unfolds = q_at_0; builds = q_built; within = omega arith; variables = record { input = 2; at = 0 } ∷ []; are_variables = variable 2 0; numbered = (refl, tt) }

in_cycle_1 : UnfoldsTo 2 1 0 []
in_cycle_1 = record { tree = Fixed false; unfolds = q_at_1; builds = zero_built; within = omega arith; variables = []; are_variables = no_variable false; numbered = tt }

abbrev in_cycle_2 : UnfoldsTo 2 2 4 (1 ∷ [])
in_cycle_2 = record { tree = Leaf 0 0; unfolds = q_at_2; builds = a_built; within = omega arith; variables = record { input = 0; at = 0 } ∷ []; are_variables = variable 0 0; numbered = (refl, tt) }

abbrev before : UnfoldsTo 1 1 4 (1 ∷ [])
before = record { tree = Leaf 0 0; unfolds = p_at_1; builds = a_built; within = omega arith; variables = record { input = 0; at = 0 } ∷ []; are_variables = variable 0 0; numbered = (refl, tt) }

-- no equation is a gate's, or a port's
abbrev IsLatchAlone : Equation ℕ → Type 0
IsLatchAlone (Gate out fanins cover) = ⊥
IsLatchAlone (Latch name out next) = Unit {0}
IsLatchAlone (port_equation out from) = ⊥

latches_alone : (e : Equation ℕ) → Contains row_circuit.equations e → IsLatchAlone e
latches_alone e h = each_at IsLatchAlone row_circuit.equations (tt, (tt, tt)) e h

reads_nothing : {p q : ℕ} → Reads row_circuit p q → ⊥
reads_nothing (Reads.by_gate {out = out} {fanins = fanins} {cover = cover} h k) = latches_alone (Gate out fanins cover) h
reads_nothing (Reads.by_port {out = out} {from = from} h) = latches_alone (port_equation out from) h

-- q in a cycle goes back a cycle with each latch
back_by_one : (t : ℕ) {r j : ℕ} → ResetVisits row_circuit 2 t r j → (r + t ≡ 2 + j) × (r ≤ 2)
back_by_one t ResetVisits.itself = (refl, omega arith)
back_by_one t (ResetVisits.reads visits reads) = absurd (reads_nothing reads)
back_by_one t (ResetVisits.back {q = q} {next = next} {j = j} {name = name} visits latch) =
    let before = back_by_one t visits in
    let step : q ≡ suc next = each_latch (λ name u to. u ≡ suc to) row_circuit.equations (refl, (refl, tt)) name q next latch in
    (omega (arith, before.0, step), omega (arith, before.1, step))

-- each place that is met
met_at : (j r : ℕ) → j ≤ r → r ≤ 2 → (x : Lit) × Contains at_last.memo ((j, r), x)
met_at zero zero l h = (record { 0 = 4 }, (3, omega arith, refl))
met_at zero (suc zero) l h = (record { 0 = 0 }, (1, omega arith, refl))
met_at zero (suc (suc zero)) l h = (record { 0 = 2 }, (0, omega arith, refl))
met_at (suc zero) (suc zero) l h = (record { 0 = 4 }, (4, omega arith, refl))
met_at (suc zero) (suc (suc zero)) l h = (record { 0 = 0 }, (2, omega arith, refl))
met_at (suc (suc zero)) (suc (suc zero)) l h = (record { 0 = 4 }, (5, omega arith, refl))
met_at (suc j) zero l h = absurd (omega arith)
met_at (suc (suc j)) (suc zero) l h = absurd (omega arith)
met_at (suc (suc (suc j))) (suc (suc zero)) l h = absurd (omega arith)
met_at j (suc (suc (suc r))) l h = absurd (omega arith)

met : (s p : ℕ × ℕ) → Contains at_last.done s → ResetVisits row_circuit s.1 s.0 p.1 p.0 → (x : Lit) × Contains at_last.memo (p, x)
met s p among visits =
    let of_q = each_at (λ (t : ℕ × ℕ). (t.1 ≡ 2) × (t.0 ≤ 2)) at_last.done ((refl, omega arith), ((refl, omega arith), ((refl, omega arith), tt))) s among in
    let back = back_by_one s.0 (subst (λ (r : ℕ). ResetVisits row_circuit r s.0 p.1 p.0) of_q.0 visits) in
    met_at p.0 p.1 (omega (arith, of_q.1, back.0)) back.1

abbrev Known : (ℕ × ℕ) × Lit → Type 0
Known e = IsKnown two_in_row (0 ∷ []) 1 two_inputs two_places e.0 e.1.0

abbrev Visited : (ℕ × ℕ) × Lit → Type 0
Visited e = IsVisited row_circuit at_last.done e.0

holds : holds_there at_last two_inputs two_places
holds = record {
  known = λ p x h. each_at Known at_last.memo known (p, x) h;
  visited = λ p x h. each_at Visited at_last.memo visited (p, x) h;
  within = All-from_recursion (λ (p : ℕ × ℕ). p.1 < 3) at_last.done (omega arith, (omega arith, (omega arith, tt)));
  counted = refl;
}
  where
    known : Each Known at_last.memo
    known = (
      record { tree = Leaf 2 0; unfolds = q_at_0; builds = q_built; within = omega arith },
      (
        record { tree = Fixed false; unfolds = p_at_0; builds = zero_built; within = omega arith },
        (
          record { tree = Fixed false; unfolds = q_at_1; builds = zero_built; within = omega arith },
          (
            record { tree = Leaf 0 0; unfolds = a_at_0; builds = a_built; within = omega arith },
            (
              record { tree = Leaf 0 0; unfolds = p_at_1; builds = a_built; within = omega arith },
              (record { tree = Leaf 0 0; unfolds = q_at_2; builds = a_built; within = omega arith }, tt),
            ),
          ),
        ),
      ),
    )

    visited : Each Visited at_last.memo
    visited = (
      record { from = (0, 2); among = (0, omega arith, refl); visits = ResetVisits.itself },
      (
        record { from = (1, 2); among = (1, omega arith, refl); visits = ResetVisits.back {name = codes "q"} ResetVisits.itself q_latch },
        (
          record { from = (1, 2); among = (1, omega arith, refl); visits = ResetVisits.itself },
          (
            record { from = (2, 2); among = (2, omega arith, refl); visits = ResetVisits.back {name = codes "p"} (ResetVisits.back {name = codes "q"} ResetVisits.itself q_latch) p_latch },
            (
              record { from = (2, 2); among = (2, omega arith, refl); visits = ResetVisits.back {name = codes "q"} ResetVisits.itself q_latch },
              (record { from = (2, 2); among = (2, omega arith, refl); visits = ResetVisits.itself }, tt),
            ),
          ),
        ),
      ),
    )

-- the places are met in this order
abbrev order_of : ℕ × ℕ → ℕ
order_of p = 4 * p.0 + 3 * (2 - p.1)

in_order : AllPairs (λ p q. order_of p < order_of q) (map (λ e. e.0) at_last.memo)
in_order = each_pair (λ p q. order_of p < order_of q) (map (λ e. e.0) at_last.memo) (
  (omega arith, (omega arith, (omega arith, (omega arith, (omega arith, tt))))),
  ((omega arith, (omega arith, (omega arith, (omega arith, tt)))), ((omega arith, (omega arith, (omega arith, tt))), ((omega arith, (omega arith, tt)), ((omega arith, tt), (tt, tt))))),
)

differ : AllPairs (λ p q. p ≢ q) (map (λ e. e.0) at_last.memo)
differ i j d l h e = omega (arith, in_order i j d l h, ap order_of e)

fits_last : FitsReset at_last two_inputs two_places
fits_last = record { holds = holds; met = met; weighs = places_weigh at_last row_is_sound two_inputs two_places holds differ met; limit = refl; small = omega arith }

is_run : IsResetRun row_circuit 3 all_ones
is_run = record {
  is_run = record { meets = λ t l. All-from_recursion (Holds (all_ones t)) row_circuit.equations (tt, (tt, tt)); carries = carries };
  starts = λ p bit h. subst (λ (s : Started ℕ). all_ones 0 s.place ≡ s.bit) (only (record { place = 1; bit = false }) (record { place = p; bit = bit }) h) refl;
}
  where
    carries : (t : ℕ) → t + 1 < 3 → All (Carries (all_ones t) (all_ones (t + 1))) row_circuit.equations
    carries zero l = All-from_recursion (Carries (all_ones 0) (all_ones 1)) row_circuit.equations (refl, (refl, tt))
    carries (suc zero) l = All-from_recursion (Carries (all_ones 1) (all_ones 2)) row_circuit.equations (refl, (refl, tt))
    carries (suc (suc t)) l = absurd (omega arith)

a_is_1 : (k : ℕ) → true ≡ all_ones k 0
a_is_1 zero = refl
a_is_1 (suc zero) = refl
a_is_1 (suc (suc k)) = refl

inputs : (p i k : ℕ) → IsInputNumber row_circuit (0 ∷ []) p i → k ≤ 2 → true ≡ all_ones k p
inputs p i k (inl h) l = subst (λ q. true ≡ all_ones k q) h.0 (a_is_1 k)
inputs p i k (inr h) l = absurd h

latches : (j u : ℕ) → slice_get (latches_of row_circuit) j ≡ Some u → IsFree row_circuit u → true ≡ all_ones 0 u
latches zero u h free = absurd (subst (IsFree row_circuit) (sym (same_Some 1 u h)) free false (0, omega arith, refl))
latches (suc zero) u h free = subst (λ q. true ≡ all_ones 0 q) (same_Some 2 u h) refl
latches (suc (suc j)) u h free = absurd (none-some u h)

tree_values : HasTreeValues two_inputs
tree_values places bits a tree x fits is = value-tree two_inputs graph a places bits fits tree x is

is_value : (t x : ℕ) (vars : List ℕ) → t < 3 → UnfoldsTo 2 t x vars → IsValueOfRun t x
is_value t x vars l u =
    tree_values two_places (λ i k. true) (λ v. true) u.tree x (λ v p h. refl) u.builds
    ∙ reset_tree_is_run row_circuit (0 ∷ []) 1 3 all_ones is_run (λ i k. true) t l (λ p i k h le. inputs p i k h (omega arith)) latches u.unfolds (omega arith)

pub unfolders_fit : UnfoldersFit
unfolders_fit = record {
  sound = row_is_sound;
  is_unfolder = record { order = record { each = refl; distinct = λ i j x h k. sym (first i x h) ∙ first j x k }; base = All-from_recursion (λ i. i < 1) (0 ∷ []) (omega arith, tt); room = omega arith; cap = omega arith };
  fits_first = fits_new at_first refl refl refl refl (Constant ∷ []) [];
  grows = (Input 0 ∷ Input 1 ∷ [], refl);
  adds = record { more = two_places; is = refl; each = All-from_recursion (λ (p : ℕ × ℕ). Unit {0}) two_places (tt, (tt, tt)) };
  fits_last = fits_last;
  graph = graph;
  distinct = distinct;
  one_literal = λ places tree x y once is also. Builds-one two_inputs graph places once tree x y is also;
  tree_values = tree_values;
  in_cycle_0 = in_cycle_0;
  in_cycle_1 = in_cycle_1;
  in_cycle_2 = in_cycle_2;
  before = before;
  same_tree = refl;
  is_run = is_run;
  inputs = inputs;
  latches = latches;
  bits = λ v p h. refl;
  values = (is_value 0 2 (0 ∷ []) (omega arith) in_cycle_0, is_value 1 0 [] (omega arith) in_cycle_1, is_value 2 4 (1 ∷ []) (omega arith) in_cycle_2);
}
  where
    first : (i x : ℕ) → slice_get (0 ∷ []) i ≡ Some x → 0 ≡ i
    first = each (λ i x. 0 ≡ i) (0 ∷ []) (refl, tt)
