-- The event function of a signal that reads one input, in a circuit without latches.
use Rattle.std.proofs.Common.{◌≡◌, ℕ, ◌*◌, ◌<◌, ◌≤◌, true, List, [], ◌∷◌, length, Option, None, refl, sym, ◌∙◌, ap, subst, arith}
use Rattle.std.specs.Prelude.{◌↔◌}
use Rattle.std.specs.List.{Contains}
use Rattle.std.proofs.lemmas.List.Elements.{All-from_recursion}
use Rattle.circuit_theory.specs.Circuit.{IsLatch}
use Rattle.circuit_theory.specs.EventSizes.{EventVisits, Start}
use Rattle.circuit_theory.specs.EventTotals.{StartLatches}
use Rattle.circuit_theory.specs.Frame.{EventUnfolds, IsNode, ReachedAt}
use Rattle.circuit_theory.specs.Query.{Variable}
use Rattle.circuit_theory.specs.Tree.{Tree, IsInputNumber}
use Rattle.circuit_theory.proofs.Lists.{Contains-head, only}
use Rattle.flat_net.specs.View.{circuit_of}
use Rattle.event_nodes.specs.aig.Builds.{Builds}
use Rattle.event_nodes.specs.Nodes.{EventGraphView, named_places, path_of}
use Rattle.event_nodes.specs.View.{EventCircuitView, Enabled, side_of}
use Rattle.event_nodes.specs.Visited.{HoldsNodes}
use Rattle.event_nodes.specs.event_variables.Inputs.{IsVisitedInput}
use Rattle.event_nodes.specs.event_variables.Variables.{variable_of}
use Rattle.event_form.specs.SignalFunction.{SignalFunction}
use Rattle.event_form.specs.Functions.{IsFunctionOf, signal_start}
use Rattle.premise_rows.proofs.event_outcome_samples.Nets.{nothing}
use Rattle.premise_rows.proofs.event_outcome_samples.Sides.{no_latch, no_reading}

-- the function of such a signal: over its variable, in each frame, and at the root
abbrev pub of_input : ℕ → ℕ → SignalFunction
of_input v lit = record { value = record { 0 = lit }; care = record { 0 = 1 }; vars = v ∷ []; nodes = 0 ∷ []; only_always = true }

-- what the start of p visits
abbrev pub VisitsFrom : EventCircuitView → ℕ → Option ℕ → ℕ → List ℕ → Type 0
VisitsFrom e p put q node = EventVisits (side_of e) (Enabled e) (signal_start p ∷ []) put q node

-- where there are no equations it is p alone
pub alone : (e : EventCircuitView) → (circuit_of e.net).equations ≡ [] → (p : ℕ) {put : Option ℕ} {q : ℕ} {node : List ℕ} → VisitsFrom e p put q node → p ≡ q
alone e bare p (EventVisits.start {s = s} h) = ap (λ (x : Start ℕ). x.place) (only (signal_start p) s h)
alone e bare p (EventVisits.reads {q = q} {r = r} before reads) = absurd (no_reading (circuit_of e.net) bare q r reads)
alone e bare p (EventVisits.plain {q = q} {next = next} {name = name} before other latch off) = absurd (no_latch (circuit_of e.net) bare name q next latch)
alone e bare p (EventVisits.held {q = q} {next = next} {name = name} before other latch on) = absurd (no_latch (circuit_of e.net) bare name q next latch)

module _ (e : EventCircuitView) (none : (name : List ℕ) (u next : ℕ) → IsLatch (circuit_of e.net) name u next → ⊥) (p : ℕ) where
  abbrev Begun : ℕ → Type 0
  Begun = StartLatches (side_of e) (signal_start p ∷ [])

  unreached : (path : List ℕ) (v : ℕ) → ReachedAt (side_of e) (Enabled e) Begun path v → ⊥
  unreached [] v h = none h.2.0 v h.2.1 h.2.2
  unreached (k ∷ path) v h = unreached path h.0 h.1

  pub stays_at_root : {put : Option ℕ} {q : ℕ} {node : List ℕ} → VisitsFrom e p put q node → [] ≡ node
  stays_at_root (EventVisits.start h) = refl
  stays_at_root (EventVisits.reads before reads) = stays_at_root before
  stays_at_root (EventVisits.plain {q = q} {next = next} {name = name} before other latch off) = absurd (none name q next latch)
  stays_at_root (EventVisits.held {q = q} {next = next} {name = name} before other latch on) = absurd (none name q next latch)

  pub root_made : (children : List (ℕ × ℕ)) → path_of children 0 ≡ [] → HoldsNodes e children (signal_start p)
  root_made children root [] h = (0, omega arith, root)
  root_made children root (k ∷ path) h = absurd (unreached path h.0 h.1)

  module _ (w : EventGraphView) (childless : w.children ≡ []) (i v lit q : ℕ) (met : VisitsFrom e p None q []) (numbered : IsInputNumber (circuit_of e.net) e.order q i)
      (own : (put : Option ℕ) (r : ℕ) (node : List ℕ) → VisitsFrom e p put r node → (j : ℕ) → IsInputNumber (circuit_of e.net) e.order r j → i ≡ j)
      (in_places : v < length w.places) (is : variable_of w v ≡ record { input = i; at = [] })
      (tree : Tree (List ℕ)) (unfolds : EventUnfolds (side_of e) (Enabled e) None p [] tree) (builds : Builds w.graph (named_places w) tree lit) (within : lit < 2 * length w.graph) (some : 1 < 2 * length w.graph) where
    abbrev x : Start ℕ
    x = signal_start p

    visits : IsVisitedInput e x (variable_of w v).input (variable_of w v).at
    visits = subst (λ (y : Variable (List ℕ)). IsVisitedInput e x y.input y.at) (sym is) (record { out = None; place = q; visit = met; numbered = numbered })

    variable : (input : ℕ) (path : List ℕ) → IsVisitedInput e x input path → (u : ℕ) × Contains (v ∷ []) u × (variable_of w u ≡ record { input = input; at = path })
    variable input path h =
        let root = stays_at_root h.visit in
        let number : i ≡ input = own h.out h.place path h.visit input h.numbered in
        (v, Contains-head v [], is ∙ (λ k. record { input = number k; at = root k }))

    node_is : (k : ℕ) → Contains (0 ∷ []) k ↔ ((k ≤ length w.children) × IsNode (side_of e) (Enabled e) Begun (path_of w.children k))
    node_is k = (
      λ h. subst (λ m. (m ≤ length w.children) × IsNode (side_of e) (Enabled e) Begun (path_of w.children m)) (only 0 k h) root,
      λ h. subst (Contains (0 ∷ [])) (let few : length w.children ≡ 0 = ap length childless in let zero_is : 0 ≡ k = omega (arith, h.0, few) in zero_is) (Contains-head 0 []),
    )
      where
        root : (0 ≤ length w.children) × IsNode (side_of e) (Enabled e) Begun (path_of w.children 0)
        root = subst (λ (es : List (ℕ × ℕ)). (0 ≤ length es) × IsNode (side_of e) (Enabled e) Begun (path_of es 0)) (sym childless) (omega arith, tt)

    pub input_function : IsFunctionOf e w p (of_input v lit)
    input_function = record {
      value = record { tree = tree; unfolds = unfolds; builds = builds; within = within };
      care = record { enables = []; each = λ y h. absurd (nothing y h); all = λ path u reached on. absurd (none on.name u on.next on.latch); is = refl; within = some };
      vars = record {
        in_order = record { within = All-from_recursion (λ u. u < length w.places) (v ∷ []) (in_places, tt); ordered = λ j k d l h. absurd (omega (arith, l, h)) };
        each = λ u h. subst (λ m. IsVisitedInput e x (variable_of w m).input (variable_of w m).at) (only v u h) visits;
        all = variable;
      };
      reach = record { nodes_are = node_is; only_is = (λ same path u reached. absurd (unreached path u reached), λ h. refl) };
    }
