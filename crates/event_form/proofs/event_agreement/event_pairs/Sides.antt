-- A circuit's function of a signal is the signal's where both circuits stand side by side.
use Rattle.std.proofs.Common.{◌≡◌, ℕ, Bool, true, false, List, [], ◌∷◌, ◌++◌, length, None, refl, sym, subst, inl, inr}
use Rattle.std.specs.Prelude.{◌↔◌}
use Rattle.circuit_theory.specs.Circuit.{Circuit, Meets}
use Rattle.circuit_theory.specs.Joined.{Either, Left, Right, joined, beside}
use Rattle.circuit_theory.specs.Net.{IsNet}
use Rattle.circuit_theory.specs.Query.{Variable}
use Rattle.circuit_theory.specs.Tree.{Tree}
use Rattle.circuit_theory.proofs.Lists.{Contains-head, only}
use Rattle.circuit_laws.proofs.JoinedParts.{left_part, right_part, replace_left, replace_right, meets_both}
use Rattle.circuit_laws.proofs.NetLaws.{net_value, net_value-extends}
use Rattle.circuit_laws.proofs.Parts.{IsPart}
use Rattle.circuit_theory.specs.EventFits.{ReachesAlways}
use Rattle.circuit_theory.specs.EventFrames.{AreNodeVariables}
use Rattle.circuit_theory.specs.EventSizes.{Start}
use Rattle.circuit_theory.specs.EventTotals.{StartLatches}
use Rattle.circuit_theory.specs.Frame.{EventSide, ConeLatches}
use Rattle.circuit_laws.specs.event_laws.Sides.{UnfoldsAsPart}
use Rattle.circuit_laws.proofs.event_laws.SideTrees.{sides_unfold_in_nets}
use Rattle.class_search.specs.flat_net.Sound.{IsSound}
use Rattle.class_search.specs.flat_net.View.{circuit_of}
use Rattle.class_search.proofs.flat_net.Nets.{sound_is_net}
use Rattle.event_nodes.specs.Nodes.{EventGraphView, IsEventGraph, path_of}
use Rattle.event_nodes.specs.View.{EventCircuitView, IsEventCircuit, side_of, Enabled}
use Rattle.event_nodes.specs.Visited.{HoldsNodes}
use Rattle.class_search.specs.event_variables.Variables.{variables_of}
use Rattle.class_search.specs.event_variables.Laws.{IsSignalTree}
use Rattle.class_search.proofs.event_variables.Meaning.{signal_variables}
use Rattle.event_classes.specs.declared.event_functions.signals.SignalFunction.{SignalFunction}
use Rattle.event_classes.specs.event_functions.Functions.{IsFunctionOf, signal_start}
use Rattle.event_classes.proofs.event_functions.Covering.{two_roots, own_supports, care_supports}
use Rattle.edbf_unfold.proofs.CareMeaning.{care_value}
use Rattle.edbf_unfold.specs.class_queries.Enables.{both_of, class_map}
use Rattle.edbf_unfold.specs.class_queries.Laws.{AreKept}
use Rattle.edbf_unfold.proofs.class_queries.Meaning.{numbered}
use Rattle.event_form.specs.event_agreement.event_pairs.Functions.{IsEventFunction, AreNodesOf}
use Rattle.event_form.specs.event_agreement.event_pairs.Laws.{SignalsAreFunctions}
use Rattle.event_form.proofs.event_agreement.event_pairs.Unions.{node_by, reached_by}
use Rattle.event_form.proofs.event_agreement.event_pairs.Parts.{cone_from, cone_up, node_up, node_from, always_up, always_from, care_tree_up, care_tree_from}

through : {X Y Z : Type 0} → X ↔ Y → Y ↔ Z → X ↔ Z
through p q = (λ x. q.0 (p.0 x), λ z. p.1 (q.1 z))

-- the variables of the same trees are the same
wanted_same : (W V : Tree (List ℕ) → Type 0) (variables : List (Variable (List ℕ))) → ((t : Tree (List ℕ)) → W t ↔ V t) → AreNodeVariables W variables → AreNodeVariables V variables
wanted_same W V variables same are = record {
  in_order = are.in_order;
  exactly = λ y. (
    λ h. let k = (are.exactly y).0 h in (k.0, (same k.0).0 k.1, k.2),
    λ h. (are.exactly y).1 (h.0, (same h.0).1 h.1, h.2),
  );
}

-- what a circuit's unfolding gives for a signal is the signal's event function
module _ (e : EventCircuitView) (w : EventGraphView) (sound : IsSound e.net) (circuit : IsEventCircuit e) (is : IsEventGraph w) (p : ℕ) (r : SignalFunction) (function : IsFunctionOf e w p r) (holds : HoldsNodes e w.children (signal_start p)) where
  abbrev Cone : ℕ → Type 0
  Cone = ConeLatches (circuit_of e.net) p

  abbrev Begun : ℕ → Type 0
  Begun = StartLatches (side_of e) (signal_start p ∷ [])

  cone_begun : (v : ℕ) → Cone v → Begun v
  cone_begun v h = (signal_start p, Contains-head (signal_start p) [], h, tt)

  begun_cone : (v : ℕ) → Begun v → Cone v
  begun_cone v h = subst (λ (x : Start ℕ). ConeLatches (circuit_of e.net) x.place v) (sym (only (signal_start p) h.0 h.1)) h.2

  own_nodes : AreNodesOf (side_of e) Cone w.children r.nodes
  own_nodes = record {
    exactly = λ k. (
      λ h. (let n = (function.reach.nodes_are k).0 h in (n.0, node_by (side_of e) (Enabled e) Begun Cone begun_cone (path_of w.children k) n.1)),
      λ h. (function.reach.nodes_are k).1 (h.0, node_by (side_of e) (Enabled e) Cone Begun cone_begun (path_of w.children k) h.1),
    );
    made = λ path h. holds path (node_by (side_of e) (Enabled e) Cone Begun cone_begun path h);
  }

  own_only : (r.only_always ≡ true) ↔ ReachesAlways (side_of e) p
  own_only = (
    λ h node v reached. function.reach.only_is.0 h node v (reached_by (side_of e) (Enabled e) Cone Begun cone_begun node v reached),
    λ h. function.reach.only_is.1 (λ path v reached. h path v (reached_by (side_of e) (Enabled e) Begun Cone begun_cone path v reached)),
  )

  pub own_function : IsEventFunction (side_of e) w p r
  own_function = record {
    tree = function.value.tree;
    unfolds = function.value.unfolds;
    builds = function.value.builds;
    value_within = function.value.within;
    care_within = function.care.within;
    care_is = λ bits a fits. (care_value e w r.care.0 sound circuit is bits a fits).0 p function.care;
    in_order = function.vars.in_order;
    are_variables = signal_variables e w p r.vars function.value.tree sound circuit function.value.unfolds function.vars;
    covers = two_roots w is r.vars r.value.0 r.care.0 (own_supports e w (signal_start p) r.vars sound circuit is function.vars None r.value.0 refl function.value) (care_supports e w (signal_start p) r.vars sound circuit is function.vars r.care.0 function.care);
    nodes = own_nodes;
    only_is = own_only;
  }

-- and so it is where the circuit stands in another one with the same unfoldings
module _ {P R : Type 0} (c : Circuit P) (j : Circuit R) (f : P → R) (replace : (R → Bool) → (P → Bool) → R → Bool) (part : IsPart c j f replace) (some : R → Bool) (meets : Meets j some) (order orders : List ℕ) (class : R → ℕ) where
  abbrev own : EventSide P
  own = record { circuit = c; order = order; class = λ p. class (f p) }

  abbrev whole : EventSide R
  whole = record { circuit = j; order = orders; class = class }

  module _ (same : UnfoldsAsPart own whole f) (w : EventGraphView) (p : P) (r : SignalFunction) (k : IsEventFunction own w p r) where
    abbrev S : P → Type 0
    S = ConeLatches c p

    abbrev T : R → Type 0
    T = ConeLatches j (f p)

    start_from : (u : R) → T u → (v : P) × (f v ≡ u) × S v
    start_from u h = cone_from c j f replace part some meets order orders class p u h

    start_up : (v : P) → S v → T (f v)
    start_up v h = cone_up c j f replace part some meets order orders class p v h

    trees_same : (t : Tree (List ℕ)) → IsSignalTree own p t ↔ IsSignalTree whole (f p) t
    trees_same t = (up, from)
      where
        up : IsSignalTree own p t → IsSignalTree whole (f p) t
        up (inl h) = inl ((same.trees None p [] t).0 h)
        up (inr h) = inr (care_tree_up c j f replace part some meets order orders class S T start_up same.trees t h)

        from : IsSignalTree whole (f p) t → IsSignalTree own p t
        from (inl h) = inl ((same.trees None p [] t).1 h)
        from (inr h) = inr (care_tree_from c j f replace part some meets order orders class S T start_from same.trees t h)

    pub function_of_both : IsEventFunction whole w (f p) r
    function_of_both = record {
      tree = k.tree;
      unfolds = (same.trees None p [] k.tree).0 k.unfolds;
      builds = k.builds;
      value_within = k.value_within;
      care_within = k.care_within;
      care_is = λ bits a fits. through (k.care_is bits a fits) (same.cares p bits);
      in_order = k.in_order;
      are_variables = wanted_same (IsSignalTree own p) (IsSignalTree whole (f p)) (variables_of w r.vars) trees_same k.are_variables;
      covers = k.covers;
      nodes = record {
        exactly = λ i. (
          λ h. (let n = (k.nodes.exactly i).0 h in (n.0, node_up c j f replace part some meets order orders class S T start_up (path_of w.children i) n.1)),
          λ h. (k.nodes.exactly i).1 (h.0, node_from c j f replace part some meets order orders class S T start_from (path_of w.children i) h.1),
        );
        made = λ path h. k.nodes.made path (node_from c j f replace part some meets order orders class S T start_from path h);
      };
      only_is = (
        λ h. always_up c j f replace part some meets order orders class S T start_from (k.only_is.0 h),
        λ h. k.only_is.1 (always_from c j f replace part some meets order orders class S T start_up h),
      );
    }

module _ (a b : EventCircuitView) (w : EventGraphView) (kept : AreKept a b w) where
  abbrev ca : Circuit ℕ
  ca = circuit_of a.net

  abbrev cb : Circuit ℕ
  cb = circuit_of b.net

  na : IsNet ca (length a.net.drivers)
  na = sound_is_net a.net kept.left_sound

  nb : IsNet cb (length b.net.drivers)
  nb = sound_is_net b.net kept.right_sound

  some : Either ℕ ℕ → Bool
  some = beside (net_value ca (λ p. false)) (net_value cb (λ q. false))

  meets : Meets (joined ca cb) some
  unfolding some
  meets = meets_both ca cb (net_value ca (λ p. false)) (net_value cb (λ q. false)) (net_value-extends ca (length a.net.drivers) na (λ p. false)).meets (net_value-extends cb (length b.net.drivers) nb (λ q. false)).meets

  both : UnfoldsAsPart (side_of a) (both_of a b) Left × UnfoldsAsPart (side_of b) (both_of a b) Right
  both = sides_unfold_in_nets ca cb (length a.net.drivers) (length b.net.drivers) a.order b.order (class_map a b) na nb (numbered a kept.left)

  pub left_function : (p : ℕ) (r : SignalFunction) → IsFunctionOf a w p r → HoldsNodes a w.children (signal_start p) → IsEventFunction (both_of a b) w (Left p) r
  left_function p r function holds = function_of_both ca (joined ca cb) Left (replace_left ca cb) (left_part ca cb) some meets a.order (a.order ++ b.order) (class_map a b) both.0 w p r (own_function a w kept.left_sound kept.left kept.events p r function holds)

  pub right_function : (q : ℕ) (r : SignalFunction) → IsFunctionOf b w q r → HoldsNodes b w.children (signal_start q) → IsEventFunction (both_of a b) w (Right q) r
  right_function q r function holds = function_of_both cb (joined ca cb) Right (replace_right ca cb) (right_part ca cb) some meets b.order (a.order ++ b.order) (class_map a b) both.1 w q r (own_function b w kept.right_sound kept.right kept.events q r function holds)

pub signals_are_both : SignalsAreFunctions
signals_are_both a b w kept = (left_function a b w kept, right_function a b w kept)
