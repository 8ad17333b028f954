-- How the literal of a signal in a frame follows from those that it reads, and stays while the event graph grows.
use Rattle.std.proofs.Common.{◌≡◌, ◌∙◌, ◌*◌, ◌<◌, ◌≤◌, ℕ, Bool, true, false, List, [], ◌∷◌, length, map, slice_get, Option, Some, None, refl, sym, ap, subst, arith, inl, inr}
use Rattle.std.specs.Prelude.{◌⊎◌}
use Rattle.std.specs.List.{AllZip, Contains}
use Rattle.std.proofs.lemmas.Option.{slice_get_within}
use Rattle.circuit_theory.specs.Cover.{Cover}
use Rattle.circuit_theory.specs.Circuit.{Gate as gate_equation, IsLatch, Reads, Reaches}
use Rattle.circuit_theory.proofs.Lists.{Contains-head, Contains-tail}
use Rattle.circuit_theory.specs.Tree.{Tree, Trees, Leaf, Fixed, Branch, Nil, Cons, IsInputNumber}
use Rattle.circuit_theory.specs.Frame.{EventUnfolds, EventUnfoldsAll, NotPut}
use Rattle.circuit_theory.proofs.Numbers.{slice_get-map}
use Rattle.event_nodes.specs.flat_net.Signal.{Signal}
use Rattle.event_nodes.specs.flat_net.View.{circuit_of}
use Rattle.event_nodes.specs.Lit.{Lit}
use Rattle.event_nodes.specs.Node.TheVariants.{Input}
use Rattle.event_nodes.specs.Graph.{IsLitOf}
use Rattle.event_nodes.specs.Rules.{IsCoverOf}
use Rattle.event_nodes.specs.Builds.{Builds, BuildsAll}
use Rattle.event_nodes.proofs.Growth.{Grows-length, Builds-grows}
use Rattle.edbf_unfold.specs.declared.event_literals.event_walk.frames.Frame.{Frame}
use Rattle.edbf_unfold.specs.declared.event_literals.event_walk.frames.Put.{Put}
use Rattle.edbf_unfold.specs.declared.event_literals.event_walk.frames.Put.TheVariants.{Free, Low, High}
use Rattle.event_nodes.specs.Nodes.{EventGraphView, path_of, named_places, IsEventGraph, GrowsEvents}
use Rattle.event_nodes.specs.View.{EventCircuitView, side_of, Enabled}
use Rattle.edbf_unfold.specs.event_literals.event_walk.Ready.{put_of, IsOnward, IsFreeOf}
use Rattle.edbf_unfold.specs.event_literals.Known.{IsKnownAt, IsKnownIn}
use Rattle.event_nodes.proofs.Paths.{path_grows, child_path, named_grows}

pub builds_later : (w v : EventGraphView) → IsEventGraph w → GrowsEvents w v → (tree : Tree (List ℕ)) (x : ℕ) → Builds w.graph (named_places w) tree x → Builds v.graph (named_places v) tree x
builds_later w v is grows tree x builds =
    let more = named_grows w v is grows in
    subst (λ (ps : List (ℕ × List ℕ)). Builds v.graph ps tree x) (sym more.1) (Builds-grows w.graph v.graph grows.graph (named_places w) more.0 tree x builds)

pub known_at_later : (e : EventCircuitView) (w v : EventGraphView) → IsEventGraph w → GrowsEvents w v → (put : Option (ℕ × Bool)) (p : ℕ) (path : List ℕ) (x : ℕ) → IsKnownAt e w put p path x → IsKnownAt e v put p path x
known_at_later e w v is grows put p path x k =
    record { tree = k.tree; unfolds = k.unfolds; builds = builds_later w v is grows k.tree x k.builds; within = omega (arith, k.within, Grows-length w.graph v.graph grows.graph) }

pub known_later : (e : EventCircuitView) (w v : EventGraphView) → IsEventGraph w → GrowsEvents w v → (f : Frame) (p x : ℕ) → f.node ≤ length w.children → IsKnownIn e w f p x → IsKnownIn e v f p x
known_later e w v is grows f p x inside k =
    let path : path_of v.children f.node ≡ path_of w.children f.node = ap (λ (es : List (ℕ × ℕ)). path_of es f.node) grows.children.1 ∙ path_grows w.children grows.children.0 f.node inside in
    subst (λ (l : List ℕ). IsKnownAt e v (put_of f.put) p l x) (sym path) (known_at_later e w v is grows (put_of f.put) p (path_of w.children f.node) x k)

module _ (e : EventCircuitView) (w : EventGraphView) (f : Frame) where
  -- an input is its variable at the node
  pub known_input : (p x number v : ℕ) → IsInputNumber (circuit_of e.net) e.order p number → slice_get w.places v ≡ Some (number, f.node) → IsLitOf w.graph (Input v) x → x < 2 * length w.graph → IsKnownIn e w f p x
  known_input p x number v numbered at lit within =
      record {
        tree = Leaf number (path_of w.children f.node);
        unfolds = EventUnfolds.input numbered;
        builds = (v, slice_get-map (λ (q : ℕ × ℕ). (q.0, path_of w.children q.1)) w.places v (number, f.node) at, lit);
        within = within;
      }

  -- the latch that is put is a constant
  some_node : IsEventGraph w → 0 < length w.graph
  some_node is = slice_get_within w.graph 0 _ is.is_graph.constant

  pub known_low : IsEventGraph w → (u : ℕ) → f.put ≡ Low u → IsKnownIn e w f u 0
  known_low is u put =
      record {
        tree = Fixed false;
        unfolds = subst (λ (o : Put). EventUnfolds (side_of e) (Enabled e) (put_of o) u (path_of w.children f.node) (Fixed false)) (sym put) EventUnfolds.fixed;
        builds = refl;
        within = omega (arith, some_node is);
      }

  pub known_high : IsEventGraph w → (u : ℕ) → f.put ≡ High u → IsKnownIn e w f u 1
  known_high is u put =
      record {
        tree = Fixed true;
        unfolds = subst (λ (o : Put). EventUnfolds (side_of e) (Enabled e) (put_of o) u (path_of w.children f.node) (Fixed true)) (sym put) EventUnfolds.fixed;
        builds = refl;
        within = omega (arith, some_node is);
      }

  -- another latch is its data at the child by its class, an enabled one with itself put to 0 there
  pub known_onward : IsEventGraph w → (u next x : ℕ) (name : List ℕ) (g : Frame) → IsLatch (circuit_of e.net) name u next → NotPut (put_of f.put) u → IsOnward e w.children u f g → IsKnownIn e w g next x → IsKnownIn e w f u x
  known_onward is u next x name g latch free onward k = go onward.own
    where
      path : path_of w.children g.node ≡ (side_of e).class u ∷ path_of w.children f.node
      path = child_path w.children is.is_tree f.node ((side_of e).class u) g.node onward.child

      below : (put : Put) → g.put ≡ put → EventUnfolds (side_of e) (Enabled e) (put_of put) next ((side_of e).class u ∷ path_of w.children f.node) k.tree
      below put same =
          subst (λ (l : List ℕ). EventUnfolds (side_of e) (Enabled e) (put_of put) next l k.tree) path (subst (λ (o : Put). EventUnfolds (side_of e) (Enabled e) (put_of o) next (path_of w.children g.node) k.tree) same k.unfolds)

      go : (Enabled e u × (g.put ≡ Low u)) ⊎ ((Enabled e u → ⊥) × (g.put ≡ Free)) → IsKnownIn e w f u x
      go (inl h) = record { tree = k.tree; unfolds = EventUnfolds.held latch free h.0 (below (Low u) h.1); builds = k.builds; within = k.within }
      go (inr h) = record { tree = k.tree; unfolds = EventUnfolds.plain latch free h.0 (below Free h.1); builds = k.builds; within = k.within }

  -- the trees of fan-ins, with their literals
  pub record AreTrees (fanins fs : List ℕ) : Type 0 where
    pub trees : Trees (List ℕ)
    pub unfolds : EventUnfoldsAll (side_of e) (Enabled e) (put_of f.put) fanins (path_of w.children f.node) trees
    pub builds : BuildsAll w.graph (named_places w) trees fs

  pub are_trees : (fanins : List Signal) (lits : List Lit) → AllZip (λ s x. IsKnownIn e w f s.0 x.0) fanins lits → AreTrees (map (λ s. s.0) fanins) (map (λ x. x.0) lits)
  are_trees [] [] h = record { trees = Nil; unfolds = EventUnfoldsAll.none; builds = refl }
  are_trees [] (x ∷ lits) h = absurd h
  are_trees (s ∷ fanins) [] h = absurd h
  are_trees (s ∷ fanins) (x ∷ lits) h =
      let rest = are_trees fanins lits h.1 in
      record { trees = Cons h.0.tree rest.trees; unfolds = EventUnfoldsAll.more h.0.unfolds rest.unfolds; builds = (x.0, map (λ y. y.0) lits, h.0.builds, rest.builds, refl) }

  -- a gate is its cover of the fan-ins
  pub known_gate : (s x : ℕ) (fanins : List Signal) (cover : Cover) (lits : List Lit) → Contains (circuit_of e.net).equations (gate_equation s (map (λ k. k.0) fanins) cover) →
      AllZip (λ k y. IsKnownIn e w f k.0 y.0) fanins lits → IsCoverOf w.graph cover (map (λ y. y.0) lits) x → x < 2 * length w.graph → IsKnownIn e w f s x
  known_gate s x fanins cover lits stands known built within =
      let trees = are_trees fanins lits known in
      record { tree = Branch cover trees.trees; unfolds = EventUnfolds.gate stands trees.unfolds; builds = (map (λ y. y.0) lits, trees.builds, built); within = within }

-- Under a latch that isn't reached a signal unfolds as without one.
module _ (e : EventCircuitView) (u : ℕ) (bit : Bool) where
  no_put : {x : ℕ × Bool} → ◌≡◌ {A = Option (ℕ × Bool)} (Some x) None → ⊥
  no_put e = cc

  mutual
    unput : {put : Option (ℕ × Bool)} {p : ℕ} {node : List ℕ} {tree : Tree (List ℕ)} → put ≡ None → (Reaches (circuit_of e.net) p u → ⊥) → EventUnfolds (side_of e) (Enabled e) put p node tree → EventUnfolds (side_of e) (Enabled e) (Some (u, bit)) p node tree
    unput none away (EventUnfolds.input i) = EventUnfolds.input i
    unput none away (EventUnfolds.gate stands all) = EventUnfolds.gate stands (unput_all none (λ q k reach. away (Reaches.there (Reads.by_gate stands k) reach)) all)
    unput none away (EventUnfolds.port stands rest) = EventUnfolds.port stands (unput none (λ reach. away (Reaches.there (Reads.by_port stands) reach)) rest)
    unput none away (EventUnfolds.plain latch free off rest) = EventUnfolds.plain latch (λ same. away (subst (Reaches (circuit_of e.net) _) same Reaches.here)) off rest
    unput none away (EventUnfolds.held latch free on rest) = EventUnfolds.held latch (λ same. away (subst (Reaches (circuit_of e.net) _) same Reaches.here)) on rest
    unput none away EventUnfolds.fixed = absurd (no_put none)

    unput_all : {put : Option (ℕ × Bool)} {ps : List ℕ} {node : List ℕ} {trees : Trees (List ℕ)} → put ≡ None → ((q : ℕ) → Contains ps q → Reaches (circuit_of e.net) q u → ⊥) → EventUnfoldsAll (side_of e) (Enabled e) put ps node trees → EventUnfoldsAll (side_of e) (Enabled e) (Some (u, bit)) ps node trees
    unput_all none away EventUnfoldsAll.none = EventUnfoldsAll.none
    unput_all none away (EventUnfoldsAll.more {p = p} {ps = ps} first rest) = EventUnfoldsAll.more (unput none (away p (Contains-head p ps)) first) (unput_all none (λ q k. away q (Contains-tail p q ps k)) rest)

-- So a signal that doesn't reach the latch that is put has there the literal that it has without one.
pub free_known : (e : EventCircuitView) (w : EventGraphView) (node : ℕ) (put : Put) (p x : ℕ) → IsFreeOf e.net put p → IsKnownIn e w (record { node = node; put = Free }) p x → IsKnownIn e w (record { node = node; put = put }) p x
free_known e w node Free p x away k = k
free_known e w node (Low u) p x away k = record { tree = k.tree; unfolds = unput e u false refl away k.unfolds; builds = k.builds; within = k.within }
free_known e w node (High u) p x away k = record { tree = k.tree; unfolds = unput e u true refl away k.unfolds; builds = k.builds; within = k.within }
