-- What one place more does to a walk.
use Rattle.std.proofs.Common.{◌≡◌, ◌∙◌, ◌+◌, ◌<◌, ◌≤◌, ℕ, List, [], ◌∷◌, length, slice_get, Some, Result, Ok, Err, refl, sym, ap, subst, arith, inl, inr}
use Rattle.std.specs.Prelude.{◌⊎◌}
use Rattle.std.specs.List.{Contains}
use Rattle.std.proofs.lemmas.Option.{slice_get_within}
use Rattle.circuit_theory.specs.Circuit.{Reads}
use Rattle.circuit_theory.specs.EventSizes.{Start}
use Rattle.circuit_theory.specs.EventTotals.{StartLatches}
use Rattle.circuit_theory.specs.Frame.{NotPut, IsNode}
use Rattle.event_nodes.specs.flat_net.Signal.{Signal}
use Rattle.event_nodes.specs.flat_net.Gate.{Gate}
use Rattle.event_nodes.specs.flat_net.LatchAt.{LatchAt}
use Rattle.event_nodes.specs.flat_net.Driver.TheVariants as driver
use Rattle.event_nodes.specs.flat_net.Sound.{IsSound}
use Rattle.event_nodes.specs.flat_net.View.{NetView, circuit_of}
use Rattle.event_nodes.proofs.flat_net.Places.{one_at}
use Rattle.event_nodes.specs.declared.error.EventUnfoldError.{EventUnfoldError}
use Rattle.event_nodes.specs.declared.error.EventUnfoldError.TheVariants as unfold_error
use Rattle.event_nodes.specs.Adds.{Adds}
use Rattle.event_nodes.specs.Nodes.{EventGraphView, IsTree, IsChild, GrowsEvents, path_of}
use Rattle.event_nodes.specs.View.{EventCircuitView, side_of, Enabled}
use Rattle.event_nodes.specs.Visited.{AreNodesFrom, places_weight}
use Rattle.event_nodes.proofs.flat_net.Drivers.{latch_out, latch_equation_stands, latch_within, reads_lower}
use Rattle.event_nodes.proofs.Lists.{adds_none, adds_weaker, adds_cases, adds_at}
use Rattle.event_nodes.proofs.Paths.{child_path, path_grows}
use Rattle.edbf_unfold.specs.declared.event_literals.event_walk.frames.Frame.{Frame}
use Rattle.edbf_unfold.specs.event_literals.event_walk.Ready.{EventWalkerView, put_of}
use Rattle.edbf_unfold.specs.event_literals.event_walk.Walk.{IsSeen, IsExpanded, IsEntry, IsVisitedPlace, IsStep, IsRefused, AreReadIn, IsReadPlace, IsOwnPlace}
use Rattle.edbf_unfold.specs.declared.event_literals.event_walk.frames.Ways.{Ways}
use Rattle.event_nodes.proofs.Growing.{grows_refl}
use Rattle.edbf_unfold.proofs.event_literals.event_walk.Expanding.{gate_expanded, entry_visited, latch_node, reads_visited}
use Rattle.edbf_unfold.proofs.event_literals.event_walk.Opening.{opened_none, opened_one, fanins_seen, entry_seen}
use Rattle.edbf_unfold.proofs.event_literals.event_walk.Owning.{fanins_own, entry_own}

pub nodes_none : (e : EventCircuitView) (children : List (ℕ × ℕ)) (s : Start ℕ) → AreNodesFrom e children s (length children)
nodes_none e children s k n class from at = absurd (let inside = slice_get_within children k (n, class) at in omega (arith, inside, from))

-- nothing changes
pub step_none : (u : EventWalkerView) (w : EventGraphView) (p : ℕ × ℕ) (old : List (ℕ × ℕ)) → IsStep u u w w p old old
step_none u w p old = record {
  opened = opened_none u w 1;
  seen = adds_none (IsSeen u.circuit u.frames w.children) old old refl;
  own = λ root beside is. adds_none (IsOwnPlace u.circuit.net u.frames root beside) old old refl;
  visits = λ s visited. (adds_none (IsVisitedPlace u.circuit u.frames w.children s) old old refl, nodes_none u.circuit w.children s);
}

-- a gate's fan-ins, with a frame more
module _ (u v : EventWalkerView) (w : EventGraphView) (sound : IsSound u.circuit.net) (same : v ≡ record u { frames = v.frames }) (adds : Adds (λ f. Unit {0}) u.frames v.frames) (p : ℕ × ℕ) (fanins : List Signal) (old new : List (ℕ × ℕ)) (seen : IsSeen u.circuit u.frames w.children p) where
  one_circuit : v.circuit ≡ u.circuit
  one_circuit = ap (λ (k : EventWalkerView). k.circuit) same

  pub step_gate : length v.frames ≤ length u.frames + 1 → ((f : Signal) → Contains fanins f → Reads (circuit_of u.circuit.net) p.1 f.0) → Adds (IsReadPlace u.circuit.net v.frames seen.0 p.0 fanins) old new → IsStep u v w w p old new
  step_gate few read places = record {
    opened = record { circuit = one_circuit; frames = adds; grows = grows_refl w; graph = refl; places = refl; few_frames = omega (arith, few) };
    seen = subst (λ (e : EventCircuitView). Adds (IsSeen e v.frames w.children) old new) (sym one_circuit)
        (adds_weaker (IsReadPlace u.circuit.net v.frames seen.0 p.0 fanins) (IsSeen u.circuit v.frames w.children) old new
        (fanins_seen u.circuit u.frames v.frames w.children p fanins seen adds (λ f h. reads_lower u.circuit.net sound p.1 f.0 (read f h))) places);
    own = λ root beside is.
        subst (λ (e : EventCircuitView). Adds (IsOwnPlace e.net v.frames root beside) old new) (sym one_circuit)
        (adds_weaker (IsReadPlace u.circuit.net v.frames seen.0 p.0 fanins) (IsOwnPlace u.circuit.net v.frames root beside) old new
        (fanins_own u.circuit.net u.frames v.frames adds p seen.0 seen.1 fanins read root beside is) places);
    visits = λ s visited. (
      subst (λ (e : EventCircuitView). Adds (IsVisitedPlace e v.frames w.children s) old new) (sym one_circuit)
          (adds_weaker (IsReadPlace u.circuit.net v.frames seen.0 p.0 fanins) (IsVisitedPlace u.circuit v.frames w.children s) old new
          (reads_visited u.circuit u.frames v.frames w.children s p visited adds seen.0 seen.1 fanins read) places),
      nodes_none u.circuit w.children s,
    );
  }

  pub gate_goes_on : (j : ℕ) (ways : Ways) (g : Gate) → slice_get u.circuit.net.drivers p.1 ≡ Some (driver.Gate j) → slice_get u.circuit.net.gates j ≡ Some g → fanins ≡ g.fanins → AreReadIn u.circuit.net v.frames seen.0 p.0 ways.onward new fanins →
      IsExpanded v.circuit v.frames w.children new p ways
  gate_goes_on j ways g drives at are all =
      subst (λ (e : EventCircuitView). IsExpanded e v.frames w.children new p ways) (sym one_circuit)
      (gate_expanded u.circuit sound v.frames w.children new p (seen.0, adds_at (λ (f : Frame). Unit {0}) u.frames v.frames p.0 seen.0 adds seen.1, seen.2, seen.3) j ways g fanins drives at are all)

-- a latch's child, and the frames there
module _ (u : EventWalkerView) (sound : IsSound u.circuit.net) (w x : EventGraphView) (tree : IsTree x.children) (grows : GrowsEvents w x) (is : x ≡ record w { children = x.children }) (p : ℕ × ℕ) (seen : IsSeen u.circuit u.frames w.children p) (j : ℕ) (l : LatchAt)
    (drives : slice_get u.circuit.net.drivers p.1 ≡ Some (driver.Latch j)) (on : slice_get u.circuit.net.latches j ≡ Some l) (frame : Frame) (at : slice_get u.frames p.0 ≡ Some frame) (free : NotPut (put_of frame.put) p.1) (child class : ℕ)
    (is_child : IsChild x.children frame.node class child) (class_is : (side_of u.circuit).class l.out.0 ≡ class) (one_child : Adds (λ q. q ≡ (frame.node, class)) w.children x.children) where
  out : l.out.0 ≡ p.1
  out = latch_out u.circuit.net sound p.1 j drives l on

  own_class : class ≡ (side_of u.circuit).class p.1
  own_class = sym class_is ∙ ap (side_of u.circuit).class out

  inside : frame.node ≤ length w.children
  inside = subst (λ (f : Frame). f.node ≤ length w.children) (one_at u.frames p.0 seen.0 frame seen.1 at) seen.2

  parent : path_of x.children frame.node ≡ path_of w.children frame.node
  parent = ap (λ (es : List (ℕ × ℕ)). path_of es frame.node) grows.children.1 ∙ path_grows w.children grows.children.0 frame.node inside

  path : path_of x.children child ≡ (side_of u.circuit).class p.1 ∷ path_of w.children frame.node
  path = child_path x.children tree frame.node class child is_child ∙ (ap (λ (k : ℕ). k ∷ path_of x.children frame.node) own_class ∙ ap (λ (n : List ℕ). (side_of u.circuit).class p.1 ∷ n) parent)

  made : child ≤ length x.children
  made = let k = slice_get_within x.children is_child.0 (frame.node, class) is_child.2 in omega (arith, k, is_child.1)

  nodes : (s : Start ℕ) → IsVisitedPlace u.circuit u.frames w.children s p → AreNodesFrom u.circuit x.children s (length w.children)
  nodes s visited k n c from at_k = go (adds_cases (λ (q : ℕ × ℕ). q ≡ (frame.node, class)) w.children x.children k (n, c) one_child at_k)
    where
      here : IsNode (side_of u.circuit) (Enabled u.circuit) (StartLatches (side_of u.circuit) (s ∷ [])) (class ∷ path_of x.children frame.node)
      here =
          subst (λ (m : List ℕ). IsNode (side_of u.circuit) (Enabled u.circuit) (StartLatches (side_of u.circuit) (s ∷ [])) (class ∷ m)) (sym parent)
          (subst (λ (i : ℕ). IsNode (side_of u.circuit) (Enabled u.circuit) (StartLatches (side_of u.circuit) (s ∷ [])) (i ∷ path_of w.children frame.node)) (sym own_class)
          (latch_node u.circuit sound u.frames w.children [] p seen j l drives on s visited frame at free))

      go : (slice_get w.children k ≡ Some (n, c)) ⊎ ((length w.children ≤ k) × ◌≡◌ {A = ℕ × ℕ} (n, c) (frame.node, class)) → IsNode (side_of u.circuit) (Enabled u.circuit) (StartLatches (side_of u.circuit) (s ∷ [])) (c ∷ path_of x.children n)
      go (inl old) = absurd (let k_inside = slice_get_within w.children k (n, c) old in omega (arith, k_inside, from))
      go (inr new) = subst (λ (q : ℕ × ℕ). IsNode (side_of u.circuit) (Enabled u.circuit) (StartLatches (side_of u.circuit) (s ∷ [])) (q.1 ∷ path_of x.children q.0)) (sym new.1) here

  step_own : (frames : List Frame) → Adds (λ f. Unit {0}) u.frames frames → length frames ≤ length u.frames + 2 → (old new : List (ℕ × ℕ)) → Adds (IsEntry u.circuit frames child l) old new → IsStep u (record { circuit = u.circuit; frames = frames }) w x p old new
  step_own frames adds few old new entries = record {
    opened = opened_one u u refl w x grows is frames adds few;
    seen = adds_weaker (IsEntry u.circuit frames child l) (IsSeen u.circuit frames x.children) old new
        (entry_seen u.circuit frames x.children frame.node class child is_child l (latch_within u.circuit.net sound l.name p.1 l.next.0 (latch_equation_stands u.circuit.net sound p.1 j drives l on))) entries;
    own = λ root beside is. adds_weaker (IsEntry u.circuit frames child l) (IsOwnPlace u.circuit.net frames root beside) old new (entry_own u.circuit sound j l on frames child root beside) entries;
    visits = λ s visited. (
      adds_weaker (IsEntry u.circuit frames child l) (IsVisitedPlace u.circuit frames x.children s) old new
          (entry_visited u.circuit sound u.frames w.children [] p seen j l drives on s visited frame at free frames x.children child path made) entries,
      nodes s visited,
    );
  }

  -- seen through the walker's parts
  pub step_latch : (i : EventWalkerView) → i ≡ u → (frames : List Frame) → Adds (λ f. Unit {0}) i.frames frames → length frames ≤ length i.frames + 2 → (old new : List (ℕ × ℕ)) → Adds (IsEntry i.circuit frames child l) old new →
      IsStep u (record { circuit = i.circuit; frames = frames }) w x p old new
  step_latch i same frames adds few old new entries =
      subst (λ (k : EventWalkerView). IsStep u (record { circuit = k.circuit; frames = frames }) w x p old new) (sym same)
      (step_own frames (subst (λ (k : EventWalkerView). Adds (λ (f : Frame). Unit {0}) k.frames frames) same adds) (subst (λ (k : EventWalkerView). length frames ≤ length k.frames + 2) same few) old new
      (subst (λ (k : EventWalkerView). Adds (IsEntry k.circuit frames child l) old new) same entries))

  -- the child alone
  pub step_child : (old : List (ℕ × ℕ)) → IsStep u u w x p old old
  step_child old = step_own u.frames (adds_none (λ (f : Frame). Unit {0}) u.frames u.frames refl) (omega arith) old old (adds_none (IsEntry u.circuit u.frames child l) old old refl)

-- a child that couldn't be had
pub step_same : (u : EventWalkerView) (w x : EventGraphView) (p : ℕ × ℕ) (old : List (ℕ × ℕ)) → x ≡ w → IsStep u u w x p old old
step_same u w x p old same = subst (λ (y : EventGraphView). IsStep u u w y p old old) (sym same) (step_none u w p old)

no_memory_large : unfold_error.NoMemory ≡ unfold_error.TooLarge → ⊥
no_memory_large e = cc

no_memory_many : unfold_error.NoMemory ≡ unfold_error.TooManyEvents → ⊥
no_memory_many e = cc

same_error : {X : Type 0} (e f : EventUnfoldError) → ◌≡◌ {A = Result X EventUnfoldError} (Err e) (Err f) → e ≡ f
same_error e f q = cc

-- a value is no refusal
pub ok_apart : {X P : Type 0} (v : X) (e : EventUnfoldError) → ◌≡◌ {A = Result X EventUnfoldError} (Ok v) (Err e) → P
ok_apart v e q = cc

pub many_apart : {X : Type 0} → ◌≡◌ {A = Result X EventUnfoldError} (Err unfold_error.TooManyEvents) (Err unfold_error.TooLarge) → ⊥
many_apart q = cc

-- want of memory is neither of the two
pub refused_memory : {X : Type 0} (n : NetView) (children counted : List (ℕ × ℕ)) → IsRefused {X = X} n children counted (Err unfold_error.NoMemory)
refused_memory {X} n children counted = record {
  many = λ q. absurd (no_memory_many (same_error {X = X} unfold_error.NoMemory unfold_error.TooManyEvents q));
  large = λ q. absurd (no_memory_large (same_error {X = X} unfold_error.NoMemory unfold_error.TooLarge q));
}

pub refused_ok : {X : Type 0} (n : NetView) (children counted : List (ℕ × ℕ)) (v : X) → IsRefused {X = X} n children counted (Ok v)
refused_ok n children counted v = record { many = λ q. cc; large = λ q. cc }

-- from what a call says of its refusals, whatever it gives otherwise
pub refused_on : {X Y : Type 0} (n : NetView) (children counted : List (ℕ × ℕ)) (e : EventUnfoldError) → (◌≡◌ {A = Result X EventUnfoldError} (Err e) (Err unfold_error.TooManyEvents) → 10000 ≤ length children) →
    (◌≡◌ {A = Result X EventUnfoldError} (Err e) (Err unfold_error.TooLarge) → 2000000 < places_weight n counted) → IsRefused {X = Y} n children counted (Err e)
refused_on {X} {Y} n children counted e many large = record {
  many = λ q. many (ap Err (same_error {X = Y} e unfold_error.TooManyEvents q));
  large = λ q. large (ap Err (same_error {X = Y} e unfold_error.TooLarge q));
}

-- from what a call says of its refusals
pub refused_by : {X : Type 0} (n : NetView) (children counted : List (ℕ × ℕ)) (r : Result X EventUnfoldError) → (r ≡ Err unfold_error.TooManyEvents → 10000 ≤ length children) → (r ≡ Err unfold_error.TooLarge → 2000000 < places_weight n counted) → IsRefused n children counted r
refused_by n children counted r many large = record { many = many; large = large }
