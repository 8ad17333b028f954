-- The literal of a step, by what drives its signal.
use Rattle.std.proofs.Common.{◌≡◌, ◌+◌, ◌*◌, ◌<◌, ◌≤◌, max, ℕ, List, [], ◌∷◌, ◌++◌, length, map, take, get_or, slice_get, Some, Result, Ok, Err, IfOk, IfSome, refl, sym, ap, subst, arith, inl, inr}
use Rattle.std.specs.Prelude.{◌⊎◌}
use Rattle.std.specs.List.{All, AllZip, Contains}
use Rattle.std.proofs.lemmas.List.{take_more}
use Rattle.std.proofs.lemmas.List.Elements.{All-nil, All-cons}
use Rattle.std.proofs.Math.Nat.{mul-le-mul_right}
use Rattle.circuit_theory.specs.Tree.{IsInputNumber}
use Rattle.circuit_theory.specs.Cover.{Cover}
use Rattle.circuit_theory.specs.Frame.{NotPut}
use Rattle.circuit_theory.proofs.Lists.{All-from_each, zip_push, Contains-head, Contains-tail}
use Rattle.circuit_theory.proofs.Numbers.{at_beside, slice_get-map}
use Rattle.event_nodes.specs.flat_net.Signal.{Signal}
use Rattle.event_nodes.specs.flat_net.Gate.{Gate}
use Rattle.event_nodes.specs.flat_net.LatchAt.{LatchAt}
use Rattle.event_nodes.specs.flat_net.Driver.TheVariants as driver
use Rattle.event_nodes.specs.flat_net.View.{named, circuit_of, cover_of}
use Rattle.event_nodes.specs.flat_net.Sound.{IsSound}
use Rattle.event_nodes.proofs.flat_net.Places.{one_at}
use Rattle.event_nodes.specs.Lit.{Lit}
use Rattle.event_nodes.specs.Node.{Node}
use Rattle.event_nodes.specs.Graph.{IsLitOf}
use Rattle.event_nodes.specs.Node.TheVariants.{Input}
use Rattle.event_nodes.specs.Rules.{IsCoverOf, cover_room}
use Rattle.edbf_unfold.specs.declared.event_literals.event_walk.frames.Frame.{Frame}
use Rattle.edbf_unfold.specs.declared.event_literals.event_walk.frames.Put.TheVariants.{Free, Low, High}
use Rattle.edbf_unfold.specs.declared.event_literals.event_walk.frames.Step.{Step}
use Rattle.event_nodes.specs.Nodes.{EventGraphView, IsEventGraph, GrowsEvents}
use Rattle.event_nodes.specs.View.{EventCircuitView}
use Rattle.edbf_unfold.specs.event_literals.Known.{EventUnfolderView, IsKnownIn, AreKnown, IsMet, IsReady, HasGrown, IsInputLit, IsReadLit, IsGateLit}
use Rattle.edbf_unfold.specs.event_literals.event_walk.Ready.{put_of, IsMetIn}
use Rattle.event_nodes.specs.flat_net.Weights.{gate_weight}
use Rattle.event_nodes.proofs.flat_net.Drivers.{driven_gate, gate_equation_stands, gate_reads_to, latch_equation_stands}
use Rattle.edbf_unfold.proofs.event_literals.Known.{known_later, known_input, known_low, known_high, known_onward, known_gate, free_known}
use Rattle.event_nodes.proofs.Growing.{grows_refl}

-- a pair of lists with one element more each
pub zip_more_left : {X Y : Type 0} (R : X → Y → Type 0) (xs : List X) (ys : List Y) (i : ℕ) (d : X) (y : Y) → i < length xs → AllZip R (take i xs) ys → R (get_or xs i d) y → AllZip R (take (i + 1) xs) (ys ++ y ∷ [])
zip_more_left R xs ys i d y inside zip here = subst (λ l. AllZip R l (ys ++ y ∷ [])) (sym (take_more xs i d inside)) (zip_push R (take i xs) ys (get_or xs i d) y zip here)

-- what follows for each element on the right
pub zip_all : {X Y : Type 0} (R : X → Y → Type 0) (P : Y → Type 0) → ((x : X) (y : Y) → R x y → P y) → (xs : List X) (ys : List Y) → AllZip R xs ys → All P ys
zip_all R P f [] [] h = All-nil P
zip_all R P f [] (y ∷ ys) h = absurd h
zip_all R P f (x ∷ xs) [] h = absurd h
zip_all R P f (x ∷ xs) (y ∷ ys) h = All-cons P y ys (f x y h.0) (zip_all R P f xs ys h.1)

-- what follows for pairs of both lists, where the left one is an element of its list
pub zip_among : {X Y : Type 0} (R S : X → Y → Type 0) (xs : List X) (ys : List Y) → ((x : X) (y : Y) → Contains xs x → R x y → S x y) → AllZip R xs ys → AllZip S xs ys
zip_among R S [] [] f h = h
zip_among R S [] (y ∷ ys) f h = absurd h
zip_among R S (x ∷ xs) [] f h = absurd h
zip_among R S (x ∷ xs) (y ∷ ys) f h = (f x y (Contains-head x xs) h.0, zip_among R S xs ys (λ a b k r. f a b (Contains-tail x a xs k) r) h.1)

-- a gate's room is within what it counts
pub cover_within_weight : (covers : List Cover) (g : Gate) (cover : Cover) → cover_of covers g ≡ cover → cover.width ≡ length g.fanins → cover_room cover + 1 ≤ gate_weight covers (Some g)
cover_within_weight covers g cover is width =
    let weight : gate_weight covers (Some g) ≡ 1 + max 1 (length cover.rows) * (length g.fanins + 1) = ap (λ (k : Cover). 1 + max 1 (length k.rows) * (length g.fanins + 1)) is in
    let room : cover_room cover ≡ length cover.rows * (length g.fanins + 1) = ap (λ w. length cover.rows * (w + 1)) width in
    let less : length cover.rows * (length g.fanins + 1) ≤ max 1 (length cover.rows) * (length g.fanins + 1) = mul-le-mul_right (length g.fanins + 1) (let k : length cover.rows ≤ max 1 (length cover.rows) = omega arith in k) in
    omega (arith, weight, room, less)

pub grown_none : (w : EventGraphView) (room : ℕ) → HasGrown w w room
grown_none w room = record { grows = grows_refl w; children = refl; nodes = omega arith; places = omega arith }

pub grown_as : (w v : EventGraphView) (room weight : ℕ) → weight ≡ room → HasGrown w v room → HasGrown w v weight
grown_as w v room weight same grown = subst (HasGrown w v) (sym same) grown

-- an input's literal from what the calls gave
pub input_lit : {E : Type 0} (e : EventCircuitView) (i number node : ℕ) (v : EventGraphView) (r : Result Lit E) → slice_get e.order i ≡ Some number →
    IfOk r (λ x. (k : ℕ) × (slice_get v.places k ≡ Some (number, node)) × IsLitOf v.graph (Input k) x.0) → IfOk r (λ x. x.0 < 2 * length v.graph) → IfOk r (λ x. IsInputLit e i node v x.0)
input_lit e i number node v (Ok x) at here within = record { number = number; at = at; variable = here.0; numbered = here.1; lit = here.2; within = within }
input_lit e i number node v (Err e') at here within = within

-- a gate's literal from what the calls gave
pub gate_lit : {E : Type 0} (u : EventUnfolderView) (own free j : ℕ) (h : List Node) (g : Gate) (lits : List Lit) (r : Result Lit E) → slice_get u.circuit.net.gates j ≡ Some g → (fanins : List Signal) → fanins ≡ g.fanins →
    AllZip (λ f y. IsReadLit u.memo own free f.0 y) fanins lits → (cover : Cover) → cover_of u.circuit.net.covers g ≡ cover → (read : List Lit) → read ≡ lits → IfOk r (λ x. IsCoverOf h cover (map (λ y. y.0) read) x.0) →
    IfOk r (λ x. x.0 < 2 * length h) → IfOk r (λ x. IsGateLit u own free j h x.0)
gate_lit u own free j h g lits (Ok x) at fanins are each cover is read same here within =
    record {
      gate = g;
      at = at;
      lits = lits;
      each = subst (λ (l : List Signal). AllZip (λ f y. IsReadLit u.memo own free f.0 y) l lits) are each;
      is = subst (λ (k : Cover). IsCoverOf h k (map (λ y. y.0) lits) x.0) (sym is) (subst (λ (l : List Lit). IsCoverOf h cover (map (λ y. y.0) l) x.0) same here);
      within = within;
    }
gate_lit u own free j h g lits (Err e) at fanins are each cover is read same here within = within

-- what is known of an entry in a frame
pub entry_known : (e : EventCircuitView) (w : EventGraphView) (fs : List Frame) (memo : List ((ℕ × ℕ) × Lit)) → AreKnown e w fs memo → (k s : ℕ) (y : Lit) (f : Frame) → slice_get fs k ≡ Some f → Contains memo ((k, s), y) →
    (f.node ≤ length w.children) × IsKnownIn e w f s y.0
entry_known e w fs memo known k s y f at h =
    let own = known (k, s) y h in
    let same : own.0 ≡ f = one_at fs k own.0 f own.1 at in
    subst (λ (g : Frame). (g.node ≤ length w.children) × IsKnownIn e w g s y.0) same (own.2, own.3)

module _ (u : EventUnfolderView) (sound : IsSound u.circuit.net) (order : length u.circuit.order ≡ length u.circuit.net.inputs) where
  -- an input's step
  pub input_is : {E : Type 0} (v : EventGraphView) (s i k : ℕ) (frame : Frame) (r : Result Lit E) → slice_get u.frames k ≡ Some frame → slice_get u.circuit.net.drivers s ≡ Some (driver.Input i) →
      IfOk r (λ x. IsInputLit u.circuit i frame.node v x.0) → IfOk r (λ x. (f : Frame) → slice_get u.frames k ≡ Some f → IsKnownIn u.circuit v f s x.0)
  input_is v s i k frame (Ok x) at drives l =
      let port = sound.drivers s (driver.Input i) drives in
      let beside = at_beside (map named u.circuit.net.inputs) u.circuit.order i l.number (named port.0) (slice_get-map named u.circuit.net.inputs i port.0 port.1) l.at in
      λ f on. subst (λ (g : Frame). IsKnownIn u.circuit v g s x.0) (one_at u.frames k frame f at on)
      (known_input u.circuit v frame s x.0 l.number l.variable (subst (λ (p : ℕ). IsInputNumber (circuit_of u.circuit.net) u.circuit.order p l.number) port.2 beside) l.numbered l.lit l.within)
  input_is v s i k frame (Err e) at drives l = l

  -- a gate's step
  pub gate_is : {E : Type 0} (w v : EventGraphView) → IsEventGraph w → GrowsEvents w v → (step : Step) (j : ℕ) (frame : Frame) (r : Result Lit E) → slice_get u.frames step.frame ≡ Some frame → slice_get u.circuit.net.drivers step.signal ≡ Some (driver.Gate j) → IsReady u w step →
      AreKnown u.circuit w u.frames u.memo → IfOk r (λ x. IsGateLit u step.frame step.onward j v.graph x.0) → IfOk r (λ x. (f : Frame) → slice_get u.frames step.frame ≡ Some f → IsKnownIn u.circuit v f step.signal x.0)
  gate_is w v is grows step j frame (Ok x) at drives ready known l = λ f on.
      subst (λ (g : Frame). IsKnownIn u.circuit v g step.signal x.0) (one_at u.frames step.frame frame f at on)
      (known_gate u.circuit v frame step.signal x.0 l.gate.fanins (cover_of u.circuit.net.covers l.gate) l.lits (gate_equation_stands u.circuit.net sound step.signal j drives l.gate l.at)
      (zip_among (λ h y. IsReadLit u.memo step.frame step.onward h.0 y) (λ h y. IsKnownIn u.circuit v frame h.0 y.0) l.gate.fanins l.lits (λ h y k m. known_later u.circuit w v is grows frame h.0 y.0 node (own h y k m)) l.each)
      l.is l.within)
    where
      same : ready.frame ≡ frame
      same = one_at u.frames step.frame ready.frame frame ready.at at

      node : frame.node ≤ length w.children
      node = subst (λ (g : Frame). g.node ≤ length w.children) same ready.node

      other : (h : Signal) (y : Lit) → (IsMet u.memo (step.frame, h.0) → ⊥) → Contains u.memo ((step.onward, h.0), y) → IsMetIn u.circuit.net u.frames (IsMet u.memo) ready.frame step.frame step.onward h.0 → IsKnownIn u.circuit w frame h.0 y.0
      other h y absent there (inl met) = absurd (absent met)
      other h y absent there (inr free) =
          subst (λ (g : Frame). IsKnownIn u.circuit w g h.0 y.0) same
          (free_known u.circuit w ready.frame.node ready.frame.put h.0 y.0 free.1 (entry_known u.circuit w u.frames u.memo known step.onward h.0 y (record { node = ready.frame.node; put = Free }) free.0 there).1)

      own : (h : Signal) (y : Lit) → Contains l.gate.fanins h → IsReadLit u.memo step.frame step.onward h.0 y → IsKnownIn u.circuit w frame h.0 y.0
      own h y k (inl there) = (entry_known u.circuit w u.frames u.memo known step.frame h.0 y frame at there).1
      own h y k (inr m) = other h y m.0 m.1 (ready.reads h.0 (gate_reads_to u.circuit.net sound step.signal j drives l.gate l.at h k))
  gate_is w v is grows step j frame (Err e) at drives ready known l = l

  -- the gate's fan-ins have been met
  pub gate_met : (w : EventGraphView) (step : Step) (j : ℕ) → slice_get u.circuit.net.drivers step.signal ≡ Some (driver.Gate j) → IsReady u w step →
      IfSome (slice_get u.circuit.net.gates j) (λ g. All (λ f. IsMet u.memo (step.frame, f.0) ⊎ IsMet u.memo (step.onward, f.0)) g.fanins)
  gate_met w step j drives ready =
      let g = driven_gate u.circuit.net sound step.signal j drives in
      subst (λ o. IfSome o (λ (k : Gate). All (λ f. IsMet u.memo (step.frame, f.0) ⊎ IsMet u.memo (step.onward, f.0)) k.fanins)) (sym g.1)
      (All-from_each (λ (f : Signal). IsMet u.memo (step.frame, f.0) ⊎ IsMet u.memo (step.onward, f.0)) g.0.fanins (λ f h. met f (ready.reads f.0 (gate_reads_to u.circuit.net sound step.signal j drives g.0 g.1 f h))))
    where
      met : (f : Signal) → IsMetIn u.circuit.net u.frames (IsMet u.memo) ready.frame step.frame step.onward f.0 → IsMet u.memo (step.frame, f.0) ⊎ IsMet u.memo (step.onward, f.0)
      met f (inl h) = inl h
      met f (inr h) = inr h.2

  -- a latch that is put
  pub put_is : (w : EventGraphView) → IsEventGraph w → (s k : ℕ) (x : Lit) (frame : Frame) → slice_get u.frames k ≡ Some frame → ((frame.put ≡ Low s) × (x.0 ≡ 0)) ⊎ ((frame.put ≡ High s) × (x.0 ≡ 1)) →
      (f : Frame) → slice_get u.frames k ≡ Some f → IsKnownIn u.circuit w f s x.0
  put_is w is s k x frame at which f on = subst (λ (g : Frame). IsKnownIn u.circuit w g s x.0) (one_at u.frames k frame f at on) (go which)
    where
      go : ((frame.put ≡ Low s) × (x.0 ≡ 0)) ⊎ ((frame.put ≡ High s) × (x.0 ≡ 1)) → IsKnownIn u.circuit w frame s x.0
      go (inl h) = subst (IsKnownIn u.circuit w frame s) (sym h.1) (known_low u.circuit w frame is s h.0)
      go (inr h) = subst (IsKnownIn u.circuit w frame s) (sym h.1) (known_high u.circuit w frame is s h.0)

  module _ (w : EventGraphView) (step : Step) (frame : Frame) (at : slice_get u.frames step.frame ≡ Some frame) (free : NotPut (put_of frame.put) step.signal) (ready : IsReady u w step) (j : ℕ) (l : LatchAt)
      (drives : slice_get u.circuit.net.drivers step.signal ≡ Some (driver.Latch j)) (on : slice_get u.circuit.net.latches j ≡ Some l) where
    same_frame : ready.frame ≡ frame
    same_frame = one_at u.frames step.frame ready.frame frame ready.at at

    free_there : NotPut (put_of ready.frame.put) step.signal
    free_there = subst (λ (g : Frame). NotPut (put_of g.put) step.signal) (sym same_frame) free

    -- what the latch takes over has been met
    pub latch_met : IsMet u.memo (step.onward, l.next.0)
    latch_met = (ready.onward l.name l.next.0 (latch_equation_stands u.circuit.net sound step.signal j drives l on) free_there).3

    -- and is the latch's own literal
    pub latch_is : IsEventGraph w → AreKnown u.circuit w u.frames u.memo → (x : Lit) → Contains u.memo ((step.onward, l.next.0), x) → (f : Frame) → slice_get u.frames step.frame ≡ Some f → IsKnownIn u.circuit w f step.signal x.0
    latch_is is known x h f here =
        let latch = latch_equation_stands u.circuit.net sound step.signal j drives l on in
        let next = ready.onward l.name l.next.0 latch free_there in
        subst (λ (g : Frame). IsKnownIn u.circuit w g step.signal x.0) (one_at u.frames step.frame ready.frame f ready.at here)
        (known_onward u.circuit w ready.frame is step.signal l.next.0 x.0 l.name next.0 latch free_there next.2 (entry_known u.circuit w u.frames u.memo known step.onward l.next.0 x next.0 next.1 h).1)

-- a cover adds nodes alone
pub cover_grown : (w v : EventGraphView) (room weight : ℕ) → GrowsEvents w v → v ≡ record w { graph = v.graph } → length v.graph ≤ length w.graph + room → room ≤ weight → HasGrown w v weight
cover_grown w v room weight grows same few less = record {
  grows = grows;
  children = ap (λ (x : EventGraphView). x.children) same;
  nodes = omega (arith, few, less);
  places = let e = ap (λ (x : EventGraphView). length x.places) same in omega (arith, e);
}
