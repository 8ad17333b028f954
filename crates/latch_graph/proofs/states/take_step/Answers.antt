use Rattle.std.proofs.Common.{◌≡◌, ◌<◌, ◌+◌, List, slice_get, Some, length, subst, sym, ap, refl, arith}
use Rattle.std.proofs.Math.ListN.{set}
use Rattle.std.proofs.lemmas.Option.{slice_get_within, slice_get_read, get_or_from_slice_get}
use Rattle.signal_graph.proofs.flat_net.Places.{one_at}
use Rattle.signal_graph.specs.flat_net.Signal.{Signal}
use Rattle.signal_graph.specs.declared.nodes.Node.{Node}
use Rattle.latch_graph.specs.declared.states.State.TheVariants.{Open, Known}
use Rattle.latch_graph.specs.Settling.{HasDepth, IsDepthOf, new_count}
use Rattle.latch_graph.proofs.Tables.{new_count-set}
use Rattle.latch_graph.proofs.Ways.{way_along, way_waits, way_settles, set_later, depth_fits, last_step, last_passed, last_leads}
use Rattle.latch_graph.proofs.states.take_step.Goals as goal

pub bounds-nodes-step : goal.bounds-nodes-step
bounds-nodes-step c =
    let this = last_step c.args.nodes.now c.args.states.now c.args.way.now.items c.args.step c.requires.way in
    slice_get_within c.args.nodes.now c.args.step.signal this.node this.here

pub first_without-requires-clause-within : goal.first_without-requires-clause-within
first_without-requires-clause-within c = λ k r h.
    let this = last_step c.args.nodes.now c.args.states.now c.args.way.now.items c.args.step c.requires.way in
    let at = slice_get_read c.args.nodes.now (length c.args.nodes.now) c.args.step.signal c.index-nodes-step.result refl (slice_get_within c.args.nodes.now c.args.step.signal this.node this.here) c.index-nodes-step.is in
    let l = c.requires.within c.args.step.signal k c.index-nodes-step.result r at (subst (λ (z : List Signal). slice_get z k ≡ Some r) c.as_slice-reads.ensures h) in
    omega (arith, l, c.requires.way.table.size)

pub first_without-requires-clause-passed : goal.first_without-requires-clause-passed
first_without-requires-clause-passed c = λ k r l h.
    let this = last_step c.args.nodes.now c.args.states.now c.args.way.now.items c.args.step c.requires.way in
    let at = slice_get_read c.args.nodes.now (length c.args.nodes.now) c.args.step.signal c.index-nodes-step.result refl (slice_get_within c.args.nodes.now c.args.step.signal this.node this.here) c.index-nodes-step.is in
    last_passed c.args.nodes.now c.args.states.now c.args.step this c.index-nodes-step.result at k r l (subst (λ (z : List Signal). slice_get z k ≡ Some r) c.as_slice-reads.ensures h)

pub depth_by-requires-clause-room : goal.depth_by-requires-clause-room
depth_by-requires-clause-room c = λ e g.
    let l = depth_fits c.args.nodes.now c.args.states.now c.args.way.now.items c.args.step c.requires.way c.index-nodes-step.result.reads e g in
    omega (arith, l, c.requires.few)

pub bounds-states-step : goal.bounds-states-step
bounds-states-step c =
    let this = last_step c.args.nodes.now c.args.states.now c.args.way.now.items c.args.step c.requires.way in
    slice_get_within c.args.states.now c.args.step.signal Open this.opened

pub offset_bounds-reads-read : goal.offset_bounds-reads-read
offset_bounds-reads-read c =
    let here = c.in-Some.ensures.here in
    let l = slice_get_within c.as_slice-reads.result.now c.in-Some.read here.0 here.1 in
    omega (arith, l, c.as_slice-reads.type_inv.1)

pub bounds-reads-read : goal.bounds-reads-read
bounds-reads-read c = let here = c.in-Some.ensures.here in slice_get_within c.as_slice-reads.result.now c.in-Some.read here.0 here.1

pub wait_for-requires-clause-signal : goal.wait_for-requires-clause-signal
wait_for-requires-clause-signal c =
    let here = c.in-Some.ensures.here in
    let this = last_step c.args.nodes.now c.args.states.now c.args.way.now.items c.args.step c.requires.way in
    let at = slice_get_read c.args.nodes.now (length c.args.nodes.now) c.args.step.signal c.index-nodes-step.result refl (slice_get_within c.args.nodes.now c.args.step.signal this.node this.here) c.index-nodes-step.is in
    let same = get_or_from_slice_get c.as_slice-reads.result.now c.in-Some.read here.0 (record { 0 = 0 }) here.1 in
    subst (λ (z : Signal). z.0 < length c.args.nodes.now) (sym same)
    (c.requires.within c.args.step.signal c.in-Some.read c.index-nodes-step.result here.0 at (subst (λ (z : List Signal). slice_get z c.in-Some.read ≡ Some here.0) c.as_slice-reads.ensures here.1))

pub wait_for-requires-clause-way : goal.wait_for-requires-clause-way
wait_for-requires-clause-way c =
    let this = last_step c.args.nodes.now c.args.states.now c.args.way.now.items c.args.step c.requires.way in
    let at = slice_get_read c.args.nodes.now (length c.args.nodes.now) c.args.step.signal c.index-nodes-step.result refl (slice_get_within c.args.nodes.now c.args.step.signal this.node this.here) c.index-nodes-step.is in
    way_along c.args.nodes.now refl c.in_ok-push-in-Some.ensures.items
    (way_waits c.args.nodes.now c.args.states.now c.args.way.now.items c.args.step (record { signal = c.args.step.signal; read = c.in-Some.read }) c.requires.way refl
    (λ node found k r l h.
    let same : node ≡ c.index-nodes-step.result = one_at c.args.nodes.now c.args.step.signal node c.index-nodes-step.result found at in
    c.in-Some.ensures.passed k r l (subst (λ (z : List Signal). slice_get z k ≡ Some r) (sym c.as_slice-reads.ensures) (subst (λ (z : Node). slice_get z.reads k ≡ Some r) same h))))

pub wait_for-requires-clause-unknown : goal.wait_for-requires-clause-unknown
wait_for-requires-clause-unknown c = λ d h.
    let here = c.in-Some.ensures.here in
    let same = get_or_from_slice_get c.as_slice-reads.result.now c.in-Some.read here.0 (record { 0 = 0 }) here.1 in
    here.2 d (subst (λ (z : Signal). HasDepth c.args.states.now z.0 d) same h)

pub wait_for-requires-clause-leads : goal.wait_for-requires-clause-leads
wait_for-requires-clause-leads c =
    let here = c.in-Some.ensures.here in
    let this = last_step c.args.nodes.now c.args.states.now c.args.way.now.items c.args.step c.requires.way in
    let at = slice_get_read c.args.nodes.now (length c.args.nodes.now) c.args.step.signal c.index-nodes-step.result refl (slice_get_within c.args.nodes.now c.args.step.signal this.node this.here) c.index-nodes-step.is in
    let same = get_or_from_slice_get c.as_slice-reads.result.now c.in-Some.read here.0 (record { 0 = 0 }) here.1 in
    last_leads c.args.nodes.now c.args.way.now.items c.push.new.self.items (record { signal = c.args.step.signal; read = c.in-Some.read }) c.index-nodes-step.result here.0 _ c.in_ok-push-in-Some.ensures.items at
    (subst (λ (z : List Signal). slice_get z c.in-Some.read ≡ Some here.0) c.as_slice-reads.ensures here.1) (ap (λ (z : Signal). z.0) (sym same))

pub returns-in-None-clause-way : goal.returns-in-None-clause-way
returns-in-None-clause-way c =
    let this = last_step c.args.nodes.now c.args.states.now c.args.way.now.items c.args.step c.requires.way in
    let at = slice_get_read c.args.nodes.now (length c.args.nodes.now) c.args.step.signal c.index-nodes-step.result refl (slice_get_within c.args.nodes.now c.args.step.signal this.node this.here) c.index-nodes-step.is in
    way_settles c.args.nodes.now c.args.states.now c.args.way.now.items c.args.step c.depth_by.result c.requires.way
    (λ node found. subst (λ (z : Node). IsDepthOf c.args.states.now z c.depth_by.result) (one_at c.args.nodes.now c.args.step.signal c.index-nodes-step.result node at found) c.depth_by.ensures)

pub returns-in-None-clause-later : goal.returns-in-None-clause-later
returns-in-None-clause-later c =
    let this = last_step c.args.nodes.now c.args.states.now c.args.way.now.items c.args.step c.requires.way in
    set_later c.args.states.now c.args.step.signal Open (Known c.depth_by.result) this.opened (λ e. cc) (λ e. cc) (λ e. cc)

pub returns-in-None-clause-nearer : goal.returns-in-None-clause-nearer
returns-in-None-clause-nearer c =
    let this = last_step c.args.nodes.now c.args.states.now c.args.way.now.items c.args.step c.requires.way in
    let count : new_count (set c.args.states.now c.args.step.signal (Known c.depth_by.result)) + 0 ≡ new_count c.args.states.now + 0 = new_count-set c.args.states.now c.args.step.signal Open (Known c.depth_by.result) this.opened in
    omega (arith, count)
