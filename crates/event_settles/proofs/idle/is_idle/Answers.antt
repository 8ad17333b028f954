-- The latch's event function is made over a graph where nothing was made before, and its query says of the latch's loads.
use Rattle.std.proofs.Common.{◌∙◌, ◌<◌, ℕ, false, length, sym, ap, subst, inr}
use Rattle.std.specs.Prelude.{slice_index_or}
use Rattle.circuit_theory.specs.Joined.{Either}
use Rattle.flat_net.specs.Cut.{latch_at}
use Rattle.flat_net.specs.View.{NetView}
use Rattle.flat_net.specs.declared.parts.LatchAt.{LatchAt}
use Rattle.event_nodes.specs.Nodes.{EventGraphView}
use Rattle.event_nodes.specs.View.{EventCircuitView}
use Rattle.event_form.specs.event_agreement.pair_events.View.{side_of_both, signal_at}
use Rattle.event_settles.specs.Idle.{LatchIs}
use Rattle.event_settles.proofs.Caring.{if_ok}
use Rattle.event_settles.proofs.LoadCares.{function_at, too_large_at, latch_is, out_within, ready_function}
use Rattle.event_settles.proofs.idle.is_idle.Goals as goal

pub unfold_signal-requires-clause-signal : goal.unfold_signal-requires-clause-signal
unfold_signal-requires-clause-signal c =
    let n = c.circuit-circuit.result.now.net in
    let same = c.latches.ensures ∙ ap (λ (m : NetView). m.latches) c.net.ensures in
    let within = subst (λ (x : EventCircuitView). c.args.tag.latch < length x.net.latches) (sym c.circuit-circuit.ensures) c.requires.latch in
    subst (λ l. l.out.0 < length n.drivers) (sym (latch_is n c.latches.result.now c.args.tag.latch c.index-latches-tag.result same within)) (out_within n c.keeps-2.ensures.sound c.args.tag.latch within)

pub is_never-requires-clause-ready : goal.is_never-requires-clause-ready
is_never-requires-clause-ready c =
    let e = c.args.events.now in
    let side = c.args.tag.side in
    let w = c.unfold_signal.new.events in
    let p = (slice_index_or c.latches.result.now c.args.tag.latch c.index-latches-tag.result).out.0 in
    let u = c.unfold_signal.ensures in
    let x = c.circuit-circuit.result.now in
    let f = c.in-Ok.function in
    ready_function (side_of_both e) w (signal_at side p) f
    (function_at e c.keeps.ensures.events c.keeps.ensures.kept c.in_ok-graph.graph c.new-count.result c.keeps-3.ensures.events (ap (λ (g : EventGraphView). g.children) c.in_ok-graph.ensures) c.new-count.ensures w c.keeps-in-Ok.ensures.events c.unfold_signal.new.total p c.unfold_signal.result
    side x c.circuit-circuit.ensures (u.function, u.counted, u.counting, u.refused) f c.in-Ok.is)

pub returns-in-Ok : goal.returns-in-Ok
returns-in-Ok c =
    let e = c.args.events.now in
    let t = c.args.tag in
    let w = c.unfold_signal.new.events in
    let l : LatchAt = slice_index_or c.latches.result.now t.latch c.index-latches-tag.result in
    let u = c.unfold_signal.ensures in
    let x = c.circuit-circuit.result.now in
    let f = c.in-Ok.function in
    let same = c.latches.ensures ∙ ap (λ (m : NetView). m.latches) c.net.ensures in
    let within = subst (λ (y : EventCircuitView). t.latch < length y.net.latches) (sym c.circuit-circuit.ensures) c.requires.latch in
    let here = latch_is x.net c.latches.result.now t.latch c.index-latches-tag.result same within in
    let place = ap (λ (z : LatchAt). signal_at t.side z.out.0) here ∙ ap (λ (y : EventCircuitView). signal_at t.side (latch_at y.net t.latch).out.0) c.circuit-circuit.ensures in
    if_ok c.is_never.result
    (λ b h. subst (λ (v : Either ℕ ℕ). LatchIs (side_of_both e) c.args.conflicts v b) place
    (h (side_of_both e) (signal_at t.side l.out.0)
    (function_at e c.keeps.ensures.events c.keeps.ensures.kept c.in_ok-graph.graph c.new-count.result c.keeps-3.ensures.events (ap (λ (g : EventGraphView). g.children) c.in_ok-graph.ensures) c.new-count.ensures w c.keeps-in-Ok.ensures.events c.unfold_signal.new.total l.out.0 c.unfold_signal.result
    t.side x c.circuit-circuit.ensures (u.function, u.counted, u.counting, u.refused) f c.in-Ok.is)))
    c.is_never.ensures

pub returns : goal.returns
returns c =
    let e = c.args.events.now in
    let t = c.args.tag in
    let w = c.unfold_signal.new.events in
    let l : LatchAt = slice_index_or c.latches.result.now t.latch c.index-latches-tag.result in
    let u = c.unfold_signal.ensures in
    let x = c.circuit-circuit.result.now in
    let same = c.latches.ensures ∙ ap (λ (m : NetView). m.latches) c.net.ensures in
    let within = subst (λ (y : EventCircuitView). t.latch < length y.net.latches) (sym c.circuit-circuit.ensures) c.requires.latch in
    let here = latch_is x.net c.latches.result.now t.latch c.index-latches-tag.result same within in
    let place = ap (λ (z : LatchAt). signal_at t.side z.out.0) here ∙ ap (λ (y : EventCircuitView). signal_at t.side (latch_at y.net t.latch).out.0) c.circuit-circuit.ensures in
    subst (λ (v : Either ℕ ℕ). LatchIs (side_of_both e) c.args.conflicts v false) place
    (inr (inr
    (too_large_at e c.keeps.ensures.events c.keeps.ensures.kept c.in_ok-graph.graph c.new-count.result c.keeps-3.ensures.events (ap (λ (g : EventGraphView). g.children) c.in_ok-graph.ensures) c.new-count.ensures w c.keeps-in-Err.ensures.events c.unfold_signal.new.total l.out.0 c.unfold_signal.result
    t.side x c.circuit-circuit.ensures (u.function, u.counted, u.counting, u.refused) c.in-Err.error c.in-Err.is c.in_default.not-NoMemory)))
