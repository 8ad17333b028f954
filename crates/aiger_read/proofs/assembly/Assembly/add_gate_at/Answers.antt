use Rattle.std.proofs.Common.{◌≡◌, ◌∙◌, ◌<◌, ℕ, List, map, length, get_or, slice_get, sym, ap, ap₂, subst, arith}
use Rattle.std.specs.Prelude.{IsSomeAnd}
use Rattle.std.specs.List.{All}
use Rattle.std.proofs.lemmas.List.{length-map}
use Rattle.circuit_theory.specs.Cover.{Cover}
use Rattle.flat_net.specs.declared.signals.Signal.{Signal}
use Rattle.flat_net.specs.Makes.{MakerView, with_gate}
use Rattle.aiger_read.specs.aiger_file.aiger_graph.Literals.{reads_in}
use Rattle.aiger_read.specs.Signals.{cover_number}
use Rattle.aiger_read.specs.Made.{signal_at}
use Rattle.aiger_read.proofs.Making.{order_at, place_low, room, fresh, gate_next, gate_named, reads_within, fanins_low, reads_fit, made_gate, made_none, on_both}
use Rattle.aiger_read.proofs.assembly.Assembly.add_gate_at.Goals as goal

pub has_gate-requires-clause-low : goal.has_gate-requires-clause-low
has_gate-requires-clause-low c = place_low c.args.plan.now.file.now c.args.plan.now.graph.now c.args.plan.now.order.now c.requires.plan c.args.place c.requires.place

pub returns-then-not-has_gate : goal.returns-then-not-has_gate
returns-then-not-has_gate c =
    let l : ℕ = get_or c.args.plan.now.order.now c.args.place 0 in
    let at = order_at c.args.plan.now.file.now c.args.plan.now.graph.now c.args.plan.now.order.now c.requires.plan c.args.place c.requires.place in
    made_none c.args.plan.now.file.now c.args.plan.now.graph.now c.args.plan.now.order.now c.requires.plan c.args.place l at c.args.self.now.maker.net c.args.self.now.signals.items c.requires.made (sym c.has_gate.ensures ∙ c.if-not-has_gate.true)

pub reads_of-reads-requires-clause-low : goal.reads_of-reads-requires-clause-low
reads_of-reads-requires-clause-low c = place_low c.args.plan.now.file.now c.args.plan.now.graph.now c.args.plan.now.order.now c.requires.plan c.args.place c.requires.place

pub signals_of-requires : goal.signals_of-requires
signals_of-requires c =
    let l : ℕ = get_or c.args.plan.now.order.now c.args.place 0 in
    let at = order_at c.args.plan.now.file.now c.args.plan.now.graph.now c.args.plan.now.order.now c.requires.plan c.args.place c.requires.place in
    subst (All (λ (r : ℕ). r < length c.args.self.now.signals.items)) (sym c.reads_of-reads.ensures) (reads_within c.args.plan.now.file.now c.args.plan.now.graph.now c.args.plan.now.order.now c.requires.plan c.args.place l at c.args.self.now.maker.net c.args.self.now.signals.items c.requires.made)

pub add_gate-requires-clause-room : goal.add_gate-requires-clause-room
add_gate-requires-clause-room c =
    let l : ℕ = get_or c.args.plan.now.order.now c.args.place 0 in
    let at = order_at c.args.plan.now.file.now c.args.plan.now.graph.now c.args.plan.now.order.now c.requires.plan c.args.place c.requires.place in
    let gate = sym c.has_gate.ensures ∙ c.if-not-has_gate.false in
    room c.args.plan.now.file.now c.args.plan.now.graph.now c.args.plan.now.order.now c.requires.plan (length c.args.self.now.maker.net.drivers) l (gate_next c.args.plan.now.file.now c.args.plan.now.graph.now c.args.plan.now.order.now c.requires.plan c.args.place l at c.args.self.now.maker.net c.args.self.now.signals.items c.requires.made gate)

pub add_gate-requires-clause-new : goal.add_gate-requires-clause-new
add_gate-requires-clause-new c =
    let l : ℕ = get_or c.args.plan.now.order.now c.args.place 0 in
    let at = order_at c.args.plan.now.file.now c.args.plan.now.graph.now c.args.plan.now.order.now c.requires.plan c.args.place c.requires.place in
    let gate = sym c.has_gate.ensures ∙ c.if-not-has_gate.false in
    fresh c.args.plan.now.file.now c.args.plan.now.graph.now c.args.plan.now.order.now c.requires.plan c.args.self.now.maker.net l c.as_slice.result.now c.requires.made.names_are (gate_next c.args.plan.now.file.now c.args.plan.now.graph.now c.args.plan.now.order.now c.requires.plan c.args.place l at c.args.self.now.maker.net c.args.self.now.signals.items c.requires.made gate) (c.as_slice.ensures.value ∙ c.in_ok-name.ensures ∙ sym (gate_named c.args.plan.now.file.now c.args.plan.now.graph.now c.args.plan.now.order.now c.requires.plan c.args.place l at c.args.self.now.maker.net c.args.self.now.signals.items c.requires.made gate))

pub add_gate-requires-clause-literal : goal.add_gate-requires-clause-literal
add_gate-requires-clause-literal c = let low = place_low c.args.plan.now.file.now c.args.plan.now.graph.now c.args.plan.now.order.now c.requires.plan c.args.place c.requires.place in omega (arith, low, c.requires.made.size)

pub add_gate-requires-clause-within : goal.add_gate-requires-clause-within
add_gate-requires-clause-within c =
    let l : ℕ = get_or c.args.plan.now.order.now c.args.place 0 in
    let at = order_at c.args.plan.now.file.now c.args.plan.now.graph.now c.args.plan.now.order.now c.requires.plan c.args.place c.requires.place in
    let fanins = c.in_ok-fanins.ensures ∙ ap (map (signal_at c.args.self.now.signals.items)) c.reads_of-reads.ensures in
    subst (All (λ (s : Signal). s.0 < length c.args.self.now.maker.net.drivers)) (sym fanins) (fanins_low c.args.plan.now.file.now c.args.plan.now.graph.now c.args.plan.now.order.now c.requires.plan c.args.place l at c.args.self.now.maker.net c.args.self.now.signals.items c.requires.made)

pub add_gate-requires-clause-fits : goal.add_gate-requires-clause-fits
add_gate-requires-clause-fits c =
    let l : ℕ = get_or c.args.plan.now.order.now c.args.place 0 in
    let at = order_at c.args.plan.now.file.now c.args.plan.now.graph.now c.args.plan.now.order.now c.requires.plan c.args.place c.requires.place in
    let fanins = c.in_ok-fanins.ensures ∙ ap (map (signal_at c.args.self.now.signals.items)) c.reads_of-reads.ensures in
    let cover = c.cover_number.ensures ∙ ap (cover_number l) c.reads_of-reads.ensures in
    let count = ap length fanins ∙ length-map (reads_in c.args.plan.now.file.now.records l) (signal_at c.args.self.now.signals.items) in
    subst (λ (n : ℕ). IsSomeAnd (slice_get c.args.self.now.maker.net.covers n) (λ (x : Cover). x.width ≡ length c.in_ok-fanins.fanins)) (sym cover)
    (reads_fit c.args.plan.now.file.now.records l (length c.in_ok-fanins.fanins) c.args.self.now.maker.net.covers c.requires.made.covers count)

pub returns : goal.returns
returns c =
    let l : ℕ = get_or c.args.plan.now.order.now c.args.place 0 in
    let at = order_at c.args.plan.now.file.now c.args.plan.now.graph.now c.args.plan.now.order.now c.requires.plan c.args.place c.requires.place in
    let gate = sym c.has_gate.ensures ∙ c.if-not-has_gate.false in
    let fanins = c.in_ok-fanins.ensures ∙ ap (map (signal_at c.args.self.now.signals.items)) c.reads_of-reads.ensures in
    let cover = c.cover_number.ensures ∙ ap (cover_number l) c.reads_of-reads.ensures in
    on_both c.add_gate.result c.add_gate.ensures.net c.add_gate.ensures.signals (λ net signals.
    made_gate c.args.plan.now.file.now c.args.plan.now.graph.now c.args.plan.now.order.now c.requires.plan c.args.place l at c.args.self.now.maker.net c.args.self.now.signals.items c.requires.made gate c.as_slice.result.now c.add_gate.new.self.maker.net c.add_gate.new.self.signals.items (c.as_slice.ensures.value ∙ c.in_ok-name.ensures ∙ sym (gate_named c.args.plan.now.file.now c.args.plan.now.graph.now c.args.plan.now.order.now c.requires.plan c.args.place l at c.args.self.now.maker.net c.args.self.now.signals.items c.requires.made gate))
    (ap (λ (m : MakerView). m.net) net ∙ ap₂ (λ (ss : List Signal) (n : ℕ). with_gate c.args.self.now.maker.net c.as_slice.result.now ss n) fanins cover) signals)
