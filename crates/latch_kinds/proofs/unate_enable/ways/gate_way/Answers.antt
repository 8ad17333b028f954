-- The cover of the gate's fan-ins.
use Rattle.std.proofs.Common.{◌≡◌, ◌∙◌, ℕ, List, Some, length, nat_eq, sym, ap, subst}
use Rattle.std.specs.List.{All}
use Rattle.indexmap.specs.IndexMap.{get}
use Rattle.circuit_theory.specs.Cover.{Cover, cover_value}
use Rattle.flat_net.specs.declared.signals.Signal.{Signal}
use Rattle.flat_net.specs.declared.parts.Gate.{Gate}
use Rattle.flat_net.specs.View.{cover_of}
use Rattle.flat_net.proofs.Places.{cover_of-is, cover_within, cover_fits, one_at}
use Rattle.latch_kinds.specs.declared.unate_enable.ways.Way.{Way}
use Rattle.latch_kinds.specs.unate_enable.Raises.{GoOn, still, way_in}
use Rattle.latch_kinds.proofs.unate_enable.Raised.{all_still}
use Rattle.latch_kinds.proofs.unate_enable.ways.gate_way.Goals as goal

pub returns-then-are_still : goal.returns-then-are_still
returns-then-are_still c = λ gate at.
    let ways = way_in (get nat_eq c.args.ways.now) in
    let same : c.as_slice-fanins.result.now ≡ gate.fanins = c.as_slice-fanins.ensures ∙ ap (λ (g : Gate). g.fanins) (one_at c.args.net.now.gates c.args.j c.gate_of-gate.result.now gate c.gate_of-gate.ensures at) in
    let all = subst (All (λ (f : Signal). way_in (get nat_eq c.args.ways.now) f.0 ≡ still)) same (c.are_still.ensures c.if-are_still.true) in
    subst (λ (w : Way). GoOn (way_in (get nat_eq c.args.ways.now)) gate.fanins w (cover_value (cover_of c.args.net.now.covers gate))) (sym c.still.ensures) (all_still ways gate.fanins (cover_value (cover_of c.args.net.now.covers gate)) all)

pub cover-cover-requires : goal.cover-cover-requires
cover-cover-requires c = cover_within c.args.net.now c.keeps.ensures.sound c.args.j c.gate_of-gate.result.now c.gate_of-gate.ensures

pub cover_way-requires : goal.cover_way-requires
cover_way-requires c =
    cover_fits c.args.net.now c.keeps.ensures.sound c.args.j c.gate_of-gate.result.now c.gate_of-gate.ensures c.cover-cover.result.now c.cover-cover.ensures ∙ sym (ap length c.as_slice-fanins.ensures)

pub returns : goal.returns
returns c = λ gate at.
    let n = c.args.net.now in
    let one : c.gate_of-gate.result.now ≡ gate = one_at n.gates c.args.j c.gate_of-gate.result.now gate c.gate_of-gate.ensures at in
    let is : cover_of n.covers c.gate_of-gate.result.now ≡ c.cover-cover.result.now = cover_of-is n.covers c.gate_of-gate.result.now c.cover-cover.result.now c.cover-cover.ensures in
    subst (λ (g : Gate). GoOn (way_in (get nat_eq c.args.ways.now)) g.fanins c.cover_way.result (cover_value (cover_of c.args.net.now.covers g))) one
    (subst (λ (k : Cover). GoOn (way_in (get nat_eq c.args.ways.now)) c.gate_of-gate.result.now.fanins c.cover_way.result (cover_value k)) (sym is)
    (subst (λ (l : List Signal). GoOn (way_in (get nat_eq c.args.ways.now)) l c.cover_way.result (cover_value c.cover-cover.result.now)) c.as_slice-fanins.ensures c.cover_way.ensures))
