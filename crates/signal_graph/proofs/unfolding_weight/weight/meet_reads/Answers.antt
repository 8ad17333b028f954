use Rattle.std.proofs.Common.{◌≡◌, ℕ, List, Some, slice_get, length, subst, refl, arith}
use Rattle.std.proofs.lemmas.Option.{slice_get_read}
use Rattle.signal_graph.specs.inner_cone.flat_net.Signal.{Signal}
use Rattle.signal_graph.specs.inner_cone.flat_net.View.{circuit_of}
use Rattle.signal_graph.specs.inner_cone.circuit_theory.Sizes.{IsOver}
use Rattle.signal_graph.specs.Graph.{GraphView, AreNodes}
use Rattle.signal_graph.specs.unfolding_weight.Weight.{AreVisited, IsVisited, AreMet, AreThere, AreReadsThere}
use Rattle.signal_graph.proofs.Driving.{kept_nodes}
use Rattle.signal_graph.proofs.Lists.{some_weaker, none_weaker}
use Rattle.signal_graph.proofs.unfolding_weight.Weights.{reads_visited, reads_there}
use Rattle.signal_graph.proofs.unfolding_weight.weight.meet_reads.Goals as goal

pub meet_all-requires-clause-within : goal.meet_all-requires-clause-within
meet_all-requires-clause-within c = λ k r h.
    let g : GraphView = record { nodes = c.args.nodes.now; latches = c.args.net.now.latches; skipped = c.requires.graph.bits } in
    let kept : AreNodes c.args.nodes.now c.args.net.now.latches = kept_nodes c.args.net.now g c.requires.graph.plain.graph in
    let at = slice_get_read c.args.nodes.now (length c.args.nodes.now) c.args.place.0 c.index-nodes-place.result refl (omega (arith, c.requires.within, c.requires.graph.plain.graph.size)) c.index-nodes-place.is in
    let l = kept.within c.args.place.0 k c.index-nodes-place.result r at (subst (λ (z : List Signal). slice_get z k ≡ Some r) c.as_slice.ensures h) in
    omega (arith, l, c.requires.graph.plain.graph.size)

pub returns-clause-met : goal.returns-clause-met
returns-clause-met c =
    let g : GraphView = record { nodes = c.args.nodes.now; latches = c.args.net.now.latches; skipped = c.requires.graph.bits } in
    let at = slice_get_read c.args.nodes.now (length c.args.nodes.now) c.args.place.0 c.index-nodes-place.result refl (omega (arith, c.requires.within, c.requires.graph.plain.graph.size)) c.index-nodes-place.is in
    some_weaker (λ (sum : ℕ). (outputs : List ℕ) → AreVisited c.args.net.now outputs c.as_slice.result.now c.back-shift.result → AreMet c.args.net.now outputs c.args.places.now c.args.total → AreMet c.args.net.now outputs c.meet_all.new.places sum)
    (λ (sum : ℕ). (outputs : List ℕ) → IsVisited c.args.net.now outputs c.args.place → AreMet c.args.net.now outputs c.args.places.now c.args.total → AreMet c.args.net.now outputs c.meet_all.new.places sum)
    c.in_ok-sum.sum
    (λ sum f outputs visited met. f outputs (reads_visited c.args.net.now g c.requires.graph.plain outputs c.args.place c.index-nodes-place.result c.as_slice.result.now c.back-shift.result at c.as_slice.ensures c.back-shift.ensures visited) met)
    c.in_ok-sum.ensures.met

pub returns-clause-there : goal.returns-clause-there
returns-clause-there c =
    let at = slice_get_read c.args.nodes.now (length c.args.nodes.now) c.args.place.0 c.index-nodes-place.result refl (omega (arith, c.requires.within, c.requires.graph.plain.graph.size)) c.index-nodes-place.is in
    some_weaker (λ (sum : ℕ). AreThere c.as_slice.result.now (length c.as_slice.result.now) c.back-shift.result c.meet_all.new.places) (λ (sum : ℕ). AreReadsThere c.args.nodes.now c.args.place c.meet_all.new.places) c.in_ok-sum.sum
    (λ sum there. reads_there c.args.nodes.now c.args.place c.index-nodes-place.result c.as_slice.result.now c.back-shift.result c.meet_all.new.places at c.as_slice.ensures c.back-shift.ensures there)
    c.in_ok-sum.ensures.there

pub returns-clause-over : goal.returns-clause-over
returns-clause-over c =
    let g : GraphView = record { nodes = c.args.nodes.now; latches = c.args.net.now.latches; skipped = c.requires.graph.bits } in
    let at = slice_get_read c.args.nodes.now (length c.args.nodes.now) c.args.place.0 c.index-nodes-place.result refl (omega (arith, c.requires.within, c.requires.graph.plain.graph.size)) c.index-nodes-place.is in
    none_weaker ((outputs : List ℕ) → AreVisited c.args.net.now outputs c.as_slice.result.now c.back-shift.result → AreMet c.args.net.now outputs c.args.places.now c.args.total → IsOver (circuit_of c.args.net.now) outputs c.args.cap)
    ((outputs : List ℕ) → IsVisited c.args.net.now outputs c.args.place → AreMet c.args.net.now outputs c.args.places.now c.args.total → IsOver (circuit_of c.args.net.now) outputs c.args.cap)
    c.in_ok-sum.sum
    (λ f outputs visited met. f outputs (reads_visited c.args.net.now g c.requires.graph.plain outputs c.args.place c.index-nodes-place.result c.as_slice.result.now c.back-shift.result at c.as_slice.ensures c.back-shift.ensures visited) met)
    c.in_ok-sum.ensures.over
