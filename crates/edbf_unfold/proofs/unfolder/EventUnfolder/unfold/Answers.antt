-- The value and the care of what the walk met.
use Rattle.std.proofs.Common.{◌≡◌, ◌∙◌, ◌+◌, ◌*◌, List, length, slice_get, Some, None, refl, sym, ap, subst, arith}
use Rattle.edbf_unfold.specs.event_literals.Sound.{IsSound}
use Rattle.event_nodes.specs.View.{EventCircuitView, IsEventCircuit}
use Rattle.event_nodes.proofs.Growing.{grows_trans}
use Rattle.edbf_unfold.specs.declared.event_literals.event_walk.frames.Put.TheVariants.{Free}
use Rattle.edbf_unfold.specs.declared.event_literals.event_walk.frames.Ways.{Ways}
use Rattle.edbf_unfold.specs.Reached.{AreNodesOf}
use Rattle.edbf_unfold.specs.event_literals.Built.{AreMetOn}
use Rattle.edbf_unfold.proofs.Finishing.{root_later, unfolded_more, counting_same, finished_care, finished_count, finished_reach, onward_at, framed_at}
use Rattle.edbf_unfold.proofs.event_literals.Going.{are_known_later}
use Rattle.edbf_unfold.proofs.event_literals.Rooted.{walked_met}
use Rattle.std.proofs.lemmas.Result.{err_from_is_err_and}
use Rattle.edbf_unfold.proofs.event_literals.event_walk.Stepping.{refused_memory, refused_ok}
use Rattle.edbf_unfold.proofs.unfolder.EventUnfolder.unfold.Goals as goal

pub returns-in_err-unfolding-clause-counting : goal.returns-in_err-unfolding-clause-counting
returns-in_err-unfolding-clause-counting c = (c.unfold_in.ensures.counting.0, c.unfold_in.ensures.counting.1 (record { place = c.args.s.0; left_out = None }) (refl, refl))

pub care_of-requires-clause-met : goal.care_of-requires-clause-met
care_of-requires-clause-met c =
    subst (λ (ws : List Ways). AreMetOn c.unfold_in.new.self c.unfold_in.new.events.children c.in_ok-unfolding.unfolding.table ws) (sym c.as_slice.ensures.value)
    (walked_met c.unfold_in.new.self c.unfold_in.new.events _ c.args.s.0 _ (5 * c.unfold_in.new.counter.weight) c.in_ok-unfolding.unfolding.table c.in_ok-unfolding.unfolding.ways.items c.in_ok-unfolding.ensures.walked)

pub returns-in_err-care-clause-counting : goal.returns-in_err-care-clause-counting
returns-in_err-care-clause-counting c = (
  grows_trans c.args.events.now c.unfold_in.new.events c.care_of.new.events c.unfold_in.ensures.counting.0 c.care_of.ensures.grown.grows,
  counting_same c.args.self.now.circuit (record { place = c.args.s.0; left_out = None }) c.args.events.now.children c.unfold_in.new.events.children c.care_of.new.events.children c.args.counter.now c.unfold_in.new.counter c.care_of.ensures.grown.children
      (c.unfold_in.ensures.counting.1 (record { place = c.args.s.0; left_out = None }) (refl, refl)),
)

pub returns-clause-counting : goal.returns-clause-counting
returns-clause-counting c = (
  grows_trans c.args.events.now c.unfold_in.new.events c.care_of.new.events c.unfold_in.ensures.counting.0 c.care_of.ensures.grown.grows,
  counting_same c.args.self.now.circuit (record { place = c.args.s.0; left_out = None }) c.args.events.now.children c.unfold_in.new.events.children c.care_of.new.events.children c.args.counter.now c.unfold_in.new.counter c.care_of.ensures.grown.children
      (c.unfold_in.ensures.counting.1 (record { place = c.args.s.0; left_out = None }) (refl, refl)),
)

pub returns-clause-known : goal.returns-clause-known
returns-clause-known c =
    are_known_later c.unfold_in.new.self.circuit c.unfold_in.new.events c.care_of.new.events c.unfold_in.new.self.frames c.unfold_in.new.self.memo c.keeps-2.ensures.events c.care_of.ensures.grown.grows c.in_ok-unfolding.ensures.known

pub returns-clause-here : goal.returns-clause-here
returns-clause-here c =
    let same : c.circuit-circuit.result.now ≡ c.unfold_in.new.self.circuit = c.circuit-circuit.ensures ∙ sym c.in_ok-unfolding.ensures.unfolded.0.circuit in (
      root_later c.unfold_in.new.self.circuit c.unfold_in.new.events c.care_of.new.events c.keeps-2.ensures.events c.care_of.ensures.grown.grows c.args.s.0 c.in_ok-unfolding.unfolding.lit.0 c.in_ok-unfolding.ensures.here.0,
      finished_care c.unfold_in.new.self c.unfold_in.new.events c.care_of.new.events (subst (λ (e : EventCircuitView). IsSound e.net) same c.keeps.ensures.sound) (subst IsEventCircuit same c.keeps.ensures.circuit) c.keeps-3.ensures.events c.care_of.ensures.grown.grows (record { node = 0; put = Free }) refl c.args.s.0 _
          (5 * c.unfold_in.new.counter.weight) c.in_ok-unfolding.unfolding.table c.in_ok-unfolding.unfolding.ways.items c.in_ok-unfolding.ensures.walked (record { place = c.args.s.0; left_out = None }) (refl, refl) c.in_ok-care.care.0 c.in_ok-care.ensures.here,
    )

pub returns-clause-unfolded : goal.returns-clause-unfolded
returns-clause-unfolded c =
    unfolded_more c.args.self.now c.unfold_in.new.self c.args.events.now c.unfold_in.new.events c.care_of.new.events (5 * c.unfold_in.new.counter.weight + 1) _ _ c.in_ok-unfolding.ensures.unfolded.0 c.care_of.ensures.grown (omega (arith, c.in_ok-unfolding.ensures.walked.few))

pub returns-clause-counted : goal.returns-clause-counted
returns-clause-counted c =
    let same : c.circuit-circuit.result.now ≡ c.unfold_in.new.self.circuit = c.circuit-circuit.ensures ∙ sym c.in_ok-unfolding.ensures.unfolded.0.circuit in
    finished_count c.unfold_in.new.self c.unfold_in.new.events c.care_of.new.events (subst (λ (e : EventCircuitView). IsSound e.net) same c.keeps.ensures.sound) (subst IsEventCircuit same c.keeps.ensures.circuit) c.keeps-3.ensures.events c.care_of.ensures.grown.grows (record { node = 0; put = Free }) refl c.args.s.0 _
    (5 * c.unfold_in.new.counter.weight) c.in_ok-unfolding.unfolding.table c.in_ok-unfolding.unfolding.ways.items c.in_ok-unfolding.ensures.walked (record { place = c.args.s.0; left_out = None }) (refl, refl) c.args.self.now.circuit c.in_ok-unfolding.ensures.unfolded.0.circuit c.args.counter.now c.unfold_in.new.counter refl
    (sym c.care_of.ensures.grown.children) c.in_ok-unfolding.ensures.unfolded.1

pub nodes_of-requires-clause-each : goal.nodes_of-requires-clause-each
nodes_of-requires-clause-each c = ap length c.as_slice-2.ensures.value ∙ c.in_ok-unfolding.ensures.walked.each

pub nodes_of-requires-clause-on : goal.nodes_of-requires-clause-on
nodes_of-requires-clause-on c = λ i p g at over. onward_at c.unfold_in.new.self c.unfold_in.new.events _ c.args.s.0 _ (5 * c.unfold_in.new.counter.weight) c.in_ok-unfolding.unfolding.table c.in_ok-unfolding.unfolding.ways.items c.in_ok-unfolding.ensures.walked i p g at (subst (λ (ws : List Ways). slice_get ws i ≡ Some g) c.as_slice-2.ensures.value over)

pub only_always-requires : goal.only_always-requires
only_always-requires c = λ i p at. framed_at c.unfold_in.new.self c.unfold_in.new.events _ c.args.s.0 _ (5 * c.unfold_in.new.counter.weight) c.in_ok-unfolding.unfolding.table c.in_ok-unfolding.unfolding.ways.items c.in_ok-unfolding.ensures.walked i p at

pub returns-in_err-nodes-clause-counting : goal.returns-in_err-nodes-clause-counting
returns-in_err-nodes-clause-counting c = (
  grows_trans c.args.events.now c.unfold_in.new.events c.care_of.new.events c.unfold_in.ensures.counting.0 c.care_of.ensures.grown.grows,
  counting_same c.args.self.now.circuit (record { place = c.args.s.0; left_out = None }) c.args.events.now.children c.unfold_in.new.events.children c.care_of.new.events.children c.args.counter.now c.unfold_in.new.counter c.care_of.ensures.grown.children
      (c.unfold_in.ensures.counting.1 (record { place = c.args.s.0; left_out = None }) (refl, refl)),
)

pub returns-clause-reach : goal.returns-clause-reach
returns-clause-reach c =
    let same : c.circuit-circuit.result.now ≡ c.unfold_in.new.self.circuit = c.circuit-circuit.ensures ∙ sym c.in_ok-unfolding.ensures.unfolded.0.circuit in
    finished_reach c.unfold_in.new.self c.unfold_in.new.events c.care_of.new.events (subst (λ (e : EventCircuitView). IsSound e.net) same c.keeps.ensures.sound) (subst IsEventCircuit same c.keeps.ensures.circuit) c.keeps-3.ensures.events c.care_of.ensures.grown.grows (record { node = 0; put = Free }) refl c.args.s.0 _
    (5 * c.unfold_in.new.counter.weight) c.in_ok-unfolding.unfolding.table c.in_ok-unfolding.unfolding.ways.items c.in_ok-unfolding.ensures.walked (record { place = c.args.s.0; left_out = None }) (refl, refl) c.in_ok-nodes.nodes c.only_always.result
    (subst (λ (ws : List Ways). AreNodesOf c.unfold_in.new.self.circuit c.unfold_in.new.self.frames c.in_ok-unfolding.unfolding.table ws c.in_ok-nodes.nodes) c.as_slice-2.ensures.value c.in_ok-nodes.ensures) c.only_always.ensures.yes c.only_always.ensures.no

pub returns-clause-refused : goal.returns-clause-refused
returns-clause-refused c = refused_ok _ _ _ _

pub returns-in_err-care-clause-refused : goal.returns-in_err-care-clause-refused
returns-in_err-care-clause-refused c =
    let p = err_from_is_err_and c.from_residual-in_err-care.result c.from_residual-in_err-care.ensures.1 in
    rw (p.1, p.2) (refused_memory c.args.self.now.circuit.net c.care_of.new.events.children c.unfold_in.new.counter.places)

pub returns-in_err-nodes-clause-refused : goal.returns-in_err-nodes-clause-refused
returns-in_err-nodes-clause-refused c =
    let p = err_from_is_err_and c.from_residual-in_err-nodes.result c.from_residual-in_err-nodes.ensures.1 in
    rw (p.1, p.2) (refused_memory c.args.self.now.circuit.net c.care_of.new.events.children c.unfold_in.new.counter.places)

pub care_of-requires-clause-room : goal.care_of-requires-clause-room
care_of-requires-clause-room c = omega (arith, c.requires.room.has.nodes, c.in_ok-unfolding.ensures.unfolded.0.nodes, c.in_ok-unfolding.ensures.walked.few, c.in_ok-unfolding.ensures.unfolded.1.weighed.small)
