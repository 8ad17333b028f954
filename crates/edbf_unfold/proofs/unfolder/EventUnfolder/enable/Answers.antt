-- Both functions of the latch are unfolded together, and the care is that of what this walk met.
use Rattle.std.proofs.Common.{◌≡◌, ◌∙◌, ◌+◌, ◌*◌, ℕ, List, [], length, slice_get, Some, refl, sym, ap, subst, arith, ◌<◌}
use Rattle.std.proofs.lemmas.Result.{err_from_is_err_and}
use Rattle.edbf_unfold.specs.event_literals.LatchAt.{LatchAt}
use Rattle.edbf_unfold.specs.event_literals.Sound.{IsSound}
use Rattle.edbf_unfold.specs.event_literals.View.{NetView}
use Rattle.edbf_unfold.proofs.event_literals.Places.{one_at}
use Rattle.event_nodes.specs.View.{EventCircuitView, IsEventCircuit}
use Rattle.event_nodes.proofs.Growing.{grows_trans}
use Rattle.edbf_unfold.specs.declared.event_literals.event_walk.frames.Put.TheVariants.{Low}
use Rattle.edbf_unfold.specs.declared.event_literals.event_walk.frames.Ways.{Ways}
use Rattle.edbf_unfold.specs.Care.{IsCareLit}
use Rattle.edbf_unfold.specs.event_literals.Known.{IsEnableLit}
use Rattle.edbf_unfold.specs.event_literals.event_walk.Walk.{HasCountedStart, enable_start}
use Rattle.edbf_unfold.specs.event_literals.Built.{AreMetOn}
use Rattle.edbf_unfold.proofs.Caring.{enable_later}
use Rattle.edbf_unfold.proofs.event_literals.event_walk.Stepping.{refused_memory, refused_ok}
use Rattle.edbf_unfold.proofs.Finishing.{unfolded_more, counting_same, finished_care, finished_count}
use Rattle.edbf_unfold.proofs.event_literals.Going.{are_known_later}
use Rattle.edbf_unfold.proofs.event_literals.Rooted.{next_within, enable_lit, walked_met}
use Rattle.edbf_unfold.proofs.unfolder.EventUnfolder.enable.Goals as goal

pub unfold_in-requires-clause-signal : goal.unfold_in-requires-clause-signal
unfold_in-requires-clause-signal c = next_within c.args.self.now.circuit c.circuit-circuit.result.now c.net.result.now c.args.j c.latch_of-latch.result.now c.circuit-circuit.ensures c.net.ensures c.keeps.ensures.sound c.latch_of-latch.ensures.there

pub returns-in_err-unfolding-clause-counting : goal.returns-in_err-unfolding-clause-counting
returns-in_err-unfolding-clause-counting c = λ l at.
    let same : c.latch_of-latch.result.now ≡ l = one_at c.args.self.now.circuit.net.latches c.args.j c.latch_of-latch.result.now l (subst (λ (n : NetView). slice_get n.latches c.args.j ≡ Some c.latch_of-latch.result.now) (c.net.ensures ∙ ap (λ (e : EventCircuitView). e.net) c.circuit-circuit.ensures) c.latch_of-latch.ensures.there) at in
    c.unfold_in.ensures.counting.1 (enable_start l) (ap (λ (k : LatchAt). k.next.0) (sym same), ap (λ (k : LatchAt). Some k.out.0) (sym same))

pub returns-in_err-value-clause-counting : goal.returns-in_err-value-clause-counting
returns-in_err-value-clause-counting c = λ l at.
    let same : c.latch_of-latch.result.now ≡ l = one_at c.args.self.now.circuit.net.latches c.args.j c.latch_of-latch.result.now l (subst (λ (n : NetView). slice_get n.latches c.args.j ≡ Some c.latch_of-latch.result.now) (c.net.ensures ∙ ap (λ (e : EventCircuitView). e.net) c.circuit-circuit.ensures) c.latch_of-latch.ensures.there) at in
    counting_same c.args.self.now.circuit (enable_start l) c.args.events.now.children c.unfold_in.new.events.children c.enable_of.new.events.children c.args.counter.now c.unfold_in.new.counter c.enable_of.ensures.grown.children
    (c.unfold_in.ensures.counting.1 (enable_start l) (ap (λ (k : LatchAt). k.next.0) (sym same), ap (λ (k : LatchAt). Some k.out.0) (sym same)))

pub care_of-requires-clause-known : goal.care_of-requires-clause-known
care_of-requires-clause-known c =
    are_known_later c.unfold_in.new.self.circuit c.unfold_in.new.events c.enable_of.new.events c.unfold_in.new.self.frames c.unfold_in.new.self.memo c.keeps-2.ensures.events c.enable_of.ensures.grown.grows c.in_ok-unfolding.ensures.known

pub care_of-requires-clause-met : goal.care_of-requires-clause-met
care_of-requires-clause-met c =
    let met = walked_met c.unfold_in.new.self c.unfold_in.new.events _ c.latch_of-latch.result.now.next.0 _ (5 * c.unfold_in.new.counter.weight) c.in_ok-unfolding.unfolding.table c.in_ok-unfolding.unfolding.ways.items c.in_ok-unfolding.ensures.walked in
    subst (λ (cs : List (ℕ × ℕ)). AreMetOn c.unfold_in.new.self cs c.in_ok-unfolding.unfolding.table c.as_slice.result.now) (sym c.enable_of.ensures.grown.children)
    (subst (λ (ws : List Ways). AreMetOn c.unfold_in.new.self c.unfold_in.new.events.children c.in_ok-unfolding.unfolding.table ws) (sym c.as_slice.ensures.value) met)

pub returns-in_err-care-clause-counting : goal.returns-in_err-care-clause-counting
returns-in_err-care-clause-counting c = λ l at.
    let same : c.latch_of-latch.result.now ≡ l = one_at c.args.self.now.circuit.net.latches c.args.j c.latch_of-latch.result.now l (subst (λ (n : NetView). slice_get n.latches c.args.j ≡ Some c.latch_of-latch.result.now) (c.net.ensures ∙ ap (λ (e : EventCircuitView). e.net) c.circuit-circuit.ensures) c.latch_of-latch.ensures.there) at in
    counting_same c.args.self.now.circuit (enable_start l) c.args.events.now.children c.unfold_in.new.events.children c.care_of.new.events.children c.args.counter.now c.unfold_in.new.counter (c.care_of.ensures.grown.children ∙ c.enable_of.ensures.grown.children)
    (c.unfold_in.ensures.counting.1 (enable_start l) (ap (λ (k : LatchAt). k.next.0) (sym same), ap (λ (k : LatchAt). Some k.out.0) (sym same)))

pub returns-clause-counting : goal.returns-clause-counting
returns-clause-counting c = λ l at.
    let same : c.latch_of-latch.result.now ≡ l = one_at c.args.self.now.circuit.net.latches c.args.j c.latch_of-latch.result.now l (subst (λ (n : NetView). slice_get n.latches c.args.j ≡ Some c.latch_of-latch.result.now) (c.net.ensures ∙ ap (λ (e : EventCircuitView). e.net) c.circuit-circuit.ensures) c.latch_of-latch.ensures.there) at in
    counting_same c.args.self.now.circuit (enable_start l) c.args.events.now.children c.unfold_in.new.events.children c.care_of.new.events.children c.args.counter.now c.unfold_in.new.counter (c.care_of.ensures.grown.children ∙ c.enable_of.ensures.grown.children)
    (c.unfold_in.ensures.counting.1 (enable_start l) (ap (λ (k : LatchAt). k.next.0) (sym same), ap (λ (k : LatchAt). Some k.out.0) (sym same)))

pub returns-clause-known : goal.returns-clause-known
returns-clause-known c =
    are_known_later c.unfold_in.new.self.circuit c.unfold_in.new.events c.care_of.new.events c.unfold_in.new.self.frames c.unfold_in.new.self.memo c.keeps-2.ensures.events
    (grows_trans c.unfold_in.new.events c.enable_of.new.events c.care_of.new.events c.enable_of.ensures.grown.grows c.care_of.ensures.grown.grows) c.in_ok-unfolding.ensures.known

pub returns-clause-here : goal.returns-clause-here
returns-clause-here c = λ l at.
    let now : c.circuit-circuit.result.now ≡ c.unfold_in.new.self.circuit = c.circuit-circuit.ensures ∙ sym c.in_ok-unfolding.ensures.unfolded.0.circuit in
    let same : c.latch_of-latch.result.now ≡ l = one_at c.unfold_in.new.self.circuit.net.latches c.args.j c.latch_of-latch.result.now l
    (subst (λ (e : EventCircuitView). slice_get e.net.latches c.args.j ≡ Some c.latch_of-latch.result.now) now (subst (λ (n : NetView). slice_get n.latches c.args.j ≡ Some c.latch_of-latch.result.now) c.net.ensures c.latch_of-latch.ensures.there)) at in
    subst (λ (k : LatchAt). IsEnableLit c.unfold_in.new.self.circuit c.care_of.new.events [] k c.in_ok-value.value.0 × IsCareLit c.unfold_in.new.self.circuit c.care_of.new.events (enable_start k) c.in_ok-care.care.0) same (
      enable_later c.unfold_in.new.self.circuit c.enable_of.new.events c.care_of.new.events c.keeps-3.ensures.events c.care_of.ensures.grown.grows [] c.latch_of-latch.result.now c.in_ok-value.value.0
          (enable_lit c.unfold_in.new.self.circuit c.unfold_in.new.events c.enable_of.new.events c.keeps-2.ensures.events c.enable_of.ensures.grown.grows c.latch_of-latch.result.now c.in_ok-unfolding.unfolding.lit.0 c.in_ok-unfolding.unfolding.high.0 c.in_ok-value.value.0
          c.in_ok-unfolding.ensures.here.0 c.in_ok-unfolding.ensures.here.1 c.in_ok-value.ensures.here c.in_ok-value.ensures.within),
      finished_care c.unfold_in.new.self c.unfold_in.new.events c.care_of.new.events (subst (λ (e : EventCircuitView). IsSound e.net) now c.keeps.ensures.sound) (subst IsEventCircuit now c.keeps.ensures.circuit) c.keeps-4.ensures.events
          (grows_trans c.unfold_in.new.events c.enable_of.new.events c.care_of.new.events c.enable_of.ensures.grown.grows c.care_of.ensures.grown.grows) (record { node = 0; put = Low c.latch_of-latch.result.now.out.0 }) refl c.latch_of-latch.result.now.next.0 c.unfold_in.new.counter.places (5 * c.unfold_in.new.counter.weight)
          c.in_ok-unfolding.unfolding.table c.in_ok-unfolding.unfolding.ways.items c.in_ok-unfolding.ensures.walked (enable_start c.latch_of-latch.result.now) (refl, refl) c.in_ok-care.care.0 c.in_ok-care.ensures.here,
    )

pub returns-clause-unfolded : goal.returns-clause-unfolded
returns-clause-unfolded c =
    unfolded_more c.args.self.now c.unfold_in.new.self c.args.events.now c.enable_of.new.events c.care_of.new.events ((5 * c.unfold_in.new.counter.weight) + 2) _ _
    (unfolded_more c.args.self.now c.unfold_in.new.self c.args.events.now c.unfold_in.new.events c.enable_of.new.events (5 * c.unfold_in.new.counter.weight + 1) 1 ((5 * c.unfold_in.new.counter.weight) + 2) c.in_ok-unfolding.ensures.unfolded.0 c.enable_of.ensures.grown (omega arith)) c.care_of.ensures.grown
    (omega (arith, c.in_ok-unfolding.ensures.walked.few))

pub returns-clause-counted : goal.returns-clause-counted
returns-clause-counted c = λ l at.
    let same : c.latch_of-latch.result.now ≡ l = one_at c.args.self.now.circuit.net.latches c.args.j c.latch_of-latch.result.now l (subst (λ (n : NetView). slice_get n.latches c.args.j ≡ Some c.latch_of-latch.result.now) (c.net.ensures ∙ ap (λ (e : EventCircuitView). e.net) c.circuit-circuit.ensures) c.latch_of-latch.ensures.there) at in
    let now : c.circuit-circuit.result.now ≡ c.unfold_in.new.self.circuit = c.circuit-circuit.ensures ∙ sym c.in_ok-unfolding.ensures.unfolded.0.circuit in
    subst (λ (k : LatchAt). HasCountedStart c.args.self.now.circuit (enable_start k) c.care_of.new.events.children c.args.counter.now c.unfold_in.new.counter) same
    (finished_count c.unfold_in.new.self c.unfold_in.new.events c.care_of.new.events (subst (λ (e : EventCircuitView). IsSound e.net) now c.keeps.ensures.sound) (subst IsEventCircuit now c.keeps.ensures.circuit) c.keeps-4.ensures.events
    (grows_trans c.unfold_in.new.events c.enable_of.new.events c.care_of.new.events c.enable_of.ensures.grown.grows c.care_of.ensures.grown.grows) (record { node = 0; put = Low c.latch_of-latch.result.now.out.0 }) refl c.latch_of-latch.result.now.next.0 c.unfold_in.new.counter.places (5 * c.unfold_in.new.counter.weight)
    c.in_ok-unfolding.unfolding.table c.in_ok-unfolding.unfolding.ways.items c.in_ok-unfolding.ensures.walked (enable_start c.latch_of-latch.result.now) (refl, refl) c.args.self.now.circuit c.in_ok-unfolding.ensures.unfolded.0.circuit c.args.counter.now c.unfold_in.new.counter refl
    (sym (c.care_of.ensures.grown.children ∙ c.enable_of.ensures.grown.children)) c.in_ok-unfolding.ensures.unfolded.1)

pub returns-in_err-unfolding-clause-grows : goal.returns-in_err-unfolding-clause-grows
returns-in_err-unfolding-clause-grows c = c.unfold_in.ensures.counting.0

pub returns-in_err-value-clause-grows : goal.returns-in_err-value-clause-grows
returns-in_err-value-clause-grows c = grows_trans c.args.events.now c.unfold_in.new.events c.enable_of.new.events c.unfold_in.ensures.counting.0 c.enable_of.ensures.grown.grows

pub returns-in_err-care-clause-grows : goal.returns-in_err-care-clause-grows
returns-in_err-care-clause-grows c = grows_trans c.args.events.now c.enable_of.new.events c.care_of.new.events (grows_trans c.args.events.now c.unfold_in.new.events c.enable_of.new.events c.unfold_in.ensures.counting.0 c.enable_of.ensures.grown.grows) c.care_of.ensures.grown.grows

pub returns-clause-grows : goal.returns-clause-grows
returns-clause-grows c = grows_trans c.args.events.now c.enable_of.new.events c.care_of.new.events (grows_trans c.args.events.now c.unfold_in.new.events c.enable_of.new.events c.unfold_in.ensures.counting.0 c.enable_of.ensures.grown.grows) c.care_of.ensures.grown.grows

pub unfold_in-requires-clause-known : goal.unfold_in-requires-clause-known
unfold_in-requires-clause-known c = c.requires.known

pub enable_of-requires-clause-room : goal.enable_of-requires-clause-room
enable_of-requires-clause-room c = omega (arith, c.requires.room.has.nodes, c.in_ok-unfolding.ensures.unfolded.0.nodes, c.in_ok-unfolding.ensures.unfolded.1.weighed.small)

pub care_of-requires-clause-room : goal.care_of-requires-clause-room
care_of-requires-clause-room c = omega (arith, c.requires.room.has.nodes, c.in_ok-unfolding.ensures.unfolded.0.nodes, c.enable_of.ensures.grown.nodes, c.in_ok-unfolding.ensures.walked.few, c.in_ok-unfolding.ensures.unfolded.1.weighed.small)

pub returns-in_err-value-clause-refused : goal.returns-in_err-value-clause-refused
returns-in_err-value-clause-refused c =
    let p = err_from_is_err_and c.from_residual-in_err-value.result c.from_residual-in_err-value.ensures.1 in
    rw (p.1, p.2) (refused_memory c.args.self.now.circuit.net c.enable_of.new.events.children c.unfold_in.new.counter.places)

pub returns-in_err-care-clause-refused : goal.returns-in_err-care-clause-refused
returns-in_err-care-clause-refused c =
    let p = err_from_is_err_and c.from_residual-in_err-care.result c.from_residual-in_err-care.ensures.1 in
    rw (p.1, p.2) (refused_memory c.args.self.now.circuit.net c.care_of.new.events.children c.unfold_in.new.counter.places)

pub returns-clause-refused : goal.returns-clause-refused
returns-clause-refused c = refused_ok _ _ _ _

pub latch_of-latch-requires : goal.latch_of-latch-requires
latch_of-latch-requires c = subst (λ (n : NetView). c.args.j < length n.latches) (sym (c.net.ensures ∙ ap (λ (e : EventCircuitView). e.net) c.circuit-circuit.ensures)) c.requires.latch

pub enable_of-requires-clause-low : goal.enable_of-requires-clause-low
enable_of-requires-clause-low c = c.in_ok-unfolding.ensures.here.0.within

pub enable_of-requires-clause-high : goal.enable_of-requires-clause-high
enable_of-requires-clause-high c = c.in_ok-unfolding.ensures.here.1.within
