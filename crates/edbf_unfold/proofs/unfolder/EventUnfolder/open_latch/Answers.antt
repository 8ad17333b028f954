-- What drives the signal says whether a latch does.
use Rattle.std.proofs.Common.{◌≡◌, ◌∙◌, slice_get, Some, ap, subst}
use Rattle.edbf_unfold.specs.event_literals.Driver.TheVariants as driver
use Rattle.edbf_unfold.specs.event_literals.View.{NetView}
use Rattle.edbf_unfold.proofs.event_literals.Places.{one_at}
use Rattle.event_nodes.specs.View.{EventCircuitView}
use Rattle.event_nodes.proofs.flat_net.Drivers.{latch_of_equation}
use Rattle.edbf_unfold.proofs.event_literals.event_walk.Lent.{drives_of, sound_of}
use Rattle.edbf_unfold.proofs.unfolder.EventUnfolder.open_latch.Goals as goal

pub open_at-requires-clause-latch : goal.open_at-requires-clause-latch
open_at-requires-clause-latch c =
    drives_of c.args.self.now.circuit c.circuit-circuit.result.now c.circuit-circuit.ensures c.net.result.now c.net.ensures c.args.place.1 c.driver.result (driver.Latch c.in-Latch.j) c.driver.ensures c.in-Latch.is

pub returns-in_default-clause-none : goal.returns-in_default-clause-none
returns-in_default-clause-none c = λ o.
    let sound = sound_of c.args.self.now.circuit c.circuit-circuit.result.now c.circuit-circuit.ensures c.keeps.ensures.sound in
    let l = latch_of_equation c.args.self.now.circuit.net sound o.latch.0 c.args.place.1 o.latch.1 o.latch.2 in
    c.in_default.not-Latch l.j (one_at c.args.self.now.circuit.net.drivers c.args.place.1 c.driver.result (driver.Latch l.j) (subst (λ (n : NetView). slice_get n.drivers c.args.place.1 ≡ Some c.driver.result) (c.net.ensures ∙ ap (λ (e : EventCircuitView). e.net) c.circuit-circuit.ensures) c.driver.ensures) l.owner)
