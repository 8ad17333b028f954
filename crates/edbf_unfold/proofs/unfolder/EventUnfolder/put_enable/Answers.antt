-- A place without a latch changes nothing.
use Rattle.std.proofs.Common.{◌≡◌, ◌∙◌, slice_get, Some, refl, ap, subst, inl}
use Rattle.edbf_unfold.specs.event_literals.Driver.TheVariants as driver
use Rattle.edbf_unfold.specs.event_literals.View.{NetView}
use Rattle.edbf_unfold.proofs.event_literals.Places.{one_at}
use Rattle.event_nodes.specs.View.{EventCircuitView}
use Rattle.event_nodes.proofs.flat_net.Drivers.{latch_of_equation}
use Rattle.edbf_unfold.proofs.event_literals.event_walk.Lent.{drives_of, sound_of}
use Rattle.edbf_unfold.proofs.event_literals.Lits.{grown_none}
use Rattle.edbf_unfold.proofs.unfolder.EventUnfolder.put_enable.Goals as goal

pub put_latch-requires-clause-latch : goal.put_latch-requires-clause-latch
put_latch-requires-clause-latch c =
    drives_of c.args.self.now.circuit c.circuit-circuit.result.now c.circuit-circuit.ensures c.net.result.now c.net.ensures c.args.place.1 c.driver.result (driver.Latch c.in-Latch.j) c.driver.ensures c.in-Latch.is

pub returns-in_default-clause-here : goal.returns-in_default-clause-here
returns-in_default-clause-here c =
    inl (
      λ held.
          let sound = sound_of c.args.self.now.circuit c.circuit-circuit.result.now c.circuit-circuit.ensures c.keeps.ensures.sound in
          let on = held.enabled in
          let o = latch_of_equation c.args.self.now.circuit.net sound on.name c.args.place.1 on.next on.latch in
          c.in_default.not-Latch o.j (one_at c.args.self.now.circuit.net.drivers c.args.place.1 c.driver.result (driver.Latch o.j) (subst (λ (n : NetView). slice_get n.drivers c.args.place.1 ≡ Some c.driver.result) (c.net.ensures ∙ ap (λ (e : EventCircuitView). e.net) c.circuit-circuit.ensures) c.driver.ensures) o.owner),
      refl,
    )

pub returns-in_default-clause-grown : goal.returns-in_default-clause-grown
returns-in_default-clause-grown c = grown_none c.args.events.now 1
