-- The latches drive signals of their own.
use Rattle.std.proofs.Common.{◌≡◌, ◌<◌, ℕ, List, length, subst, sym, arith, slice_get, Some, get_or}
use Rattle.std.proofs.lemmas.Option.{slice_get-get_or}
use Rattle.flat_net.specs.declared.parts.LatchAt.{LatchAt}
use Rattle.event_nodes.specs.View.{EventCircuitView, class_at}
use Rattle.event_nodes.proofs.Growing.{class_is}
use Rattle.event_nodes.proofs.circuit.EventCircuit.class.Goals as goal

pub returns : goal.returns
returns c =
    subst (λ (e : EventCircuitView). c.args.j < length e.net.latches → (l : LatchAt) → slice_get e.net.latches c.args.j ≡ Some l → class_at e.net.latches e.classes l.out.0 ≡ get_or c.as_slice.result.now c.args.j 0) c.self.view_is
    (λ below l at.
    let inside : c.args.j < length c.self.inside.classes.items = omega (arith, below, c.self.invariant.0.each_class) in
    class_is c.self.inside.net c.keeps.ensures.sound c.self.inside.classes.items c.args.j l (get_or c.as_slice.result.now c.args.j 0) at
    (subst (λ (ks : List ℕ). slice_get c.self.inside.classes.items c.args.j ≡ Some (get_or ks c.args.j 0)) (sym c.as_slice.ensures.value) (slice_get-get_or c.self.inside.classes.items c.args.j 0 inside)))
    c.requires
