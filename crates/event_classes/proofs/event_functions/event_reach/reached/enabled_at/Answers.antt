-- The latch drives the signal.
use Rattle.std.proofs.Common.{◌∙◌, ◌<◌, length, slice_get, sym, ap, subst}
use Rattle.std.proofs.lemmas.Option.{slice_get_within}
use Rattle.event_nodes.specs.flat_net.View.{NetView}
use Rattle.event_nodes.proofs.flat_net.Places.{one_at}
use Rattle.event_nodes.specs.View.{Enabled}
use Rattle.event_nodes.proofs.flat_net.Drivers.{latch_of_equation}
use Rattle.event_classes.proofs.event_functions.event_reach.Passing.{latch_at}
use Rattle.event_classes.proofs.event_functions.event_reach.reached.enabled_at.Goals as goal

pub driver-requires : goal.driver-requires
driver-requires c =
    let o = latch_of_equation c.args.circuit.now.net c.keeps.ensures.sound c.requires.0 c.args.latch c.requires.1 c.requires.2 in
    let within : c.args.latch < length c.args.circuit.now.net.drivers = slice_get_within c.args.circuit.now.net.drivers c.args.latch _ o.owner in
    subst (λ (n : NetView). c.args.latch < length n.drivers) (sym c.net-net.ensures) within

pub returns-in_default : goal.returns-in_default
returns-in_default c =
    let o = latch_of_equation c.args.circuit.now.net c.keeps.ensures.sound c.requires.0 c.args.latch c.requires.1 c.requires.2 in
    absurd (c.in_default.not-Latch o.j (one_at c.args.circuit.now.net.drivers c.args.latch _ _ (ap (λ (n : NetView). slice_get n.drivers c.args.latch) (sym c.net-net.ensures) ∙ c.driver.ensures) o.owner))

pub is_enabled-enabled-requires : goal.is_enabled-enabled-requires
is_enabled-enabled-requires c =
    let l = latch_at _ _ c.keeps.ensures.sound c.args.latch c.in-Latch.j _ c.net-net.ensures c.driver.ensures c.in-Latch.is in slice_get_within c.args.circuit.now.net.latches c.in-Latch.j l.0 l.1

pub returns-then-enabled-clause-here : goal.returns-then-enabled-clause-here
returns-then-enabled-clause-here c =
    let l = latch_at _ _ c.keeps.ensures.sound c.args.latch c.in-Latch.j _ c.net-net.ensures c.driver.ensures c.in-Latch.is in
    record { latch = l.0; at = l.1; out = l.2; enabled = subst (Enabled c.args.circuit.now) l.2 (c.is_enabled-enabled.ensures.yes l.0 l.1 c.if-enabled.true) }

pub returns-else-enabled-clause-none : goal.returns-else-enabled-clause-none
returns-else-enabled-clause-none c = λ on.
    let l = latch_at _ _ c.keeps.ensures.sound c.args.latch c.in-Latch.j _ c.net-net.ensures c.driver.ensures c.in-Latch.is in
    c.is_enabled-enabled.ensures.no l.0 l.1 c.if-enabled.false (subst (Enabled c.args.circuit.now) (sym l.2) on)
