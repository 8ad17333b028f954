-- Facts of a circuit that is lent.
use Rattle.std.proofs.Common.{◌≡◌, ◌∙◌, ℕ, length, slice_get, Some, ap, subst}
use Rattle.event_nodes.specs.flat_net.Driver.{Driver}
use Rattle.event_nodes.specs.flat_net.LatchAt.{LatchAt}
use Rattle.event_nodes.specs.flat_net.Sound.{IsSound}
use Rattle.event_nodes.specs.flat_net.View.{NetView}
use Rattle.event_nodes.specs.View.{EventCircuitView, IsEventCircuit}

pub drives_of : (e lent : EventCircuitView) → lent ≡ e → (n : NetView) → n ≡ lent.net → (s : ℕ) (d f : Driver) → slice_get n.drivers s ≡ Some d → d ≡ f → slice_get e.net.drivers s ≡ Some f
drives_of e lent same n net s d f at is = subst (λ (m : NetView). slice_get m.drivers s ≡ Some f) (net ∙ ap (λ (c : EventCircuitView). c.net) same) (at ∙ ap Some is)

pub latch_of_lent : (e lent : EventCircuitView) → lent ≡ e → (n : NetView) → n ≡ lent.net → (j : ℕ) (l : LatchAt) → slice_get n.latches j ≡ Some l → slice_get e.net.latches j ≡ Some l
latch_of_lent e lent same n net j l at = subst (λ (m : NetView). slice_get m.latches j ≡ Some l) (net ∙ ap (λ (c : EventCircuitView). c.net) same) at

pub sound_of : (e lent : EventCircuitView) → lent ≡ e → IsSound lent.net → IsSound e.net
sound_of e lent same sound = subst (λ (c : EventCircuitView). IsSound c.net) same sound

pub order_of : (e lent : EventCircuitView) → lent ≡ e → IsEventCircuit lent → length e.order ≡ length e.net.inputs
order_of e lent same is = subst (λ (c : EventCircuitView). length c.order ≡ length c.net.inputs) same is.each_order
