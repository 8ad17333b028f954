-- The setup of the chosen latches.
use Rattle.event_setup.proofs.Setups.{chosen_setup}
use Rattle.event_setup.proofs.setup.set_up_events.Goals as goal

pub returns : goal.returns
returns c = chosen_setup c.args.a.now c.args.b.now c.args.may_cut c.in_ok-exposure.exposure c.in_ok-setup.setup c.in_ok-exposure.ensures c.in_ok-setup.ensures
