-- The names of the latches of both nets.
use Rattle.std.proofs.Common.{◌∙◌, ap}
use Rattle.event_setup.specs.event_meaning.event_names.event_fits.Named.{latch_names}
use Rattle.event_check.proofs.event_answers.reaching.both_latch_names.Goals as goal

pub returns : goal.returns
returns c = (c.in_ok-left_latches.ensures ∙ ap latch_names c.net.ensures, c.in_ok-right_latches.ensures ∙ ap latch_names c.net-2.ensures)
