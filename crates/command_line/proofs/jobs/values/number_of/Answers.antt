use Rattle.command_line.proofs.Numbers.{number_is}
use Rattle.command_line.proofs.jobs.values.number_of.Goals as goal

pub returns : goal.returns
returns c = number_is c.args.low c.args.high c.args.word.now c.number_between.result c.number_between.ensures.some c.number_between.ensures.none
