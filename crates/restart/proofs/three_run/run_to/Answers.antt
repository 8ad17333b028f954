-- What is read of the output is known in the last row.
use Rattle.std.proofs.Common.{arith}
use Rattle.std.proofs.lemmas.Option.{slice_get_within}
use Rattle.restart.proofs.Ran.{known_last}
use Rattle.restart.proofs.three_run.run_to.Goals as goal

pub returns : goal.returns
returns c = λ bit e.
    let found = c.value_of.ensures bit e in
    let low = slice_get_within c.run.new.values found.0 _ found.2 in
    (found.0, found.1, known_last c.args.net.now c.args.columns.now c.args.rows.now c.keeps.ensures.sound c.requires.columns c.run.new.latches c.run.new.values c.run.ensures.run found.0 bit (omega (arith, low, c.run.ensures.values_size, c.requires.values)) found.2)
