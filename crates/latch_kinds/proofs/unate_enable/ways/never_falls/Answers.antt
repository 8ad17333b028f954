-- By a table of ways.
use Rattle.latch_kinds.proofs.unate_enable.ways.never_falls.Goals as goal

pub never_falls_in-requires : goal.never_falls_in-requires
never_falls_in-requires c = record {
  increasing = c.requires.increasing;
  within = c.requires.within;
  closed = c.requires.closed;
  among = c.requires.among;
  source = c.requires.source;
}

pub returns : goal.returns
returns c = c.never_falls_in.ensures
