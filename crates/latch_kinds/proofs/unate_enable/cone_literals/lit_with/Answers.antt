-- A new table has no literals.
use Rattle.std.proofs.Common.{nat_eq, ap}
use Rattle.std.specs.Map.{lookup}
use Rattle.latch_kinds.proofs.unate_enable.cone_literals.lit_with.Goals as goal

pub lit_over-requires : goal.lit_over-requires
lit_over-requires c = record {
  empty = λ q. ap (lookup (nat_eq q)) c.new-known.ensures.empty;
  increasing = c.requires.increasing;
  within = c.requires.within;
  closed = c.requires.closed;
  among = c.requires.among;
  few = c.requires.few;
  room = c.requires.room;
}

pub returns : goal.returns
returns c = record { within = c.lit_over.ensures.within; tree = c.lit_over.ensures.tree; value = c.lit_over.ensures.value; grown = c.lit_over.ensures.grown }
