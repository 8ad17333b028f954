use Rattle.std.proofs.Common.{take}
use Rattle.obligations.specs.Asked.{HaveMore}
use Rattle.obligations.proofs.sides.put_sides.Given as goal

abbrev pub invariant-loop-query : goal.invariant-loop-query
invariant-loop-query l = HaveMore (take l.query-index l.queries) l.fn.sides.items l.sides.items
