use Rattle.std.proofs.Common.{◌≡◌, ◌++◌, take}
use Rattle.std.specs.List.{flat_map}
use Rattle.lrat_core.specs.dimacs_text.dimacs_writer.Written.{literal_piece}
use Rattle.lrat_core.proofs.dimacs_text.dimacs_writer.writer.put_literals.Given as goal

-- the literals so far
abbrev pub invariant-loop-literal : goal.invariant-loop-literal
invariant-loop-literal l = l.text.items ≡ l.fn.text.items ++ flat_map literal_piece (take l.literal-index l.literals)
