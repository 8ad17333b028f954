use Rattle.std.proofs.Common.{◌≡◌, ◌++◌, true, take, map}
use Rattle.std.specs.List.{list_all}
use Rattle.lrat_core.specs.dimacs_text.Literals.{is_literal, literal_of}
use Rattle.lrat_core.proofs.dimacs_text.literals.put_literals.Given as goal

-- the numbers so far are literals, and these were put
abbrev pub invariant-loop-number : goal.invariant-loop-number
invariant-loop-number l = record {
  all : list_all (is_literal l.limit) (take l.number-index l.numbers) ≡ true;
  put : l.literals.items ≡ l.fn.literals.items ++ map literal_of (take l.number-index l.numbers);
}
