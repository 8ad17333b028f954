use Rattle.std.proofs.Common.{◌≡◌, ◌++◌, take, map}
use Rattle.lrat_core.specs.lrat_text.Spellings.{id_of}
use Rattle.lrat_core.proofs.lrat_text.addition.put_ids.Given as goal

-- the numbers so far
abbrev pub invariant-loop-number : goal.invariant-loop-number
invariant-loop-number l = l.ids.items ≡ l.fn.ids.items ++ map id_of (take l.number-index l.numbers)
