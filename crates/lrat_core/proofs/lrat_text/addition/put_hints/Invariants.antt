use Rattle.std.proofs.Common.{◌≡◌, ◌++◌, take, map}
use Rattle.lrat_core.specs.lrat_text.Spellings.{hint_of}
use Rattle.lrat_core.proofs.lrat_text.addition.put_hints.Given as goal

-- the hints so far
abbrev pub invariant-loop-number : goal.invariant-loop-number
invariant-loop-number l = l.hints.items ≡ l.fn.hints.items ++ map hint_of (take l.number-index l.numbers)
