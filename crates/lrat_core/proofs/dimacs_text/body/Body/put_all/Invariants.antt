use Rattle.std.proofs.Common.{◌≡◌, length}
use Rattle.text_numbers.specs.Numbers.{behind}
use Rattle.lrat_core.specs.dimacs_text.Entries.{entries_of}
use Rattle.lrat_core.proofs.dimacs_text.body.Body.put_all.Given as goal

-- the entries so far, and those of the tokens that are left
abbrev pub invariant-loop-token : goal.invariant-loop-token
invariant-loop-token l = record {
  header : l.self.header ≡ l.fn.self.header;
  read : behind l.fn.self.entries.items (entries_of l.limit l.initial.left) ≡ behind l.self.entries.items (entries_of l.limit l.left);
}

abbrev pub decreases-loop-token : goal.decreases-loop-token
decreases-loop-token l = length l.left
