use Rattle.std.proofs.Common.{◌≡◌, drop, Option}
use Rattle.lrat_core.specs.Sequences.{DeletionGives}
use Rattle.lrat_core.specs.States.{live_of, without_all}
use Rattle.text_numbers.specs.declared.kinds.TextKind.{TextKind}
use Rattle.lrat_core.proofs.checker.delete.Given as goal

-- what the numbers that are left give, all give
abbrev pub invariant-loop-id : goal.invariant-loop-id
invariant-loop-id l = record {
  same : without_all (live_of l.live) (drop l.id-index l.ids) ≡ without_all (live_of l.fn.live) l.ids;
  gives : (given : Option TextKind) → DeletionGives (live_of l.live) (drop l.id-index l.ids) given → DeletionGives (live_of l.fn.live) l.ids given;
}
