-- What is there is made again.
use Rattle.std.proofs.Common.{Some, sym, ap, ◌∙◌}
use Rattle.base_lists.proofs.list.OptionDuplicate.duplicate.Goals as goal

pub returns-in_ok-duplicate-in-Some : goal.returns-in_ok-duplicate-in-Some
returns-in_ok-duplicate-in-Some g c = ap Some c.in_ok-duplicate-in-Some.ensures ∙ sym c.in-Some.is
