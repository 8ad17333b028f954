-- The variables of the first output that isn't shown.
use Rattle.std.proofs.Common.{ℕ, List, Option, sym, subst}
use Rattle.induct.specs.declared.block_outputs.answer.Shown.{Shown}
use Rattle.induct.proofs.Telling.{IsFew, first_shown_small}
use Rattle.induct.proofs.verdict.judge.Goals as goal

pub verdict_of-requires : goal.verdict_of-requires
verdict_of-requires c = subst (λ (o : Option (List ℕ × Shown)). IsFew c.args.count o) (sym c.in_ok-pairs.ensures.shown) (first_shown_small c.args.count c.args.outputs c.requires)
