-- The latches, and their classes.
use Rattle.std.proofs.Common.{sym, subst, arith}
use Rattle.std.proofs.lemmas.Result.{err_from_is_err_and}
use Rattle.std.specs.List.{All}
use Rattle.class_search.specs.event_order.Order.{IsTagOf, IsTagOrder}
use Rattle.event_classes.proofs.Limiting.{error_is, many_no_large, many_no_limit, memory_no_many, memory_no_large, memory_no_limit}
use Rattle.event_classes.proofs.Stopping.{many_latches}
use Rattle.event_classes.proofs.making.make_classes.Goals as goal

pub make_over-requires : goal.make_over-requires
make_over-requires c = record {
  left_depths = c.requires.left_depths;
  right_depths = c.requires.right_depths;
  left_classes = c.requires.left_classes;
  right_classes = c.requires.right_classes;
  named = subst (All (IsTagOf c.args.left.net c.args.right.net)) (sym c.as_slice.ensures.value) c.in_ok-tags.ensures.named;
  order = subst (IsTagOrder c.args.left.net c.args.right.net) (sym c.as_slice.ensures.value) c.in_ok-tags.ensures.order;
  few = omega (arith, c.if-len-gt-MAX_ENABLED_LATCHES.false, c.len.ensures, c.as_slice.ensures.len);
  conflicts = c.requires.conflicts;
}

pub returns : goal.returns
returns c = record { made = c.make_over.ensures.made; many = c.make_over.ensures.many; large = c.make_over.ensures.large; limit = c.make_over.ensures.limit }

pub returns-then-len-gt-MAX_ENABLED_LATCHES-clause-many : goal.returns-then-len-gt-MAX_ENABLED_LATCHES-clause-many
returns-then-len-gt-MAX_ENABLED_LATCHES-clause-many c = λ is. many_latches c.args.left c.args.right c.in_ok-tags.tags.items c.keeps.ensures.sound c.keeps-2.ensures.sound c.requires.left_depths c.requires.right_depths c.in_ok-tags.ensures.order (omega (arith, c.if-len-gt-MAX_ENABLED_LATCHES.true, c.len.ensures))

pub returns-then-len-gt-MAX_ENABLED_LATCHES-clause-large : goal.returns-then-len-gt-MAX_ENABLED_LATCHES-clause-large
returns-then-len-gt-MAX_ENABLED_LATCHES-clause-large c = λ side is. absurd (many_no_large (error_is is))

pub returns-then-len-gt-MAX_ENABLED_LATCHES-clause-limit : goal.returns-then-len-gt-MAX_ENABLED_LATCHES-clause-limit
returns-then-len-gt-MAX_ENABLED_LATCHES-clause-limit c = λ latch other proof is. absurd (many_no_limit (error_is is))

pub returns-in_err-tags-clause-many : goal.returns-in_err-tags-clause-many
returns-in_err-tags-clause-many c = let p = err_from_is_err_and c.from_residual.result c.from_residual.ensures.1 in λ is. absurd (memory_no_many p.1 p.2 is)

pub returns-in_err-tags-clause-large : goal.returns-in_err-tags-clause-large
returns-in_err-tags-clause-large c = let p = err_from_is_err_and c.from_residual.result c.from_residual.ensures.1 in λ side is. absurd (memory_no_large p.1 p.2 is)

pub returns-in_err-tags-clause-limit : goal.returns-in_err-tags-clause-limit
returns-in_err-tags-clause-limit c = let p = err_from_is_err_and c.from_residual.result c.from_residual.ensures.1 in λ latch other proof is. absurd (memory_no_limit p.1 p.2 is)
