-- From the first latch to the last one.
use Rattle.std.proofs.Common.{Err, sym, ap, subst}
use Rattle.std.proofs.lemmas.Result.{err_from_is_err_and}
use Rattle.std.specs.List.{All}
use Rattle.event_nodes.specs.View.{EventCircuitView}
use Rattle.class_search.specs.event_order.Order.{IsTagOf}
use Rattle.event_classes.specs.Steps.{HaveDepths}
use Rattle.event_classes.proofs.Limiting.{error_is, no_error, memory_no_many, memory_no_large, memory_no_limit}
use Rattle.event_classes.proofs.Stopping.{many_both, heavy_both, limit_both}
use Rattle.event_classes.proofs.WholeMap.{made_first, made_last}
use Rattle.event_classes.proofs.making.make_over.Goals as goal

pub join_all-requires : goal.join_all-requires
join_all-requires c = record {
  named = subst (λ (e : EventCircuitView). All (IsTagOf e.net c.in_ok-map.map.right.net) c.args.tags.now) (sym c.in_ok-map.ensures.left)
      (subst (λ (e : EventCircuitView). All (IsTagOf c.args.left.net e.net) c.args.tags.now) (sym c.in_ok-map.ensures.right) c.requires.named);
  begins = made_first c.args.left c.args.right c.in_ok-map.map c.args.tags.now c.keeps.ensures.sound c.keeps-2.ensures.sound c.requires.left_depths c.requires.right_depths c.requires.order c.requires.left_classes c.requires.right_classes c.in_ok-map.ensures;
  depths = subst (λ (e : EventCircuitView). HaveDepths e c.in_ok-map.map.right) (sym c.in_ok-map.ensures.left) (subst (HaveDepths c.args.left) (sym c.in_ok-map.ensures.right) (c.requires.left_depths, c.requires.right_depths));
  few = c.requires.few;
  conflicts = c.requires.conflicts;
}

pub returns-in-Ok-clause-made : goal.returns-in-Ok-clause-made
returns-in-Ok-clause-made c = made_last c.args.left c.args.right c.in_ok-map.map c.join_all.new.map c.args.tags.now c.in_ok-map.ensures c.keeps-in-Ok.ensures.sound c.keeps-in-Ok-2.ensures.sound c.keeps-in-Ok.ensures.circuit c.keeps-in-Ok-2.ensures.circuit c.keeps-in-Ok-3.ensures.events c.keeps-in-Ok-4.ensures c.keeps-in-Ok-5.ensures c.requires.few c.in-Ok.ensures.made

pub returns-in-Ok-clause-many : goal.returns-in-Ok-clause-many
returns-in-Ok-clause-many c = λ is. absurd (no_error is)

pub returns-in-Ok-clause-large : goal.returns-in-Ok-clause-large
returns-in-Ok-clause-large c = λ side is. absurd (no_error is)

pub returns-in-Ok-clause-limit : goal.returns-in-Ok-clause-limit
returns-in-Ok-clause-limit c = λ latch other proof is. absurd (no_error is)

pub returns-in-Err-clause-many : goal.returns-in-Err-clause-many
returns-in-Err-clause-many c = λ is. many_both c.args.left c.args.right c.in_ok-map.map.left c.in_ok-map.map.right c.in_ok-map.ensures.left c.in_ok-map.ensures.right (c.in-Err.ensures.many (ap Err (error_is is)))

pub returns-in-Err-clause-large : goal.returns-in-Err-clause-large
returns-in-Err-clause-large c = λ side is. heavy_both c.args.left c.args.right c.in_ok-map.map.left c.in_ok-map.map.right c.in_ok-map.ensures.left c.in_ok-map.ensures.right side (c.in-Err.ensures.large side (ap Err (error_is is)))

pub returns-in-Err-clause-limit : goal.returns-in-Err-clause-limit
returns-in-Err-clause-limit c = λ latch other proof is. limit_both c.args.left c.args.right c.in_ok-map.map.left c.in_ok-map.map.right c.in_ok-map.ensures.left c.in_ok-map.ensures.right c.args.conflicts latch other proof (c.in-Err.ensures.limit latch other proof (ap Err (error_is is)))

pub returns-in_err-map-clause-many : goal.returns-in_err-map-clause-many
returns-in_err-map-clause-many c = let p = err_from_is_err_and c.from_residual.result c.from_residual.ensures.1 in λ is. absurd (memory_no_many p.1 p.2 is)

pub returns-in_err-map-clause-large : goal.returns-in_err-map-clause-large
returns-in_err-map-clause-large c = let p = err_from_is_err_and c.from_residual.result c.from_residual.ensures.1 in λ side is. absurd (memory_no_large p.1 p.2 is)

pub returns-in_err-map-clause-limit : goal.returns-in_err-map-clause-limit
returns-in_err-map-clause-limit c = let p = err_from_is_err_and c.from_residual.result c.from_residual.ensures.1 in λ latch other proof is. absurd (memory_no_limit p.1 p.2 is)
