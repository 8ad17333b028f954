-- One latch after the other.
use Rattle.std.proofs.Common.{◌≡◌, Err, length, ap, subst, arith}
use Rattle.std.proofs.lemmas.Option.{slice_get-get_or}
use Rattle.std.proofs.lemmas.Result.{err_from_is_err_and}
use Rattle.event_classes.proofs.Limiting.{error_is, no_error}
use Rattle.event_classes.specs.Map.{IsMadeTo}
use Rattle.event_classes.proofs.Stopping.{many_of, heavy_of, limit_of}
use Rattle.event_classes.proofs.WholeMap.{tag_next, next_made, made_next}
use Rattle.event_classes.proofs.making.join_all.Goals as goal

pub join_next-requires-clause-latch : goal.join_next-requires-clause-latch
join_next-requires-clause-latch c = tag_next c.args.map.now c.loop-at.map c.args.tags.now c.loop-at.at _ c.loop-at-test.true (slice_get-get_or c.args.tags.now c.loop-at.at _ c.loop-at-test.true) c.loop-at.invariant c.requires.named

pub join_next-requires-clause-made : goal.join_next-requires-clause-made
join_next-requires-clause-made c = next_made c.args.map.now c.loop-at.map c.args.tags.now c.loop-at.at _ c.loop-at-test.true (slice_get-get_or c.args.tags.now c.loop-at.at _ c.loop-at-test.true) c.loop-at.invariant

pub loop-at-preserved : goal.loop-at-preserved
loop-at-preserved c = made_next c.args.map.now c.loop-at.map c.join_next.new.map c.args.tags.now c.loop-at.at _ c.loop-at-test.true (slice_get-get_or c.args.tags.now c.loop-at.at _ c.loop-at-test.true) c.loop-at.invariant c.in_ok-join_next.ensures.goes_on

pub returns-in_err-join_next-clause-many : goal.returns-in_err-join_next-clause-many
returns-in_err-join_next-clause-many c =
    let p = err_from_is_err_and c.from_residual.result c.from_residual.ensures.1 in
    rw (p.1, p.2) (λ is. many_of c.args.map.now c.loop-at.map c.args.tags.now c.loop-at.at _ c.loop-at-test.true (slice_get-get_or c.args.tags.now c.loop-at.at _ c.loop-at-test.true) c.loop-at.invariant c.requires.few c.keeps.ensures.sound c.keeps-in-loop-at.ensures.sound c.keeps-in-loop-at-2.ensures.events c.keeps-in-loop-at-3.ensures c.keeps-in-loop-at-4.ensures
    (c.in_err-join_next.ensures.many (ap Err (error_is is))))

pub returns-in_err-join_next-clause-large : goal.returns-in_err-join_next-clause-large
returns-in_err-join_next-clause-large c =
    let p = err_from_is_err_and c.from_residual.result c.from_residual.ensures.1 in
    λ side. rw (p.1, p.2) (λ is. heavy_of c.args.map.now c.loop-at.map c.args.tags.now c.loop-at.at _ c.loop-at-test.true (slice_get-get_or c.args.tags.now c.loop-at.at _ c.loop-at-test.true) c.loop-at.invariant c.requires.few c.keeps.ensures.sound c.keeps-in-loop-at.ensures.sound c.keeps-in-loop-at-2.ensures.events c.keeps-in-loop-at-3.ensures c.keeps-in-loop-at-4.ensures
    c.requires.depths side (c.in_err-join_next.ensures.large side (ap Err (error_is is))))

pub returns-in_err-join_next-clause-limit : goal.returns-in_err-join_next-clause-limit
returns-in_err-join_next-clause-limit c =
    let p = err_from_is_err_and c.from_residual.result c.from_residual.ensures.1 in
    let at = slice_get-get_or c.args.tags.now c.loop-at.at _ c.loop-at-test.true in
    λ latch other proof. rw (p.1, p.2) (λ is. limit_of c.args.map.now c.loop-at.map c.args.tags.now c.loop-at.at _ c.loop-at-test.true at c.loop-at.invariant c.requires.few c.keeps.ensures.sound c.keeps-in-loop-at.ensures.sound c.keeps-in-loop-at-2.ensures.events c.keeps-in-loop-at-3.ensures c.keeps-in-loop-at-4.ensures
    c.args.conflicts latch other proof (tag_next c.args.map.now c.loop-at.map c.args.tags.now c.loop-at.at _ c.loop-at-test.true at c.loop-at.invariant c.requires.named) (c.in_err-join_next.ensures.limit latch other proof (ap Err (error_is is))))

pub returns-clause-made : goal.returns-clause-made
returns-clause-made c = let end : c.loop-at.at ≡ length c.args.tags.now = omega (arith, c.loop-at-test.false, c.loop-at.auto.at-end) in subst (IsMadeTo c.args.map.now c.loop-at.map c.args.tags.now) end c.loop-at.invariant

pub returns-clause-many : goal.returns-clause-many
returns-clause-many c = λ is. absurd (no_error is)

pub returns-clause-large : goal.returns-clause-large
returns-clause-large c = λ side is. absurd (no_error is)

pub returns-clause-limit : goal.returns-clause-limit
returns-clause-limit c = λ latch other proof is. absurd (no_error is)
