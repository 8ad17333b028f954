-- The enable is counted, or it is refused.
use Rattle.std.proofs.Common.{◌∙◌, Err, ap, subst}
use Rattle.circuit_theory.specs.declared.Side.{Side}
use Rattle.circuit_theory.specs.declared.Side.TheVariants.{A}
use Rattle.event_classes.specs.event_functions.class_totals.Totals.{ReachFew, WeighTooMuch}
use Rattle.event_classes.specs.Map.{taken_of, with_next}
use Rattle.event_classes.proofs.Enabling.{left_counts}
use Rattle.event_classes.proofs.Limiting.{error_is as of_error, no_error}
use Rattle.event_classes.proofs.Refusing.{left_many, left_large}
use Rattle.event_classes.proofs.Setting.{latch_there}
use Rattle.event_classes.proofs.enables.left_enable.Goals as goal

pub returns-in-Ok-clause-counts : goal.returns-in-Ok-clause-counts
returns-in-Ok-clause-counts c =
    left_counts c.args.map.now.left c.args.map.now.right c.args.map.now.events c.enable_of.new.events.children (taken_of c.args.map.now) c.args.j c.args.map.now.left_count c.args.map.now.right_count c.enable_of.new.count c.keeps.ensures.sound c.keeps-2.ensures.sound c.keeps-3.ensures.events c.requires.latch c.enable_of.ensures.counting c.in-Ok.ensures.counted

pub returns-in-Err-clause-many : goal.returns-in-Err-clause-many
returns-in-Err-clause-many c = λ is counts.
    let at = latch_there c.args.map.now.left.net c.args.j c.requires.latch in
    left_many c.args.map.now.left c.args.map.now.right c.args.map.now.events c.enable_of.new.events (taken_of c.args.map.now) c.args.j c.args.map.now.left_count c.args.map.now.right_count c.keeps.ensures.sound c.keeps-2.ensures.sound c.keeps-3.ensures.events c.keeps-in-Err.ensures.events counts c.enable_of.new.count c.requires.latch c.enable_of.ensures.counting
    ((c.enable_of.ensures.refused _ at).many (c.in-Err.is ∙ ap Err (c.refusal.ensures.many (of_error is))))

pub returns-in-Err-clause-large : goal.returns-in-Err-clause-large
returns-in-Err-clause-large c = λ side is depths counts.
    let same = c.refusal.ensures.large side (of_error is) in
    subst (λ (o : Side). ReachFew c.args.map.now.left c.args.map.now.right (with_next c.args.map.now (record { side = A; latch = c.args.j })) × WeighTooMuch o c.args.map.now.left c.args.map.now.right (with_next c.args.map.now (record { side = A; latch = c.args.j }))) same.0
    (left_large c.args.map.now.left c.args.map.now.right c.args.map.now.events c.enable_of.new.events (taken_of c.args.map.now) c.args.j c.args.map.now.left_count c.args.map.now.right_count c.keeps.ensures.sound c.keeps-2.ensures.sound c.keeps-3.ensures.events c.keeps-in-Err.ensures.events counts c.enable_of.new.count c.requires.latch c.enable_of.ensures.counting c.enable_of.result c.enable_of.ensures.refused (c.in-Err.is ∙ ap Err same.1) depths.0)

pub returns-in-Err-clause-limit : goal.returns-in-Err-clause-limit
returns-in-Err-clause-limit c = λ latch other proof is. c.refusal.ensures.limit latch other proof (of_error is)

pub returns-in-Ok-clause-many : goal.returns-in-Ok-clause-many
returns-in-Ok-clause-many c = λ is. absurd (no_error is)

pub returns-in-Ok-clause-large : goal.returns-in-Ok-clause-large
returns-in-Ok-clause-large c = λ side is. absurd (no_error is)

pub returns-in-Ok-clause-limit : goal.returns-in-Ok-clause-limit
returns-in-Ok-clause-limit c = λ latch other proof is. no_error is
