use Rattle.std.proofs.Common.{◌∙◌, drop, sym, ap, subst, add-one, Some, None}
use Rattle.lrat_core.specs.States.{live_of, without_all}
use Rattle.lrat_core.specs.Sequences.{DeletionGives}
use Rattle.text_numbers.specs.declared.kinds.TextKind.TheVariants.{BadId}
use Rattle.lrat_core.proofs.Checking.{deletion_stops, deletion_goes_on, deletion_same, deletion_done}
use Rattle.lrat_core.proofs.checker.delete.Goals as goal

pub returns-then-not-remove : goal.returns-then-not-remove
returns-then-not-remove c =
    c.loop-id.invariant.gives (Some BadId) (deletion_stops (live_of c.loop-id.live) c.args.ids.now c.loop-id.id-index 0 c.remove.result c.loop-id-test.true c.remove.ensures.live c.if-not-remove.true)

pub loop-id-preserved : goal.loop-id-preserved
loop-id-preserved c =
    let old = live_of c.loop-id.live in
    let new = live_of c.remove.new.self in
    let ids = c.args.ids.now in
    let k = c.loop-id.id-index in
    record {
      same = ap (λ n. without_all new (drop n ids)) (add-one k) ∙ (deletion_same old new ids k 0 c.loop-id-test.true c.remove.ensures.clauses ∙ c.loop-id.invariant.same);
      gives = λ given h. c.loop-id.invariant.gives given (deletion_goes_on old new ids k 0 c.remove.result given c.loop-id-test.true c.remove.ensures.live c.if-not-remove.false c.remove.ensures.clauses
          (subst (λ n. DeletionGives new (drop n ids) given) (add-one k) h));
    }

pub returns : goal.returns
returns c =
    let done = deletion_done (live_of c.loop-id.live) c.args.ids.now c.loop-id.id-index c.loop-id-test.false in
    (c.loop-id.invariant.gives None done.0, sym done.1 ∙ c.loop-id.invariant.same)
