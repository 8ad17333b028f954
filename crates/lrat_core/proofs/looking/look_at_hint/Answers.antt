use Rattle.std.proofs.Common.{sym, subst}
use Rattle.lrat_core.specs.States.{live_of}
use Rattle.lrat_core.specs.Hints.{HintsGive}
use Rattle.lrat_core.specs.Answers.{HintDoes}
use Rattle.lrat_core.specs.declared.hints.Hint.{Hint}
use Rattle.lrat_core.specs.declared.looking.Effect.TheVariants.{Fails, Conflicts, Forces}
use Rattle.text_numbers.specs.declared.kinds.TextKind.TheVariants.{NegativeHint, BadHint, NotUnit}
use Rattle.lrat_core.proofs.looking.look_at_hint.Goals as goal

pub returns-in_default : goal.returns-in_default
returns-in_default c =
    subst (λ (h : Hint). HintDoes (live_of c.args.live.now) c.args.falsified.now h (Fails NegativeHint)) (sym c.in_default.is) (λ hints. HintsGive.negative)

pub returns-in_default-get : goal.returns-in_default-get
returns-in_default-get c =
    subst (λ (h : Hint). HintDoes (live_of c.args.live.now) c.args.falsified.now h (Fails BadHint)) (sym c.in-Clause.is) (λ hints. HintsGive.not_live c.in_default-get.ensures)

pub returns-in-Nothing : goal.returns-in-Nothing
returns-in-Nothing c =
    subst (λ (h : Hint). HintDoes (live_of c.args.live.now) c.args.falsified.now h Conflicts) (sym c.in-Clause.is) (λ hints. HintsGive.conflict c.in-Some.ensures c.in-Nothing.ensures)

pub returns-in-One : goal.returns-in-One
returns-in-One c =
    subst (λ (h : Hint). HintDoes (live_of c.args.live.now) c.args.falsified.now h (Forces c.in-One.literal)) (sym c.in-Clause.is) (λ hints given rest. HintsGive.unit c.in-Some.ensures c.in-One.ensures rest)

pub returns-in-More : goal.returns-in-More
returns-in-More c =
    subst (λ (h : Hint). HintDoes (live_of c.args.live.now) c.args.falsified.now h (Fails NotUnit)) (sym c.in-Clause.is) (λ hints. HintsGive.not_unit c.in-Some.ensures c.in-More.ensures)
