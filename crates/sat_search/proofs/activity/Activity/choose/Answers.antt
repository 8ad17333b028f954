use Rattle.std.proofs.Common.{ap}
use Rattle.proof_check.specs.Literals.{Literal}
use Rattle.sat_search.proofs.Choosing.{choice_of}
use Rattle.sat_search.proofs.activity.Activity.choose.Goals as goal

pub returns-in-Some : goal.returns-in-Some
returns-in-Some c =
    choice_of c.args.trail.now c.in-Some.variable c.new.result c.in-Some.ensures.free (ap (λ (l : Literal). l.variable) c.new.ensures)

pub returns-in-Some-first_free : goal.returns-in-Some-first_free
returns-in-Some-first_free c =
    choice_of c.args.trail.now c.in-Some-first_free.variable c.new-in-Some-first_free.result c.in-Some-first_free.ensures.free (ap (λ (l : Literal). l.variable) c.new-in-Some-first_free.ensures)
