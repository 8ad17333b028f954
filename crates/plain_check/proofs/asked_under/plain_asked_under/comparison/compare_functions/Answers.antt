-- The pairs' signals are those of the outputs, and what is asked of them stays while the assumption's functions are made.
use Rattle.std.proofs.Common.{List, Err, length, sym, subst, ap, arith}
use Rattle.std.specs.List.{All, AllZip}
use Rattle.pair_decide.specs.declared.query.Query.{Query}
use Rattle.obligations.specs.declared.obligation.Obligation.{Obligation}
use Rattle.obligations.specs.Asked.{queries_of}
use Rattle.assume_queries.specs.declared.assume_answers.order.VariableOrder.TheVariants as order
use Rattle.assume_queries.specs.assume_answers.Order.{AreOrdered}
use Rattle.assume_queries.specs.assume_functions.assume_places.Gathered.{IsOverUnder, IsLightUnder}
use Rattle.assume_laws.specs.assume_shape.Shape.{assumption_of}
use Rattle.assume_queries.specs.assume_answers.Under.{IsObligationUnder}
use Rattle.plain_asked.specs.declared.functions.Functions.{Functions}
use Rattle.plain_asked.specs.Asked.{AreAsked}
use Rattle.plain_asked.proofs.Sound.{AreSound}
use Rattle.plain_asked.proofs.Refusals.{left_light, right_light}
use Rattle.plain_check.specs.asked_under.plain_asked_under.Asked.{AreAskedUnder, CanBeDecided}
use Rattle.plain_check.specs.asked_under.plain_asked_under.Formed.{FormedUnder}
use Rattle.plain_check.specs.asked_under.Refusals.{refusal_under}
use Rattle.plain_check.proofs.asked_under.Asked.{asked_by}
use Rattle.plain_check.proofs.asked_under.Refused.{refused_by}
use Rattle.plain_check.proofs.asked_under.plain_asked_under.Grown.{queries_ordered, all_asked_later}
use Rattle.plain_check.proofs.asked_under.plain_asked_under.PairPlaces.{light}
use Rattle.plain_check.proofs.asked_under.plain_asked_under.Refused.{assumed}
use Rattle.plain_check.proofs.asked_under.plain_asked_under.comparison.compare_functions.Goals as goal

pub ask-requires-clause-functions : goal.ask-requires-clause-functions
ask-requires-clause-functions c = c.requires.unfolds.2

pub asked_under-requires-clause-own : goal.asked_under-requires-clause-own
asked_under-requires-clause-own c =
    let a = c.requires.premise in
    record { net = a.net; inputs = a.inputs; output = a.output; size = a.size; function = a.is.function; assumption = a.is.assumption; weighs = a.weighs }

pub asked_under-requires-clause-queries : goal.asked_under-requires-clause-queries
asked_under-requires-clause-queries c =
    let f = c.args.functions.now in
    subst (λ (os : List Obligation). All (λ (q : Query). AreOrdered order.Shifts f.places q.vars) (queries_of os)) (sym c.as_slice.ensures.value)
    (queries_ordered c.args.setup.now f c.args.setup.now.pairs c.in_ok-asked.asked.items c.in_ok-asked.ensures)

pub asked_under-requires-clause-nodes : goal.asked_under-requires-clause-nodes
asked_under-requires-clause-nodes c = omega (arith, c.requires.small)

pub asked_under-requires-clause-entries : goal.asked_under-requires-clause-entries
asked_under-requires-clause-entries c = omega (arith, c.requires.few)

pub returns-in_err-under : goal.returns-in_err-under
returns-in_err-under c =
    let s = c.args.setup.now in
    let f = c.args.functions.now in
    let e = c.in_err-under.field-0.0 in
    let sound : AreSound s f = record { setup = c.requires.setup; left = c.keeps.ensures.sound; right = c.keeps-2.ensures.sound; graph = c.keeps-3.ensures.graph; values = c.keeps-3.ensures.values; distinct = c.keeps-4.ensures } in
    let left = left_light s.left.now s.right.now s.pairs c.requires.setup.pairs c.requires.unfolds.0 in
    let right = right_light s.left.now s.right.now s.pairs c.requires.setup.pairs c.requires.unfolds.1 in
    refused_by (FormedUnder s c.args.premise.now c.args.conflicts) c.from_residual-in_err-under.result (refusal_under e) c.from_residual-in_err-under.ensures.1
    (assumed s c.args.premise.now c.args.conflicts f sound c.in_ok-asked.asked.items c.in_ok-asked.ensures left right e
    (λ same. subst (λ (os : List Obligation). IsOverUnder c.args.premise.now.weight f.places (queries_of os)) c.as_slice.ensures.value (c.in_err-under.ensures.over (ap Err same))))

pub findings_under-requires-clause-asked : goal.findings_under-requires-clause-asked
findings_under-requires-clause-asked c =
    let s = c.args.setup.now in
    let f = c.args.functions.now in
    let g : Functions = record { aig = c.asked_under.new.aig; places = c.asked_under.new.table; left = f.left; right = f.right } in
    let later : AreAsked s g s.pairs c.in_ok-asked.asked.items = all_asked_later s f g c.in_ok-under.ensures.grows c.in_ok-under.ensures.adds s.pairs c.in_ok-asked.asked.items c.in_ok-asked.ensures in
    let a = c.requires.premise in
    let given = subst (λ (os : List Obligation). AllZip (IsObligationUnder order.Shifts (assumption_of a.net a.inputs a.output) g.aig g.places) os c.in_ok-under.under.items) c.as_slice.ensures.value
    (c.in_ok-under.ensures.under a.net a.inputs a.output a.size a.is.function a.is.assumption) in
    let are : AreAskedUnder s g c.in_ok-asked.asked.items c.in_ok-under.under.items c.args.premise.now.meeting (assumption_of a.net a.inputs a.output) =
    asked_by order.Shifts c.args.premise.now (length s.columns) a.net a.inputs a.output a.size a.is g.aig g.places (AreAsked s g s.pairs) c.in_ok-asked.asked.items c.in_ok-under.under.items later given in
    subst (λ (us : List Obligation). CanBeDecided s g c.as_slice-2.result.now us c.args.premise.now.meeting) (sym c.as_slice-3.ensures.value)
    (subst (λ (os : List Obligation). CanBeDecided s g os c.in_ok-under.under.items c.args.premise.now.meeting) (sym c.as_slice-2.ensures.value) (assumption_of a.net a.inputs a.output, are))

pub findings_under-requires-clause-bits : goal.findings_under-requires-clause-bits
findings_under-requires-clause-bits c = c.requires.premise.bits

pub returns : goal.returns
returns c =
    let s = c.args.setup.now in
    let f = c.args.functions.now in
    let g : Functions = record { aig = c.asked_under.new.aig; places = c.asked_under.new.table; left = f.left; right = f.right } in
    let later : AreAsked s g s.pairs c.in_ok-asked.asked.items = all_asked_later s f g c.in_ok-under.ensures.grows c.in_ok-under.ensures.adds s.pairs c.in_ok-asked.asked.items c.in_ok-asked.ensures in
    let sound : AreSound s f = record { setup = c.requires.setup; left = c.keeps.ensures.sound; right = c.keeps-2.ensures.sound; graph = c.keeps-3.ensures.graph; values = c.keeps-3.ensures.values; distinct = c.keeps-4.ensures } in
    record {
      left_light = left_light s.left.now s.right.now s.pairs c.requires.setup.pairs c.requires.unfolds.0;
      right_light = right_light s.left.now s.right.now s.pairs c.requires.setup.pairs c.requires.unfolds.1;
      light = light s f sound c.in_ok-asked.asked.items c.in_ok-asked.ensures c.args.premise.now.weight (subst (λ (os : List Obligation). IsLightUnder c.args.premise.now.weight f.places (queries_of os)) c.as_slice.ensures.value c.in_ok-under.ensures.light);
      fits = λ n inputs output size is.
          let given = subst (λ (os : List Obligation). AllZip (IsObligationUnder order.Shifts (assumption_of n inputs output) g.aig g.places) os c.in_ok-under.under.items) c.as_slice.ensures.value
          (c.in_ok-under.ensures.under n inputs output size is.function is.assumption) in
          let are : AreAskedUnder s g c.in_ok-asked.asked.items c.in_ok-under.under.items c.args.premise.now.meeting (assumption_of n inputs output) =
          asked_by order.Shifts c.args.premise.now (length s.columns) n inputs output size is g.aig g.places (AreAsked s g s.pairs) c.in_ok-asked.asked.items c.in_ok-under.under.items later given in
          c.in_ok-findings.ensures (assumption_of n inputs output)
          (subst (λ (us : List Obligation). AreAskedUnder s g c.as_slice-2.result.now us c.args.premise.now.meeting (assumption_of n inputs output)) (sym c.as_slice-3.ensures.value)
          (subst (λ (os : List Obligation). AreAskedUnder s g os c.in_ok-under.under.items c.args.premise.now.meeting (assumption_of n inputs output)) (sym c.as_slice-2.ensures.value) are));
    }
