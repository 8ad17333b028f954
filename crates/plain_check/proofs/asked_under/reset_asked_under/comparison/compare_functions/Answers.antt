-- What is asked of the pairs stays while the assumption's functions are made.
use Rattle.std.proofs.Common.{List, length, Err, sym, subst, ap, arith}
use Rattle.std.specs.List.{All, AllZip}
use Rattle.pair_decide.specs.declared.query.Query.{Query}
use Rattle.obligations.specs.declared.obligation.Obligation.{Obligation}
use Rattle.obligations.specs.Asked.{queries_of}
use Rattle.assume_queries.specs.assume_functions.assume_places.Gathered.{IsOverUnder, IsLightUnder}
use Rattle.assume_laws.specs.assume_shape.Shape.{assumption_of}
use Rattle.assume_queries.specs.declared.assume_answers.order.VariableOrder.TheVariants as order
use Rattle.assume_queries.specs.assume_answers.Order.{AreOrdered}
use Rattle.assume_queries.specs.assume_answers.Under.{IsObligationUnder}
use Rattle.reset_form.specs.declared.reset_functions.functions.Functions.{Functions}
use Rattle.reset_form.specs.reset_asked.Asked.{AreAsked}
use Rattle.reset_form.proofs.reset_asked.Sound.{AreSound}
use Rattle.plain_check.specs.asked_under.reset_asked_under.Asked.{AreAskedUnder, CanBeDecided}
use Rattle.plain_check.specs.asked_under.reset_asked_under.Formed.{FormedUnder}
use Rattle.plain_check.specs.asked_under.Refusals.{refusal_under}
use Rattle.plain_check.proofs.asked_under.Asked.{asked_by}
use Rattle.plain_check.proofs.asked_under.Refused.{refused_by}
use Rattle.plain_check.proofs.asked_under.reset_asked_under.Grown.{queries_ordered, all_asked_later}
use Rattle.plain_check.proofs.asked_under.reset_asked_under.PairPlaces.{light, too_large}
use Rattle.plain_check.proofs.asked_under.reset_asked_under.Refused.{assumed}
use Rattle.plain_check.proofs.asked_under.reset_asked_under.comparison.compare_functions.Goals as goal

pub ask-requires-clause-functions : goal.ask-requires-clause-functions
ask-requires-clause-functions c = c.requires.unfolds.2

pub asked_under-requires-clause-own : goal.asked_under-requires-clause-own
asked_under-requires-clause-own c =
    let a = c.requires.premise in
    record { net = a.net; inputs = a.inputs; output = a.output; size = a.size; function = a.is.function; assumption = a.is.assumption; weighs = a.weighs }

pub asked_under-requires-clause-queries : goal.asked_under-requires-clause-queries
asked_under-requires-clause-queries c =
    let f = c.args.functions.now in
    subst (λ (os : List Obligation). All (λ (q : Query). AreOrdered order.Cycles f.places q.vars) (queries_of os)) (sym c.as_slice.ensures.value)
    (queries_ordered c.args.setup.now c.args.bases f (record { graph = c.keeps-3.ensures.graph; values = c.keeps-3.ensures.values; distinct = c.keeps-4.ensures }) c.args.setup.now.pairs c.in_ok-asked.asked.items c.in_ok-asked.ensures)

pub asked_under-requires-clause-nodes : goal.asked_under-requires-clause-nodes
asked_under-requires-clause-nodes c = omega (arith, c.requires.small)

pub asked_under-requires-clause-entries : goal.asked_under-requires-clause-entries
asked_under-requires-clause-entries c = omega (arith, c.requires.few)

pub returns-in_err-under : goal.returns-in_err-under
returns-in_err-under c =
    let s = c.args.setup.now in
    let b = c.args.bases in
    let f = c.args.functions.now in
    let e = c.in_err-under.field-0.0 in
    let sound : AreSound s b f = record { setup = c.requires.setup; bases = c.requires.bases; functions = record { graph = c.keeps-3.ensures.graph; values = c.keeps-3.ensures.values; distinct = c.keeps-4.ensures } } in
    refused_by (FormedUnder s c.args.premise.now c.args.conflicts) c.from_residual-in_err-under.result (refusal_under e) c.from_residual-in_err-under.ensures.1
    (assumed s c.args.premise.now c.args.conflicts b c.requires.bases c.requires.unfolds.0 c.requires.unfolds.1 e
    (λ same. too_large s b f sound c.keeps.ensures.sound c.keeps-2.ensures.sound c.in_ok-asked.asked.items c.in_ok-asked.ensures c.args.premise.now.weight
    (subst (λ (os : List Obligation). IsOverUnder c.args.premise.now.weight f.places (queries_of os)) c.as_slice.ensures.value (c.in_err-under.ensures.over (ap Err same)))))

pub findings_under-requires-clause-asked : goal.findings_under-requires-clause-asked
findings_under-requires-clause-asked c =
    let s = c.args.setup.now in
    let b = c.args.bases in
    let f = c.args.functions.now in
    let g : Functions = record { aig = c.asked_under.new.aig; places = c.asked_under.new.table; left = f.left; right = f.right } in
    let later : AreAsked s b g s.pairs c.in_ok-asked.asked.items = all_asked_later s b f g c.in_ok-under.ensures.grows c.in_ok-under.ensures.adds s.pairs c.in_ok-asked.asked.items c.in_ok-asked.ensures in
    let a = c.requires.premise in
    let given = subst (λ (os : List Obligation). AllZip (IsObligationUnder order.Cycles (assumption_of a.net a.inputs a.output) g.aig g.places) os c.in_ok-under.under.items) c.as_slice.ensures.value
    (c.in_ok-under.ensures.under a.net a.inputs a.output a.size a.is.function a.is.assumption) in
    let are : AreAskedUnder s b g c.in_ok-asked.asked.items c.in_ok-under.under.items c.args.premise.now.meeting (assumption_of a.net a.inputs a.output) =
    asked_by order.Cycles c.args.premise.now (length s.columns) a.net a.inputs a.output a.size a.is g.aig g.places (AreAsked s b g s.pairs) c.in_ok-asked.asked.items c.in_ok-under.under.items later given in
    subst (λ (us : List Obligation). CanBeDecided s b g c.as_slice-2.result.now us c.args.premise.now.meeting) (sym c.as_slice-3.ensures.value)
    (subst (λ (os : List Obligation). CanBeDecided s b g os c.in_ok-under.under.items c.args.premise.now.meeting) (sym c.as_slice-2.ensures.value) (assumption_of a.net a.inputs a.output, are))

pub findings_under-requires-clause-bits : goal.findings_under-requires-clause-bits
findings_under-requires-clause-bits c = c.requires.premise.bits

pub returns : goal.returns
returns c =
    let s = c.args.setup.now in
    let b = c.args.bases in
    let f = c.args.functions.now in
    let g : Functions = record { aig = c.asked_under.new.aig; places = c.asked_under.new.table; left = f.left; right = f.right } in
    let later : AreAsked s b g s.pairs c.in_ok-asked.asked.items = all_asked_later s b f g c.in_ok-under.ensures.grows c.in_ok-under.ensures.adds s.pairs c.in_ok-asked.asked.items c.in_ok-asked.ensures in
    let sound : AreSound s b f = record { setup = c.requires.setup; bases = c.requires.bases; functions = record { graph = c.keeps-3.ensures.graph; values = c.keeps-3.ensures.values; distinct = c.keeps-4.ensures } } in
    record {
      left_light = c.requires.unfolds.0;
      right_light = c.requires.unfolds.1;
      bases = b;
      are_bases = c.requires.bases;
      light = light s b f sound c.keeps.ensures.sound c.keeps-2.ensures.sound c.in_ok-asked.asked.items c.in_ok-asked.ensures c.args.premise.now.weight
          (subst (λ (os : List Obligation). IsLightUnder c.args.premise.now.weight f.places (queries_of os)) c.as_slice.ensures.value c.in_ok-under.ensures.light);
      fits = λ n inputs output size is.
          let given = subst (λ (os : List Obligation). AllZip (IsObligationUnder order.Cycles (assumption_of n inputs output) g.aig g.places) os c.in_ok-under.under.items) c.as_slice.ensures.value
          (c.in_ok-under.ensures.under n inputs output size is.function is.assumption) in
          let are : AreAskedUnder s b g c.in_ok-asked.asked.items c.in_ok-under.under.items c.args.premise.now.meeting (assumption_of n inputs output) =
          asked_by order.Cycles c.args.premise.now (length s.columns) n inputs output size is g.aig g.places (AreAsked s b g s.pairs) c.in_ok-asked.asked.items c.in_ok-under.under.items later given in
          c.in_ok-findings.ensures (assumption_of n inputs output)
          (subst (λ (us : List Obligation). AreAskedUnder s b g c.as_slice-2.result.now us c.args.premise.now.meeting (assumption_of n inputs output)) (sym c.as_slice-3.ensures.value)
          (subst (λ (os : List Obligation). AreAskedUnder s b g os c.in_ok-under.under.items c.args.premise.now.meeting (assumption_of n inputs output)) (sym c.as_slice-2.ensures.value) are));
    }
