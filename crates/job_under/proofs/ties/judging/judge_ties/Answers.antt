-- What is taken, and what is judged under it.
use Rattle.std.proofs.Common.{◌≡◌, ◌∙◌, ℕ, ◌<◌, List, ◌∷◌, [], length, ap, subst, arith, inr, Ok}
use Rattle.flat_net.specs.declared.parts.Port.{Port}
use Rattle.assume_queries.specs.declared.assume_sequences.assume_taken.taken.Taken.{Taken}
use Rattle.assume_queries.specs.assume_sequences.assume_taken.Premises.{IsPremiseOf, IsTaken}
use Rattle.assume_queries.specs.assume_sequences.assume_taken.Taken.{IsUndecidedBy}
use Rattle.sec_setup.proofs.ports.Numbering.{few_shared}
use Rattle.cycle_under.specs.Searches.{untaken_error}
use Rattle.job_under.specs.Report.{undecided_text}
use Rattle.job_under.specs.ties.Ends.{AreJudgedBy}
use Rattle.job_under.proofs.ties.Judgements.{refused_by, untaken_by, mismatched}
use Rattle.job_under.proofs.ties.judging.judge_ties.Goals as goal

pub take-requires-clause-few : goal.take-requires-clause-few
take-requires-clause-few c =
    let few = few_shared c.args.a.now c.args.b.now c.in-Ok.shared c.in-Ok.ensures.ok.1 in
    omega (arith, few, c.requires.left.few, c.requires.assumed.few)

pub returns-in_err-taken : goal.returns-in_err-taken
returns-in_err-taken c =
    let e = c.in_err-taken.field-0.0 in
    refused_by (AreJudgedBy c.args.a.now c.args.b.now c.args.c.now c.args.conflicts) c.from_residual.result (untaken_error e) c.from_residual.ensures.1
    (untaken_by c.args.a.now c.args.b.now c.args.c.now c.args.conflicts c.in-Ok.shared c.in-Ok.ensures.ok.1 e c.in-Ok.ensures.ok.0 c.in_err-taken.ensures)

pub judge_where-requires-clause-premise : goal.judge_where-requires-clause-premise
judge_where-requires-clause-premise c =
    let taken = subst (λ (t : Taken). IsTaken c.in-Ok.shared c.args.c.now c.args.conflicts (Ok t)) c.in-Met.is c.in_ok-taken.ensures in
    subst (λ (ns : List (List ℕ)). IsPremiseOf ns c.args.c.now (length ns) c.in-Met.premise) c.in-Ok.ensures.ok.1 taken

pub name_of-requires : goal.name_of-requires
name_of-requires c =
    let taken = subst (λ (t : Taken). IsTaken c.in-Ok.shared c.args.c.now c.args.conflicts (Ok t)) c.in-Limit.is c.in_ok-taken.ensures in
    let one = ap length taken.assumed.shape.outputs in
    omega (arith, one)

pub returns : goal.returns
returns c =
    let a = c.args.a.now in
    let b = c.args.b.now in
    let conflicts = c.args.conflicts in
    let taken = subst (λ (t : Taken). IsTaken c.in-Ok.shared c.args.c.now conflicts (Ok t)) c.in-Limit.is c.in_ok-taken.ensures in
    let undecided = subst (λ (names : List (List ℕ)). IsUndecidedBy names c.args.c.now conflicts c.in-Limit.proof) c.in-Ok.ensures.ok.1 taken in
    let j = c.in_ok-judged-in-Limit.judged in
    let says = c.in_ok-judged-in-Limit.ensures in
    inr (record {
      matches = c.in-Ok.ensures.ok.0;
      proof = c.in-Limit.proof;
      is = undecided;
      judgement_is = says.judgement;
      proofs_are = says.proofs;
      text_is = subst (λ (name : List ℕ). j.text ≡ undecided_text a b name conflicts) (c.name_of.ensures undecided.assumed.shape.output undecided.assumed.shape.outputs) says.text;
    })
