-- What is taken, and what is found under it.
use Rattle.std.proofs.Common.{ℕ, List, length, subst, arith, Ok}
use Rattle.assume_queries.specs.declared.assume_sequences.assume_taken.taken.Taken.{Taken}
use Rattle.assume_queries.specs.assume_sequences.assume_taken.Premises.{IsPremiseOf, IsTaken}
use Rattle.assume_queries.specs.assume_sequences.assume_taken.Taken.{IsUndecidedBy}
use Rattle.sec_setup.proofs.ports.Numbering.{few_shared}
use Rattle.cycle_under.specs.Searches.{SearchesUnder, untaken_error}
use Rattle.cycle_under.proofs.Taken.{refused_by, untaken_by, weighs, searched}
use Rattle.cycle_under.proofs.taking.search_cycles_under.Goals as goal

pub take-requires-clause-few : goal.take-requires-clause-few
take-requires-clause-few c =
    let few = few_shared c.args.a.now c.args.b.now c.in-Ok.shared c.in-Ok.ensures.ok.1 in
    omega (arith, few, c.requires.left.few, c.requires.assumed.few)

pub returns-in_err-premise : goal.returns-in_err-premise
returns-in_err-premise c =
    let e = c.in_err-premise.field-0.0 in
    refused_by (SearchesUnder c.args.a.now c.args.b.now c.args.c.now c.args.cycles c.args.conflicts) c.from_residual.result (untaken_error e) c.from_residual.ensures.1
    (untaken_by c.args.a.now c.args.b.now c.args.c.now c.args.cycles c.args.conflicts c.in-Ok.shared c.in-Ok.ensures.ok.1 e c.in-Ok.ensures.ok.0 c.in_err-premise.ensures)

pub returns-in-Limit : goal.returns-in-Limit
returns-in-Limit c =
    let taken = subst (λ (t : Taken). IsTaken c.in-Ok.shared c.args.c.now c.args.conflicts (Ok t)) c.in-Limit.is c.in_ok-premise.ensures in
    let undecided = subst (λ (names : List (List ℕ)). IsUndecidedBy names c.args.c.now c.args.conflicts c.in-Limit.proof) c.in-Ok.ensures.ok.1 taken in
    (c.in-Ok.ensures.ok.0, (undecided, c.in_ok-name_of-in-Limit.ensures undecided.assumed.shape.output undecided.assumed.shape.outputs))

pub search_under-requires-clause-premise : goal.search_under-requires-clause-premise
search_under-requires-clause-premise c =
    let names = c.in-Ok.shared in
    let taken = subst (λ (t : Taken). IsTaken names c.args.c.now c.args.conflicts (Ok t)) c.in-Met.is c.in_ok-premise.ensures in
    weighs names c.args.c.now (length names) c.in-Met.premise taken (omega arith)

pub returns : goal.returns
returns c =
    let names = c.in-Ok.shared in
    let taken = subst (λ (t : Taken). IsTaken names c.args.c.now c.args.conflicts (Ok t)) c.in-Met.is c.in_ok-premise.ensures in
    let premise = subst (λ (ns : List (List ℕ)). IsPremiseOf ns c.args.c.now (length ns) c.in-Met.premise) c.in-Ok.ensures.ok.1 taken in
    let is =
    searched c.args.a.now c.args.b.now c.args.c.now c.in_ok-setup.setup c.in_ok-setup.ensures c.in-Ok.ensures.ok.0 c.args.cycles c.args.conflicts c.in-Met.premise premise c.keeps.ensures.sound c.keeps-2.ensures.sound
    c.in_ok-searched.searched c.in_ok-searched.ensures in
    (is, c.in_ok-name_of.ensures is.assumed.shape.output is.assumed.shape.outputs)
