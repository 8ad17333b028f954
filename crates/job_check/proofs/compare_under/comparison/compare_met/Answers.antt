-- A cycle, or no latch that is cut open: the nets are those of the circuits. The premise goes over the exposed latches too.
use Rattle.std.proofs.Common.{ℕ, ◌+◌, List, length, sym, ◌∙◌, subst}
use Rattle.sec_setup.proofs.Uncut.{uncut, no_names}
use Rattle.assume_queries.specs.assume_sequences.assume_taken.Premises.{IsPremiseOf}
use Rattle.plain_check.specs.under_base.compare_base.Compared.{refusal_of}
use Rattle.plain_check.proofs.under_base.compare_base.Refusals.{refused_by}
use Rattle.plain_check.specs.under_base.Compared.{ComparedUnder}
use Rattle.plain_check.proofs.under_base.Refusals.{unchosen_under}
use Rattle.job_check.proofs.compare_under.CutOutcomes.{is_met}
use Rattle.job_check.proofs.compare_under.comparison.compare_met.Goals as goal

pub returns-in_err-exposure : goal.returns-in_err-exposure
returns-in_err-exposure c =
    let x = c.args.circuits.now in
    let premise = subst (λ (names : List (List ℕ)). IsPremiseOf names x.assumed.now (length names) c.args.premise) c.requires.matched.shared c.requires.premise in
    refused_by (ComparedUnder x.nets.left.now x.nets.right.now x.assumed.now c.args.settings.now) c.from_residual.result (refusal_of c.in_err-exposure.field-0.0) c.from_residual.ensures.1
    (unchosen_under x.nets.left.now x.nets.right.now x.assumed.now c.args.settings.now c.in_err-exposure.field-0.0 (is_met x.nets.left.now x.nets.right.now x.assumed.now _ c.args.premise c.requires.matched.matches premise) c.in_err-exposure.ensures)

pub compare_from-requires-clause-premise : goal.compare_from-requires-clause-premise
compare_from-requires-clause-premise c =
    let x = c.args.circuits.now in
    subst (λ (n : ℕ). IsPremiseOf x.shared.now x.assumed.now (length x.shared.now + n) c.in_ok-premise.premise) c.len.ensures (c.in_ok-premise.ensures x.shared.now x.assumed.now (length x.shared.now) c.requires.premise)

pub compare_nets-requires-clause-cut : goal.compare_nets-requires-clause-cut
compare_nets-requires-clause-cut c =
    let n = c.args.circuits.now.nets in
    uncut n.left.now n.right.now c.in_ok-exposure.exposure c.in_ok-exposure.ensures.cut_open (no_names c.in_ok-exposure.exposure.names (sym c.len-2.ensures ∙ c.if-len-eq0.true))

pub compare_nets-requires-clause-premise : goal.compare_nets-requires-clause-premise
compare_nets-requires-clause-premise c =
    let x = c.args.circuits.now in
    subst (λ (n : ℕ). IsPremiseOf x.shared.now x.assumed.now (length x.shared.now + n) c.in_ok-premise.premise) c.len.ensures (c.in_ok-premise.ensures x.shared.now x.assumed.now (length x.shared.now) c.requires.premise)

pub compare_exposed-requires-clause-premise : goal.compare_exposed-requires-clause-premise
compare_exposed-requires-clause-premise c =
    let x = c.args.circuits.now in
    subst (λ (n : ℕ). IsPremiseOf x.shared.now x.assumed.now (length x.shared.now + n) c.in_ok-premise.premise) c.len.ensures (c.in_ok-premise.ensures x.shared.now x.assumed.now (length x.shared.now) c.requires.premise)
