-- The cycle is that of the query.
use Rattle.std.proofs.Common.{◌∙◌, ◌≤◌, ℕ, Result, Ok, Err, IfOk, sym, subst}
use Rattle.std.proofs.lemmas.Option.{get_or_from_slice_get}
use Rattle.obligations.specs.declared.obligation.Obligation.{Obligation}
use Rattle.obligations.specs.declared.outcome.verdict.ResetWitness.{ResetWitness}
use Rattle.reset_form.specs.Shown.{IsWitnessIn}
use Rattle.reset_form.proofs.shown.witness_at.Goals as goal

pub cycle_of-cycle-requires : goal.cycle_of-cycle-requires
cycle_of-cycle-requires c =
    let asked = c.args.asked.now in
    let d = c.args.difference.now in
    let shown = c.requires.shown.shown in
    let o : Obligation = c.index-asked-difference.result in
    subst (λ (x : Obligation). d.query ≤ x.size) (sym (c.index-asked-difference.is ∙ get_or_from_slice_get asked d.pair shown.obligation o shown.at.asked_at)) c.requires.shown.cycle

pub witness_in-requires-clause-shown : goal.witness_in-requires-clause-shown
witness_in-requires-clause-shown c = c.requires.shown.shown

pub returns : goal.returns
returns c =
    subst (λ (k : ℕ). IfOk c.witness_in.result (IsWitnessIn c.args.setup.now c.args.bases c.args.functions.now c.args.asked.now k c.args.difference.now)) c.cycle_of-cycle.ensures c.witness_in.ensures
