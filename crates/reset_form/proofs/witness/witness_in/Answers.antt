-- The obligation and the query are those of the difference.
use Rattle.std.proofs.Common.{◌≡◌, ◌∙◌, ◌*◌, ◌<◌, ℕ, List, length, slice_get, Result, Ok, Err, IfOk, Some, sym, ap, subst}
use Rattle.std.proofs.lemmas.Option.{get_or_from_slice_get}
use Rattle.pair_decide.specs.declared.query.Query.{Query}
use Rattle.obligations.specs.declared.obligation.Obligation.{Obligation}
use Rattle.obligations.specs.declared.obligation.Difference.{Difference}
use Rattle.sec_setup.specs.declared.setup.Setup.{Setup}
use Rattle.cbf_unfold.specs.shift_variables.cycle_variables.Cycles.{AreInCycles}
use Rattle.reset_form.specs.declared.reset_functions.bases.Bases.{Bases}
use Rattle.reset_form.specs.declared.reset_functions.functions.Functions.{Functions}
use Rattle.obligations.specs.declared.outcome.verdict.ResetWitness.{ResetWitness}
use Rattle.reset_form.specs.Shown.{IsShowableIn, IsWitnessIn, IsWitnessOf}
use Rattle.reset_form.proofs.witness.witness_in.Goals as goal

module _ (f : Functions) (asked : List Obligation) (d : Difference) (shown : IsShowableIn f asked d) (o : Obligation) (o_is : slice_get asked d.pair ≡ Some shown.obligation → o ≡ shown.obligation) (queries : List Query) (queries_are : queries ≡ o.queries) (q : Query)
    (q_is : slice_get queries d.query ≡ Some shown.query → q ≡ shown.query) where
  same_o : o ≡ shown.obligation
  same_o = o_is shown.at.asked_at

  same_q : q ≡ shown.query
  same_q = q_is (ap (λ (l : List Query). slice_get l d.query) (queries_are ∙ ap (λ (x : Obligation). x.queries) same_o) ∙ shown.at.query_at)

  left : q.left.0 < 2 * length f.aig
  left = subst (λ (x : Query). x.left.0 < 2 * length f.aig) (sym same_q) shown.left

  right : q.right.0 < 2 * length f.aig
  right = subst (λ (x : Query). x.right.0 < 2 * length f.aig) (sym same_q) shown.right

  each : length d.bits ≡ length q.vars
  each = subst (λ (x : Query). length d.bits ≡ length x.vars) (sym same_q) shown.each

  in_order : AreInCycles f.places q.vars
  in_order = subst (λ (x : Query). AreInCycles f.places x.vars) (sym same_q) shown.in_order

  made : {E : Type 0} (s : Setup) (b : Bases) (cycle : ℕ) (r : Result ResetWitness E) → IfOk r (IsWitnessOf s b f q d.bits o.name cycle) → IfOk r (IsWitnessIn s b f asked cycle d)
  made s b cycle (Ok w) h = record {
    obligation = shown.obligation;
    query = shown.query;
    at = shown.at;
    is = subst (λ (x : Obligation). IsWitnessOf s b f shown.query d.bits x.name cycle w) same_o (subst (λ (x : Query). IsWitnessOf s b f x d.bits o.name cycle w) same_q h);
  }
  made s b cycle (Err e) h = h

pub witness_of-requires-clause-left : goal.witness_of-requires-clause-left
witness_of-requires-clause-left c =
    let asked = c.args.asked.now in
    let d = c.args.difference.now in
    let o : Obligation = c.index-asked-difference.result in
    let q : Query = c.index-as_slice-difference.result in
    left c.args.functions.now asked d c.requires.shown o (λ at. c.index-asked-difference.is ∙ get_or_from_slice_get asked d.pair _ o at) c.as_slice.result.now c.as_slice.ensures q
    (λ at. c.index-as_slice-difference.is ∙ get_or_from_slice_get c.as_slice.result.now d.query _ q at)

pub witness_of-requires-clause-right : goal.witness_of-requires-clause-right
witness_of-requires-clause-right c =
    let asked = c.args.asked.now in
    let d = c.args.difference.now in
    let o : Obligation = c.index-asked-difference.result in
    let q : Query = c.index-as_slice-difference.result in
    right c.args.functions.now asked d c.requires.shown o (λ at. c.index-asked-difference.is ∙ get_or_from_slice_get asked d.pair _ o at) c.as_slice.result.now c.as_slice.ensures q
    (λ at. c.index-as_slice-difference.is ∙ get_or_from_slice_get c.as_slice.result.now d.query _ q at)

pub witness_of-requires-clause-each : goal.witness_of-requires-clause-each
witness_of-requires-clause-each c =
    let asked = c.args.asked.now in
    let d = c.args.difference.now in
    let o : Obligation = c.index-asked-difference.result in
    let q : Query = c.index-as_slice-difference.result in
    each c.args.functions.now asked d c.requires.shown o (λ at. c.index-asked-difference.is ∙ get_or_from_slice_get asked d.pair _ o at) c.as_slice.result.now c.as_slice.ensures q
    (λ at. c.index-as_slice-difference.is ∙ get_or_from_slice_get c.as_slice.result.now d.query _ q at)

pub witness_of-requires-clause-in_order : goal.witness_of-requires-clause-in_order
witness_of-requires-clause-in_order c =
    let asked = c.args.asked.now in
    let d = c.args.difference.now in
    let o : Obligation = c.index-asked-difference.result in
    let q : Query = c.index-as_slice-difference.result in
    in_order c.args.functions.now asked d c.requires.shown o (λ at. c.index-asked-difference.is ∙ get_or_from_slice_get asked d.pair _ o at) c.as_slice.result.now c.as_slice.ensures q
    (λ at. c.index-as_slice-difference.is ∙ get_or_from_slice_get c.as_slice.result.now d.query _ q at)

pub returns : goal.returns
returns c =
    let asked = c.args.asked.now in
    let d = c.args.difference.now in
    let f = c.args.functions.now in
    let o : Obligation = c.index-asked-difference.result in
    let q : Query = c.index-as_slice-difference.result in
    let o_is : slice_get asked d.pair ≡ Some c.requires.shown.obligation → o ≡ c.requires.shown.obligation = λ at. c.index-asked-difference.is ∙ get_or_from_slice_get asked d.pair _ o at in
    let q_is : slice_get c.as_slice.result.now d.query ≡ Some c.requires.shown.query → q ≡ c.requires.shown.query = λ at. c.index-as_slice-difference.is ∙ get_or_from_slice_get c.as_slice.result.now d.query _ q at in
    made f asked d c.requires.shown o o_is c.as_slice.result.now c.as_slice.ensures q q_is c.args.setup.now c.args.bases c.args.cycle c.witness_of.result c.witness_of.ensures
