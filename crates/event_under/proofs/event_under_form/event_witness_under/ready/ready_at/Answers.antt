-- The obligation and the query are those of the difference.
use Rattle.std.proofs.Common.{◌≡◌, ◌∙◌, ◌<◌, List, length, slice_get, Some, sym, ap, subst}
use Rattle.std.proofs.lemmas.Option.{same_Some, slice_get-get_or, slice_get_within}
use Rattle.obligations.specs.declared.obligation.Obligation.{Obligation}
use Rattle.pair_decide.specs.declared.query.Query.{Query}
use Rattle.event_form.proofs.event_findings.event_witness.Showing.{if_ok}
use Rattle.event_under.specs.event_under_form.event_witness_under.Ready.{IsReadyAt, IsReadyOf}
use Rattle.event_under.proofs.event_under_form.event_witness_under.ready.ready_at.Goals as goal

pub returns : goal.returns
returns c =
    let w = c.args.events.now in
    let x = c.args.questions.now in
    let os = x.asked.items in
    let d = c.args.difference.now in
    let r = c.requires in
    let o = c.index-obligation.result.now in
    let q = c.index-as_slice-difference.result in
    let inside : d.pair < length os = slice_get_within os d.pair r.obligation r.asked_at in
    let asked_at : slice_get os d.pair ≡ Some o = slice_get-get_or os d.pair o inside ∙ ap Some (sym c.index-obligation.ensures) in
    let same : o ≡ r.obligation = same_Some o r.obligation (sym asked_at ∙ r.asked_at) in
    let there : slice_get o.queries d.query ≡ Some r.query = subst (λ (y : Obligation). slice_get y.queries d.query ≡ Some r.query) (sym same) r.query_at in
    let read : slice_get c.as_slice.result.now d.query ≡ Some r.query = subst (λ (qs : List Query). slice_get qs d.query ≡ Some r.query) (sym c.as_slice.ensures) there in
    let within : d.query < length c.as_slice.result.now = slice_get_within c.as_slice.result.now d.query r.query read in
    let query_at : slice_get o.queries d.query ≡ Some q = subst (λ (qs : List Query). slice_get qs d.query ≡ Some q) c.as_slice.ensures (slice_get-get_or c.as_slice.result.now d.query q within ∙ ap Some (sym c.index-as_slice-difference.is)) in
    if_ok c.ready_of.result (IsReadyOf w x q d.bits o.name) (IsReadyAt w x d) (λ y h. record { obligation = o; query = q; asked_at = asked_at; query_at = query_at; is = h }) c.ready_of.ensures
