-- The obligation, the query and the depth are those of the difference.
use Rattle.std.proofs.Common.{◌≡◌, ◌∙◌, ◌<◌, List, length, get_or, slice_get, Some, sym, ap, subst, arith}
use Rattle.std.proofs.lemmas.Option.{same_Some, slice_get-get_or, slice_get_within}
use Rattle.event_form.specs.Obligation.{Obligation}
use Rattle.obligations.specs.outcome.pair_decide.Query.{Query}
use Rattle.event_form.specs.event_findings.event_witness.Sequences.{IsWitnessOf}
use Rattle.event_form.specs.event_findings.event_witness.Shown.{IsWitnessAt}
use Rattle.event_form.proofs.event_findings.event_witness.Showing.{if_ok}
use Rattle.event_form.proofs.event_findings.event_witness.shown.witness_at.Goals as goal

pub returns : goal.returns
returns c =
    let os = c.args.asked.now in
    let d = c.args.difference.now in
    let o = c.index-asked-difference.result in
    let q = c.index-as_slice-difference.result in
    let inside : d.pair < length os = slice_get_within os d.pair c.requires.shown.obligation c.requires.shown.at.asked_at in
    let asked_at : slice_get os d.pair ≡ Some o = slice_get-get_or os d.pair o inside ∙ ap Some (sym c.index-asked-difference.is) in
    let same : o ≡ c.requires.shown.obligation = same_Some o c.requires.shown.obligation (sym asked_at ∙ c.requires.shown.at.asked_at) in
    let there : slice_get o.queries d.query ≡ Some c.requires.shown.query = subst (λ (x : Obligation). slice_get x.queries d.query ≡ Some c.requires.shown.query) (sym same) c.requires.shown.at.query_at in
    let read : slice_get c.as_slice.result.now d.query ≡ Some c.requires.shown.query = subst (λ (qs : List Query). slice_get qs d.query ≡ Some c.requires.shown.query) (sym c.as_slice.ensures) there in
    let within : d.query < length c.as_slice.result.now = slice_get_within c.as_slice.result.now d.query c.requires.shown.query read in
    let query_at : slice_get o.queries d.query ≡ Some q = subst (λ (qs : List Query). slice_get qs d.query ≡ Some q) c.as_slice.ensures (slice_get-get_or c.as_slice.result.now d.query q within ∙ ap Some (sym c.index-as_slice-difference.is)) in
    let depth_at : slice_get c.args.depths.now d.pair ≡ Some (get_or c.args.depths.now d.pair 0) = slice_get-get_or c.args.depths.now d.pair 0 (omega (arith, inside, c.requires.depths)) in
    if_ok c.witness_of.result (IsWitnessOf c.args.events.now.events q d.bits o.name (get_or c.args.depths.now d.pair 0) c.args.names.now) (IsWitnessAt c.args.events.now.events os c.args.depths.now c.args.names.now d)
    (λ x h. record { obligation = o; query = q; at = record { asked_at = asked_at; query_at = query_at }; depth = get_or c.args.depths.now d.pair 0; depth_at = depth_at; is = h }) c.witness_of.ensures
