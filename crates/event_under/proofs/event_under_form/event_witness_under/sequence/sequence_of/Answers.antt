-- The variables of both sides and the depth are those of the difference's pair.
use Rattle.std.proofs.Common.{◌≡◌, ◌∙◌, ◌<◌, List, All, length, get_or, slice_get, Some, sym, ap, subst}
use Rattle.std.proofs.lemmas.Option.{same_Some, slice_get-get_or, slice_get_within}
use Rattle.obligations.specs.declared.obligation.Obligation.{Obligation}
use Rattle.pair_decide.specs.declared.query.Query.{Query}
use Rattle.event_form.proofs.event_findings.event_witness.Showing.{if_ok}
use Rattle.event_under.specs.event_under_form.event_witness_under.Shown.{IsSequenceAt, IsSequenceOf}
use Rattle.event_under.proofs.event_under_form.event_witness_under.sequence.sequence_of.Goals as goal

pub witness_of-requires-clause-sides : goal.witness_of-requires-clause-sides
witness_of-requires-clause-sides c =
    let d = c.args.difference.now in
    let os = c.args.asked.now in
    let r = c.requires.sides in
    let o = get_or os d.pair c.index-asked-difference.result in
    let q = c.index-as_slice-0.result in
    let inside : d.pair < length os = slice_get_within os d.pair r.obligation r.asked_at in
    let same : o ≡ r.obligation = same_Some o r.obligation (sym (slice_get-get_or os d.pair c.index-asked-difference.result inside) ∙ r.asked_at) in
    let there : slice_get o.queries 0 ≡ Some r.sides = subst (λ (y : Obligation). slice_get y.queries 0 ≡ Some r.sides) (sym same) r.sides_at in
    let read : slice_get c.as_slice.result.now 0 ≡ Some r.sides = subst (λ (qs : List Query). slice_get qs 0 ≡ Some r.sides) (sym c.as_slice.ensures) there in
    let within : 0 < length c.as_slice.result.now = slice_get_within c.as_slice.result.now 0 r.sides read in
    let is : q ≡ r.sides = same_Some q r.sides (ap Some c.index-as_slice-0.is ∙ sym (slice_get-get_or c.as_slice.result.now 0 q within) ∙ read) in
    subst (λ (y : Query). All (λ v. v < length c.args.events.now.places) y.vars) (sym is) r.within

pub returns : goal.returns
returns c =
    let w = c.args.events.now in
    let p = c.args.compared.now in
    let os = c.args.asked.now in
    let d = c.args.difference.now in
    let r = c.requires.sides in
    let o = get_or os d.pair c.index-asked-difference.result in
    let q = c.index-as_slice-0.result in
    let inside : d.pair < length os = slice_get_within os d.pair r.obligation r.asked_at in
    let asked_at : slice_get os d.pair ≡ Some o = slice_get-get_or os d.pair c.index-asked-difference.result inside in
    let same : o ≡ r.obligation = same_Some o r.obligation (sym asked_at ∙ r.asked_at) in
    let there : slice_get o.queries 0 ≡ Some r.sides = subst (λ (y : Obligation). slice_get y.queries 0 ≡ Some r.sides) (sym same) r.sides_at in
    let read : slice_get c.as_slice.result.now 0 ≡ Some r.sides = subst (λ (qs : List Query). slice_get qs 0 ≡ Some r.sides) (sym c.as_slice.ensures) there in
    let within : 0 < length c.as_slice.result.now = slice_get_within c.as_slice.result.now 0 r.sides read in
    let sides_at : slice_get o.queries 0 ≡ Some q = subst (λ (qs : List Query). slice_get qs 0 ≡ Some q) c.as_slice.ensures (slice_get-get_or c.as_slice.result.now 0 q within ∙ ap Some (sym c.index-as_slice-0.is)) in
    let depth_at : slice_get p.depths.now d.pair ≡ Some (get_or p.depths.now d.pair 0) = slice_get-get_or p.depths.now d.pair 0 r.depth in
    if_ok c.witness_of.result (IsSequenceOf w q.vars (get_or p.depths.now d.pair 0) p.names.now c.args.meeting.now d.bits c.args.ready) (IsSequenceAt w p os c.args.meeting.now d c.args.ready)
    (λ x h. record { obligation = o; sides = q; asked_at = asked_at; sides_at = sides_at; depth = get_or p.depths.now d.pair 0; depth_at = depth_at; is = h }) c.witness_of.ensures
