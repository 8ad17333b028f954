-- Both are those that stand there.
use Rattle.std.proofs.Common.{◌≡◌, ◌∙◌, List, slice_get, Some, sym, ap}
use Rattle.std.proofs.lemmas.Option.{get_or_from_slice_get}
use Rattle.pair_decide.specs.declared.query.Query.{Query}
use Rattle.obligations.specs.declared.obligation.Obligation.{Obligation}
use Rattle.plain_check.proofs.asked_under.differences.query_at.Goals as goal

pub returns : goal.returns
returns c =
    let asked = c.args.asked.now in
    let d = c.args.difference.now in
    let at = c.requires in
    let p : Obligation = c.index-asked-difference.result in
    let t : Query = c.index-as_slice-difference.result in
    let same_p : p ≡ at.obligation = c.index-asked-difference.is ∙ get_or_from_slice_get asked d.pair at.obligation p at.is.asked_at in
    let queries : c.as_slice.result.now ≡ at.obligation.queries = c.as_slice.ensures ∙ ap (λ (o : Obligation). o.queries) same_p in
    let here : slice_get c.as_slice.result.now d.query ≡ Some at.query = ap (λ (qs : List Query). slice_get qs d.query) queries ∙ at.is.query_at in
    let same_t : t ≡ at.query = c.index-as_slice-difference.is ∙ get_or_from_slice_get c.as_slice.result.now d.query at.query t here in
    record {
      asked_at = at.is.asked_at ∙ ap (λ (o : Obligation). Some o) (sym same_p);
      query_at = ap (λ (o : Obligation). slice_get o.queries d.query) same_p ∙ (at.is.query_at ∙ ap (λ (q : Query). Some q) (sym same_t));
    }
