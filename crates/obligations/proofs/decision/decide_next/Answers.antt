-- The queries of the obligation stand behind those before it, and its result behind the others.
use Rattle.std.proofs.Common.{◌≡◌, ℕ, ◌+◌, ◌<◌, ◌++◌, ◌∷◌, [], Bool, List, length, take, slice_get, Option, Some, refl, sym, ◌∙◌, ap, subst, arith, length-take}
use Rattle.obligations.specs.outcome.Query.{Query}
use Rattle.obligations.specs.outcome.witness_report.PairName.{PairName}
use Rattle.obligations.specs.declared.outcome.verdict.PairResult.{PairResult}
use Rattle.obligations.specs.declared.obligation.Obligation.{Obligation}
use Rattle.obligations.specs.declared.obligation.Difference.{Difference}
use Rattle.obligations.specs.declared.found.Found.{Found}
use Rattle.obligations.specs.Asked.{queries_of}
use Rattle.obligations.specs.Found.{IsFound}
use Rattle.obligations.specs.Decided.{HaveDecided, IsAnswerOf}
use Rattle.obligations.proofs.Listed.{item-at, take-next, query-at, queries-within, front_length}
use Rattle.obligations.proofs.Results.{more, put-alike}
use Rattle.obligations.proofs.decision.decide_next.Goals as goal

pub find-requires-clause-known : goal.find-requires-clause-known
find-requires-clause-known c = λ j q there new here.
    let asked = c.args.asked.now in
    let o : Obligation = c.index-asked-i.result in
    let at = item-at asked c.args.i o c.requires.within c.index-asked-i.is in
    let own : c.as_slice-queries.result.now ≡ o.queries = c.as_slice-queries.ensures in
    let stands : slice_get (queries_of asked) (c.args.place + j) ≡ Some q =
    ap (λ p. slice_get (queries_of asked) (p + j)) c.requires.place ∙ query-at asked c.args.i j o q at (ap (λ (qs : List Query). slice_get qs j) (sym own) ∙ there) in
    c.requires.known (c.args.place + j) q stands new here

pub find-requires-clause-few : goal.find-requires-clause-few
find-requires-clause-few c =
    let asked = c.args.asked.now in
    let o : Obligation = c.index-asked-i.result in
    let at = item-at asked c.args.i o c.requires.within c.index-asked-i.is in
    let own : c.as_slice-queries.result.now ≡ o.queries = c.as_slice-queries.ensures in
    let within = queries-within asked c.args.i o at in
    let many = ap (λ (qs : List Query). length qs) own in
    omega (arith, within, many, c.requires.few, c.requires.place)

pub returns : goal.returns
returns c = λ before.
    let g = c.args.aig.now in
    let asked = c.args.asked.now in
    let i = c.args.i in
    let o : Obligation = c.index-asked-i.result in
    let at = item-at asked i o c.requires.within c.index-asked-i.is in
    let own : c.as_slice-queries.result.now ≡ o.queries = c.as_slice-queries.ensures in
    let long : length (take i asked) ≡ i = front_length asked i o at in
    let f : Found = c.in_ok-found.found in
    let r : PairResult = c.answer_of-result.result.0 in
    let found : IsFound g c.args.conflicts o.queries f = subst (λ (qs : List Query). IsFound g c.args.conflicts qs f) own c.in_ok-found.ensures in
    let d : Option Difference = c.answer_of-result.result.1 in
    let answers : IsAnswerOf o.name o.size o.decisive (length (take i asked)) f r d =
    subst (λ k. IsAnswerOf o.name o.size o.decisive k f r d) (sym long)
    (subst (λ (n : PairName). IsAnswerOf n o.size o.decisive i f r d) (c.in_ok-name.ensures) c.answer_of-result.ensures) in
    let results : c.put.new.self.results ≡ c.args.decided.now.results ++ r ∷ [] = c.put.ensures.results ∙ c.in_ok-push.ensures.ok in
    subst (λ (os : List Obligation). HaveDecided g c.args.conflicts os c.put.new.self) (sym (take-next asked i o at))
    (more g c.args.conflicts (take i asked) o c.args.decided.now c.put.new.self r results before o.decisive f d refl found answers (put-alike o.decisive d c.push.new.self c.args.decided.now c.put.new.self c.put.ensures.put))
