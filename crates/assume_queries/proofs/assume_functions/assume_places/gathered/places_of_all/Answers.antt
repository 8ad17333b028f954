-- The queries of one obligation more.
use Rattle.std.proofs.Common.{◌<◌, ◌≤◌, ◌∙◌, List, ◌++◌, length, take, refl, sym, ap, subst, arith, add-one}
use Rattle.std.specs.List.{All}
use Rattle.std.proofs.lemmas.List.{take_all}
use Rattle.std.proofs.lemmas.List.Elements.{All-contains}
use Rattle.circuit_theory.proofs.Lists.{All-from_each, at_of, of_at}
use Rattle.obligations.specs.pair_decide.Query.{Query}
use Rattle.obligations.specs.declared.obligation.Obligation.{Obligation}
use Rattle.obligations.specs.Asked.{queries_of}
use Rattle.obligations.proofs.Listed.{item-at, queries-more, query-at}
use Rattle.assume_queries.specs.assume_functions.assume_places.Gathered.{HasPlaces, AreGathered}
use Rattle.assume_queries.proofs.assume_functions.assume_places.Gathering.{gathered_none}
use Rattle.assume_queries.proofs.assume_functions.assume_places.gathered.places_of_all.Goals as goal

pub loop-i-init : goal.loop-i-init
loop-i-init c = gathered_none c.args.table.now (record { table = c.new.result; own = c.new-2.result; count = 0 }) c.new.ensures c.new-2.ensures.items refl

pub add_queries-requires-clause-queries : goal.add_queries-requires-clause-queries
add_queries-requires-clause-queries c =
    let asked = c.args.asked.now in
    let o : Obligation = c.index-asked-i.result in
    let at = item-at asked c.loop-i.i o (let h : c.loop-i.i < length asked = omega arith in h) c.index-asked-i.is in
    subst (All (HasPlaces c.args.table.now)) (sym (c.as_slice.ensures ∙ ap (λ (x : Obligation). x.queries) (sym c.index-asked-i.is)))
    (All-from_each (HasPlaces c.args.table.now) o.queries (λ q k.
    let j = at_of o.queries q k in
    All-contains (HasPlaces c.args.table.now) (queries_of asked) q c.requires.queries (of_at (queries_of asked) _ q (query-at asked c.loop-i.i j.0 o q at j.1))))

pub add_queries-requires-clause-before : goal.add_queries-requires-clause-before
add_queries-requires-clause-before c = (queries_of (take c.loop-i.i c.args.asked.now), c.loop-i.invariant)

pub loop-i-preserved : goal.loop-i-preserved
loop-i-preserved c =
    let asked = c.args.asked.now in
    let i = c.loop-i.i in
    let o : Obligation = c.index-asked-i.result in
    let at = item-at asked i o (let h : i < length asked = omega arith in h) c.index-asked-i.is in
    let more = c.in_ok-add_queries.ensures (queries_of (take i asked)) c.loop-i.invariant in
    subst (λ (l : List Query). AreGathered c.args.table.now l c.add_queries.new.found)
    (ap (λ (l : List Query). queries_of (take i asked) ++ l) (c.as_slice.ensures ∙ ap (λ (x : Obligation). x.queries) (sym c.index-asked-i.is)) ∙ (sym (queries-more asked i o at) ∙ ap (λ n. queries_of (take n asked)) (sym (add-one i)))) more

pub returns : goal.returns
returns c = subst (λ (os : List Obligation). AreGathered c.args.table.now (queries_of os) c.loop-i.found) (take_all c.loop-i.i c.args.asked.now (let h : length c.args.asked.now ≤ c.loop-i.i = omega arith in h)) c.loop-i.invariant
