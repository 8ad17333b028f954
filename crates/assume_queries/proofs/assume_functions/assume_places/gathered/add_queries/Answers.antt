-- One query more.
use Rattle.std.proofs.Common.{◌<◌, ◌∙◌, List, [], ◌∷◌, ◌++◌, length, take, sym, ap, subst, arith, append_assoc}
use Rattle.std.proofs.lemmas.List.{append-nil, take_all}
use Rattle.std.proofs.lemmas.List.Elements.{All-contains}
use Rattle.circuit_theory.proofs.Lists.{of_at}
use Rattle.obligations.specs.pair_decide.Query.{Query}
use Rattle.obligations.proofs.Listed.{item-at, take-next}
use Rattle.assume_queries.specs.assume_functions.assume_places.Gathered.{HasPlaces, AreGathered}
use Rattle.assume_queries.proofs.assume_functions.assume_places.gathered.add_queries.Goals as goal

pub loop-query-init : goal.loop-query-init
loop-query-init c = λ qs h. subst (λ (l : List Query). AreGathered c.args.table.now l c.args.found.now) (sym (append-nil qs)) h

pub add_query-requires-clause-query : goal.add_query-requires-clause-query
add_query-requires-clause-query c =
    let xs = c.args.queries.now in
    let q : Query = c.query-item.result in
    let at = item-at xs c.loop-query.query-index q (let h : c.loop-query.query-index < length xs = omega arith in h) c.query-item.is in
    All-contains (HasPlaces c.args.table.now) xs q c.requires.queries (of_at xs c.loop-query.query-index q at)

pub add_query-requires-clause-before : goal.add_query-requires-clause-before
add_query-requires-clause-before c = (c.requires.before.0 ++ take c.loop-query.query-index c.args.queries.now, c.loop-query.invariant c.requires.before.0 c.requires.before.1)

pub loop-query-preserved : goal.loop-query-preserved
loop-query-preserved c = λ qs h.
    let xs = c.args.queries.now in
    let i = c.loop-query.query-index in
    let q : Query = c.query-item.result in
    let at = item-at xs i q (let h : i < length xs = omega arith in h) c.query-item.is in
    let more = c.in_ok-add_query.ensures (qs ++ take i xs) (c.loop-query.invariant qs h) in
    subst (λ (l : List Query). AreGathered c.args.table.now l c.add_query.new.found) (append_assoc qs (take i xs) (q ∷ []) ∙ ap (λ (l : List Query). qs ++ l) (sym (take-next xs i q at))) more

pub returns : goal.returns
returns c = λ qs h.
    subst (λ (l : List Query). AreGathered c.args.table.now (qs ++ l) c.loop-query.found) (take_all c.loop-query.query-index c.args.queries.now c.loop-query-test.false) (c.loop-query.invariant qs h)
