-- What is asked of both functions.
use Rattle.std.proofs.Common.{◌∙◌, [], ◌∷◌, ◌++◌, List, ap, arith}
use Rattle.obligations.specs.pair_decide.Query.{Query}
use Rattle.event_form.proofs.Asking.{obligation_asked}
use Rattle.event_form.proofs.questions.obligation_of.Goals as goal

pub query_of-requires-clause-left : goal.query_of-requires-clause-left
query_of-requires-clause-left c = record { care = c.requires.left.care_within; vars = c.requires.left.in_order }

pub query_of-requires-clause-right : goal.query_of-requires-clause-right
query_of-requires-clause-right c = record { care = c.requires.right.care_within; vars = c.requires.right.in_order }

pub returns-clause-asked : goal.returns-clause-asked
returns-clause-asked c =
    obligation_asked c.args.events.now c.query_of.new.events c.keeps.ensures.kept.events c.keeps-2.ensures.kept.events c.query_of.ensures.more c.args.cut c.args.pair.now c.args.left.now c.args.right.now c.in_ok-query.query c.as_slice.result.now c.as_slice-2.result.now
    c.in_ok-nodes.nodes.items (record { name = c.in_ok-name.name; size = c.in-Ok.size; decisive = c.is_decisive.result; queries = c.push.new.self }) c.requires.left c.requires.right c.in_ok-query.ensures.query c.as_slice.ensures c.as_slice-2.ensures c.in_ok-nodes.ensures c.in_ok-name.ensures
    (omega (arith, c.in-Ok.ensures, c.len.ensures)) c.is_decisive.ensures (c.in_ok-push.ensures.ok ∙ ap (λ (qs : List Query). qs ++ c.in_ok-query.query ∷ []) c.new-queries.ensures)
