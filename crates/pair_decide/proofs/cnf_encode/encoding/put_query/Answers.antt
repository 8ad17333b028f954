use Rattle.std.proofs.Common.{[], ◌∷◌}
use Rattle.pair_decide.specs.cnf_encode.Encoding.{query_clauses, Adds}
use Rattle.pair_decide.proofs.cnf_encode.Added.{query-added, OnOk-then}
use Rattle.pair_decide.proofs.cnf_encode.encoding.put_query.Goals as goal

pub returns : goal.returns
returns c =
    OnOk-then c.put_clause-3.result (Adds ((c.negation.result ∷ c.negation-2.result ∷ []) ∷ []) c.put_clause-2.new.clauses c.put_clause-3.new.clauses) (Adds (query_clauses c.args.left.0 c.args.right.0 c.args.care.0) c.args.clauses.now c.put_clause-3.new.clauses)
    (λ last. query-added c.args.left.0 c.args.right.0 c.args.care.0 c.literal_of-left.result c.literal_of-right.result c.literal_of.result c.negation.result c.negation-2.result
    c.args.clauses.now c.put_clause.new.clauses c.put_clause-2.new.clauses c.put_clause-3.new.clauses
    c.literal_of-left.ensures c.literal_of-right.ensures c.literal_of.ensures c.negation.ensures c.negation-2.ensures c.in_ok-put_clause.ensures c.in_ok-put_clause-2.ensures last)
    c.put_clause-3.ensures
