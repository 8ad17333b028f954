use Rattle.std.proofs.Common.{[], ◌∷◌}
use Rattle.pair_decide.specs.cnf_encode.Encoding.{and_clauses, Adds}
use Rattle.pair_decide.proofs.cnf_encode.Added.{and-added, OnOk-then}
use Rattle.pair_decide.proofs.cnf_encode.encoding.put_and.Goals as goal

pub returns : goal.returns
returns c =
    OnOk-then c.put_clause-3.result (Adds ((c.args.at ∷ c.negation-3.result ∷ c.negation-4.result ∷ []) ∷ []) c.put_clause-2.new.clauses c.put_clause-3.new.clauses) (Adds (and_clauses c.args.at c.args.left c.args.right) c.args.clauses.now c.put_clause-3.new.clauses)
    (λ last. and-added c.args.at c.args.left c.args.right c.negation.result c.negation-2.result c.negation-3.result c.negation-4.result c.args.clauses.now c.put_clause.new.clauses c.put_clause-2.new.clauses c.put_clause-3.new.clauses
    c.negation.ensures c.negation-2.ensures c.negation-3.ensures c.negation-4.ensures c.in_ok-put_clause.ensures c.in_ok-put_clause-2.ensures last)
    c.put_clause-3.ensures
