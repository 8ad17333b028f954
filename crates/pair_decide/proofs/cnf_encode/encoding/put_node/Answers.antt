use Rattle.std.proofs.Common.{[], ◌∷◌}
use Rattle.pair_decide.specs.cnf_encode.Encoding.{and_clauses, node_clauses, Adds}
use Rattle.pair_decide.proofs.cnf_encode.Added.{constant-added, node-added, OnOk-then}
use Rattle.pair_decide.proofs.cnf_encode.encoding.put_node.Goals as goal

pub returns-in-Constant : goal.returns-in-Constant
returns-in-Constant c =
    OnOk-then c.put_clause.result (Adds ((c.negation.result ∷ []) ∷ []) c.args.clauses.now c.put_clause.new.clauses) (Adds (node_clauses c.args.k c.args.node) c.args.clauses.now c.put_clause.new.clauses)
    (λ added. constant-added c.args.k c.args.node c.new-at.result c.negation.result c.args.clauses.now c.put_clause.new.clauses c.in-Constant.is c.new-at.ensures c.negation.ensures added) c.put_clause.ensures

pub returns-in-And : goal.returns-in-And
returns-in-And c =
    OnOk-then c.put_and.result (Adds (and_clauses c.new-at.result c.literal_of.result c.literal_of-in-And.result) c.args.clauses.now c.put_and.new.clauses) (Adds (node_clauses c.args.k c.args.node) c.args.clauses.now c.put_and.new.clauses)
    (λ added. node-added c.args.k c.args.node c.in-And.l c.in-And.r c.new-at.result c.literal_of.result c.literal_of-in-And.result c.args.clauses.now c.put_and.new.clauses c.in-And.is c.new-at.ensures c.literal_of.ensures c.literal_of-in-And.ensures added) c.put_and.ensures
