use Rattle.std.proofs.Common.{◌≡◌, List, [], ◌∷◌, ◌++◌, ◌∙◌, subst, rules}
use Rattle.proof_check.specs.Literals.{Literal}
use Rattle.proof_check.specs.Clauses.{IsClauseOf, IsTautology}
use Rattle.pair_decide.specs.cnf_encode.Encoding.{Adds}
use Rattle.pair_decide.proofs.cnf_encode.Added.{Adds-clause, Adds-tautology, OnOk-then}
use Rattle.pair_decide.proofs.cnf_encode.encoding.put_clause.Goals as goal

pub returns-in-Ok : goal.returns-in-Ok
returns-in-Ok c =
    let copied : c.in_ok-to_vec.field-0.items ≡ c.args.literals.now = search rules in
    let is : IsClauseOf c.args.literals.now c.in-Ok.clause = subst (λ (ls : List Literal). IsClauseOf ls c.in-Ok.clause) (c.from_vec-literals.ensures ∙ copied) c.in-Ok.ensures in
    OnOk-then c.push.result (c.push.new.self ≡ c.args.clauses.now ++ c.in-Ok.clause ∷ []) (Adds (c.args.literals.now ∷ []) c.args.clauses.now c.push.new.self)
    (λ e. Adds-clause c.args.literals.now c.in-Ok.clause c.args.clauses.now c.push.new.self is e) c.push.ensures.ok

pub returns-in-Err-Tautology : goal.returns-in-Err-Tautology
returns-in-Err-Tautology c =
    let copied : c.in_ok-to_vec.field-0.items ≡ c.args.literals.now = search rules in
    let is : IsTautology c.from_vec-literals.result = rw c.in-Err-Tautology.field-0-is at c.in-Err-Tautology.ensures in
    Adds-tautology c.args.literals.now c.args.clauses.now (subst IsTautology (c.from_vec-literals.ensures ∙ copied) is)
