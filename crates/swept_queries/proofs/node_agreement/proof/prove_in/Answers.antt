use Rattle.std.proofs.Common.{ℕ, List, subst}
use Rattle.sweep_candidates.specs.declared.models.Model.{Model}
use Rattle.swept_queries.specs.node_agreement.Answers.{IsToldOf, IsModelOf}
use Rattle.swept_queries.proofs.node_agreement.Told.{IfSome-then}
use Rattle.swept_queries.proofs.node_agreement.proof.prove_in.Goals as goal

pub returns-in-Same : goal.returns-in-Same
returns-in-Same c = subst (IsToldOf c.args.graph.now c.args.x.0 c.args.k.0) c.in-Same.is c.in_ok-tried.ensures

pub returns-in_ok-found-in-Differs : goal.returns-in_ok-found-in-Differs
returns-in_ok-found-in-Differs c =
    let told = subst (IsToldOf c.args.graph.now c.args.x.0 c.args.k.0) c.in-Differs.is c.in_ok-tried.ensures in
    c.apart_by.ensures c.args.graph.now c.args.x.0 c.args.k.0
    (IfSome-then c.in_ok-found-in-Differs.found _ _ (λ (m : Model) is. told m (subst (λ (ns : List ℕ). IsModelOf c.args.graph.now ns c.in-Differs.bits m) c.as_slice.ensures is)) c.in_ok-found-in-Differs.ensures)
