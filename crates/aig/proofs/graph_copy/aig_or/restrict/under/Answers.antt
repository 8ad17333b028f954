-- 1 where the complement says so, or else what the restriction leaves.
use Rattle.std.proofs.Common.{◌∙◌, ◌*◌, ◌<◌, ℕ, length, sym, ap, subst}
use Rattle.aig.specs.Graph.{flip}
use Rattle.aig.specs.graph_copy.aig_or.ShortOr.{restricted}
use Rattle.aig.proofs.graph_copy.aig_or.Deciding.{under_on, under_else}
use Rattle.aig.proofs.graph_copy.aig_or.OrStaying.{restricted_within}
use Rattle.aig.proofs.graph_copy.aig_or.restrict.under.Goals as goal

pub restricted-requires-clause-a : goal.restricted-requires-clause-a
restricted-requires-clause-a c = c.not.ensures.within (length c.args.graph.now) c.requires.x

pub restricted-requires-clause-x : goal.restricted-requires-clause-x
restricted-requires-clause-x c = c.not-2.ensures.within (length c.args.graph.now) c.requires.a

pub returns-then-restricted-eq1-clause-literal : goal.returns-then-restricted-eq1-clause-literal
returns-then-restricted-eq1-clause-literal c =
    under_on c.args.graph.now c.args.a.0 c.args.x.0
    (ap (λ (y : ℕ). restricted c.args.graph.now 7 y (flip c.args.a.0)) (sym c.not.ensures.literal) ∙ (ap (λ (y : ℕ). restricted c.args.graph.now 7 c.not.result.0 y) (sym c.not-2.ensures.literal) ∙ (sym c.restricted.ensures ∙ c.if-restricted-eq1.true)))

pub returns-clause-literal : goal.returns-clause-literal
returns-clause-literal c =
    c.restricted-2.ensures
    ∙ under_else c.args.graph.now c.args.a.0 c.args.x.0
    (λ same. c.if-restricted-eq1.false
    (c.restricted.ensures ∙ (ap (λ (y : ℕ). restricted c.args.graph.now 7 c.not.result.0 y) c.not-2.ensures.literal ∙ (ap (λ (y : ℕ). restricted c.args.graph.now 7 y (flip c.args.a.0)) c.not.ensures.literal ∙ same))))

pub returns-clause-within : goal.returns-clause-within
returns-clause-within c = subst (λ (y : ℕ). y < 2 * length c.args.graph.now) (sym c.restricted-2.ensures) (restricted_within c.args.graph.now c.keeps.ensures.graph 7 c.args.a.0 c.args.x.0 c.requires.x)
