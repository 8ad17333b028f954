-- The answer is that of the query in the stead of this one.
use Rattle.std.proofs.Common.{◌≡◌, List, Option, Some, IfSome, subst, rules}
use Rattle.swept_queries.specs.sweep.aig.Node.{Node}
use Rattle.swept_queries.specs.sweep.pair_decide.Query.{Query}
use Rattle.swept_queries.specs.sweep.pair_decide.Queries.{IsQuery}
use Rattle.swept_queries.proofs.sweep.pair_decide.Read.{IfOk-then}
use Rattle.swept_queries.specs.InStead.{sides_of, StandFor, IsInStead}
use Rattle.swept_queries.proofs.OneLiteral.{one-literal}
use Rattle.swept_queries.proofs.queries.SweptQueries.decide_swept.Goals as goal

pub decide-requires-clause-query : goal.decide-requires-clause-query
decide-requires-clause-query c =
    let q = c.args.query.now in
    let h = c.args.self.now.aig in
    let stands : IfSome (Some c.in-Some.asked) (λ (r : Query). (g : List Node) → IsQuery g q → StandFor g (sides_of q) h c.args.sides.now → IsInStead g q h r) =
    subst (λ (o : Option Query). IfSome o (λ (r : Query). (g : List Node) → IsQuery g q → StandFor g (sides_of q) h c.args.sides.now → IsInStead g q h r)) c.in-Some.is c.in_ok-asked.ensures in
    (stands c.args.aig.now c.requires.query c.requires.stand).query

pub returns-in-Some : goal.returns-in-Some
returns-in-Some c =
    let q = c.args.query.now in
    let h = c.args.self.now.aig in
    let stands : IfSome (Some c.in-Some.asked) (λ (r : Query). (g : List Node) → IsQuery g q → StandFor g (sides_of q) h c.args.sides.now → IsInStead g q h r) =
    subst (λ (o : Option Query). IfSome o (λ (r : Query). (g : List Node) → IsQuery g q → StandFor g (sides_of q) h c.args.sides.now → IsInStead g q h r)) c.in-Some.is c.in_ok-asked.ensures in
    IfOk-then c.decide.result _ _ (λ d decides. record { graph = h; asked = c.in-Some.asked; stands = stands c.args.aig.now c.requires.query c.requires.stand; decides = decides }) c.decide.ensures

pub returns-then-eq : goal.returns-then-eq
returns-then-eq c =
    let one : c.args.sides.now.left.0 ≡ c.args.sides.now.right.0 = search rules in
    one-literal c.args.aig.now c.args.query.now c.args.self.now.aig c.args.sides.now c.args.conflicts c.keeps.ensures.graph c.requires.query c.requires.stand one
