-- What is known of the query is true.
use Rattle.std.proofs.Common.{subst}
use Rattle.swept_queries.specs.InStead.{sides_of, IsTrueOf}
use Rattle.swept_queries.proofs.queries.SweptQueries.decide.Goals as goal

pub decide_swept-requires-clause-stand : goal.decide_swept-requires-clause-stand
decide_swept-requires-clause-stand c =
    let s = c.args.self.now in
    subst (IsTrueOf c.args.aig.now (sides_of c.args.query.now) s.aig s.words.items) c.in-Swept.is (c.known_at.ensures c.args.aig.now c.args.query.now c.requires.known)

pub decide_apart-requires-clause-apart : goal.decide_apart-requires-clause-apart
decide_apart-requires-clause-apart c =
    let s = c.args.self.now in
    subst (IsTrueOf c.args.aig.now (sides_of c.args.query.now) s.aig s.words.items) c.in-Apart.is (c.known_at.ensures c.args.aig.now c.args.query.now c.requires.known)
