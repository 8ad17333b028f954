use Rattle.sat_search.proofs.Searching.{bit_is}
use Rattle.sat_search.proofs.search_state.is_true.Goals as goal

pub returns-in-Some : goal.returns-in-Some
returns-in-Some c = bit_is c.args.trail.now.entries c.args.variable c.in-Some.place c.entry.result c.is_positive.result c.requires.trail c.in-Some.ensures c.entry.ensures.there c.is_positive.ensures

pub returns-in-None : goal.returns-in-None
returns-in-None c = λ k l there same. absurd (c.in-None.ensures k l there same)
