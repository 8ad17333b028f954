use Rattle.aig.proofs.ConeWalks.{number-inserted}
use Rattle.aig.proofs.cone.see.Goals as goal

pub returns : goal.returns
returns c = number-inserted c.args.seen.now c.insert.new.self c.args.number c.in_ok-insert.ensures.ok
