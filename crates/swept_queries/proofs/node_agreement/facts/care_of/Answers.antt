use Rattle.std.proofs.Common.{refl}
use Rattle.swept_queries.proofs.node_agreement.Known.{one-holds}
use Rattle.swept_queries.proofs.node_agreement.facts.care_of.Goals as goal

pub loop-i-init : goal.loop-i-init
loop-i-init c = record { local = c.requires.local; lits = refl; care = one-holds c.args.graph.now c.keeps.ensures.graph c.args.small.now.graph c.keeps-2.ensures.graph }
