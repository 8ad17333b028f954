-- The laws of flat nets follow from what each net keeps.
use Rattle.std.proofs.Common.{subst}
use Rattle.flat_net.specs.Sound.{IsSound}
use Rattle.flat_net.proofs.Nets.{sound_is_net, sound_names}
use Rattle.flat_net.proofs.Places.{sound_in_order}
use Rattle.flat_net.proofs.net.Net.keeps.Goals as goal

pub returns-clause-net : goal.returns-clause-net
returns-clause-net c = sound_is_net c.args.self.now (subst IsSound c.self.view_is c.self.invariant)

pub returns-clause-names : goal.returns-clause-names
returns-clause-names c = sound_names c.args.self.now (subst IsSound c.self.view_is c.self.invariant)

pub returns-clause-order : goal.returns-clause-order
returns-clause-order c = sound_in_order c.args.self.now (subst IsSound c.self.view_is c.self.invariant)
