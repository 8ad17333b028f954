-- A latch's name is its signal's.
use Rattle.flat_net.proofs.LatchNames.{no_signal_named, no_latch_named, latch_is_named}
use Rattle.flat_net.proofs.net.Net.latch_named.Goals as goal

pub returns-in_default : goal.returns-in_default
returns-in_default c = record { here = tt; absent = no_signal_named c.args.self.now c.keeps.ensures.sound c.args.name.now c.in_default.ensures.absent }

pub returns-in-Latch-clause-here : goal.returns-in-Latch-clause-here
returns-in-Latch-clause-here c = latch_is_named c.args.self.now c.keeps.ensures.sound c.args.name.now _ _ c.in-Some.ensures.here c.in-Latch.ensures

pub returns-in_default-driver : goal.returns-in_default-driver
returns-in_default-driver c =
    record { here = tt; absent = no_latch_named c.args.self.now c.keeps.ensures.sound c.args.name.now _ _ c.in-Some.ensures.here c.driver.ensures c.in_default-driver.not-Latch }
