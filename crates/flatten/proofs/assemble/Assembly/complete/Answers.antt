use Rattle.std.proofs.Common.{◌≡◌}
use Rattle.std.specs.Prelude.{option_map}
use Rattle.std.proofs.lemmas.Result.{IfOk-weaker}
use Rattle.flat_net.specs.View.{NetView}
use Rattle.elaborate.specs.Flat.{name_at}
use Rattle.flatten.specs.Made.{IsMade}
use Rattle.flatten.proofs.MadeNets.{order_within, begun_gates, begun_covers, outputs_within, shown_outs, shown_nexts, last_clock, last_made}
use Rattle.flatten.proofs.assemble.Assembly.complete.Goals as goal

pub add_gates-requires-clause-numbers : goal.add_gates-requires-clause-numbers
add_gates-requires-clause-numbers c = order_within c.args.models.now c.args.flat.now c.args.wired.now c.args.order.now c.requires.laid

pub add_gates-requires-clause-gates : goal.add_gates-requires-clause-gates
add_gates-requires-clause-gates c = begun_gates c.args.flat.now c.args.wired.now.clock c.args.self.now.maker.net c.requires.net

pub add_gates-requires-clause-no_covers : goal.add_gates-requires-clause-no_covers
add_gates-requires-clause-no_covers c = begun_covers c.args.flat.now c.args.wired.now.clock c.args.self.now.maker.net c.requires.net

pub add_outputs-requires-clause-within : goal.add_outputs-requires-clause-within
add_outputs-requires-clause-within c =
    outputs_within c.args.models.now c.args.flat.now c.args.wired.now c.args.order.now c.requires.laid c.requires.spotted c.args.self.now.maker c.add_gates.new.self.maker c.add_gates.new.self.signals.items c.add_gates.new.self.covers
    c.requires.net
    c.in_ok-add_gates.ensures.has c.in_ok-add_gates.ensures.rest

pub set_nexts-requires-clause-outs : goal.set_nexts-requires-clause-outs
set_nexts-requires-clause-outs c =
    shown_outs c.args.models.now c.args.flat.now c.args.wired.now c.args.order.now c.requires.laid c.requires.spotted c.args.self.now.maker c.add_gates.new.self.maker c.add_gates.new.self.signals.items c.add_gates.new.self.covers
    c.requires.net
    c.in_ok-add_gates.ensures.has c.in_ok-add_gates.ensures.rest c.add_outputs.new.self.maker c.add_outputs.new.self.signals.items c.in_ok-add_outputs.ensures.net c.in_ok-add_outputs.ensures.signals

pub set_nexts-requires-clause-within : goal.set_nexts-requires-clause-within
set_nexts-requires-clause-within c =
    shown_nexts c.args.models.now c.args.flat.now c.args.wired.now c.args.order.now c.requires.laid c.requires.spotted c.args.self.now.maker c.add_gates.new.self.maker c.add_gates.new.self.signals.items c.add_gates.new.self.covers
    c.requires.net
    c.in_ok-add_gates.ensures.has c.in_ok-add_gates.ensures.rest c.add_outputs.new.self.maker c.add_outputs.new.self.signals.items c.in_ok-add_outputs.ensures.net c.in_ok-add_outputs.ensures.signals

pub finish-requires-clause-no_clock : goal.finish-requires-clause-no_clock
finish-requires-clause-no_clock c =
    last_clock c.args.models.now c.args.flat.now c.args.wired.now c.args.order.now c.requires.laid c.requires.spotted c.args.self.now.maker c.add_gates.new.self.maker c.add_gates.new.self.signals.items c.add_gates.new.self.covers
    c.requires.net
    c.in_ok-add_gates.ensures.has c.in_ok-add_gates.ensures.rest c.add_outputs.new.self.maker c.add_outputs.new.self.signals.items c.in_ok-add_outputs.ensures.net c.in_ok-add_outputs.ensures.signals
    c.set_nexts.new.self.maker.net c.set_nexts.ensures.net

pub returns : goal.returns
returns c = IfOk-weaker c.finish.result (λ (net : NetView). net ≡ record c.set_nexts.new.self.maker.net { clock = option_map (name_at c.args.flat.now.names) c.clock.result }) (IsMade c.args.models.now c.args.flat.now c.args.wired.now c.args.order.now)
    (λ net e.
    last_made c.args.models.now c.args.flat.now c.args.wired.now c.args.order.now c.requires.laid c.requires.spotted c.args.self.now.maker c.add_gates.new.self.maker c.add_gates.new.self.signals.items c.add_gates.new.self.covers
    c.requires.net
    c.in_ok-add_gates.ensures.has c.in_ok-add_gates.ensures.rest c.add_outputs.new.self.maker c.add_outputs.new.self.signals.items c.in_ok-add_outputs.ensures.net c.in_ok-add_outputs.ensures.signals
    c.set_nexts.new.self.maker.net c.set_nexts.ensures.net c.clock.result net c.clock.ensures e)
    c.finish.ensures
