-- The place was met before, or its literal is kept.
use Rattle.std.proofs.Common.{refl}
use Rattle.std.proofs.lemmas.Result.{on_ok_weaker}
use Rattle.event_nodes.specs.flat_net.Weights.{weight_at}
use Rattle.edbf_unfold.proofs.event_literals.Going.{later_none, are_known_later, kept_known, kept_later, kept_none, none_known, kept_met, ok_or_err}
use Rattle.edbf_unfold.proofs.event_literals.builder.EventBuilder.build_step.Goals as goal

pub returns-in-Some-clause-later : goal.returns-in-Some-clause-later
returns-in-Some-clause-later c = later_none c.args.self.now c.args.events.now (weight_at c.args.self.now.circuit.net c.args.step.signal)

pub returns-in_err-lit-clause-known : goal.returns-in_err-lit-clause-known
returns-in_err-lit-clause-known c =
    are_known_later c.args.self.now.circuit c.args.events.now c.literal.new.events c.args.self.now.frames c.args.self.now.memo c.keeps.ensures.events c.literal.ensures.grown.grows c.requires.known

pub returns-in_err-lit-clause-later : goal.returns-in_err-lit-clause-later
returns-in_err-lit-clause-later c =
    kept_none c.args.self.now c.args.self.now refl c.args.events.now c.literal.new.events c.args.step (weight_at c.args.self.now.circuit.net c.args.step.signal) c.literal.ensures.grown c.args.self.now.memo refl

pub returns-clause-known : goal.returns-clause-known
returns-clause-known c = ok_or_err c.put.result c.put.ensures.ok c.put.ensures.err
    (λ put. kept_known _ c.args.self.now c.self.view_is c.args.events.now c.literal.new.events c.args.step (weight_at c.args.self.now.circuit.net c.args.step.signal) c.literal.ensures.grown c.put.new.self c.in_ok-lit.lit c.keeps.ensures.events c.requires.ready c.requires.known c.in_ok-lit.ensures.known put)
    (λ same. none_known _ c.args.self.now c.self.view_is c.args.events.now c.literal.new.events c.args.step (weight_at c.args.self.now.circuit.net c.args.step.signal) c.literal.ensures.grown c.put.new.self c.keeps.ensures.events c.requires.known same)

pub returns-clause-met : goal.returns-clause-met
returns-clause-met c = on_ok_weaker c.put.result
    (λ put. kept_met _ c.args.self.now c.self.view_is c.args.events.now c.literal.new.events c.args.step (weight_at c.args.self.now.circuit.net c.args.step.signal) c.literal.ensures.grown c.put.new.self c.in_ok-lit.lit put)
    c.put.ensures.ok

pub returns-clause-later : goal.returns-clause-later
returns-clause-later c = ok_or_err c.put.result c.put.ensures.ok c.put.ensures.err
    (λ put. kept_later _ c.args.self.now c.self.view_is c.args.events.now c.literal.new.events c.args.step (weight_at c.args.self.now.circuit.net c.args.step.signal) c.literal.ensures.grown c.put.new.self c.in_ok-lit.lit put)
    (λ same. kept_none _ c.args.self.now c.self.view_is c.args.events.now c.literal.new.events c.args.step (weight_at c.args.self.now.circuit.net c.args.step.signal) c.literal.ensures.grown c.put.new.self same)
