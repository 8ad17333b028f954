-- The place was met before, it weighs too much, or its literal is kept.
use Rattle.std.proofs.Common.{◌+◌, ℕ, List, sym, subst, arith, ap}
use Rattle.aig.specs.declared.node.Lit.{Lit}
use Rattle.cbf_unfold.proofs.unfold_places.Lists.{not_both}
use Rattle.reset_form.specs.reset_unfold.Building.{IsLaterReset}
use Rattle.reset_form.specs.reset_unfold.View.{ResetView}
use Rattle.reset_form.proofs.reset_unfold.Going.{later_none, ready_weight, holds_at, ready_as, room_at, over_at, weight_later, put_holds, put_met, put_later}
use Rattle.reset_form.proofs.reset_unfold.unfolder.ResetUnfolder.build_place.Goals as goal

pub returns-in-Some-clause-later : goal.returns-in-Some-clause-later
returns-in-Some-clause-later c = later_none c.args.self.now c.args.aig.now c.args.places.now c.requires.room.small

pub returns-in_default-weigh-clause-over : goal.returns-in_default-weigh-clause-over
returns-in_default-weigh-clause-over c = λ e.
    over_at _ c.args.self.now c.self.view_is c.args.aig.now c.args.places.now c.args.place c.keeps-2.ensures.sound c.requires.holds c.requires.room c.keeps.ensures c.requires.ready c.in_default.ensures.absent c.in_default-weigh.ensures.none

pub returns-in_default-weigh-clause-later : goal.returns-in_default-weigh-clause-later
returns-in_default-weigh-clause-later c = later_none c.args.self.now c.args.aig.now c.args.places.now c.requires.room.small

pub literal-requires-clause-ready : goal.literal-requires-clause-ready
literal-requires-clause-ready c = ready_weight _ _ c.args.place (ready_as _ c.args.self.now c.self.view_is c.args.aig.now c.args.places.now c.args.place c.requires.ready)

pub literal-requires-clause-known : goal.literal-requires-clause-known
literal-requires-clause-known c = (holds_at _ c.args.self.now c.self.view_is c.args.aig.now c.args.places.now c.args.place c.requires.holds).known

pub literal-requires-clause-nodes : goal.literal-requires-clause-nodes
literal-requires-clause-nodes c =
    let room = room_at _ c.args.self.now c.self.view_is c.args.aig.now c.args.places.now c.args.place c.requires.room in
    omega (arith, room.nodes, room.small, c.in-Some-weigh.ensures.here, c.in-Some-weigh.ensures.room)

pub returns-in_err-lit-clause-later : goal.returns-in_err-lit-clause-later
returns-in_err-lit-clause-later c =
    weight_later _ c.args.self.now c.self.view_is c.args.aig.now c.args.places.now c.args.place c.literal.new.aig c.literal.new.places c.in-Some-weigh.weight c.in-Some-weigh.ensures.here c.in-Some-weigh.ensures.room c.requires.room c.literal.ensures.grown

pub put-requires : goal.put-requires
put-requires c = c.in_default.ensures.absent

pub returns-in_err-put-clause-later : goal.returns-in_err-put-clause-later
returns-in_err-put-clause-later c =
    subst (λ (m : List ((ℕ × ℕ) × Lit)). IsLaterReset c.args.self.now
    (record { net = c.self.inside.net.now; order = c.self.inside.order; base = c.self.inside.base; cap = c.self.inside.cap; done = c.self.inside.done.items; memo = m; weight = c.self.inside.weight + c.in-Some-weigh.weight })
    c.args.aig.now c.literal.new.aig c.args.places.now c.literal.new.places)
    (sym c.in_err-put.ensures.err)
    (weight_later _ c.args.self.now c.self.view_is c.args.aig.now c.args.places.now c.args.place c.literal.new.aig c.literal.new.places c.in-Some-weigh.weight c.in-Some-weigh.ensures.here c.in-Some-weigh.ensures.room c.requires.room c.literal.ensures.grown)

pub returns-clause-holds : goal.returns-clause-holds
returns-clause-holds c =
    put_holds _ c.args.self.now c.self.view_is c.args.aig.now c.args.places.now c.args.place c.literal.new.aig c.literal.new.places c.in-Some-weigh.weight c.in_ok-lit.lit c.put.new.self c.in_ok-put.ensures.ok c.in-Some-weigh.ensures.here c.in-Some-weigh.ensures.room
    c.literal.ensures.grown c.requires.holds c.requires.ready c.in_ok-lit.ensures.known

pub returns-clause-met : goal.returns-clause-met
returns-clause-met c =
    put_met _ c.args.self.now c.self.view_is c.args.aig.now c.args.places.now c.args.place c.literal.new.aig c.literal.new.places c.in-Some-weigh.weight c.in_ok-lit.lit c.put.new.self c.in_ok-put.ensures.ok c.in-Some-weigh.ensures.here c.in-Some-weigh.ensures.room
    c.literal.ensures.grown

pub returns-clause-later : goal.returns-clause-later
returns-clause-later c =
    put_later _ c.args.self.now c.self.view_is c.args.aig.now c.args.places.now c.args.place c.literal.new.aig c.literal.new.places c.in-Some-weigh.weight c.in_ok-lit.lit c.put.new.self c.in_ok-put.ensures.ok c.in-Some-weigh.ensures.here c.in-Some-weigh.ensures.room
    c.literal.ensures.grown c.requires.room

pub invariant_of-self : goal.invariant_of-self
invariant_of-self c = record { order = c.self.invariant.order; base = c.self.invariant.base; room = c.self.invariant.room; cap = c.self.invariant.cap }

pub invariant_of-self-2 : goal.invariant_of-self-2
invariant_of-self-2 c = record { order = c.self.invariant.order; base = c.self.invariant.base; room = c.self.invariant.room; cap = c.self.invariant.cap }

pub invariant_of-self-in_err-lit : goal.invariant_of-self-in_err-lit
invariant_of-self-in_err-lit c = record { order = c.self.invariant.order; base = c.self.invariant.base; room = c.self.invariant.room; cap = c.self.invariant.cap }

pub invariant_of-self-in_err-put : goal.invariant_of-self-in_err-put
invariant_of-self-in_err-put c = record { order = c.self.invariant.order; base = c.self.invariant.base; room = c.self.invariant.room; cap = c.self.invariant.cap }

pub weigh-requires : goal.weigh-requires
weigh-requires c = (ready_as _ c.args.self.now c.self.view_is c.args.aig.now c.args.places.now c.args.place c.requires.ready).within

pub overflow_sub-self-inside : goal.overflow_sub-self-inside
overflow_sub-self-inside c = (room_at _ c.args.self.now c.self.view_is c.args.aig.now c.args.places.now c.args.place c.requires.room).small

pub returns-in_err-put-clause-done : goal.returns-in_err-put-clause-done
returns-in_err-put-clause-done c = ap (λ (z : ResetView). z.done) c.self.view_is

pub returns-clause-over : goal.returns-clause-over
returns-clause-over c = λ e. absurd (not_both e)

pub returns-clause-done : goal.returns-clause-done
returns-clause-done c = ap (λ (z : ResetView). z.done) c.self.view_is
