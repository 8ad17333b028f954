-- By the answer to the latch's query.
use Rattle.std.proofs.Common.{◌+◌, ◌<◌, ℕ, List, length, sym, subst, arith}
use Rattle.block_refine.specs.Asking.{TakeOneValue, TellApart, IsLimitAt, IsAnswer}
use Rattle.block_refine.specs.Passes.{AreMembers, IsLimitOf}
use Rattle.block_refine.proofs.Passing.{first_beside, pass_agrees, pass_apart, pass_limits, bits_long, first_is}
use Rattle.block_refine.proofs.pass.Pass.step.Goals as goal

pub first_in-first-requires-clause-members : goal.first_in-first-requires-clause-members
first_in-first-requires-clause-members c =
    subst (λ (fs : List ℕ). AreMembers c.as_slice.result.now fs) (sym c.deref.ensures.value) (subst (λ (bs : List ℕ). AreMembers bs c.args.self.now.firsts.items) (sym c.as_slice.ensures) c.requires.pass.members)

pub first_in-first-requires-clause-latch : goal.first_in-first-requires-clause-latch
first_in-first-requires-clause-latch c = subst (λ (bs : List ℕ). c.args.j < length bs) (sym c.as_slice.ensures) c.requires.latch

pub ask-requires-clause-first : goal.ask-requires-clause-first
ask-requires-clause-first c =
    let is = first_is c.args.self.now c.args.j c.first_in-first.result c.deref.result.now c.as_slice.result.now c.first_in-first.ensures c.deref.ensures.value c.as_slice.ensures in
    let first = first_beside c.args.nets.now c.keeps.ensures.sound c.keeps-2.ensures.sound c.args.j c.args.j c.args.self.now c.requires.pass c.requires.latch in
    omega (arith, first.0, is, c.requires.pass.way.each)

pub ask-requires-clause-second : goal.ask-requires-clause-second
ask-requires-clause-second c = omega (arith, c.requires.latch, c.requires.pass.way.each)

pub split_by-requires-clause-each : goal.split_by-requires-clause-each
split_by-requires-clause-each c =
    let told = subst (IsAnswer c.args.nets.now c.args.graph.now c.args.conflicts c.first_in-first.result c.args.j) c.in-Apart.is c.in_ok-ask.ensures in
    bits_long c.args.nets.now c.args.j c.args.self.now c.requires.pass c.first_in-first.result c.args.j c.in-Apart.bits.items told

pub split_by-requires-clause-few : goal.split_by-requires-clause-few
split_by-requires-clause-few c = omega (arith, c.requires.pass.few)

pub returns-in-Agree : goal.returns-in-Agree
returns-in-Agree c =
    let is = first_is c.args.self.now c.args.j c.first_in-first.result c.deref.result.now c.as_slice.result.now c.first_in-first.ensures c.deref.ensures.value c.as_slice.ensures in
    let one = subst (IsAnswer c.args.nets.now c.args.graph.now c.args.conflicts c.first_in-first.result c.args.j) c.in-Agree.is c.in_ok-ask.ensures in
    pass_agrees c.args.nets.now c.keeps.ensures.sound c.keeps-2.ensures.sound c.args.j c.args.self.now c.requires.pass (subst (λ k. TakeOneValue c.args.nets.now k c.args.j) is one)

pub returns-in-Limit : goal.returns-in-Limit
returns-in-Limit c =
    let n = c.args.nets.now in
    let s = c.args.self.now in
    let is = first_is s c.args.j c.first_in-first.result c.deref.result.now c.as_slice.result.now c.first_in-first.ensures c.deref.ensures.value c.as_slice.ensures in
    let asked = subst (IsAnswer n c.args.graph.now c.args.conflicts c.first_in-first.result c.args.j) c.in-Limit.is c.in_ok-ask.ensures in (
      c.requires.pass,
      subst (λ k. IsLimitOf n c.args.graph.now c.args.conflicts k c.args.j c.in-Limit.proof) (sym is)
          (pass_limits n c.keeps.ensures.sound c.keeps-2.ensures.sound c.args.j c.args.j s c.requires.pass c.args.graph.now c.args.conflicts c.in-Limit.proof c.requires.latch
          (subst (λ k. IsLimitAt n c.args.graph.now c.args.conflicts k c.args.j c.in-Limit.proof) is asked)),
    )

pub returns-in_ok-split_by-in-Apart : goal.returns-in_ok-split_by-in-Apart
returns-in_ok-split_by-in-Apart c =
    let is = first_is c.args.self.now c.args.j c.first_in-first.result c.deref.result.now c.as_slice.result.now c.first_in-first.ensures c.deref.ensures.value c.as_slice.ensures in
    let told = subst (IsAnswer c.args.nets.now c.args.graph.now c.args.conflicts c.first_in-first.result c.args.j) c.in-Apart.is c.in_ok-ask.ensures in
    pass_apart c.args.nets.now c.keeps.ensures.sound c.keeps-2.ensures.sound c.args.j c.args.j c.args.self.now c.requires.pass (c.args.j + 1) c.split_by.new.self c.in-Apart.bits.items (subst (λ k. TellApart c.args.nets.now k c.args.j c.in-Apart.bits.items) is told) c.in_ok-split_by-in-Apart.ensures.split
    c.in_ok-split_by-in-Apart.ensures.members c.in_ok-split_by-in-Apart.ensures.marked c.requires.latch
