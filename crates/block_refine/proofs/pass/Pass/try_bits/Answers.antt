-- By the bits under the assignment.
use Rattle.std.proofs.Common.{◌<◌, ℕ, List, length, sym, ap, subst, arith}
use Rattle.std.specs.List.{All}
use Rattle.std.specs.List.Sorted.{IsStrictlyIncreasing}
use Rattle.block_refine.specs.Passes.{AreMembers}
use Rattle.block_refine.proofs.Trials.{trial_long, trial_splits}
use Rattle.block_refine.proofs.pass.Pass.try_bits.Goals as goal

pub seeded_nexts-requires-clause-increasing : goal.seeded_nexts-requires-clause-increasing
seeded_nexts-requires-clause-increasing c = subst IsStrictlyIncreasing (sym c.as_slice.ensures) c.requires.increasing

pub seeded_nexts-requires-clause-below : goal.seeded_nexts-requires-clause-below
seeded_nexts-requires-clause-below c = subst (All (λ k. k < c.args.graph.now.limit)) (sym c.as_slice.ensures) c.requires.below

pub first_apart-requires-clause-members : goal.first_apart-requires-clause-members
first_apart-requires-clause-members c =
    subst (λ (fs : List ℕ). AreMembers c.as_slice-2.result.now fs) (sym c.deref.ensures.value) (subst (λ (bs : List ℕ). AreMembers bs c.args.self.now.firsts.items) (sym c.as_slice-2.ensures) c.requires.pass.members)

pub first_apart-requires-clause-each : goal.first_apart-requires-clause-each
first_apart-requires-clause-each c =
    let long = trial_long c.args.nets.now c.args.graph.now c.requires.graph c.keeps.ensures.sound c.keeps-2.ensures.sound c.in_ok-made.ensures.0 c.in_ok-made.made.items c.in_ok-made.ensures.1 0 c.args.self.now c.requires.pass in
    let left = ap length c.deref-2.ensures.value in
    let right = ap length c.as_slice-2.ensures in
    omega (arith, long, left, right)

pub split_by-requires-clause-each : goal.split_by-requires-clause-each
split_by-requires-clause-each c =
    trial_long c.args.nets.now c.args.graph.now c.requires.graph c.keeps.ensures.sound c.keeps-2.ensures.sound c.in_ok-made.ensures.0 c.in_ok-made.made.items c.in_ok-made.ensures.1 0 c.args.self.now c.requires.pass

pub split_by-requires-clause-few : goal.split_by-requires-clause-few
split_by-requires-clause-few c = omega (arith, c.requires.pass.few)

pub returns : goal.returns
returns c =
    trial_splits c.args.nets.now c.args.graph.now c.requires.graph c.keeps.ensures.sound c.keeps-2.ensures.sound c.in_ok-made.ensures.0 c.in_ok-made.made.items c.in_ok-made.ensures.1 c.args.self.now c.split_by.new.self c.requires.pass
    c.deref.result.now c.as_slice-2.result.now c.deref-2.result.now c.in-Some._latch c.deref.ensures.value c.as_slice-2.ensures c.in-Some.ensures c.deref-2.ensures.value c.in_ok-split_by.ensures.split c.in_ok-split_by.ensures.members c.in_ok-split_by.ensures.marked
