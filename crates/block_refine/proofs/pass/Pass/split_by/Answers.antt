-- A split, and the first members of its blocks.
use Rattle.std.proofs.Common.{ℕ, Bool, List, length, sym, ap, subst, arith}
use Rattle.block_refine.specs.latch_blocks.Blocks.{AreInOrder, IsSplit}
use Rattle.block_refine.specs.Passes.{AreMembers}
use Rattle.block_refine.proofs.pass.Pass.split_by.Goals as goal

pub split_blocks-requires-clause-each : goal.split_blocks-requires-clause-each
split_blocks-requires-clause-each c = let one = ap length c.as_slice.ensures in let other = ap length c.deref.ensures.value in omega (arith, c.requires.each, one, other)

pub split_blocks-requires-clause-few : goal.split_blocks-requires-clause-few
split_blocks-requires-clause-few c = let one = ap length c.as_slice.ensures in omega (arith, c.requires.few, one)

pub first_members-requires : goal.first_members-requires
first_members-requires c = subst AreInOrder (sym c.as_slice-2.ensures) c.in_ok-fine.ensures.in_order

pub returns-clause-split : goal.returns-clause-split
returns-clause-split c =
    subst (λ (bs : List ℕ). IsSplit bs c.args.bits.items c.in_ok-fine.fine) c.as_slice.ensures (subst (λ (bits : List Bool). IsSplit c.as_slice.result.now bits c.in_ok-fine.fine) c.deref.ensures.value c.in_ok-fine.ensures)

pub returns-clause-members : goal.returns-clause-members
returns-clause-members c = subst (λ (bs : List ℕ). AreMembers bs c.in_ok-firsts.firsts.items) c.as_slice-2.ensures c.in_ok-firsts.ensures
