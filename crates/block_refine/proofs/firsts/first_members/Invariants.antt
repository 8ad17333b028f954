use Rattle.block_refine.proofs.Members.{AreMembersTo}
use Rattle.block_refine.proofs.firsts.first_members.Given as goal

abbrev pub invariant-loop-j : goal.invariant-loop-j
invariant-loop-j l = AreMembersTo l.blocks l.j l.firsts.items
