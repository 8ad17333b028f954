-- One latch more.
use Rattle.std.proofs.Common.{sym, subst, arith}
use Rattle.block_refine.proofs.Members.{AreMembersTo, members_none, members_more, members_all}
use Rattle.block_refine.proofs.firsts.first_members.Goals as goal

pub loop-j-init : goal.loop-j-init
loop-j-init c = subst (AreMembersTo c.args.blocks.now 0) (sym c.new-firsts.ensures.items) (members_none c.args.blocks.now)

pub loop-j-preserved : goal.loop-j-preserved
loop-j-preserved c = members_more c.args.blocks.now c.requires c.loop-j.j c.loop-j-test.true c.loop-j.firsts.items c.put_member.new.firsts.items c.loop-j.invariant c.in_ok-put_member.ensures

pub returns : goal.returns
returns c = members_all c.args.blocks.now c.loop-j.j c.loop-j.firsts.items (omega (arith, c.loop-j-test.false, c.loop-j.auto.j-end)) c.loop-j.invariant
