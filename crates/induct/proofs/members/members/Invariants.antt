use Rattle.std.proofs.Common.{Vec, Global, map, take}
use Rattle.sec_base.specs.declared.basics.Tag.{Tag}
use Rattle.induct.proofs.Listing.{AreListed}
use Rattle.induct.proofs.members.members.Given as goal

abbrev pub invariant-loop-place : goal.invariant-loop-place
invariant-loop-place l = AreListed l.count (take l.place l.blocks) (map (λ (v : Vec Tag Global). v.items) l.lists.items)
