use Rattle.std.proofs.Common.{◌≡◌, Vec, Global, map}
use Rattle.sec_base.specs.declared.basics.Tag.{Tag}
use Rattle.induct.proofs.members.listed.Given as goal

abbrev pub invariant-loop-list : goal.invariant-loop-list
invariant-loop-list l = l.blocks ≡ map (λ (v : Vec Tag Global). v.items) l.yielded
