-- The partition of the nets, of which no block is split.
use Rattle.std.proofs.Common.{◌≡◌, ◌∙◌, false, refl, rules}
use Rattle.block_refine.proofs.Passing.{pass_begins}
use Rattle.block_refine.proofs.pass.Pass.new.Goals as goal

pub first_members-requires : goal.first_members-requires
first_members-requires c = c.requires.ready.in_order

pub returns : goal.returns
returns c =
    let same : c.in_ok-blocks.blocks.items ≡ c.args.nets.now.blocks.now = search rules in
    pass_begins c.args.nets.now c.keeps.ensures.sound c.keeps-2.ensures.sound (record { blocks = c.from_vec.result; firsts = c.in_ok-firsts.firsts; split = false }) c.requires (c.from_vec.ensures ∙ same) c.in_ok-firsts.ensures refl
