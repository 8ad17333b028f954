-- The next list, or one that is there.
use Rattle.std.proofs.Common.{◌∙◌, [], ◌∷◌, ◌++◌, List, Vec, Global, slice_set, refl, ap, arith}
use Rattle.sec_base.specs.declared.basics.Tag.{Tag}
use Rattle.induct.proofs.Putting.{put_next, put_within}
use Rattle.induct.proofs.members.put_member.Goals as goal

abbrev tags : Vec Tag Global → List Tag
tags v = v.items

pub returns-then-block-len : goal.returns-then-block-len
returns-then-block-len c =
    put_next tags c.args.lists.now.items c.push-then-block-len.new.self.items c.push.new.self c.args.block c.args.tag
    (omega (arith, c.if-block-len.true, c.len.ensures, c.args.lists.now.ok.0)) c.in_ok-push-2.ensures.items
    (c.in_ok-push.ensures.items ∙ ap (λ (ts : List Tag). ts ++ c.args.tag ∷ []) c.new-list.ensures.items)

pub returns : goal.returns
returns c =
    let old = c.args.lists.now.items in
    let list = c.push-2.new.self in
    put_within tags old (slice_set old c.args.block list) list c.args.block c.args.tag c.index_mut-list.result.now
    (omega (arith, c.if-block-len.false, c.len.ensures, c.args.lists.now.ok.0, c.requires)) refl
    (c.in_ok-push-3.ensures.items ∙ ap (λ (v : Vec Tag Global). v.items ++ c.args.tag ∷ []) c.index_mut-list.ensures.value)
