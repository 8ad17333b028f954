-- One latch more.
use Rattle.std.proofs.Common.{◌≡◌, ℕ, List, [], Vec, Global, map, sym, subst, arith}
use Rattle.std.proofs.lemmas.List.{length-map, take_all}
use Rattle.std.proofs.lemmas.Result.{IfOk-weaker}
use Rattle.sec_base.specs.declared.basics.Tag.{Tag}
use Rattle.induct.specs.Inductions.{AreMembers}
use Rattle.induct.proofs.Listing.{AreListed, listed_none, block_within, listed_next, members_all}
use Rattle.induct.proofs.members.members.Goals as goal

abbrev tags : Vec Tag Global → List Tag
tags v = v.items

pub loop-place-init : goal.loop-place-init
loop-place-init c = subst (λ (ls : List (Vec Tag Global)). AreListed c.args.count [] (map tags ls)) (sym c.new-lists.ensures.items) (listed_none c.args.count)

pub put_member-requires : goal.put_member-requires
put_member-requires c =
    let w = block_within c.args.count c.args.blocks.now c.loop-place.place (map tags c.loop-place.lists.items) c.requires.order c.loop-place-test.true c.loop-place.invariant in
    omega (arith, w, length-map c.loop-place.lists.items tags)

pub loop-place-preserved : goal.loop-place-preserved
loop-place-preserved c = listed_next c.args.count c.args.blocks.now c.loop-place.place (map tags c.loop-place.lists.items) c.requires.order c.loop-place-test.true c.loop-place.invariant c.tag_at.result (map tags c.put_member.new.lists.items) c.tag_at.ensures c.in_ok-put_member.ensures

pub returns : goal.returns
returns c =
    let made = map tags c.loop-place.lists.items in
    let so = subst (λ (bs : List ℕ). AreListed c.args.count bs made) (take_all c.loop-place.place c.args.blocks.now c.loop-place-test.false) c.loop-place.invariant in
    IfOk-weaker c.listed.result (λ (ls : List (List Tag)). ls ≡ made) (AreMembers c.args.count c.args.blocks.now)
    (λ (ls : List (List Tag)) e. subst (AreMembers c.args.count c.args.blocks.now) (sym e) (members_all c.args.count c.args.blocks.now made so)) c.listed.ensures
