use Rattle.std.proofs.Common.{None, arith, sym, inl}
use Rattle.clause_base.proofs.Merges.{both_taken, level_of, agree_of, clash_of}
use Rattle.clause_base.proofs.merge.turn_both.Goals as goal

pub returns-then-clashes : goal.returns-then-clashes
returns-then-clashes c =
    let l = c.index-left-i in
    let r = c.index-right-j in
    let left = c.args.left.now in
    let right = c.args.right.now in
    let both = c.requires.both in
    let level = level_of left right c.args.at.now.left c.args.at.now.right l.result r.result (sym l.is) (sym r.is) both.2 in
    let clash = clash_of left right c.args.at.now.left c.args.at.now.right l.result r.result both.0 (sym l.is) both.1 (sym r.is) level (c.clashes.ensures.0 c.if-clashes.true) in
    (l.result, clash.0, clash.1)

pub returns : goal.returns
returns c =
    let l = c.index-left-i in
    let r = c.index-right-j in
    let both = c.requires.both in
    let level = level_of c.args.left.now c.args.right.now c.args.at.now.left c.args.at.now.right l.result r.result (sym l.is) (sym r.is) both.2 in (
      both_taken _ _ _ _ _ _ _ l.result r.result c.requires.left c.requires.right c.requires.merged both.0 (sym l.is) both.1 (sym r.is) level
          (agree_of None l.result r.result c.clashes.result c.if-clashes.false (λ e. (tt, c.clashes.ensures.0 e), λ w. c.clashes.ensures.1 w.1) level) (inl (tt, c.in_ok-push.ensures.items)),
      omega arith,
    )
