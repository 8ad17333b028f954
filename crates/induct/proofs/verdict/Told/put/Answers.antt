-- One output more, by its answer.
use Rattle.std.proofs.Common.{◌∙◌, refl, sym}
use Rattle.induct.specs.declared.block_outputs.answer.OutputAnswer.TheVariants as answer
use Rattle.induct.proofs.Telling.{or_none, told_by}
use Rattle.induct.proofs.verdict.Told.put.Goals as goal

pub returns-in-Equal : goal.returns-in-Equal
returns-in-Equal c =
    let old = c.args.self.now in
    told_by c.args.pair answer.Equal c.in-Equal.is old old c.push.new.self c.push.result refl (sym (or_none old.limit)) (sym (or_none old.shown))
    c.push.ensures.pairs c.push.ensures.limit c.push.ensures.shown

pub returns-in_ok-put_limit-in-Limit : goal.returns-in_ok-put_limit-in-Limit
returns-in_ok-put_limit-in-Limit c =
    let old = c.args.self.now in
    told_by c.args.pair (answer.Limit c.in-Limit.proof) c.in-Limit.is old c.put_limit.new.self c.push-in-Limit.new.self c.push-in-Limit.result c.in_ok-put_limit-in-Limit.ensures.pairs c.in_ok-put_limit-in-Limit.ensures.limit (c.in_ok-put_limit-in-Limit.ensures.shown ∙ sym (or_none old.shown))
    c.push-in-Limit.ensures.pairs c.push-in-Limit.ensures.limit c.push-in-Limit.ensures.shown

pub returns-in_ok-put_shown-in-NotShown : goal.returns-in_ok-put_shown-in-NotShown
returns-in_ok-put_shown-in-NotShown c =
    let old = c.args.self.now in
    told_by c.args.pair (answer.NotShown c.in-NotShown.shown) c.in-NotShown.is old c.put_shown.new.self c.push-in-NotShown.new.self c.push-in-NotShown.result c.in_ok-put_shown-in-NotShown.ensures.pairs (c.in_ok-put_shown-in-NotShown.ensures.limit ∙ sym (or_none old.limit)) c.in_ok-put_shown-in-NotShown.ensures.shown
    c.push-in-NotShown.ensures.pairs c.push-in-NotShown.ensures.limit c.push-in-NotShown.ensures.shown
