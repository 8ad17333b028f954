-- What is told of the nets, which are as they were.
use Rattle.std.proofs.Common.{◌≡◌, ◌∙◌, length, ap₂}
use Rattle.flat_net.specs.View.{NetView}
use Rattle.job_after_under.specs.Report.{behind_text}
use Rattle.job_after_under.proofs.Meeting.{goes_on_meeting, shown_under}
use Rattle.job_after_under.proofs.judging.judged_search.Goals as goal

pub shown_of-requires-clause-can : goal.shown_of-requires-clause-can
shown_of-requires-clause-can c = (c.requires.assumed, c.requires.limits.0, c.requires.limits.1)

pub shown_of-requires-clause-searched : goal.shown_of-requires-clause-searched
shown_of-requires-clause-searched c =
    let start = c.args.start.now in
    goes_on_meeting c.args.a.now c.args.b.now c.args.c.now start.cycles start.conflicts c.args.searched c.requires.searched c.requires.right.distinct

pub returns : goal.returns
returns c =
    let start = c.args.start.now in
    record {
      shown = c.in_ok-shown.shown;
      is_shown = shown_under c.args.a.now c.args.b.now c.args.c.now start.stimulus.now.names start.stimulus.now.rows c.in_ok-shown.shown c.in_ok-shown.ensures.shown;
      judgement_is = c.judgement_of-judgement.ensures;
      proofs_are = c.in_ok-proofs.ensures;
      text_is = c.in_ok-text.ensures
          ∙ ap₂ (λ (n m : NetView). behind_text n m c.args.name.now start.cycles start.conflicts (length start.stimulus.now.rows) start.left.now start.right.now c.in_ok-shown.shown c.args.searched) c.in_ok-shown.ensures.same.0
          c.in_ok-shown.ensures.same.1;
    }
