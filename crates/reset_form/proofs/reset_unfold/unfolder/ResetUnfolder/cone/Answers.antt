-- Nothing has been unfolded of the cone.
use Rattle.std.proofs.Common.{sym, subst}
use Rattle.reset_form.specs.reset_unfold.Cone.{IsCone}
use Rattle.reset_form.proofs.reset_unfold.CycleLeaves.{cone_first}
use Rattle.reset_form.proofs.reset_unfold.unfolder.ResetUnfolder.cone.Goals as goal

pub returns-clause-cone : goal.returns-clause-cone
returns-clause-cone c =
    let u = c.args.self.now in
    subst (IsCone u.net u.order u.base) (sym c.new.ensures) (cone_first u.net u.order u.base c.args.s.0 c.args.last c.in_ok-visited.visited.items c.requires.signal c.in_ok-visited.ensures.reach)
