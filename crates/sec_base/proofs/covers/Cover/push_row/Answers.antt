-- The rows with one more.
use Rattle.std.proofs.Common.{sym, subst}
use Rattle.circuit_theory.specs.Cover.{Cover}
use Rattle.sec_base.specs.Cover.{IsCube}
use Rattle.sec_base.proofs.Pushed.{cover-push}
use Rattle.sec_base.proofs.covers.Cover.push_row.Goals as goal

pub invariant_of-self : goal.invariant_of-self
invariant_of-self c =
    cover-push c.push.result c.self.inside.width c.self.inside.rows c.push.new.self c.self.inside.on c.args.row c.push.ensures.ok c.push.ensures.err
    (subst (λ (v : Cover). IsCube v.width c.args.row) (sym c.self.view_is) c.requires) c.self.invariant
