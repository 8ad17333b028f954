use Rattle.std.proofs.Common.{List, subst, sym}
use Rattle.clause_base.specs.Literals.{Literal}
use Rattle.clause_watch.specs.Range.{InRange}
use Rattle.clause_watch.proofs.Loading.{loading_start}
use Rattle.clause_watch.proofs.propagation.Watches.new.Goals as goal

pub returns-clause-loading : goal.returns-clause-loading
returns-clause-loading c =
    let w = c.in_ok-new.field-0 in
    loading_start w.known w.pairs w.rows c.args.variables (subst (λ (cs : List (List Literal)). InRange c.args.variables cs) (sym c.in_ok-new.ensures.known) c.requires.range) c.in_ok-new.ensures.sized c.in_ok-new.ensures.kept.all
