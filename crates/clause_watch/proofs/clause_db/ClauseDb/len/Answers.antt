use Rattle.std.proofs.Common.{List, length, ap, arith}
use Rattle.clause_base.specs.Literals.{Literal}
use Rattle.clause_watch.proofs.Pieces.{pieces_length}
use Rattle.clause_watch.proofs.clause_db.ClauseDb.len.Goals as goal

pub returns : goal.returns
returns c =
    omega (arith, c.len.ensures, c.self.inside.starts.ok.0, pieces_length c.self.inside.literals.items c.self.inside.starts.items c.self.invariant.cut, ap (λ (x : List (List Literal)). length x) c.self.view_is)
