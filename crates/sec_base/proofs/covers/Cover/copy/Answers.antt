-- The copy has the same rows.
use Rattle.std.proofs.Common.{ℕ, List, sym, subst}
use Rattle.sec_base.specs.Cover.{IsCoverSound}
use Rattle.sec_base.proofs.covers.Cover.copy.Goals as goal

pub invariant_of-result : goal.invariant_of-result
invariant_of-result c =
    subst (λ (rows : List (List ℕ)). IsCoverSound (record { width = c.self.inside.width; rows = rows; on = c.self.inside.on })) (sym c.in_ok-copy.ensures) c.self.invariant
