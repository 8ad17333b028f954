-- The literals of queries as the roots of a sweep, three for each query.
use Rattle.std.specs.Prelude.{◌≡◌, ℕ, ◌+◌, ◌*◌, List, [], ◌∷◌, ◌++◌, Some, slice_get}
use Rattle.swept_queries.specs.sweep.aig.Lit.{Lit}
use Rattle.swept_queries.specs.declared.sides.Sides.{Sides}
use Rattle.swept_queries.specs.declared.sides.Known.{Known}
use Rattle.swept_queries.specs.declared.sides.Known.TheVariants.{Nothing, Swept, Apart}

abbrev pub zero_lit : Lit
zero_lit = record { 0 = 0 }

-- both sides and the care, and of a query that isn't swept the literal 0 three times
abbrev pub three : Known → List Lit
three Nothing = zero_lit ∷ zero_lit ∷ zero_lit ∷ []
three (Swept t) = t.left ∷ t.right ∷ t.care ∷ []
three (Apart k) = zero_lit ∷ zero_lit ∷ zero_lit ∷ []

-- those of each
abbrev pub roots_for : List Known → List Lit
roots_for [] = []
roots_for (known ∷ rest) = three known ++ roots_for rest

-- these are the literals of the three places
pub record HasThree (lits : List Lit) (i : ℕ) (t : Sides) : Type 0 where
  pub left : slice_get lits (3 * i) ≡ Some t.left
  pub right : slice_get lits (3 * i + 1) ≡ Some t.right
  pub care : slice_get lits (3 * i + 2) ≡ Some t.care

-- a query that is swept has these literals, and all else stays
abbrev pub IsMoved : Known → Sides → Known → Type 0
IsMoved Nothing u new = new ≡ Nothing
IsMoved (Swept t) u new = new ≡ Swept u
IsMoved (Apart k) u new = new ≡ Apart k

-- each of these stands for the one at its place, with the literals of its three places
abbrev pub AreMade : List Known → List Lit → List Known → Type 0
AreMade asked lits made = (i : ℕ) (new : Known) → slice_get made i ≡ Some new → (old : Known) × (u : Sides) × (slice_get asked i ≡ Some old) × HasThree lits i u × IsMoved old u new
