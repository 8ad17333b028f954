-- Cuts of a graph, and the bits that their leaves have.
use Rattle.std.specs.Prelude.{◌≡◌, ℕ, ◌*◌, ◌<◌, Bool, List, All}
use Rattle.aig.specs.declared.node.Node.{Node}
use Rattle.aig.specs.Values.{value}
use Rattle.word_sums.specs.declared.cuts.Cut.{Cut}
use Rattle.word_sums.specs.declared.cuts.Row.{Row}
use Rattle.word_sums.specs.declared.vanishing.Term.{Term}
use Rattle.word_sums.specs.Sums.{terms_number, AreCongruent}

-- under the assignment the leaves of the cut have the bits of the row
pub record IsAtRow (g : List Node) (a : ℕ → Bool) (cut : Cut) (row : Row) : Type 0 where
  pub first : value g a (2 * cut.first) ≡ row.first
  pub second : value g a (2 * cut.second) ≡ row.second
  pub third : value g a (2 * cut.third) ≡ row.third

-- each term's literal is below the number
abbrev pub AreBelow : List Term → ℕ → Type 0
AreBelow terms n = All (λ t. t.lit.0 < n) terms

-- the terms come to 0 modulo 2^64 under the assignment
abbrev pub VanishAt : List Node → (ℕ → Bool) → List Term → Type 0
VanishAt g a terms = AreCongruent (terms_number (value g a) terms) 0

-- under every assignment
abbrev pub Vanish : List Node → List Term → Type 0
Vanish g terms = (a : ℕ → Bool) → VanishAt g a terms
