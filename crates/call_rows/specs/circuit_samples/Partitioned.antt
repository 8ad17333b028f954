-- Two circuits whose latches all start with 0, and the partition of their latches that is the coarsest inductive one.
use Rattle.std.specs.Prelude.{◌≡◌, ◌<◌, ◌==◌, ℕ, Bool, true, false, if◌then◌else◌, List, [], ◌∷◌, codes}
use Rattle.circuit_theory.specs.Cover.{Cover}
use Rattle.circuit_theory.specs.Circuit.{Circuit, Gate, Latch, Meets}
use Rattle.circuit_theory.specs.Tree.{Leaf, Branch, Nil, Cons}
use Rattle.circuit_theory.specs.Cone.{AnInput}
use Rattle.circuit_theory.specs.Query.{IsSame}
use Rattle.circuit_theory.specs.Joined.{Either, Left, Right, joined}
use Rattle.circuit_theory.specs.Blocks.{IsConstantOn}
use Rattle.circuit_laws.specs.reset_laws.Reset.{AreAlikeFromReset}
use Rattle.circuit_laws.specs.reset_laws.induct_laws.Partitions.{IsSplitBy}
use Rattle.circuit_laws.specs.reset_laws.induct_laws.Queries.{BlockUnfolds, block_query}

abbrev pub complement : Cover
complement = record { width = 1; rows = codes "0" ∷ []; on = true }

-- 0 a; 1 p and 2 q, which take it over; 3 r, which takes over its complement 4; all three start with 0
abbrev pub three_latches : Circuit ℕ
three_latches = record {
  inputs = record { name = codes "a"; place = 0 } ∷ [];
  outputs = record { name = codes "y"; place = 2 } ∷ [];
  equations = Gate 4 (0 ∷ []) complement ∷ Latch (codes "p") 1 0 ∷ Latch (codes "q") 2 0 ∷ Latch (codes "r") 3 4 ∷ [];
  starts = record { place = 1; bit = false } ∷ record { place = 2; bit = false } ∷ record { place = 3; bit = false } ∷ [];
}

-- 0 a; 1 s, which takes it over and starts with 0
abbrev pub one_latch : Circuit ℕ
one_latch = record {
  inputs = record { name = codes "a"; place = 0 } ∷ [];
  outputs = record { name = codes "y"; place = 1 } ∷ [];
  equations = Latch (codes "s") 1 0 ∷ [];
  starts = record { place = 1; bit = false } ∷ [];
}

abbrev pub all_latches : Circuit (Either ℕ ℕ)
all_latches = joined three_latches one_latch

-- the numbers of a on both sides
abbrev pub a_number : List ℕ
a_number = 0 ∷ 0 ∷ []

-- by initial values all latches are one block
abbrev pub first_block : Either ℕ ℕ → ℕ
first_block u = 0

-- r is a block of its own
abbrev pub last_block : Either ℕ ℕ → ℕ
last_block (Left p) = if p == 3 then 1 else 0
last_block (Right q) = 0

-- values that tell r from the others: a is 1, all latches are 0
abbrev pub telling : Either ℕ ℕ → Bool
telling (Left p) = p == 0
telling (Right q) = q == 0

-- they meet the equations, are one on the block, and split it
pub record TellApart : Type 0 where
  pub meets : Meets all_latches telling
  pub constant : IsConstantOn all_latches a_number first_block telling
  pub split : IsSplitBy all_latches first_block telling last_block

-- two reset runs with equal inputs, in which p and s are equal
pub record HasEqualLatches : Type 0 where
  pub left : ℕ → ℕ → Bool
  pub right : ℕ → ℕ → Bool
  pub alike : AreAlikeFromReset three_latches one_latch 3 left right
  pub equal : (t : ℕ) → t < 3 → left t 1 ≡ right t 1

-- what r takes over, and what s takes over, differ for some values that are constant on the blocks
pub record HasQueries : Type 0 where
  pub left : BlockUnfolds all_latches a_number last_block (Left 4) (Branch complement (Cons (Leaf 0 AnInput) Nil))
  pub right : BlockUnfolds all_latches a_number last_block (Right 0) (Leaf 0 AnInput)
  pub other : BlockUnfolds all_latches a_number last_block (Left 0) (Leaf 0 AnInput)
  pub same : IsSame (block_query (Leaf 0 AnInput) (Leaf 0 AnInput))
  pub not_same : IsSame (block_query (Branch complement (Cons (Leaf 0 AnInput) Nil)) (Leaf 0 AnInput)) → ⊥
