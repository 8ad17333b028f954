-- Words of literals as numbers, and sums of literals with coefficients, modulo 2^64. A function tells each literal's bit.
use Rattle.std.specs.Prelude.{◌≡◌, ℕ, suc, ◌+◌, ◌*◌, ◌^◌, Bool, true, false, List, [], ◌∷◌}
use Rattle.aig.specs.declared.node.Lit.{Lit}
use Rattle.aig.specs.declared.node.Node.{Node}
use Rattle.aig.specs.Values.{value}
use Rattle.word_sums.specs.declared.vanishing.Term.{Term}

-- a bit as a number
abbrev pub bit_number : Bool → ℕ
bit_number false = 0
bit_number true = 1

-- the number that these bits spell, the lowest first
abbrev pub word_number : List Bool → ℕ
word_number [] = 0
word_number (b ∷ bs) = bit_number b + 2 * word_number bs

-- the bits of a word of literals
abbrev pub word_bits : (ℕ → Bool) → List Lit → List Bool
word_bits f [] = []
word_bits f (x ∷ xs) = f x.0 ∷ word_bits f xs

-- what these terms come to: each coefficient times its literal's bit
abbrev pub terms_number : (ℕ → Bool) → List Term → ℕ
terms_number f [] = 0
terms_number f (t ∷ ts) = t.coefficient * bit_number (f t.lit.0) + terms_number f ts

-- the same of a list of coefficients, the first that of the literal x, the next that of the next literal
abbrev pub sum_number : (ℕ → Bool) → ℕ → List ℕ → ℕ
sum_number f x [] = 0
sum_number f x (c ∷ cs) = c * bit_number (f x) + sum_number f (suc x) cs

-- the two numbers are one modulo 2^64
pub record AreCongruent (x y : ℕ) : Type 0 where
  pub left : ℕ
  pub right : ℕ
  pub same : x + left * 2 ^ 64 ≡ y + right * 2 ^ 64

-- under every assignment both lists of coefficients come to one number modulo 2^64
abbrev pub KeepsSum : List Node → List ℕ → List ℕ → Type 0
KeepsSum g old new = (a : ℕ → Bool) → AreCongruent (sum_number (value g a) 0 new) (sum_number (value g a) 0 old)
