-- Whole numbers as tokens spell them.
use Rattle.std.specs.Prelude.{◌≡◌, ℕ, zero, suc, ◌+◌, ◌-◌, ◌*◌, ◌==◌, ◌&&◌, nat_le, Bool, true, false, not, if◌then◌else◌, List, [], ◌∷◌, ◌++◌, drop, Option, Some, None, option_map, codes, refl}
use Rattle.std.specs.Str.{all_ascii_digits}
use Rattle.std.specs.List.{list_any}
use Rattle.text_numbers.specs.Lines.{is_empty, begins_with}
use Rattle.text_numbers.specs.declared.numbers.TheConstants.{MAX_SIZE}
use Rattle.text_numbers.specs.declared.numbers.Number.{Number}

-- the number of these decimal digits behind a number
abbrev pub value_after : ℕ → List ℕ → ℕ
value_after n [] = n
value_after n (digit ∷ digits) = value_after (10 * n + (digit - 48)) digits

-- the number of decimal digits
abbrev pub digits_value : List ℕ → ℕ
digits_value digits = value_after 0 digits

-- some decimal digits, of a number that isn't too great
abbrev pub is_size : List ℕ → Bool
is_size digits = not (is_empty digits) && (all_ascii_digits digits && nat_le (digits_value digits) MAX_SIZE)

abbrev pub size_of : List ℕ → Option ℕ
size_of digits = if is_size digits then Some (digits_value digits) else None

-- the number below 0 of this size
abbrev pub negative : Option ℕ → Option Number
negative None = None
negative (Some zero) = None
negative (Some (suc n)) = Some (record { size = suc n; is_negative = true })

abbrev pub positive : ℕ → Number
positive n = record { size = n; is_negative = false }

-- the number of a token, or none: a `-` stands before a negative one
abbrev pub number_of : List ℕ → Option Number
number_of token = if begins_with 45 token then negative (size_of (drop 1 token)) else option_map positive (size_of token)

-- one before others, where all are there
abbrev pub with_first : {X : Type 0} → Option X → Option (List X) → Option (List X)
with_first None others = None
with_first (Some x) None = None
with_first (Some x) (Some xs) = Some (x ∷ xs)

-- what all tokens spell, or none where a token spells nothing
abbrev pub all_spelled : {X : Type 0} → (List ℕ → Option X) → List (List ℕ) → Option (List X)
all_spelled spelled [] = Some []
all_spelled spelled (token ∷ tokens) = with_first (spelled token) (all_spelled spelled tokens)

-- the numbers of all tokens
abbrev pub numbers_of : List (List ℕ) → Option (List Number)
numbers_of tokens = all_spelled number_of tokens

abbrev pub is_zero : Number → Bool
is_zero n = n.size == 0

abbrev pub has_zero : List Number → Bool
has_zero numbers = list_any is_zero numbers

-- these before others, where those are there
abbrev pub behind : {X : Type 0} → List X → Option (List X) → Option (List X)
behind front others = option_map (λ more. front ++ more) others

-- what all tokens spell was put behind others, or some token spells nothing
abbrev pub IsRead : {X : Type 0} → Option (List X) → Bool → List X → List X → Type 0
IsRead spelled true old new = behind old spelled ≡ Some new
IsRead spelled false old new = spelled ≡ None

-- leading zeros have no effect
zeros_example : number_of (codes "-007") ≡ Some (record { size = 7; is_negative = true })
zeros_example = refl

minus_zero_example : number_of (codes "-0") ≡ None
minus_zero_example = refl

plus_example : number_of (codes "+1") ≡ None
plus_example = refl

greatest_example : number_of (codes "9223372036854775807") ≡ Some (positive 9223372036854775807)
greatest_example = refl

too_great_example : number_of (codes "-9223372036854775808") ≡ None
too_great_example = refl
