-- What is answered of a text.
use Rattle.std.specs.Prelude.{◌≡◌, Result, Ok, Err}
use Rattle.text_numbers.specs.declared.kinds.TextError.{TextError}
use Rattle.text_numbers.specs.declared.kinds.TextError.TheVariants.{At, NoMemory}

-- what is wanted is answered, save at want of memory
abbrev pub IsGiven : {X : Type 0} → Result X TextError → Result X TextError → Type 0
IsGiven wanted (Ok x) = wanted ≡ Ok x
IsGiven wanted (Err (At line kind)) = wanted ≡ Err (At line kind)
IsGiven wanted (Err NoMemory) = Unit {0}
