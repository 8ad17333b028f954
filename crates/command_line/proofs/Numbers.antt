-- A number that is read as `clap` reads it.
use Rattle.std.proofs.Common.{◌≡◌, ℕ, Bool, true, false, List, Option, Some, None, IfSome, IfNone, refl, ap, sym}
use Rattle.std.specs.Str.Parse.{digits_value, without_leading_plus}
use Rattle.clap.specs.Words.{IsUnsignedIn}
use Rattle.clap.specs.ValueTests.{accepts}
use Rattle.clap.specs.declared.builder.value_parser.ValueParser.TheVariants as parser
use Rattle.clap.proofs.ValueTestLemmas.{accepts-Accepts, Accepts-accepts}
use Rattle.command_line.specs.Jobs.{number_of}

pub number_is : (low high : ℕ) (word : List ℕ) (read : Option ℕ) →
    IfSome read (λ n. IsUnsignedIn low high word × (digits_value 10 (without_leading_plus word) ≡ n)) →
    IfNone read (IsUnsignedIn low high word → ⊥) → read ≡ number_of (parser.Unsigned low high) word
number_is low high word (Some n) some none = rw (Accepts-accepts false (parser.Unsigned low high) word some.0) (ap Some (sym some.1))
number_is low high word None some none = go (accepts false (parser.Unsigned low high) word) refl
  where
    go : (b : Bool) → accepts false (parser.Unsigned low high) word ≡ b → None ≡ number_of (parser.Unsigned low high) word
    go true e = absurd (none (accepts-Accepts false (parser.Unsigned low high) word e))
    go false e = rw e refl
