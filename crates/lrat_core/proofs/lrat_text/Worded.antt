-- What the numbers of a line spell.
use Rattle.std.proofs.Common.{◌≡◌, ℕ, Bool, true, false, List, [], ◌∷◌, ◌++◌, Some, None, refl, sym, ◌∙◌, ap, ap₂, codes, bytes_eq}
use Rattle.std.specs.Prelude.{Option, if◌then◌else◌}
use Rattle.text_numbers.specs.declared.numbers.Number.{Number}
use Rattle.text_numbers.specs.Numbers.{number_of, numbers_of, with_first, behind}
use Rattle.lrat_core.specs.lrat_text.Spellings.{Malformed, addition_of, deletion_of, in_numbers, spelling_by}

-- one number before others
one_first : (id : Number) (others : Option (List Number)) → with_first (Some id) others ≡ behind (id ∷ []) others
one_first id None = refl
one_first id (Some ns) = refl

-- two numbers before others
two_first : (id next : Number) (others : Option (List Number)) → with_first (Some id) (with_first (Some next) others) ≡ behind (id ∷ next ∷ []) others
two_first id next None = refl
two_first id next (Some ns) = refl

-- the second token is no d
plain_line : (limit : ℕ) (tokens : List (List ℕ)) (first second : List ℕ) (rest : List (List ℕ)) (found : Option (List Number)) → tokens ≡ first ∷ second ∷ rest → bytes_eq second (codes "d") ≡ false →
    with_first (number_of first) (with_first (number_of second) (numbers_of rest)) ≡ found → spelling_by limit tokens ≡ in_numbers (addition_of limit) found
plain_line limit tokens first second rest found are other is =
    ap (spelling_by limit) are
    ∙ (ap (λ (b : Bool). if b then in_numbers deletion_of (numbers_of (first ∷ rest)) else in_numbers (addition_of limit) (numbers_of (first ∷ second ∷ rest))) other
    ∙ ap (in_numbers (addition_of limit)) is)

-- the second token is a d
d_line : (limit : ℕ) (tokens : List (List ℕ)) (first second : List ℕ) (rest : List (List ℕ)) (found : Option (List Number)) → tokens ≡ first ∷ second ∷ rest → bytes_eq second (codes "d") ≡ true →
    with_first (number_of first) (numbers_of rest) ≡ found → spelling_by limit tokens ≡ in_numbers deletion_of found
d_line limit tokens first second rest found are same is =
    ap (spelling_by limit) are
    ∙ (ap (λ (b : Bool). if b then in_numbers deletion_of (numbers_of (first ∷ rest)) else in_numbers (addition_of limit) (numbers_of (first ∷ second ∷ rest))) same
    ∙ ap (in_numbers deletion_of) is)

-- numbers alone
pub addition_words : (limit : ℕ) (tokens : List (List ℕ)) (first second : List ℕ) (rest : List (List ℕ)) (id next : Number) (none one two numbers : List Number) → tokens ≡ first ∷ second ∷ rest → bytes_eq second (codes "d") ≡ false →
    number_of first ≡ Some id → number_of second ≡ Some next → none ≡ [] → one ≡ none ++ id ∷ [] → two ≡ one ++ next ∷ [] → behind two (numbers_of rest) ≡ Some numbers → spelling_by limit tokens ≡ addition_of limit numbers
addition_words limit tokens first second rest id next none one two numbers are other is_id is_next empty put_one put_two read =
    let put : id ∷ next ∷ [] ≡ two = sym (put_two ∙ ap (λ (ns : List Number). ns ++ next ∷ []) (put_one ∙ ap (λ (ns : List Number). ns ++ id ∷ []) empty)) in
    plain_line limit tokens first second rest (Some numbers) are other (ap₂ (λ x y. with_first x (with_first y (numbers_of rest))) is_id is_next ∙ (two_first id next (numbers_of rest) ∙ (ap (λ (ns : List Number). behind ns (numbers_of rest)) put ∙ read)))

-- a later token is no number
pub no_addition_words : (limit : ℕ) (tokens : List (List ℕ)) (first second : List ℕ) (rest : List (List ℕ)) (id next : Number) → tokens ≡ first ∷ second ∷ rest → bytes_eq second (codes "d") ≡ false →
    number_of first ≡ Some id → number_of second ≡ Some next → numbers_of rest ≡ None → spelling_by limit tokens ≡ Malformed
no_addition_words limit tokens first second rest id next are other is_id is_next none =
    plain_line limit tokens first second rest None are other (ap₂ (λ x y. with_first x (with_first y (numbers_of rest))) is_id is_next ∙ ap (λ o. with_first (Some id) (with_first (Some next) o)) none)

-- the second token is no number
pub no_second_word : (limit : ℕ) (tokens : List (List ℕ)) (first second : List ℕ) (rest : List (List ℕ)) (id : Number) → tokens ≡ first ∷ second ∷ rest → bytes_eq second (codes "d") ≡ false →
    number_of first ≡ Some id → number_of second ≡ None → spelling_by limit tokens ≡ Malformed
no_second_word limit tokens first second rest id are other is_id none =
    plain_line limit tokens first second rest None are other (ap₂ (λ x y. with_first x (with_first y (numbers_of rest))) is_id none)

-- a number, d, and numbers
pub deletion_words : (limit : ℕ) (tokens : List (List ℕ)) (first second : List ℕ) (rest : List (List ℕ)) (id : Number) (none one numbers : List Number) → tokens ≡ first ∷ second ∷ rest → bytes_eq second (codes "d") ≡ true →
    number_of first ≡ Some id → none ≡ [] → one ≡ none ++ id ∷ [] → behind one (numbers_of rest) ≡ Some numbers → spelling_by limit tokens ≡ deletion_of numbers
deletion_words limit tokens first second rest id none one numbers are same is_id empty put_one read =
    let put : id ∷ [] ≡ one = sym (put_one ∙ ap (λ (ns : List Number). ns ++ id ∷ []) empty) in
    d_line limit tokens first second rest (Some numbers) are same (ap (λ x. with_first x (numbers_of rest)) is_id ∙ (one_first id (numbers_of rest) ∙ (ap (λ (ns : List Number). behind ns (numbers_of rest)) put ∙ read)))

-- a token behind d is no number
pub no_deletion_words : (limit : ℕ) (tokens : List (List ℕ)) (first second : List ℕ) (rest : List (List ℕ)) (id : Number) → tokens ≡ first ∷ second ∷ rest → bytes_eq second (codes "d") ≡ true →
    number_of first ≡ Some id → numbers_of rest ≡ None → spelling_by limit tokens ≡ Malformed
no_deletion_words limit tokens first second rest id are same is_id none =
    d_line limit tokens first second rest None are same (ap (λ x. with_first x (numbers_of rest)) is_id ∙ ap (with_first (Some id)) none)
