-- The numbers of tokens, one after another.
use Rattle.std.proofs.Common.{◌≡◌, ℕ, ◌<◌, true, false, List, [], ◌∷◌, ◌++◌, length, take, drop, get_or, refl, sym, ◌∙◌, ap, arith, append_assoc, ◌-◌, length-drop, Option, Some, None}
use Rattle.std.specs.List.{position_or_len}
use Rattle.std.proofs.lemmas.List.{append-nil, take_all}
use Rattle.std.proofs.lemmas.List.Folds.{list_any_at}
use Rattle.std.proofs.lemmas.List.Sums.{position_or_len_is}
use Rattle.text_numbers.specs.declared.numbers.Number.{Number}
use Rattle.text_numbers.specs.Numbers.{with_first, all_spelled, behind, is_zero, has_zero}

-- one more behind others, where all that follow are there
one_more : {X : Type 0} (front : List X) (x : X) (rest : Option (List X)) → behind front (with_first (Some x) rest) ≡ behind (front ++ x ∷ []) rest
one_more front x None = refl
one_more front x (Some xs) = ap Some (sym (append_assoc front (x ∷ []) xs))

pub read_more : {X : Type 0} (f : List ℕ → Option X) (front new : List X) (left after : List (List ℕ)) (token : List ℕ) (x : X) → left ≡ token ∷ after → f token ≡ Some x → new ≡ front ++ x ∷ [] →
    behind front (all_spelled f left) ≡ behind new (all_spelled f after)
read_more f front new left after token x e is put =
    ap (λ ts. behind front (all_spelled f ts)) e
    ∙ (ap (λ o. behind front (with_first o (all_spelled f after))) is ∙ (one_more front x (all_spelled f after) ∙ ap (λ xs. behind xs (all_spelled f after)) (sym put)))

-- what isn't there is not there behind others
none_behind : {X : Type 0} (front : List X) (o : Option (List X)) → behind front o ≡ None → o ≡ None
none_behind front None e = refl
none_behind front (Some xs) e = absurd (let z : Some (front ++ xs) ≡ None = e in cc)

pub read_none : {X : Type 0} (f : List ℕ → Option X) (front so_far : List X) (start left after : List (List ℕ)) (token : List ℕ) → behind front (all_spelled f start) ≡ behind so_far (all_spelled f left) →
    left ≡ token ∷ after → f token ≡ None → all_spelled f start ≡ None
read_none f front so_far start left after token so e is =
    none_behind front (all_spelled f start) (so ∙ (ap (λ ts. behind so_far (all_spelled f ts)) e ∙ ap (λ o. behind so_far (with_first o (all_spelled f after))) is))

-- the first 0
pub zero_found : (numbers : List Number) (i : ℕ) (d : Number) → i < length numbers → ((k : ℕ) → k < i → is_zero (get_or numbers k d) ≡ false) → is_zero (get_or numbers i d) ≡ true → position_or_len is_zero numbers ≡ i
zero_found numbers i d h before here = position_or_len_is is_zero numbers i d (omega arith) before (λ _. here)

pub zero_there : (numbers : List Number) (i : ℕ) (d : Number) → i < length numbers → is_zero (get_or numbers i d) ≡ true → has_zero numbers ≡ true
zero_there numbers i d h here = list_any_at is_zero numbers i d h here

pub rest_after : (numbers : List Number) (n : ℕ) → take (length numbers - n) (drop n numbers) ≡ drop n numbers
rest_after numbers n = take_all (length numbers - n) (drop n numbers) (omega (arith, length-drop n numbers))
