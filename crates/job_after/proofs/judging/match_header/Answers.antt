-- The first name that a latch alone has.
use Rattle.std.proofs.Common.{◌≡◌, ◌∙◌, ℕ, List, [], ◌∷◌, slice_get, sym, ap, inr, Some}
use Rattle.job_after.proofs.judging.match_header.Goals as goal

first : (names : List (List ℕ)) (name : List ℕ) → slice_get names 0 ≡ Some name → (rest : List (List ℕ)) × (names ≡ name ∷ rest)
first [] name is = absurd (cc)
first (x ∷ rest) name is = (rest, ap (λ (n : List ℕ). n ∷ rest) (let e : x ≡ name = cc in e))

pub returns-then-len-gt0 : goal.returns-then-len-gt0
returns-then-len-gt0 c =
    let f = first c.in_ok-opened.opened c.name.result.now c.name.ensures in
    inr (f.0, c.in_ok-opened.ensures.0, sym c.in_ok-opened.ensures.1 ∙ (f.1 ∙ ap (λ (n : List ℕ). n ∷ f.0) (sym c.in_ok-word_of.ensures)))
