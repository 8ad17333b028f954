-- The first output that isn't shown equal, found one after the other.
use Rattle.std.proofs.Common.{◌≡◌, ◌∙◌, ◌+◌, ◌<◌, ◌≤◌, ℕ, Bool, true, false, not, cond, List, [], ◌∷◌, length, drop, get_or, slice_get, zero, suc, refl, sym, ap, Option, Some, None, option_map}
use Rattle.std.specs.Prelude.{find}
use Rattle.std.proofs.lemmas.List.{drop_all, drop_more}
use Rattle.signal_induct.specs.declared.outputs.TiedPair.{TiedPair}
use Rattle.signal_induct.specs.Tied.{first_apart}

module _ (pairs : List TiedPair) (i : ℕ) (p : TiedPair) (before : first_apart pairs ≡ first_apart (drop i pairs)) (within : i < length pairs) (is : p ≡ get_or pairs i p) where
  here : first_apart pairs ≡ first_apart (p ∷ drop (i + 1) pairs)
  here = before ∙ ap first_apart (drop_more pairs i p within ∙ ap (λ (x : TiedPair). x ∷ drop (i + 1) pairs) (sym is))

  by_answer : (b : Bool) → p.equal ≡ b → first_apart pairs ≡ option_map (λ (x : TiedPair). x.name) (cond (not b) (Some p) (find (λ (x : TiedPair). not x.equal) (drop (i + 1) pairs)))
  by_answer b e = here ∙ ap (λ c. option_map (λ (x : TiedPair). x.name) (cond (not c) (Some p) (find (λ (x : TiedPair). not x.equal) (drop (i + 1) pairs)))) e

  -- it is this one
  pub apart : p.equal ≡ false → first_apart pairs ≡ Some p.name
  apart e = by_answer false e

  -- or one behind it
  pub equal : p.equal ≡ true → first_apart pairs ≡ first_apart (drop (i + 1) pairs)
  equal e = by_answer true e

-- or there is none
pub none_found : (pairs : List TiedPair) (i : ℕ) → first_apart pairs ≡ first_apart (drop i pairs) → length pairs ≤ i → first_apart pairs ≡ None
none_found pairs i before past = before ∙ ap first_apart (drop_all i pairs past)

head_equal : (b : Bool) (p : TiedPair) (rest : Option TiedPair) → option_map (λ (x : TiedPair). x.name) (cond (not b) (Some p) rest) ≡ None → (b ≡ true) × (option_map (λ (x : TiedPair). x.name) rest ≡ None)
head_equal true p rest e = (refl, e)
head_equal false p rest e = absurd (let none : Some p.name ≡ None = e in cc)

-- where none isn't equal, each is
pub each_equal : (pairs : List TiedPair) → first_apart pairs ≡ None → (i : ℕ) (p : TiedPair) → slice_get pairs i ≡ Some p → p.equal ≡ true
each_equal [] none i p at = absurd (cc)
each_equal (q ∷ pairs) none zero p at =
    let same : q ≡ p = cc in
    ap (λ (x : TiedPair). x.equal) (sym same) ∙ (head_equal q.equal q (find (λ (x : TiedPair). not x.equal) pairs) none).0
each_equal (q ∷ pairs) none (suc i) p at = each_equal pairs (head_equal q.equal q (find (λ (x : TiedPair). not x.equal) pairs) none).1 i p at
