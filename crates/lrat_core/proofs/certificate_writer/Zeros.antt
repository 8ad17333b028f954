-- Numbers up to a first zero.
use Rattle.std.proofs.Common.{◌≡◌, ◌+◌, ◌-◌, Bool, true, false, List, ◌∷◌, ◌++◌, length, take, drop, get_or, refl, ◌∙◌, ap, arith, length-append}
use Rattle.std.specs.Prelude.{◌||◌}
use Rattle.std.specs.List.{All, list_any, position_or_len, before_first, after_first}
use Rattle.std.proofs.Math.ListN.{get_or-append}
use Rattle.std.proofs.Math.Seq.{take-append_seam, drop-append-add}
use Rattle.std.proofs.lemmas.List.{get_or-append_right}
use Rattle.std.proofs.lemmas.List.Sums.{position_or_len_is}
use Rattle.std.proofs.lemmas.List.Folds.{list_any-append}

module _ {X : Type 0} (p : X → Bool) (front : List X) (z : X) (back : List X) (before : All (λ x. p x ≡ false) front) (here : p z ≡ true) where
  place : position_or_len p (front ++ z ∷ back) ≡ length front
  place =
      position_or_len_is p (front ++ z ∷ back) (length front) z (omega (arith, length-append front (z ∷ back)))
      (λ k lt. ap p (get_or-append front (z ∷ back) z k lt) ∙ before k z lt)
      (λ _. ap p (get_or-append_right front (z ∷ back) (length front) (length front) z refl (omega arith) ∙ ap (λ k. get_or (z ∷ back) k z) none) ∙ here)
    where
      none : length front - length front ≡ 0
      none = omega arith

  pub before_is : before_first p (front ++ z ∷ back) ≡ front
  before_is = ap (λ n. take n (front ++ z ∷ back)) place ∙ take-append_seam front (z ∷ back)

  pub after_is : after_first p (front ++ z ∷ back) ≡ back
  after_is = ap (λ n. drop (n + 1) (front ++ z ∷ back)) place ∙ drop-append-add front (z ∷ back) 1

  pub has_it : list_any p (front ++ z ∷ back) ≡ true
  has_it = list_any-append p front (z ∷ back) ∙ go (list_any p front) (p z) (list_any p back) here
    where
      go : (a b c : Bool) → b ≡ true → (a || (b || c)) ≡ true
      go true b c e = refl
      go false true c e = refl
      go false false c e = absurd (let z : false ≡ true = e in cc)
