-- The clause of a number.
use Rattle.std.proofs.Common.{◌≡◌, ℕ, ◌-◌, ◌<◌, ◌≤◌, List, [], ◌++◌, length, get_or, refl, sym, ◌∙◌, ap, arith, length-append}
use Rattle.std.proofs.Math.ListN.{get_or-append}
use Rattle.std.proofs.lemmas.List.{get_or_default, get_or_past, get_or-append_right}
use Rattle.proof_check.specs.Literals.{Literal}

module _ (given derived : List (List Literal)) (n : ℕ) where
  pub first_known : (c result : List Literal) → n < length given → c ≡ get_or given n c → result ≡ c → result ≡ get_or (given ++ derived) n []
  first_known c result lt is same = same ∙ (is ∙ (get_or_default given n c [] lt ∙ sym (get_or-append given derived [] n lt)))

  pub later_known : (later : ℕ) (c result : List Literal) → length given ≤ n → later ≡ n - length given → later < length derived → c ≡ get_or derived later c → result ≡ c → result ≡ get_or (given ++ derived) n []
  later_known later c result le at lt is same =
      same ∙ (is ∙ (get_or_default derived later c [] lt ∙ (ap (λ k. get_or derived k []) at ∙ sym (get_or-append_right given derived (length given) n [] refl le))))

  pub none_known : (later : ℕ) (result : List Literal) → length given ≤ n → later ≡ n - length given → length derived ≤ later → result ≡ [] → result ≡ get_or (given ++ derived) n []
  none_known later result le at past same = same ∙ sym (get_or_past (given ++ derived) n [] (omega (arith, length-append given derived, le, at, past)))
