-- Bits of words, and the words of places that are given bits.
use Rattle.std.proofs.Common.{◌≡◌, ◌≢◌, ◌∙◌, ◌*◌, ◌^◌, ◌<◌, ◌≤◌, ℕ, max, min, Bool, true, false, List, [], ◌∷◌, ◌++◌, length, map, set, get_or, slice_get, Some, refl, sym, ap, subst, arith, inl, inr, get_or-set_same, get_or-set_other, length-set, true≢false}
use Rattle.std.specs.Prelude.{◌⊎◌, not, ◌==◌, bit_and, bit_or}
use Rattle.std.specs.List.{AllPairs, Contains}
use Rattle.std.proofs.lemmas.List.Elements.{Contains-append_left, Contains-push, Contains-push_cases}
use Rattle.std.specs.Int.{bit_at}
use Rattle.std.proofs.lemmas.Bool.{cases_order, cases_lt}
use Rattle.std.proofs.lemmas.Nat.Bits.{bit_at-zero, bit_at_and, bit_at_or, bit_at-pow_other, bit_at-lt, and_pow}
use Rattle.circuit_theory.proofs.Inputs.{test_same}
use Rattle.circuit_theory.proofs.Sums.{same_or_not}
use Rattle.circuit_theory.proofs.Numbers.{slice_get-map}
use Rattle.aig.specs.declared.node.Lit.{Lit}
use Rattle.cbf_unfold.specs.unfold_places.Visitors.{IsSet, Gives, has_bit}
use Rattle.aig.proofs.Lists.{pairs_at}

max_one : (x y : ℕ) → x < 2 → max x y ≡ 1 → (x ≡ 1) ⊎ (y ≡ 1)
max_one x y small h = elim (cases_lt x 1) [ inl l ↦ inr (omega (arith, h, l)) | inr l ↦ inl (omega (arith, small, l)) ]

one_max : (x y : ℕ) → x < 2 → y < 2 → (x ≡ 1) ⊎ (y ≡ 1) → max x y ≡ 1
one_max x y hx hy (inl e) = omega (arith, hx, hy, e)
one_max x y hx hy (inr e) = omega (arith, hx, hy, e)

one_min : (x y : ℕ) → x ≡ 1 → y ≡ 1 → min x y ≡ 1
one_min x y e f = omega (arith, e, f)

zero_one : (x : ℕ) → x ≡ 0 → x ≡ 1 → ⊥
zero_one x e f = omega (arith, e, f)

-- a bit of the or of two words
pub or_cases : (a b k : ℕ) → bit_at (bit_or a b) k ≡ 1 → (bit_at a k ≡ 1) ⊎ (bit_at b k ≡ 1)
or_cases a b k h = max_one (bit_at a k) (bit_at b k) (bit_at-lt a k) (sym (bit_at_or a b k) ∙ h)

pub or_has : (a b k : ℕ) → (bit_at a k ≡ 1) ⊎ (bit_at b k ≡ 1) → bit_at (bit_or a b) k ≡ 1
or_has a b k h = bit_at_or a b k ∙ one_max (bit_at a k) (bit_at b k) (bit_at-lt a k) (bit_at-lt b k) h

-- 0 has no bit
pub no_bit : (w k : ℕ) → w ≡ 0 → bit_at w k ≡ 1 → ⊥
no_bit w k e h = zero_one (bit_at w k) (ap (λ v. bit_at v k) e ∙ bit_at-zero k) h

-- the bit of a power
pub power_bit : (j k : ℕ) → bit_at (2 ^ j) k ≡ 1 → k ≡ j
power_bit j k h = go (same_or_not k j)
  where
    go : (k ≡ j) ⊎ (k ≢ j) → k ≡ j
    go (inl e) = e
    go (inr n) = absurd (zero_one (bit_at (2 ^ j) k) (bit_at-pow_other j k n) h)

-- a word that has a bit of the mask isn't 0 under it
pub bit_has : (words : List ℕ) (mask i k : ℕ) → IsSet words i k → bit_at mask k ≡ 1 → has_bit words mask i ≡ true
bit_has words mask i k here bit = go (bit_and (get_or words i 0) mask == 0) refl
  where
    go : (b : Bool) → (bit_and (get_or words i 0) mask == 0) ≡ b → has_bit words mask i ≡ true
    go false e = ap not e
    go true e =
        absurd
        (no_bit (bit_and (get_or words i 0) mask) k (test_same (bit_and (get_or words i 0) mask) 0 e)
        (bit_at_and (get_or words i 0) mask k ∙ one_min (bit_at (get_or words i 0) k) (bit_at mask k) here bit))

-- and a word that isn't 0 under a mask of one bit has that bit
pub has_bit_at : (words : List ℕ) (i k : ℕ) → has_bit words (2 ^ k) i ≡ true → IsSet words i k
has_bit_at words i k h = go (cases_lt (bit_at (get_or words i 0) k) 1)
  where
    empty : (b m p : ℕ) → b < 1 → m ≡ b * p → m ≡ 0
    empty b m p small e = let z : b ≡ 0 = omega arith in let y : 0 * p ≡ 0 = omega arith in e ∙ (ap (λ (n : ℕ). n * p) z ∙ y)

    go : (bit_at (get_or words i 0) k < 1) ⊎ (1 ≤ bit_at (get_or words i 0) k) → IsSet words i k
    go (inl l) =
        let none : bit_and (get_or words i 0) (2 ^ k) ≡ 0 = empty (bit_at (get_or words i 0) k) (bit_and (get_or words i 0) (2 ^ k)) (2 ^ k) l (and_pow (get_or words i 0) k) in
        absurd (true≢false (sym h ∙ ap (λ (n : ℕ). not (n == 0)) none))
    go (inr l) = upper (bit_at (get_or words i 0) k) (bit_at-lt (get_or words i 0) k) l
      where
        upper : (b : ℕ) → b < 2 → 1 ≤ b → b ≡ 1
        upper b small some = omega arith

-- a place has one number
pub one_key : (memo : List ((ℕ × ℕ) × Lit)) → AllPairs (λ p q. p ≢ q) (map (λ e. e.0) memo) → (i j : ℕ) (d e : (ℕ × ℕ) × Lit) → slice_get memo i ≡ Some d → slice_get memo j ≡ Some e → d.0 ≡ e.0 → i ≡ j
one_key memo differ i j d e at_i at_j same = go (cases_order i j)
  where
    key : (k : ℕ) (f : (ℕ × ℕ) × Lit) → slice_get memo k ≡ Some f → slice_get (map (λ (g : (ℕ × ℕ) × Lit). g.0) memo) k ≡ Some f.0
    key k f at = slice_get-map (λ (g : (ℕ × ℕ) × Lit). g.0) memo k f at

    go : (i ≡ j) ⊎ ((i < j) ⊎ (j < i)) → i ≡ j
    go (inl e) = e
    go (inr (inl l)) = absurd (pairs_at (λ (p q : ℕ × ℕ). p ≢ q) (map (λ g. g.0) memo) i j d.0 e.0 differ l (key i d at_i) (key j e at_j) same)
    go (inr (inr l)) = absurd (pairs_at (λ (p q : ℕ × ℕ). p ≢ q) (map (λ g. g.0) memo) j i e.0 d.0 differ l (key j e at_j) (key i d at_i) (sym same))

-- one word is given bits
pub gives_one : (words : List ℕ) (number word : ℕ) → number < length words → Gives (λ n. n ≡ number) word words (set words number (bit_or (get_or words number 0) word))
gives_one words number word inside = record {
  size = length-set words number (bit_or (get_or words number 0) word);
  kept = λ i k h. keeps i k h (same_or_not i number);
  from = λ i k h. froms i k h (same_or_not i number);
  all = λ i k same bit. subst (λ (m : ℕ). IsSet (set words number (bit_or (get_or words number 0) word)) m k) (sym same) (ap (λ w. bit_at w k) own ∙ or_has (get_or words number 0) word k (inr bit));
}
  where
    own : get_or (set words number (bit_or (get_or words number 0) word)) number 0 ≡ bit_or (get_or words number 0) word
    own = get_or-set_same words number (bit_or (get_or words number 0) word) 0 inside

    other : (i : ℕ) → i ≢ number → get_or (set words number (bit_or (get_or words number 0) word)) i 0 ≡ get_or words i 0
    other i apart = get_or-set_other words number i (bit_or (get_or words number 0) word) 0 apart

    keeps : (i k : ℕ) → IsSet words i k → (i ≡ number) ⊎ (i ≢ number) → IsSet (set words number (bit_or (get_or words number 0) word)) i k
    keeps i k h (inl e) =
        subst (λ (m : ℕ). IsSet (set words number (bit_or (get_or words number 0) word)) m k) (sym e)
        (ap (λ w. bit_at w k) own ∙ or_has (get_or words number 0) word k (inl (subst (λ (m : ℕ). IsSet words m k) e h)))
    keeps i k h (inr n) = ap (λ w. bit_at w k) (other i n) ∙ h

    froms : (i k : ℕ) → IsSet (set words number (bit_or (get_or words number 0) word)) i k → (i ≡ number) ⊎ (i ≢ number) → IsSet words i k ⊎ ((bit_at word k ≡ 1) × (i ≡ number))
    froms i k h (inl e) =
        pick (or_cases (get_or words number 0) word k (ap (λ w. bit_at w k) (sym own) ∙ subst (λ (m : ℕ). IsSet (set words number (bit_or (get_or words number 0) word)) m k) e h))
      where
        pick : (bit_at (get_or words number 0) k ≡ 1) ⊎ (bit_at word k ≡ 1) → IsSet words i k ⊎ ((bit_at word k ≡ 1) × (i ≡ number))
        pick (inl b) = inl (subst (λ (m : ℕ). IsSet words m k) (sym e) b)
        pick (inr b) = inr (b, e)
    froms i k h (inr n) = inl (ap (λ w. bit_at w k) (sym (other i n)) ∙ h)

-- nothing is given
pub gives_none : (To : ℕ → Type 0) (word : ℕ) (words : List ℕ) → ((i k : ℕ) → bit_at word k ≡ 1 → To i → ⊥) → Gives To word words words
gives_none To word words none = record { size = refl; kept = λ i k h. h; from = λ i k h. inl h; all = λ i k to bit. absurd (none i k bit to) }

-- some words, and then one more
pub gives_more : (numbers more : List ℕ) (number word : ℕ) (a b c : List ℕ) → more ≡ numbers ++ number ∷ [] → Gives (Contains numbers) word a b → Gives (λ n. n ≡ number) word b c → Gives (Contains more) word a c
gives_more numbers more number word a b c is first second = record {
  size = second.size ∙ first.size;
  kept = λ i k h. second.kept i k (first.kept i k h);
  from = λ i k h. back i k (second.from i k h);
  all = λ i k to bit. on i k bit (Contains-push_cases numbers number i (subst (λ (l : List ℕ). Contains l i) is to));
}
  where
    on : (i k : ℕ) → bit_at word k ≡ 1 → Contains numbers i ⊎ (number ≡ i) → IsSet c i k
    on i k bit (inl h) = second.kept i k (first.all i k h bit)
    on i k bit (inr e) = second.all i k (sym e) bit

    back : (i k : ℕ) → IsSet b i k ⊎ ((bit_at word k ≡ 1) × (i ≡ number)) → IsSet a i k ⊎ ((bit_at word k ≡ 1) × Contains more i)
    back i k (inr h) = inr (h.0, subst (λ (l : List ℕ). Contains l i) (sym is) (subst (Contains (numbers ++ number ∷ [])) (sym h.1) (Contains-push numbers number)))
    back i k (inl h) = older (first.from i k h)
      where
        older : IsSet a i k ⊎ ((bit_at word k ≡ 1) × Contains numbers i) → IsSet a i k ⊎ ((bit_at word k ≡ 1) × Contains more i)
        older (inl g) = inl g
        older (inr g) = inr (g.0, subst (λ (l : List ℕ). Contains l i) (sym is) (Contains-append_left numbers (number ∷ []) i g.1))
