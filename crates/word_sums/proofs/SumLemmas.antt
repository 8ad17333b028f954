-- Sums of literals: one coefficient changed, one term more, none left; and the numbers of words.
use Rattle.std.proofs.Common.{◌≡◌, ℕ, zero, suc, ◌+◌, ◌*◌, ◌%◌, ◌^◌, ◌<◌, ◌≤◌, Bool, true, false, List, [], ◌∷◌, ◌++◌, length, get_or, set, take, replicate, refl, sym, ap, ◌∙◌, subst, arith}
use Rattle.std.proofs.Math.Nat.{pow-suc, mul-le-mul_left, eq_of_mul-eq-mul_left}
use Rattle.std.proofs.lemmas.List.{take_more, length-take-le, get_or-replicate, length-replicate}
use Rattle.std.proofs.lemmas.Nat.{pow-add}
use Rattle.aig.specs.declared.node.Lit.{Lit}
use Rattle.word_sums.specs.declared.vanishing.Term.{Term}
use Rattle.word_sums.specs.Sums.{bit_number, word_number, word_bits, terms_number, sum_number, AreCongruent}
use Rattle.word_sums.proofs.Congruent.{cong-is, cong-refl, cong-sym, cong-trans, cong-add, cong-mul, cong-mod, cong-term, cong-words, cong-below}

-- a coefficient is another one
pub sum-set : (f : ℕ → Bool) (x : ℕ) (cs : List ℕ) (k y v : ℕ) → y ≡ x + k → k < length cs →
    sum_number f x (set cs k v) + get_or cs k 0 * bit_number (f y) ≡ sum_number f x cs + v * bit_number (f y)
sum-set f x [] k y v e inside = absurd (omega arith)
sum-set f x (c ∷ cs) zero y v e inside =
    let here : y ≡ x = omega (arith, e) in
    subst (λ (z : ℕ). (v * bit_number (f x) + sum_number f (suc x) cs) + c * bit_number (f z) ≡ (c * bit_number (f x) + sum_number f (suc x) cs) + v * bit_number (f z)) (sym here) (omega arith)
sum-set f x (c ∷ cs) (suc k) y v e inside = omega (arith, sum-set f (suc x) cs k y v (omega (arith, e)) (omega (arith, inside)))

-- so many of a literal more
pub sum-more : (f : ℕ → Bool) (cs : List ℕ) (x v times : ℕ) → x < length cs → AreCongruent v (get_or cs x 0 + times) →
    AreCongruent (sum_number f 0 (set cs x v)) (sum_number f 0 cs + times * bit_number (f x))
sum-more f cs x v times inside c =
    let b = bit_number (f x) in
    let d : AreCongruent (b * v) (b * (get_or cs x 0 + times)) = cong-mul b c in
    record { left = d.left; right = d.right; same = omega (arith, d.same, sum-set f 0 cs x x v (omega arith) inside) }

-- no coefficient is left
pub sum-none : (f : ℕ → Bool) (x : ℕ) (cs : List ℕ) → ((k : ℕ) → k < length cs → get_or cs k 0 ≡ 0) → sum_number f x cs ≡ 0
sum-none f x [] none = refl
sum-none f x (c ∷ cs) none =
    let here : c ≡ 0 = none 0 (omega arith) in
    let rest : sum_number f (suc x) cs ≡ 0 = sum-none f (suc x) cs (λ k inside. none (suc k) (omega (arith, inside))) in
    omega (arith, ap (λ (z : ℕ). z * bit_number (f x)) here, rest)

pub terms-append : (f : ℕ → Bool) (ts us : List Term) → terms_number f (ts ++ us) ≡ terms_number f ts + terms_number f us
terms-append f [] us = omega arith
terms-append f (t ∷ ts) us = omega (arith, terms-append f ts us)

-- one term more
pub terms-more : (f : ℕ → Bool) (ts : List Term) (i : ℕ) (d : Term) → i < length ts →
    terms_number f (take (i + 1) ts) ≡ terms_number f (take i ts) + (get_or ts i d).coefficient * bit_number (f (get_or ts i d).lit.0)
terms-more f ts i d inside = ap (terms_number f) (take_more ts i d inside) ∙ terms-append f (take i ts) (get_or ts i d ∷ []) ∙ omega arith

-- one bit more
pub word-append : (bs : List Bool) (b : Bool) → word_number (bs ++ b ∷ []) ≡ word_number bs + 2 ^ length bs * bit_number b
word-append [] b = omega arith
word-append (c ∷ bs) b =
    let twice : 2 ^ length (c ∷ bs) * bit_number b ≡ (2 ^ length bs * 2) * bit_number b = ap (λ (z : ℕ). z * bit_number b) (pow-suc 2 (length bs)) in
    omega (arith, word-append bs b)

pub bits-append : (f : ℕ → Bool) (xs ys : List Lit) → word_bits f (xs ++ ys) ≡ word_bits f xs ++ word_bits f ys
bits-append f [] ys = refl
bits-append f (x ∷ xs) ys = ap (λ (bs : List Bool). f x.0 ∷ bs) (bits-append f xs ys)

pub length-bits : (f : ℕ → Bool) (xs : List Lit) → length (word_bits f xs) ≡ length xs
length-bits f [] = refl
length-bits f (x ∷ xs) = ap suc (length-bits f xs)

bit-small : (b : Bool) → bit_number b ≤ 1
bit-small true = omega arith
bit-small false = omega arith

bit-one : (b c : Bool) → bit_number b ≡ bit_number c → b ≡ c
bit-one true true e = refl
bit-one false false e = refl
bit-one true false e = absurd (omega (arith, e))
bit-one false true e = absurd (omega (arith, e))

-- a word's number is below the power of 2 of its length
pub word-below : (bs : List Bool) → word_number bs < 2 ^ length bs
word-below [] = omega arith
word-below (b ∷ bs) =
    let twice : 2 ^ length (b ∷ bs) ≡ 2 ^ length bs * 2 = pow-suc 2 (length bs) in
    omega (arith, word-below bs, bit-small b)

-- words of one length that spell one number are one
pub word-one : (bs cs : List Bool) → length bs ≡ length cs → word_number bs ≡ word_number cs → bs ≡ cs
word-one [] [] e same = refl
word-one [] (c ∷ cs) e same = absurd (omega (arith, e))
word-one (b ∷ bs) [] e same = absurd (omega (arith, e))
word-one (b ∷ bs) (c ∷ cs) e same =
    let low : bit_number b ≡ bit_number c = omega (arith, same, bit-small b, bit-small c) in
    let rest : bs ≡ cs = word-one bs cs (omega (arith, e)) (omega (arith, same, low)) in
    ap (λ (x : Bool). x ∷ bs) (bit-one b c low) ∙ ap (λ (xs : List Bool). c ∷ xs) rest

-- one bit more of a word
pub word-more : (f : ℕ → Bool) (xs : List Lit) (i : ℕ) (d : Lit) → i < length xs →
    word_number (word_bits f (take (i + 1) xs)) ≡ word_number (word_bits f (take i xs)) + 2 ^ i * bit_number (f (get_or xs i d).0)
word-more f xs i d inside =
    let front = take i xs in
    let x = get_or xs i d in
    let bits = word_bits f front in
    let long : length bits ≡ i = length-bits f front ∙ length-take-le i xs (omega (arith, inside)) in
    ap (λ (ys : List Lit). word_number (word_bits f ys)) (take_more xs i d inside) ∙ ap word_number (bits-append f front (x ∷ [])) ∙ word-append bits (f x.0)
    ∙ ap (λ (n : ℕ). word_number bits + 2 ^ n * bit_number (f x.0)) long

-- the number of the terms so far, modulo 2^64, with one more
pub terms-step : (f : ℕ → Bool) (ts : List Term) (i : ℕ) (d : Term) (number w : ℕ) (bit : Bool) → i < length ts → f (get_or ts i d).lit.0 ≡ bit →
    w ≡ (get_or ts i d).coefficient * bit_number bit → AreCongruent (terms_number f (take i ts)) number → AreCongruent (terms_number f (take (i + 1) ts)) ((number + w) % 2 ^ 64)
terms-step f ts i d number w bit inside is e before =
    let t = get_or ts i d in
    let here : t.coefficient * bit_number (f t.lit.0) ≡ w = ap (λ (b : Bool). t.coefficient * bit_number b) is ∙ sym e in
    let step : terms_number f (take (i + 1) ts) ≡ terms_number f (take i ts) + w = terms-more f ts i d inside ∙ ap (λ (z : ℕ). terms_number f (take i ts) + z) here in
    cong-trans (cong-is step) (cong-trans (cong-add before (cong-refl w)) (cong-sym (cong-mod (number + w))))

-- the terms so far are added so many times, and one more
pub add-step : (f : ℕ → Bool) (old now new : List ℕ) (ts : List Term) (i : ℕ) (d : Term) (times w : ℕ) → i < length ts → AreCongruent w (times * (get_or ts i d).coefficient) →
    AreCongruent (sum_number f 0 now) (sum_number f 0 old + times * terms_number f (take i ts)) →
    AreCongruent (sum_number f 0 new) (sum_number f 0 now + w * bit_number (f (get_or ts i d).lit.0)) →
    AreCongruent (sum_number f 0 new) (sum_number f 0 old + times * terms_number f (take (i + 1) ts))
add-step f old now new ts i d times w inside is before after =
    let t = get_or ts i d in
    cong-term (sum_number f 0 old) times (terms_number f (take i ts)) (terms_number f (take (i + 1) ts)) t.coefficient (bit_number (f t.lit.0)) w before is after (terms-more f ts i d inside)

-- twice the weight for the next place
pub weight-step : (times w i : ℕ) → AreCongruent w (times * 2 ^ i) → AreCongruent ((w + w) % 2 ^ 64) (times * 2 ^ (i + 1))
weight-step times w i c =
    let twice : times * 2 ^ i + times * 2 ^ i ≡ times * 2 ^ (i + 1) = omega (arith, ap (λ (z : ℕ). times * z) (pow-add 2 i 1)) in
    cong-trans (cong-mod (w + w)) (cong-trans (cong-add c c) (cong-is twice))

-- the low bits of both words are put, and one more of each
pub words-step : (f : ℕ → Bool) (old now between new : List ℕ) (left right : List Lit) (i : ℕ) (d e : Lit) (times weight negative : ℕ) → i < length left → i < length right →
    AreCongruent weight (times * 2 ^ i) → (negative + weight) % 2 ^ 64 ≡ 0 →
    AreCongruent (sum_number f 0 now + times * word_number (word_bits f (take i right))) (sum_number f 0 old + times * word_number (word_bits f (take i left))) →
    AreCongruent (sum_number f 0 between) (sum_number f 0 now + weight * bit_number (f (get_or left i d).0)) →
    AreCongruent (sum_number f 0 new) (sum_number f 0 between + negative * bit_number (f (get_or right i e).0)) →
    AreCongruent (sum_number f 0 new + times * word_number (word_bits f (take (i + 1) right))) (sum_number f 0 old + times * word_number (word_bits f (take (i + 1) left)))
words-step f old now between new left right i d e times weight negative in_left in_right is none before first second =
    cong-words (sum_number f 0 old) (sum_number f 0 now) times (2 ^ i) (word_number (word_bits f (take i left))) (word_number (word_bits f (take i right))) (word_number (word_bits f (take (i + 1) left))) (word_number (word_bits f (take (i + 1) right)))
    (bit_number (f (get_or left i d).0)) (bit_number (f (get_or right i e).0)) weight negative is before first second (cong-trans (cong-sym (cong-mod (negative + weight))) (cong-is none)) (word-more f left i d in_left) (word-more f right i e in_right)

-- no literal has a coefficient at first
pub sum-zeros : (f : ℕ → Bool) (n : ℕ) → sum_number f 0 (replicate n 0) ≡ 0
sum-zeros f n = sum-none f 0 (replicate n 0) (λ k inside. get_or-replicate n k 0 0 (omega (arith, inside, length-replicate {A = ℕ} n 0)))

-- Both words are put where nothing was, so many times that the number at the place behind the highest is 2^64, and what is left comes to 0.
pub words-same : (f : ℕ → Bool) (left right : List Lit) (times s t u : ℕ) → length left ≡ length right → times * 2 ^ length left ≡ 2 ^ 64 → 0 < times → s ≡ 0 → u ≡ 0 →
    AreCongruent (t + times * word_number (word_bits f right)) (s + times * word_number (word_bits f left)) → AreCongruent u t → word_bits f left ≡ word_bits f right
words-same f left right times s t u each whole some none gone put kept =
    let l = word_bits f left in
    let r = word_bits f right in
    let one : AreCongruent (times * word_number r) (times * word_number l) =
    record { left = put.left + kept.left; right = put.right + kept.right; same = omega (arith, put.same, kept.same, none, gone) } in
    let long : length l ≡ length left = length-bits f left in
    let wide : length r ≡ length left = length-bits f right ∙ sym each in
    let in_left : times * word_number l < 2 ^ 64 = scaled l long in
    let in_right : times * word_number r < 2 ^ 64 = scaled r wide in
    let equal : word_number r ≡ word_number l = eq_of_mul-eq-mul_left times some (word_number r) (word_number l) (cong-below one in_right in_left) in
    word-one l r (long ∙ sym wide) (sym equal)
  where
    scaled : (bs : List Bool) → length bs ≡ length left → times * word_number bs < 2 ^ 64
    scaled bs long =
        let below : word_number bs + 1 ≤ 2 ^ length left = subst (λ (n : ℕ). word_number bs + 1 ≤ 2 ^ n) long (omega (arith, word-below bs)) in
        omega (arith, mul-le-mul_left {m = word_number bs + 1} {n = 2 ^ length left} times below, whole, some)
