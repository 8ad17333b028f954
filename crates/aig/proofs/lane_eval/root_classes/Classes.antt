-- Classes are split by one row more.
use Rattle.std.proofs.Common.{◌≡◌, ◌≢◌, ℕ, ◌+◌, ◌*◌, ◌^◌, ◌%◌, ◌<◌, ◌≤◌, Bool, true, false, not, cond, List, [], ◌∷◌, ◌++◌, length, get_or, replicate, slice_get, Option, Some, None, refl, sym, ◌∙◌, ap, arith, inl, inr}
use mathlib.Core.Bool.{beq}
use Rattle.std.specs.Prelude.{◌⊎◌, ◌==◌}
use Rattle.std.proofs.lemmas.Option.{same_Some, slice_get-get_or, slice_get_within, get_or_from_slice_get}
use Rattle.std.proofs.lemmas.Bool.Decides.{Decides-eqb}
use Rattle.std.proofs.lemmas.List.{length-append, length-replicate, get_or-replicate}
use Rattle.std.proofs.Math.Nat.{pow-le-pow_right}
use Rattle.aig.proofs.Insert.{push-cases}
use Rattle.aig.specs.lane_eval.root_classes.Splits.{AgreeSoFar, IsSplit, IsHead, IsSplitSoFar, key_at}

key-first : (f h : ℕ) (b c : Bool) → 2 * f + cond b 1 0 ≡ 2 * h + cond c 1 0 → f ≡ h
key-first f h true true e = omega arith
key-first f h true false e = omega arith
key-first f h false true e = omega arith
key-first f h false false e = omega arith

key-bit : (f h : ℕ) (b c : Bool) → 2 * f + cond b 1 0 ≡ 2 * h + cond c 1 0 → b ≡ c
key-bit f h true true e = refl
key-bit f h true false e = absurd (omega arith)
key-bit f h false true e = absurd (omega arith)
key-bit f h false false e = refl

module _ (row : ℕ → ℕ → Bool) (rows : ℕ) (bits : List Bool) (right : (i : ℕ) (b : Bool) → slice_get bits i ≡ Some b → b ≡ row rows i) where
  bit-is : (i : ℕ) → i < length bits → get_or bits i false ≡ row rows i
  bit-is i within = right i (get_or bits i false) (slice_get-get_or bits i false within)

  more-rows : (i p : ℕ) → ((m : ℕ) → m < rows → row m i ≡ row m p) → row rows i ≡ row rows p → (m : ℕ) → m < rows + 1 → row m i ≡ row m p
  more-rows i p before last m below = by (m == rows) refl
    where
      by : (b : Bool) → (m == rows) ≡ b → row m i ≡ row m p
      by true test = let e : m ≡ rows = (Decides-eqb m rows).0 test in ap (λ (k : ℕ). row k i) e ∙ last ∙ sym (ap (λ (k : ℕ). row k p) e)
      by false test = let apart : m ≢ rows = λ (e : m ≡ rows). differs ((Decides-eqb m rows).1 e) test in before m (omega (arith, apart, below))
        where
          differs : (m == rows) ≡ true → (m == rows) ≡ false → ⊥
          differs p q = let e : true ≡ false = sym p ∙ q in cc

  module _ (firsts : List ℕ) (so_far : AgreeSoFar row (length bits) rows firsts) where
    within-firsts : (i : ℕ) → i < length bits → i < length firsts
    within-firsts i h = omega (arith, so_far.each)

    first-is : (i : ℕ) → i < length bits → slice_get firsts i ≡ Some (get_or firsts i 0)
    first-is i h = slice_get-get_or firsts i 0 (within-firsts i h)

    -- nothing to split
    pub follows-refines : ((i p : ℕ) → slice_get firsts i ≡ Some p → get_or bits i false ≡ get_or bits p false) → AgreeSoFar row (length bits) (rows + 1) firsts
    follows-refines follows = record {
      each = so_far.each;
      within = so_far.within;
      sound = λ i p at.
          let inside : i < length bits = omega (arith, slice_get_within firsts i p at, so_far.each) in
          more-rows i p (so_far.sound i p at) (sym (bit-is i inside) ∙ follows i p at ∙ bit-is p (so_far.within i p at));
      complete = λ i j p q at there agree. so_far.complete i j p q at there (λ m less. agree m (omega (arith, less)));
    }

    pub split-refines : (new : List ℕ) → IsSplit firsts bits (length firsts) new → AgreeSoFar row (length bits) (rows + 1) new
    split-refines new is = record {
      each = is.each ∙ so_far.each;
      within = λ i p at. omega (arith, (is.sound i p at).0, so_far.each);
      sound = λ i p at.
          let inside : i < length bits = omega (arith, slice_get_within new i p at, is.each, so_far.each) in
          let there : p < length bits = omega (arith, (is.sound i p at).0, so_far.each) in
          let key = (is.sound i p at).1 in
          let same : get_or firsts p 0 ≡ get_or firsts i 0 = key-first (get_or firsts p 0) (get_or firsts i 0) (get_or bits p false) (get_or bits i false) key in
          let bit : get_or bits p false ≡ get_or bits i false = key-bit (get_or firsts p 0) (get_or firsts i 0) (get_or bits p false) (get_or bits i false) key in
          more-rows i p
          (λ m less. so_far.sound i (get_or firsts i 0) (first-is i inside) m less ∙ sym (so_far.sound p (get_or firsts i 0) (first-is p there ∙ ap Some same) m less))
          (sym (bit-is i inside) ∙ sym bit ∙ bit-is p there);
      complete = λ i j p q at there agree.
          let inside : i < length bits = omega (arith, slice_get_within new i p at, is.each, so_far.each) in
          let within : j < length bits = omega (arith, slice_get_within new j q there, is.each, so_far.each) in
          let same : get_or firsts i 0 ≡ get_or firsts j 0 =
          so_far.complete i j (get_or firsts i 0) (get_or firsts j 0) (first-is i inside) (first-is j within) (λ m less. agree m (omega (arith, less))) in
          let last : rows < rows + 1 = omega arith in
          let bit : get_or bits i false ≡ get_or bits j false = bit-is i inside ∙ agree rows last ∙ sym (bit-is j within) in
          is.complete i j p q at there (ap (λ (f : ℕ). 2 * f + cond (get_or bits i false) 1 0) same ∙ ap (λ (b : Bool). 2 * get_or firsts j 0 + cond b 1 0) bit);
    }

module _ (firsts : List ℕ) (bits : List Bool) where
  pub split-done : (f : ℕ → Option ℕ) (i : ℕ) (new : List ℕ) → IsSplitSoFar firsts bits f i new → IsSplit firsts bits i new
  split-done f i new so_far = record {
    each = so_far.each;
    sound = λ j p at. so_far.heads (key_at firsts bits j) p (so_far.known j p at);
    complete = λ j k p q at there key.
        let e : Some p ≡ Some q = sym (so_far.known j p at) ∙ ap f key ∙ so_far.known k q there in
        same_Some p q e;
  }

  apart-test : (u v : ℕ) → u ≢ v → (u == v) ≡ false
  apart-test u v apart = by (u == v) refl
    where
      by : (b : Bool) → (u == v) ≡ b → (u == v) ≡ false
      by true e = absurd (apart ((Decides-eqb u v).0 e))
      by false e = e

  pub split-step : (f g : ℕ → Option ℕ) (key i p : ℕ) (new more : List ℕ) → key ≡ key_at firsts bits i → IsSplitSoFar firsts bits f i new → IsHead f g key i p → more ≡ new ++ p ∷ [] → IsSplitSoFar firsts bits g (i + 1) more
  split-step f g key i p new more is so_far head e = by head
    where
      each : length more ≡ i + 1
      each = ap length e ∙ length-append new (p ∷ []) ∙ ap (λ (n : ℕ). n + 1) so_far.each

      known_by : ((j q : ℕ) → slice_get new j ≡ Some q → g (key_at firsts bits j) ≡ Some q) → g key ≡ Some p → (j q : ℕ) → slice_get more j ≡ Some q → g (key_at firsts bits j) ≡ Some q
      known_by before here j q at = pick (push-cases new p j q (ap (λ (xs : List ℕ). slice_get xs j) (sym e) ∙ at))
        where
          pick : (slice_get new j ≡ Some q) ⊎ ((j ≡ length new) × (q ≡ p)) → g (key_at firsts bits j) ≡ Some q
          pick (inl there) = before j q there
          pick (inr (last, same)) = ap (λ (k : ℕ). g (key_at firsts bits k)) (last ∙ so_far.each) ∙ ap g (sym is) ∙ here ∙ ap Some (sym same)

      by : IsHead f g key i p → IsSplitSoFar firsts bits g (i + 1) more
      by (inl (found, same)) = record {
        each = each;
        heads = λ k q at. let h = so_far.heads k q (sym (same k) ∙ at) in (omega (arith, h.0), h.1);
        known = known_by (λ j q at. same (key_at firsts bits j) ∙ so_far.known j q at) (same key ∙ found);
      }
      by (inr (none, itself, here, others)) = record {
        each = each;
        heads = λ k q at. heads_by k q at (key == k) refl;
        known = known_by
            (λ j q at.
            let apart : key ≢ key_at firsts bits j = λ (same : key ≡ key_at firsts bits j). let x : None ≡ Some q = sym none ∙ ap f same ∙ so_far.known j q at in cc in
            others (key_at firsts bits j) (apart-test key (key_at firsts bits j) apart) ∙ so_far.known j q at)
            (here ∙ ap Some (sym itself));
      }
        where
          heads_by : (k q : ℕ) → g k ≡ Some q → (b : Bool) → (key == k) ≡ b → (q < i + 1) × (key_at firsts bits q ≡ k)
          heads_by k q at true test =
              let same : key ≡ k = (Decides-eqb key k).0 test in
              let last : i ≡ q = same_Some i q (sym here ∙ ap g same ∙ at) in
              (omega (arith, last), ap (key_at firsts bits) (sym last) ∙ sym is ∙ same)
          heads_by k q at false test = let h = so_far.heads k q (sym (others k test) ∙ at) in (omega (arith, h.0), h.1)

same-bit : (b c : Bool) → not (beq b c) ≡ false → b ≡ c
same-bit true true e = refl
same-bit true false e = e
same-bit false true e = sym e
same-bit false false e = refl

-- one place more that has the bit of its first place
pub follows-step : (firsts : List ℕ) (bits : List Bool) (i : ℕ) → i < length firsts → not (beq (get_or bits i false) (get_or bits (get_or firsts i 0) false)) ≡ false
    → ((j p : ℕ) → j < i → slice_get firsts j ≡ Some p → get_or bits j false ≡ get_or bits p false) → (j p : ℕ) → j < i + 1 → slice_get firsts j ≡ Some p → get_or bits j false ≡ get_or bits p false
follows-step firsts bits i inside test so_far j p below at = by (j == i) refl
  where
    by : (b : Bool) → (j == i) ≡ b → get_or bits j false ≡ get_or bits p false
    by true same =
        let e : j ≡ i = (Decides-eqb j i).0 same in
        let first : get_or firsts i 0 ≡ p = get_or_from_slice_get firsts i p 0 (ap (slice_get firsts) (sym e) ∙ at) in
        ap (λ (k : ℕ). get_or bits k false) e ∙ same-bit (get_or bits i false) (get_or bits (get_or firsts i 0) false) test ∙ ap (λ (k : ℕ). get_or bits k false) first
    by false other = let apart : j ≢ i = λ (e : j ≡ i). differs ((Decides-eqb j i).1 e) other in so_far j p (omega (arith, apart, below)) at
      where
        differs : (j == i) ≡ true → (j == i) ≡ false → ⊥
        differs p q = let e : true ≡ false = sym p ∙ q in cc

-- before the first row all places have the first one
pub agree-start : (row : ℕ → ℕ → Bool) (count : ℕ) (firsts : List ℕ) → firsts ≡ replicate count 0 → AgreeSoFar row count 0 firsts
agree-start row count firsts zeros = record {
  each = each;
  within = λ i p at. let inside = slice_get_within firsts i p at in let zero = first i p at in omega (arith, zero, inside, each);
  sound = λ i p at m less. absurd (omega (arith, less));
  complete = λ i j p q at there agree. first i p at ∙ sym (first j q there);
}
  where
    each : length firsts ≡ count
    each = ap length zeros ∙ length-replicate count 0

    first : (i p : ℕ) → slice_get firsts i ≡ Some p → p ≡ 0
    first i p at =
        let inside : i < count = omega (arith, slice_get_within firsts i p at, each) in
        sym (get_or_from_slice_get firsts i p 0 at) ∙ ap (λ (fs : List ℕ). get_or fs i 0) zeros ∙ get_or-replicate count i 0 0 inside

-- the number of rows fits
pub last-row : (number vars : ℕ) → vars ≤ 16 → (1 * 2 ^ vars) % 2 ^ 32 ≤ number → number ≤ (1 * 2 ^ vars) % 2 ^ 32 → number ≡ 2 ^ vars
last-row number vars few past within =
    let zero-two : 0 < 2 = omega arith in
    let small : 2 ^ vars ≤ 2 ^ 16 = pow-le-pow_right {n = 2} zero-two few in
    omega (arith, small, past, within)
