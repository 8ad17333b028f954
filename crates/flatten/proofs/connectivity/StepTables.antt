-- Tables of steps back along ports.
use Rattle.std.proofs.Common.{◌≡◌, ◌∙◌, ◌<◌, ◌≤◌, ◌+◌, ◌-◌, ℕ, zero, suc, Bool, true, false, cond, List, [], ◌∷◌, ◌++◌, length, map, get_or, slice_get, Option, Some, None, refl, sym, ap, subst, inl, inr, arith, true≢false}
use Rattle.std.specs.Prelude.{◌⊎◌, slice_index, unwrap_or, is_some}
use Rattle.std.specs.List.{All, count_by}
use Rattle.std.proofs.lemmas.List.{length-map, get_or_past}
use Rattle.std.proofs.lemmas.Bool.{cases_lt}
use Rattle.std.proofs.lemmas.List.Elements.{All-from_get_or}
use Rattle.std.proofs.lemmas.List.Sums.{sum_by-cons}
use Rattle.std.proofs.lemmas.Option.{none-some, same_Some, slice_get_within, slice_get-get_or, get_or_from_slice_get}
use Rattle.circuit_theory.proofs.Numbers.{slice_get-map}
use Rattle.base_tables.proofs.TableLemmas.{key_at}
use Rattle.flatten.specs.connectivity.Steps.{ArePortsWithin, is_open, back, back_by, IsBackBy, net_at, AreEnds}
use Rattle.flatten.proofs.connectivity.Joined.{slice_get-append_cases}

back_by-suc : (froms : List (Option ℕ)) (j n : ℕ) → back_by froms (suc j) n ≡ back_by froms j (back froms n)
unfolding back_by
back_by-suc froms j n = refl

pub back_by-add : (froms : List (Option ℕ)) (j k n : ℕ) → back_by froms (j + k) n ≡ back_by froms k (back_by froms j n)
unfolding back_by
back_by-add froms zero k n = let e : 0 + k ≡ k = omega arith in ap (λ m. back_by froms m n) e
back_by-add froms (suc j) k n = let e : suc j + k ≡ suc (j + k) = omega arith in ap (λ m. back_by froms m n) e ∙ back_by-add froms j k (back froms n)

-- what stands in the table
pub entry : (froms : List (Option ℕ)) (n m : ℕ) → get_or froms n None ≡ Some m → slice_get froms n ≡ Some (Some m)
entry froms n m e = by (cases_lt n (length froms))
  where
    by : (n < length froms) ⊎ (length froms ≤ n) → slice_get froms n ≡ Some (Some m)
    by (inl below) = slice_get-get_or froms n None below ∙ ap Some e
    by (inr past) = absurd (none-some m (sym (get_or_past froms n None past) ∙ e))

-- a step stays within the table
pub back_within : (froms : List (Option ℕ)) → ArePortsWithin froms → (n : ℕ) → n < length froms → back froms n < length froms
back_within froms within n below = by (get_or froms n None) refl
  where
    by : (o : Option ℕ) → get_or froms n None ≡ o → unwrap_or o n < length froms
    by None e = below
    by (Some m) e = within n m (entry froms n m e)

-- at an end a step stays
closed_stays : (froms : List (Option ℕ)) (n : ℕ) → is_open froms n ≡ false → back froms n ≡ n
closed_stays froms n h = by (get_or froms n None) h
  where
    by : (o : Option ℕ) → is_some o ≡ false → unwrap_or o n ≡ n
    by None e = refl
    by (Some m) e = absurd (true≢false e)

closed_all : (froms : List (Option ℕ)) (k n : ℕ) → is_open froms n ≡ false → back_by froms k n ≡ n
unfolding back_by
closed_all froms zero n h = refl
closed_all froms (suc k) n h = ap (λ m. back_by froms k m) (closed_stays froms n h) ∙ closed_all froms k n h

-- what stands at an open place and at a closed one
open_at : (froms : List (Option ℕ)) (n : ℕ) → is_open froms n ≡ true → (m : ℕ) × (slice_get froms n ≡ Some (Some m))
open_at froms n h = by (get_or froms n None) refl h
  where
    by : (o : Option ℕ) → get_or froms n None ≡ o → is_some o ≡ true → (m : ℕ) × (slice_get froms n ≡ Some (Some m))
    by None e k = absurd (true≢false (sym k))
    by (Some m) e k = (m, entry froms n m e)

closed_at : (froms : List (Option ℕ)) (n : ℕ) → n < length froms → is_open froms n ≡ false → slice_get froms n ≡ Some None
closed_at froms n below h = slice_get-get_or froms n None below ∙ ap Some (by (get_or froms n None) h)
  where
    by : (o : Option ℕ) → is_some o ≡ false → o ≡ None
    by None k = refl
    by (Some m) k = absurd (true≢false k)

-- the table of one step, signal by signal
pub record AreBack (froms : List (Option ℕ)) (at : List ℕ) : Type 0 where
  pub each : (n m : ℕ) → slice_get at n ≡ Some m → back froms n ≡ m

pub back_push : (froms : List (Option ℕ)) (at : List ℕ) (n x : ℕ) → n ≡ length at → back froms n ≡ x → AreBack froms at → AreBack froms (at ++ x ∷ [])
back_push froms at n x end is old = record { each = λ k m h. by k m (slice_get-append_cases at (x ∷ []) k m h) }
  where
    by_last : (k m j : ℕ) → length at + j ≡ k → slice_get (x ∷ []) j ≡ Some m → back froms k ≡ m
    by_last k m zero e here = let same : n ≡ k = omega (arith, e, end) in subst (λ i. back froms i ≡ m) same (is ∙ same_Some x m here)
    by_last k m (suc j) e here = absurd (none-some m here)

    by : (k m : ℕ) → (slice_get at k ≡ Some m) ⊎ ((j : ℕ) × (length at + j ≡ k) × (slice_get (x ∷ []) j ≡ Some m)) → back froms k ≡ m
    by k m (inl here) = old.each k m here
    by k m (inr (j, e, here)) = by_last k m j e here

pub one_back_all : (froms : List (Option ℕ)) (at : List ℕ) → length at ≡ length froms → ArePortsWithin froms → AreBack froms at → IsBackBy froms 1 at
unfolding back_by
one_back_all froms at len within old = record {
  len = len;
  each = λ n m h. old.each n m h;
  within = λ n m h. subst (λ k. k < length froms) (old.each n m h) (back_within froms within n (subst (λ k. n < k) len (slice_get_within at n m h)));
}

-- all are within the table
pub all_within : (froms : List (Option ℕ)) (k : ℕ) (at : List ℕ) → IsBackBy froms k at → All (λ m. m < length froms) at
all_within froms k at b = All-from_get_or (λ m. m < length froms) at 0 (λ i below. b.within i (get_or at i 0) (slice_get-get_or at i 0 below))

pub all_within_itself : (froms : List (Option ℕ)) (k : ℕ) (at : List ℕ) → IsBackBy froms k at → All (λ m. m < length at) at
all_within_itself froms k at b = subst (λ n. All (λ m. m < n) at) (sym b.len) (all_within froms k at b)

-- twice as far
pub twice_back : (froms : List (Option ℕ)) (k : ℕ) (at : List ℕ) → IsBackBy froms k at → IsBackBy froms (k + k) (map (slice_index at) at)
twice_back froms k at b = record {
  len = length-map at (slice_index at) ∙ b.len;
  each = λ n m h.
      let old = key_at (slice_index at) at n m h in
      let here : slice_get at old.0 ≡ Some (slice_index at old.0) = slice_get-get_or at old.0 0 (subst (λ z. old.0 < z) (sym b.len) (b.within n old.0 old.1)) in
      back_by-add froms k k n ∙ ap (λ z. back_by froms k z) (b.each n old.0 old.1) ∙ b.each old.0 (slice_index at old.0) here ∙ old.2;
  within = λ n m h.
      let old = key_at (slice_index at) at n m h in
      let here : slice_get at old.0 ≡ Some (slice_index at old.0) = slice_get-get_or at old.0 0 (subst (λ z. old.0 < z) (sym b.len) (b.within n old.0 old.1)) in
      subst (λ z. z < length froms) old.2 (b.within old.0 (slice_index at old.0) here);
}

-- where as many pass as before, the same pass
module _ (p : ℕ → Bool) where
  count_cons : (x : ℕ) (xs : List ℕ) → count_by p (x ∷ xs) ≡ cond (p x) 1 0 + count_by p xs
  count_cons x xs = sum_by-cons (λ y. cond (p y) 1 0) x xs

  fewer : (xs ys : List ℕ) → length xs ≡ length ys → ((i x y : ℕ) → slice_get xs i ≡ Some x → slice_get ys i ≡ Some y → p y ≡ true → p x ≡ true) → count_by p ys ≤ count_by p xs
  fewer [] [] len h = omega arith
  fewer [] (y ∷ ys) len h = absurd (omega (arith, len))
  fewer (x ∷ xs) [] len h = absurd (omega (arith, len))
  fewer (x ∷ xs) (y ∷ ys) len h = by (p x) (p y) refl refl (fewer xs ys (omega (arith, len)) (λ i a b. h (suc i) a b))
    where
      by : (a b : Bool) → p x ≡ a → p y ≡ b → count_by p ys ≤ count_by p xs → count_by p (y ∷ ys) ≤ count_by p (x ∷ xs)
      by true true ex ey k = omega (arith, k, count_cons x xs ∙ ap (λ t. cond t 1 0 + count_by p xs) ex, count_cons y ys ∙ ap (λ t. cond t 1 0 + count_by p ys) ey)
      by true false ex ey k = omega (arith, k, count_cons x xs ∙ ap (λ t. cond t 1 0 + count_by p xs) ex, count_cons y ys ∙ ap (λ t. cond t 1 0 + count_by p ys) ey)
      by false false ex ey k = omega (arith, k, count_cons x xs ∙ ap (λ t. cond t 1 0 + count_by p xs) ex, count_cons y ys ∙ ap (λ t. cond t 1 0 + count_by p ys) ey)
      by false true ex ey k = absurd (true≢false (sym (h 0 x y refl refl ey) ∙ ex))

  pub same_pass : (xs ys : List ℕ) → length xs ≡ length ys → ((i x y : ℕ) → slice_get xs i ≡ Some x → slice_get ys i ≡ Some y → p y ≡ true → p x ≡ true) → count_by p xs ≤ count_by p ys →
      (i x y : ℕ) → slice_get xs i ≡ Some x → slice_get ys i ≡ Some y → p x ≡ true → p y ≡ true
  same_pass [] ys len h count i x y hx hy px = absurd (none-some x hx)
  same_pass (a ∷ xs) [] len h count i x y hx hy px = absurd (none-some y hy)
  same_pass (a ∷ xs) (b ∷ ys) len h count i x y hx hy px =
      by (p a) (p b) refl refl (λ k j jx jy. same_pass xs ys (omega (arith, len)) (λ m c d. h (suc m) c d) k j x y jx jy px)
    where
      more : count_by p ys ≤ count_by p xs
      more = fewer xs ys (omega (arith, len)) (λ j c d. h (suc j) c d)

      at : (u v : Bool) → p a ≡ u → p b ≡ v → (u ≡ true → v ≡ true) → ((j : ℕ) → slice_get xs j ≡ Some x → slice_get ys j ≡ Some y → p y ≡ true) →
          (j : ℕ) → slice_get (a ∷ xs) j ≡ Some x → slice_get (b ∷ ys) j ≡ Some y → p y ≡ true
      at u v ea eb go later zero jx jy =
          let pa : p a ≡ true = ap p (same_Some a x jx) ∙ px in
          ap p (sym (same_Some b y jy)) ∙ eb ∙ go (sym ea ∙ pa)
      at u v ea eb go later (suc j) jx jy = later j jx jy

      by : (u v : Bool) → p a ≡ u → p b ≡ v → (count_by p xs ≤ count_by p ys → (j : ℕ) → slice_get xs j ≡ Some x → slice_get ys j ≡ Some y → p y ≡ true) → p y ≡ true
      by true true ea eb later = at true true ea eb (λ e. e) (later (omega (arith, count, count_cons a xs ∙ ap (λ t. cond t 1 0 + count_by p xs) ea, count_cons b ys ∙ ap (λ t. cond t 1 0 + count_by p ys) eb))) i hx hy
      by false false ea eb later = at false false ea eb (λ e. e) (later (omega (arith, count, count_cons a xs ∙ ap (λ t. cond t 1 0 + count_by p xs) ea, count_cons b ys ∙ ap (λ t. cond t 1 0 + count_by p ys) eb))) i hx hy
      by false true ea eb later = absurd (true≢false (sym (h 0 a b refl refl eb) ∙ ea))
      by true false ea eb later = absurd (omega (arith, count, more, count_cons a xs ∙ ap (λ t. cond t 1 0 + count_by p xs) ea, count_cons b ys ∙ ap (λ t. cond t 1 0 + count_by p ys) eb))

-- where a round comes to no new end, all is settled
module _ (froms : List (Option ℕ)) (k : ℕ) (at next : List ℕ) (some : 0 < k) (b : IsBackBy froms k at) (c : IsBackBy froms (k + k) next) (ports : ArePortsWithin froms)
    (count : count_by (is_open froms) at ≤ count_by (is_open froms) next) where
  -- an end stays an end
  ended_before : (i x y : ℕ) → slice_get at i ≡ Some x → slice_get next i ≡ Some y → is_open froms y ≡ true → is_open froms x ≡ true
  ended_before i x y hx hy going = by (is_open froms x) refl
    where
      by : (u : Bool) → is_open froms x ≡ u → is_open froms x ≡ true
      by true e = e
      by false e =
          let same : y ≡ x = sym (c.each i y hy) ∙ back_by-add froms k k i ∙ ap (λ z. back_by froms k z) (b.each i x hx) ∙ closed_all froms k x e in
          absurd (true≢false (sym going ∙ ap (is_open froms) same ∙ e))

  still : (i x y : ℕ) → slice_get at i ≡ Some x → slice_get next i ≡ Some y → is_open froms x ≡ true → is_open froms y ≡ true
  still = same_pass (is_open froms) at next (b.len ∙ sym c.len) ended_before count

  -- what one port leads to from an going signal is going too
  next_open : (n a m : ℕ) → slice_get next n ≡ Some a → is_open froms a ≡ true → slice_get froms n ≡ Some (Some m) → (z : ℕ) × (slice_get next m ≡ Some z) × (is_open froms z ≡ true)
  next_open n a m hn going from =
      let below : m < length froms = ports n m from in
      let at_m = slice_get-get_or at m 0 (subst (λ z. m < z) (sym b.len) below) in
      let next_m = slice_get-get_or next m 0 (subst (λ z. m < z) (sym c.len) below) in
      (get_or next m 0, next_m, by (is_open froms (get_or at m 0)) refl at_m next_m)
    where
      step : back froms n ≡ m
      step = ap (λ o. unwrap_or o n) (get_or_from_slice_get froms n (Some m) None from)

      one_more : (j : ℕ) → back_by froms (suc j) n ≡ back_by froms j m
      one_more j = back_by-suc froms j n ∙ ap (λ z. back_by froms j z) step

      by : (u : Bool) → is_open froms (get_or at m 0) ≡ u → slice_get at m ≡ Some (get_or at m 0) → slice_get next m ≡ Some (get_or next m 0) → is_open froms (get_or next m 0) ≡ true
      by true e at_m next_m = still m (get_or at m 0) (get_or next m 0) at_m next_m e
      by false e at_m next_m =
          let far : back_by froms (suc k) n ≡ get_or at m 0 = one_more k ∙ b.each m (get_or at m 0) at_m in
          let sum : suc k + (k - 1) ≡ k + k = omega (arith, some) in
          let same : a ≡ get_or at m 0 =
          sym (c.each n a hn) ∙ sym (ap (λ z. back_by froms z n) sum) ∙ back_by-add froms (suc k) (k - 1) n
          ∙ ap (λ z. back_by froms (k - 1) z) far ∙ closed_all froms (k - 1) (get_or at m 0) e in
          absurd (true≢false (sym going ∙ ap (is_open froms) same ∙ e))

  none_open : (a : ℕ) → net_at froms a ≡ None → is_open froms a ≡ true
  none_open a h = by (is_open froms a) h
    where
      by : (u : Bool) → cond u None (Some a) ≡ None → u ≡ true
      by true e = refl
      by false e = absurd (none-some a (sym e))

  open_none : (a : ℕ) → is_open froms a ≡ true → net_at froms a ≡ None
  open_none a e = ap (λ u. cond u None (Some a)) e

  some_closed : (a m : ℕ) → net_at froms a ≡ Some m → (is_open froms a ≡ false) × (a ≡ m)
  some_closed a m h = by (is_open froms a) h
    where
      by : (u : Bool) → cond u None (Some a) ≡ Some m → (u ≡ false) × (a ≡ m)
      by true e = absurd (none-some m e)
      by false e = (refl, same_Some a m e)

  pub settled : AreEnds froms (map (net_at froms) next)
  settled = record {
    len = length-map next (net_at froms) ∙ c.len;
    net = λ n m h.
        let old = key_at (net_at froms) next n (Some m) h in
        let ends = some_closed old.0 m old.2 in
        ((k + k, c.each n old.0 old.1 ∙ ends.1), subst (λ z. slice_get froms z ≡ Some None) ends.1 (closed_at froms old.0 (c.within n old.0 old.1) ends.0));
    ring = λ n h.
        let old = key_at (net_at froms) next n None h in
        ring_at n old.0 old.1 (none_open old.0 old.2);
  }
    where
      ring_at : (n a : ℕ) → slice_get next n ≡ Some a → is_open froms a ≡ true → (m : ℕ) × (slice_get froms n ≡ Some (Some m)) × (slice_get (map (net_at froms) next) m ≡ Some None)
      ring_at n a hn going = by (is_open froms n) refl
        where
          by : (u : Bool) → is_open froms n ≡ u → (m : ℕ) × (slice_get froms n ≡ Some (Some m)) × (slice_get (map (net_at froms) next) m ≡ Some None)
          by true e =
              let from = open_at froms n e in
              let z = next_open n a from.0 hn going from.1 in
              (from.0, from.1, slice_get-map (net_at froms) next from.0 z.0 z.1 ∙ ap Some (open_none z.0 z.2))
          by false e =
              let same : a ≡ n = sym (c.each n a hn) ∙ closed_all froms (k + k) n e in
              absurd (true≢false (sym going ∙ ap (is_open froms) same ∙ e))
