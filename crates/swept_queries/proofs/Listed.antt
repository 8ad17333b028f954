-- The roots of queries, three for each, and the literals that are made for them.
use Rattle.std.proofs.Common.{◌≡◌, ℕ, zero, suc, ◌+◌, ◌*◌, ◌<◌, List, [], ◌∷◌, ◌++◌, length, take, get_or, slice_get, Some, refl, sym, ◌∙◌, ap, subst, arith, append_assoc}
use Rattle.std.specs.List.{All, AllZip}
use Rattle.std.proofs.lemmas.List.{take_more}
use Rattle.std.proofs.lemmas.List.Elements.{All-nil, All-cons, All-head, All-tail, All-get_or}
use Rattle.std.proofs.lemmas.Option.{none-some, same_Some, slice_get_within, get_or_from_slice_get}
use Rattle.swept_queries.specs.sweep.aig.Lit.{Lit}
use Rattle.swept_queries.specs.sweep.aig.Node.{Node}
use Rattle.swept_queries.specs.declared.sides.Sides.{Sides}
use Rattle.swept_queries.specs.declared.sides.Known.{Known}
use Rattle.swept_queries.specs.declared.sides.Known.TheVariants.{Nothing, Swept, Apart}
use Rattle.swept_queries.specs.Roots.{zero_lit, three, roots_for, HasThree}
use Rattle.swept_queries.specs.InStead.{AreKnownWithin}

roots_for-append : (xs ys : List Known) → roots_for (xs ++ ys) ≡ roots_for xs ++ roots_for ys
roots_for-append [] ys = refl
roots_for-append (o ∷ xs) ys = ap (λ (ls : List Lit). three o ++ ls) (roots_for-append xs ys) ∙ sym (append_assoc (three o) (roots_for xs) (roots_for ys))

append-nothing : (xs : List Lit) → xs ++ [] ≡ xs
append-nothing [] = refl
append-nothing (x ∷ xs) = ap (λ (ys : List Lit). x ∷ ys) (append-nothing xs)

-- the roots of one query more
pub roots_for-step : (asked : List Known) (i : ℕ) (d : Known) (roots new : List Lit) → i < length asked → roots ≡ roots_for (take i asked) → new ≡ roots ++ three (get_or asked i d) → new ≡ roots_for (take (i + 1) asked)
roots_for-step asked i d roots new within are more =
    more ∙ ap (λ (ls : List Lit). ls ++ three (get_or asked i d)) are ∙ ap (λ (ls : List Lit). roots_for (take i asked) ++ ls) (sym (append-nothing (three (get_or asked i d))))
    ∙ sym (roots_for-append (take i asked) (get_or asked i d ∷ [])) ∙ ap roots_for (sym (take_more asked i d within))

pub roots_for-length : (asked : List Known) → length (roots_for asked) ≡ 3 * length asked
roots_for-length [] = refl
roots_for-length (Nothing ∷ asked) = let rest : length (roots_for asked) ≡ 3 * length asked = roots_for-length asked in omega (arith, rest)
roots_for-length (Swept t ∷ asked) = let rest : length (roots_for asked) ≡ 3 * length asked = roots_for-length asked in omega (arith, rest)
roots_for-length (Apart k ∷ asked) = let rest : length (roots_for asked) ≡ 3 * length asked = roots_for-length asked in omega (arith, rest)

-- behind three others
later : (known : Known) (lits : List Lit) (j k : ℕ) (l : Lit) → k ≡ suc (suc (suc j)) → slice_get lits j ≡ Some l → slice_get (three known ++ lits) k ≡ Some l
later Nothing lits j k l e at = ap (slice_get (zero_lit ∷ zero_lit ∷ zero_lit ∷ lits)) e ∙ at
later (Swept t) lits j k l e at = ap (slice_get (t.left ∷ t.right ∷ t.care ∷ lits)) e ∙ at
later (Apart n) lits j k l e at = ap (slice_get (zero_lit ∷ zero_lit ∷ zero_lit ∷ lits)) e ∙ at

-- a query's roots stand in its three places
pub roots_for-at : (asked : List Known) (i : ℕ) (t : Sides) → slice_get asked i ≡ Some (Swept t) → HasThree (roots_for asked) i t
roots_for-at [] i t at = absurd (none-some (Swept t) at)
roots_for-at (known ∷ asked) zero t at = go known (same_Some known (Swept t) at)
  where
    go : (k : Known) → k ≡ Swept t → HasThree (three k ++ roots_for asked) zero t
    go k e = subst (λ (m : Known). HasThree (three m ++ roots_for asked) zero t) (sym e) (record { left = refl; right = refl; care = refl })
roots_for-at (known ∷ asked) (suc i) t at =
    let h = roots_for-at asked i t at in
    record {
      left = later known (roots_for asked) (3 * i) (3 * suc i) t.left (omega arith) h.left;
      right = later known (roots_for asked) (3 * i + 1) (3 * suc i + 1) t.right (omega arith) h.right;
      care = later known (roots_for asked) (3 * i + 2) (3 * suc i + 2) t.care (omega arith) h.care;
    }

-- the roots are literals of the graph
pub roots_for-within : (g : List Node) (asked : List Known) → 0 < length g → All (AreKnownWithin g) asked → All (λ (l : Lit). l.0 < 2 * length g) (roots_for asked)
roots_for-within g [] some are = All-nil (λ (l : Lit). l.0 < 2 * length g)
roots_for-within g (known ∷ asked) some are = go known (All-head (AreKnownWithin g) known asked are) (roots_for-within g asked some (All-tail (AreKnownWithin g) known asked are))
  where
    F : Lit → Type 0
    F l = l.0 < 2 * length g

    zeros : All F (roots_for asked) → All F (zero_lit ∷ zero_lit ∷ zero_lit ∷ roots_for asked)
    zeros rest =
        let zero : 0 < 2 * length g = omega arith in
        All-cons F zero_lit (zero_lit ∷ zero_lit ∷ roots_for asked) zero (All-cons F zero_lit (zero_lit ∷ roots_for asked) zero (All-cons F zero_lit (roots_for asked) zero rest))

    go : (k : Known) → AreKnownWithin g k → All F (roots_for asked) → All F (three k ++ roots_for asked)
    go Nothing k rest = zeros rest
    go (Swept t) k rest =
        All-cons F t.left (t.right ∷ t.care ∷ roots_for asked) k.left (All-cons F t.right (t.care ∷ roots_for asked) k.right (All-cons F t.care (roots_for asked) k.care rest))
    go (Apart n) k rest = zeros rest

-- what holds of each element holds of the one at a place
pub All-at : {X : Type 0} (P : X → Type 0) (xs : List X) (i : ℕ) (x : X) → slice_get xs i ≡ Some x → All P xs → P x
All-at P xs i x here all = subst P (get_or_from_slice_get xs i x x here) (All-get_or P xs i x (slice_get_within xs i x here) all)

-- each element on the right has its element on the left
pub zip_left : {X Y : Type 0} (R : X → Y → Type 0) (xs : List X) (ys : List Y) → AllZip R xs ys → (i : ℕ) (y : Y) → slice_get ys i ≡ Some y → (x : X) × (slice_get xs i ≡ Some x) × R x y
zip_left R [] [] h i y e = absurd (none-some y e)
zip_left R [] (z ∷ ys) h i y e = absurd h
zip_left R (x ∷ xs) [] h i y e = absurd h
zip_left R (x ∷ xs) (z ∷ ys) h zero y e = let same : z ≡ y = same_Some z y e in (x, refl, subst (R x) same h.0)
zip_left R (x ∷ xs) (z ∷ ys) h (suc i) y e = zip_left R xs ys h.1 i y e
