-- The variables of the signals that are reached.
use Rattle.std.proofs.Common.{◌≡◌, ◌∙◌, ◌+◌, ◌⊎◌, ℕ, List, [], ◌∷◌, ◌++◌, take, slice_get, Option, Some, None, refl, sym, ap, subst, arith, inl, inr, eqb}
use Rattle.std.specs.Ordering.{nat_cmp}
use Rattle.std.specs.List.{Contains, filter_map, dedup, cons_option}
use Rattle.std.specs.List.Sorted.{IsPermutation, IsSorted, IsStrictlyIncreasing}
use Rattle.std.proofs.lemmas.List.{take_more}
use Rattle.std.proofs.lemmas.List.Elements.{filter_map-append, Contains-append_left, Contains-append_right, Contains-append_cases}
use Rattle.std.proofs.lemmas.Option.{same_Some, slice_get_within, get_or_from_slice_get}
use Rattle.std.proofs.lemmas.List.Kept.{Contains-dedup_nat, Contains-from_dedup}
use Rattle.std.proofs.lemmas.List.Sorted.{Contains-permutation, IsPermutation-sym}
use Rattle.std.proofs.lemmas.Map.Keys.{IsStrictlyIncreasing-dedup}
use Rattle.circuit_theory.proofs.Lists.{Contains-head, Contains-tail, Contains-cases, filter_map-from, at_of}
use Rattle.flat_net.specs.View.{NetView}
use Rattle.signal_graph.specs.inner_cone.latch_cone.Cones.{AreReached}
use Rattle.block_refine.specs.declared.latch_blocks.variables.Variables.{Variables}
use Rattle.block_refine.specs.latch_blocks.Signals.{variable_at, AreLeaves, AreMerged}

-- what the function gives of an element is there
filter_map_to : {X Y : Type 0} (f : X → Option Y) (xs : List X) (x : X) (y : Y) → f x ≡ Some y → Contains xs x → Contains (filter_map f xs) y
filter_map_to f [] x y e h = absurd (omega (arith, h.1))
filter_map_to {X} {Y} f (z ∷ zs) x y e h = go (λ k. filter_map_to f zs x y e k) (f z) refl (Contains-cases z x zs h)
  where
    go : (Contains zs x → Contains (filter_map f zs) y) → (o : Option Y) → f z ≡ o → (z ≡ x) ⊎ Contains zs x → Contains (cons_option (f z) (filter_map f zs)) y
    go later None is (inl same) = let k : None ≡ Some y = sym is ∙ ap f same ∙ e in absurd (let no : ⊥ = cc in no)
    go later None is (inr k) = subst (λ (o : Option Y). Contains (cons_option o (filter_map f zs)) y) (sym is) (later k)
    go later (Some v) is (inl same) =
        let one : v ≡ y = same_Some v y (sym is ∙ ap f same ∙ e) in
        subst (λ (o : Option Y). Contains (cons_option o (filter_map f zs)) y) (sym is) (subst (Contains (v ∷ filter_map f zs)) one (Contains-head v (filter_map f zs)))
    go later (Some v) is (inr k) = subst (λ (o : Option Y). Contains (cons_option o (filter_map f zs)) y) (sym is) (Contains-tail v y (filter_map f zs) (later k))

-- the list, and behind it what there is
abbrev pub cons_last : List ℕ → Option ℕ → List ℕ
cons_last found None = found
cons_last found (Some k) = found ++ k ∷ []

append_nil : {X : Type 0} (xs : List X) → xs ++ [] ≡ xs
append_nil [] = refl
append_nil (x ∷ xs) = ap (λ l. x ∷ l) (append_nil xs)

-- one element more at the end of the front
take-push : {X : Type 0} (xs : List X) (i : ℕ) (x : X) → slice_get xs i ≡ Some x → take i xs ++ x ∷ [] ≡ take (i + 1) xs
take-push xs i x at = sym (take_more xs i x (slice_get_within xs i x at) ∙ ap (λ y. take i xs ++ y ∷ []) (get_or_from_slice_get xs i x x at))

-- one element more, of which the function gives something or nothing
pub found_more : (f : ℕ → Option ℕ) (seen : List ℕ) (i s : ℕ) (found : List ℕ) → slice_get seen i ≡ Some s → found ≡ filter_map f (take i seen) → (o : Option ℕ) → f s ≡ o → cons_last found o ≡ filter_map f (take (i + 1) seen)
found_more f seen i s found at is o e = go o e
  where
    front : filter_map f (take (i + 1) seen) ≡ filter_map f (take i seen) ++ cons_option (f s) []
    front = ap (filter_map f) (sym (take-push seen i s at)) ∙ filter_map-append f (take i seen) (s ∷ [])

    go : (o : Option ℕ) → f s ≡ o → cons_last found o ≡ filter_map f (take (i + 1) seen)
    go None e = sym (front ∙ ap (λ k. filter_map f (take i seen) ++ cons_option k []) e ∙ append_nil (filter_map f (take i seen)) ∙ sym is)
    go (Some k) e = sym (front ∙ ap (λ k. filter_map f (take i seen) ++ cons_option k []) e ∙ ap (λ l. l ++ k ∷ []) (sym is))

pub are_leaves : (n : NetView) (w : Variables) (s : ℕ) (seen found : List ℕ) → AreReached n s seen → found ≡ filter_map (variable_at n w) seen → AreLeaves n w s found
are_leaves n w s seen found reached is k = (
  (λ h.
      let p = filter_map-from (variable_at n w) seen k (subst (λ l. Contains l k) is h) in
      let at = at_of seen p.0 p.1 in
      (p.0, reached.some.each at.0 p.0 at.1, p.2)),
  (λ leaf. subst (λ l. Contains l k) (sym is) (filter_map_to (variable_at n w) seen leaf.0 k leaf.2 (reached.all leaf.0 leaf.1))),
)

pub merged_is : (left right all sorted : List ℕ) → IsPermutation (left ++ right) sorted → IsSorted nat_cmp sorted → all ≡ dedup eqb sorted → AreMerged left right all
merged_is left right all sorted moved order is = record {
  increasing = subst IsStrictlyIncreasing (sym is) (IsStrictlyIncreasing-dedup sorted order);
  each = λ k. (
    (λ h. Contains-append_cases left right k (Contains-permutation sorted (left ++ right) k (IsPermutation-sym (left ++ right) sorted moved) (Contains-from_dedup eqb sorted k (subst (λ l. Contains l k) is h)))),
    (λ h. subst (λ l. Contains l k) (sym is) (Contains-dedup_nat sorted k (Contains-permutation (left ++ right) sorted k moved (either k h)))),
  );
}
  where
    either : (k : ℕ) → Contains left k ⊎ Contains right k → Contains (left ++ right) k
    either k (inl h) = Contains-append_left left right k h
    either k (inr h) = Contains-append_right left right k h
