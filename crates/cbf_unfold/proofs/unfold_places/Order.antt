-- Places and numbers in order.
use Rattle.std.proofs.Common.{◌≡◌, ◌≢◌, ◌<◌, ℕ, false, List, length, get_or, refl, sym, subst, arith, inl, inr, true≢false}
use Rattle.std.specs.Prelude.{IsSorted, IsPermutation}
use Rattle.std.specs.List.{AllPairs}
use Rattle.std.specs.Cmp.{IsStrictWeakOrder}
use Rattle.std.specs.declared.cmp.Ordering.{Ordering}
use Rattle.std.specs.declared.cmp.Ordering.TheVariants.{Less, Equal, Greater}
use Rattle.std.specs.Ordering.{is_lt, nat_cmp, ordering_then, MatchOrdering}
use Rattle.std.proofs.lemmas.Cmp.{ranked, then_total, on_total, nat_cmp_total}
use Rattle.std.proofs.lemmas.List.Sorted.{IsPermutation-sym, All-permutation, Contains-permutation, sorted_far, ranks_by}
use Rattle.std.proofs.lemmas.Map.Keys.{IsDistinct-IsPermutation}
use Rattle.std.proofs.lemmas.Map.Made.{AllPairs-from_IsDistinct, IsDistinct-from_AllPairs}
use Rattle.flat_net.specs.Table.{AreDistinct}
use Rattle.flat_net.specs.View.{NetView}
use Rattle.cbf_unfold.specs.unfold_places.Places.{PlaceBefore}
use Rattle.aig.specs.declared.node.Lit.{Lit}
use Rattle.cbf_unfold.specs.unfold_places.Reach.{IsThere}
use Rattle.cbf_unfold.specs.unfold_places.Walk.{AreWalked, IsWalk}
use Rattle.cbf_unfold.proofs.unfold_places.Over.{pairs_differ}
use Rattle.cbf_unfold.proofs.unfold_places.PairTest.{same_pair, decides_pair, flips}

-- the order of pairs by which a sort goes
abbrev pub place_cmp : ℕ × ℕ → ℕ × ℕ → Ordering
place_cmp p q = ordering_then (nat_cmp p.0 q.0) (nat_cmp p.1 q.1)

-- pairs that differ go on to differ in another order
pub differ_permuted : (xs ys : List (ℕ × ℕ)) → IsPermutation xs ys → AllPairs (λ x y. x ≢ y) xs → AllPairs (λ x y. x ≢ y) ys
differ_permuted xs ys moved differ =
    AllPairs-from_IsDistinct decides_pair ys (IsDistinct-IsPermutation same_pair flips xs ys moved (IsDistinct-from_AllPairs decides_pair xs differ))

-- what isn't behind, and isn't the same, is before
before_from : (x y : ℕ × ℕ) → is_lt (place_cmp y x) ≡ false → x ≢ y → PlaceBefore x y
before_from x y h apart = go (nat_cmp y.0 x.0) (nat_cmp y.1 x.1) (ranked y.0 x.0 _ refl) (ranked y.1 x.1 _ refl) h
  where
    go : (o r : Ordering) → MatchOrdering o (y.0 < x.0) (y.0 ≡ x.0) (x.0 < y.0) → MatchOrdering r (y.1 < x.1) (y.1 ≡ x.1) (x.1 < y.1) → is_lt (ordering_then o r) ≡ false → PlaceBefore x y
    go Less r m k e = absurd (true≢false e)
    go Equal Less m k e = absurd (true≢false e)
    go Equal Equal m k e = absurd (apart (λ i. (sym m i, sym k i)))
    go Equal Greater m k e = inr (sym m, k)
    go Greater r m k e = inl m

place_order : IsStrictWeakOrder (λ x y. is_lt (place_cmp x y))
place_order = ranks_by (then_total (on_total (λ (p : ℕ × ℕ). p.0) nat_cmp_total) (on_total (λ (p : ℕ × ℕ). p.1) nat_cmp_total)) (λ p. p)

-- a sorted list of pairs that differ is in order
pub strictly : (xs : List (ℕ × ℕ)) → AllPairs (λ x y. x ≢ y) xs → IsSorted place_cmp xs → AllPairs PlaceBefore xs
strictly xs differ sorted i j d below within = before_from (get_or xs i d) (get_or xs j d) (sorted_far (λ x y. is_lt (place_cmp x y)) place_order xs sorted i j d (omega arith) within) (differ i j d below within)

there_moved : (memo : List ((ℕ × ℕ) × Lit)) (xs ys : List (ℕ × ℕ)) (p : ℕ × ℕ) → IsPermutation xs ys → IsThere memo xs p → IsThere memo ys p
there_moved memo xs ys p moved (inl h) = inl (Contains-permutation xs ys p moved h)
there_moved memo xs ys p moved (inr h) = inr h

pub sorted_walk : (n : NetView) (memo : List ((ℕ × ℕ) × Lit)) (start : ℕ × ℕ) (cap : ℕ) (table places sorted : List (ℕ × ℕ)) → places ≡ table → AreDistinct table → AreWalked n memo start cap table → IsPermutation places sorted → IsSorted place_cmp sorted →
    IsWalk n memo start cap sorted
sorted_walk n memo start cap table places sorted same distinct are moved up =
    let to : IsPermutation table sorted = subst (λ l. IsPermutation l sorted) same moved in
    let back : IsPermutation sorted table = IsPermutation-sym table sorted to in
    record {
      are = record {
        root = there_moved memo table sorted start to are.root;
        closed = λ p q h steps. there_moved memo table sorted q to (are.closed p q (Contains-permutation sorted table p back h) steps);
        comes = λ p h. are.comes p (Contains-permutation sorted table p back h);
        within = All-permutation (λ p. p.1 < length n.drivers) table sorted to are.within;
        late = λ p h. are.late p (Contains-permutation sorted table p back h);
      };
      ordered = strictly sorted (differ_permuted table sorted to (pairs_differ table distinct)) up;
    }
