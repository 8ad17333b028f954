-- The pairs of a cycle, one after the other.
use Rattle.std.proofs.Common.{◌≡◌, ℕ, zero, suc, ◌+◌, ◌<◌, Bool, false, List, [], ◌∷◌, ◌++◌, map, length, take, get_or, set, slice_get, refl, sym, ap, ◌∙◌, arith, Option, Some}
use Rattle.std.specs.Prelude.{◌||◌}
use Rattle.std.proofs.lemmas.List.{map-append, take_more, flat_map_more}
use Rattle.std.proofs.lemmas.Option.{none-some, same_Some}
use Rattle.sec_setup.specs.declared.ports.pairs.SignalPair.{SignalPair}
use Rattle.sec_setup.specs.ports.Pairs.{NamedPair, places_of}
use Rattle.cycle_sim.specs.declared.pair_runs.differences.Difference.{Difference}
use Rattle.job_known.specs.Cycle.{marked}
use Rattle.job_known.specs.Pairs.{both_known, difference_of, differences_in}

-- one pair more of those that are looked at
taken : (pairs : List SignalPair) (i : ℕ) (p : SignalPair) → i < length pairs → p ≡ get_or pairs i p → map places_of (take (i + 1) pairs) ≡ map places_of (take i pairs) ++ places_of p ∷ []
taken pairs i p within is = ap (map places_of) (take_more pairs i p within ∙ ap (λ (q : SignalPair). take i pairs ++ q ∷ []) (sym is)) ∙ map-append places_of (take i pairs) (p ∷ [])

module _ (x y : ℕ → Option Bool) where
  -- it may have a difference
  pub differences_more : (t : ℕ) (front found new : List Difference) (pairs : List SignalPair) (i : ℕ) (p : SignalPair) → found ≡ front ++ differences_in t x y (map places_of (take i pairs)) → i < length pairs → p ≡ get_or pairs i p →
      new ≡ found ++ difference_of t p.name (x p.left.0) (y p.right.0) → new ≡ front ++ differences_in t x y (map places_of (take (i + 1) pairs))
  differences_more t front found new pairs i p before within is grown =
      grown
      ∙ (ap (λ (ds : List Difference). ds ++ difference_of t p.name (x p.left.0) (y p.right.0)) before
      ∙ (flat_map_more (λ (q : NamedPair ℕ ℕ). difference_of t q.name (x q.left) (y q.right)) front (map places_of (take i pairs)) (places_of p)
      ∙ ap (λ (qs : List (NamedPair ℕ ℕ)). front ++ differences_in t x y qs) (sym (taken pairs i p within is))))

  -- it is marked
  pub marked_more : (pairs : List SignalPair) (seen : List Bool) (j : ℕ) (p : SignalPair) → slice_get pairs j ≡ Some p → length seen ≡ length pairs →
      set (marked x y (map places_of (take j pairs)) seen) j (get_or (marked x y (map places_of (take j pairs)) seen) j false || both_known (x p.left.0) (y p.right.0)) ≡ marked x y (map places_of (take (suc j) pairs)) seen
  marked_more [] seen j p h e = absurd (none-some p h)
  marked_more (q ∷ pairs) [] j p h e = absurd (omega (arith, e))
  marked_more (q ∷ pairs) (s ∷ seen) zero p h e = ap (λ (r : SignalPair). (s || both_known (x r.left.0) (y r.right.0)) ∷ seen) (sym (same_Some q p h))
  marked_more (q ∷ pairs) (s ∷ seen) (suc j) p h e = ap (λ (bits : List Bool). (s || both_known (x q.left.0) (y q.right.0)) ∷ bits) (marked_more pairs seen j p h (omega (arith, e)))

  -- marks by a test, and by it or what is known
  pub marked_by : (f : NamedPair ℕ ℕ → Bool) (pairs : List (NamedPair ℕ ℕ)) → marked x y pairs (map f pairs) ≡ map (λ (p : NamedPair ℕ ℕ). f p || both_known (x p.left) (y p.right)) pairs
  marked_by f [] = refl
  marked_by f (p ∷ pairs) = ap (λ (bits : List Bool). (f p || both_known (x p.left) (y p.right)) ∷ bits) (marked_by f pairs)
