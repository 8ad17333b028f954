-- A search up to the greatest depth decides all.
use Rattle.std.proofs.Common.{◌≡◌, ◌<◌, ◌≤◌, ℕ, max, List, [], ◌∷◌, ◌++◌, map, sym, subst, arith, inl, inr, ◌⊎◌, Option, Some, None, false, Result, Ok, Err, refl}
use Rattle.std.specs.Prelude.{IsErrAnd}
use Rattle.std.specs.List.{Contains}
use Rattle.std.proofs.lemmas.Bool.{cases_lt}
use Rattle.std.proofs.lemmas.List.Elements.{Contains-push, Contains-push_cases, Contains-append_left}
use Rattle.circuit_theory.specs.declared.Mode.TheVariants.{Plain}
use Rattle.circuit_theory.specs.Circuit.{Circuit}
use Rattle.circuit_theory.specs.Fits.{IsPairDepth}
use Rattle.flat_net.specs.View.{NetView, circuit_of}
use Rattle.sec_setup.specs.declared.error.SetupError.{SetupError}
use Rattle.sec_setup.specs.declared.error.SetupError.TheVariants as unset
use Rattle.sec_setup.specs.declared.setup.Setup.{Setup}
use Rattle.sec_setup.specs.Choosing.{RefusesCycleIn}
use Rattle.sec_setup.specs.Cycles.{IsAcyclic}
use Rattle.sec_setup.specs.Matching.{InterfaceFails, InterfacesMatch}
use Rattle.sec_setup.specs.Setup.{IsSetup}
use Rattle.sec_setup.specs.ports.Pairs.{NamedPair, named_pairs, places_of}
use Rattle.cycle_search.specs.declared.found.Searched.{Searched}
use Rattle.cycle_search.specs.declared.found.SearchVerdict.TheVariants as verdict
use Rattle.cycle_search.specs.Settings.{IsSettingOf}
use Rattle.cycle_search.specs.Searches.{AreSearched, VerdictFits}
use Rattle.job_after.specs.declared.fault.AfterFault.{AfterFault}
use Rattle.job_after.specs.Last.{IsGreatestDepth, IsDeepest, IsLast, DecidesAll, setup_fault, EndsIn}

-- without a wanted last cycle a search that ends with no difference stopped before a next one
pub decided : (l r : NetView) (wanted : Option ℕ) (last conflicts : ℕ) (s : Searched) → IsLast l r wanted last → AreSearched l r last conflicts s → wanted ≡ None → s.verdict ≡ verdict.NoDifference None → ⊥
decided l r (Some n) last conflicts s is are none e = absurd (cc)
decided l r None last conflicts s is are none e =
    let pairs : List (NamedPair ℕ ℕ) = named_pairs [] (circuit_of l) (circuit_of r) in
    let n = are.numbers in
    let fits : VerdictFits n l r last s.last pairs s.pairs (verdict.NoDifference None) = subst (VerdictFits n l r last s.last pairs s.pairs) e are.found.verdict_is in
    fits.1 (λ x h.
    let d = is.greatest.each x h in (
      d.0,
      subst (λ (c : Circuit ℕ). IsPairDepth c n.b x.left x.right d.0) (sym are.are_numbers.left_is) (subst (λ (c : Circuit ℕ). IsPairDepth (circuit_of l) c x.left x.right d.0) (sym are.are_numbers.right_is) d.1),
      omega (arith, d.2, fits.2),
    ))

module _ (c e : Circuit ℕ) where
  pub none_deep : IsGreatestDepth c e [] 0
  none_deep = record { each = λ x h. absurd (omega (arith, h.1)); reached = inl refl }

  -- the greater depth is that of the pair or of one before
  abbrev Reached : List (NamedPair ℕ ℕ) → ℕ → Type 0
  Reached pairs last = (last ≡ 0) ⊎ ((y : NamedPair ℕ ℕ) × Contains pairs y × IsPairDepth c e y.left y.right last)

  most : (pairs : List (NamedPair ℕ ℕ)) (x : NamedPair ℕ ℕ) (greatest depth : ℕ) → IsPairDepth c e x.left x.right depth → (greatest < depth) ⊎ (depth ≤ greatest) → Reached pairs greatest → Reached (pairs ++ x ∷ []) (max depth greatest)
  most pairs x greatest depth deep (inl over) before =
      inr (x, Contains-push pairs x, subst (λ (d : ℕ). IsPairDepth c e x.left x.right d) (let same : depth ≡ max depth greatest = omega (arith, over) in same) deep)
  most pairs x greatest depth deep (inr under) (inl zero) = inl (omega (arith, under, zero))
  most pairs x greatest depth deep (inr under) (inr (y, k, is)) =
      inr (y, Contains-append_left pairs (x ∷ []) y k, subst (λ (d : ℕ). IsPairDepth c e y.left y.right d) (let same : greatest ≡ max depth greatest = omega (arith, under) in same) is)

  -- with one pair more
  pub deeper : (pairs : List (NamedPair ℕ ℕ)) (x : NamedPair ℕ ℕ) (greatest depth : ℕ) → IsGreatestDepth c e pairs greatest → IsPairDepth c e x.left x.right depth → IsGreatestDepth c e (pairs ++ x ∷ []) (max depth greatest)
  deeper pairs x greatest depth h deep = record { each = λ y k. by y (Contains-push_cases pairs x y k); reached = most pairs x greatest depth deep (cases_lt greatest depth) h.reached }
    where
      by : (y : NamedPair ℕ ℕ) → Contains pairs y ⊎ (x ≡ y) → (d : ℕ) × IsPairDepth c e y.left y.right d × (d ≤ max depth greatest)
      by y (inl k) = let d = h.each y k in (d.0, d.1, omega (arith, d.2))
      by y (inr is) = (depth, subst (λ (z : NamedPair ℕ ℕ). IsPairDepth c e z.left z.right depth) is deep, omega arith)

-- the setup of nets in which no latch lies on a cycle
pub setup_of : (a b : NetView) (s : Setup) → IsSettingOf a b s → IsAcyclic a × IsAcyclic b → IsSetup s
setup_of a b s h free = record {
  left_graph = h.is.left_graph;
  right_graph = h.is.right_graph;
  left_acyclic = subst IsAcyclic (sym h.left_is) free.0;
  right_acyclic = subst IsAcyclic (sym h.right_is) free.1;
  left_columns = h.is.left_columns;
  right_columns = h.is.right_columns;
  distinct = h.is.distinct;
  pairs = h.is.pairs;
}

-- its greatest depth is that of the nets
pub deepest_of : (a b : NetView) (s : Setup) (last : ℕ) → IsSettingOf a b s → IsAcyclic a × IsAcyclic b → IsGreatestDepth (circuit_of s.left.now) (circuit_of s.right.now) (map places_of s.pairs) last → IsDeepest a b last
deepest_of a b s last h free greatest = record {
  left_acyclic = free.0;
  right_acyclic = free.1;
  greatest =
      subst (λ (n : NetView). IsGreatestDepth (circuit_of n) (circuit_of b) (named_pairs [] (circuit_of a) (circuit_of b)) last) h.left_is
      (subst (λ (n : NetView). IsGreatestDepth (circuit_of s.left.now) (circuit_of n) (named_pairs [] (circuit_of a) (circuit_of b)) last) h.right_is
      (subst (λ (ps : List (NamedPair ℕ ℕ)). IsGreatestDepth (circuit_of s.left.now) (circuit_of s.right.now) ps last) h.pairs_are greatest));
}

-- the interfaces don't match
pub mismatched : (a b : NetView) (e : SetupError) → InterfaceFails a b e → DecidesAll a b (Err e)
mismatched a b (unset.Interface name) h = h
mismatched a b (unset.Cyclic side names) h = absurd h
mismatched a b (unset.Unpaired side names) h = absurd h
mismatched a b unset.NoMemory h = tt

-- a latch lies on a cycle
pub cyclic : (a b : NetView) (e : SetupError) → InterfacesMatch a b → RefusesCycleIn Plain a b false e → DecidesAll a b (Err e)
cyclic a b (unset.Interface name) match h = absurd h
cyclic a b (unset.Cyclic side names) match h = (match, h)
cyclic a b (unset.Unpaired side names) match h = tt
cyclic a b unset.NoMemory match h = tt

-- what is true of an error is true of the result that it is
pub passed : (a b : NetView) (r : Result ℕ SetupError) (e : SetupError) → IsErrAnd r (λ x. x ≡ e) → DecidesAll a b (Err e) → DecidesAll a b r
passed a b (Ok x) e h p = absurd h
passed a b (Err x) e h p = subst (λ (y : SetupError). DecidesAll a b (Err y)) (sym h) p

-- without a wanted last cycle it is that of the greatest depth
pub last_of : (a b : NetView) (wanted : Option ℕ) (last : ℕ) → wanted ≡ None → IsDeepest a b last → IsLast a b wanted last
last_of a b (Some n) last none h = absurd (cc)
last_of a b None last none h = h

-- or there is none
pub endless_of : (a b : NetView) (wanted : Option ℕ) (r : Result ℕ AfterFault) (e : SetupError) → wanted ≡ None → IsErrAnd r (λ x. x ≡ setup_fault e) → DecidesAll a b (Err e) → EndsIn a b wanted r
endless_of a b wanted (Ok x) e none h p = absurd h
endless_of a b wanted (Err x) e none h p = subst (λ (y : AfterFault). EndsIn a b wanted (Err y)) (sym h) (by e p)
  where
    by : (e : SetupError) → DecidesAll a b (Err e) → EndsIn a b wanted (Err (setup_fault e))
    by (unset.Interface name) p = p
    by (unset.Cyclic side names) p = (none, p)
    by (unset.Unpaired side names) p = tt
    by unset.NoMemory p = tt
