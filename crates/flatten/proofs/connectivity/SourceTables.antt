-- The table of what drives each number, driver by driver.
use Rattle.std.proofs.Common.{◌≡◌, ◌∙◌, ◌+◌, ℕ, zero, suc, List, [], ◌∷◌, ◌++◌, take, set, replicate, slice_get, Some, refl, sym, ap, subst, inl, inr, arith}
use Rattle.std.specs.Prelude.{◌⊎◌, ◌≢◌}
use Rattle.std.specs.List.{Contains}
use Rattle.std.proofs.lemmas.Bool.{cases_eq}
use Rattle.std.proofs.lemmas.List.Elements.{Contains-append_left, Contains-append_right, Contains-append_cases, Contains-push, Contains-push_cases}
use Rattle.std.proofs.lemmas.Option.{none-some, same_Some}
use Rattle.circuit_theory.proofs.Lists.{at_of, of_at}
use Rattle.base_tables.proofs.TableLemmas.{take-push}
use Rattle.flatten.specs.declared.connectivity.source.Source.{Source}
use Rattle.flatten.specs.declared.connectivity.source.Source.TheVariants as source
use Rattle.flatten.specs.connectivity.Wiring.{Wiring}
use Rattle.flatten.specs.connectivity.Faults.{driven_before, DrivesAgain, IsUndriven}
use Rattle.flatten.specs.connectivity.Tables.{IsSource, AreSources, IsOpenIn}
use Rattle.flatten.proofs.connectivity.Joined.{slice_get-append}

-- what stands in a list after a write
pub slice_get-set_same : {X : Type 0} (xs : List X) (i : ℕ) (x y : X) → slice_get (set xs i x) i ≡ Some y → x ≡ y
slice_get-set_same [] i x y h = absurd (none-some y h)
slice_get-set_same (z ∷ xs) zero x y h = same_Some x y h
slice_get-set_same (z ∷ xs) (suc i) x y h = slice_get-set_same xs i x y h

pub slice_get-set_other : {X : Type 0} (xs : List X) (i j : ℕ) (x y : X) → j ≢ i → slice_get (set xs i x) j ≡ Some y → slice_get xs j ≡ Some y
slice_get-set_other [] i j x y apart h = h
slice_get-set_other (z ∷ xs) zero zero x y apart h = absurd (apart refl)
slice_get-set_other (z ∷ xs) zero (suc j) x y apart h = h
slice_get-set_other (z ∷ xs) (suc i) zero x y apart h = h
slice_get-set_other (z ∷ xs) (suc i) (suc j) x y apart h = slice_get-set_other xs i j x y (λ e. apart (ap suc e)) h

slice_get-replicate : {X : Type 0} (k : ℕ) (x : X) (i : ℕ) (y : X) → slice_get (replicate k x) i ≡ Some y → x ≡ y
slice_get-replicate zero x i y h = absurd (none-some y h)
slice_get-replicate (suc k) x zero y h = same_Some x y h
slice_get-replicate (suc k) x (suc i) y h = slice_get-replicate k x i y h

-- nothing drives yet
pub sources_none : (k : ℕ) → AreSources [] [] (replicate k source.Open)
sources_none k n s h = subst (λ r. IsSource [] [] n r) (slice_get-replicate k source.Open n s h) (λ at. none-some n (at_of [] n at).1)

-- an input more
kept_by_input : (xs : List ℕ) (n m : ℕ) (s : Source) → m ≢ n → IsSource xs [] m s → IsSource (xs ++ n ∷ []) [] m s
kept_by_input xs n m source.Open apart none = λ at. by (Contains-append_cases (xs ++ n ∷ []) [] m at)
  where
    by_push : Contains xs m ⊎ (n ≡ m) → ⊥
    by_push (inl old) = none (Contains-append_left xs [] m old)
    by_push (inr e) = apart (sym e)

    by : Contains (xs ++ n ∷ []) m ⊎ Contains [] m → ⊥
    by (inl old) = by_push (Contains-push_cases xs n m old)
    by (inr new) = none-some m (at_of [] m new).1
kept_by_input xs n m source.Input apart old = Contains-append_left xs (n ∷ []) m old
kept_by_input xs n m (source.Statement i) apart old = absurd (none-some m old)

pub sources_input : (xs : List ℕ) (t : List Source) (n : ℕ) → AreSources xs [] t → AreSources (xs ++ n ∷ []) [] (set t n source.Input)
sources_input xs t n old m s h = by (cases_eq m n)
  where
    by : (m ≡ n) ⊎ (m ≡ n → ⊥) → IsSource (xs ++ n ∷ []) [] m s
    by (inl e) =
        let same : source.Input ≡ s = slice_get-set_same t n source.Input s (subst (λ k. slice_get (set t n source.Input) k ≡ Some s) e h) in
        subst (λ r. IsSource (xs ++ n ∷ []) [] m r) same (subst (λ k. Contains (xs ++ n ∷ []) k) (sym e) (Contains-push xs n))
    by (inr apart) = kept_by_input xs n m s apart (old m s (slice_get-set_other t n m source.Input s apart h))

-- a statement more
kept_by_statement : (main outs : List ℕ) (n m : ℕ) (s : Source) → m ≢ n → IsSource main outs m s → IsSource main (outs ++ n ∷ []) m s
kept_by_statement main outs n m source.Open apart none = λ at. by (Contains-append_cases main (outs ++ n ∷ []) m at)
  where
    by_push : Contains outs m ⊎ (n ≡ m) → ⊥
    by_push (inl old) = none (Contains-append_right main outs m old)
    by_push (inr e) = apart (sym e)

    by : Contains main m ⊎ Contains (outs ++ n ∷ []) m → ⊥
    by (inl old) = none (Contains-append_left main outs m old)
    by (inr new) = by_push (Contains-push_cases outs n m new)
kept_by_statement main outs n m source.Input apart old = old
kept_by_statement main outs n m (source.Statement i) apart old = slice_get-append outs (n ∷ []) i m old

sources_push : (main outs : List ℕ) (t : List Source) (n i : ℕ) → AreSources main outs t → slice_get (outs ++ n ∷ []) i ≡ Some n → AreSources main (outs ++ n ∷ []) (set t n (source.Statement i))
sources_push main outs t n i old last m s h = by (cases_eq m n)
  where
    by : (m ≡ n) ⊎ (m ≡ n → ⊥) → IsSource main (outs ++ n ∷ []) m s
    by (inl e) =
        let same : source.Statement i ≡ s = slice_get-set_same t n (source.Statement i) s (subst (λ k. slice_get (set t n (source.Statement i)) k ≡ Some s) e h) in
        subst (λ r. IsSource main (outs ++ n ∷ []) m r) same (last ∙ ap Some (sym e))
    by (inr apart) = kept_by_statement main outs n m s apart (old m s (slice_get-set_other t n m (source.Statement i) s apart h))

last_of : {X : Type 0} (xs : List X) (i : ℕ) (x : X) → slice_get xs i ≡ Some x → slice_get (take (suc i) xs) i ≡ Some x
last_of [] i x h = absurd (none-some x h)
last_of (y ∷ xs) zero x h = h
last_of (y ∷ xs) (suc i) x h = last_of xs i x h

-- the last of the first items
pub slice_get-last : {X : Type 0} (xs : List X) (i : ℕ) (x : X) → slice_get xs i ≡ Some x → slice_get (take (i + 1) xs) i ≡ Some x
slice_get-last xs i x h = let e : suc i ≡ i + 1 = omega arith in subst (λ n. slice_get (take n xs) i ≡ Some x) e (last_of xs i x h)

pub sources_statement : (main outs : List ℕ) (t : List Source) (n i : ℕ) → slice_get outs i ≡ Some n → AreSources main (take i outs) t → AreSources main (take (i + 1) outs) (set t n (source.Statement i))
sources_statement main outs t n i here old =
    let last : slice_get (take i outs ++ n ∷ []) i ≡ Some n = subst (λ zs. slice_get zs i ≡ Some n) (sym (take-push outs i n here)) (slice_get-last outs i n here) in
    subst (λ zs. AreSources main zs (set t n (source.Statement i))) (take-push outs i n here) (sources_push main (take i outs) t n i old last)

-- what is driven already is driven again
pub drives_again : (w : Wiring ℕ) (i n : ℕ) (s : Source) → slice_get w.outs i ≡ Some n → IsSource (w.inputs ++ w.clocks) (take i w.outs) n s → (s ≡ source.Open → ⊥) → DrivesAgain w i n
drives_again w i n source.Open here own going = absurd (going refl)
drives_again w i n source.Input here own going = record { drives = here; before = Contains-append_left (w.inputs ++ w.clocks) (take i w.outs) n own }
drives_again w i n (source.Statement j) here own going =
    record { drives = here; before = Contains-append_right (w.inputs ++ w.clocks) (take i w.outs) n (of_at (take i w.outs) j n own) }

-- and what isn't, isn't
pub drives_first : (w : Wiring ℕ) (i n : ℕ) → slice_get w.outs i ≡ Some n → IsSource (w.inputs ++ w.clocks) (take i w.outs) n source.Open → (q : ℕ) → DrivesAgain w i q → ⊥
drives_first w i n here none q d = none (subst (λ m. Contains (driven_before w i) m) (sym (same_Some n q (sym here ∙ d.drives))) d.before)

-- what the table says of numbers that nothing drives
pub open_from : (w : Wiring ℕ) (t : List Source) → AreSources (w.inputs ++ w.clocks) w.outs t → (n : ℕ) → IsOpenIn t n → IsUndriven w n
open_from w t sources n going = sources n source.Open going

pub open_of : (w : Wiring ℕ) (t : List Source) → AreSources (w.inputs ++ w.clocks) w.outs t → (n : ℕ) (s : Source) → slice_get t n ≡ Some s → IsUndriven w n → IsOpenIn t n
open_of w t sources n s here none = by s here (sources n s here)
  where
    by : (r : Source) → slice_get t n ≡ Some r → IsSource (w.inputs ++ w.clocks) w.outs n r → IsOpenIn t n
    by source.Open at own = at
    by source.Input at own = absurd (none (Contains-append_left (w.inputs ++ w.clocks) w.outs n own))
    by (source.Statement i) at own = absurd (none (Contains-append_right (w.inputs ++ w.clocks) w.outs n (of_at w.outs i n own)))
