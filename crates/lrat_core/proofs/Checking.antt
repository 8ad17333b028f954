-- The checker, one step further.
use Rattle.std.proofs.Common.{◌≡◌, ℕ, zero, suc, ◌+◌, ◌<◌, ◌≤◌, Bool, true, false, cond, List, [], ◌∷◌, ◌++◌, length, get_or, take, drop, refl, sym, ◌∙◌, ap, subst, arith, add-one, inl, inr, Option, Some, None}
use Rattle.std.specs.Prelude.{◌⊎◌, nat_eq, slice_get, is_some}
use Rattle.std.proofs.Math.Seq.{drop-cons, take-suc}
use Rattle.std.proofs.Math.ListN.{drop_of_length-le}
use Rattle.std.proofs.lemmas.Bool.{cases_eq, eq-eqb, ne_eqb}
use Rattle.std.proofs.lemmas.List.{length-take, take_all}
use Rattle.proof_check.specs.Literals.{Literal}
use Rattle.lrat_core.specs.States.{Live, none_live, with_clause, without, without_all, numbered}
use Rattle.lrat_core.specs.Hints.{HintsGive}
use Rattle.lrat_core.specs.Sequences.{DeletionGives}
use Rattle.lrat_core.specs.declared.hints.Hint.{Hint}
use Rattle.text_numbers.specs.declared.kinds.TextKind.{TextKind}
use Rattle.text_numbers.specs.declared.kinds.TextKind.TheVariants.{BadId, NoConflict}

-- a hint at its place, with those after it
pub hints_from : (live : Live) (falsified : List Literal) (hints : List Hint) (k : ℕ) (d : Hint) (given : Option TextKind) → k < length hints →
    HintsGive live falsified (get_or hints k d ∷ drop (suc k) hints) given → HintsGive live falsified (drop k hints) given
hints_from live falsified hints k d given lt h = subst (λ hs. HintsGive live falsified hs given) (sym (drop-cons hints k d lt)) h

pub no_hints : (live : Live) (falsified : List Literal) (hints : List Hint) (k : ℕ) → length hints ≤ k → HintsGive live falsified (drop k hints) (Some NoConflict)
no_hints live falsified hints k le = subst (λ hs. HintsGive live falsified hs (Some NoConflict)) (sym (drop_of_length-le hints le)) HintsGive.none_left

-- an option that isn't there, and one that is
none_is : (o : Option (List Literal)) (b : Bool) → b ≡ is_some o → b ≡ false → o ≡ None
none_is None b e f = refl
none_is (Some c) b e f = cc

some_is : (o : Option (List Literal)) (b : Bool) → b ≡ is_some o → b ≡ true → (c : List Literal) × (o ≡ Some c)
some_is None b e f = absurd (let z : false ≡ true = sym e ∙ f in cc)
some_is (Some c) b e f = (c, refl)

pub deletion_stops : (live : Live) (ids : List ℕ) (k d : ℕ) (b : Bool) → k < length ids → b ≡ is_some (live (get_or ids k d)) → b ≡ false → DeletionGives live (drop k ids) (Some BadId)
deletion_stops live ids k d b lt e f =
    subst (λ xs. DeletionGives live xs (Some BadId)) (sym (drop-cons ids k d lt)) (DeletionGives.not_live (none_is (live (get_or ids k d)) b e f))

pub deletion_goes_on : (live new : Live) (ids : List ℕ) (k d : ℕ) (b : Bool) (given : Option TextKind) → k < length ids → b ≡ is_some (live (get_or ids k d)) → b ≡ true → new ≡ without live (get_or ids k d) →
    DeletionGives new (drop (suc k) ids) given → DeletionGives live (drop k ids) given
deletion_goes_on live new ids k d b given lt e f same h =
    let c = some_is (live (get_or ids k d)) b e f in
    subst (λ xs. DeletionGives live xs given) (sym (drop-cons ids k d lt)) (DeletionGives.is_live c.1 (subst (λ (l : Live). DeletionGives l (drop (suc k) ids) given) same h))

pub deletion_same : (live new : Live) (ids : List ℕ) (k d : ℕ) → k < length ids → new ≡ without live (get_or ids k d) → without_all new (drop (suc k) ids) ≡ without_all live (drop k ids)
deletion_same live new ids k d lt same = ap (λ (l : Live). without_all l (drop (suc k) ids)) same ∙ sym (ap (without_all live) (drop-cons ids k d lt))

pub deletion_done : (live : Live) (ids : List ℕ) (k : ℕ) → length ids ≤ k → DeletionGives live (drop k ids) None × (without_all live (drop k ids) ≡ live)
deletion_done live ids k le =
    let nothing = drop_of_length-le ids le in
    (subst (λ xs. DeletionGives live xs None) (sym nothing) DeletionGives.none_left, ap (without_all live) nothing)

-- a list with one element more
pub last_here : {X : Type 0} (xs : List X) (x : X) → slice_get (xs ++ x ∷ []) (length xs) ≡ Some x
last_here [] x = refl
last_here (y ∷ xs) x = last_here xs x

pub last_other : {X : Type 0} (xs : List X) (x : X) (j : ℕ) → (j ≡ length xs → ⊥) → slice_get (xs ++ x ∷ []) j ≡ slice_get xs j
last_other [] x zero n = absurd (n refl)
last_other [] x (suc j) n = refl
last_other (y ∷ xs) x zero n = refl
last_other (y ∷ xs) x (suc j) n = last_other xs x j (λ e. n (ap suc e))

pub none_numbered : (clauses : List (List Literal)) → none_live ≡ numbered (take 0 clauses)
none_numbered clauses = λ i q. at q i
  where
    at : (q : ℕ) → none_live q ≡ numbered [] q
    at zero = refl
    at (suc q) = refl

-- one more clause is numbered
pub numbered_more : (clauses : List (List Literal)) (k : ℕ) (c : List Literal) → k < length clauses → get_or clauses k c ≡ c → with_clause (numbered (take k clauses)) (k + 1) c ≡ numbered (take (k + 1) clauses)
numbered_more clauses k c lt e = λ i q. at q i
  where
    split : take (k + 1) clauses ≡ take k clauses ++ c ∷ []
    split = ap (λ n. take n clauses) (add-one k) ∙ (take-suc clauses k c lt ∙ ap (λ x. take k clauses ++ x ∷ []) e)

    len : length (take k clauses) ≡ k
    len = omega (arith, length-take k clauses)

    at : (q : ℕ) → with_clause (numbered (take k clauses)) (k + 1) c q ≡ numbered (take (k + 1) clauses) q
    at zero = ap (λ b. cond b (Some c) None) (ne_eqb (k + 1) zero (λ h. let z : ⊥ = omega arith in z))
    at (suc j) = go (cases_eq (k + 1) (suc j))
      where
        go : (k + 1 ≡ suc j) ⊎ (k + 1 ≡ suc j → ⊥) → cond (nat_eq (k + 1) (suc j)) (Some c) (slice_get (take k clauses) j) ≡ slice_get (take (k + 1) clauses) j
        go (inl same) =
            let here : length (take k clauses) ≡ j = omega (arith, len, same) in
            ap (λ b. cond b (Some c) (slice_get (take k clauses) j)) (eq-eqb (k + 1) (suc j) same)
            ∙ (sym (last_here (take k clauses) c) ∙ (ap (slice_get (take k clauses ++ c ∷ [])) here ∙ sym (ap (λ xs. slice_get xs j) split)))
        go (inr apart) =
            ap (λ b. cond b (Some c) (slice_get (take k clauses) j)) (ne_eqb (k + 1) (suc j) apart)
            ∙ (sym (last_other (take k clauses) c j (λ h. apart (omega (arith, len, h)))) ∙ sym (ap (λ xs. slice_get xs j) split))

pub numbered_all : (clauses : List (List Literal)) (k : ℕ) → length clauses ≤ k → numbered (take k clauses) ≡ numbered clauses
numbered_all clauses k le = ap numbered (take_all k clauses le)
