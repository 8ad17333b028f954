-- Equal functions of the cut circuits agree onward.
use Rattle.std.proofs.Common.{◌≡◌, ℕ, zero, suc, ◌+◌, ◌-◌, ◌<◌, ◌≤◌, Bool, true, false, cond, List, [], ◌∷◌, refl, sym, ◌∙◌, ap, subst, arith, inl, inr, Option, Some, None}
use Rattle.std.specs.Prelude.{◌⊎◌}
use Rattle.std.specs.List.{Contains, filter_map}
use Rattle.std.proofs.lemmas.List.Elements.{All-contains, All-filter, Contains-append_cases}
use Rattle.circuit_theory.specs.Circuit.{Circuit, Equation, Gate, Latch, Port, Named, IsLatch, IsSingleDriven, Carries, Holds}
use Rattle.circuit_theory.specs.Run.{IsRun}
use Rattle.circuit_theory.specs.Asked.{HaveEqualFunctions}
use Rattle.circuit_theory.specs.Tree.{AreNumbered}
use Rattle.circuit_theory.specs.declared.Mode.{Mode}
use Rattle.circuit_theory.specs.declared.Mode.TheVariants.{Plain}
use Rattle.circuit_theory.specs.Names.{same_name}
use Rattle.circuit_theory.specs.Agree.{AgreeOnward, AreAlike, EnabledIn, IsSettled, IsPair, LatchesEqual, cut, latch_named, is_kept, named_at, first_of_pair}
use Rattle.circuit_laws.proofs.Marks.{marks_stay}
use Rattle.circuit_theory.proofs.Lists.{Contains-head, Contains-tail, filter_map-from}
use Rattle.circuit_laws.proofs.Agreement.{same_at}
use Rattle.circuit_theory.proofs.Inputs.{same_name-sound}

pub latch_named-found : {P : Type 0} (es : List (Equation P)) (name : List ℕ) (u next : P) → latch_named es name ≡ Some (u, next) → Contains es (Latch name u next)
latch_named-found [] name u next h = cc
latch_named-found (Gate out fanins cover ∷ es) name u next h = Contains-tail _ _ es (latch_named-found es name u next h)
latch_named-found (Port out from ∷ es) name u next h = Contains-tail _ _ es (latch_named-found es name u next h)
latch_named-found {P} (Latch own out to ∷ es) name u next h = go (λ k. latch_named-found es name u next k) (same_name own name) refl
  where
    go : (latch_named es name ≡ Some (u, next) → Contains es (Latch name u next)) → (b : Bool) → same_name own name ≡ b → Contains (Latch own out to ∷ es) (Latch name u next)
    go later true e =
        let own_is = same_name-sound own name e in
        let z : Some (out, to) ≡ Some (u, next) = sym (ap (λ b. cond b (Some (out, to)) (latch_named es name)) e) ∙ h in
        let q : (out, to) ≡ (u, next) = some_same z in
        subst (λ (x : P × P). Contains (Latch own out to ∷ es) (Latch name x.0 x.1)) q (subst (λ (n : List ℕ). Contains (Latch own out to ∷ es) (Latch n out to)) own_is (Contains-head _ es))
      where
        some_same : {X : Type 0} {x y : X} → Some x ≡ Some y → x ≡ y
        some_same e = cc
    go later false e = Contains-tail _ _ es (later (sym (ap (λ b. cond b (Some (out, to)) (latch_named es name)) e) ∙ h))

-- an input of a cut circuit is one of the circuit, or an exposed latch
pub cut_input : {P : Type 0} (names : List (List ℕ)) (c : Circuit P) (name : List ℕ) (p : P) → Contains (cut names c).inputs (record { name = name; place = p }) →
    Contains c.inputs (record { name = name; place = p }) ⊎ (Contains names name × ((next : P) × IsLatch c name p next))
unfolding cut
cut_input {P} names c name p h = go (Contains-append_cases c.inputs _ _ h)
  where
    at : List ℕ → Option (Named P)
    at n = named_at n (first_of_pair (latch_named c.equations n))

    found : (n : List ℕ) (o : Option (P × P)) → latch_named c.equations n ≡ o → named_at n (first_of_pair o) ≡ Some (record { name = name; place = p }) → Contains names n → Contains names name × ((next : P) × IsLatch c name p next)
    found n None e q m = cc
    found n (Some x) e q m =
        let r : Named P = record { name = n; place = x.0 } in
        let same : r ≡ record { name = name; place = p } = unpack r q in
        let name_is : n ≡ name = ap (λ (i : Named P). i.name) same in
        let place_is : x.0 ≡ p = ap (λ (i : Named P). i.place) same in
        (subst (Contains names) name_is m, (x.1, subst (λ (m : List ℕ). IsLatch c m p x.1) name_is (subst (λ (u : P). IsLatch c n u x.1) place_is (latch_named-found c.equations n x.0 x.1 e))))
      where
        unpack : (r : Named P) → Some r ≡ Some (record { name = name; place = p }) → r ≡ record { name = name; place = p }
        unpack r q = cc

    go : Contains c.inputs (record { name = name; place = p }) ⊎ Contains (filter_map at names) (record { name = name; place = p }) →
        Contains c.inputs (record { name = name; place = p }) ⊎ (Contains names name × ((next : P) × IsLatch c name p next))
    go (inl k) = inl k
    go (inr k) = let f = filter_map-from at names _ k in inr (found f.0 (latch_named c.equations f.0) refl f.2 f.1)

-- a run of a circuit is a run of its cut circuit, and so is its beginning
pub cut_run : {P : Type 0} (names : List (List ℕ)) (c : Circuit P) (n m : ℕ) (run : ℕ → P → Bool) → m ≤ n → IsRun c n run → IsRun (cut names c) m run
unfolding cut
cut_run names c n m run le is_run = record {
  meets = λ t h. All-filter (is_kept names) (Holds (run t)) c.equations (is_run.meets t (omega arith));
  carries = λ t h. All-filter (is_kept names) (Carries (run t) (run (t + 1))) c.equations (is_run.carries t (omega arith));
}

-- In either mode, of two runs: where settled pairs of the cut circuits have one value in these runs and in their beginnings, as long as the
-- exposed latches have.
module _ {P Q : Type 0} (mode : Mode) (names : List (List ℕ)) (a : Circuit P) (b : Circuit Q)
    (left_clear : (name : List ℕ) (p : P) → Contains a.inputs (record { name = name; place = p }) → Contains names name → ⊥)
    (right_clear : (name : List ℕ) (q : Q) → Contains b.inputs (record { name = name; place = q }) → Contains names name → ⊥)
    (n : ℕ) (left : ℕ → P → Bool) (right : ℕ → Q → Bool) (alike : AreAlike a b n left right) where
  LatchesUpTo : ℕ → Type 0
  LatchesUpTo last = LatchesEqual names a b left right (λ t. t ≤ last)

  alike_cut : (last : ℕ) → last < n → LatchesUpTo last → AreAlike (cut names a) (cut names b) (last + 1) left right
  unfolding LatchesUpTo
  alike_cut last in_run latches = record {
    left_run = cut_run names a n (last + 1) left (omega arith) alike.left_run;
    right_run = cut_run names b n (last + 1) right (omega arith) alike.right_run;
    equal_inputs = λ name p q l r t h. inputs name p q t h (cut_input names a name p l) (cut_input names b name q r);
  }
    where
      inputs : (name : List ℕ) (p : P) (q : Q) (t : ℕ) → t < last + 1 →
          Contains a.inputs (record { name = name; place = p }) ⊎ (Contains names name × ((next : P) × IsLatch a name p next)) →
          Contains b.inputs (record { name = name; place = q }) ⊎ (Contains names name × ((next : Q) × IsLatch b name q next)) → left t p ≡ right t q
      inputs name p q t h (inl l) (inl r) = alike.equal_inputs name p q l r t (omega arith)
      inputs name p q t h (inl l) (inr r) = absurd (left_clear name p l r.0)
      inputs name p q t h (inr l) (inl r) = absurd (right_clear name q r l.0)
      inputs name p q t h (inr l) (inr r) = latches name p l.1.0 q r.1.0 t l.0 l.1.1 r.1.1 (omega arith)

  module _ (pair_same_at : (k : ℕ) → k ≤ n → AreAlike (cut names a) (cut names b) k left right → (t : ℕ) (p : P) (q : Q) → t < k → IsPair names a b p q →
      IsSettled mode (cut names a) left t p → IsSettled mode (cut names b) right t q → left t p ≡ right t q) where
    pub runs_agree_onward : (T : ℕ) → T < n → ((p : P) (q : Q) → IsPair names a b p q → IsSettled mode (cut names a) left T p × IsSettled mode (cut names b) right T q) →
        LatchesEqual names a b left right (λ t. t ≤ T) →
        LatchesEqual names a b left right (λ t. t < n) × ((t : ℕ) (p : P) (q : Q) → T ≤ t → t < n → IsPair [] a b p q → left t p ≡ right t q)
    unfolding LatchesUpTo alike_cut
    runs_agree_onward T in_run settled start = (λ name u p v q t h l r k. up_to t k name u p v q t h l r (omega arith), outputs)
      where
        pair_same : (t : ℕ) → T ≤ t → t < n → LatchesUpTo t → (p : P) (q : Q) → IsPair names a b p q → left t p ≡ right t q
        pair_same t after k latches p q pair =
            let marks = settled p q pair in
            let e : T + (t - T) ≡ t = omega arith in
            pair_same_at (t + 1) (omega arith) (alike_cut t k latches) t p q (omega arith) pair
            (subst (λ s. IsSettled mode (cut names a) left s p) e (marks_stay (cut names a) (EnabledIn mode (cut names a)) left T (t - T) marks.0))
            (subst (λ s. IsSettled mode (cut names b) right s q) e (marks_stay (cut names b) (EnabledIn mode (cut names b)) right T (t - T) marks.1))

        up_to : (last : ℕ) → last < n → LatchesUpTo last
        up_to zero k name u p v q t h l r le = start name u p v q t h l r (omega arith)
        up_to (suc last) k name u p v q t h l r le = go (up_to last (omega arith)) (cases t last le) (start_or T (suc last))
          where
            cases : (x y : ℕ) → x ≤ suc y → (x ≤ y) ⊎ (x ≡ suc y)
            cases x y h = grind arith

            start_or : (x y : ℕ) → (y ≤ x) ⊎ (x < y)
            start_or x y = grind arith

            go : LatchesUpTo last → (t ≤ last) ⊎ (t ≡ suc last) → (suc last ≤ T) ⊎ (T < suc last) → left t u ≡ right t v
            go before (inl early) w = before name u p v q t h l r early
            go before (inr now) (inl early) = start name u p v q t h l r (omega arith)
            go before (inr now) (inr late) =
                let step = pair_same last (omega arith) (omega arith) before p q (IsPair.nexts h l r) in
                let lc = All-contains (Carries (left last) (left (last + 1))) a.equations _ (alike.left_run.carries last (omega arith)) l in
                let rc = All-contains (Carries (right last) (right (last + 1))) b.equations _ (alike.right_run.carries last (omega arith)) r in
                let e : t ≡ last + 1 = omega arith in
                ap (λ s. left s u) e ∙ (lc ∙ (step ∙ (sym rc ∙ ap (λ s. right s v) (sym e))))

        outputs : (t : ℕ) (p : P) (q : Q) → T ≤ t → t < n → IsPair [] a b p q → left t p ≡ right t q
        outputs t p q after k pair = pair_same t after k (up_to t k) p q (wider pair)
          where
            wider : {p : P} {q : Q} → IsPair [] a b p q → IsPair names a b p q
            wider (IsPair.outputs l r) = IsPair.outputs l r
            wider (IsPair.nexts h l r) = absurd (omega (arith, h.1))

-- so where they have one value in any two runs with equal inputs, A and B agree onward
pub pairs_agree_onward : {P Q : Type 0} (mode : Mode) (names : List (List ℕ)) (a : Circuit P) (b : Circuit Q) →
    ((name : List ℕ) (p : P) → Contains a.inputs (record { name = name; place = p }) → Contains names name → ⊥) → ((name : List ℕ) (q : Q) → Contains b.inputs (record { name = name; place = q }) → Contains names name → ⊥) →
    ((n : ℕ) (left : ℕ → P → Bool) (right : ℕ → Q → Bool) → AreAlike (cut names a) (cut names b) n left right → (t : ℕ) (p : P) (q : Q) → t < n → IsPair names a b p q →
    IsSettled mode (cut names a) left t p → IsSettled mode (cut names b) right t q → left t p ≡ right t q) → AgreeOnward mode names a b
pairs_agree_onward mode names a b left_clear right_clear pair_same_at n left right alike =
    runs_agree_onward mode names a b left_clear right_clear n left right alike (λ k within cuts t p q h pair lm rm. pair_same_at k left right cuts t p q h pair lm rm)

-- in the plain mode by equal functions
pub equal_functions_agree_onward : {P Q : Type 0} (names : List (List ℕ)) (a : Circuit P) (b : Circuit Q) (oa ob : List ℕ) → AreNumbered (cut names a) (cut names b) oa ob →
    IsSingleDriven (cut names a) → IsSingleDriven (cut names b) →
    ((name : List ℕ) (p : P) → Contains a.inputs (record { name = name; place = p }) → Contains names name → ⊥) →
    ((name : List ℕ) (q : Q) → Contains b.inputs (record { name = name; place = q }) → Contains names name → ⊥) →
    ((p : P) (q : Q) → IsPair names a b p q → HaveEqualFunctions (cut names a) (cut names b) oa ob p q) → AgreeOnward Plain names a b
equal_functions_agree_onward names a b oa ob numbered sa sb left_clear right_clear equal =
    pairs_agree_onward Plain names a b left_clear right_clear
    (λ n left right alike t p q h pair lm rm. same_at (cut names a) (cut names b) oa ob numbered left right n alike sa sb p q (equal p q pair) t h lm rm)
