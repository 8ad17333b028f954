-- The shared inputs, by the numbers of both circuits' inputs.
use Rattle.std.proofs.Common.{◌≡◌, ℕ, suc, ◌+◌, ◌≤◌, Bool, true, false, cond, List, [], ◌∷◌, ◌++◌, length, take, refl, sym, ◌∙◌, ap, subst, arith, inl, inr, ◌⊎◌, Option, Some, None, slice_get}
use Rattle.std.specs.Prelude.{not, ◌&&◌, ◌||◌, ◌==◌}
use Rattle.std.specs.List.{Contains, filter, list_any}
use Rattle.std.proofs.lemmas.List.Elements.{All-contains, filter_passes, filter_more}
use Rattle.std.proofs.lemmas.Option.{slice_get_within, get_or_from_slice_get}
use Rattle.circuit_theory.specs.Names.{is_among}
use Rattle.circuit_theory.specs.Interface.{Ports, is_clock, inputs_beside, first_missing, first_mismatch, shared_inputs, ◌or_else◌, AreOrders}
use Rattle.circuit_theory.proofs.Lists.{Contains-head, Contains-tail, Contains-cases, Contains-filter, at_of, of_at}
use Rattle.circuit_theory.proofs.Inputs.{test_same, test_refl}
use Rattle.circuit_theory.proofs.Numbers.{is_among-sound}

-- the test by which an input stays
abbrev pub is_kept : Ports → Ports → List ℕ → Bool
is_kept own other name = not (is_clock other name && not (is_among own.read name))

no_true_false : true ≡ false → ⊥
no_true_false e = cc

pub some_is : {X : Type 0} {x y : X} → Some x ≡ Some y → x ≡ y
some_is q = cc

-- no name is missing
pub missing_none : (names others : List (List ℕ)) → first_missing names others ≡ None → (name : List ℕ) → Contains names name → Contains others name
missing_none [] others e name h = absurd (omega (arith, h.1))
missing_none (n ∷ names) others e name h = go (is_among others n) refl (λ k. missing_none names others k name)
  where
    no_some : {x : List ℕ} → Some x ≡ None → ⊥
    no_some q = cc

    go : (b : Bool) → is_among others n ≡ b → (first_missing names others ≡ None → Contains names name → Contains others name) → Contains others name
    go true q later = pick (Contains-cases n name names h) (later (sym (ap (λ b. cond (not b) (Some n) (first_missing names others)) q) ∙ e))
      where
        pick : (n ≡ name) ⊎ Contains names name → (Contains names name → Contains others name) → Contains others name
        pick (inl same) rest = subst (Contains others) same (is_among-sound others n q)
        pick (inr k) rest = rest k
    go false q later = absurd (no_some (sym (ap (λ b. cond (not b) (Some n) (first_missing names others)) q) ∙ e))

-- neither is there
pub or_else-none : {X : Type 0} (x y : Option X) → (x or_else y) ≡ None → (x ≡ None) × (y ≡ None)
or_else-none None y e = (refl, e)
or_else-none (Some x) y e = absurd (no e)
  where
    no : Some x ≡ None → ⊥
    no q = cc

-- what matching interfaces say
pub record AreMatched (a b : Ports) : Type 0 where
  pub inputs : (name : List ℕ) → Contains (inputs_beside a b) name → Contains (inputs_beside b a) name
  pub inputs_back : (name : List ℕ) → Contains (inputs_beside b a) name → Contains (inputs_beside a b) name
  pub outputs : (name : List ℕ) → Contains a.outputs name → Contains b.outputs name
  pub outputs_back : (name : List ℕ) → Contains b.outputs name → Contains a.outputs name

pub are_matched : (a b : Ports) → first_mismatch a b ≡ None → AreMatched a b
are_matched a b e =
    let four = or_else-none _ (first_missing b.outputs a.outputs) e in
    let three = or_else-none _ (first_missing a.outputs b.outputs) four.0 in
    let two = or_else-none (first_missing (inputs_beside a b) (inputs_beside b a)) (first_missing (inputs_beside b a) (inputs_beside a b)) three.0 in
    record { inputs = missing_none _ _ two.0; inputs_back = missing_none _ _ two.1; outputs = missing_none _ _ three.1; outputs_back = missing_none _ _ four.1 }

-- a test that an element passes keeps it
pub Contains-filter_in : {X : Type 0} (test : X → Bool) (xs : List X) (x : X) → Contains xs x → test x ≡ true → Contains (filter test xs) x
Contains-filter_in test [] x h e = absurd (omega (arith, h.1))
Contains-filter_in {X} test (y ∷ xs) x h e = go (test y) refl (Contains-cases y x xs h) (λ k. Contains-filter_in test xs x k e)
  where
    In : Bool → Type 0
    In b = Contains (cond b (y ∷ filter test xs) (filter test xs)) x

    go : (b : Bool) → test y ≡ b → (y ≡ x) ⊎ Contains xs x → (Contains xs x → Contains (filter test xs) x) → Contains (filter test (y ∷ xs)) x
    go true q (inl same) later = subst In (sym q) (subst (λ z. Contains (y ∷ filter test xs) z) same (Contains-head y (filter test xs)))
    go true q (inr k) later = subst In (sym q) (Contains-tail y x (filter test xs) (later k))
    go false q (inl same) later = absurd (no_true_false (sym e ∙ (ap test (sym same) ∙ q)))
    go false q (inr k) later = subst In (sym q) (later k)

pub filter-passed : {X : Type 0} (test : X → Bool) (xs : List X) (x : X) → Contains (filter test xs) x → test x ≡ true
filter-passed test xs x h = All-contains (λ y. test y ≡ true) (filter test xs) x (filter_passes test xs) h
