-- What holds of each element of a written list, and of each latch of written equations.
use Rattle.std.proofs.Common.{◌≡◌, ℕ, List, [], ◌∷◌, ◌++◌, refl, sym, ◌∙◌, ap, subst, append_assoc, arith, inl, inr}
use Rattle.std.specs.Prelude.{◌⊎◌}
use Rattle.std.specs.List.{Contains, AllPairs}
use Rattle.std.proofs.lemmas.List.Kept.{AllPairs-cons}
use Rattle.circuit_theory.specs.Circuit.{Equation, Gate, Latch, Port}
use Rattle.circuit_theory.proofs.Lists.{Contains-cases, All-from_each}

-- F holds of each element, one by one
abbrev pub Each : {X : Type 0} → (X → Type 0) → List X → Type 0
Each F [] = Unit {0}
Each F (x ∷ xs) = F x × Each F xs

pub each_at : {X : Type 0} (F : X → Type 0) (xs : List X) → Each F xs → (x : X) → Contains xs x → F x
each_at F [] all x h = absurd (omega (arith, h.1))
each_at {X} F (y ∷ xs) all x h = go (Contains-cases y x xs h) (λ k. each_at F xs all.1 x k)
  where
    go : (y ≡ x) ⊎ Contains xs x → (Contains xs x → F x) → F x
    go (inl e) later = subst F e all.0
    go (inr k) later = later k

-- F holds of each latch, by its name, its place and what it takes over
abbrev pub EachLatch : {P : Type 0} → (List ℕ → P → P → Type 0) → List (Equation P) → Type 0
EachLatch F [] = Unit {0}
EachLatch F (Gate out fanins cover ∷ es) = EachLatch F es
EachLatch F (Latch name out next ∷ es) = F name out next × EachLatch F es
EachLatch F (Port out from ∷ es) = EachLatch F es

record LatchItem (P : Type 0) : Type 0 where
  name : List ℕ
  out : P
  next : P

abbrev item_of : {P : Type 0} → LatchItem P → Equation P → LatchItem P
item_of other (Gate out fanins cover) = other
item_of other (Latch name out next) = record { name = name; out = out; next = next }
item_of other (Port out from) = other

pub each_latch : {P : Type 0} (F : List ℕ → P → P → Type 0) (es : List (Equation P)) → EachLatch F es → (name : List ℕ) (u next : P) → Contains es (Latch name u next) → F name u next
each_latch F [] all name u next h = absurd (omega (arith, h.1))
each_latch {P} F (Gate out fanins cover ∷ es) all name u next h = go (Contains-cases (Gate out fanins cover) (Latch name u next) es h) (λ k. each_latch F es all name u next k)
  where
    wrong : Gate out fanins cover ≡ Latch name u next → ⊥
    wrong e = cc

    go : (Gate out fanins cover ≡ Latch name u next) ⊎ Contains es (Latch name u next) → (Contains es (Latch name u next) → F name u next) → F name u next
    go (inl e) later = absurd (wrong e)
    go (inr k) later = later k
each_latch {P} F (Port out from ∷ es) all name u next h = go (Contains-cases (Port out from) (Latch name u next) es h) (λ k. each_latch F es all name u next k)
  where
    wrong : Port out from ≡ Latch name u next → ⊥
    wrong e = cc

    go : (Port out from ≡ Latch name u next) ⊎ Contains es (Latch name u next) → (Contains es (Latch name u next) → F name u next) → F name u next
    go (inl e) later = absurd (wrong e)
    go (inr k) later = later k
each_latch {P} F (Latch m out to ∷ es) all name u next h = go (Contains-cases (Latch m out to) (Latch name u next) es h) (λ k. each_latch F es all.1 name u next k)
  where
    go : (Latch m out to ≡ Latch name u next) ⊎ Contains es (Latch name u next) → (Contains es (Latch name u next) → F name u next) → F name u next
    go (inl e) later = subst (λ (x : LatchItem P). F x.name x.out x.next) (ap (item_of (record { name = m; out = out; next = to })) e) all.0
    go (inr k) later = later k

-- R holds of each element and each later one
abbrev pub EachPair : {X : Type 0} → (X → X → Type 0) → List X → Type 0
EachPair R [] = Unit {0}
EachPair R (x ∷ xs) = Each (R x) xs × EachPair R xs

pub each_pair : {X : Type 0} (R : X → X → Type 0) (xs : List X) → EachPair R xs → AllPairs R xs
each_pair R [] all = λ i j d l k. absurd (omega arith)
each_pair R (x ∷ xs) all = AllPairs-cons R x xs (All-from_each (R x) xs (λ y h. each_at (R x) xs all.0 y h)) (each_pair R xs all.1)

-- F holds of each element and those before it
abbrev pub EachSplit : {X : Type 0} → (List X → X → Type 0) → List X → List X → Type 0
EachSplit F done [] = Unit {0}
EachSplit F done (x ∷ xs) = F done x × EachSplit F (done ++ x ∷ []) xs

append_nil : {X : Type 0} (xs : List X) → xs ++ [] ≡ xs
append_nil [] = refl
append_nil (x ∷ xs) = ap (λ ys. x ∷ ys) (append_nil xs)

split_at : {X : Type 0} (F : List X → X → Type 0) (done xs : List X) → EachSplit F done xs → (front after : List X) (v : X) → xs ≡ front ++ v ∷ after → F (done ++ front) v
split_at F done [] all [] after v e = cc
split_at F done [] all (y ∷ front) after v e = cc
split_at {X} F done (x ∷ xs) all [] after v e = subst (λ (ys : List X). F ys v) (sym (append_nil done)) (subst (F done) here all.0)
  where
    here : x ≡ v
    here = cc
split_at {X} F done (x ∷ xs) all (y ∷ front) after v e =
    subst (λ (ys : List X). F ys v) (append_assoc done (x ∷ []) front ∙ ap (λ (z : X). done ++ (z ∷ front)) here) (split_at F (done ++ x ∷ []) xs all.1 front after v there)
  where
    here : x ≡ y
    here = cc

    there : xs ≡ front ++ v ∷ after
    there = cc

pub each_split : {X : Type 0} (F : List X → X → Type 0) (xs : List X) → EachSplit F [] xs → (front after : List X) (v : X) → xs ≡ front ++ v ∷ after → F front v
each_split F xs all front after v e = split_at F [] xs all front after v e
