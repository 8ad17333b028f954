-- What can be decided over lists, and all values of finitely many places.
use Rattle.std.proofs.Common.{◌≡◌, ◌≢◌, ℕ, Bool, true, false, List, [], ◌∷◌, ◌++◌, map, refl, ap, subst, arith, inl, inr}
use Rattle.std.specs.Prelude.{◌⊎◌}
use Rattle.std.specs.List.{Contains}
use Rattle.std.proofs.lemmas.List.Elements.{Contains-append_left, Contains-append_right}
use Rattle.circuit_theory.specs.Circuit.{Equation, Gate, Latch, Port, Named, out_of}
use Rattle.circuit_theory.specs.Tree.{StandsBeside}
use Rattle.circuit_theory.proofs.Lists.{Contains-head, Contains-tail, Contains-cases, Contains-map}
use Rattle.circuit_laws.proofs.Finite.{Decided, find_or}

pub decided_imp : {A B : Type 0} → Decided A → Decided B → Decided (A → B)
decided_imp (inl a) (inl b) = inl (λ x. b)
decided_imp (inl a) (inr n) = inr (λ f. n (f a))
decided_imp (inr m) b = inl (λ x. absurd (m x))

pub decided_both : {A B : Type 0} → Decided A → Decided B → Decided (A × B)
decided_both (inl a) (inl b) = inl (a, b)
decided_both (inl a) (inr n) = inr (λ p. n p.1)
decided_both (inr m) b = inr (λ p. m p.0)

pub decided_not : {A : Type 0} → Decided A → Decided (A → ⊥)
decided_not (inl a) = inr (λ n. n a)
decided_not (inr n) = inl n

pub bits_decided : (x y : Bool) → Decided (x ≡ y)
bits_decided true true = inl refl
bits_decided true false = inr (λ e. cc)
bits_decided false true = inr (λ e. cc)
bits_decided false false = inl refl

pub decided_each : {X : Type 0} (F : X → Type 0) (xs : List X) → ((x : X) → Contains xs x → Decided (F x)) → Decided ((x : X) → Contains xs x → F x)
decided_each {X} F xs h = go (find_or (λ x. F x → ⊥) xs (λ x c. decided_not (h x c)))
  where
    stable : (x : X) → Decided (F x) → ((F x → ⊥) → ⊥) → F x
    stable x (inl f) n = f
    stable x (inr m) n = absurd (n m)

    go : ((x : X) × Contains xs x × (F x → ⊥)) ⊎ ((x : X) → Contains xs x → (F x → ⊥) → ⊥) → Decided ((x : X) → Contains xs x → F x)
    go (inl r) = inr (λ all. r.2 (all r.0 r.1))
    go (inr none) = inl (λ x c. stable x (h x c) (none x c))

pub decided_some : {X : Type 0} (F : X → Type 0) (xs : List X) → ((x : X) → Contains xs x → Decided (F x)) → Decided ((x : X) × Contains xs x × F x)
decided_some {X} F xs h = go (find_or F xs h)
  where
    go : ((x : X) × Contains xs x × F x) ⊎ ((x : X) → Contains xs x → F x → ⊥) → Decided ((x : X) × Contains xs x × F x)
    go (inl r) = inl r
    go (inr none) = inr (λ r. none r.0 r.1 r.2)

-- over all inputs with their numbers
pub decided_beside : {P : Type 0} (inputs : List (Named P)) (order : List ℕ) (F : P → ℕ → Type 0) → ((p : P) (i : ℕ) → Decided (F p i)) → Decided ((p : P) (i : ℕ) → StandsBeside inputs order p i → F p i)
decided_beside [] order F h = inl (λ p i k. absurd k)
decided_beside (n ∷ inputs) [] F h = inl (λ p i k. absurd k)
decided_beside {P} (n ∷ inputs) (j ∷ order) F h = go (h n.place j) (decided_beside inputs order F h)
  where
    here : F n.place j → (p : P) (i : ℕ) → n.place ≡ p → j ≡ i → F p i
    here f p i e q = subst (F p) q (subst (λ (z : P). F z j) e f)

    pick : F n.place j → ((p : P) (i : ℕ) → StandsBeside inputs order p i → F p i) → (p : P) (i : ℕ) → StandsBeside (n ∷ inputs) (j ∷ order) p i → F p i
    pick f rest p i (inl k) = here f p i k.0 k.1
    pick f rest p i (inr k) = rest p i k

    go : Decided (F n.place j) → Decided ((p : P) (i : ℕ) → StandsBeside inputs order p i → F p i) → Decided ((p : P) (i : ℕ) → StandsBeside (n ∷ inputs) (j ∷ order) p i → F p i)
    go (inl f) (inl rest) = inl (pick f rest)
    go (inl f) (inr none) = inr (λ all. none (λ p i k. all p i (inr k)))
    go (inr none) rest = inr (λ all. none (all n.place j (inl (refl, refl))))

module _ {P : Type 0} (same : (p q : P) → (p ≡ q) ⊎ (p ≢ q)) where
  -- whether a place is a latch
  pub latch_or : (es : List (Equation P)) (v : P) → ((name : List ℕ) × (next : P) × Contains es (Latch name v next)) ⊎ ((name : List ℕ) (next : P) → Contains es (Latch name v next) → ⊥)
  latch_or [] v = inr (λ name next h. omega (arith, h.1))
  latch_or (Gate out fanins cover ∷ es) v = go (latch_or es v)
    where
      go : ((name : List ℕ) × (next : P) × Contains es (Latch name v next)) ⊎ ((name : List ℕ) (next : P) → Contains es (Latch name v next) → ⊥) →
          ((name : List ℕ) × (next : P) × Contains (Gate out fanins cover ∷ es) (Latch name v next)) ⊎ ((name : List ℕ) (next : P) → Contains (Gate out fanins cover ∷ es) (Latch name v next) → ⊥)
      go (inl x) = inl (x.0, x.1, Contains-tail _ _ es x.2)
      go (inr none) = inr (λ name next h. pick name next (Contains-cases (Gate out fanins cover) (Latch name v next) es h))
        where
          pick : (name : List ℕ) (next : P) → (Gate out fanins cover ≡ Latch name v next) ⊎ Contains es (Latch name v next) → ⊥
          pick name next (inl e) = cc
          pick name next (inr k) = none name next k
  latch_or (Port out from ∷ es) v = go (latch_or es v)
    where
      go : ((name : List ℕ) × (next : P) × Contains es (Latch name v next)) ⊎ ((name : List ℕ) (next : P) → Contains es (Latch name v next) → ⊥) →
          ((name : List ℕ) × (next : P) × Contains (Port out from ∷ es) (Latch name v next)) ⊎ ((name : List ℕ) (next : P) → Contains (Port out from ∷ es) (Latch name v next) → ⊥)
      go (inl x) = inl (x.0, x.1, Contains-tail _ _ es x.2)
      go (inr none) = inr (λ name next h. pick name next (Contains-cases (Port out from) (Latch name v next) es h))
        where
          pick : (name : List ℕ) (next : P) → (Port out from ≡ Latch name v next) ⊎ Contains es (Latch name v next) → ⊥
          pick name next (inl e) = cc
          pick name next (inr k) = none name next k
  latch_or (Latch own out to ∷ es) v = go (same out v) (latch_or es v)
    where
      go : (out ≡ v) ⊎ (out ≢ v) → ((name : List ℕ) × (next : P) × Contains es (Latch name v next)) ⊎ ((name : List ℕ) (next : P) → Contains es (Latch name v next) → ⊥) →
          ((name : List ℕ) × (next : P) × Contains (Latch own out to ∷ es) (Latch name v next)) ⊎ ((name : List ℕ) (next : P) → Contains (Latch own out to ∷ es) (Latch name v next) → ⊥)
      go (inl e) later = inl (own, to, subst (λ (u : P). Contains (Latch own out to ∷ es) (Latch own u to)) e (Contains-head _ es))
      go (inr n) (inl x) = inl (x.0, x.1, Contains-tail _ _ es x.2)
      go (inr n) (inr none) = inr (λ name next h. pick name next (Contains-cases (Latch own out to) (Latch name v next) es h))
        where
          pick : (name : List ℕ) (next : P) → (Latch own out to ≡ Latch name v next) ⊎ Contains es (Latch name v next) → ⊥
          pick name next (inl e) = n (ap out_of e)
          pick name next (inr k) = none name next k

-- the first where the two are one, else the second
abbrev pub if_same : {A X : Type 0} → A ⊎ (A → ⊥) → X → X → X
if_same (inl e) x y = x
if_same (inr n) x y = y

module _ {P : Type 0} (same : (p q : P) → (p ≡ q) ⊎ (p ≡ q → ⊥)) where
  -- the values with one place put to a bit
  abbrev pub update : (P → Bool) → P → Bool → P → Bool
  update x p bit q = if_same (same p q) bit (x q)

  -- values of these places in all ways
  abbrev pub assignments : List P → List (P → Bool)
  assignments [] = (λ q. false) ∷ []
  assignments (p ∷ ps) = map (λ x. update x p false) (assignments ps) ++ map (λ x. update x p true) (assignments ps)

  updated : (ps : List P) (p : P) (bit : Bool) (y : P → Bool) → Contains (assignments ps) y → Contains (assignments (p ∷ ps)) (update y p bit)
  updated ps p false y h = Contains-append_left (map (λ x. update x p false) (assignments ps)) (map (λ x. update x p true) (assignments ps)) (update y p false) (Contains-map (λ x. update x p false) (assignments ps) y h)
  updated ps p true y h = Contains-append_right (map (λ x. update x p false) (assignments ps)) (map (λ x. update x p true) (assignments ps)) (update y p true) (Contains-map (λ x. update x p true) (assignments ps) y h)

  -- each choice of values is among them
  pub all_assigned : (ps : List P) (x : P → Bool) → (y : P → Bool) × Contains (assignments ps) y × ((q : P) → Contains ps q → y q ≡ x q)
  all_assigned [] x = (λ q. false, Contains-head {X = P → Bool} (λ q. false) [], λ q h. absurd (omega (arith, h.1)))
  all_assigned (p ∷ ps) x = go (all_assigned ps x)
    where
      agrees : (y : P → Bool) → ((q : P) → Contains ps q → y q ≡ x q) → (q : P) → (d : (p ≡ q) ⊎ (p ≡ q → ⊥)) → (p ≡ q) ⊎ Contains ps q → if_same d (x p) (y q) ≡ x q
      agrees y h q (inl e) k = ap x e
      agrees y h q (inr n) (inl e) = absurd (n e)
      agrees y h q (inr n) (inr k) = h q k

      go : (y : P → Bool) × Contains (assignments ps) y × ((q : P) → Contains ps q → y q ≡ x q) → (y : P → Bool) × Contains (assignments (p ∷ ps)) y × ((q : P) → Contains (p ∷ ps) q → y q ≡ x q)
      go r = (update r.0 p (x p), updated ps p (x p) r.0 r.1, λ q h. agrees r.0 r.2 q (same p q) (Contains-cases p q ps h))
