-- The list of pairs holds exactly the pairs that are compared.
use Rattle.std.proofs.Common.{◌≡◌, ℕ, Bool, true, false, cond, List, [], ◌∷◌, refl, sym, ◌∙◌, ap, subst, arith, inl, inr, Option, Some, None}
use Rattle.std.specs.Prelude.{◌⊎◌, ◌↔◌}
use Rattle.std.specs.List.{Contains, filter_map, cons_option}
use Rattle.std.proofs.lemmas.List.Elements.{Contains-append_cases, Contains-append_left, Contains-append_right}
use Rattle.circuit_theory.specs.Names.{same_name}
use Rattle.circuit_theory.specs.Circuit.{Circuit, Equation, Gate, Latch, Port, Named, IsLatch, IsSingleDriven}
use Rattle.circuit_theory.specs.Net.{HasDistinctNames}
use Rattle.circuit_theory.specs.Agree.{PairAt, IsPair, pairs_of, pair_at, place_named, latch_named, second_of_pair}
use Rattle.circuit_theory.proofs.Lists.{Contains-head, Contains-tail, Contains-cases, filter_map-from}
use Rattle.circuit_theory.proofs.Inputs.{same_name-sound}
use Rattle.circuit_theory.proofs.Numbers.{same_name-refl}
use Rattle.circuit_laws.proofs.Onward.{latch_named-found}

some_is : {X : Type 0} {x y : X} → Some x ≡ Some y → x ≡ y
some_is q = cc

pub filter_map-has : {X Y : Type 0} (f : X → Option Y) (xs : List X) (x : X) (y : Y) → Contains xs x → f x ≡ Some y → Contains (filter_map f xs) y
filter_map-has f [] x y h e = absurd (omega (arith, h.1))
filter_map-has {X} {Y} f (z ∷ xs) x y h e = go (f z) refl (Contains-cases z x xs h) (λ k. filter_map-has f xs x y k e)
  where
    go : (o : Option Y) → f z ≡ o → (z ≡ x) ⊎ Contains xs x → (Contains xs x → Contains (filter_map f xs) y) → Contains (filter_map f (z ∷ xs)) y
    go None q (inl s) later = absurd (wrong (sym q ∙ (ap f s ∙ e)))
      where
        wrong : None ≡ Some y → ⊥
        wrong w = cc
    go None q (inr k) later = subst (λ (ys : List Y). Contains ys y) (sym (ap (λ o. cons_option o (filter_map f xs)) q)) (later k)
    go (Some w) q (inl s) later =
        subst (λ (ys : List Y). Contains ys y) (sym (ap (λ o. cons_option o (filter_map f xs)) q)) (subst (λ (v : Y). Contains (v ∷ filter_map f xs) y) (sym (some_is (sym q ∙ (ap f s ∙ e)))) (Contains-head y (filter_map f xs)))
    go (Some w) q (inr k) later = subst (λ (ys : List Y). Contains ys y) (sym (ap (λ o. cons_option o (filter_map f xs)) q)) (Contains-tail w y (filter_map f xs) (later k))

place_named-some : {P : Type 0} (ns : List (Named P)) (name : List ℕ) (p : P) → Contains ns (record { name = name; place = p }) →
    (q : P) × (place_named ns name ≡ Some q) × Contains ns (record { name = name; place = q })
place_named-some [] name p h = absurd (omega (arith, h.1))
place_named-some {P} (n ∷ ns) name p h = go (same_name n.name name) refl (Contains-cases n (record { name = name; place = p }) ns h) (λ k. place_named-some ns name p k)
  where
    Found : List (Named P) → Type 0
    Found ms = (q : P) × (place_named ms name ≡ Some q) × Contains ms (record { name = name; place = q })

    no : true ≡ false → ⊥
    no e = cc

    go : (b : Bool) → same_name n.name name ≡ b → (n ≡ record { name = name; place = p }) ⊎ Contains ns (record { name = name; place = p }) → (Contains ns (record { name = name; place = p }) → Found ns) → Found (n ∷ ns)
    go true e k later = (
      n.place,
      ap (λ b. cond b (Some n.place) (place_named ns name)) e,
      subst (λ (m : List ℕ). Contains (n ∷ ns) (record { name = m; place = n.place })) (same_name-sound n.name name e) (Contains-head n ns),
    )
    go false e (inl q) later = absurd (no (sym (subst (λ (m : List ℕ). same_name m name ≡ true) (sym (ap (λ (x : Named P). x.name) q)) (same_name-refl name)) ∙ e))
    go false e (inr k) later = let r = later k in (r.0, ap (λ b. cond b (Some n.place) (place_named ns name)) e ∙ r.1, Contains-tail n _ ns r.2)

place_named-found : {P : Type 0} (ns : List (Named P)) (name : List ℕ) (q : P) → place_named ns name ≡ Some q → Contains ns (record { name = name; place = q })
place_named-found [] name q h = cc
place_named-found {P} (n ∷ ns) name q h = go (same_name n.name name) refl (λ k. place_named-found ns name q k)
  where
    go : (b : Bool) → same_name n.name name ≡ b → (place_named ns name ≡ Some q → Contains ns (record { name = name; place = q })) → Contains (n ∷ ns) (record { name = name; place = q })
    go true e later =
        subst (λ (x : P). Contains (n ∷ ns) (record { name = name; place = x })) (some_is (sym (ap (λ b. cond b (Some n.place) (place_named ns name)) e) ∙ h))
        (subst (λ (m : List ℕ). Contains (n ∷ ns) (record { name = m; place = n.place })) (same_name-sound n.name name e) (Contains-head n ns))
    go false e later = Contains-tail n _ ns (later (sym (ap (λ b. cond b (Some n.place) (place_named ns name)) e) ∙ h))

pub latch_named-some : {P : Type 0} (es : List (Equation P)) (name : List ℕ) (u next : P) → Contains es (Latch name u next) → (x : P × P) × (latch_named es name ≡ Some x)
latch_named-some [] name u next h = absurd (omega (arith, h.1))
latch_named-some {P} (Gate out fanins cover ∷ es) name u next h = go (Contains-cases (Gate out fanins cover) (Latch name u next) es h) (λ k. latch_named-some es name u next k)
  where
    go : (Gate out fanins cover ≡ Latch name u next) ⊎ Contains es (Latch name u next) → (Contains es (Latch name u next) → (x : P × P) × (latch_named es name ≡ Some x)) → (x : P × P) × (latch_named es name ≡ Some x)
    go (inl e) later = cc
    go (inr k) later = later k
latch_named-some {P} (Port out from ∷ es) name u next h = go (Contains-cases (Port out from) (Latch name u next) es h) (λ k. latch_named-some es name u next k)
  where
    go : (Port out from ≡ Latch name u next) ⊎ Contains es (Latch name u next) → (Contains es (Latch name u next) → (x : P × P) × (latch_named es name ≡ Some x)) → (x : P × P) × (latch_named es name ≡ Some x)
    go (inl e) later = cc
    go (inr k) later = later k
latch_named-some {P} (Latch own out to ∷ es) name u next h = go (same_name own name) refl (Contains-cases (Latch own out to) (Latch name u next) es h) (λ k. latch_named-some es name u next k)
  where
    name_of : Equation P → List ℕ
    name_of (Gate o fanins cover) = []
    name_of (Latch m o n) = m
    name_of (Port o from) = []

    no : true ≡ false → ⊥
    no e = cc

    go : (b : Bool) → same_name own name ≡ b → (Latch own out to ≡ Latch name u next) ⊎ Contains es (Latch name u next) → (Contains es (Latch name u next) → (x : P × P) × (latch_named es name ≡ Some x)) →
        (x : P × P) × (latch_named (Latch own out to ∷ es) name ≡ Some x)
    go true e k later = ((out, to), ap (λ b. cond b (Some (out, to)) (latch_named es name)) e)
    go false e (inl q) later = absurd (no (sym (subst (λ (m : List ℕ). same_name m name ≡ true) (sym (ap name_of q)) (same_name-refl name)) ∙ e))
    go false e (inr k) later = let r = later k in (r.0, ap (λ b. cond b (Some (out, to)) (latch_named es name)) e ∙ r.1)

module _ {P : Type 0} (c : Circuit P) (single : IsSingleDriven c) (names : HasDistinctNames c) where
  -- the latch of a name is the one that is found
  pub latch_is_named : (name : List ℕ) (u next : P) → IsLatch c name u next → ◌≡◌ {A = Option (P × P)} (latch_named c.equations name) (Some (u, next))
  latch_is_named name u next latch = found.1 ∙ ap Some same
    where
      found : (x : P × P) × (latch_named c.equations name ≡ Some x)
      found = latch_named-some c.equations name u next latch

      own : IsLatch c name found.0.0 found.0.1
      own = latch_named-found c.equations name found.0.0 found.0.1 found.1

      place : found.0.0 ≡ u
      place = names.latches name found.0.0 found.0.1 u next own latch

      next_of : Equation P → P
      next_of (Gate o fanins cover) = o
      next_of (Latch m o n) = n
      next_of (Port o from) = o

      takes : found.0.1 ≡ next
      takes = ap next_of (single.one (Latch name found.0.0 found.0.1) (Latch name u next) own latch place)

      same : ◌≡◌ {A = P × P} found.0 (u, next)
      same = λ i. (place i, takes i)

module _ {P Q : Type 0} (names : List (List ℕ)) (a : Circuit P) (b : Circuit Q) (sa : IsSingleDriven a) (sb : IsSingleDriven b) (na : HasDistinctNames a) (nb : HasDistinctNames b)
    (once : (name : List ℕ) (q q' : Q) → Contains b.outputs (record { name = name; place = q }) → Contains b.outputs (record { name = name; place = q' }) → q ≡ q') where
  output_pair : Named P → Option (PairAt P Q)
  output_pair n = pair_at (Some n.place) (place_named b.outputs n.name)

  next_pair : List ℕ → Option (PairAt P Q)
  next_pair name = pair_at (second_of_pair (latch_named a.equations name)) (second_of_pair (latch_named b.equations name))

  pub listed : (p : P) (q : Q) → IsPair names a b p q → Contains (pairs_of names a b) (record { left = p; right = q })
  unfolding output_pair next_pair
  listed p q (IsPair.outputs {name = name} l r) =
      let found = place_named-some b.outputs name q r in
      let same : found.0 ≡ q = once name found.0 q found.2 r in
      Contains-append_left (filter_map output_pair a.outputs) (filter_map next_pair names) _
      (filter_map-has output_pair a.outputs (record { name = name; place = p }) (record { left = p; right = q }) l (ap (pair_at (Some p)) (found.1 ∙ ap Some same)))
  listed p q (IsPair.nexts {name = name} {u = u} {v = v} h l r) =
      let left : second_of_pair (latch_named a.equations name) ≡ Some p = ap second_of_pair (latch_is_named a sa na name u p l) in
      let right : second_of_pair (latch_named b.equations name) ≡ Some q = ap second_of_pair (latch_is_named b sb nb name v q r) in
      Contains-append_right (filter_map output_pair a.outputs) (filter_map next_pair names) _
      (filter_map-has next_pair names name (record { left = p; right = q }) h (ap (λ o. pair_at o (second_of_pair (latch_named b.equations name))) left ∙ ap (pair_at (Some p)) right))

  both_some : (x : Option P) (y : Option Q) (p : P) (q : Q) → pair_at x y ≡ Some (record { left = p; right = q }) → (x ≡ Some p) × (y ≡ Some q)
  both_some None y p q h = cc
  both_some (Some x) None p q h = cc
  both_some (Some x) (Some y) p q h = let e = unwrap h in (ap (λ (z : PairAt P Q). Some z.left) e, ap (λ (z : PairAt P Q). Some z.right) e)
    where
      unwrap : {z w : PairAt P Q} → Some z ≡ Some w → z ≡ w
      unwrap k = cc

  next_of_latch : {R : Type 0} (c : Circuit R) (name : List ℕ) (o : Option (R × R)) (p : R) → latch_named c.equations name ≡ o → second_of_pair o ≡ Some p → (u : R) × IsLatch c name u p
  next_of_latch c name None p e h = cc
  next_of_latch {R} c name (Some x) p e h = (x.0, subst (λ (z : R). IsLatch c name x.0 z) (some_is h) (latch_named-found c.equations name x.0 x.1 e))

  pub is_listed : (p : P) (q : Q) → Contains (pairs_of names a b) (record { left = p; right = q }) → IsPair names a b p q
  unfolding output_pair next_pair
  is_listed p q h = go (Contains-append_cases (filter_map output_pair a.outputs) (filter_map next_pair names) _ h)
    where
      go : Contains (filter_map output_pair a.outputs) (record { left = p; right = q }) ⊎ Contains (filter_map next_pair names) (record { left = p; right = q }) → IsPair names a b p q
      go (inl k) =
          let f = filter_map-from output_pair a.outputs _ k in
          let parts = both_some (Some f.0.place) (place_named b.outputs f.0.name) p q f.2 in
          IsPair.outputs {name = f.0.name} (subst (λ (z : P). Contains a.outputs (record { name = f.0.name; place = z })) (some_is parts.0) f.1) (place_named-found b.outputs f.0.name q parts.1)
      go (inr k) =
          let f = filter_map-from next_pair names _ k in
          let parts = both_some (second_of_pair (latch_named a.equations f.0)) (second_of_pair (latch_named b.equations f.0)) p q f.2 in
          let l = next_of_latch a f.0 (latch_named a.equations f.0) p refl parts.0 in
          let r = next_of_latch b f.0 (latch_named b.equations f.0) q refl parts.1 in
          IsPair.nexts {name = f.0} {u = l.0} {v = r.0} f.1 l.1 r.1

  pub pairs_are_listed : (p : P) (q : Q) → IsPair names a b p q ↔ Contains (pairs_of names a b) (record { left = p; right = q })
  pairs_are_listed p q = (listed p q, is_listed p q)
