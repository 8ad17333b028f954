-- A flat net that is cut at distinct names is a flat net, and the names of a minimal cut are distinct.
use Rattle.std.proofs.Common.{◌≡◌, ◌≢◌, ℕ, zero, suc, ◌<◌, Bool, true, false, List, [], ◌∷◌, ◌++◌, get_or, refl, sym, ◌∙◌, ap, subst, arith, inl, inr, Option, Some, None, slice_get}
use Rattle.std.specs.List.{AllPairs, Contains, filter_map, cons_option}
use Rattle.std.proofs.lemmas.List.Elements.{All-append, All-filter}
use Rattle.std.proofs.lemmas.List.Kept.{AllPairs-cons}
use Rattle.std.proofs.lemmas.Option.{slice_get-get_or, slice_get_within}
use Rattle.circuit_theory.specs.declared.Mode.{Mode}
use Rattle.circuit_theory.specs.Names.{is_among}
use Rattle.circuit_theory.specs.Circuit.{Circuit, Equation, Gate, Latch, Port, Named, IsLatch, out_of}
use Rattle.circuit_theory.specs.Net.{IsAbove, IsWithin, IsDriven, IsNet, HasDistinctNames}
use Rattle.circuit_theory.specs.Depth.{LatchReads, LatchPath, HasCycle, without}
use Rattle.circuit_theory.specs.Agree.{cut, is_kept, latch_named, named_at, first_of_pair, EnabledIn, IsMinimalCut}
use Rattle.circuit_theory.proofs.Lists.{All-from_each, filter_map-from, Contains-head, Contains-tail, of_at}
use Rattle.circuit_theory.proofs.Sums.{AllPairs-head, AllPairs-tail}
use Rattle.circuit_theory.proofs.Numbers.{is_among-sound}
use Rattle.circuit_laws.proofs.Onward.{latch_named-found}
use Rattle.circuit_laws.proofs.CutLaws.{left_out, cut_single}
use Rattle.circuit_laws.proofs.event_laws.CutParts.{cut_gate, cut_port, cut_latch, cut_own_input, cut_exposed}

AllPairs-append : {X : Type 0} (R : X → X → Type 0) (xs ys : List X) → AllPairs R xs → AllPairs R ys → ((x y : X) → Contains xs x → Contains ys y → R x y) → AllPairs R (xs ++ ys)
AllPairs-append R [] ys px py cross = py
AllPairs-append R (x ∷ xs) ys px py cross =
    AllPairs-cons R x (xs ++ ys)
    (All-append (R x) xs ys (All-from_each (R x) xs (λ y k. AllPairs-head R x xs px y k)) (All-from_each (R x) ys (λ y k. cross x y (Contains-head x xs) k)))
    (AllPairs-append R xs ys (AllPairs-tail R x xs px) py (λ z y h k. cross z y (Contains-tail x z xs h) k))

AllPairs-filter_map : {X Y : Type 0} (S : X → X → Type 0) (R : Y → Y → Type 0) (f : X → Option Y) → ((x x' : X) (y y' : Y) → S x x' → f x ≡ Some y → f x' ≡ Some y' → R y y') →
    (xs : List X) → AllPairs S xs → AllPairs R (filter_map f xs)
AllPairs-filter_map S R f lift [] apart = λ i j d l k. absurd (omega (arith, k))
AllPairs-filter_map {X} {Y} S R f lift (x ∷ xs) apart = go (f x) refl (AllPairs-filter_map S R f lift xs (AllPairs-tail S x xs apart))
  where
    go : (o : Option Y) → f x ≡ o → AllPairs R (filter_map f xs) → AllPairs R (filter_map f (x ∷ xs))
    go None e rest = subst (AllPairs R) (sym (ap (λ o. cons_option o (filter_map f xs)) e)) rest
    go (Some w) e rest =
        subst (AllPairs R) (sym (ap (λ o. cons_option o (filter_map f xs)) e))
        (AllPairs-cons R w (filter_map f xs) (All-from_each (R w) (filter_map f xs) (λ y k. let z = filter_map-from f xs y k in lift x z.0 w y (AllPairs-head S x xs apart z.0 z.1) e z.2)) rest)

module _ (names : List (List ℕ)) (c : Circuit ℕ) (size : ℕ) (net : IsNet c size) (distinct : HasDistinctNames c) (apart : AllPairs (λ x y. x ≢ y) names) where
  -- what stands behind an exposed name
  at_is : (name : List ℕ) (y : Named ℕ) → named_at name (first_of_pair (latch_named c.equations name)) ≡ Some y → (next : ℕ) × IsLatch c name y.place next
  at_is name y h = go (latch_named c.equations name) refl h
    where
      unwrap : (m : Named ℕ) → Some m ≡ Some y → m ≡ y
      unwrap m q = cc

      go : (o : Option (ℕ × ℕ)) → latch_named c.equations name ≡ o → named_at name (first_of_pair o) ≡ Some y → (next : ℕ) × IsLatch c name y.place next
      go None e q = cc
      go (Some x) e q =
          let r : Named ℕ = record { name = name; place = x.0 } in
          (x.1, subst (λ (z : ℕ). IsLatch c name z x.1) (ap (λ (m : Named ℕ). m.place) (unwrap r q)) (latch_named-found c.equations name x.0 x.1 e))

  name_of : Equation ℕ → List ℕ
  name_of (Gate out fanins cover) = []
  name_of (Latch name out next) = name
  name_of (Port out from) = []

  exposed_apart : (name name' : List ℕ) (y y' : Named ℕ) → name ≢ name' → named_at name (first_of_pair (latch_named c.equations name)) ≡ Some y →
      named_at name' (first_of_pair (latch_named c.equations name')) ≡ Some y' → y.place ≢ y'.place
  unfolding name_of
  exposed_apart name name' y y' n h k e =
      let l = at_is name y h in
      let r = at_is name' y' k in
      n (ap name_of (net.single.one (Latch name y.place l.0) (Latch name' y'.place r.0) l.1 r.1 e))

  pub cut_is_net : IsNet (cut names c) size
  unfolding cut
  cut_is_net = record {
    single = cut_single names c net.single;
    inputs = AllPairs-append (λ i j. i.place ≢ j.place) c.inputs (filter_map at names) net.inputs (AllPairs-filter_map (λ x y. x ≢ y) (λ i j. i.place ≢ j.place) at exposed_apart names apart) cross;
    above = All-filter (is_kept names) IsAbove c.equations net.above;
    within = All-filter (is_kept names) (IsWithin size) c.equations net.within;
    driven = λ s h. go s (net.driven s h);
  }
    where
      at : List ℕ → Option (Named ℕ)
      at n = named_at n (first_of_pair (latch_named c.equations n))

      cross : (x y : Named ℕ) → Contains c.inputs x → Contains (filter_map at names) y → x.place ≢ y.place
      cross x y h k e =
          let f = filter_map-from at names y k in
          let l = at_is f.0 y f.2 in
          net.single.no_input (Latch f.0 y.place l.0) l.1 (x.name, subst (λ (z : ℕ). Contains c.inputs (record { name = x.name; place = z })) e h)

      by : (s : ℕ) (e : Equation ℕ) → Contains c.equations e → out_of e ≡ s → IsDriven (cut names c) s
      by s (Gate out fanins cover) h q = inr (Gate out fanins cover, cut_gate names c net.single distinct out fanins cover h, q)
      by s (Port out from) h q = inr (Port out from, cut_port names c net.single distinct out from h, q)
      by s (Latch name out next) h q = pick (is_among names name) refl
        where
          pick : (b : Bool) → is_among names name ≡ b → IsDriven (cut names c) s
          pick true e = inl (name, subst (λ (z : ℕ). Contains (cut names c).inputs (record { name = name; place = z })) q (cut_exposed names c net.single distinct name out next h (is_among-sound names name e)))
          pick false e = inr (Latch name out next, cut_latch names c net.single distinct name out next h e, q)

      go : (s : ℕ) → IsDriven c s → IsDriven (cut names c) s
      go s (inl i) = inl (i.0, cut_own_input names c net.single distinct i.0 s i.1)
      go s (inr x) = by s x.0 x.1 x.2

-- a name that stands twice stays where it is left out once
without_later : {X : Type 0} (xs : List X) (i j : ℕ) (x : X) → i < j → slice_get xs j ≡ Some x → Contains (without xs i) x
without_later [] i j x l h = absurd (let k = slice_get_within [] j x h in omega arith)
without_later (y ∷ xs) i zero x l h = absurd (omega arith)
without_later (y ∷ xs) zero (suc j) x l h = of_at xs j x h
without_later (y ∷ xs) (suc i) (suc j) x l h = Contains-tail y x (without xs i) (without_later xs i j x (omega arith) h)

module _ {P : Type 0} (c : Circuit P) (enabled : P → Type 0) (names : List (List ℕ)) (i : ℕ) (name : List ℕ) (at : slice_get names i ≡ Some name) (there : Contains (without names i) name) where
  stays : (m : List ℕ) → (Contains (without names i) m → ⊥) → Contains names m → ⊥
  stays m kept k = elim (left_out c enabled names i name at names i at m k) [ inl q ↦ kept (subst (Contains (without names i)) (sym q) there) | inr l ↦ kept l ]

  reading_stays : {u v : P} → LatchReads c enabled (without names i) u v → LatchReads c enabled names u v
  reading_stays e = record {
    name = e.name;
    next = e.next;
    latch = e.latch;
    kept = stays e.name e.kept;
    other_name = e.other_name;
    other_next = e.other_next;
    other = e.other;
    other_kept = stays e.other_name e.other_kept;
    cone = e.cone;
    no_self_edge = e.no_self_edge;
  }

  path_stays : {u v : P} → LatchPath c enabled (without names i) u v → LatchPath c enabled names u v
  path_stays (LatchPath.edge e) = LatchPath.edge (reading_stays e)
  path_stays (LatchPath.step e rest) = LatchPath.step (reading_stays e) (path_stays rest)

  pub cycle_stays : HasCycle c enabled (without names i) → HasCycle c enabled names
  cycle_stays (u, path) = (u, path_stays path)

-- a minimal cut has no name twice
pub cut_names_apart : {P Q : Type 0} (mode : Mode) (a : Circuit P) (b : Circuit Q) (names : List (List ℕ)) → IsMinimalCut mode a b names → AllPairs (λ x y. x ≢ y) names
cut_names_apart mode a b names least i j d l h e =
    let at_i : slice_get names i ≡ Some (get_or names i d) = slice_get-get_or names i d (omega arith) in
    let at_j : slice_get names j ≡ Some (get_or names i d) = slice_get-get_or names j d h ∙ ap Some (sym e) in
    let there = without_later names i j (get_or names i d) l at_j in
    elim (least.needed i (omega arith)) [
      | inl c ↦ least.left_free (cycle_stays a (EnabledIn mode a) names i (get_or names i d) at_i there c)
      | inr c ↦ least.right_free (cycle_stays b (EnabledIn mode b) names i (get_or names i d) at_i there c)
    ]
