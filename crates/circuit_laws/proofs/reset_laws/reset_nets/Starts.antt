-- The latches of a net's circuit, and their initial values.
use Rattle.std.proofs.Common.{◌≡◌, ◌≢◌, ◌<◌, ◌∙◌, ℕ, Bool, List, [], ◌∷◌, ◌++◌, length, map, slice_get, Option, Some, None, refl, sym, ap, subst, arith, inl, inr}
use Rattle.std.specs.Prelude.{◌⊎◌}
use Rattle.std.specs.List.{AllPairs, Contains, filter_map, cons_option}
use Rattle.std.proofs.lemmas.Option.{slice_get-get_or}
use Rattle.circuit_theory.specs.Circuit.{Equation, Started, IsLatch}
use Rattle.circuit_theory.specs.Cover.{Cover}
use Rattle.circuit_theory.specs.Cone.{latches_of, latch_place}
use Rattle.circuit_theory.proofs.Lists.{Contains-head, Contains-tail, Contains-cases, filter_map-from, at_of, of_at}
use Rattle.circuit_theory.proofs.Numbers.{slice_get-map}
use Rattle.base_tables.proofs.TableLemmas.{key_at}
use Rattle.flat_net.specs.sec_base.Init.{Init}
use Rattle.flat_net.specs.sec_base.Init.TheVariants as init
use Rattle.flat_net.specs.declared.parts.Gate.{Gate}
use Rattle.flat_net.specs.declared.parts.LatchAt.{LatchAt}
use Rattle.flat_net.specs.declared.parts.Driver.TheVariants as driver
use Rattle.flat_net.specs.View.{NetView, circuit_of, equation_of_gate, equation_of_latch, start_of}
use Rattle.flat_net.specs.Sound.{IsSound}
use Rattle.flat_net.proofs.Nets.{latch_stands}
use Rattle.flat_net.proofs.Places.{one_at}
use Rattle.circuit_laws.specs.reset_laws.Reset.{IsFree, HasStarts}
use Rattle.circuit_laws.specs.reset_laws.reset_nets.Laws.{NetsHaveStarts}

place_of : LatchAt → ℕ
place_of l = l.out.0

no_gates : (covers : List Cover) (gates : List Gate) (es : List (Equation ℕ)) → filter_map latch_place (map (equation_of_gate covers) gates ++ es) ≡ filter_map latch_place es
no_gates covers [] es = refl
no_gates covers (g ∷ gates) es = no_gates covers gates es

only_latches : (ls : List LatchAt) → filter_map latch_place (map equation_of_latch ls) ≡ map place_of ls
unfolding place_of
only_latches [] = refl
only_latches (l ∷ ls) = ap (λ ps. l.out.0 ∷ ps) (only_latches ls)

length-map : {X Y : Type 0} (f : X → Y) (xs : List X) → length (map f xs) ≡ length xs
length-map f [] = refl
length-map f (x ∷ xs) = let h = length-map f xs in omega (arith, h)

filter_map-has : {X Y : Type 0} (f : X → Option Y) (xs : List X) (x : X) (y : Y) → Contains xs x → f x ≡ Some y → Contains (filter_map f xs) y
filter_map-has f [] x y h e = absurd (omega (arith, h.1))
filter_map-has {X} {Y} f (z ∷ xs) x y h e = go (f z) refl (Contains-cases z x xs h) (λ k. filter_map-has f xs x y k e)
  where
    some_is : {a b : Y} → Some a ≡ Some b → a ≡ b
    some_is q = cc

    no : None ≡ Some y → ⊥
    no q = cc

    go : (o : Option Y) → f z ≡ o → (z ≡ x) ⊎ Contains xs x → (Contains xs x → Contains (filter_map f xs) y) → Contains (cons_option (f z) (filter_map f xs)) y
    go None q (inl same) later = absurd (no (sym q ∙ (ap f same ∙ e)))
    go None q (inr k) later = subst (λ (o : Option Y). Contains (cons_option o (filter_map f xs)) y) (sym q) (later k)
    go (Some w) q (inl same) later =
        subst (λ (o : Option Y). Contains (cons_option o (filter_map f xs)) y) (sym q) (subst (λ (v : Y). Contains (w ∷ filter_map f xs) v) (some_is (sym q ∙ (ap f same ∙ e))) (Contains-head w (filter_map f xs)))
    go (Some w) q (inr k) later = subst (λ (o : Option Y). Contains (cons_option o (filter_map f xs)) y) (sym q) (Contains-tail w y (filter_map f xs) (later k))

-- an initial value is of the place
start_place : (p : ℕ) (i : Init) (s : Started ℕ) → start_of p i ≡ Some s → p ≡ s.place
start_place p init.Zero s e = ap place (some_is e)
  where
    some_is : {a b : Started ℕ} → Some a ≡ Some b → a ≡ b
    some_is q = cc

    place : Started ℕ → ℕ
    place t = t.place
start_place p init.One s e = ap place (some_is e)
  where
    some_is : {a b : Started ℕ} → Some a ≡ Some b → a ≡ b
    some_is q = cc

    place : Started ℕ → ℕ
    place t = t.place
start_place p init.DontCare s e = cc
start_place p init.Unknown s e = cc

module _ (n : NetView) (sound : IsSound n) where
  latches_are : latches_of (circuit_of n) ≡ map place_of n.latches
  latches_are = no_gates n.covers n.gates (map equation_of_latch n.latches) ∙ only_latches n.latches

  at_latch : (j : ℕ) (l : LatchAt) → slice_get n.latches j ≡ Some l → slice_get (latches_of (circuit_of n)) j ≡ Some l.out.0
  unfolding place_of
  at_latch j l at = ap (λ (ps : List ℕ). slice_get ps j) latches_are ∙ slice_get-map place_of n.latches j l at

  same_latch : (i j : ℕ) (l m : LatchAt) → slice_get n.latches i ≡ Some l → slice_get n.latches j ≡ Some m → l.out.0 ≡ m.out.0 → i ≡ j
  same_latch i j l m at at' same = index (one_at n.drivers l.out.0 (driver.Latch i) (driver.Latch j) (sound.latches i l at).owner (ap (slice_get n.drivers) same ∙ (sound.latches j m at').owner))
    where
      index : driver.Latch i ≡ driver.Latch j → i ≡ j
      index e = cc

  one_latch : (i j : ℕ) (l m : LatchAt) → slice_get n.latches i ≡ Some l → slice_get n.latches j ≡ Some m → l.out.0 ≡ m.out.0 → l ≡ m
  one_latch i j l m at at' same = one_at n.latches i l m at (ap (slice_get n.latches) (same_latch i j l m at at' same) ∙ at')

  apart : AllPairs (λ u v. u ≢ v) (map place_of n.latches)
  unfolding place_of
  apart i j d below within same =
      let before : i < length (map place_of n.latches) = omega (arith, below, within) in
      let p = key_at place_of n.latches i _ (slice_get-get_or (map place_of n.latches) i d before) in
      let q = key_at place_of n.latches j _ (slice_get-get_or (map place_of n.latches) j d within) in
      let one : i ≡ j = same_latch i j p.0 q.0 p.1 q.1 (p.2 ∙ (same ∙ sym q.2)) in
      omega (arith, below, one)

  -- the latch of an initial value
  start_from : (s : Started ℕ) → Contains (circuit_of n).starts s → (j : ℕ) × (l : LatchAt) × (slice_get n.latches j ≡ Some l) × (start_of l.out.0 l.init ≡ Some s)
  start_from s h =
      let f = filter_map-from (λ (l : LatchAt). start_of l.out.0 l.init) n.latches s h in
      let at = at_of n.latches f.0 f.1 in
      (at.0, f.0, at.1, f.2)

  net_starts : HasStarts (circuit_of n)
  net_starts = record {
    of_latches = λ u bit h.
        let f = start_from (record { place = u; bit = bit }) h in
        let same = start_place f.1.out.0 f.1.init (record { place = u; bit = bit }) f.3 in
        (f.1.name, f.1.next.0, subst (λ (p : ℕ). IsLatch (circuit_of n) f.1.name p f.1.next.0) same (latch_stands n f.0 f.1 f.2));
    once = λ u x y h k.
        let f = start_from (record { place = u; bit = x }) h in
        let g = start_from (record { place = u; bit = y }) k in
        let same = start_place f.1.out.0 f.1.init (record { place = u; bit = x }) f.3 ∙ sym (start_place g.1.out.0 g.1.init (record { place = u; bit = y }) g.3) in
        bits u x y (sym f.3 ∙ (ap (λ (l : LatchAt). start_of l.out.0 l.init) (one_latch f.0 g.0 f.1 g.1 f.2 g.2 same) ∙ g.3));
  }
    where
      unwrap : (s t : Started ℕ) → Some s ≡ Some t → s ≡ t
      unwrap s t e = cc

      bits : (u : ℕ) (x y : Bool) → ◌≡◌ {A = Option (Started ℕ)} (Some (record { place = u; bit = x })) (Some (record { place = u; bit = y })) → x ≡ y
      bits u x y e = ap (λ (s : Started ℕ). s.bit) (unwrap (record { place = u; bit = x }) (record { place = u; bit = y }) e)

  free : (j : ℕ) (l : LatchAt) → slice_get n.latches j ≡ Some l → start_of l.out.0 l.init ≡ None → IsFree (circuit_of n) l.out.0
  free j l at none bit h =
      let f = start_from (record { place = l.out.0; bit = bit }) h in
      let same = start_place f.1.out.0 f.1.init (record { place = l.out.0; bit = bit }) f.3 in
      no (record { place = l.out.0; bit = bit }) (sym none ∙ (ap (λ (m : LatchAt). start_of m.out.0 m.init) (sym (one_latch f.0 j f.1 l f.2 at same)) ∙ f.3))
    where
      no : (s : Started ℕ) → None ≡ Some s → ⊥
      no s q = cc

pub nets_have_starts : NetsHaveStarts
nets_have_starts n sound = (
  net_starts n sound,
  subst (AllPairs (λ (u v : ℕ). u ≢ v)) (sym (latches_are n sound)) (apart n sound),
  ap length (latches_are n sound) ∙ length-map place_of n.latches,
  at_latch n sound,
  λ j l s at e. filter_map-has (λ (m : LatchAt). start_of m.out.0 m.init) n.latches l s (of_at n.latches j l at) e,
  free n sound,
)
