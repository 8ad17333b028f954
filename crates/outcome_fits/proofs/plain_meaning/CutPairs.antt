-- The pairs of a comparison by their names: each pair that is compared is listed, each that is listed is compared, and each has its
-- result.
use Rattle.std.proofs.Common.{◌≡◌, ℕ, zero, suc, ◌≤◌, max, Bool, true, false, cond, List, [], ◌∷◌, ◌++◌, map, refl, sym, ◌∙◌, ap, subst, arith, inl, inr, ◌⊎◌, Option, Some, None, slice_get}
use Rattle.std.specs.List.{Contains, filter_map, cons_option, fold}
use Rattle.std.specs.Option.{option_map}
use Rattle.std.proofs.lemmas.List.{map-append}
use Rattle.std.proofs.lemmas.List.Elements.{Contains-append_cases}
use Rattle.std.proofs.lemmas.Option.{none-some}
use Rattle.circuit_theory.specs.Names.{same_name}
use Rattle.circuit_theory.specs.Circuit.{Circuit, Named, IsLatch, IsSingleDriven}
use Rattle.circuit_theory.specs.Net.{HasDistinctNames}
use Rattle.circuit_theory.specs.Agree.{PairAt, IsPair, pairs_of, pair_at, place_named, latch_named, second_of_pair}
use Rattle.circuit_theory.proofs.Lists.{Contains-head, Contains-tail, Contains-map_from, filter_map-from, map-map, at_of, zip_right}
use Rattle.circuit_theory.proofs.Inputs.{same_name-sound}
use Rattle.circuit_theory.proofs.Numbers.{slice_get-map}
use Rattle.circuit_laws.proofs.Onward.{latch_named-found}
use Rattle.circuit_laws.proofs.Pairs.{pairs_are_listed}
use Rattle.sec_setup.specs.flat_net.Port.{Port}
use Rattle.sec_setup.specs.flat_net.View.{NetView, named, circuit_of}
use Rattle.sec_setup.specs.flat_net.Table.{AreDistinct}
use Rattle.sec_setup.specs.witness_report.PairName.{PairName}
use Rattle.sec_setup.specs.witness_report.PairName.TheVariants as pair
use Rattle.obligations.specs.declared.outcome.verdict.PairResult.{PairResult}
use Rattle.outcome_fits.specs.Outcome.{PairFits, PairsFit, greatest_size}
use Rattle.sec_setup.specs.ports.Pairs.{NamedPair, pair_called, named_pairs}
use Rattle.sec_setup.specs.witness_report.Shown.{ArePlacesOf}

some_is : {X : Type 0} {x y : X} → Some x ≡ Some y → x ≡ y
some_is q = cc

-- where no output name of a net stands twice, a name is one place's
pub one_output : (n : NetView) → AreDistinct (map (λ (p : Port). p.name) n.outputs) → (name : List ℕ) (q r : ℕ) →
    Contains (circuit_of n).outputs (record { name = name; place = q }) → Contains (circuit_of n).outputs (record { name = name; place = r }) → q ≡ r
one_output n distinct name q r h k =
    let i = at_of (map named n.outputs) (record { name = name; place = q }) h in
    let j = at_of (map named n.outputs) (record { name = name; place = r }) k in
    let same : i.0 ≡ j.0 = distinct i.0 j.0 name (named_at i.0 q i.1) (named_at j.0 r j.1) in
    ap (λ (m : Named ℕ). m.place) (some_is (sym i.1 ∙ (ap (slice_get (map named n.outputs)) same ∙ j.1)))
  where
    named_at : (i q : ℕ) → slice_get (map named n.outputs) i ≡ Some (record { name = name; place = q }) → slice_get (map (λ (p : Port). p.name) n.outputs) i ≡ Some name
    named_at i q at =
        ap (λ (names : List (List ℕ)). slice_get names i) (sym (map-map (λ (m : Named ℕ). m.name) named n.outputs))
        ∙ slice_get-map (λ (m : Named ℕ). m.name) (map named n.outputs) i (record { name = name; place = q }) at

-- a place that is found under a name stands there under it
place_stands : {P : Type 0} (ns : List (Named P)) (name : List ℕ) (p : P) → place_named ns name ≡ Some p → Contains ns (record { name = name; place = p })
place_stands [] name p h = absurd (none-some p h)
place_stands {P} (n ∷ ns) name p h = go (same_name n.name name) refl (λ k. place_stands ns name p k)
  where
    go : (b : Bool) → same_name n.name name ≡ b → (place_named ns name ≡ Some p → Contains ns (record { name = name; place = p })) → Contains (n ∷ ns) (record { name = name; place = p })
    go true e later =
        subst (λ (x : P). Contains (n ∷ ns) (record { name = name; place = x })) (some_is (sym (ap (λ b. cond b (Some n.place) (place_named ns name)) e) ∙ h))
        (subst (λ (m : List ℕ). Contains (n ∷ ns) (record { name = m; place = n.place })) (same_name-sound n.name name e) (Contains-head n ns))
    go false e later = Contains-tail n _ ns (later (sym (ap (λ b. cond b (Some n.place) (place_named ns name)) e) ∙ h))

-- what is found under a latch's name is what the latch takes over
latch_stands : {P : Type 0} (c : Circuit P) (name : List ℕ) (o : Option (P × P)) (p : P) → latch_named c.equations name ≡ o → second_of_pair o ≡ Some p → (u : P) × IsLatch c name u p
latch_stands c name None p e h = absurd (none-some p h)
latch_stands {P} c name (Some x) p e h = (x.0, subst (λ (z : P). IsLatch c name x.0 z) (some_is h) (latch_named-found c.equations name x.0 x.1 e))

module _ {P Q : Type 0} where
  -- the places of a pair without its name
  abbrev places : NamedPair P Q → PairAt P Q
  places x = record { left = x.left; right = x.right }

  called_places : (name : PairName) (x : Option P) (y : Option Q) → pair_at x y ≡ option_map places (pair_called name x y)
  called_places name None y = refl
  called_places name (Some p) None = refl
  called_places name (Some p) (Some q) = refl

  -- the places of listed pairs are those listed
  places_listed : {X : Type 0} (f : X → Option (NamedPair P Q)) (g : X → Option (PairAt P Q)) (xs : List X) → ((x : X) → g x ≡ option_map places (f x)) → map places (filter_map f xs) ≡ filter_map g xs
  places_listed f g [] same = refl
  places_listed f g (x ∷ xs) same =
      first (f x) (filter_map f xs)
      ∙ ap (λ (zs : List (PairAt P Q)). cons_option (option_map places (f x)) zs) (places_listed f g xs same)
      ∙ ap (λ o. cons_option o (filter_map g xs)) (sym (same x))
    where
      first : (o : Option (NamedPair P Q)) (zs : List (NamedPair P Q)) → map places (cons_option o zs) ≡ cons_option (option_map places o) (map places zs)
      first None zs = refl
      first (Some z) zs = refl

  -- a called pair has both places
  both_called : (name : PairName) (x : Option P) (y : Option Q) (z : NamedPair P Q) → pair_called name x y ≡ Some z → (z.name ≡ name) × (x ≡ Some z.left) × (y ≡ Some z.right)
  both_called name None y z h = absurd (none-some z h)
  both_called name (Some p) None z h = absurd (none-some z h)
  both_called name (Some p) (Some q) z h =
      let e = some_is h in
      (ap (λ (m : NamedPair P Q). m.name) (sym e), ap (λ (m : NamedPair P Q). Some m.left) e, ap (λ (m : NamedPair P Q). Some m.right) e)

-- a listed pair of outputs of one name
pub record IsOutputPair {P Q : Type 0} (a : Circuit P) (b : Circuit Q) (x : NamedPair P Q) : Type 0 where
  pub name : List ℕ
  pub called : x.name ≡ pair.Output name
  pub left_output : Contains a.outputs (record { name = name; place = x.left })
  pub right_output : Contains b.outputs (record { name = name; place = x.right })

-- a listed pair of what the latches of an exposed name take over
pub record IsNextPair {P Q : Type 0} (names : List (List ℕ)) (a : Circuit P) (b : Circuit Q) (x : NamedPair P Q) : Type 0 where
  pub name : List ℕ
  pub called : x.name ≡ pair.Next name
  pub exposed : Contains names name
  pub left_latch : (u : P) × IsLatch a name u x.left
  pub right_latch : (v : Q) × IsLatch b name v x.right

module _ {P Q : Type 0} (names : List (List ℕ)) (a : Circuit P) (b : Circuit Q) where
  abbrev output_pair : Named P → Option (NamedPair P Q)
  output_pair o = pair_called (pair.Output o.name) (Some o.place) (place_named b.outputs o.name)

  abbrev next_pair : List ℕ → Option (NamedPair P Q)
  next_pair name = pair_called (pair.Next name) (second_of_pair (latch_named a.equations name)) (second_of_pair (latch_named b.equations name))

  -- without their names they are the pairs of the theory
  named_places : map places (named_pairs names a b) ≡ pairs_of names a b
  named_places =
      map-append places (filter_map output_pair a.outputs) (filter_map next_pair names)
      ∙ ap (λ (zs : List (PairAt P Q)). zs ++ map places (filter_map next_pair names))
      (places_listed output_pair (λ n. pair_at (Some n.place) (place_named b.outputs n.name)) a.outputs (λ n. called_places (pair.Output n.name) (Some n.place) (place_named b.outputs n.name)))
      ∙ ap (λ (zs : List (PairAt P Q)). filter_map (λ n. pair_at (Some n.place) (place_named b.outputs n.name)) a.outputs ++ zs)
      (places_listed next_pair (λ name. pair_at (second_of_pair (latch_named a.equations name)) (second_of_pair (latch_named b.equations name))) names
      (λ name. called_places (pair.Next name) (second_of_pair (latch_named a.equations name)) (second_of_pair (latch_named b.equations name))))

  -- each pair that is compared is listed
  pub pair_listed : IsSingleDriven a → IsSingleDriven b → HasDistinctNames a → HasDistinctNames b →
      ((name : List ℕ) (q r : Q) → Contains b.outputs (record { name = name; place = q }) → Contains b.outputs (record { name = name; place = r }) → q ≡ r) →
      (p : P) (q : Q) → IsPair names a b p q → (x : NamedPair P Q) × Contains (named_pairs names a b) x × (x.left ≡ p) × (x.right ≡ q)
  pair_listed sa sb na nb once p q is_pair =
      let there : Contains (pairs_of names a b) (record { left = p; right = q }) = (pairs_are_listed names a b sa sb na nb once p q).0 is_pair in
      let x = Contains-map_from places (named_pairs names a b) (record { left = p; right = q }) (subst (λ (zs : List (PairAt P Q)). Contains zs (record { left = p; right = q })) (sym named_places) there) in
      (x.0, x.1, ap (λ (z : PairAt P Q). z.left) x.2, ap (λ (z : PairAt P Q). z.right) x.2)

  -- and each that is listed is compared
  pub listed_is : (x : NamedPair P Q) → Contains (named_pairs names a b) x → IsOutputPair a b x ⊎ IsNextPair names a b x
  listed_is x h = go (Contains-append_cases (filter_map output_pair a.outputs) (filter_map next_pair names) x h)
    where
      go : Contains (filter_map output_pair a.outputs) x ⊎ Contains (filter_map next_pair names) x → IsOutputPair a b x ⊎ IsNextPair names a b x
      go (inl k) =
          let f = filter_map-from output_pair a.outputs x k in
          let parts = both_called (pair.Output f.0.name) (Some f.0.place) (place_named b.outputs f.0.name) x f.2 in
          inl (record {
            name = f.0.name;
            called = parts.0;
            left_output = subst (λ (z : P). Contains a.outputs (record { name = f.0.name; place = z })) (some_is parts.1) f.1;
            right_output = place_stands b.outputs f.0.name x.right parts.2;
          })
      go (inr k) =
          let f = filter_map-from next_pair names x k in
          let parts = both_called (pair.Next f.0) (second_of_pair (latch_named a.equations f.0)) (second_of_pair (latch_named b.equations f.0)) x f.2 in
          inr (record {
            name = f.0;
            called = parts.0;
            exposed = f.1;
            left_latch = latch_stands a f.0 (latch_named a.equations f.0) x.left refl parts.1;
            right_latch = latch_stands b f.0 (latch_named b.equations f.0) x.right refl parts.2;
          })

  -- the places of a listed pair are those of its name
  pub listed_places : (x : NamedPair P Q) → Contains (named_pairs names a b) x → ArePlacesOf a b x.name x.left x.right
  listed_places x h = go (listed_is x h)
    where
      go : IsOutputPair a b x ⊎ IsNextPair names a b x → ArePlacesOf a b x.name x.left x.right
      go (inl o) = subst (λ (n : PairName). ArePlacesOf a b n x.left x.right) (sym o.called) (o.left_output, o.right_output)
      go (inr l) = subst (λ (n : PairName). ArePlacesOf a b n x.left x.right) (sym l.called) (l.left_latch, l.right_latch)

module _ {P Q : Type 0} (a : Circuit P) (b : Circuit Q) (left right : List ℕ) (cut : Bool) (conflicts : ℕ) where
  -- each listed pair has its result
  pub result_of : (pairs : List (NamedPair P Q)) (results : List PairResult) → PairsFit a b left right cut conflicts pairs results → (x : NamedPair P Q) → Contains pairs x →
      (i : ℕ) × (r : PairResult) × (slice_get results i ≡ Some r) × PairFits a b left right cut conflicts x r
  result_of pairs results fit x h =
      let at = at_of pairs x h in
      let found = zip_right (PairFits a b left right cut conflicts) pairs results fit at.0 x at.1 in
      (at.0, found.0, found.1, found.2)

-- no size is above the greatest
grown : (size : ℕ) (rs : List PairResult) → size ≤ fold (λ n (r : PairResult). max n r.size) size rs
grown size [] = omega arith
grown size (r ∷ rs) = let h = grown (max size r.size) rs in omega arith

size_within : (size : ℕ) (rs : List PairResult) (i : ℕ) (r : PairResult) → slice_get rs i ≡ Some r → r.size ≤ fold (λ n (s : PairResult). max n s.size) size rs
size_within size [] i r h = absurd (none-some r h)
size_within size (s ∷ rs) zero r h =
    let same : s.size ≡ r.size = ap (λ (z : PairResult). z.size) (some_is h) in
    let more = grown (max size s.size) rs in
    omega arith
size_within size (s ∷ rs) (suc i) r h = size_within (max size s.size) rs i r h

pub size_is_within : (rs : List PairResult) (i : ℕ) (r : PairResult) → slice_get rs i ≡ Some r → r.size ≤ greatest_size rs
size_is_within rs i r h = size_within 0 rs i r h
