-- Sorted keys stand for variables in their order.
use Rattle.std.proofs.Common.{◌≡◌, ◌≢◌, ◌∙◌, ◌-◌, ◌<◌, ℕ, false, true≢false, List, [], ◌∷◌, length, map, reverse, get_or, slice_get, Some, refl, sym, ap, subst, arith, eqb, inl, inr, ◌+◌, ◌^◌, ◌++◌, take}
use Rattle.std.specs.Prelude.{IsSorted, IsPermutation, slice_index_or}
use Rattle.std.specs.List.{All, AllPairs, AllZip, Contains, dedup}
use Rattle.std.specs.Cmp.{IsStrictWeakOrder}
use Rattle.std.specs.Cmp.Lexicographic.{slice_cmp}
use Rattle.std.specs.declared.cmp.Ordering.{Ordering}
use Rattle.std.specs.declared.cmp.Ordering.TheVariants.{Less, Equal, Greater}
use Rattle.std.specs.Ordering.{is_lt, nat_cmp, ordering_then, MatchOrdering}
use Rattle.std.proofs.lemmas.Bool.Decides.{Decides-eqb}
use Rattle.std.proofs.lemmas.Cmp.{ranked, then_total, on_total, nat_cmp_total, nat_list_cmp_total}
use Rattle.std.proofs.lemmas.List.{reverse-reverse, length-reverse, get_or-map, map-append, take_more}
use Rattle.std.proofs.lemmas.List.Elements.{All-nil, All-cons, All-contains, Contains-get_or}
use Rattle.std.proofs.lemmas.List.Kept.{AllPairs-from_increasing, Contains-dedup_nat, Contains-from_dedup}
use Rattle.std.proofs.lemmas.List.Sorted.{IsPermutation-sym, IsPermutation-map, Contains-permutation, All-permutation, sorted_far, ranks_by}
use Rattle.std.proofs.lemmas.Map.Keys.{IsStrictlyIncreasing-dedup, IsDistinct-IsPermutation}
use Rattle.std.proofs.lemmas.Map.Made.{AllPairs-from_IsDistinct, IsDistinct-from_AllPairs}
use Rattle.std.proofs.lemmas.Option.{slice_get-get_or, get_or_from_slice_get}
use Rattle.circuit_theory.proofs.Lists.{All-from_each, Contains-map, length-map, zip_push}
use Rattle.circuit_theory.proofs.Numbers.{slice_get-map}
use Rattle.circuit_theory.specs.Names.{ListBefore}
use Rattle.circuit_theory.specs.Frame.{NodeBefore}
use Rattle.event_nodes.specs.Nodes.{EventGraphView, IsEventGraph, named_places, path_of}
use Rattle.event_nodes.proofs.event_variables.Named.{named_distinct}
use Rattle.event_nodes.specs.declared.event_variables.ordering.Key.{Key}
use Rattle.event_nodes.specs.event_variables.Variables.{variable_of}
use Rattle.event_nodes.specs.event_variables.Order.{IsOnce, IsKeyOf, AreKeysOf, IsOrderOf}
use Rattle.event_nodes.proofs.event_variables.PathOrder.{greater_after, equal_same}

-- a pair of lists with one element more each
pub zip_next : {X Y : Type 0} (R : X → Y → Type 0) (xs : List X) (ys : List Y) (i : ℕ) (d : X) (y : Y) → i < length xs → AllZip R (take i xs) ys → R (get_or xs i d) y → AllZip R (take (i + 1) xs) (ys ++ y ∷ [])
zip_next R xs ys i d y inside zip here = subst (λ l. AllZip R l (ys ++ y ∷ [])) (sym (take_more xs i d inside)) (zip_push R (take i xs) ys (get_or xs i d) y zip here)

-- one key's number more
pub map_next : {X Y : Type 0} (f : X → Y) (xs : List X) (ys new : List Y) (i : ℕ) (d : X) → i < length xs → ys ≡ map f (take i xs) → new ≡ ys ++ f (get_or xs i d) ∷ [] → new ≡ map f (take (i + 1) xs)
map_next {X} {Y} f xs ys new i d inside before pushed = pushed ∙ (ap (λ (l : List Y). l ++ f (get_or xs i d) ∷ []) before ∙ (sym (map-append f (take i xs) (get_or xs i d ∷ [])) ∙ ap (map f) (sym (take_more xs i d inside))))

-- the key of a variable by its place
pub key_is : (w : EventGraphView) (v : ℕ) (p : ℕ × ℕ) (key : Key) → slice_get w.places v ≡ Some p → key.variable ≡ v → key.input ≡ p.0 → key.path.items ≡ reverse (path_of w.children p.1) → key.shortness + length key.path.items ≡ 2 ^ 64 - 1 → IsKeyOf w v key
key_is w v p key at variable input path shortness = record {
  variable = variable;
  input = input ∙ sym (ap (λ (q : ℕ × List ℕ). q.0) named);
  path = path ∙ ap reverse (sym (ap (λ (q : ℕ × List ℕ). q.1) named));
  shortness = omega (arith, shortness, ap length path, length-reverse (path_of w.children p.1), ap (λ (q : ℕ × List ℕ). length q.1) named);
}
  where
    named : slice_index_or (named_places w) v (0, []) ≡ (p.0, path_of w.children p.1)
    named = get_or_from_slice_get (named_places w) v (p.0, path_of w.children p.1) (0, []) (slice_get-map (λ (q : ℕ × ℕ). (q.0, path_of w.children q.1)) w.places v p at)

-- a sorted list without what stands twice
pub once_sorted : (numbers sorted made : List ℕ) → IsPermutation numbers sorted → IsSorted nat_cmp sorted → made ≡ dedup eqb sorted → IsOnce numbers made
once_sorted numbers sorted made moved rises is = subst (IsOnce numbers) (sym is) (record {
  same = λ v. (λ h. Contains-permutation sorted numbers v (IsPermutation-sym numbers sorted moved) (Contains-from_dedup eqb sorted v h), λ h. Contains-dedup_nat sorted v (Contains-permutation numbers sorted v moved h));
  apart = λ i j d l m same. (let below = AllPairs-from_increasing (dedup eqb sorted) (IsStrictlyIncreasing-dedup sorted rises) i j d l m in omega (arith, below, same));
})

-- the order of keys by which a sort goes
abbrev pub key_cmp : Key → Key → Ordering
key_cmp x y = ordering_then (nat_cmp x.shortness y.shortness) (ordering_then (slice_cmp nat_cmp x.path.items y.path.items) (ordering_then (nat_cmp x.input y.input) (nat_cmp x.variable y.variable)))

key_order : IsStrictWeakOrder (λ x y. is_lt (key_cmp x y))
key_order =
    ranks_by (then_total (on_total (λ (s : Key). s.shortness) nat_cmp_total) (then_total (on_total (λ (s : Key). s.path.items) nat_list_cmp_total) (then_total (on_total (λ (s : Key). s.input) nat_cmp_total) (on_total (λ (s : Key). s.variable) nat_cmp_total)))) (λ s. s)

module _ (w : EventGraphView) (is : IsEventGraph w) where
  -- of two variables that differ the one whose key isn't less comes after
  before : (x y : Key) → IsKeyOf w x.variable x → IsKeyOf w y.variable y → x.variable < length (named_places w) → y.variable < length (named_places w) → x.variable ≢ y.variable → is_lt (key_cmp y x) ≡ false → NodeBefore (variable_of w x.variable) (variable_of w y.variable)
  before x y kx ky inx iny apart not_less =
      go (nat_cmp y.shortness x.shortness) (slice_cmp nat_cmp y.path.items x.path.items) (nat_cmp y.input x.input) (ranked y.shortness x.shortness _ refl) refl (ranked y.input x.input _ refl) not_less
    where
      go : (o r s : Ordering) → MatchOrdering o (y.shortness < x.shortness) (y.shortness ≡ x.shortness) (x.shortness < y.shortness) → slice_cmp nat_cmp y.path.items x.path.items ≡ r → MatchOrdering s (y.input < x.input) (y.input ≡ x.input) (x.input < y.input) →
          is_lt (ordering_then o (ordering_then r (ordering_then s (nat_cmp y.variable x.variable)))) ≡ false → NodeBefore (variable_of w x.variable) (variable_of w y.variable)
      go Less r s m k n off = absurd (true≢false off)
      go Greater r s m k n off = inl (omega (arith, m, kx.shortness, ky.shortness))
      go Equal Less s m k n off = absurd (true≢false off)
      go Equal Greater s m k n off = inr (omega (arith, m, kx.shortness, ky.shortness), inl (subst (λ (p : List ℕ). ListBefore p (reverse (variable_of w y.variable).at)) kx.path (subst (ListBefore x.path.items) ky.path (greater_after y.path.items x.path.items k))))
      go Equal Equal Less m k n off = absurd (true≢false off)
      go Equal Equal Greater m k n off = inr (omega (arith, m, kx.shortness, ky.shortness), inr (sym (same_path k), omega (arith, n, kx.input, ky.input)))
        where
          same_path : slice_cmp nat_cmp y.path.items x.path.items ≡ Equal → (variable_of w y.variable).at ≡ (variable_of w x.variable).at
          same_path e = sym (reverse-reverse (variable_of w y.variable).at) ∙ (ap reverse (sym ky.path ∙ (equal_same y.path.items x.path.items e ∙ kx.path)) ∙ reverse-reverse (variable_of w x.variable).at)
      go Equal Equal Equal m k n off = absurd (apart (sym same_number))
        where
          path : (variable_of w y.variable).at ≡ (variable_of w x.variable).at
          path = sym (reverse-reverse (variable_of w y.variable).at) ∙ (ap reverse (sym ky.path ∙ (equal_same y.path.items x.path.items k ∙ kx.path)) ∙ reverse-reverse (variable_of w x.variable).at)

          input : (variable_of w y.variable).input ≡ (variable_of w x.variable).input
          input = sym ky.input ∙ (n ∙ kx.input)

          place : slice_index_or (named_places w) y.variable (0, []) ≡ slice_index_or (named_places w) x.variable (0, [])
          place = λ i. (input i, path i)

          same_number : y.variable ≡ x.variable
          same_number = named_distinct w is y.variable x.variable (slice_index_or (named_places w) y.variable (0, [])) (slice_get-get_or (named_places w) y.variable (0, []) iny)
              (subst (λ (p : ℕ × List ℕ). slice_get (named_places w) x.variable ≡ Some p) (sym place) (slice_get-get_or (named_places w) x.variable (0, []) inx))

  keys_all : (numbers : List ℕ) (keys : List Key) → AreKeysOf w numbers keys → All (λ k. IsKeyOf w k.variable k) keys
  keys_all [] [] h = All-nil (λ (k : Key). IsKeyOf w k.variable k)
  keys_all [] (k ∷ ks) h = absurd h
  keys_all (v ∷ vs) [] h = absurd h
  keys_all (v ∷ vs) (k ∷ ks) h = All-cons (λ (k : Key). IsKeyOf w k.variable k) k ks (subst (λ (n : ℕ). IsKeyOf w n k) (sym (IsKeyOf.variable h.0)) h.0) (keys_all vs ks h.1)

  keys_numbers : (numbers : List ℕ) (keys : List Key) → AreKeysOf w numbers keys → map (λ k. k.variable) keys ≡ numbers
  keys_numbers [] [] h = refl
  keys_numbers [] (k ∷ ks) h = absurd h
  keys_numbers (v ∷ vs) [] h = absurd h
  keys_numbers (v ∷ vs) (k ∷ ks) h = ap (λ (n : ℕ). n ∷ map (λ (k : Key). k.variable) ks) (IsKeyOf.variable h.0) ∙ ap (λ (l : List ℕ). v ∷ l) (keys_numbers vs ks h.1)

  flips : (x y : ℕ) → eqb x y ≡ eqb y x
  flips x y = grind arith

  pub ordered : (numbers once : List ℕ) (keys sorted : List Key) → All (λ v. v < length (named_places w)) once → IsOnce numbers once → AreKeysOf w once keys → IsPermutation keys sorted → IsSorted key_cmp sorted → (made : List ℕ) → made ≡ map (λ k. k.variable) sorted → IsOrderOf w numbers made
  ordered numbers once keys sorted within are of moved rises made is = subst (IsOrderOf w numbers) (sym is) (record {
    same = λ v. (λ h. (are.same v).0 (Contains-permutation ordered_numbers once v (IsPermutation-sym once ordered_numbers shuffled) h), λ h. Contains-permutation once ordered_numbers v shuffled ((are.same v).1 h));
    in_order = record { within = inside_all; ordered = pair };
  })
    where
      ordered_numbers : List ℕ
      ordered_numbers = map (λ (k : Key). k.variable) sorted

      shuffled : IsPermutation once (map (λ (k : Key). k.variable) sorted)
      shuffled = subst (λ (l : List ℕ). IsPermutation l (map (λ (k : Key). k.variable) sorted)) (keys_numbers once keys of) (IsPermutation-map (λ (k : Key). k.variable) keys sorted moved)

      apart : AllPairs ◌≢◌ (map (λ (k : Key). k.variable) sorted)
      apart = AllPairs-from_IsDistinct Decides-eqb (map (λ (k : Key). k.variable) sorted) (IsDistinct-IsPermutation eqb flips once (map (λ (k : Key). k.variable) sorted) shuffled (IsDistinct-from_AllPairs Decides-eqb once are.apart))

      each : All (λ k. IsKeyOf w k.variable k) sorted
      each = All-permutation (λ (k : Key). IsKeyOf w k.variable k) keys sorted moved (keys_all once keys of)

      inside : (k : Key) → Contains sorted k → k.variable < length (named_places w)
      inside k h = All-contains (λ (v : ℕ). v < length (named_places w)) once k.variable within (Contains-permutation (map (λ (k : Key). k.variable) sorted) once k.variable (IsPermutation-sym once (map (λ (k : Key). k.variable) sorted) shuffled) (Contains-map (λ (k : Key). k.variable) sorted k h))

      inside_all : All (λ v. v < length w.places) (map (λ (k : Key). k.variable) sorted)
      inside_all = All-from_each (λ (v : ℕ). v < length w.places) (map (λ (k : Key). k.variable) sorted) (λ v h.
          let below = All-contains (λ (u : ℕ). u < length (named_places w)) once v within (Contains-permutation (map (λ (k : Key). k.variable) sorted) once v (IsPermutation-sym once (map (λ (k : Key). k.variable) sorted) shuffled) h) in
          let many = length-map {Y = ℕ × List ℕ} (λ (p : ℕ × ℕ). (p.0, path_of w.children p.1)) w.places in
          omega (arith, below, many))

      pair : (i j d : ℕ) → i < j → j < length (map (λ (k : Key). k.variable) sorted) → NodeBefore (variable_of w (get_or (map (λ (k : Key). k.variable) sorted) i d)) (variable_of w (get_or (map (λ (k : Key). k.variable) sorted) j d))
      pair i j d l m = go sorted refl
        where
          go : (ks : List Key) → ks ≡ sorted → NodeBefore (variable_of w (get_or (map (λ (k : Key). k.variable) sorted) i d)) (variable_of w (get_or (map (λ (k : Key). k.variable) sorted) j d))
          go [] e = absurd (let z = ap (λ (l : List Key). length (map (λ (k : Key). k.variable) l)) e in omega (arith, z, m))
          go (k ∷ ks) e =
              let many : length (map (λ (k : Key). k.variable) sorted) ≡ length sorted = length-map (λ (k : Key). k.variable) sorted in
              let j_in : j < length sorted = omega (arith, m, many) in
              let i_in : i < length sorted = omega (arith, l, j_in) in
              let at_i : get_or (map (λ (k : Key). k.variable) sorted) i d ≡ (get_or sorted i k).variable = get_or-map (λ (k : Key). k.variable) sorted i k d i_in in
              let at_j : get_or (map (λ (k : Key). k.variable) sorted) j d ≡ (get_or sorted j k).variable = get_or-map (λ (k : Key). k.variable) sorted j k d j_in in
              let x = get_or sorted i k in
              let y = get_or sorted j k in
              let x_in = Contains-get_or sorted i k i_in in
              let y_in = Contains-get_or sorted j k j_in in
              subst (λ (u : ℕ). NodeBefore (variable_of w u) (variable_of w (get_or (map (λ (k : Key). k.variable) sorted) j d))) (sym at_i)
              (subst (λ (u : ℕ). NodeBefore (variable_of w x.variable) (variable_of w u)) (sym at_j)
              (before x y (All-contains (λ (k : Key). IsKeyOf w k.variable k) sorted x each x_in) (All-contains (λ (k : Key). IsKeyOf w k.variable k) sorted y each y_in) (inside x x_in) (inside y y_in)
              (λ same. apart i j d l m (at_i ∙ (same ∙ sym at_j)))
              (sorted_far (λ a b. is_lt (key_cmp a b)) key_order sorted rises i j k (omega (arith, l)) j_in)))
