-- The literals of a net's signals: each stands there once, and each literal that is driven stands there.
use Rattle.std.proofs.Common.{◌≡◌, ◌≢◌, ℕ, zero, suc, ◌+◌, ◌*◌, ◌%◌, ◌/◌, ◌<◌, Bool, true, false, true≢false, eqb, ltb, List, [], ◌∷◌, ◌++◌, map, length, slice_get, get_or, take, append-nil, Option, Some, None, refl, sym, ◌∙◌, ap, subst, arith, inl, inr}
use Rattle.std.specs.Prelude.{◌⊎◌, ◌||◌, ◌==◌}
use Rattle.std.specs.List.{Contains, filter, filter_map, cons_option, list_all, list_any}
use Rattle.std.proofs.lemmas.Bool.{ltb-true, or_left, or_right}
use Rattle.std.proofs.lemmas.Bool.Decides.{Decides-eqb, Decides-ltb}
use Rattle.std.proofs.lemmas.List.{map-id}
use Rattle.std.proofs.lemmas.List.Elements.{Contains-append_left, Contains-append_right, Contains-append_cases}
use Rattle.std.proofs.lemmas.List.Folds.{list_any_at}
use Rattle.std.proofs.lemmas.Option.{none-some, same_Some, slice_get_within, get_or_from_slice_get}
use Rattle.circuit_theory.proofs.Lists.{Contains-head, Contains-tail, Contains-filter, Contains-map, Contains-map_from, filter_test, filter_map-from, at_of, only}
use Rattle.base_tables.specs.Table.{AreDistinct}
use Rattle.base_tables.proofs.TableLemmas.{take-push}
use Rattle.aiger_read.proofs.aiger_file.aiger_graph.net_assembly.DistinctLists.{distinct_nil, distinct_cons, distinct_append, distinct_filter, Contains-kept}
use Rattle.aiger_read.proofs.aiger_file.aiger_graph.net_assembly.Building.{list_all_place}
use Rattle.aiger_read.specs.declared.aiger_records.record.Record.{Record}
use Rattle.aiger_read.specs.declared.aiger_records.record.Record.TheVariants.{Input, Latch, Output, Gate, Packed}
use Rattle.aiger_read.specs.aiger_records.Faults.{defined_by, is_literal, is_defined, DefinesOnce}
use Rattle.aiger_read.specs.aiger_records.Driven.{used_by, is_driven, all_driven}
use Rattle.aiger_read.proofs.aiger_records.DefinedOnce.{defined_there}
use Rattle.aiger_read.specs.aiger_file.aiger_graph.Circuit.{LatchLine, is_used, input_of, output_of, latch_of, input_literals, output_literals, latches_in}
use Rattle.aiger_read.specs.aiger_file.aiger_graph.Literals.{operands, reads_in}
use Rattle.aiger_read.specs.SignalNames.{latch_literals}
use Rattle.aiger_read.specs.Signals.{is_gate, all_literals}
use Rattle.aiger_read.proofs.aiger_file.aiger_graph.ReadLiterals.{AreWell, IsReader, reads_at, negation_reads, reader, operands_used}

-- what a function gives of some items of a list
pub kept_has : {X Y : Type 0} (h : X → Option Y) (xs : List X) (j : ℕ) (x : X) (y : Y) → slice_get xs j ≡ Some x → h x ≡ Some y → Contains (filter_map h xs) y
kept_has h [] j x y at is = absurd (none-some x at)
kept_has {X} {Y} h (z ∷ xs) zero x y at is =
    subst (λ (o : Option Y). Contains (cons_option o (filter_map h xs)) y) (sym (ap h (same_Some z x at) ∙ is)) (Contains-head y (filter_map h xs))
kept_has {X} {Y} h (z ∷ xs) (suc j) x y at is = go (h z) (kept_has h xs j x y at is)
  where
    go : (o : Option Y) → Contains (filter_map h xs) y → Contains (cons_option o (filter_map h xs)) y
    go None k = k
    go (Some w) k = Contains-tail w y (filter_map h xs) k

-- they are distinct, where no two items give the same key
pub kept_distinct : {X Y : Type 0} (h : X → Option Y) (f : Y → ℕ) (xs : List X) →
    ((i j : ℕ) (x z : X) (y w : Y) → slice_get xs i ≡ Some x → slice_get xs j ≡ Some z → h x ≡ Some y → h z ≡ Some w → f y ≡ f w → i ≡ j) → AreDistinct (map f (filter_map h xs))
kept_distinct h f [] apart = distinct_nil
kept_distinct {X} {Y} h f (x ∷ xs) apart = go (h x) refl (kept_distinct h f xs (λ i j a z y w hi hj ha hz e. let k : suc i ≡ suc j = apart (suc i) (suc j) a z y w hi hj ha hz e in omega (arith, k)))
  where
    new : (y : Y) → h x ≡ Some y → Contains (map f (filter_map h xs)) (f y) → ⊥
    new y is k =
        let v = Contains-map_from f (filter_map h xs) (f y) k in
        let w = filter_map-from h xs v.0 v.1 in
        let at = at_of xs w.0 w.1 in
        let e : 0 ≡ suc at.0 = apart 0 (suc at.0) x w.0 y v.0 refl at.1 is w.2 (sym v.2) in
        omega (arith, e)

    go : (o : Option Y) → h x ≡ o → AreDistinct (map f (filter_map h xs)) → AreDistinct (map f (cons_option o (filter_map h xs)))
    go None is rest = rest
    go (Some y) is rest = distinct_cons (f y) (map f (filter_map h xs)) rest (new y is)

-- one item more
kept_push : {X Y : Type 0} (h : X → Option Y) (xs : List X) (x : X) → filter_map h (xs ++ x ∷ []) ≡ filter_map h xs ++ cons_option (h x) []
kept_push h [] x = refl
kept_push {X} {Y} h (z ∷ xs) x = go (h z) (kept_push h xs x)
  where
    go : (o : Option Y) → filter_map h (xs ++ x ∷ []) ≡ filter_map h xs ++ cons_option (h x) [] → cons_option o (filter_map h (xs ++ x ∷ [])) ≡ cons_option o (filter_map h xs) ++ cons_option (h x) []
    go None e = e
    go (Some w) e = ap (λ (ys : List Y). w ∷ ys) e

pub kept_more : {X Y : Type 0} (h : X → Option Y) (xs : List X) (k : ℕ) (x : X) (y : Y) → slice_get xs k ≡ Some x → h x ≡ Some y → filter_map h (take (k + 1) xs) ≡ filter_map h (take k xs) ++ y ∷ []
kept_more {X} {Y} h xs k x y at is = ap (filter_map h) (sym (take-push xs k x at)) ∙ kept_push h (take k xs) x ∙ ap (λ (o : Option Y). filter_map h (take k xs) ++ cons_option o []) is

pub kept_same : {X Y : Type 0} (h : X → Option Y) (xs : List X) (k : ℕ) (x : X) → slice_get xs k ≡ Some x → h x ≡ None → filter_map h (take (k + 1) xs) ≡ filter_map h (take k xs)
kept_same {X} {Y} h xs k x at is =
    ap (filter_map h) (sym (take-push xs k x at)) ∙ kept_push h (take k xs) x ∙ ap (λ (o : Option Y). filter_map h (take k xs) ++ cons_option o []) is ∙ append-nil (filter_map h (take k xs))

-- where it stands
pub kept_at : {X Y : Type 0} (h : X → Option Y) (xs : List X) (k : ℕ) (x : X) (y : Y) → slice_get xs k ≡ Some x → h x ≡ Some y → slice_get (filter_map h xs) (length (filter_map h (take k xs))) ≡ Some y
kept_at h [] k x y at is = absurd (none-some x at)
kept_at {X} {Y} h (z ∷ xs) zero x y at is = ap (λ (o : Option Y). slice_get (cons_option o (filter_map h xs)) 0) (ap h (same_Some z x at) ∙ is)
kept_at {X} {Y} h (z ∷ xs) (suc k) x y at is = go (h z) (kept_at h xs k x y at is)
  where
    go : (o : Option Y) → slice_get (filter_map h xs) (length (filter_map h (take k xs))) ≡ Some y → slice_get (cons_option o (filter_map h xs)) (length (cons_option o (filter_map h (take k xs)))) ≡ Some y
    go None e = e
    go (Some w) e = e

-- the record of an input, an output or a latch
input_is : (r : Record) (l : ℕ) → input_of r ≡ Some l → r ≡ Input l
input_is (Input literal) l e = ap Input (same_Some literal l e)
input_is (Latch literal next reset) l e = absurd (none-some l e)
input_is (Output literal) l e = absurd (none-some l e)
input_is (Gate literal left right) l e = absurd (none-some l e)
input_is (Packed literal first second) l e = absurd (none-some l e)

output_is : (r : Record) (l : ℕ) → output_of r ≡ Some l → r ≡ Output l
output_is (Output literal) l e = ap Output (same_Some literal l e)
output_is (Latch literal next reset) l e = absurd (none-some l e)
output_is (Input literal) l e = absurd (none-some l e)
output_is (Gate literal left right) l e = absurd (none-some l e)
output_is (Packed literal first second) l e = absurd (none-some l e)

latch_is : (r : Record) (l : LatchLine) → latch_of r ≡ Some l → r ≡ Latch l.literal l.next l.reset
latch_is (Latch literal next reset) l e = ap (λ (k : LatchLine). Latch k.literal k.next k.reset) (same_Some (record { literal = literal; next = next; reset = reset }) l e)
latch_is (Input literal) l e = absurd (none-some l e)
latch_is (Output literal) l e = absurd (none-some l e)
latch_is (Gate literal left right) l e = absurd (none-some l e)
latch_is (Packed literal first second) l e = absurd (none-some l e)

pub in_inputs : (rs : List Record) (l : ℕ) → Contains (input_literals rs) l → (j : ℕ) × (slice_get rs j ≡ Some (Input l))
in_inputs rs l h = let x = filter_map-from input_of rs l h in let at = at_of rs x.0 x.1 in (at.0, at.1 ∙ ap Some (input_is x.0 l x.2))

pub in_outputs : (rs : List Record) (l : ℕ) → Contains (output_literals rs) l → (j : ℕ) × (slice_get rs j ≡ Some (Output l))
in_outputs rs l h = let x = filter_map-from output_of rs l h in let at = at_of rs x.0 x.1 in (at.0, at.1 ∙ ap Some (output_is x.0 l x.2))

pub in_latches : (rs : List Record) (l : LatchLine) → Contains (latches_in rs) l → (j : ℕ) × (slice_get rs j ≡ Some (Latch l.literal l.next l.reset))
in_latches rs l h = let x = filter_map-from latch_of rs l h in let at = at_of rs x.0 x.1 in (at.0, at.1 ∙ ap Some (latch_is x.0 l x.2))

pub in_latch_literals : (rs : List Record) (l : ℕ) → Contains (latch_literals rs) l → (j : ℕ) × (next : ℕ) × (reset : ℕ) × (slice_get rs j ≡ Some (Latch l next reset))
in_latch_literals rs l h =
    let x = Contains-map_from (λ (k : LatchLine). k.literal) (latches_in rs) l h in
    let y = in_latches rs x.0 x.1 in
    (y.0, x.0.next, x.0.reset, subst (λ (k : ℕ). slice_get rs y.0 ≡ Some (Latch k x.0.next x.0.reset)) x.2 y.1)

-- inputs are distinct, and so are latches
distinct_inputs : (rs : List Record) → DefinesOnce rs → AreDistinct (input_literals rs)
distinct_inputs rs once =
    subst (λ (ls : List ℕ). AreDistinct ls) (map-id (input_literals rs))
    (kept_distinct input_of (λ (l : ℕ). l) rs (λ i j x z y w hi hj hx hz e. once i j y x z hi hj (ap defined_by (input_is x y hx)) (ap defined_by (input_is z w hz) ∙ ap Some (sym e))))

pub distinct_latches : (rs : List Record) → DefinesOnce rs → AreDistinct (latch_literals rs)
distinct_latches rs once =
    kept_distinct latch_of (λ (l : LatchLine). l.literal) rs (λ i j x z y w hi hj hx hz e. once i j y.literal x z hi hj (ap defined_by (latch_is x y hx)) (ap defined_by (latch_is z w hz) ∙ ap Some (sym e)))

-- a gate's literal is 0 or 1, or reads something
pub gate_reads : (records : List Record) (l : ℕ) → is_gate records l ≡ true → (l < 2) ⊎ (0 < length (reads_in records l))
gate_reads records l h = go (ltb l 2) refl h
  where
    go : (b : Bool) → ltb l 2 ≡ b → (b || ltb 0 (length (reads_in records l))) ≡ true → (l < 2) ⊎ (0 < length (reads_in records l))
    go true e k = inl (ltb-true l 2 e)
    go false e k = inr (ltb-true 0 (length (reads_in records l)) k)

pub low_gate : (records : List Record) (l : ℕ) → l < 2 → is_gate records l ≡ true
low_gate records l h = or_left (ltb l 2) (ltb 0 (length (reads_in records l))) ((Decides-ltb l 2).1 h)

pub reading_gate : (records : List Record) (l : ℕ) → 0 < length (reads_in records l) → is_gate records l ≡ true
reading_gate records l h = or_right (ltb l 2) (ltb 0 (length (reads_in records l))) ((Decides-ltb 0 (length (reads_in records l))).1 h)

module _ (size : ℕ) (records : List Record) (once : DefinesOnce records) (fine : AreWell size records) where
  -- no gate drives an input or a latch
  pub no_gate : (j l : ℕ) (r : Record) → slice_get records j ≡ Some r → defined_by r ≡ Some l → operands r ≡ [] → is_gate records l ≡ true → ⊥
  no_gate j l r at is none gate = go (gate_reads records l gate)
    where
      go : (l < 2) ⊎ (0 < length (reads_in records l)) → ⊥
      go (inl low) = let high = (fine j r at).high l is in omega (arith, low, high)
      go (inr some) = let e = ap length (reads_at size records j l r once fine at is ∙ none) in omega (arith, some, e)

  pub input_not_latch : (l : ℕ) → Contains (input_literals records) l → Contains (latch_literals records) l → ⊥
  input_not_latch l h k =
      let x = in_inputs records l h in
      let y = in_latch_literals records l k in
      let e = once x.0 y.0 l (Input l) (Latch l y.1 y.2) x.1 y.3 refl refl in
      let same : Some (Input l) ≡ Some (Latch l y.1 y.2) = sym x.1 ∙ ap (slice_get records) e ∙ y.3 in
      cc

  pub source_not_gate : (order : List ℕ) (l : ℕ) → Contains (input_literals records ++ latch_literals records) l → Contains (filter (is_gate records) order) l → ⊥
  source_not_gate order l h k = go (Contains-append_cases (input_literals records) (latch_literals records) l h)
    where
      gate : is_gate records l ≡ true
      gate = filter_test (is_gate records) order l k

      go : Contains (input_literals records) l ⊎ Contains (latch_literals records) l → ⊥
      go (inl i) = let x = in_inputs records l i in no_gate x.0 l (Input l) x.1 refl refl gate
      go (inr i) = let x = in_latch_literals records l i in no_gate x.0 l (Latch l x.1 x.2) x.3 refl refl gate

  -- no literal stands twice
  pub literals_once : (order : List ℕ) → AreDistinct order → AreDistinct (all_literals records order)
  literals_once order distinct =
      distinct_append (input_literals records ++ latch_literals records) (filter (is_gate records) order)
      (distinct_append (input_literals records) (latch_literals records) (distinct_inputs records once) (distinct_latches records once) input_not_latch)
      (distinct_filter (is_gate records) order distinct) (source_not_gate order)

  -- each is below the size
  pub literals_low : (order : List ℕ) → ((l : ℕ) → Contains order l → l < size) → (l : ℕ) → Contains (all_literals records order) l → l < size
  literals_low order low l h = go (Contains-append_cases (input_literals records ++ latch_literals records) (filter (is_gate records) order) l h)
    where
      source : Contains (input_literals records) l ⊎ Contains (latch_literals records) l → l < size
      source (inl i) = let x = in_inputs records l i in let k = (fine x.0 (Input l) x.1).low l refl in omega (arith, k)
      source (inr i) = let x = in_latch_literals records l i in let k = (fine x.0 (Latch l x.1 x.2) x.3).low l refl in omega (arith, k)

      go : Contains (input_literals records ++ latch_literals records) l ⊎ Contains (filter (is_gate records) order) l → l < size
      go (inl s) = source (Contains-append_cases (input_literals records) (latch_literals records) l s)
      go (inr g) = low l (Contains-filter (is_gate records) order l g)

  module _ (order : List ℕ) where
    pub gate_in : (l : ℕ) → (is_gate records l ≡ true → Contains order l) → is_gate records l ≡ true → Contains (all_literals records order) l
    gate_in l here gate = Contains-append_right (input_literals records ++ latch_literals records) (filter (is_gate records) order) l (Contains-kept (is_gate records) order l (here gate) gate)

    pub input_in : (l : ℕ) → Contains (input_literals records) l → Contains (all_literals records order) l
    input_in l h = Contains-append_left (input_literals records ++ latch_literals records) (filter (is_gate records) order) l (Contains-append_left (input_literals records) (latch_literals records) l h)

    pub latch_in : (l : ℕ) → Contains (latch_literals records) l → Contains (all_literals records order) l
    latch_in l h = Contains-append_left (input_literals records ++ latch_literals records) (filter (is_gate records) order) l (Contains-append_right (input_literals records) (latch_literals records) l h)

    -- what a record defines stands there
    defined_in : (j l : ℕ) (r : Record) → slice_get records j ≡ Some r → defined_by r ≡ Some l → (is_gate records l ≡ true → Contains order l) → Contains (all_literals records order) l
    defined_in j l (Input literal) at is here = input_in l (subst (Contains (input_literals records)) (same_Some literal l is) (kept_has input_of records j (Input literal) literal at refl))
    defined_in j l (Latch literal next reset) at is here =
        latch_in l (subst (Contains (latch_literals records)) (same_Some literal l is) (Contains-map (λ (k : LatchLine). k.literal) (latches_in records) (record { literal = literal; next = next; reset = reset }) (kept_has latch_of records j (Latch literal next reset) (record { literal = literal; next = next; reset = reset }) at refl)))
    defined_in j l (Output literal) at is here = absurd (none-some l is)
    defined_in j l (Gate literal left right) at is here =
        gate_in l here (reading_gate records l (subst (λ (rs : List ℕ). 0 < length rs) (sym (reads_at size records j l (Gate literal left right) once fine at is)) (omega arith)))
    defined_in j l (Packed literal first second) at is here =
        gate_in l here (reading_gate records l (subst (λ (rs : List ℕ). 0 < length rs) (sym (reads_at size records j l (Packed literal first second) once fine at is)) (omega arith)))

    -- and so does each literal that is driven, where it is used or no negation
    pub driven_in : (l : ℕ) → is_driven records l ≡ true → (l % 2 ≢ 0 → is_used records l ≡ true) → (is_gate records l ≡ true → Contains order l) → Contains (all_literals records order) l
    driven_in l driven used here = go (ltb l 2) refl driven
      where
        by : (j : ℕ) (r : Record) → slice_get records j ≡ Some r → defined_by r ≡ Some (2 * (l / 2)) → (b : Bool) → eqb (l % 2) 0 ≡ b → Contains (all_literals records order) l
        by j r at is true even = let two = (Decides-eqb (l % 2) 0).0 even in defined_in j l r at (is ∙ ap Some (let k : 2 * (l / 2) ≡ l = omega (arith, two) in k)) here
        by j r at is false odd =
            let one : l % 2 ≢ 0 = λ e. true≢false (sym ((Decides-eqb (l % 2) 0).1 e) ∙ odd) in
            let next : 2 * (l / 2) + 1 ≡ l = omega (arith, one) in
            gate_in l here (reading_gate records l (subst (λ (k : ℕ). 0 < length (reads_in records k)) next
            (subst (λ (rs : List ℕ). 0 < length rs) (sym (negation_reads size records j (2 * (l / 2)) r once fine at is (ap (is_used records) next ∙ used one))) (omega arith))))

        go : (b : Bool) → ltb l 2 ≡ b → (b || is_defined records (2 * (l / 2))) ≡ true → Contains (all_literals records order) l
        go true e h = gate_in l here (low_gate records l (ltb-true l 2 e))
        go false e h = let x = defined_at records (2 * (l / 2)) h in by x.0 x.1 x.2 x.3 (eqb (l % 2) 0) refl
          where
            defined_at : (rs : List Record) (d : ℕ) → is_defined rs d ≡ true → (j : ℕ) × (r : Record) × (slice_get rs j ≡ Some r) × (defined_by r ≡ Some d)
            defined_at [] d h = absurd (true≢false (sym h))
            defined_at (q ∷ qs) d h = pick (defined_by q) refl h (λ k. defined_at qs d k)
              where
                later : ((j : ℕ) × (r : Record) × (slice_get qs j ≡ Some r) × (defined_by r ≡ Some d)) → (j : ℕ) × (r : Record) × (slice_get (q ∷ qs) j ≡ Some r) × (defined_by r ≡ Some d)
                later x = (suc x.0, x.1, x.2, x.3)

                test : (o : ℕ) (b : Bool) → defined_by q ≡ Some o → eqb o d ≡ b → (b || is_defined qs d) ≡ true → (is_defined qs d ≡ true → (j : ℕ) × (r : Record) × (slice_get qs j ≡ Some r) × (defined_by r ≡ Some d)) →
                    (j : ℕ) × (r : Record) × (slice_get (q ∷ qs) j ≡ Some r) × (defined_by r ≡ Some d)
                test o true is same k rest = (0, q, refl, is ∙ ap Some ((Decides-eqb o d).0 same))
                test o false is same k rest = later (rest k)

                pick : (o : Option ℕ) → defined_by q ≡ o → (is_literal d o || is_defined qs d) ≡ true → (is_defined qs d ≡ true → (j : ℕ) × (r : Record) × (slice_get qs j ≡ Some r) × (defined_by r ≡ Some d)) →
                    (j : ℕ) × (r : Record) × (slice_get (q ∷ qs) j ≡ Some r) × (defined_by r ≡ Some d)
                pick None is k rest = later (rest k)
                pick (Some o) is k rest = test o (eqb o d) is refl k rest

-- what a record reads is driven
list_all_in : {X : Type 0} (p : X → Bool) (xs : List X) (x : X) → list_all p xs ≡ true → Contains xs x → p x ≡ true
list_all_in p xs x all h = let at = at_of xs x h in list_all_place p xs at.0 x all at.1

pub used_driven : (records : List Record) → all_driven records ≡ true → (j u : ℕ) (r : Record) → slice_get records j ≡ Some r → Contains (used_by r) u → is_driven records u ≡ true
used_driven records all j u r at h = list_all_in (is_driven records) (used_by r) u (list_all_place (λ q. list_all (is_driven records) (used_by q)) records j r all at) h

-- and it is used
pub used_there : (records : List Record) (j u : ℕ) (r : Record) → slice_get records j ≡ Some r → Contains (used_by r) u → is_used records u ≡ true
used_there records j u r at h =
    let x = at_of (used_by r) u h in
    let inner : list_any (λ v. v == u) (used_by r) ≡ true =
    list_any_at (λ v. v == u) (used_by r) x.0 u (slice_get_within (used_by r) x.0 u x.1) ((Decides-eqb (get_or (used_by r) x.0 u) u).1 (get_or_from_slice_get (used_by r) x.0 u u x.1)) in
    list_any_at (λ (q : Record). list_any (λ v. v == u) (used_by q)) records j r (slice_get_within records j r at)
    (subst (λ (q : Record). list_any (λ v. v == u) (used_by q) ≡ true) (sym (get_or_from_slice_get records j r r at)) inner)

-- a literal that a record defines is driven
defined_driven : (size : ℕ) (records : List Record) → AreWell size records → (j d : ℕ) (r : Record) → slice_get records j ≡ Some r → defined_by r ≡ Some d → is_driven records d ≡ true
defined_driven size records fine j d r at is =
    let even = (fine j r at).even d is in
    or_right (ltb d 2) (is_defined records (2 * (d / 2)))
    (subst (λ (k : ℕ). is_defined records k ≡ true) (let e : d ≡ 2 * (d / 2) = omega (arith, even) in e) (defined_there records j d r at is))

-- what a literal reads is driven
pub reads_driven : (size : ℕ) (records : List Record) → AreWell size records → all_driven records ≡ true → (l u : ℕ) → Contains (reads_in records l) u → is_driven records u ≡ true
reads_driven size records fine all l u h = go (reads_in records l) refl h
  where
    by : (reads : List ℕ) (x : IsReader records records l reads) → ((defined_by x.by_record ≡ Some l) × (operands x.by_record ≡ reads)) ⊎ ((d : ℕ) × (defined_by x.by_record ≡ Some d) × (d + 1 ≡ l) × (d ∷ [] ≡ reads) × (is_used records l ≡ true)) → Contains reads u → is_driven records u ≡ true
    by reads x (inl own) k = used_driven records all x.place u x.by_record x.there (operands_used x.by_record u (subst (λ (rs : List ℕ). Contains rs u) (sym own.1) k))
    by reads x (inr (d, is, next, same, used)) k =
        subst (λ (v : ℕ). is_driven records v ≡ true) (only d u (subst (λ (rs : List ℕ). Contains rs u) (sym same) k)) (defined_driven size records fine x.place d x.by_record x.there is)

    go : (reads : List ℕ) → reads_in records l ≡ reads → Contains reads u → is_driven records u ≡ true
    go [] e k = absurd (omega (arith, k.1))
    go (a ∷ more) e k = let x = reader records l a more e in by (a ∷ more) x x.why k

-- and it is used, where it is a negation
pub reads_used : (size : ℕ) (records : List Record) → AreWell size records → (l u : ℕ) → Contains (reads_in records l) u → u % 2 ≢ 0 → is_used records u ≡ true
reads_used size records fine l u h odd = go (reads_in records l) refl h
  where
    by : (reads : List ℕ) (x : IsReader records records l reads) → ((defined_by x.by_record ≡ Some l) × (operands x.by_record ≡ reads)) ⊎ ((d : ℕ) × (defined_by x.by_record ≡ Some d) × (d + 1 ≡ l) × (d ∷ [] ≡ reads) × (is_used records l ≡ true)) → Contains reads u → is_used records u ≡ true
    by reads x (inl own) k = used_there records x.place u x.by_record x.there (operands_used x.by_record u (subst (λ (rs : List ℕ). Contains rs u) (sym own.1) k))
    by reads x (inr (d, is, next, same, used)) k =
        absurd (odd (subst (λ (v : ℕ). v % 2 ≡ 0) (only d u (subst (λ (rs : List ℕ). Contains rs u) (sym same) k)) ((fine x.place x.by_record x.there).even d is)))

    go : (reads : List ℕ) → reads_in records l ≡ reads → Contains reads u → is_used records u ≡ true
    go [] e k = absurd (omega (arith, k.1))
    go (a ∷ more) e k = let x = reader records l a more e in by (a ∷ more) x x.why k
