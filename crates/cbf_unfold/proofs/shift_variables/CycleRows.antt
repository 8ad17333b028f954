-- The rows of a sequence, cycle by cycle: the variables of each cycle's shift stand behind each other.
use Rattle.std.proofs.Common.{◌≡◌, ◌≢◌, ℕ, zero, suc, ◌+◌, ◌-◌, ◌<◌, ◌≤◌, Bool, true, false, cond, List, [], ◌∷◌, ◌++◌, map, length, take, drop, get_or, slice_get, Some, refl, sym, ◌∙◌, ap, subst, arith, inl, inr, nat_le}
use Rattle.std.specs.Prelude.{◌⊎◌}
use Rattle.std.specs.List.{All, AllPairs, Contains}
use Rattle.std.proofs.lemmas.List.{take-append-drop, drop-drop, length-drop, map-append}
use Rattle.std.proofs.lemmas.List.Elements.{All-nil, All-cons, All-take, All-drop}
use Rattle.std.proofs.lemmas.List.Kept.{AllPairs-cons}
use Rattle.std.proofs.lemmas.Option.{slice_get_within, slice_get-get_or}
use Rattle.circuit_theory.specs.Query.{Variable, ShiftBefore, assigned, same_shift}
use Rattle.circuit_theory.specs.Sequence.{sequence_value, sequence_row, sequence_rows_from}
use Rattle.circuit_theory.proofs.Lists.{All-from_each, Contains-map_from, at_of, of_at, length-map}
use Rattle.circuit_theory.proofs.Sums.{AllPairs-head, AllPairs-tail}
use Rattle.base_tables.proofs.TableLemmas.{slice_get-take}
use Rattle.latch_graph.proofs.Trails.{slice_get-drop}
use Rattle.aig.proofs.Lists.{pairs_at}
use Rattle.flat_net.proofs.Places.{All-at}
use Rattle.pair_decide.specs.Queries.{assigned_to}
use Rattle.cbf_unfold.specs.shift_variables.Variables.{variable_of, variables_of, GoesBefore}
use Rattle.cbf_unfold.specs.shift_variables.Sequences.{bits_at, IsSequence, EndsShift}
use Rattle.aig.proofs.MergeLists.{pairs_drop}
use Rattle.cbf_unfold.proofs.shift_variables.Assignments.{length_take, assigned_in_shift, front_left_out, back_left_out}

-- one row more
pub rows_more : (last : ℕ) (a : ℕ → ℕ → Bool) (count cycle n : ℕ) → sequence_rows_from last a count cycle (suc n) ≡ sequence_rows_from last a count cycle n ++ sequence_row last a (cycle + n) 0 count ∷ []
rows_more last a count cycle zero = ap (λ k. sequence_row last a k 0 count ∷ []) (let e : cycle ≡ cycle + 0 = omega arith in e)
rows_more last a count cycle (suc n) =
    ap (λ (rows : List (List Bool)). sequence_row last a cycle 0 count ∷ rows)
    (rows_more last a count (suc cycle) n ∙ ap (λ k. sequence_rows_from last a count (suc cycle) n ++ sequence_row last a k 0 count ∷ []) (let e : suc cycle + n ≡ cycle + suc n = omega arith in e))

-- a row by its bits
pub row_by_bits : (last : ℕ) (a : ℕ → ℕ → Bool) (cycle first count : ℕ) (row : List Bool) → length row ≡ count → ((i : ℕ) → i < count → get_or row i false ≡ sequence_value last a (first + i) cycle) →
    row ≡ sequence_row last a cycle first count
row_by_bits last a cycle first zero [] long bits = refl
row_by_bits last a cycle first zero (b ∷ row) long bits = absurd (let z : suc (length row) ≡ 0 = long in omega arith)
row_by_bits last a cycle first (suc count) [] long bits = absurd (let z : 0 ≡ suc count = long in omega arith)
row_by_bits last a cycle first (suc count) (b ∷ row) long bits =
    let head : b ≡ sequence_value last a first cycle = bits 0 (omega arith) ∙ ap (λ k. sequence_value last a k cycle) (let e : first + 0 ≡ first = omega arith in e) in
    let tail : row ≡ sequence_row last a cycle (suc first) count =
    row_by_bits last a cycle (suc first) count row (let z : suc (length row) ≡ suc count = long in omega arith)
    (λ i h. bits (suc i) (omega arith) ∙ ap (λ k. sequence_value last a k cycle) (let e : first + suc i ≡ suc first + i = omega arith in e)) in
    cc

pub le_true : (m n : ℕ) → m ≤ n → nat_le m n ≡ true
le_true m n h = grind arith

-- the part of a list from one place to another
abbrev pub part : {X : Type 0} → List X → ℕ → ℕ → List X
part xs from to = take (to - from) (drop from xs)

pub split : {X : Type 0} (xs : List X) (from to : ℕ) → from ≤ to → xs ≡ take from xs ++ (part xs from to ++ drop to xs)
split {X} xs from to h =
    sym (take-append-drop from xs)
    ∙ ap (λ (ys : List X). take from xs ++ ys)
    (sym (take-append-drop (to - from) (drop from xs))
    ∙ ap (λ (ys : List X). part xs from to ++ ys) (drop-drop (to - from) from xs ∙ ap (λ k. drop k xs) (let e : from + (to - from) ≡ to = omega (arith, h) in e)))

pub in_front : {X : Type 0} (xs : List X) (n : ℕ) (x : X) → Contains (take n xs) x → (k : ℕ) × (k < n) × (slice_get xs k ≡ Some x)
in_front xs n x h = let at = at_of (take n xs) x h in let there = slice_get-take n xs at.0 x at.1 in (at.0, there.0, there.1)

pub in_back : {X : Type 0} (xs : List X) (n : ℕ) (x : X) → Contains (drop n xs) x → (k : ℕ) × (n ≤ k) × (slice_get xs k ≡ Some x)
in_back xs n x h = let at = at_of (drop n xs) x h in (n + at.0, omega arith, slice_get-drop xs n at.0 x at.1)

pub in_part : {X : Type 0} (xs : List X) (from to : ℕ) (x : X) → Contains (part xs from to) x → (k : ℕ) × (from ≤ k) × (k < to) × (slice_get xs k ≡ Some x)
in_part xs from to x h =
    let at = in_front (drop from xs) (to - from) x h in
    (from + at.0, omega arith, omega (arith, at.1), slice_get-drop xs from at.0 x at.2)

pub pairs_take : {X : Type 0} (R : X → X → Type 0) (n : ℕ) (xs : List X) → AllPairs R xs → AllPairs R (take n xs)
pairs_take R zero xs h = λ i j d below within. absurd (omega arith)
pairs_take R (suc n) [] h = h
pairs_take R (suc n) (x ∷ xs) h =
    AllPairs-cons R x (take n xs) (All-take (R x) n xs (All-from_each (R x) xs (λ y k. AllPairs-head R x xs h y k))) (pairs_take R n xs (AllPairs-tail R x xs h))

pub below_or_not : (i j : ℕ) → (i < j) ⊎ (j ≤ i)
below_or_not i j = grind arith

-- Before a cycle: the variables up to a place stand in earlier cycles, and those from there on in this one or later.
pub record IsAtCycle (places : List (ℕ × ℕ)) (vars : List ℕ) (last cycle at : ℕ) : Type 0 where
  pub at_in : at ≤ length vars
  pub past : (k v : ℕ) → k < at → slice_get vars k ≡ Some v → last < (variable_of places v).at + cycle
  pub left : (k v : ℕ) → at ≤ k → slice_get vars k ≡ Some v → (variable_of places v).at + cycle ≤ last

module _ (places : List (ℕ × ℕ)) (vars : List ℕ) (bits : List Bool) (last count : ℕ) (seq : IsSequence places vars bits last count) where
  pub at_first : IsAtCycle places vars last 0 0
  at_first = record {
    at_in = omega arith;
    past = λ k v below at. absurd (omega arith);
    left = λ k v from at. let h = All-at (λ w. (variable_of places w).at ≤ last) vars k v at seq.shifts in omega (arith, h);
  }

  module _ (cycle from to : ℕ) (early : cycle ≤ last) (is : IsAtCycle places vars last cycle from) (ends : EndsShift places vars from (last - cycle) to) where
    -- the variables behind have lesser shifts
    behind : (k v : ℕ) → to ≤ k → slice_get vars k ≡ Some v → (variable_of places v).at + (cycle + 1) ≤ last
    behind k v above at = go (below_or_not to k)
      where
        here : to < length vars
        here = let l = slice_get_within vars k v at in omega (arith, above, l)

        at_w : slice_get vars to ≡ Some (get_or vars to 0)
        at_w = slice_get-get_or vars to 0 here

        less : (u : ℕ) → slice_get vars to ≡ Some u → (variable_of places u).at + (cycle + 1) ≤ last
        less u at_u = let near = is.left to u ends.behind at_u in let apart = ends.next u at_u in omega (arith, near, apart, early)

        go : (to < k) ⊎ (k ≤ to) → (variable_of places v).at + (cycle + 1) ≤ last
        go (inl below) = pick (pairs_at (GoesBefore places) vars to k (get_or vars to 0) v seq.in_order.ordered below at_w at)
          where
            pick : ShiftBefore (variable_of places (get_or vars to 0)) (variable_of places v) → (variable_of places v).at + (cycle + 1) ≤ last
            pick (inl h) = let l = less (get_or vars to 0) at_w in omega (arith, h, l)
            pick (inr h) = let l = less (get_or vars to 0) at_w in omega (arith, h.0, l)
        go (inr e) = less v (subst (λ i. slice_get vars i ≡ Some v) (let same : k ≡ to = omega (arith, e, above) in same) at)

    pub at_next : IsAtCycle places vars last (cycle + 1) to
    at_next = record {
      at_in = ends.within;
      past = past;
      left = behind;
    }
      where
        past : (k v : ℕ) → k < to → slice_get vars k ≡ Some v → last < (variable_of places v).at + (cycle + 1)
        past k v below at = go (below_or_not k from)
          where
            go : (k < from) ⊎ (from ≤ k) → last < (variable_of places v).at + (cycle + 1)
            go (inl h) = let l = is.past k v h at in omega (arith, l)
            go (inr h) = let l = ends.same k v h below at in omega (arith, l, early)

    each : (v : ℕ) → Contains (part vars from to) v → (variable_of places v).at ≡ last - cycle
    each v h = let k = in_part vars from to v h in ends.same k.0 v k.1 k.2 k.3

    pub part_each : length (part vars from to) ≡ length (part bits from to)
    part_each =
        length_take (to - from) (drop from vars) (drop from bits)
        (let l = length-drop from vars in let m = length-drop from bits in let e : length (drop from vars) ≡ length (drop from bits) = omega (arith, l, m, seq.each) in e)

    pub part_within : All (λ v. v < length places) (part vars from to)
    part_within = All-take (λ v. v < length places) (to - from) (drop from vars) (All-drop (λ v. v < length places) from vars seq.in_order.within)

    pub part_inputs : All (λ v. (variable_of places v).input < count) (part vars from to)
    part_inputs = All-take (λ v. (variable_of places v).input < count) (to - from) (drop from vars) (All-drop (λ v. (variable_of places v).input < count) from vars seq.inputs)

    pub part_distinct : AllPairs (λ u v. (variable_of places u).input ≢ (variable_of places v).input) (part vars from to)
    part_distinct i j d below within same =
        let ys = part vars from to in
        let first : i < length ys = omega (arith, below, within) in
        go (pairs_take (GoesBefore places) (to - from) (drop from vars) (pairs_drop (GoesBefore places) from vars seq.in_order.ordered) i j d below within)
        (each (get_or ys i d) (of_at ys i (get_or ys i d) (slice_get-get_or ys i d first)))
        (each (get_or ys j d) (of_at ys j (get_or ys j d) (slice_get-get_or ys j d within))) same
      where
        go : {x y : Variable ℕ} → ShiftBefore x y → x.at ≡ last - cycle → y.at ≡ last - cycle → x.input ≡ y.input → ⊥
        go (inl h) e f g = omega (arith, h, e, f)
        go (inr h) e f g = omega (arith, h.1, g)

    -- the bits of this cycle are those of its variables
    whole : (i : ℕ) → assigned same_shift (variables_of places vars) bits i (last - cycle) ≡ assigned same_shift (variables_of places (part vars from to)) (part bits from to) i (last - cycle)
    whole i =
        ap (λ (xs : List (Variable ℕ)). assigned same_shift xs bits i (last - cycle)) variables_split
        ∙ (ap (λ (bs : List Bool). assigned same_shift (before ++ (here ++ after)) bs i (last - cycle)) (split bits from to ends.behind)
        ∙ (front_left_out (last - cycle) i before (here ++ after) (take from bits) (part bits from to ++ drop to bits) front_long earlier
        ∙ back_left_out (last - cycle) i here after (part bits from to) (drop to bits) part_long later))
      where
        before : List (Variable ℕ)
        before = variables_of places (take from vars)

        here : List (Variable ℕ)
        here = variables_of places (part vars from to)

        after : List (Variable ℕ)
        after = variables_of places (drop to vars)

        variables_split : variables_of places vars ≡ variables_of places (take from vars) ++ (variables_of places (part vars from to) ++ variables_of places (drop to vars))
        variables_split =
            ap (variables_of places) (split vars from to ends.behind)
            ∙ (map-append (variable_of places) (take from vars) (part vars from to ++ drop to vars)
            ∙ ap (λ (xs : List (Variable ℕ)). variables_of places (take from vars) ++ xs) (map-append (variable_of places) (part vars from to) (drop to vars)))

        front_long : length (variables_of places (take from vars)) ≡ length (take from bits)
        front_long = length-map (variable_of places) (take from vars) ∙ length_take from vars bits (sym seq.each)

        part_long : length (variables_of places (part vars from to)) ≡ length (part bits from to)
        part_long = length-map (variable_of places) (part vars from to) ∙ part_each

        earlier : (x : Variable ℕ) → Contains (variables_of places (take from vars)) x → x.at ≡ last - cycle → ⊥
        earlier x h e =
            let v = Contains-map_from (variable_of places) (take from vars) x h in
            let k = in_front vars from v.0 v.1 in
            let l = is.past k.0 v.0 k.1 k.2 in
            omega (arith, l, ap (λ (y : Variable ℕ). y.at) v.2, e, early)

        later : (x : Variable ℕ) → Contains (variables_of places (drop to vars)) x → x.at ≡ last - cycle → ⊥
        later x h e =
            let v = Contains-map_from (variable_of places) (drop to vars) x h in
            let k = in_back vars to v.0 v.1 in
            let l = behind k.0 v.0 k.1 k.2 in
            omega (arith, l, ap (λ (y : Variable ℕ). y.at) v.2, e, early)

    -- the row of this cycle
    pub row_is : (row : List Bool) → length row ≡ count → ((i : ℕ) → get_or row i false ≡ assigned_to (map (λ v. (variable_of places v).input) (part vars from to)) (part bits from to) i) →
        row ≡ sequence_row last (bits_at places vars bits) cycle 0 count
    row_is row long written =
        row_by_bits last (bits_at places vars bits) cycle 0 count row long
        (λ i h.
        written i
        ∙ (assigned_in_shift places (part vars from to) (part bits from to) (last - cycle) each i
        ∙ (sym (whole i)
        ∙ (sym (ap (λ t. cond t (bits_at places vars bits i (last - cycle)) false) (le_true cycle last early)) ∙ ap (λ k. sequence_value last (bits_at places vars bits) k cycle) (let e : i ≡ 0 + i = omega arith in e)))))

row_long : (last : ℕ) (a : ℕ → ℕ → Bool) (cycle first count : ℕ) → length (sequence_row last a cycle first count) ≡ count
row_long last a cycle first zero = refl
row_long last a cycle first (suc count) = ap suc (row_long last a cycle (suc first) count)

-- each row has a bit for each input
pub rows_fit : (last : ℕ) (a : ℕ → ℕ → Bool) (count cycle cycles : ℕ) → All (λ row. length row ≡ count) (sequence_rows_from last a count cycle cycles)
rows_fit last a count cycle zero = All-nil (λ row. length row ≡ count)
rows_fit last a count cycle (suc cycles) =
    All-cons (λ row. length row ≡ count) (sequence_row last a cycle 0 count) (sequence_rows_from last a count (suc cycle) cycles) (row_long last a cycle 0 count) (rows_fit last a count (suc cycle) cycles)
