-- The rows of a sequence, cycle by cycle: the variables of each cycle stand behind each other.
use Rattle.std.proofs.Common.{◌≡◌, ◌≢◌, ℕ, ◌+◌, ◌-◌, ◌<◌, ◌≤◌, Bool, false, cond, List, ◌++◌, map, length, take, drop, get_or, slice_get, Some, sym, ◌∙◌, ap, subst, arith, inl, inr}
use Rattle.std.specs.Prelude.{◌⊎◌}
use Rattle.std.specs.List.{All, AllPairs, Contains}
use Rattle.std.proofs.lemmas.List.{length-drop, map-append}
use Rattle.std.proofs.lemmas.List.Elements.{All-take, All-drop}
use Rattle.std.proofs.lemmas.Option.{slice_get_within, slice_get-get_or}
use Rattle.circuit_theory.specs.Query.{Variable, assigned, same_shift}
use Rattle.circuit_theory.specs.Sequence.{sequence_row}
use Rattle.circuit_theory.proofs.Lists.{Contains-map_from, of_at, length-map}
use Rattle.aig.proofs.Lists.{pairs_at}
use Rattle.pair_decide.specs.Queries.{assigned_to}
use Rattle.circuit_laws.specs.reset_laws.Reset.{CycleBefore}
use Rattle.cbf_unfold.specs.shift_variables.Variables.{variable_of, variables_of}
use Rattle.cbf_unfold.specs.shift_variables.Sequences.{bits_at, EndsShift}
use Rattle.aig.proofs.MergeLists.{pairs_drop}
use Rattle.cbf_unfold.proofs.shift_variables.Assignments.{length_take, assigned_in_shift, front_left_out, back_left_out}
use Rattle.cbf_unfold.proofs.shift_variables.CycleRows.{part, split, in_front, in_back, in_part, pairs_take, below_or_not, le_true, row_by_bits}
use Rattle.cbf_unfold.specs.shift_variables.cycle_variables.Cycles.{number_of, GoesFirst, AreInCycles}

-- Before a cycle: the variables up to a place stand in earlier cycles, and those from there on in this one or later.
pub record IsAtCycle (places : List (ℕ × ℕ)) (vars : List ℕ) (cycle at : ℕ) : Type 0 where
  pub at_in : at ≤ length vars
  pub past : (k v : ℕ) → k < at → slice_get vars k ≡ Some v → (variable_of places v).at < cycle
  pub left : (k v : ℕ) → at ≤ k → slice_get vars k ≡ Some v → cycle ≤ (variable_of places v).at

module _ (places : List (ℕ × ℕ)) (vars : List ℕ) (bits : List Bool) (sizes : length bits ≡ length vars) (order : AreInCycles places vars) where
  pub at_first : IsAtCycle places vars 0 0
  at_first = record { at_in = omega arith; past = λ k v below at. absurd (omega arith); left = λ k v from at. omega arith }

  module _ (cycle from to : ℕ) (is : IsAtCycle places vars cycle from) (ends : EndsShift places vars from cycle to) where
    -- the variables behind stand in later cycles
    behind : (k v : ℕ) → to ≤ k → slice_get vars k ≡ Some v → cycle + 1 ≤ (variable_of places v).at
    behind k v above at = go (below_or_not to k)
      where
        here : to < length vars
        here = let l = slice_get_within vars k v at in omega (arith, above, l)

        at_w : slice_get vars to ≡ Some (get_or vars to 0)
        at_w = slice_get-get_or vars to 0 here

        more : (u : ℕ) → slice_get vars to ≡ Some u → cycle + 1 ≤ (variable_of places u).at
        more u at_u = let near = is.left to u ends.behind at_u in let apart = ends.next u at_u in omega (arith, near, apart)

        go : (to < k) ⊎ (k ≤ to) → cycle + 1 ≤ (variable_of places v).at
        go (inl below) = pick (pairs_at (GoesFirst places) vars to k (get_or vars to 0) v order.ordered below at_w at)
          where
            pick : CycleBefore (variable_of places (get_or vars to 0)) (variable_of places v) → cycle + 1 ≤ (variable_of places v).at
            pick (inl h) = let l = more (get_or vars to 0) at_w in omega (arith, h, l)
            pick (inr h) = let l = more (get_or vars to 0) at_w in omega (arith, h.0, l)
        go (inr e) = more v (subst (λ i. slice_get vars i ≡ Some v) (let same : k ≡ to = omega (arith, e, above) in same) at)

    pub at_next : IsAtCycle places vars (cycle + 1) to
    at_next = record {
      at_in = ends.within;
      past = past;
      left = behind;
    }
      where
        past : (k v : ℕ) → k < to → slice_get vars k ≡ Some v → (variable_of places v).at < cycle + 1
        past k v below at = go (below_or_not k from)
          where
            go : (k < from) ⊎ (from ≤ k) → (variable_of places v).at < cycle + 1
            go (inl h) = let l = is.past k v h at in omega (arith, l)
            go (inr h) = let l = ends.same k v h below at in omega (arith, l)

    each : (v : ℕ) → Contains (part vars from to) v → (variable_of places v).at ≡ cycle
    each v h = let k = in_part vars from to v h in ends.same k.0 v k.1 k.2 k.3

    pub part_each : length (part vars from to) ≡ length (part bits from to)
    part_each =
        length_take (to - from) (drop from vars) (drop from bits)
        (let l = length-drop from vars in let m = length-drop from bits in let e : length (drop from vars) ≡ length (drop from bits) = omega (arith, l, m, sizes) in e)

    pub part_within : All (λ v. v < length places) (part vars from to)
    part_within = All-take (λ v. v < length places) (to - from) (drop from vars) (All-drop (λ v. v < length places) from vars order.within)

    pub part_distinct : AllPairs (λ u v. number_of places u ≢ number_of places v) (part vars from to)
    part_distinct i j d below within same =
        let ys = part vars from to in
        let first : i < length ys = omega (arith, below, within) in
        go (pairs_take (GoesFirst places) (to - from) (drop from vars) (pairs_drop (GoesFirst places) from vars order.ordered) i j d below within)
        (each (get_or ys i d) (of_at ys i (get_or ys i d) (slice_get-get_or ys i d first)))
        (each (get_or ys j d) (of_at ys j (get_or ys j d) (slice_get-get_or ys j d within))) same
      where
        go : {x y : Variable ℕ} → CycleBefore x y → x.at ≡ cycle → y.at ≡ cycle → x.input ≡ y.input → ⊥
        go (inl h) e f g = omega (arith, h, e, f)
        go (inr h) e f g = omega (arith, h.1, g)

    -- the bits of this cycle are those of its variables
    whole : (i : ℕ) → assigned same_shift (variables_of places vars) bits i cycle ≡ assigned same_shift (variables_of places (part vars from to)) (part bits from to) i cycle
    whole i =
        ap (λ (xs : List (Variable ℕ)). assigned same_shift xs bits i cycle) variables_split
        ∙ (ap (λ (bs : List Bool). assigned same_shift (before ++ (here ++ after)) bs i cycle) (split bits from to ends.behind)
        ∙ (front_left_out cycle i before (here ++ after) (take from bits) (part bits from to ++ drop to bits) front_long earlier
        ∙ back_left_out cycle i here after (part bits from to) (drop to bits) part_long later))
      where
        before : List (Variable ℕ)
        before = variables_of places (take from vars)

        here : List (Variable ℕ)
        here = variables_of places (part vars from to)

        after : List (Variable ℕ)
        after = variables_of places (drop to vars)

        variables_split : variables_of places vars ≡ variables_of places (take from vars) ++ (variables_of places (part vars from to) ++ variables_of places (drop to vars))
        variables_split =
            ap (variables_of places) (split vars from to ends.behind)
            ∙ (map-append (variable_of places) (take from vars) (part vars from to ++ drop to vars)
            ∙ ap (λ (xs : List (Variable ℕ)). variables_of places (take from vars) ++ xs) (map-append (variable_of places) (part vars from to) (drop to vars)))

        front_long : length (variables_of places (take from vars)) ≡ length (take from bits)
        front_long = length-map (variable_of places) (take from vars) ∙ length_take from vars bits (sym sizes)

        part_long : length (variables_of places (part vars from to)) ≡ length (part bits from to)
        part_long = length-map (variable_of places) (part vars from to) ∙ part_each

        earlier : (x : Variable ℕ) → Contains (variables_of places (take from vars)) x → x.at ≡ cycle → ⊥
        earlier x h e =
            let v = Contains-map_from (variable_of places) (take from vars) x h in
            let k = in_front vars from v.0 v.1 in
            let l = is.past k.0 v.0 k.1 k.2 in
            omega (arith, l, ap (λ (y : Variable ℕ). y.at) v.2, e)

        later : (x : Variable ℕ) → Contains (variables_of places (drop to vars)) x → x.at ≡ cycle → ⊥
        later x h e =
            let v = Contains-map_from (variable_of places) (drop to vars) x h in
            let k = in_back vars to v.0 v.1 in
            let l = behind k.0 v.0 k.1 k.2 in
            omega (arith, l, ap (λ (y : Variable ℕ). y.at) v.2, e)

    -- and the bits that are written by the numbers of this cycle's variables
    pub window : (n : ℕ) → assigned_to (map (number_of places) (part vars from to)) (part bits from to) n ≡ bits_at places vars bits n cycle
    window n = assigned_in_shift places (part vars from to) (part bits from to) cycle each n ∙ sym (whole n)

    -- the row of this cycle
    pub row_is : (last count : ℕ) (row : List Bool) → cycle ≤ last → length row ≡ count → ((i : ℕ) → i < count → get_or row i false ≡ assigned_to (map (number_of places) (part vars from to)) (part bits from to) (0 + i)) →
        row ≡ sequence_row last (λ i k. bits_at places vars bits i (last - k)) cycle 0 count
    row_is last count row early long written =
        row_by_bits last (λ i k. bits_at places vars bits i (last - k)) cycle 0 count row long
        (λ i h.
        let a : ℕ → ℕ → Bool = λ j k. bits_at places vars bits j (last - k) in
        let back : cycle ≡ last - (last - cycle) = omega (arith, early) in
        written i h
        ∙ (window (0 + i)
        ∙ (ap (bits_at places vars bits (0 + i)) back
        ∙ sym (ap (λ t. cond t (a (0 + i) (last - cycle)) false) (le_true cycle last early)))))
