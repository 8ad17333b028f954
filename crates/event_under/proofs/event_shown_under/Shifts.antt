-- Steps of class 0 as places, and the meeting row where no variable stands.
use Rattle.std.proofs.Common.{◌≡◌, ◌≢◌, ◌∙◌, ℕ, zero, suc, ◌+◌, ◌<◌, ◌≤◌, Bool, true, false, cond, List, [], ◌∷◌, ◌++◌, length, map, take, get_or, slice_get, Some, refl, sym, ap, subst, arith, inl, inr, length-append}
use Rattle.std.specs.Prelude.{◌⊎◌, ◌||◌, ◌==◌}
use Rattle.std.specs.List.{All, Contains, list_any}
use Rattle.std.proofs.lemmas.List.{map-append, get_or_append_left}
use Rattle.std.proofs.lemmas.List.Elements.{All-contains, All-push, All-weaker}
use Rattle.std.proofs.lemmas.Option.{get_or_from_slice_get, slice_get_within}
use Rattle.circuit_theory.specs.Names.{same_name}
use Rattle.circuit_theory.specs.Query.{Variable, same_shift}
use Rattle.circuit_theory.proofs.Inputs.{test_refl, same_name-sound}
use Rattle.circuit_theory.proofs.Lists.{map_same}
use Rattle.circuit_theory.proofs.Numbers.{same_name-refl}
use Rattle.circuit_theory.proofs.Sums.{same_or_not}
use Rattle.circuit_theory.specs.Frame.{always_node, bits_as_shifts}
use Rattle.event_nodes.specs.Nodes.{EventGraphView}
use Rattle.event_nodes.specs.event_variables.Variables.{variable_of, variables_of}
use Rattle.base_tables.proofs.TableLemmas.{take-push}
use Rattle.cbf_unfold.specs.shift_variables.Variables as shift
use Rattle.cbf_unfold.proofs.shift_variables.Assignments.{test_differs}
use Rattle.assume_laws.specs.Sequences.{filled}
use Rattle.assume_queries.proofs.assume_sequences.FilledRows.{any_push}
use Rattle.event_under.specs.event_shown_under.Steps.{shifts_of}

always_long : (k : ℕ) → length (always_node k) ≡ k
always_long zero = refl
always_long (suc k) = let long = always_long k in omega (arith, long)

not_true : (b : Bool) → (b ≡ true → ⊥) → b ≡ false
not_true true h = absurd (h refl)
not_true false h = refl

or_false : (b : Bool) → (b || false) ≡ b
or_false true = refl
or_false false = refl

-- no number of steps of class 0 is the path
pub never_same : (p : List ℕ) → ((k : ℕ) → p ≢ always_node k) → (k : ℕ) → same_name p (always_node k) ≡ false
never_same p never k = not_true (same_name p (always_node k)) (λ h. never k (same_name-sound p (always_node k) h))

-- so many are
pub steps_same : (p : List ℕ) (s : ℕ) → p ≡ always_node s → (k : ℕ) → same_name p (always_node k) ≡ same_shift s k
steps_same p s is k = ap (λ (q : List ℕ). same_name q (always_node k)) is ∙ go (same_or_not s k)
  where
    go : (s ≡ k) ⊎ (s ≢ k) → same_name (always_node s) (always_node k) ≡ (s == k)
    go (inl e) =
        subst (λ (j : ℕ). same_name (always_node s) (always_node j) ≡ true) e (same_name-refl (always_node s)) ∙ sym (subst (λ (j : ℕ). (s == j) ≡ true) e (test_refl s))
    go (inr apart) =
        let differ : same_name (always_node s) (always_node k) ≡ false = not_true (same_name (always_node s) (always_node k)) (λ h.
        let long : length (always_node s) ≡ length (always_node k) = ap length (same_name-sound (always_node s) (always_node k) h) in
        let left = always_long s in
        let right = always_long k in
        apart (omega (arith, long, left, right))) in
        differ ∙ sym (test_differs s k apart)

-- these places are those of steps of class 0 at which one of the variables stands
abbrev pub AreSteps : EventGraphView → List ℕ → List ℕ → Type 0
AreSteps w sides steps = (k : ℕ) → list_any (λ (s : ℕ). same_shift s k) steps ≡ list_any (λ (v : Variable (List ℕ)). same_name v.at (always_node k)) (variables_of w sides)

module _ (w : EventGraphView) (sides : List ℕ) (i v : ℕ) (at : slice_get sides i ≡ Some v) (steps : List ℕ) (are : AreSteps w (take i sides) steps) where
  test : ℕ → Variable (List ℕ) → Bool
  test k x = same_name x.at (always_node k)

  one_more : (k : ℕ) → list_any (λ (x : Variable (List ℕ)). same_name x.at (always_node k)) (variables_of w (take (i + 1) sides)) ≡ (list_any (λ (s : ℕ). same_shift s k) steps || same_name (variable_of w v).at (always_node k))
  one_more k =
      ap (λ (l : List ℕ). list_any (λ (x : Variable (List ℕ)). same_name x.at (always_node k)) (variables_of w l)) (sym (take-push sides i v at))
      ∙ (ap (list_any (λ (x : Variable (List ℕ)). same_name x.at (always_node k))) (map-append (variable_of w) (take i sides) (v ∷ []))
      ∙ (any_push (λ (x : Variable (List ℕ)). same_name x.at (always_node k)) (variables_of w (take i sides)) (variable_of w v) ∙ ap (λ (b : Bool). b || same_name (variable_of w v).at (always_node k)) (sym (are k))))

  pub next_never : ((k : ℕ) → (variable_of w v).at ≢ always_node k) → AreSteps w (take (i + 1) sides) steps
  next_never never k =
      sym (one_more k ∙ (ap (λ (b : Bool). list_any (λ (s : ℕ). same_shift s k) steps || b) (never_same (variable_of w v).at never k) ∙ or_false (list_any (λ (s : ℕ). same_shift s k) steps)))

  pub next_steps : (s : ℕ) (new : List ℕ) → (variable_of w v).at ≡ always_node s → new ≡ steps ++ s ∷ [] → AreSteps w (take (i + 1) sides) new
  next_steps s new is pushed k =
      ap (list_any (λ (n : ℕ). same_shift n k)) pushed ∙ (any_push (λ (n : ℕ). same_shift n k) steps s
      ∙ (ap (λ (b : Bool). list_any (λ (n : ℕ). same_shift n k) steps || b) (sym (steps_same (variable_of w v).at s is k)) ∙ sym (one_more k)))

-- places that are put into a table so far
pub record ArePut (table : List (ℕ × ℕ)) (vars steps : List ℕ) : Type 0 where
  pub within : All (λ v. v < length table) vars
  pub shifts : shifts_of table vars ≡ steps
  pub few : length table ≤ length steps

pub next_put : (steps : List ℕ) (i s : ℕ) → slice_get steps i ≡ Some s → (old new more : List (ℕ × ℕ)) (vars pushed : List ℕ) (v : ℕ) → new ≡ old ++ more → length new ≤ length old + 1 → slice_get new v ≡ Some (0, s) → pushed ≡ vars ++ v ∷ [] → ArePut old vars (take i steps) → ArePut new pushed (take (i + 1) steps)
next_put steps i s at old new more vars pushed v grown few here is k = record {
  within = subst (All (λ (u : ℕ). u < length new)) (sym is) (All-push (λ (u : ℕ). u < length new) vars v (All-weaker (λ (u : ℕ). u < length old) (λ (u : ℕ). u < length new) (λ u low. omega (arith, low, longer)) vars k.within) (slice_get_within new v (0, s) here));
  shifts = ap (shifts_of new) is ∙ (map-append place vars (v ∷ []) ∙ (ap (λ (l : List ℕ). l ++ place v ∷ []) (stay ∙ k.shifts) ∙ (ap (λ (n : ℕ). take i steps ++ n ∷ []) put ∙ take-push steps i s at)));
  few = omega (arith, few, k.few, size);
}
  where
    place : ℕ → ℕ
    place u = (shift.variable_of new u).at

    longer : length old ≤ length new
    longer = let e = ap length grown in let f = length-append old more in omega (arith, e, f)

    size : length (take (i + 1) steps) ≡ length (take i steps) + 1
    size = sym (ap length (take-push steps i s at)) ∙ length-append (take i steps) (s ∷ [])

    put : place v ≡ s
    put = ap (λ (p : ℕ × ℕ). p.1) (get_or_from_slice_get new v (0, s) (0, 0) here)

    stays : (u : ℕ) → Contains vars u → place u ≡ (shift.variable_of old u).at
    stays u h =
        let low : u < length old = All-contains (λ (n : ℕ). n < length old) vars u k.within h in
        ap (λ (p : ℕ × ℕ). p.1) (ap (λ (l : List (ℕ × ℕ)). get_or l u (0, 0)) grown ∙ get_or_append_left old more (0, 0) u low)

    stay : shifts_of new vars ≡ shifts_of old vars
    stay = map_same place (λ (u : ℕ). (shift.variable_of old u).at) vars stays

-- a test of the variables' places
any_map : {X Y : Type 0} (test : Y → Bool) (f : X → Y) (xs : List X) → list_any test (map f xs) ≡ list_any (λ x. test (f x)) xs
any_map test f [] = refl
any_map test f (x ∷ xs) = ap (λ (b : Bool). test (f x) || b) (any_map test f xs)

-- the meeting row stands where none of the variables has the node
pub filled_same : (w : EventGraphView) (sides : List ℕ) (table : List (ℕ × ℕ)) (vars steps : List ℕ) (meeting : ℕ → Bool) (bits : ℕ → List ℕ → Bool) → AreSteps w sides steps → shifts_of table vars ≡ steps →
    filled same_shift (shift.variables_of table vars) meeting (bits_as_shifts bits) ≡ bits_as_shifts (filled same_name (variables_of w sides) meeting bits)
filled_same w sides table vars steps meeting bits are put = λ j i k. cond (any k j) (bits i (always_node k)) (meeting i)
  where
    any : (k : ℕ) → list_any (λ (v : Variable ℕ). same_shift v.at k) (shift.variables_of table vars) ≡ list_any (λ (v : Variable (List ℕ)). same_name v.at (always_node k)) (variables_of w sides)
    any k =
        any_map (λ (v : Variable ℕ). same_shift v.at k) (shift.variable_of table) vars
        ∙ (sym (any_map (λ (s : ℕ). same_shift s k) (λ (u : ℕ). (shift.variable_of table u).at) vars) ∙ (ap (list_any (λ (s : ℕ). same_shift s k)) put ∙ are k))
