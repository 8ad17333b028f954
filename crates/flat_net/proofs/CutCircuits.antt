-- The circuit of a cut net is the cut circuit.
use Rattle.std.proofs.Common.{◌≡◌, ◌<◌, ◌∙◌, ℕ, zero, suc, Bool, true, false, not, cond, List, [], ◌∷◌, ◌++◌, length, map, filter, slice_get, Option, Some, refl, sym, ap, true≢false, ◌==◌, ◌&&◌, ◌||◌, if◌then◌else◌, get_or}
use Rattle.std.specs.List.{All, filter_map, cons_option}
use Rattle.std.specs.Str.{bytes_eq}
use Rattle.std.proofs.lemmas.List.{map-append}
use Rattle.std.proofs.lemmas.List.Elements.{filter-append, All-head, All-tail}
use Rattle.std.proofs.lemmas.Option.{slice_get_within, none-some, same_Some}
use Rattle.circuit_theory.specs.Cover.{Cover}
use Rattle.circuit_theory.specs.Names as theory
use Rattle.circuit_theory.specs.Circuit.{Circuit, Equation}
use Rattle.circuit_theory.specs.Agree.{cut, is_kept, latch_named, named_at, first_of_pair, second_of_pair}
use Rattle.circuit_theory.proofs.Lists.{map-map}
use Rattle.circuit_theory.proofs.Inputs.{same_name-sound}
use Rattle.circuit_theory.proofs.Numbers.{same_name-refl}
use Rattle.base_tables.specs.Table.{is_among, AreDistinct}
use Rattle.flat_net.specs.declared.parts.Port.{Port}
use Rattle.flat_net.specs.declared.parts.Gate.{Gate}
use Rattle.flat_net.specs.declared.parts.LatchAt.{LatchAt}
use Rattle.flat_net.specs.View.{NetView, named, equation_of_gate, equation_of_latch, circuit_of}
use Rattle.flat_net.specs.Sound.{IsSound}
use Rattle.flat_net.specs.Cut.{latch_at, exposed_names, as_input, as_output, stays, IsCut, IsCutCircuit}
use Rattle.flat_net.proofs.Places.{one_at}
use Rattle.flat_net.proofs.Exposed.{latch_there, one_latch}

-- both tests of names are one
same_name-is : (xs ys : List ℕ) → theory.same_name xs ys ≡ bytes_eq xs ys
same_name-is [] [] = refl
same_name-is [] (y ∷ ys) = refl
same_name-is (x ∷ xs) [] = refl
same_name-is (x ∷ xs) (y ∷ ys) = ap (λ b. (x == y) && b) (same_name-is xs ys)

is_among-is : (names : List (List ℕ)) (name : List ℕ) → theory.is_among names name ≡ is_among names name
is_among-is [] name = refl
is_among-is (x ∷ xs) name = ap (λ b. b || theory.is_among xs name) (same_name-is name x) ∙ ap (λ b. bytes_eq name x || b) (is_among-is xs name)

-- the first latch of a name that one latch bears
latch_named-gates : (covers : List Cover) (gs : List Gate) (es : List (Equation ℕ)) (name : List ℕ) → latch_named (map (equation_of_gate covers) gs ++ es) name ≡ latch_named es name
latch_named-gates covers [] es name = refl
latch_named-gates covers (g ∷ gs) es name = latch_named-gates covers gs es name

latch_named-one : (ls : List LatchAt) (j : ℕ) (l : LatchAt) → slice_get ls j ≡ Some l → ((i : ℕ) (k : LatchAt) → slice_get ls i ≡ Some k → k.name ≡ l.name → k ≡ l)
    → latch_named (map equation_of_latch ls) l.name ≡ Some (l.out.0, l.next.0)
latch_named-one [] j l h one = absurd (none-some l h)
latch_named-one (k ∷ ls) j l h one = by (theory.same_name k.name l.name) refl j h (λ i at. latch_named-one ls i l at (λ m x here. one (suc m) x here))
  where
    by : (b : Bool) → theory.same_name k.name l.name ≡ b → (i : ℕ) → slice_get (k ∷ ls) i ≡ Some l → ((m : ℕ) → slice_get ls m ≡ Some l → latch_named (map equation_of_latch ls) l.name ≡ Some (l.out.0, l.next.0))
        → (if b then Some (k.out.0, k.next.0) else latch_named (map equation_of_latch ls) l.name) ≡ Some (l.out.0, l.next.0)
    by true e i at later = let same : k ≡ l = one 0 k refl (same_name-sound k.name l.name e) in ap (λ (m : LatchAt). Some (m.out.0, m.next.0)) same
    by false e zero at later =
        let same : k ≡ l = same_Some k l at in
        absurd (true≢false (sym (same_name-refl l.name) ∙ ap (λ (m : LatchAt). theory.same_name m.name l.name) (sym same) ∙ e))
    by false e (suc i) at later = later i at

-- what a look-up by name gives, name by name
filter_map-map : {X Y Z : Type 0} (F : Y → Option Z) (f : X → Y) (g : X → Z) (xs : List X) → All (λ x. F (f x) ≡ Some (g x)) xs → filter_map F (map f xs) ≡ map g xs
filter_map-map F f g [] each = refl
filter_map-map F f g (x ∷ xs) each =
    ap (λ o. cons_option o (filter_map F (map f xs))) (All-head (λ y. F (f y) ≡ Some (g y)) x xs each)
    ∙ ap (λ zs. g x ∷ zs) (filter_map-map F f g xs (All-tail (λ y. F (f y) ≡ Some (g y)) x xs each))

-- gates stay, and the latches that aren't exposed
kept_gates : (names : List (List ℕ)) (covers : List Cover) (gs : List Gate) → filter (is_kept names) (map (equation_of_gate covers) gs) ≡ map (equation_of_gate covers) gs
kept_gates names covers [] = refl
kept_gates names covers (g ∷ gs) = ap (λ es. equation_of_gate covers g ∷ es) (kept_gates names covers gs)

kept_latches : (names : List (List ℕ)) (ls : List LatchAt) → filter (is_kept names) (map equation_of_latch ls) ≡ map equation_of_latch (filter (stays names) ls)
kept_latches names [] = refl
kept_latches names (l ∷ ls) =
    ap (λ b. cond (not b) (equation_of_latch l ∷ filter (is_kept names) (map equation_of_latch ls)) (filter (is_kept names) (map equation_of_latch ls))) (is_among-is names l.name)
    ∙ by (not (is_among names l.name)) (kept_latches names ls)
  where
    by : (b : Bool) → filter (is_kept names) (map equation_of_latch ls) ≡ map equation_of_latch (filter (stays names) ls)
        → cond b (equation_of_latch l ∷ filter (is_kept names) (map equation_of_latch ls)) (filter (is_kept names) (map equation_of_latch ls))
        ≡ map equation_of_latch (cond b (l ∷ filter (stays names) ls) (filter (stays names) ls))
    by true h = ap (λ es. equation_of_latch l ∷ es) h
    by false h = h

module _ (n : NetView) (sound : IsSound n) (exposed : List ℕ) (within : All (λ j. j < length n.latches) exposed) (distinct : AreDistinct exposed) where
  abbrev names : List (List ℕ)
  names = exposed_names n exposed

  abbrev c : Circuit ℕ
  c = circuit_of n

  -- the latch of an exposed name
  found : (j : ℕ) → j < length n.latches → latch_named c.equations (latch_at n j).name ≡ Some ((latch_at n j).out.0, (latch_at n j).next.0)
  found j below =
      latch_named-gates n.covers n.gates (map equation_of_latch n.latches) (latch_at n j).name
      ∙ latch_named-one n.latches j (latch_at n j) (latch_there n sound j below) one
    where
      one : (i : ℕ) (k : LatchAt) → slice_get n.latches i ≡ Some k → k.name ≡ (latch_at n j).name → k ≡ latch_at n j
      one i k at same =
          let inside : i < length n.latches = slice_get_within n.latches i k at in
          let is : latch_at n i ≡ k = one_at n.latches i (latch_at n i) k (latch_there n sound i inside) at in
          let place : i ≡ j = one_latch n sound i j (latch_at n j).name inside below (ap (λ (l : LatchAt). l.name) is ∙ same) refl in
          sym is ∙ ap (latch_at n) place

  found_each : (part : Option (ℕ × ℕ) → Option ℕ) (port : LatchAt → Port) → ((l : LatchAt) → named_at l.name (part (Some (l.out.0, l.next.0))) ≡ Some (named (port l))) →
      All (λ j. named_at (latch_at n j).name (part (latch_named c.equations (latch_at n j).name)) ≡ Some (named (port (latch_at n j)))) exposed
  found_each part port is k d below =
      ap (λ o. named_at (latch_at n (get_or exposed k d)).name (part o)) (found (get_or exposed k d) (within k d below)) ∙ is (latch_at n (get_or exposed k d))

  cut_ports : (part : Option (ℕ × ℕ) → Option ℕ) (port : LatchAt → Port) → ((l : LatchAt) → named_at l.name (part (Some (l.out.0, l.next.0))) ≡ Some (named (port l))) →
      (ports : List Port) → map named (ports ++ map (λ j. port (latch_at n j)) exposed) ≡ map named ports ++ filter_map (λ name. named_at name (part (latch_named c.equations name))) names
  cut_ports part port is ports =
      map-append named ports (map (λ j. port (latch_at n j)) exposed)
      ∙ ap (λ zs. map named ports ++ zs) (map-map named (λ j. port (latch_at n j)) exposed)
      ∙ ap (λ zs. map named ports ++ zs) (sym (filter_map-map (λ name. named_at name (part (latch_named c.equations name))) (λ j. (latch_at n j).name) (λ j. named (port (latch_at n j))) exposed (found_each part port is)))

  -- the circuit of a cut net is the cut circuit
  pub cut_circuit : (m : NetView) → IsCut n m exposed → IsCutCircuit names c (circuit_of m)
  unfolding cut
  cut_circuit m parts = record {
    inputs = ap (map named) parts.inputs ∙ cut_ports first_of_pair as_input (λ l. refl) n.inputs;
    outputs = ap (map named) parts.outputs ∙ cut_ports second_of_pair as_output (λ l. refl) n.outputs;
    equations =
        ap (λ (gs : List Gate). map (equation_of_gate m.covers) gs ++ map equation_of_latch m.latches) parts.gates
        ∙ ap (λ (ks : List Cover). map (equation_of_gate ks) n.gates ++ map equation_of_latch m.latches) parts.covers
        ∙ ap (λ (ls : List LatchAt). map (equation_of_gate n.covers) n.gates ++ map equation_of_latch ls) parts.latches
        ∙ ap (λ es. map (equation_of_gate n.covers) n.gates ++ es) (sym (kept_latches names n.latches))
        ∙ ap (λ es. es ++ filter (is_kept names) (map equation_of_latch n.latches)) (sym (kept_gates names n.covers n.gates))
        ∙ sym (filter-append (is_kept names) (map (equation_of_gate n.covers) n.gates) (map equation_of_latch n.latches));
  }
