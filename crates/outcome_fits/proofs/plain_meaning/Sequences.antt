-- What a sequence that is printed for a pair makes of both places, in all runs that obey it.
use Rattle.std.proofs.Common.{◌≡◌, ◌≢◌, ℕ, zero, suc, ◌-◌, ◌<◌, ◌≤◌, max, Bool, false, List, [], ◌∷◌, map, length, refl, sym, ◌∙◌, ap, subst, arith, Some, slice_get}
use Rattle.std.specs.Prelude.{slice_index_or}
use Rattle.std.specs.List.{Contains}
use Rattle.std.proofs.lemmas.List.Elements.{All-contains}
use Rattle.std.proofs.lemmas.Option.{slice_get-get_or}
use Rattle.circuit_theory.specs.Circuit.{Circuit, Named}
use Rattle.circuit_theory.specs.Run.{IsRun}
use Rattle.circuit_theory.specs.Tree.{Tree, Unfolds, IsInputNumber, tree_value}
use Rattle.circuit_theory.specs.Query.{Variable, HasLeaf, assigned, same_shift}
use Rattle.circuit_theory.specs.Sequence.{sequence_row, sequence_rows_from, sequence_rows}
use Rattle.circuit_theory.specs.Fits.{IsWitness}
use Rattle.circuit_theory.specs.Interface.{AreNumbersOf}
use Rattle.circuit_theory.proofs.Lists.{Contains-head, Contains-tail, of_at}
use Rattle.circuit_theory.proofs.Numbers.{slice_get-map, beside_at}
use Rattle.circuit_laws.proofs.Windows.{row_value-is}
use Rattle.sec_setup.specs.witness_report.Witness.{Witness}
use Rattle.sec_setup.specs.witness_report.Shown.{Obeys}
use Rattle.outcome_fits.proofs.plain_meaning.Leaves.{run_by_leaves, shared_name}

-- the rows of a sequence, in length
row_size : (last : ℕ) (x : ℕ → ℕ → Bool) (cycle input count : ℕ) → length (sequence_row last x cycle input count) ≡ count
row_size last x cycle input zero = refl
row_size last x cycle input (suc count) = ap suc (row_size last x cycle (suc input) count)

-- each cycle of a sequence has its row
row_there : (last : ℕ) (x : ℕ → ℕ → Bool) (count cycle cycles t : ℕ) → t < cycles →
    (row : List Bool) × (slice_get (sequence_rows_from last x count cycle cycles) t ≡ Some row) × (length row ≡ count) × (slice_index_or (sequence_rows_from last x count cycle cycles) t [] ≡ row)
row_there last x count cycle zero t h = absurd (omega (arith, h))
row_there last x count cycle (suc cycles) zero h = (sequence_row last x cycle 0 count, refl, row_size last x cycle 0 count, refl)
row_there last x count cycle (suc cycles) (suc t) h = row_there last x count (suc cycle) cycles t (omega arith)

-- One side: in a run that obeys the sequence the place has in the last cycle the value of its tree. The numbers of the inputs are
-- the places of their names among the sequence's.
module _ {P : Type 0} (c : Circuit P) (order others : List ℕ) (columns : List (List ℕ)) (numbers : AreNumbersOf (map (λ (i : Named P). i.name) c.inputs) columns order others) (w : Witness)
    (names : w.stimulus.names ≡ columns) (x : ℕ → ℕ → Bool) (rows : w.stimulus.rows ≡ sequence_rows w.cycle x (length columns)) (steps : ℕ) (run : ℕ → P → Bool) (in_run : w.cycle < steps)
    (is_run : IsRun c steps run) (obeys : Obeys c w.stimulus steps run) where
  -- the bit that is printed for an input of a number, some cycles before the last
  pub printed : (q : P) (i j : ℕ) → IsInputNumber c order q i → i < length columns → j ≤ w.cycle → x i j ≡ run (w.cycle - j) q
  printed q i j number low deep =
      let input = beside_at c.inputs order q i number in
      let own : slice_get (map (λ (m : Named P). m.name) c.inputs) input.0 ≡ Some input.1.name = slice_get-map (λ (m : Named P). m.name) c.inputs input.0 input.1 input.2 in
      let name : slice_get w.stimulus.names i ≡ Some input.1.name =
      ap (λ (ns : List (List ℕ)). slice_get ns i) names ∙ shared_name (map (λ (m : Named P). m.name) c.inputs) columns order others numbers input.0 i input.1.name own input.4 low in
      let there = row_there w.cycle x (length columns) 0 (suc w.cycle) (w.cycle - j) (omega arith) in
      let row : slice_get w.stimulus.rows (w.cycle - j) ≡ Some there.0 = ap (λ (rs : List (List Bool)). slice_get rs (w.cycle - j)) rows ∙ there.1 in
      let bit : slice_get there.0 i ≡ Some (slice_index_or there.0 i false) = slice_get-get_or there.0 i false (omega (arith, low, there.2)) in
      let place : Contains c.inputs (record { name = input.1.name; place = q }) =
      subst (λ (p : P). Contains c.inputs (record { name = input.1.name; place = p })) input.3 (of_at c.inputs input.0 input.1 input.2) in
      sym (row_value-is w.cycle x (length columns) i j deep (λ h. absurd (omega (arith, h, low))))
      ∙ (ap (λ (r : List Bool). slice_index_or r i false) there.3 ∙ sym (obeys (w.cycle - j) i there.0 input.1.name (slice_index_or there.0 i false) q (omega arith) row bit name place))

  -- so the place has its tree's value
  has_value : (p : P) (depth : ℕ) (tree : Tree ℕ) → Unfolds c order p 0 depth tree → depth ≤ w.cycle → ((i j : ℕ) → HasLeaf (record { input = i; at = j }) tree → i < length columns) → run w.cycle p ≡ tree_value x tree
  has_value p depth tree unfolds deep low =
      sym (run_by_leaves c order steps run is_run w.cycle in_run x unfolds (omega arith) (λ q i j number leaf l. printed q i j number (low i j leaf) l)
      ∙ ap (λ t. run t p) (let e : w.cycle - 0 ≡ w.cycle = omega arith in e))

-- the deeper of both functions begins at the first cycle
deep_left : (d e m : ℕ) → m ≡ max d e → d ≤ m
deep_left d e m h = omega (arith, h)

deep_right : (d e m : ℕ) → m ≡ max d e → e ≤ m
deep_right d e m h = omega (arith, h)

-- Both sides: in all runs that obey the sequence both places have the printed values in the last cycle, and these differ.
module _ {P Q : Type 0} (a : Circuit P) (b : Circuit Q) (left right : List ℕ) (columns : List (List ℕ)) (left_numbers : AreNumbersOf (map (λ (i : Named P). i.name) a.inputs) columns left right)
    (right_numbers : AreNumbersOf (map (λ (i : Named Q). i.name) b.inputs) columns right left) (w : Witness) (names : w.stimulus.names ≡ columns) (p : P) (q : Q)
    (wit : IsWitness a b left right p q (length columns) w.stimulus.rows w.cycle w.left w.right) where
  abbrev bits : ℕ → ℕ → Bool
  bits = assigned same_shift wit.variables wit.bits

  -- the leaves of both trees are inputs that the sequence names
  leaf_below : (tree : Tree ℕ) → Contains (wit.left_tree ∷ wit.right_tree ∷ []) tree → (i j : ℕ) → HasLeaf (record { input = i; at = j }) tree → i < length columns
  leaf_below tree there i j has =
      All-contains (λ (v : Variable ℕ). v.input < length columns) wit.variables (record { input = i; at = j }) wit.inputs ((wit.are_variables.exactly (record { input = i; at = j })).1 (tree, there, has))

  pub values_differ : w.left ≢ w.right
  values_differ e = wit.distinguishes.differs (sym wit.left_value ∙ (e ∙ wit.right_value))

  pub left_value_shows : (n : ℕ) (run : ℕ → P → Bool) → w.cycle < n → IsRun a n run → Obeys a w.stimulus n run → run w.cycle p ≡ w.left
  left_value_shows n run below is_run obeys =
      has_value a left right columns left_numbers w names bits wit.rows_are n run below is_run obeys p wit.left_depth wit.left_tree wit.left_unfolds (deep_left wit.left_depth wit.right_depth w.cycle wit.last_is)
      (leaf_below wit.left_tree (Contains-head wit.left_tree (wit.right_tree ∷ []))) ∙ sym wit.left_value

  pub right_value_shows : (n : ℕ) (run : ℕ → Q → Bool) → w.cycle < n → IsRun b n run → Obeys b w.stimulus n run → run w.cycle q ≡ w.right
  right_value_shows n run below is_run obeys =
      has_value b right left columns right_numbers w names bits wit.rows_are n run below is_run obeys q wit.right_depth wit.right_tree wit.right_unfolds (deep_right wit.left_depth wit.right_depth w.cycle wit.last_is)
      (leaf_below wit.right_tree (Contains-tail wit.left_tree wit.right_tree (wit.right_tree ∷ []) (Contains-head wit.right_tree []))) ∙ sym wit.right_value
