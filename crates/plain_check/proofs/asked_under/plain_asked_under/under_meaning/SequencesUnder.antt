-- What a sequence that is printed for a pair under an assumption makes of both places, in all runs that obey it.
use Rattle.std.proofs.Common.{◌≡◌, ◌≢◌, ℕ, ◌-◌, ◌<◌, ◌≤◌, max, Bool, List, [], ◌∷◌, map, length, sym, ◌∙◌, ap, arith, inl}
use Rattle.std.specs.List.{Contains}
use Rattle.std.proofs.lemmas.List.Elements.{All-contains}
use Rattle.circuit_theory.specs.Circuit.{Circuit, Named}
use Rattle.circuit_theory.specs.Run.{IsRun}
use Rattle.circuit_theory.specs.Tree.{Tree, Unfolds, tree_value}
use Rattle.circuit_theory.specs.Query.{Variable, HasLeaf, assigned, same_shift}
use Rattle.circuit_theory.specs.Sequence.{sequence_rows}
use Rattle.circuit_theory.specs.Interface.{AreNumbersOf}
use Rattle.circuit_theory.proofs.Inputs.{test_same}
use Rattle.circuit_theory.proofs.Lists.{Contains-head, Contains-tail}
use Rattle.witness_report.specs.declared.witness.Witness.{Witness}
use Rattle.witness_report.specs.Shown.{Obeys}
use Rattle.outcome_fits.proofs.plain_meaning.Leaves.{run_by_leaves}
use Rattle.outcome_fits.proofs.plain_meaning.Sequences.{printed}
use Rattle.assume_laws.specs.Assume.{Assumption}
use Rattle.assume_laws.specs.Sequences.{filled, IsWitnessUnder}
use Rattle.assume_laws.proofs.Filled.{filled_tree, shift_itself, left_leaves, right_leaves}

-- in a run that obeys the sequence the place has in the last cycle the value of its tree
has_value : {P : Type 0} (c : Circuit P) (order others : List ℕ) (columns : List (List ℕ)) → AreNumbersOf (map (λ (i : Named P). i.name) c.inputs) columns order others → (w : Witness) → w.stimulus.names ≡ columns → (x : ℕ → ℕ → Bool) →
    w.stimulus.rows ≡ sequence_rows w.cycle x (length columns) → (steps : ℕ) (run : ℕ → P → Bool) → w.cycle < steps → IsRun c steps run → Obeys c w.stimulus steps run →
    (p : P) (depth : ℕ) (tree : Tree ℕ) → Unfolds c order p 0 depth tree → depth ≤ w.cycle → ((i j : ℕ) → HasLeaf (record { input = i; at = j }) tree → i < length columns) → run w.cycle p ≡ tree_value x tree
has_value {P} c order others columns numbers w names x rows steps run in_run is_run obeys p depth tree unfolds deep low =
    sym (run_by_leaves c order steps run is_run w.cycle in_run x unfolds (omega arith) (λ q i j number leaf l. printed c order others columns numbers w names x rows steps run in_run is_run obeys q i j number (low i j leaf) l)
    ∙ ap (λ t. run t p) (let e : w.cycle - 0 ≡ w.cycle = omega arith in e))

deep_left : (d e m : ℕ) → m ≡ max d e → d ≤ m
deep_left d e m h = omega (arith, h)

deep_right : (d e m : ℕ) → m ≡ max d e → e ≤ m
deep_right d e m h = omega (arith, h)

module _ {P Q : Type 0} (c : Assumption) (a : Circuit P) (b : Circuit Q) (left right : List ℕ) (columns : List (List ℕ)) (left_numbers : AreNumbersOf (map (λ (i : Named P). i.name) a.inputs) columns left right)
    (right_numbers : AreNumbersOf (map (λ (i : Named Q). i.name) b.inputs) columns right left) (w : Witness) (names : w.stimulus.names ≡ columns) (p : P) (q : Q) (meeting : ℕ → Bool)
    (wit : IsWitnessUnder c a b left right p q (length columns) meeting w.stimulus.rows w.cycle w.left w.right) where
  abbrev bits : ℕ → ℕ → Bool
  bits = assigned same_shift wit.variables wit.bits

  abbrev shown : ℕ → ℕ → Bool
  shown = filled same_shift wit.sides meeting bits

  -- the leaves of both trees are inputs that the sequence names
  leaf_below : (tree : Tree ℕ) → Contains (wit.left_tree ∷ wit.right_tree ∷ []) tree → (i j : ℕ) → HasLeaf (record { input = i; at = j }) tree → i < length columns
  leaf_below tree there i j has =
      All-contains (λ (v : Variable ℕ). v.input < length columns) wit.variables (record { input = i; at = j }) wit.inputs ((wit.difference.are_variables.exactly (record { input = i; at = j })).1 (tree, inl there, has))

  left_tree_value : tree_value shown wit.left_tree ≡ tree_value bits wit.left_tree
  left_tree_value = filled_tree same_shift test_same shift_itself wit.sides meeting bits wit.left_tree (left_leaves wit.difference.are_sides)

  right_tree_value : tree_value shown wit.right_tree ≡ tree_value bits wit.right_tree
  right_tree_value = filled_tree same_shift test_same shift_itself wit.sides meeting bits wit.right_tree (right_leaves wit.difference.are_sides)

  pub values_differ : w.left ≢ w.right
  values_differ e =
      wit.difference.distinguishes.differs (wit.difference.asks.left_is bits ∙ (sym wit.left_value ∙ (e ∙ (wit.right_value ∙ sym (wit.difference.asks.right_is bits)))))

  pub left_value_shows : (n : ℕ) (run : ℕ → P → Bool) → w.cycle < n → IsRun a n run → Obeys a w.stimulus n run → run w.cycle p ≡ w.left
  left_value_shows n run below is_run obeys =
      has_value a left right columns left_numbers w names shown wit.rows_are n run below is_run obeys p wit.left_depth wit.left_tree wit.left_unfolds (deep_left wit.left_depth wit.right_depth w.cycle wit.last_is)
      (leaf_below wit.left_tree (Contains-head wit.left_tree (wit.right_tree ∷ []))) ∙ (left_tree_value ∙ sym wit.left_value)

  pub right_value_shows : (n : ℕ) (run : ℕ → Q → Bool) → w.cycle < n → IsRun b n run → Obeys b w.stimulus n run → run w.cycle q ≡ w.right
  right_value_shows n run below is_run obeys =
      has_value b right left columns right_numbers w names shown wit.rows_are n run below is_run obeys q wit.right_depth wit.right_tree wit.right_unfolds (deep_right wit.left_depth wit.right_depth w.cycle wit.last_is)
      (leaf_below wit.right_tree (Contains-tail wit.left_tree wit.right_tree (wit.right_tree ∷ []) (Contains-head wit.right_tree []))) ∙ (right_tree_value ∙ sym wit.right_value)
