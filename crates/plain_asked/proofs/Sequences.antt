-- The sequence that the bits of a difference give, and what it shows.
use Rattle.std.proofs.Common.{◌≡◌, ℕ, ◌<◌, ◌≤◌, max, Bool, List, length, sym, ◌∙◌, ap, arith}
use Rattle.std.specs.List.{All, Contains}
use Rattle.std.proofs.lemmas.List.Elements.{All-map}
use Rattle.circuit_theory.specs.Circuit.{Circuit}
use Rattle.circuit_theory.specs.Depth.{IsDepth}
use Rattle.circuit_theory.specs.Fits.{IsPairDepth, IsWitness}
use Rattle.circuit_theory.specs.Query.{Variable, HasLeaf, bits_of, pair_query, same_shift}
use Rattle.circuit_theory.specs.Query as query
use Rattle.circuit_theory.specs.Run.{NoneEnabled}
use Rattle.circuit_theory.specs.Sequence.{sequence_rows}
use Rattle.circuit_theory.proofs.Lists.{All-from_each}
use Rattle.circuit_laws.proofs.TreeDepth.{tree_depth}
use Rattle.flat_net.specs.View.{NetView, circuit_of}
use Rattle.flat_net.specs.Sound.{IsSound}
use Rattle.flat_net.proofs.Nets.{sound_is_net}
use Rattle.aig.specs.declared.node.Node.{Node}
use Rattle.cbf_unfold.specs.declared.unfold_places.signal_function.Unfolded.{Unfolded}
use Rattle.pair_decide.specs.declared.query.Query.{Query}
use Rattle.pair_decide.specs.Answers.{IsDifference}
use Rattle.witness_report.specs.declared.witness.PairName.{PairName}
use Rattle.witness_report.specs.declared.witness.Witness.{Witness}
use Rattle.sec_setup.specs.ports.Pairs.{outputs_of}
use Rattle.sec_setup.specs.Setup.{AreColumns}
use Rattle.plain_asked.specs.Sequences.{bits_at, IsSequence, IsWitnessOf}
use Rattle.plain_asked.specs.Variables.{variable_of, variables_of}
use Rattle.plain_asked.proofs.Leaves.{leaf_shift, leaf_is_column}
use Rattle.plain_asked.proofs.PairQueries.{AsksPair, left_tree, right_tree, query_in_order, are_variables, each_variable, left_at_bits, right_at_bits, trees_differ, variables_long, least_is}

-- there is one depth
one_depth : (c : Circuit ℕ) (s d e : ℕ) → IsDepth c NoneEnabled s d → IsDepth c NoneEnabled s e → d ≡ e
one_depth c s d e x y = let l = y.greatest d x.reached in let m = x.greatest e y.reached in omega (arith, l, m)

module _ {a b : NetView} {left right : List ℕ} {g : List Node} {places : List (ℕ × ℕ)} {s t : ℕ} {l r : Unfolded} {q : Query} (x : AsksPair a b left right g places s t l r q) where
  -- the size is the greater depth of both trees
  module _ (sound_a : IsSound a) (sound_b : IsSound b) (last : ℕ) (depth : IsPairDepth (circuit_of a) (circuit_of b) s t last) where
    left_depth : x.left_is.depth ≡ depth.left
    left_depth = one_depth (circuit_of a) s x.left_is.depth depth.left (tree_depth (circuit_of a) (sound_is_net a sound_a).single x.left_is.unfolds) depth.left_is

    right_depth : x.right_is.depth ≡ depth.right
    right_depth = one_depth (circuit_of b) t x.right_is.depth depth.right (tree_depth (circuit_of b) (sound_is_net b sound_b).single x.right_is.unfolds) depth.right_is

    last_is : last ≡ max x.left_is.depth x.right_is.depth
    last_is = depth.greater ∙ (ap (λ d. max d depth.right) (sym left_depth) ∙ ap (λ d. max x.left_is.depth d) (sym right_depth))

    module _ (columns : List (List ℕ)) (left_columns : AreColumns a columns left right) (right_columns : AreColumns b columns right left) (left_shown : Contains (outputs_of a) s) (right_shown : Contains (outputs_of b) t) where
      left_input : (y : Variable ℕ) → HasLeaf y (left_tree x) → y.input < length columns
      left_input y is_leaf = leaf_is_column a columns left right left_columns s x.left_is.depth (left_tree x) left_shown x.left_is.unfolds y is_leaf

      right_input : (y : Variable ℕ) → HasLeaf y (right_tree x) → y.input < length columns
      right_input y is_leaf = leaf_is_column b columns right left right_columns t x.right_is.depth (right_tree x) right_shown x.right_is.unfolds y is_leaf

      left_late : (y : Variable ℕ) → HasLeaf y (left_tree x) → y.at ≤ last
      left_late y is_leaf = let h = leaf_shift (circuit_of a) left y x.left_is.unfolds is_leaf in omega (arith, h, last_is)

      right_late : (y : Variable ℕ) → HasLeaf y (right_tree x) → y.at ≤ last
      right_late y is_leaf = let h = leaf_shift (circuit_of b) right y x.right_is.unfolds is_leaf in omega (arith, h, last_is)

      inputs_within : All (λ v. (variable_of places v).input < length columns) q.vars
      inputs_within = All-from_each (λ v. (variable_of places v).input < length columns) q.vars (λ v h. each_variable x (λ y. y.input < length columns) left_input right_input v h)

      -- the bits of a difference give a sequence
      pub is_sequence : (bits : List Bool) → length bits ≡ length q.vars → IsSequence places q.vars bits last (length columns)
      is_sequence bits each = record {
        each = each;
        in_order = query_in_order x;
        inputs = inputs_within;
        shifts = All-from_each (λ v. (variable_of places v).at ≤ last) q.vars (λ v h. each_variable x (λ y. y.at ≤ last) left_late right_late v h);
      }

      -- and the sequence is a witness
      pub is_witness : (bits : List Bool) (name : PairName) (w : Witness) → IsDifference g q bits → IsWitnessOf g places q bits name last columns w →
          IsWitness (circuit_of a) (circuit_of b) left right s t (length columns) w.stimulus.rows w.cycle w.left w.right
      is_witness bits name w d is = record {
        left_depth = x.left_is.depth;
        right_depth = x.right_is.depth;
        left_tree = left_tree x;
        right_tree = right_tree x;
        left_unfolds = x.left_is.unfolds;
        right_unfolds = x.right_is.unfolds;
        last_is = is.cycle_is ∙ last_is;
        variables = variables_of places q.vars;
        are_variables = are_variables x;
        inputs = All-map (λ (y : Variable ℕ). y.input < length columns) (variable_of places) q.vars inputs_within;
        bits = bits;
        each = d.each ∙ sym (variables_long x);
        distinguishes = trees_differ x bits d.distinguishes;
        least = λ few. least (omega (arith, few, variables_long x));
        rows_are = is.rows_are ∙ ap (λ n. sequence_rows n (bits_at places q.vars bits) (length columns)) (sym is.cycle_is);
        left_value = is.left_is ∙ left_at_bits x bits;
        right_value = is.right_is ∙ right_at_bits x bits;
      }
        where
          least : length q.vars ≤ 16 → (number : ℕ) × (bits ≡ bits_of number (length (variables_of places q.vars))) × query.IsLeast same_shift (pair_query (left_tree x) (right_tree x)) (variables_of places q.vars) number
          least few =
              let h = d.least few in
              (h.0, h.1 ∙ ap (bits_of h.0) (sym (variables_long x)), least_is x h.0 h.2)
