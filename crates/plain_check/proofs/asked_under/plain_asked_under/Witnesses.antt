-- The sequence of a difference under an assumption.
use Rattle.std.proofs.Common.{◌≡◌, ℕ, ◌<◌, max, [], ◌∷◌, length, slice_get, Some, sym, ◌∙◌, ap, subst, arith, inl, inr}
use Rattle.std.specs.Prelude.{◌⊎◌}
use Rattle.std.specs.List.{Contains}
use Rattle.circuit_theory.specs.Circuit.{Circuit}
use Rattle.circuit_theory.specs.Depth.{IsDepth}
use Rattle.circuit_theory.specs.Query.{Variable, HasLeaf, same_shift}
use Rattle.circuit_theory.specs.Sequence.{sequence_rows}
use Rattle.circuit_theory.specs.Run.{NoneEnabled}
use Rattle.circuit_theory.specs.Tree.{Tree}
use Rattle.circuit_theory.proofs.Lists.{Contains-cases, All-from_each, only}
use Rattle.circuit_laws.proofs.TreeDepth.{tree_depth}
use Rattle.flat_net.specs.View.{circuit_of}
use Rattle.flat_net.proofs.Nets.{sound_is_net}
use Rattle.aig.specs.declared.node.Lit.{Lit}
use Rattle.aig.specs.Values.{value}
use Rattle.pair_decide.specs.declared.query.Query.{Query}
use Rattle.pair_decide.specs.Queries.{assigned_to}
use Rattle.cbf_unfold.specs.shift_variables.Variables.{variables_of}
use Rattle.cbf_unfold.specs.shift_variables.Sequences.{bits_at}
use Rattle.cbf_unfold.proofs.shift_variables.Assignments.{assigned_alike}
use Rattle.assume_laws.specs.Sequences.{filled}
use Rattle.assume_laws.proofs.Meeting.{leaf_input}
use Rattle.assume_queries.specs.declared.assume_answers.order.VariableOrder.TheVariants as order
use Rattle.assume_queries.specs.assume_answers.Under.{IsUnder, ReadsAtOne}
use Rattle.assume_queries.proofs.assume_answers.Pairs.{answers_under}
use Rattle.plain_asked.proofs.Leaves.{leaf_is_column}
use Rattle.plain_asked.proofs.PairQueries.{left_tree, right_tree, are_variables, left_value, right_value}
use Rattle.plain_check.specs.asked_under.plain_asked_under.Laws.{DifferencesShowUnder}
use Rattle.obligations.proofs.Fits.{only_query}
use Rattle.plain_check.proofs.asked_under.plain_asked_under.PairsUnder.{asked_pair, one, asks}

-- there is one depth
one_depth : (c : Circuit ℕ) (s d e : ℕ) → IsDepth c NoneEnabled s d → IsDepth c NoneEnabled s e → d ≡ e
one_depth c s d e y z = let l = z.greatest d y.reached in let m = y.greatest e z.reached in omega (arith, l, m)

pub differences_show_under : DifferencesShowUnder
differences_show_under c s f p o u h k under setup sound_a sound_b left_shown right_shown numbers place q r bits meeting rows left right at_q at_r d meets rows_are left_is right_is =
    let y = asked_pair c s f p o u h k under in
    let t = one c s f p o u h k under in
    let same_q : q ≡ k.queries_are.0 = only_query k.queries_are.0 o.queries place q k.queries_are.1 at_q in
    let same_r : t.0 ≡ r = sym (only_query t.0 u.queries place r t.1 at_r) in
    let is : IsUnder order.Shifts c f.aig f.places k.queries_are.0 r = subst (IsUnder order.Shifts c f.aig f.places k.queries_are.0) same_r t.2 in
    let said = answers_under order.Shifts c f.aig f.places (left_tree y) (right_tree y) k.queries_are.0 r (asks c s f p o u h k under r (t.1 ∙ ap (λ (z : Query). z ∷ []) same_r) is) in
    let takes : (v : ℕ) (e : ℕ × ℕ) → slice_get f.places v ≡ Some e → assigned_to r.vars bits v ≡ bits_at f.places r.vars bits e.0 e.1 = λ v e there. assigned_alike f.places r.vars bits h.distinct is.in_order.within v e there in
    let left_depth = one_depth (circuit_of s.left.now) p.left.0 y.left_is.depth k.size_is.left (tree_depth (circuit_of s.left.now) (sound_is_net s.left.now sound_a).single y.left_is.unfolds) k.size_is.left_is in
    let right_depth = one_depth (circuit_of s.right.now) p.right.0 y.right_is.depth k.size_is.right (tree_depth (circuit_of s.right.now) (sound_is_net s.right.now sound_b).single y.right_is.unfolds) k.size_is.right_is in
    record {
      left_depth = y.left_is.depth;
      right_depth = y.right_is.depth;
      left_tree = left_tree y;
      right_tree = right_tree y;
      left_unfolds = y.left_is.unfolds;
      right_unfolds = y.right_is.unfolds;
      last_is = k.size_is.greater ∙ (ap (λ n. max n k.size_is.right) (sym left_depth) ∙ ap (λ n. max y.left_is.depth n) (sym right_depth));
      sides = variables_of f.places k.queries_are.0.vars;
      variables = variables_of f.places r.vars;
      bits = bits;
      difference = said.2 bits d;
      inputs = All-from_each (λ (v : Variable ℕ). v.input < length s.columns) (variables_of f.places r.vars) (λ v m. read v ((is.exactly v).0 m));
      meeting_is = meets;
      rows_are = rows_are ∙ ap (λ (z : Query). sequence_rows o.size (filled same_shift (variables_of f.places z.vars) meeting (bits_at f.places r.vars bits)) (length s.columns)) same_q;
      left_value = left_is ∙ (ap (λ (l : Lit). value f.aig (assigned_to r.vars bits) l.0) is.left_is ∙ left_value y (bits_at f.places r.vars bits) (assigned_to r.vars bits) takes);
      right_value = right_is ∙ (ap (λ (l : Lit). value f.aig (assigned_to r.vars bits) l.0) is.right_is ∙ right_value y (bits_at f.places r.vars bits) (assigned_to r.vars bits) takes);
    }
  where
    column : (v : Variable ℕ) (tree : Tree ℕ) → (left_tree (asked_pair c s f p o u h k under) ≡ tree) ⊎ Contains (right_tree (asked_pair c s f p o u h k under) ∷ []) tree → HasLeaf v tree → v.input < length s.columns
    column v tree (inl e) m =
        let y = asked_pair c s f p o u h k under in
        leaf_is_column s.left.now s.columns s.orders.left s.orders.right setup.left_columns p.left.0 y.left_is.depth (left_tree y) left_shown y.left_is.unfolds v (subst (HasLeaf v) (sym e) m)
    column v tree (inr n) m =
        let y = asked_pair c s f p o u h k under in
        leaf_is_column s.right.now s.columns s.orders.right s.orders.left setup.right_columns p.right.0 y.right_is.depth (right_tree y) right_shown y.right_is.unfolds v (subst (HasLeaf v) (sym (only (right_tree y) tree n)) m)

    read : (v : Variable ℕ) → Contains (variables_of f.places k.queries_are.0.vars) v ⊎ ReadsAtOne c f.places k.queries_are.0.vars v → v.input < length s.columns
    read v (inl m) =
        let y = asked_pair c s f p o u h k under in
        let l = ((are_variables y).exactly v).0 m in
        column v l.0 (Contains-cases (left_tree y) l.0 (right_tree y ∷ []) l.1) l.2
    read v (inr m) = let n = leaf_input c.circuit c.order _ v m.3 m.4 in numbers v.input n.0 n.1
