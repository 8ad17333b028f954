use Rattle.std.proofs.Common.{◌≡◌, inl, inr, ℕ, ◌+◌, List, [], ◌∷◌, ◌++◌, length, Contains, sym, ap, subst, ◌∙◌, arith, add-one}
use Rattle.aig.specs.declared.node.Node.{Node}
use Rattle.aig.specs.declared.node.Node.TheVariants.{Input}
use Rattle.base_tables.specs.unique_table.Places.{IsWith}
use Rattle.tree_graph.specs.Numbering.{with_inputs}
use Rattle.tree_graph.proofs.Inputs.{inputs_length, next_input}
use Rattle.tree_graph.proofs.starts.start.Goals as goal

next : (g h : List Node) (n : ℕ) → g ≡ with_inputs n → IsWith g (Input n) h → h ≡ with_inputs (n + 1)
next g h n is (inl (there, e)) = absurd (next_input n (subst (λ (k : List Node). Contains k (Input n)) is there))
next g h n is (inr (new, e)) = e ∙ ap (λ (k : List Node). k ++ Input n ∷ []) is ∙ ap with_inputs (sym (add-one n))

pub input-requires-clause-room : goal.input-requires-clause-room
input-requires-clause-room c = omega (arith, ap length c.loop-number.invariant, inputs_length c.loop-number.number, c.loop-number-test.true, c.if-count-ge-MOST_NODES.false)

pub loop-number-preserved : goal.loop-number-preserved
loop-number-preserved c = next c.loop-number.aig c.input.new.self c.loop-number.number c.loop-number.invariant c.in_ok-input.ensures.made

pub returns-clause-inputs : goal.returns-clause-inputs
returns-clause-inputs c =
    let e : c.loop-number.number ≡ c.args.count = omega (arith, c.loop-number-test.false, c.loop-number.auto.number-end) in
    c.loop-number.invariant ∙ ap with_inputs e

pub returns-clause-few : goal.returns-clause-few
returns-clause-few c = omega (arith, ap length c.loop-number.invariant, inputs_length c.loop-number.number, c.loop-number.auto.number-end, c.if-count-ge-MOST_NODES.false)
