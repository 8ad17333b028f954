-- The value over the cone, and its opposite.
use Rattle.std.proofs.Common.{◌≢◌, ◌∙◌, ℕ, Bool, List, [], ◌∷◌, length, sym, ap, subst, arith}
use Rattle.std.specs.List.{AllPairs}
use Rattle.aig.specs.Values.{value}
use Rattle.aig.specs.lane_eval.Tables.{Covers, assigned_to}
use Rattle.induct.proofs.block_outputs.answer.values_shown.Goals as goal

pub value_in_cone-requires-clause-each : goal.value_in_cone-requires-clause-each
value_in_cone-requires-clause-each c = let left = ap length c.as_slice.ensures in let right = ap length c.as_slice-2.ensures in omega (arith, left, right, c.requires.each)

pub value_in_cone-requires-clause-distinct : goal.value_in_cone-requires-clause-distinct
value_in_cone-requires-clause-distinct c = subst (AllPairs (λ (u v : ℕ). u ≢ v)) (sym c.as_slice.ensures) c.requires.distinct

pub value_in_cone-requires-clause-covers : goal.value_in_cone-requires-clause-covers
value_in_cone-requires-clause-covers c = subst (Covers c.args.aig.now (c.args.l.0 ∷ [])) (sym c.as_slice.ensures) c.requires.covers

pub returns-clause-left : goal.returns-clause-left
returns-clause-left c =
    c.in_ok-left.ensures
    ∙ (ap (λ (vs : List ℕ). value c.args.aig.now (assigned_to vs c.as_slice-2.result.now) c.args.l.0) c.as_slice.ensures ∙ ap (λ (bs : List Bool). value c.args.aig.now (assigned_to c.args.vars bs) c.args.l.0) c.as_slice-2.ensures)
