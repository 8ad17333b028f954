-- The table over the variables' places answers for the graph.
use Rattle.std.proofs.Common.{◌≡◌, ◌∙◌, ℕ, length, sym, subst}
use Rattle.aig.specs.lane_eval.Renaming.{IsSound, IsLeastOf}
use Rattle.aig.proofs.lane_eval.table.table_differs.Goals as goal

pub least-requires-clause-sound : goal.least-requires-clause-sound
least-requires-clause-sound c =
    let count : length c.as_mut_slice.result.now ≡ length c.args.vars.now = c.as_mut_slice.ensures.len ∙ c.in_ok-inputs.ensures.len ∙ c.len-2.ensures in
    subst (λ (n : ℕ). IsSound c.in_ok-table.table n) (sym count) c.in_ok-table.ensures.sound

pub returns : goal.returns
returns c =
    let count : length c.as_mut_slice.result.now ≡ length c.args.vars.now = c.as_mut_slice.ensures.len ∙ c.in_ok-inputs.ensures.len ∙ c.len-2.ensures in
    c.in_ok-table.ensures.answers c.least.result (subst (λ (n : ℕ). IsLeastOf c.in_ok-table.table n c.least.result) count c.least.ensures)
