-- The inputs are in range, and differ as the variables do.
use Rattle.std.proofs.Common.{◌<◌, ◌∙◌, ℕ, List, sym, subst}
use Rattle.std.specs.Prelude.{◌≢◌}
use Rattle.std.specs.List.{All, AllPairs}
use Rattle.std.proofs.lemmas.List.Elements.{All-map}
use Rattle.aig.proofs.Lists.{pairs_map}
use Rattle.cbf_unfold.specs.shift_variables.Variables.{variable_of}
use Rattle.cbf_unfold.proofs.shift_variables.rows.row_of.Goals as goal

pub bits_at-requires-clause-within : goal.bits_at-requires-clause-within
bits_at-requires-clause-within c =
    let input : ℕ → ℕ = λ v. (variable_of c.args.places.now v).input in
    subst (λ (ns : List ℕ). All (λ n. n < c.args.count) ns) (sym (c.as_slice.ensures.value ∙ c.in_ok-inputs.ensures)) (All-map (λ n. n < c.args.count) input c.args.vars.now c.requires.inputs)

pub bits_at-requires-clause-distinct : goal.bits_at-requires-clause-distinct
bits_at-requires-clause-distinct c =
    let input : ℕ → ℕ = λ v. (variable_of c.args.places.now v).input in
    subst (λ (ns : List ℕ). AllPairs (λ m n. m ≢ n) ns) (sym (c.as_slice.ensures.value ∙ c.in_ok-inputs.ensures))
    (pairs_map input (λ u v. input u ≢ input v) (λ m n. m ≢ n) c.args.vars.now (λ u v hu hv apart. apart) c.requires.distinct)
