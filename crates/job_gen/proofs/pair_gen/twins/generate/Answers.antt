use Rattle.std.proofs.Common.{◌∙◌, ℕ, List, false, length, ap, subst}
use Rattle.circuit_theory.specs.declared.Side.TheVariants.{A, B}
use Rattle.job_gen.specs.pair_gen.Twins.{IsTwin}
use Rattle.job_gen.proofs.pair_gen.Draws.{words_count}
use Rattle.job_gen.proofs.pair_gen.twins.generate.Goals as goal

pub draw-requires : goal.draw-requires
draw-requires c = ap length (c.as_slice.ensures.value ∙ c.in_ok-words.ensures) ∙ words_count c.args.seed

pub draw-requires-2 : goal.draw-requires-2
draw-requires-2 c = ap length (c.as_slice-2.ensures.value ∙ c.in_ok-words.ensures) ∙ words_count c.args.seed

pub returns : goal.returns
returns c = record {
  a = subst (λ (ws : List ℕ). IsTwin A false ws c.in_ok-a.a) (c.as_slice.ensures.value ∙ c.in_ok-words.ensures) c.in_ok-a.ensures.twin;
  b = subst (λ (ws : List ℕ). IsTwin B c.args.regroup ws c.in_ok-b.b) (c.as_slice-2.ensures.value ∙ c.in_ok-words.ensures) c.in_ok-b.ensures.twin;
  comparable_a = c.in_ok-a.ensures.comparable;
  comparable_b = c.in_ok-b.ensures.comparable;
}
