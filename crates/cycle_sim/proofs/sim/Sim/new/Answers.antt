-- The lists are as long as the net's signals and latches.
use Rattle.std.proofs.Common.{◌≡◌, ◌∙◌, ℕ, true, false, length, sym, ap, subst}
use Rattle.std.proofs.lemmas.List.{length-replicate}
use Rattle.cycle_sim.specs.declared.power.Power.{Power}
use Rattle.cycle_sim.specs.declared.power.Power.TheVariants as power
use Rattle.cycle_sim.specs.Runs.{power_bits, FitsLatches}
use Rattle.cycle_sim.proofs.sim.Sim.new.Goals as goal

sized : (n : ℕ) (p : Power) → FitsLatches n p → length (power_bits n p) ≡ n
sized n power.Zeros fits = length-replicate n false
sized n power.Ones fits = length-replicate n true
sized n (power.Given bits) fits = fits

pub invariant_of-result : goal.invariant_of-result
invariant_of-result c =
    let latches = ap length c.latches.ensures in (
      sym c.in_ok-vec.field-0.ok.0 ∙ (c.in_ok-vec.ensures.len ∙ c.size.ensures),
      ap length c.in_ok-powered_up.ensures ∙ (sized _ _ (subst (λ n. FitsLatches n c.args.power.now) (sym latches) c.requires) ∙ latches),
    )
