-- The latches that a setup cuts out, and a circuit that is too large without them.
use Rattle.std.proofs.Common.{false, ◌≡◌, ℕ, List, sym, subst, Err}
use Rattle.circuit_theory.specs.declared.Side.TheVariants.{A, B}
use Rattle.flat_net.specs.View.{NetView, circuit_of}
use Rattle.sec_setup.specs.declared.cut_points.exposed.Exposure.{Exposure}
use Rattle.sec_base.specs.declared.settings.Settings.{Settings}
use Rattle.sec_setup.specs.declared.setup.Setup.{Setup}
use Rattle.sec_setup.specs.Choosing.{IsChosen}
use Rattle.outcome_fits.specs.Cuts.{IsChoice, StandInOrder}
use Rattle.sec_setup.specs.Matching.{InterfacesMatch}
use Rattle.sec_setup.specs.Setup.{IsSetupOf}
use Rattle.outcome_fits.specs.Fitting.{IsLight, IsTooLarge}
use Rattle.outcome_fits.proofs.plain_meaning.CutSizes.{cut_over, cut_light}
use Rattle.plain_check.specs.declared.under_base.compare_base.error.CompareError.TheVariants as refused
use Rattle.plain_check.specs.under_base.compare_base.Compared.{AreTooLarge, Compared}
use Rattle.plain_check.proofs.under_base.compare_base.Forms.{in_always}

module _ (a b : NetView) (settings : Settings) (e : Exposure) (s : Setup) (matches : InterfacesMatch a b) (chosen : IsChosen a b settings.expose e) (is : IsSetupOf a b s) (same : s.exposed ≡ e.names) where
  pub choice : IsChoice a b settings.expose s.exposed
  choice = subst (λ (names : List (List ℕ)). IsChoice a b settings.expose names) (sym same) (record { minimal = chosen.cut_open.minimal; closed = chosen.closed })

  pub in_order : StandInOrder a s.exposed
  in_order = subst (λ (names : List (List ℕ)). StandInOrder a names) (sym same) (record { positions = e.left; in_order = chosen.cut_open.in_order; within = chosen.cut_open.left.within; named = chosen.cut_open.left.named })

  -- a net that is too large is refused
  pub left_too_large : settings.reset ≡ false → IsTooLarge s.left.now → Compared a b settings (Err (refused.TooLarge A))
  left_too_large always large = (
    matches,
    chosen.broken,
    in_always _ settings.reset always (AreTooLarge.left choice in_order (cut_over s.exposed (circuit_of a) s.left.now is.are_cut.left_circuit large)),
  )

  pub right_too_large : settings.reset ≡ false → IsLight s.left.now → IsTooLarge s.right.now → Compared a b settings (Err (refused.TooLarge B))
  right_too_large always light large = (
    matches,
    chosen.broken,
    in_always _ settings.reset always (AreTooLarge.right choice in_order (cut_light s.exposed (circuit_of a) s.left.now is.are_cut.left_circuit light) (cut_over s.exposed (circuit_of b) s.right.now is.are_cut.right_circuit large)),
  )
