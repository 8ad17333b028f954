-- An assumption that is too large for the comparison of two circuits in the event form.
use Rattle.std.specs.Prelude.{ℕ, List}
use Rattle.flat_net.specs.View.{NetView}
use Rattle.sec_setup.specs.declared.ports.pairs.SignalPair.{SignalPair}
use Rattle.sec_base.specs.declared.settings.Settings.{Settings}
use Rattle.edbf_unfold.specs.class_queries.Enables.{both_of}
use Rattle.event_nodes.specs.View.{EventCircuitView}
use Rattle.event_setup.specs.event_meaning.event_names.event_fits.Compared.{StopsAtPairs}
use Rattle.event_setup.specs.event_meaning.event_names.event_fits.Totals.{IsMapMade, IsWithinWith}
use Rattle.event_under.specs.Places.{IsOverAtNodes}
use Rattle.assume_laws.specs.declared.assume_shape.shape.ShapeFault.{ShapeFault}
use Rattle.assume_laws.specs.declared.assume_shape.shape.ShapeFault.TheVariants as fault
use Rattle.plain_check.specs.under_base.Met.{IsMet}

-- All pairs are unfolded within their numbers, and an assumption of this weight weighs more than 2,000,000 at all nodes that have a variable of some
-- pair, with one more for each of these of each pair.
abbrev pub PairsAreOver : ℕ → (left right : EventCircuitView) → IsMapMade left right → List SignalPair → Type 0
PairsAreOver weight left right made pairs = IsWithinWith left right made pairs pairs × IsOverAtNodes weight (both_of left right) pairs

-- C is too large for the comparison, which is told once all pairs are unfolded; no other fault comes of it
abbrev pub IsTooLargeForEvents : NetView → NetView → NetView → Settings → ShapeFault → Type 0
IsTooLargeForEvents a b c settings fault.TooLarge = (met : IsMet a b c) × StopsAtPairs a b settings.expose (PairsAreOver met.assumed.weight)
IsTooLargeForEvents a b c settings other = ⊥
