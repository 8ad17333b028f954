-- Which latches are enabled, or why it isn't known.
use Rattle.std.proofs.Common.{◌≡◌, ◌∙◌, ℕ, Bool, List, length, Ok, Err, sym, subst}
use Rattle.circuit_theory.specs.declared.Mode.TheVariants.{Event}
use Rattle.circuit_theory.specs.declared.Side.{Side}
use Rattle.circuit_theory.specs.declared.Side.TheVariants.{A, B}
use Rattle.flat_net.specs.View.{NetView}
use Rattle.signal_graph.specs.declared.inner_cone.latch_cone.kinds.LatchKind.{LatchKind}
use Rattle.signal_graph.specs.inner_cone.latch_cone.Cones.{MarksEnabled}
use Rattle.latch_kinds.specs.Found.{AreFound}
use Rattle.event_setup.specs.declared.error.RecoveryError.{RecoveryError}
use Rattle.event_setup.specs.declared.error.RecoveryError.TheVariants as unknown
use Rattle.event_setup.specs.Recovered.{AreKnown, Recovers, RecoversBoth}

-- the bits of kinds that are found out
pub recovered : (side : Side) (n : NetView) (conflicts : ℕ) (kinds : List LatchKind) (bits : List Bool) → AreFound n conflicts (Ok kinds) → length bits ≡ length kinds → MarksEnabled Event n bits → Recovers side n conflicts (Ok bits)
recovered side n conflicts kinds bits found each marks = (record { each = each ∙ found.0.each; marks = marks }, record { kinds = kinds; are = found.0; light = found.1 })

-- A's latches aren't known
pub left_unknown : (a b : NetView) (conflicts : ℕ) (e : RecoveryError) → Recovers A a conflicts (Err e) → RecoversBoth a b conflicts (Err e)
left_unknown a b conflicts (unknown.TooLarge side) h = subst (λ s. RecoversBoth a b conflicts (Err (unknown.TooLarge s))) (sym h.0) h.1
left_unknown a b conflicts (unknown.Limit side name proof) h = subst (λ s. RecoversBoth a b conflicts (Err (unknown.Limit s name proof))) (sym h.0) h.1
left_unknown a b conflicts unknown.NoMemory h = tt

-- A's are known, and B's aren't
pub right_unknown : (a b : NetView) (conflicts : ℕ) (e : RecoveryError) → AreKnown a → Recovers B b conflicts (Err e) → RecoversBoth a b conflicts (Err e)
right_unknown a b conflicts (unknown.TooLarge side) left h = subst (λ s. RecoversBoth a b conflicts (Err (unknown.TooLarge s))) (sym h.0) (left, h.1)
right_unknown a b conflicts (unknown.Limit side name proof) left h = subst (λ s. RecoversBoth a b conflicts (Err (unknown.Limit s name proof))) (sym h.0) (left, h.1)
right_unknown a b conflicts unknown.NoMemory left h = tt
