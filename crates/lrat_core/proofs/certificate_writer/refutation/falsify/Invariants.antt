use Rattle.std.proofs.Common.{◌≡◌, take}
use Rattle.lrat_core.specs.certificate_writer.Hinting.{falsified_by}
use Rattle.lrat_core.proofs.certificate_writer.refutation.falsify.Given as goal

-- the literals so far are false
abbrev pub invariant-loop-literal : goal.invariant-loop-literal
invariant-loop-literal l = (l.trail.variables ≡ l.fn.trail.variables) × (falsified_by l.trail.entries ≡ take l.literal-index l.clause)
