use Rattle.std.proofs.Common.{◌≡◌, false, take}
use Rattle.lrat_core.specs.Logs.{is_met, first_open}
use Rattle.lrat_core.specs.certificate_writer.Hinting.{falsified_by}
use Rattle.lrat_core.proofs.certificate_writer.hints.look_at.Given as goal

-- no literal so far is true, and this is the first that isn't false
abbrev pub invariant-loop-literal : goal.invariant-loop-literal
invariant-loop-literal l =
    (is_met (falsified_by l.trail.entries) (take l.literal-index l.clause) ≡ false) × (first_open (falsified_by l.trail.entries) (take l.literal-index l.clause) ≡ l.first)
