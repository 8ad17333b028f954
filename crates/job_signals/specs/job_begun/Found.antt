-- What is true of three files where their comparison by an induction over cycles finds what it does. A text is given where it is told.
use Rattle.std.specs.Prelude.{ℕ, Bool, List, Option}
use Rattle.circuit_theory.specs.declared.Side.{Side}
use Rattle.flat_net.specs.View.{NetView}
use Rattle.induct.specs.declared.induction.InductError.TheVariants as refused
use Rattle.induct.specs.Inductions.{IsRefusal}
use Rattle.job_base.specs.declared.finding.Finding.{Finding}
use Rattle.job_base.specs.declared.finding.Finding.TheVariants as finding
use Rattle.job_circuit.specs.job_replay.Replays.{OfReplay}
use Rattle.job_after.specs.Answer.{IsBegunRefusal}
use Rattle.job_signals.specs.job_begun.Judged.{IsJudged}

-- the first circuit whose inputs, latches and gates weigh too much together
abbrev pub IsHeavy : NetView → NetView → Side → Type 0
IsHeavy l r side = IsRefusal l r (refused.TooLarge side)

-- what is found of three files
abbrev pub IsBegunFound : Bool → ℕ → Option (List ℕ) → Option (List ℕ) → Option (List ℕ) → Finding → Type 0
IsBegunFound signals conflicts left right stimulus (finding.Refused r) = IsBegunRefusal IsHeavy left right stimulus r
IsBegunFound signals conflicts left right stimulus (finding.Judged j proofs text) = OfReplay left right stimulus (λ a b names rows. IsJudged signals conflicts a b names rows j proofs text)
IsBegunFound signals conflicts left right stimulus other = ⊥
