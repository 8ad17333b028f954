-- What each answer of a comparison under an assumption means for the three texts, in the plain mode and in the event mode.
use Rattle.std.specs.Prelude.{◌⊎◌, ℕ, List, Option}
use Rattle.circuit_theory.specs.declared.Mode.{Mode}
use Rattle.circuit_theory.specs.declared.Mode.TheVariants.{Plain, Event}
use Rattle.sec_base.specs.declared.settings.Settings.{Settings}
use Rattle.pair_decide.specs.declared.query.Proof.{Proof}
use Rattle.pair_texts.specs.assume_texts.Answers.{EqualUnder, DifferentUnder, NotShownUnder, LimitUnder}
use Rattle.pair_texts.specs.assume_texts.Texts.{AssumptionUndecided}
use Rattle.job_check.specs.check_meaning.event_texts_under.Texts.{EventTextsAgreeUnder, EventTextsDifferUnder, EventTextsNotShownUnder, EventTextsUndecidedUnder}

abbrev pub EqualUnderIn : Mode → List ℕ → List ℕ → List ℕ → Settings → Option (List ℕ) → Option (List ℕ) → Type 0
EqualUnderIn Plain x y z settings before now = EqualUnder x y z settings before now
EqualUnderIn Event x y z settings before now = EventTextsAgreeUnder x y z settings before now

abbrev pub DifferentUnderIn : Mode → List ℕ → List ℕ → List ℕ → Settings → Option (List ℕ) → Option (List ℕ) → Type 0
DifferentUnderIn Plain x y z settings before now = DifferentUnder x y z settings before now
DifferentUnderIn Event x y z settings before now = EventTextsDifferUnder x y z settings before now

abbrev pub NotShownUnderIn : Mode → List ℕ → List ℕ → List ℕ → Settings → Option (List ℕ) → Option (List ℕ) → Type 0
NotShownUnderIn Plain x y z settings before now = NotShownUnder x y z settings before now
NotShownUnderIn Event x y z settings before now = EventTextsNotShownUnder x y z settings before now

-- the limit was met at the assumption; or in the event mode at a latch or a class, which are asked about without it; or at a pair
abbrev pub LimitUnderIn : Mode → List ℕ → List ℕ → List ℕ → Settings → List Proof → Option (List ℕ) → Option (List ℕ) → Type 0
LimitUnderIn Plain x y z settings proofs before now = LimitUnder x y z settings proofs before now
LimitUnderIn Event x y z settings proofs before now = AssumptionUndecided x y z settings proofs before now ⊎ EventTextsUndecidedUnder x y z settings proofs before now
