-- What the status of a comparison says of the texts, and when they can be compared.
use Rattle.std.specs.Prelude.{ℕ, Bool, List, Option, Some, None, Err, IsSomeAnd}
use Rattle.circuit_theory.specs.declared.Mode.{Mode}
use Rattle.circuit_theory.specs.declared.Mode.TheVariants.{Plain, Event}
use Rattle.sec_base.specs.declared.settings.Settings.{Settings}
use Rattle.flat_net.specs.View.{NetView}
use Rattle.pair_decide.specs.declared.query.Proof.{Proof}
use Rattle.pair_decide.specs.declared.query.SameBy.{SameBy}
use Rattle.assume_laws.specs.declared.assume_shape.shape.ShapeFault.{ShapeFault}
use Rattle.job_check.specs.check_meaning.check_found.job_base.StatusName.{StatusName}
use Rattle.job_check.specs.check_meaning.check_found.job_base.StatusName.TheVariants as status
use Rattle.pair_texts.specs.check_texts.CompareError.TheVariants as compare_error
use Rattle.pair_texts.specs.check_texts.Compared.{ByReset}
use Rattle.job_check.specs.check_meaning.event_texts_under.Answered.{ComparedUnderIn}
use Rattle.job_base.specs.sec_files.Loading.{IsAccepted, Loads}
use Rattle.job_base.specs.sec_files.job_files.Reading.{Held}
use Rattle.pair_texts.specs.check_texts.Resets.{ResetsAgree, ResetsDiffer, ResetsUndecided}
use Rattle.pair_texts.specs.check_texts.Texts.{AreComparable, TextsAgree, TextsDiffer, TextsNotShown, TextsUndecided}
use Rattle.job_check.specs.check_meaning.event_texts.Texts.{AreEventComparable, EventTextsAgree, EventTextsDiffer, EventTextsNotShown, EventTextsUndecided}
use Rattle.job_check.specs.check_meaning.event_texts_under.Answers.{EqualUnderIn, DifferentUnderIn, NotShownUnderIn, LimitUnderIn}
use Rattle.job_check.specs.check_meaning.check_found.Check.{Check}
use Rattle.job_check.specs.check_meaning.check_found.Found.{OfGiven}

-- both texts can be compared in this mode
abbrev pub AreComparableIn : Mode → List ℕ → List ℕ → Settings → Type 0
AreComparableIn Plain x y settings = AreComparable x y settings.expose settings.reset
AreComparableIn Event x y settings = AreEventComparable x y settings

-- They can be compared so without the assumption, its text is accepted, and none of its refusals comes: a fault of it, or that no row of inputs
-- meets it.
pub record AreComparableUnder (mode : Mode) (x y z : List ℕ) (settings : Settings) : Type 0 where
  pub comparable : AreComparableIn mode x y settings
  pub accepted : IsAccepted z
  pub fits : (a b c : NetView) → Loads x a → Loads y b → Loads z c → (fault : ShapeFault) → ComparedUnderIn mode a b c settings (Err (compare_error.Assume fault)) → ⊥
  pub met : (a b c : NetView) → Loads x a → Loads y b → Loads z c → (by : SameBy) → ComparedUnderIn mode a b c settings (Err (compare_error.Vacuous by)) → ⊥

-- both texts are told and can be compared in this mode, with that of the assumption where there is one
abbrev pub CanAnswerWith : Held → Check → Mode → Option (List ℕ) → Type 0
CanAnswerWith held check mode None = IsSomeAnd (held check.left) (λ x. IsSomeAnd (held check.right) (λ y. AreComparableIn mode x y check.settings))
CanAnswerWith held check mode (Some path) = IsSomeAnd (held check.left) (λ x. IsSomeAnd (held check.right) (λ y. IsSomeAnd (held path) (λ z. AreComparableUnder mode x y z check.settings)))

abbrev pub CanAnswer : Held → Check → Type 0
CanAnswer held check = CanAnswerWith held check check.settings.mode check.assumed

-- a verdict, or want of memory
abbrev pub IsAnswer : StatusName → Type 0
IsAnswer status.Equal = Unit {0}
IsAnswer status.Different = Unit {0}
IsAnswer status.NotShown = Unit {0}
IsAnswer status.Limit = Unit {0}
IsAnswer status.Refused = ⊥
IsAnswer status.Words = ⊥
IsAnswer status.ReadFault = ⊥
IsAnswer status.WriteFault = ⊥
IsAnswer status.NoMemory = Unit {0}
IsAnswer status.Cyclic = ⊥
IsAnswer status.Done = ⊥

-- what is said of a comparison over all power-ups, of one from initial values, and of one in the event mode
abbrev pub InForm : Mode → Bool → Type 0 → Type 0 → Type 0 → Type 0
InForm Plain reset always from_reset events = ByReset reset always from_reset
InForm Event reset always from_reset events = events

-- What the status says of the texts that are compared, two or under an assumption three, and of what is written: a comparison makes no report
-- on circuits.
abbrev pub CheckMeans : Held → Check → Option (List ℕ) → Option (List ℕ) → List Proof → StatusName → Type 0
CheckMeans held check before now proofs status.Equal =
    OfGiven held check check.assumed (λ x y. InForm check.settings.mode check.settings.reset (TextsAgree x y check.settings before now) (ResetsAgree x y check.settings before now) (EventTextsAgree x y check.settings before now)) (λ x y z. EqualUnderIn check.settings.mode x y z check.settings before now)
CheckMeans held check before now proofs status.Different =
    OfGiven held check check.assumed (λ x y. InForm check.settings.mode check.settings.reset (TextsDiffer x y check.settings before now) (ResetsDiffer x y check.settings before now) (EventTextsDiffer x y check.settings before now)) (λ x y z. DifferentUnderIn check.settings.mode x y z check.settings before now)
CheckMeans held check before now proofs status.NotShown =
    OfGiven held check check.assumed (λ x y. InForm check.settings.mode check.settings.reset (TextsNotShown x y check.settings before now) ⊥ (EventTextsNotShown x y check.settings before now)) (λ x y z. NotShownUnderIn check.settings.mode x y z check.settings before now)
CheckMeans held check before now proofs status.Limit =
    OfGiven held check check.assumed (λ x y.
    InForm check.settings.mode check.settings.reset (TextsUndecided x y check.settings proofs before now) (ResetsUndecided x y check.settings proofs before now) (EventTextsUndecided x y check.settings proofs before now))
    (λ x y z. LimitUnderIn check.settings.mode x y z check.settings proofs before now)
CheckMeans held check before now proofs status.Done = ⊥
CheckMeans held check before now proofs other = Unit {0}

-- a comparison that can be made is answered, if no read and no write fails
abbrev pub IsCheckComplete : Held → Check → StatusName → Type 0
IsCheckComplete held check name = CanAnswer held check → IsAnswer name
