-- A comparison of a text with itself is answered equal.
use Rattle.std.proofs.Common.{◌≡◌, ℕ, Bool, true, false, List, Option, Some, None, refl, sym, subst}
use Rattle.std.specs.Prelude.{IfSome, IsSomeAnd, Ok}
use Rattle.circuit_theory.specs.declared.Mode.{Mode}
use Rattle.circuit_theory.specs.declared.Mode.TheVariants.{Plain, Event}
use Rattle.obligations.specs.declared.outcome.verdict.Outcome.{Outcome}
use Rattle.obligations.specs.declared.outcome.verdict.Verdict.{Verdict}
use Rattle.obligations.specs.declared.outcome.verdict.Verdict.TheVariants as verdict
use Rattle.sec_base.specs.declared.settings.Settings.{Settings}
use Rattle.plain_check.specs.under_base.compare_base.Compared.{ByReset}
use Rattle.job_check.specs.check_meaning.Compared.{ComparedIn}
use Rattle.job_base.specs.declared.finding.Finding.{Finding}
use Rattle.job_base.specs.declared.finding.Finding.TheVariants as finding
use Rattle.job_base.specs.declared.status.StatusName.{StatusName}
use Rattle.job_base.specs.sec_files.Loading.{Loads}
use Rattle.job_base.specs.sec_files.job_files.Reading.{Held}
use Rattle.job_check.specs.check_meaning.Answer.{CanAnswer, CanAnswerWith, IsAnswer}
use Rattle.pair_texts.specs.check_texts.Texts.{AreComparable}
use Rattle.job_check.specs.check_meaning.check_found.Found.{IsAnsweredBy, IsFoundOf}
use Rattle.job_base.specs.Written.{status_of, verdict_status}
use Rattle.job_check.specs.check_meaning.check_found.Check.{Check}
use Rattle.premise_rows.specs.one_text_runs.one_text.Itself.{OfOneText, IsAlways, IsEqualAnswer}
use Rattle.premise_rows.proofs.one_text_runs.one_text.OneText.{one_text_is_equal}

-- what is said of the text that both paths of the comparison hold
abbrev pub CanMeetItself : Held → Check → Type 0
CanMeetItself held check = OfOneText held check (λ x. AreComparable x x check.settings.expose check.settings.reset)

-- the text that both paths hold
record IsHeld (held : Held) (check : Check) : Type 0 where
  pub text : List ℕ
  pub left_is : held check.left ≡ Some text
  pub right_is : held check.right ≡ Some text
  pub comparable : AreComparable text text check.settings.expose check.settings.reset

is_held : (held : Held) (check : Check) → CanMeetItself held check → IsHeld held check
is_held held check h = by (held check.left) h (λ text e. e)
  where
    by : (o : Option (List ℕ)) → IsSomeAnd o (λ x. (held check.right ≡ Some x) × AreComparable x x check.settings.expose check.settings.reset) → ((text : List ℕ) → o ≡ Some text → held check.left ≡ Some text) → IsHeld held check
    by None k is = absurd k
    by (Some text) k is = record { text = text; left_is = is text refl; right_is = k.0; comparable = k.1 }

some_held : {X : Type 0} (o : Option X) (P : X → Type 0) (x : X) → o ≡ Some x → P x → IsSomeAnd o P
some_held {X} o P x e h = let Q : Option X → Type 0 = λ p. IsSomeAnd p P in subst Q (sym e) h

if_held : {X : Type 0} (o : Option X) (P : X → Type 0) (x : X) → o ≡ Some x → IfSome o P → P x
if_held {X} o P x e h = let Q : Option X → Type 0 = λ p. IfSome p P in subst Q e h

from_always : {X : Type 0} (Y : Type 0) (reset : Bool) → reset ≡ false → ByReset reset X Y → X
from_always Y false e h = h
from_always Y true e h = absurd (cc)

-- a comparison without an assumption, in the plain mode, and over all power-ups
module _ (held : Held) (a b : List ℕ) (settings : Settings) where
  abbrev check : Check
  check = record { left = a; right = b; settings = settings; assumed = None }

  module _ (h : CanMeetItself held check) (plain : settings.mode ≡ Plain) where
    -- so both texts are told, and can be compared
    can_answer : CanAnswer held check
    can_answer =
        let x = is_held held check h in
        subst (λ (m : Mode). CanAnswerWith held check m None) (sym plain)
        (some_held (held a) (λ left. IsSomeAnd (held b) (λ right. AreComparable left right settings.expose settings.reset)) x.text x.left_is
        (some_held (held b) (λ right. AreComparable x.text right settings.expose settings.reset) x.text x.right_is x.comparable))

    checked : settings.reset ≡ false → (o : Outcome) → IsAnsweredBy held check (Ok o) → o.verdict ≡ verdict.Equal
    checked always o found =
        let x = is_held held check h in
        one_text_is_equal x.text found.a found.b (if_held (held a) (λ t. Loads t found.a) x.text x.left_is found.left_loads) (if_held (held b) (λ t. Loads t found.b) x.text x.right_is found.right_loads) settings o
        (from_always _ settings.reset always (subst (λ (m : Mode). ComparedIn m found.a found.b settings (Ok o)) plain found.said))

    found_equal : settings.reset ≡ false → (f : Finding) → IsFoundOf held check f → IsAnswer (status_of f) → IsEqualAnswer (status_of f)
    found_equal always finding.Words found is = absurd found
    found_equal always (finding.Refused r) found is = absurd is
    found_equal always (finding.Cyclic side names) found is = absurd is
    found_equal always (finding.Unpaired side names) found is = absurd is
    found_equal always (finding.Checked o s) found is = subst (λ (v : Verdict). IsEqualAnswer (verdict_status v)) (sym (checked always o found.1)) tt
    found_equal always (finding.Done report) found is = absurd found
    found_equal always (finding.Generated o report) found is = absurd found
    found_equal always (finding.Replayed differences) found is = absurd found
    found_equal always (finding.Unrefuted u) found is = absurd found
    found_equal always (finding.Judged j kept text) found is = absurd found
    found_equal always (finding.Undecided side name proof) found is = absurd found

  -- what is found of such a job
  pub check_equal : (f : Finding) (mode : Mode) (reset : Bool) → settings.mode ≡ mode → settings.reset ≡ reset → IsAlways mode reset (CanMeetItself held check) → IsFoundOf held check f →
      IsAnswer (status_of f) → IsEqualAnswer (status_of f)
  check_equal f Plain false mode_is always can found is = found_equal can mode_is always f found is
  check_equal f Plain true mode_is always can found is = absurd can
  check_equal f Event reset mode_is always can found is = absurd can

  -- a job over one text is one that is answered
  pub check_answered : (name : StatusName) (mode : Mode) (reset : Bool) → settings.mode ≡ mode → IsAlways mode reset (CanMeetItself held check) → (CanAnswer held check → IsAnswer name) → IsAnswer name
  check_answered name Plain false mode_is can complete = complete (can_answer can mode_is)
  check_answered name Plain true mode_is can complete = absurd can
  check_answered name Event reset mode_is can complete = absurd can
