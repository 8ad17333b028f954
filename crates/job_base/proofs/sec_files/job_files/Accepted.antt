-- Texts that are accepted, and texts that spell a stimulus, are not refused.
use Rattle.std.specs.Prelude.{IfSome}
use Rattle.std.proofs.Common.{◌≡◌, ℕ, Bool, List, refl, sym, ◌∙◌, subst, arith, Option, Some}
use Rattle.std.proofs.lemmas.Option.{none-some}
use Rattle.blif_read.specs.declared.error.ReadKind.{ReadKind}
use Rattle.elaborate.specs.declared.error.FlatError.{FlatError}
use Rattle.witness_report.specs.Form.{IsForm, HasNoHeader, IsBadRow}
use Rattle.witness_report.proofs.Forms.{form_lines, one_form, no_bad_line}
use Rattle.aiger_read.specs.declared.aiger_records.error.AigerKind.{AigerKind}
use Rattle.job_base.specs.sec_files.Formats.{Format, Blif, Aiger, format_of, IsReadIn, IsSoundIn}
use Rattle.job_base.specs.sec_files.Loading.{IsAccepted, IsTooLong, HasFault, HasDesignFault, HasRecordFault}
use Rattle.job_base.specs.sec_files.Stimuli.{IsStimulus, HasBadHeader, HasBadRow}
use Rattle.job_base.proofs.sec_files.job_files.Reading.{if_told}
use Rattle.job_base.proofs.sec_files.job_files.RecordFaults.{no_record_fault}

-- a form has a header and no bad row, and a text is the form of one stimulus alone
pub has_header : (text : List ℕ) (names : List (List ℕ)) (rows : List (List Bool)) → IsForm text names rows → HasNoHeader text → ⊥
has_header text names rows form none = none names _ form.names_are (form_lines names rows form.names_are text form.spelled)

pub no_bad_row : (text : List ℕ) (names : List (List ℕ)) (rows : List (List Bool)) (line : ℕ) → IsForm text names rows → IsBadRow text line → ⊥
no_bad_row text names rows line form bad =
    no_bad_line text bad.names names _ rows line bad.names_are bad.lines form (record { rows = bad.rows; line = bad.line; more = bad.more; lines_are = refl; rows_are = bad.rows_are; faulty = bad.faulty; place = bad.place })

pub same_names : (text : List ℕ) (names others : List (List ℕ)) (rows more : List (List Bool)) → IsForm text names rows → IsForm text others more → names ≡ others
same_names text names others rows more form another =
    let one = one_form text names others rows more form.names_are form.rows_are (form_lines names rows form.names_are text form.spelled) another in one.0

-- an accepted text has no fault
module _ (x : List ℕ) (accepted : IsAccepted x) where
  pub is_short : IsTooLong x → ⊥
  is_short long = omega (arith, accepted.short)

  read_in : (format : Format) → format_of x ≡ format → IsReadIn format x
  read_in format is = subst (λ (f : Format). IsReadIn f x) is accepted.faultless

  sound_in : (format : Format) → format_of x ≡ format → IsSoundIn format x
  sound_in format is = subst (λ (f : Format). IsSoundIn f x) is accepted.sound

  pub has_no_fault : (line : ℕ) (kind : ReadKind) → HasFault x line kind → ⊥
  has_no_fault line kind h = none-some _ (sym (read_in Blif h.0.1) ∙ h.1)

  pub is_sound : (fault : FlatError) → HasDesignFault x fault → ⊥
  is_sound fault h = sound_in Blif h.0.1 fault h.2

  pub has_good_records : (place : ℕ) (kind : AigerKind) → HasRecordFault x place kind → ⊥
  has_good_records place kind h = no_record_fault x (read_in Aiger h.0.1) (sound_in Aiger h.0.1) h.1

-- so it is not refused
module _ (text : Option (List ℕ)) (x : List ℕ) (is : text ≡ Some x) (accepted : IsAccepted x) where
  pub not_long : IfSome text IsTooLong → ⊥
  not_long h = is_short x accepted (if_told text IsTooLong x is h)

  pub not_faulty : (line : ℕ) (kind : ReadKind) → IfSome text (λ t. HasFault t line kind) → ⊥
  not_faulty line kind h = has_no_fault x accepted line kind (if_told text (λ t. HasFault t line kind) x is h)

  pub not_unsound : (fault : FlatError) → IfSome text (λ t. HasDesignFault t fault) → ⊥
  not_unsound fault h = is_sound x accepted fault (if_told text (λ t. HasDesignFault t fault) x is h)

  pub not_misread : (place : ℕ) (kind : AigerKind) → IfSome text (λ t. HasRecordFault t place kind) → ⊥
  not_misread place kind h = has_good_records x accepted place kind (if_told text (λ t. HasRecordFault t place kind) x is h)

-- nor is a stimulus
module _ (text : Option (List ℕ)) (z : List ℕ) (told : text ≡ Some z) (names : List (List ℕ)) (rows : List (List Bool)) (stimulus : IsStimulus z names rows) where
  pub no_long_stimulus : IfSome text IsTooLong → ⊥
  no_long_stimulus h = let long : IsTooLong z = if_told text IsTooLong z told h in omega (arith, stimulus.short)

  pub not_headless : (line : ℕ) → IfSome text (λ t. HasBadHeader t line) → ⊥
  not_headless line h = has_header z names rows stimulus.form (if_told text (λ t. HasBadHeader t line) z told h).no_header

  pub no_row_refused : (line : ℕ) → IfSome text (λ t. HasBadRow t line) → ⊥
  no_row_refused line h = no_bad_row z names rows line stimulus.form (if_told text (λ t. HasBadRow t line) z told h).bad_row
