-- A text that is no stimulus, and how many rows one has.
use Rattle.std.proofs.Common.{◌≡◌, ℕ, ◌≤◌, length, Bool, List, map, refl, subst, Some}
use Rattle.std.proofs.lemmas.List.{length-map}
use Rattle.witness_report.specs.declared.error.StimError.{StimError}
use Rattle.witness_report.specs.declared.error.StimError.TheVariants as stim_error
use Rattle.witness_report.specs.Form.{IsForm, HasNoHeader, IsBadRow}
use Rattle.witness_report.specs.Text.{row_text}
use Rattle.witness_report.proofs.Forms.{form_lines, few_lines}
use Rattle.job_base.specs.sec_files.Stimuli.{StimulusFails}
use Rattle.job_base.specs.declared.sec_files.stimuli.StimulusError.TheVariants as stimulus_error

-- the text is no stimulus
pub text_ends : (text : List ℕ) (error : StimError) → length text ≤ 16777216 → ((n : ℕ) → error ≡ stim_error.BadHeader n → (n ≡ 1) × HasNoHeader text) → ((n : ℕ) → error ≡ stim_error.BadRow n → IsBadRow text n) →
    StimulusFails (Some text) ⊥ (stimulus_error.Read error)
text_ends text (stim_error.BadHeader line) short header row = let h = header line refl in record { short = short; first = h.0; no_header = h.1 }
text_ends text (stim_error.BadRow line) short header row = record { short = short; bad_row = row line refl }
text_ends text stim_error.NoMemory short header row = tt

-- a text has no more rows than bytes
pub few_rows : (text : List ℕ) (names : List (List ℕ)) (rows : List (List Bool)) → IsForm text names rows → length rows ≤ length text
few_rows text names rows form =
    let few = few_lines text _ (map row_text rows) (form_lines names rows form.names_are text form.spelled) in
    subst (λ (n : ℕ). n ≤ length text) (length-map rows row_text) few
