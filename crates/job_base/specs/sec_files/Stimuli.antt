-- What a text says as a stimulus, and why it is none. A text is given where it is told.
use Rattle.std.specs.Prelude.{◌≡◌, ◌≤◌, ℕ, Bool, List, length, Option, IfSome}
use Rattle.sec_base.specs.declared.limits.TheConstants.{MAX_FILE_BYTES}
use Rattle.base_shelves.specs.declared.whole_file.FetchError.TheVariants as fetch_error
use Rattle.witness_report.specs.declared.error.StimError.TheVariants as stim_error
use Rattle.witness_report.specs.Form.{IsForm, HasNoHeader, IsBadRow}
use Rattle.job_base.specs.sec_files.Loading.{IsTooLong}
use Rattle.job_base.specs.declared.sec_files.stimuli.StimulusError.{StimulusError}
use Rattle.job_base.specs.declared.sec_files.stimuli.StimulusError.TheVariants as stimulus_error

-- the text, of at most 16,777,216 bytes, is the form of these names and rows
pub record IsStimulus (text : List ℕ) (names : List (List ℕ)) (rows : List (List Bool)) : Type 0 where
  pub short : length text ≤ MAX_FILE_BYTES
  pub form : IsForm text names rows

-- the text, of at most 16,777,216 bytes, has a first line that is no header
pub record HasBadHeader (text : List ℕ) (line : ℕ) : Type 0 where
  pub short : length text ≤ MAX_FILE_BYTES
  pub first : line ≡ 1
  pub no_header : HasNoHeader text

-- the text, of at most 16,777,216 bytes, has a header, and this line is the first that is no row
pub record HasBadRow (text : List ℕ) (line : ℕ) : Type 0 where
  pub short : length text ≤ MAX_FILE_BYTES
  pub bad_row : IsBadRow text line

-- what is true where the stimulus of a path isn't loaded: `stimulus` is what is held there, `rose` that its count of faults rose
abbrev pub StimulusFails : Option (List ℕ) → Type 0 → StimulusError → Type 0
StimulusFails stimulus rose (stimulus_error.Fetch fetch_error.Failed) = rose
StimulusFails stimulus rose (stimulus_error.Fetch fetch_error.TooLong) = IfSome stimulus IsTooLong
StimulusFails stimulus rose (stimulus_error.Fetch fetch_error.NoMemory) = Unit {0}
StimulusFails stimulus rose (stimulus_error.Read (stim_error.BadHeader line)) = IfSome stimulus (λ y. HasBadHeader y line)
StimulusFails stimulus rose (stimulus_error.Read (stim_error.BadRow line)) = IfSome stimulus (λ y. HasBadRow y line)
StimulusFails stimulus rose (stimulus_error.Read stim_error.NoMemory) = Unit {0}
