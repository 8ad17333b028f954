-- The text of the report of a comparison with the cares of its pairs, and what it says.
use Rattle.std.specs.Prelude.{ℕ, Bool, true, false, List, [], ◌∷◌, ◌++◌, codes, find, option_to_list, if◌then◌else◌, Option, option_map, Some, None}
use Rattle.std.specs.Fmt.{decimal}
use Rattle.std.specs.List.{filter_map, flat_map}
use Rattle.sec_base.specs.declared.settings.Settings.{Settings}
use Rattle.witness_report.specs.declared.witness.PairName.{PairName}
use Rattle.obligations.specs.outcome.Proof.{Proof}
use Rattle.obligations.specs.declared.outcome.verdict.Outcome.{Outcome}
use Rattle.obligations.specs.declared.outcome.verdict.Verdict.{Verdict}
use Rattle.obligations.specs.declared.outcome.verdict.Verdict.TheVariants as verdict
use Rattle.obligations.specs.outcome.Report.{latch_text, pair_text, counts_text, reset_line, assume_line, exposed_line, pairs_text, knows_exposed, knows_pairs, verdict_text}
use Rattle.event_settles.specs.declared.cares.Care.{Care}
use Rattle.event_settles.specs.declared.cares.Care.TheVariants as care
use Rattle.event_settles.specs.declared.cares.IdleLatch.{IdleLatch}
use Rattle.event_settles.specs.declared.cares.PairCare.{PairCare}
use Rattle.job_base.specs.Written.{outcome_proofs}
use Rattle.job_base.specs.declared.finding.Judgement.{Judgement}
use Rattle.job_base.specs.declared.finding.Judgement.TheVariants as judgement

-- a line of a pair
abbrev pub named_line : List ℕ → PairName → List ℕ
named_line front name = front ++ pair_text name ++ 10 ∷ []

-- the line of a pair that has no care, and of one of which it isn't known
abbrev pub line_of : Care → PairName → List ℕ
line_of care.Met name = []
line_of (care.Never idle) name = named_line (codes "never ") name
line_of (care.Limit proof) name = named_line (codes "undecided ") name

abbrev pub care_line : PairCare → List ℕ
care_line c = line_of c.care c.name

-- the latch that stands with a pair without care, if any
abbrev pub idle_with : Care → Option IdleLatch
idle_with care.Met = None
idle_with (care.Never idle) = idle
idle_with (care.Limit proof) = None

abbrev pub or_later : Option IdleLatch → Option IdleLatch → Option IdleLatch
or_later None later = later
or_later (Some x) later = Some x

-- the first one of several pairs
abbrev pub first_idle : List PairCare → Option IdleLatch
first_idle [] = None
first_idle (c ∷ cares) = or_later (idle_with c.care) (first_idle cares)

-- the line of the first latch of a class whose loads can't happen
abbrev pub idle_line : IdleLatch → List ℕ
idle_line x = codes "load " ++ latch_text x.side x.name ++ codes " never" ++ 10 ∷ []

-- It stands once, however many pairs have no care.
abbrev pub idle_text : List PairCare → List ℕ
idle_text cares = flat_map idle_line (option_to_list (first_idle cares))

-- no frame has care for the pair
abbrev pub is_never : PairCare → Bool
is_never c = by c.care
  where
    by : Care → Bool
    by care.Met = false
    by (care.Never idle) = true
    by (care.Limit proof) = false

-- it isn't known whether one has
abbrev pub is_limit : PairCare → Bool
is_limit c = by c.care
  where
    by : Care → Bool
    by care.Met = false
    by (care.Never idle) = false
    by (care.Limit proof) = true

-- the name of the first such pair
abbrev pub first_where : (PairCare → Bool) → List PairCare → Option PairName
first_where test cares = option_map (λ (c : PairCare). c.name) (find test cares)

abbrev pub first_never : List PairCare → Option PairName
first_never cares = first_where is_never cares

abbrev pub first_limit : List PairCare → Option PairName
first_limit cares = first_where is_limit cares

-- the verdict where all pairs are equal
abbrev pub equal_by : ℕ → Option PairName → Option PairName → List ℕ
equal_by conflicts (Some name) limit = named_line (codes "verdict not-shown never ") name
equal_by conflicts None (Some name) = codes "verdict limit settles " ++ pair_text name ++ codes " conflicts " ++ decimal conflicts ++ 10 ∷ []
equal_by conflicts None None = verdict_text conflicts verdict.Equal

abbrev pub equal_text : ℕ → List PairCare → List ℕ
equal_text conflicts cares = equal_by conflicts (first_never cares) (first_limit cares)

-- the verdict
abbrev pub settles_verdict : ℕ → Verdict → List PairCare → List ℕ
settles_verdict conflicts verdict.Equal cares = equal_text conflicts cares
settles_verdict conflicts other cares = verdict_text conflicts other

-- what stands before the verdict
abbrev pub front_text : Settings → Outcome → List ℕ
front_text settings o =
    counts_text o ++ reset_line settings.reset ++ assume_line o.assumed
    ++ (if knows_exposed o.verdict then exposed_line o.exposed else [])
    ++ (if knows_pairs o.verdict then pairs_text settings.mode o else [])

-- the whole report
abbrev pub settles_text : Settings → Outcome → List PairCare → List ℕ
settles_text settings o cares = front_text settings o ++ flat_map care_line cares ++ idle_text cares ++ settles_verdict settings.conflicts o.verdict cares

-- what it says where all pairs are equal
abbrev pub judged_by : Option PairName → Option PairName → Judgement
judged_by (Some name) limit = judgement.NotShown
judged_by None (Some name) = judgement.Limit
judged_by None None = judgement.Equal

abbrev pub equal_judgement : List PairCare → Judgement
equal_judgement cares = judged_by (first_never cares) (first_limit cares)

-- what it says of the circuits
abbrev pub settles_judgement : Verdict → List PairCare → Judgement
settles_judgement verdict.Equal cares = equal_judgement cares
settles_judgement (verdict.Different w) cares = judgement.Different
settles_judgement (verdict.DifferentFrom w) cares = judgement.Different
settles_judgement (verdict.NotShown reason) cares = judgement.NotShown
settles_judgement (verdict.Limit at) cares = judgement.Limit

-- the proof of a care that met the limit
abbrev pub proof_of : Care → Option Proof
proof_of care.Met = None
proof_of (care.Never idle) = None
proof_of (care.Limit proof) = Some proof

abbrev pub care_proof : PairCare → Option Proof
care_proof c = proof_of c.care

-- those of the outcome, and then those of the cares
abbrev pub settles_proofs : Outcome → List PairCare → List Proof
settles_proofs o cares = outcome_proofs o ++ filter_map care_proof cares
