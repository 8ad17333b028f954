-- What stands before the verdict of a report.
use Rattle.std.proofs.Common.{◌≡◌, ◌∙◌, ◌+◌, ℕ, true, cond, List, [], ◌∷◌, ◌++◌, length, take, drop, refl, sym, ap, arith, length-append, Option, Some, None, option_map}
use Rattle.std.specs.Prelude.{codes, ◌==◌}
use Rattle.std.specs.Fmt.{decimal}
use Rattle.witness_report.specs.declared.witness.PairName.{PairName}
use Rattle.std.specs.List.{flat_map}
use Rattle.std.proofs.lemmas.List.{append-nil, append_assoc}
use Rattle.std.proofs.Math.Seq.{drop-append_seam}
use Rattle.circuit_theory.proofs.Inputs.{test_same}
use Rattle.circuit_theory.specs.declared.Mode.{Mode}
use Rattle.circuit_theory.specs.declared.Mode.TheVariants.{Event}
use Rattle.sec_base.specs.declared.settings.Settings.{Settings}
use Rattle.obligations.specs.declared.outcome.verdict.LimitAt.TheVariants as limit_at
use Rattle.obligations.specs.declared.outcome.verdict.Outcome.{Outcome}
use Rattle.obligations.specs.declared.outcome.verdict.Verdict.{Verdict}
use Rattle.obligations.specs.declared.outcome.verdict.Verdict.TheVariants as verdict
use Rattle.obligations.specs.outcome.Report.{knows_exposed, knows_pairs, counts_text, reset_line, assume_line, exposed_line, classes_line, pairs_text, through_line, pair_line, pair_text, report_text, verdict_text}
use Rattle.event_settles.specs.declared.cares.PairCare.{PairCare}
use Rattle.job_settles.specs.Report.{care_line, idle_text, equal_by, equal_text, first_limit, first_never, front_text, settles_text, settles_verdict}

-- the report is that and the verdict
pub report_parts : (settings : Settings) (o : Outcome) → report_text settings o ≡ front_text settings o ++ verdict_text settings.conflicts o.verdict
report_parts settings o = simp append_assoc

-- where pairs were asked about it is known what is exposed
exposed_known : (v : Verdict) → knows_pairs v ≡ true → knows_exposed v ≡ true
exposed_known verdict.Equal e = refl
exposed_known (verdict.Different w) e = refl
exposed_known (verdict.DifferentFrom w) e = refl
exposed_known (verdict.NotShown reason) e = refl
exposed_known (verdict.Limit (limit_at.Assume proof)) e = absurd (cc)
exposed_known (verdict.Limit (limit_at.Recover side name proof)) e = absurd (cc)
exposed_known (verdict.Limit (limit_at.Class side name other proof)) e = absurd (cc)
exposed_known (verdict.Limit (limit_at.Pair name)) e = refl

-- in the event mode what stands there is the same whatever the verdict is
pub front_same : (settings : Settings) (o : Outcome) → settings.mode ≡ Event → knows_pairs o.verdict ≡ true → front_text settings (record o { verdict = verdict.Equal }) ≡ front_text settings o
front_same settings o event known =
    ap (λ b. counts_text o ++ reset_line settings.reset ++ assume_line o.assumed ++ cond b (exposed_line o.exposed) [] ++ pairs_text settings.mode (record o { verdict = verdict.Equal })) (sym (exposed_known o.verdict known))
    ∙ (ap (λ b. counts_text o ++ reset_line settings.reset ++ assume_line o.assumed ++ cond (knows_exposed o.verdict) (exposed_line o.exposed) [] ++ cond b (pairs_text settings.mode (record o { verdict = verdict.Equal })) []) (sym known)
    ∙ ap (λ (text : List ℕ). counts_text o ++ reset_line settings.reset ++ assume_line o.assumed ++ cond (knows_exposed o.verdict) (exposed_line o.exposed) [] ++ cond (knows_pairs o.verdict) text []) pairs_same)
  where
    pairs_same : pairs_text settings.mode (record o { verdict = verdict.Equal }) ≡ pairs_text settings.mode o
    pairs_same = ap (λ (m : Mode). classes_line settings.mode o.classes ++ flat_map (pair_line settings.mode) o.pairs ++ through_line m (record o { verdict = verdict.Equal })) event ∙ ap (λ (m : Mode). classes_line settings.mode o.classes ++ flat_map (pair_line settings.mode) o.pairs ++ through_line m o) (sym event)

-- and as long as the report of an equal verdict but for its last line
pub front_long : (settings : Settings) (o : Outcome) → settings.mode ≡ Event → knows_pairs o.verdict ≡ true → length (report_text settings (record o { verdict = verdict.Equal })) ≡ length (front_text settings o) + 14
front_long settings o event known =
    ap (λ (t : List ℕ). length t) (report_parts settings (record o { verdict = verdict.Equal }) ∙ ap (λ (t : List ℕ). t ++ verdict_text settings.conflicts verdict.Equal) (front_same settings o event known))
    ∙ length-append (front_text settings o) (verdict_text settings.conflicts verdict.Equal)

-- without cares it is the report
pub no_cares : (settings : Settings) (o : Outcome) (cares : List PairCare) → cares ≡ [] → report_text settings o ≡ settles_text settings o cares
no_cares settings o cares none =
    report_parts settings o ∙ (same o.verdict (front_text settings o) ∙ ap (λ (cs : List PairCare). front_text settings o ++ flat_map care_line cs ++ idle_text cs ++ settles_verdict settings.conflicts o.verdict cs) (sym none))
  where
    same : (v : Verdict) (front : List ℕ) → front ++ verdict_text settings.conflicts v ≡ front ++ flat_map care_line [] ++ idle_text [] ++ settles_verdict settings.conflicts v []
    same verdict.Equal front = ap (λ (t : List ℕ). t ++ verdict_text settings.conflicts verdict.Equal) (sym (append-nil (front ++ []) ∙ append-nil front))
    same (verdict.Different w) front = ap (λ (t : List ℕ). t ++ verdict_text settings.conflicts (verdict.Different w)) (sym (append-nil (front ++ []) ∙ append-nil front))
    same (verdict.DifferentFrom w) front = ap (λ (t : List ℕ). t ++ verdict_text settings.conflicts (verdict.DifferentFrom w)) (sym (append-nil (front ++ []) ∙ append-nil front))
    same (verdict.NotShown reason) front = ap (λ (t : List ℕ). t ++ verdict_text settings.conflicts (verdict.NotShown reason)) (sym (append-nil (front ++ []) ∙ append-nil front))
    same (verdict.Limit at) front = ap (λ (t : List ℕ). t ++ verdict_text settings.conflicts (verdict.Limit at)) (sym (append-nil (front ++ []) ∙ append-nil front))

pub front_of : (settings : Settings) (o : Outcome) (n : ℕ) (whole : List ℕ) → whole ≡ report_text settings o → n ≡ length (front_text settings o) → take n whole ≡ front_text settings o
front_of settings o n whole is long = rw (is, long) (ap (take (length (front_text settings o))) (report_parts settings o) ∙ take-seam (front_text settings o) (verdict_text settings.conflicts o.verdict))
  where
    take-seam : (xs ys : List ℕ) → take (length xs) (xs ++ ys) ≡ xs
    take-seam [] ys = refl
    take-seam (x ∷ xs) ys = ap (λ (zs : List ℕ). x ∷ zs) (take-seam xs ys)

pub rest_of : (settings : Settings) (o : Outcome) (n : ℕ) (whole : List ℕ) → whole ≡ report_text settings o → n ≡ length (front_text settings o) → drop n whole ≡ verdict_text settings.conflicts o.verdict
rest_of settings o n whole is long = rw (is, long) (ap (drop (length (front_text settings o))) (report_parts settings o) ∙ drop-append_seam (front_text settings o) (verdict_text settings.conflicts o.verdict))

-- the report in its parts
pub whole_text : (settings : Settings) (o : Outcome) (cares : List PairCare) (whole x y t z : List ℕ) (n : ℕ) → whole ≡ report_text settings o → n ≡ length (front_text settings o) → x ≡ take n whole → y ≡ x ++ flat_map care_line cares → t ≡ y ++ idle_text cares → z ≡ t ++ settles_verdict settings.conflicts o.verdict cares →
    z ≡ settles_text settings o cares
whole_text settings o cares whole x y t z n is long first second idle third =
    third ∙ ap (λ (l : List ℕ). l ++ settles_verdict settings.conflicts o.verdict cares) (idle ∙ ap (λ (l : List ℕ). l ++ idle_text cares) (second ∙ ap (λ (l : List ℕ). l ++ flat_map care_line cares) (first ∙ front_of settings o n whole is long)))

-- no pair
pub no_length : {X : Type 0} (xs : List X) → true ≡ (length xs == 0) → xs ≡ []
no_length [] e = refl
no_length (x ∷ xs) e = let z = test_same (length (x ∷ xs)) 0 (sym e) in absurd (omega (arith, z))

-- nothing of what isn't there
pub nothing : {X Y : Type 0} (f : X → Y) (o : Option X) → o ≡ None → option_map f o ≡ None
nothing f o e = ap (option_map f) e

-- the line of the first pair of which it isn't known
pub limit_line : (conflicts : ℕ) (cares : List PairCare) (name : PairName) (t x y z w v : List ℕ) → first_never cares ≡ None → first_limit cares ≡ Some name → x ≡ t ++ codes "verdict limit settles " → y ≡ x ++ pair_text name → z ≡ y ++ codes " conflicts " → w ≡ z ++ decimal conflicts → v ≡ w ++ 10 ∷ [] →
    v ≡ t ++ equal_text conflicts cares
limit_line conflicts cares name t x y z w v none some first second third fourth fifth =
    fifth ∙ ap (λ (l : List ℕ). l ++ 10 ∷ []) (fourth ∙ ap (λ (l : List ℕ). l ++ decimal conflicts) (third ∙ ap (λ (l : List ℕ). l ++ codes " conflicts ") (second ∙ ap (λ (l : List ℕ). l ++ pair_text name) first)))
    ∙ (pieces ∙ ap (λ (l : List ℕ). t ++ l) (ap (λ (o : Option PairName). equal_by conflicts o (Some name)) (sym none) ∙ ap (equal_by conflicts (first_never cares)) (sym some)))
  where
    pieces : ((((t ++ codes "verdict limit settles ") ++ pair_text name) ++ codes " conflicts ") ++ decimal conflicts) ++ 10 ∷ [] ≡ t ++ (codes "verdict limit settles " ++ pair_text name ++ codes " conflicts " ++ decimal conflicts ++ 10 ∷ [])
    pieces = simp append_assoc
