-- A sequence that goes on as one that was found under the assumption meets the assumption there.
use Rattle.std.proofs.Common.{◌≡◌, ◌∙◌, ℕ, suc, ◌+◌, ◌-◌, ◌≤◌, Bool, List, [], ◌∷◌, ◌++◌, map, length, refl, sym, ap, subst, arith, Option, Some, None, slice_get}
use Rattle.std.specs.Prelude.{IfSome}
use Rattle.std.specs.List.{Contains}
use Rattle.std.proofs.lemmas.List.{append-nil}
use Rattle.circuit_theory.specs.Interface.{shared_inputs}
use Rattle.circuit_theory.specs.Query.{assigned, same_shift}
use Rattle.circuit_theory.specs.Sequence.{row_value}
use Rattle.circuit_laws.proofs.Windows.{rows_length}
use Rattle.base_tables.specs.Table.{AreDistinct}
use Rattle.flat_net.specs.declared.parts.Port.{Port}
use Rattle.flat_net.specs.View.{NetView, circuit_of, ports_of}
use Rattle.obligations.specs.declared.outcome.verdict.ResetWitness.{ResetWitness}
use Rattle.sec_setup.specs.ports.Pairs.{named_pairs}
use Rattle.witness_report.specs.declared.witness.Witness.{Witness}
use Rattle.assume_queries.specs.assume_sequences.assume_taken.Taken.{assumed_by}
use Rattle.pair_texts.specs.assume_texts.Meets.{SequenceMeetsCircuit}
use Rattle.pair_texts.proofs.assume_texts.Sequences.{sequence_meets}
use Rattle.cycle_search.specs.declared.found.Searched.{Searched}
use Rattle.cycle_search.specs.declared.found.SearchVerdict.{SearchVerdict}
use Rattle.cycle_search.specs.declared.found.SearchVerdict.TheVariants as verdict
use Rattle.cycle_under.specs.Cycles.{IsDifferenceUnder}
use Rattle.cycle_under.specs.Searches.{VerdictFitsUnder, AreSearchedUnder}
use Rattle.restart.specs.Sequence.{IsShownBehind, GoesOnAs}
use Rattle.restart.proofs.Again.{shown_again}
use Rattle.restart.specs.Behind.{begun}
use Rattle.job_after.specs.Judged.{GoesOnAsFound}
use Rattle.job_under.proofs.Says.{names_are, differ}
use Rattle.job_after.specs.Shown.{IsShownBy}
use Rattle.job_after_under.specs.Judged.{IsShownUnder, GoesOnMeeting}
use Rattle.job_after_under.specs.Runs.{SequenceMeetsFrom}

-- what stands behind so many rows
value_behind : (front rows : List (List Bool)) (i k : ℕ) → row_value (front ++ rows) i (length front + k) ≡ row_value rows i k
value_behind [] rows i k = ap (row_value rows i) (let e : 0 + k ≡ k = omega arith in e)
value_behind (x ∷ front) rows i k = ap (row_value (x ∷ (front ++ rows)) i) (let e : suc (length front) + k ≡ suc (length front + k) = omega arith in e) ∙ value_behind front rows i k

module _ (a b c : NetView) (cycles conflicts : ℕ) (s : Searched) (is : AreSearchedUnder a b c cycles conflicts s) (distinct : AreDistinct (map (λ (p : Port). p.name) b.outputs)) where
  -- the sequence that was found has a row for each cycle up to the last
  long : (found : ResetWitness) → s.verdict ≡ verdict.Different found → length found.witness.stimulus.rows ≡ found.witness.cycle + 1
  long found e =
      let listed = named_pairs [] (circuit_of a) (circuit_of b) in
      let f : IsDifferenceUnder (assumed_by is.assumed) is.numbers s.last listed s.pairs found = subst (VerdictFitsUnder (assumed_by is.assumed) is.assumed.weight is.numbers a b cycles s.last listed s.pairs) e is.found.verdict_is in
      ap length f.shown.witness.rows_are
      ∙ (rows_length s.last (λ i k. assigned same_shift f.shown.witness.variables f.shown.witness.bits i (s.last - k)) (length is.numbers.columns) 0 (suc s.last) ∙ (let k = f.shown.cycle_is in let q : suc s.last ≡ found.witness.cycle + 1 = omega (arith, k) in q))

  meets_behind : (count : ℕ) (found : ResetWitness) → s.verdict ≡ verdict.Different found → (w : Witness) → GoesOnAs count found.witness.stimulus w → SequenceMeetsFrom count (circuit_of c) w.stimulus w.cycle
  meets_behind count found e w on t from to v holds given name o output =
      met (t - count) (let size = long found e in let last = on.cycle_is in omega (arith, from, to, size, last)) v holds
      (λ i m r at input. given i m r (ap (λ (ns : List (List ℕ)). slice_get ns i) on.names_are ∙ at) input ∙ value i) name o output
    where
      met : SequenceMeetsCircuit (circuit_of c) found.witness.stimulus found.witness.cycle
      met = sequence_meets (shared_inputs (ports_of a) (ports_of b)) c is.assumed [] found.witness.stimulus (names_are a b c cycles conflicts s is found e ∙ sym (append-nil (shared_inputs (ports_of a) (ports_of b)))) found.witness.cycle
          (differ a b c cycles conflicts s is distinct found e).1

      value : (i : ℕ) → row_value w.stimulus.rows i t ≡ row_value found.witness.stimulus.rows i (t - count)
      value i =
          ap (λ (rows : List (List Bool)). row_value rows i t) on.rows_are.are
          ∙ (ap (row_value (on.rows_are.front ++ found.witness.stimulus.rows) i) (let size = on.rows_are.counted in let q : t ≡ length on.rows_are.front + (t - count) = omega (arith, from, size) in q)
          ∙ value_behind on.rows_are.front found.witness.stimulus.rows i (t - count))

  -- so does each sequence that goes on as what was found
  pub goes_on_meeting : GoesOnMeeting (circuit_of c) s
  goes_on_meeting count w on = by s.verdict refl on
    where
      by : (v : SearchVerdict) → s.verdict ≡ v → GoesOnAsFound count v w → SequenceMeetsFrom count (circuit_of c) w.stimulus w.cycle
      by verdict.Equal e k = absurd k
      by (verdict.NoDifference stopped) e k = absurd k
      by (verdict.Different found) e k = meets_behind count found e w k
      by (verdict.Limit name) e k = absurd k

-- what is shown by a sequence that goes on so is shown under the assumption
pub shown_under : (a b c : NetView) (names : List (List ℕ)) (rows : List (List Bool)) (shown : Option Witness) → IfSome shown (IsShownBy (GoesOnMeeting (circuit_of c)) a b names rows) → IfSome shown (IsShownUnder a b c names rows)
shown_under a b c names rows None h = tt
shown_under a b c names rows (Some w) h = record { shown = h.shown; meets = h.finds (length rows) w h.goes_on }

-- what is shown of nets with other initial values is shown of the nets
pub shown_before : (a b c l r : NetView) (left right : List (Option Bool)) (names : List (List ℕ)) (rows : List (List Bool)) (shown : Option Witness) → l ≡ begun a left → r ≡ begun b right →
    IfSome shown (IsShownUnder l r c names rows) → IfSome shown (IsShownUnder a b c names rows)
shown_before a b c l r left right names rows None left_is right_is told = tt
shown_before a b c l r left right names rows (Some w) left_is right_is told = record {
  shown = shown_again a b left right names rows w
      (subst (λ (n : NetView). IsShownBehind n (begun b right) names rows w) left_is (subst (λ (n : NetView). IsShownBehind l n names rows w) right_is told.shown));
  meets = told.meets;
}
