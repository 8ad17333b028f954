-- A stimulus and power words that fit two latches in a row.
use Rattle.std.proofs.Common.{◌≡◌, ◌∙◌, ℕ, Bool, true, false, List, [], ◌∷◌, length, Option, Some, None, refl, sym, ap, ap₂, arith, inl, inr}
use Rattle.std.specs.Prelude.{codes, ◌==◌, ◌&&◌, ◌||◌, if◌then◌else◌}
use Rattle.std.specs.List.{Contains, list_all}
use Rattle.std.proofs.lemmas.List.{length-map}
use Rattle.std.proofs.lemmas.List.Elements.{All-cons, All-nil}
use Rattle.circuit_theory.specs.Interface.{first_missing, ◌or_else◌}
use Rattle.circuit_theory.proofs.Lists.{Contains-cases}
use Rattle.flat_net.specs.declared.parts.LatchAt.{LatchAt}
use Rattle.flat_net.specs.View.{NetView}
use Rattle.net_assembly.proofs.DistinctLists.{distinct_nil, distinct_cons}
use Rattle.witness_report.specs.Form.{IsName, IsForm}
use Rattle.witness_report.specs.Text.{stimulus_text}
use Rattle.circuit_report.specs.declared.sim_report.refusal.Misfit.{Misfit}
use Rattle.circuit_report.specs.declared.sim_report.refusal.Misfit.TheVariants as misfit
use Rattle.circuit_report.specs.sim_report.Checks.{is_power, named_misfit, first_misfit}
use Rattle.job_base.specs.sec_files.Stimuli.{IsStimulus}
use Rattle.pair_texts.specs.design_rows.Designs as design
use Rattle.pair_texts.specs.design_rows.Small.{small_two, IsSmall}
use Rattle.premise_rows.specs.job_rows.Stimuli.{TwoCanBeRun}
use Rattle.pair_texts.specs.design_rows.Texts.{two, three_cycles}
use Rattle.pair_texts.proofs.design_rows.Spelling.{accepted, net_is_small}
use Rattle.pair_texts.proofs.design_rows.SpelledTexts.{two_spells}

abbrev pub names : List (List ℕ)
names = codes "a" ∷ []

abbrev pub rows : List (List Bool)
rows = (true ∷ []) ∷ (false ∷ []) ∷ (false ∷ []) ∷ []

only_a : (k : ℕ) → Contains (codes "a") k → 97 ≡ k
only_a k h = elim (Contains-cases 97 k [] h) [ inl same ↦ same | inr none ↦ absurd (let l = none.1 in omega (arith, l)) ]

is_name : IsName (codes "a")
is_name = record { some = omega arith; no_blank = λ h. (let e = only_a 32 h in omega (arith, e)); no_line_feed = λ h. (let e = only_a 10 h in omega (arith, e)) }

form : IsForm three_cycles names rows
unfolding stimulus_text
form = record {
  names_are = record { each = All-cons IsName (codes "a") [] is_name (All-nil IsName); distinct = distinct_cons (codes "a") [] distinct_nil (λ h. (let l = h.1 in omega (arith, l))) };
  rows_are = All-cons (λ (row : List Bool). length row ≡ 1) (true ∷ []) ((false ∷ []) ∷ (false ∷ []) ∷ []) refl
      (All-cons (λ (row : List Bool). length row ≡ 1) (false ∷ []) ((false ∷ []) ∷ []) refl (All-cons (λ (row : List Bool). length row ≡ 1) (false ∷ []) [] refl (All-nil (λ (row : List Bool). length row ≡ 1))));
  spelled = inl refl;
}

-- the first misfit, by what it looks at
abbrev misfit_of : List (List ℕ) → Bool → Option Misfit
misfit_of inputs good =
    named_misfit misfit.Unknown (first_missing names inputs) or_else named_misfit misfit.Missing (first_missing inputs names) or_else (if good then None else Some misfit.Power)

module _ (net : NetView) (own : IsSmall small_two net) where
  count : length net.latches ≡ 2
  count = sym (length-map net.latches (λ (l : LatchAt). l.name)) ∙ ap length own.counted

  fits : first_misfit net names None ≡ None
  fits = ap (λ (inputs : List (List ℕ)). misfit_of inputs true) own.inputs

  good_power : is_power net (Some (codes "10")) ≡ true
  good_power = ap (λ (k : ℕ). (2 == k) && list_all (λ digit. (digit == 48) || (digit == 49)) (codes "10")) count

  fits_power : first_misfit net names (Some (codes "10")) ≡ None
  fits_power = ap₂ misfit_of own.inputs good_power

pub stimulus : IsStimulus three_cycles names rows
stimulus = record { short = omega arith; form = form }

pub two_can_be_run : TwoCanBeRun
two_can_be_run = (
  record { circuit = accepted two design.two small_two two_spells; names = names; rows = rows; stimulus = stimulus; fits = λ net l. fits net (net_is_small two design.two small_two two_spells net l); light = λ net l. tt },
  record { circuit = accepted two design.two small_two two_spells; names = names; rows = rows; stimulus = stimulus; fits = λ net l. fits_power net (net_is_small two design.two small_two two_spells net l); light = λ net l. tt },
  record {
    circuit = accepted two design.two small_two two_spells;
    first = names;
    first_rows = rows;
    before = stimulus;
    names = names;
    rows = rows;
    stimulus = stimulus;
    fits = λ net l. (fits net (net_is_small two design.two small_two two_spells net l), fits_power net (net_is_small two design.two small_two two_spells net l));
  },
)
