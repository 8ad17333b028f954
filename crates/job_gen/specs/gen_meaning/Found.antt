-- What is found of a generated pair.
use Rattle.std.specs.Prelude.{◌≡◌, ℕ, List, false, Result}
use Rattle.circuit_theory.specs.declared.Mode.TheVariants.{Plain}
use Rattle.circuit_theory.specs.declared.Side.TheVariants.{A, B}
use Rattle.sec_base.specs.declared.settings.Settings.{Settings}
use Rattle.flat_net.specs.View.{NetView}
use Rattle.job_gen.specs.pair_gen.Twins.{IsTwin}
use Rattle.job_gen.specs.pair_gen.Words.{words_of}
use Rattle.obligations.specs.declared.outcome.verdict.Outcome.{Outcome}
use Rattle.plain_check.specs.under_base.compare_base.Compared.{IsCompared}
use Rattle.job_base.specs.Ends.{EndsBy}
use Rattle.job_base.specs.declared.finding.Finding.{Finding}
use Rattle.job_base.specs.declared.finding.Finding.TheVariants as finding
use Rattle.job_base.specs.declared.finding.Stop.{Stop}
use Rattle.job_gen.specs.declared.gen_meaning.generation.Generation.{Generation}
use Rattle.job_gen.specs.gen_meaning.Report.{gen_text}

-- the nets are the pair of the number
pub record AreTwins (g : Generation) (a b : NetView) : Type 0 where
  pub left : IsTwin A false (words_of g.seed) a
  pub right : IsTwin B g.regroup (words_of g.seed) b

-- a pair is compared in the plain form, and no latch is cut open
abbrev pub settings_of : Generation → Settings
settings_of g = record { mode = Plain; expose = false; conflicts = g.conflicts; reset = false }

-- the outcome is one of the pair of the number, and the report is its
pub record IsOutcomeOf (g : Generation) (o : Outcome) (report : List ℕ) : Type 0 where
  pub left : NetView
  pub right : NetView
  pub twins : AreTwins g left right
  pub compared : IsCompared left right (settings_of g) o
  pub is_report : report ≡ gen_text g left right o.verdict

-- what is found: an outcome, and nothing else
abbrev pub IsGenFound : Generation → Finding → Type 0
IsGenFound g (finding.Generated o report) = IsOutcomeOf g o report
IsGenFound g other = ⊥

-- the work ends with an outcome, or at want of memory
abbrev pub GenFound : Generation → Result Finding Stop → Type 0
GenFound g r = EndsBy (IsGenFound g) ⊥ r
