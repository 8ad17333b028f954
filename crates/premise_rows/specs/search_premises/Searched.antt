-- Texts that meet the premise of what is promised of searches over cycles.
use Rattle.sec_jobs.specs.job_search.search_meaning.Answer.{CanBeSearched}
use Rattle.pair_texts.specs.design_rows.Texts.{late, toggle}
use Rattle.premise_rows.specs.block_premises.ResetPremises.{late_from_zero, early_from_zero}

-- a retiming that moves the initial values along; a circuit whose latch may start with either, with itself; and one whose latch lies on a
-- cycle, with itself
abbrev pub TextsCanBeSearched : Type 0
TextsCanBeSearched = CanBeSearched late_from_zero early_from_zero × CanBeSearched late late × CanBeSearched toggle toggle
