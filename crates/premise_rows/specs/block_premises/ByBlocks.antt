-- Texts that meet the premise of what is promised of comparisons by blocks of latches.
use Rattle.sec_jobs.specs.job_induct.induct_meaning.Answer.{CanBeJudged}
use Rattle.pair_texts.specs.design_rows.Texts.{on_and, off_and, toggle}
use Rattle.premise_rows.specs.block_premises.ResetPremises.{late_from_zero, early_from_zero}

-- two ands by other rows; a circuit with a cycle of latches and itself; and a retiming that moves initial values along
abbrev pub TextsCanBeJudged : Type 0
TextsCanBeJudged = CanBeJudged on_and off_and × CanBeJudged toggle toggle × CanBeJudged late_from_zero early_from_zero
