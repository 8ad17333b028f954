-- Texts that meet the premises of what is promised of replays.
use Rattle.std.specs.Prelude.{ℕ, List, codes}
use Rattle.circuit_theory.specs.declared.Mode.TheVariants.{Plain, Event}
use Rattle.job_circuit.specs.job_replay.Replays.{CanBeReplayed}
use Rattle.premise_rows.specs.job_rows.Enables.{held, two_cycles}
use Rattle.pair_texts.specs.design_rows.Texts.{late, early, toggle, two, three_cycles}

-- two inputs in two cycles
abbrev pub both_and_none : List ℕ
both_and_none = codes "inputs a b\n11\n00\n"

-- a latch that is cut open, in one cycle
abbrev pub opened_once : List ℕ
opened_once = codes "inputs q\n0\n"

-- Two latches beside two, a circuit beside the same retimed, and two latches that toggle beside one another, where they are cut open; in
-- the event mode two latches behind an enable, and the latches that toggle.
pub record ReplaysMeetPremises : Type 0 where
  pub two_beside_two : CanBeReplayed Plain two two three_cycles
  pub late_beside_early : CanBeReplayed Plain late early both_and_none
  pub cut_open : CanBeReplayed Plain toggle toggle opened_once
  pub held_beside_held : CanBeReplayed Event held held two_cycles
  pub not_unate_cut_open : CanBeReplayed Event toggle toggle opened_once
