-- The reports of one text are one, whatever its signals are numbered.
use Rattle.std.specs.Prelude.{◌≡◌, ℕ, Bool, List, ◌++◌, Option, None}
use Rattle.circuit_theory.specs.declared.Mode.TheVariants.{Plain}
use Rattle.flat_net.specs.declared.parts.LatchAt.{LatchAt}
use Rattle.flat_net.specs.View.{NetView}
use Rattle.circuit_report.specs.graph_report.Report.{IsFound, IsGraphReport, cycle_line}
use Rattle.circuit_report.specs.sim_report.Checks.{first_misfit}
use Rattle.circuit_report.specs.sim_report.Report.{IsSimReport}
use Rattle.job_base.specs.sec_files.Loading.{Loads}
use Rattle.job_base.specs.sec_files.Stimuli.{IsStimulus}

-- Two reports of latch graphs in the plain mode have the same counts and the same line for each latch and output: they differ in the cycle that
-- they tell at most.
pub record AreOneGraph (a b : NetView) (left right : List ℕ) : Type 0 where
  pub counts : List ℕ
  pub latches : List ℕ
  pub outputs : List ℕ
  pub left_cycle : Option (List LatchAt)
  pub right_cycle : Option (List LatchAt)
  pub left_found : IsFound Plain a left_cycle
  pub right_found : IsFound Plain b right_cycle
  pub left_is : left ≡ counts ++ latches ++ outputs ++ cycle_line left_cycle
  pub right_is : right ≡ counts ++ latches ++ outputs ++ cycle_line right_cycle

-- So it is with the reports of two nets that a text loads as.
abbrev pub GraphReportsAreOne : Type 0
GraphReportsAreOne = (text : List ℕ) (a b : NetView) → Loads text a → Loads text b → (left right : List ℕ) → IsGraphReport Plain a left → IsGraphReport Plain b right → AreOneGraph a b left right

-- The reports of the runs of two nets that a text loads as, over a stimulus that fits, are the same.
abbrev pub SimReportsAreOne : Type 0
SimReportsAreOne = (text : List ℕ) (a b : NetView) → Loads text a → Loads text b →
    (stimulus : List ℕ) (names : List (List ℕ)) (rows : List (List Bool)) → IsStimulus stimulus names rows → (power : Option (List ℕ)) → first_misfit b names power ≡ None →
    (reset : Bool) (left right : List ℕ) → IsSimReport Plain a names rows power reset left → IsSimReport Plain b names rows power reset right → left ≡ right
