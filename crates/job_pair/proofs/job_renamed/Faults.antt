-- Why a text gives the latches no names.
use Rattle.std.proofs.Common.{◌≡◌, ℕ, List}
use Rattle.circuit_theory.specs.declared.Side.{Side}
use Rattle.circuit_theory.specs.declared.Side.TheVariants.{A, B}
use Rattle.flat_net.specs.View.{NetView}
use Rattle.net_names.specs.Pairs.{IsTwice, RenameFails}
use Rattle.net_names.specs.declared.latch_pairs.LatchPair.{LatchPair}
use Rattle.net_names.specs.declared.latch_pairs.PairsError.{PairsError}
use Rattle.net_names.specs.declared.latch_pairs.PairsError.TheVariants as pairs_error
use Rattle.net_names.specs.declared.renaming.RenameError.{RenameError}
use Rattle.net_names.specs.declared.renaming.RenameError.TheVariants as rename_error
use Rattle.job_base.specs.declared.finding.PairKind.TheVariants as pair_kind
use Rattle.job_pair.specs.declared.job_renamed.renamed_net.PairsStop.{PairsStop}
use Rattle.job_pair.specs.declared.job_renamed.renamed_net.PairsStop.TheVariants as stop
use Rattle.job_pair.specs.job_renamed.Texts.{LatchesFail, PairsFail, ReadFails, SaysPairs, rename_stop, twice_stop}

module _ (text : List ℕ) (a b : NetView) where
  pub read_fails : (error : PairsStop) → ReadFails text error → PairsFail text a b error
  read_fails (stop.Line line pair_kind.BadPair) h = h
  read_fails (stop.Line line (pair_kind.Unknown side)) h = absurd h
  read_fails (stop.Line line pair_kind.Twice) h = absurd h
  read_fails (stop.Line line pair_kind.Taken) h = absurd h
  read_fails stop.NoMemory h = tt

  module _ (pairs : List LatchPair) (says : SaysPairs text pairs) where
    pub twice_fails : (error : PairsError) → IsTwice pairs error → PairsFail text a b (twice_stop error)
    twice_fails (pairs_error.Twice line) h = (pairs, says, h)
    twice_fails pairs_error.NoMemory h = tt

    pub left_fails : (error : PairsStop) → LatchesFail a A pairs error → PairsFail text a b error
    left_fails (stop.Line line (pair_kind.Unknown A)) h = (pairs, says, h.1)
    left_fails (stop.Line line (pair_kind.Unknown B)) h = absurd (let e : B ≡ A = h.0 in cc)
    left_fails (stop.Line line pair_kind.BadPair) h = absurd h
    left_fails (stop.Line line pair_kind.Twice) h = absurd h
    left_fails (stop.Line line pair_kind.Taken) h = absurd h
    left_fails stop.NoMemory h = tt

    pub right_fails : (error : PairsStop) → LatchesFail b B pairs error → PairsFail text a b error
    right_fails (stop.Line line (pair_kind.Unknown B)) h = (pairs, says, h.1)
    right_fails (stop.Line line (pair_kind.Unknown A)) h = absurd (let e : A ≡ B = h.0 in cc)
    right_fails (stop.Line line pair_kind.BadPair) h = absurd h
    right_fails (stop.Line line pair_kind.Twice) h = absurd h
    right_fails (stop.Line line pair_kind.Taken) h = absurd h
    right_fails stop.NoMemory h = tt

    pub rename_fails : (error : RenameError) → RenameFails b pairs error → PairsFail text a b (rename_stop error)
    rename_fails (rename_error.Taken line) h = (pairs, says, h)
    rename_fails rename_error.Order h = tt
    rename_fails rename_error.NoMemory h = tt
