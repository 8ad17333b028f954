-- What each answer of a comparison under an assumption means for the three texts, over all power-ups and from the initial values.
use Rattle.std.specs.Prelude.{◌⊎◌, ℕ, List, Option}
use Rattle.sec_base.specs.declared.settings.Settings.{Settings}
use Rattle.pair_decide.specs.declared.query.Proof.{Proof}
use Rattle.plain_check.specs.under_base.compare_base.Compared.{ByReset}
use Rattle.pair_texts.specs.assume_texts.Resets.{ResetsAgreeUnder, ResetsDifferUnder, ResetsUndecidedUnder}
use Rattle.pair_texts.specs.assume_texts.Texts.{TextsAgreeUnder, TextsDifferUnder, TextsNotShownUnder, TextsUndecidedUnder, AssumptionUndecided}

abbrev pub EqualUnder : List ℕ → List ℕ → List ℕ → Settings → Option (List ℕ) → Option (List ℕ) → Type 0
EqualUnder x y z settings before now = ByReset settings.reset (TextsAgreeUnder x y z settings before now) (ResetsAgreeUnder x y z settings before now)

abbrev pub DifferentUnder : List ℕ → List ℕ → List ℕ → Settings → Option (List ℕ) → Option (List ℕ) → Type 0
DifferentUnder x y z settings before now = ByReset settings.reset (TextsDifferUnder x y z settings before now) (ResetsDifferUnder x y z settings before now)

abbrev pub NotShownUnder : List ℕ → List ℕ → List ℕ → Settings → Option (List ℕ) → Option (List ℕ) → Type 0
NotShownUnder x y z settings before now = ByReset settings.reset (TextsNotShownUnder x y z settings before now) ⊥

-- the limit was met at the assumption, or at a pair
abbrev pub LimitUnder : List ℕ → List ℕ → List ℕ → Settings → List Proof → Option (List ℕ) → Option (List ℕ) → Type 0
LimitUnder x y z settings proofs before now =
    AssumptionUndecided x y z settings proofs before now ⊎ ByReset settings.reset (TextsUndecidedUnder x y z settings proofs before now) (ResetsUndecidedUnder x y z settings proofs before now)
