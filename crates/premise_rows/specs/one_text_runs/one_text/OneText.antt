-- What is answered where a text is compared with itself.
use Rattle.std.specs.Prelude.{◌≡◌, ℕ, Bool, false, List, []}
use Rattle.std.specs.List.{Contains}
use Rattle.flat_net.specs.View.{NetView, circuit_of}
use Rattle.sec_base.specs.declared.settings.Settings.{Settings}
use Rattle.obligations.specs.declared.outcome.verdict.Verdict.TheVariants as verdict
use Rattle.obligations.specs.declared.outcome.verdict.Outcome.{Outcome}
use Rattle.sec_setup.specs.Cycles.{IsAcyclic}
use Rattle.sec_setup.specs.ports.Pairs.{NamedPair, named_pairs}
use Rattle.plain_check.specs.plain_form.Laws.{HaveOneTree}
use Rattle.plain_check.specs.under_base.compare_base.Compared.{IsCompared}
use Rattle.outcome_fits.specs.Fitting.{IsCutOver}
use Rattle.job_base.specs.sec_files.Loading.{IsAccepted, Loads}
use Rattle.pair_texts.specs.check_texts.Texts.{AreComparable}
use Rattle.pair_texts.specs.design_rows.Texts.{on_and, late, early, hier, two, idle}

-- Where both sides of each pair unfold to one tree, as after a retiming that keeps every gate, the verdict is equal, however few conflicts
-- are allowed.
abbrev pub OneTreeIsEqual : Type 0
OneTreeIsEqual = (a b : NetView) (settings : Settings) (o : Outcome) (compared : IsCompared a b settings o) →
    ((x : NamedPair ℕ ℕ) → Contains (named_pairs o.exposed (circuit_of a) (circuit_of b)) x → HaveOneTree (circuit_of compared.fits.left_cut) (circuit_of compared.fits.right_cut) compared.fits.left compared.fits.right x.left x.right) →
    o.verdict ≡ verdict.Equal

-- Two nets that one text loads as are equal wherever they are compared, however few conflicts are allowed.
abbrev pub OneTextIsEqual : Type 0
OneTextIsEqual = (text : List ℕ) (a b : NetView) → Loads text a → Loads text b → (settings : Settings) (o : Outcome) → IsCompared a b settings o → o.verdict ≡ verdict.Equal

-- The text is accepted, no latch of its net lies on a cycle, and the unfoldings of its outputs weigh at most 2,000,000 together.
pub record CanBeUnfolded (text : List ℕ) : Type 0 where
  pub accepted : IsAccepted text
  pub acyclic : (net : NetView) → Loads text net → IsAcyclic net
  pub light : (net : NetView) → Loads text net → IsCutOver [] (circuit_of net) → ⊥

-- Such a text can be compared with itself, whether latches may be cut open or not.
abbrev pub UnfoldedIsComparable : Type 0
UnfoldedIsComparable = (text : List ℕ) → CanBeUnfolded text → (expose : Bool) → AreComparable text text expose false

-- the worked texts without a cycle can be unfolded, and so be compared with themselves; among them is one whose latch feeds no output
abbrev pub TextsCanBeUnfolded : Type 0
TextsCanBeUnfolded = CanBeUnfolded on_and × CanBeUnfolded late × CanBeUnfolded early × CanBeUnfolded hier × CanBeUnfolded two × CanBeUnfolded idle
