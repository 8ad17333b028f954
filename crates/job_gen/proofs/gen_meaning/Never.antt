-- A pair is never refused.
use Rattle.std.specs.Prelude.{false, true}
use Rattle.std.proofs.Common.{◌≡◌, ℕ, List, refl, sym, ◌∙◌, subst, Err}
use Rattle.std.proofs.lemmas.Option.{none-some}
use Rattle.circuit_theory.specs.declared.Side.{Side}
use Rattle.circuit_theory.specs.declared.Side.TheVariants.{A, B}
use Rattle.flat_net.specs.View.{NetView, circuit_of}
use Rattle.flat_net.specs.Sound.{IsSound}
use Rattle.job_gen.specs.pair_gen.Words.{words_of}
use Rattle.plain_check.specs.declared.under_base.compare_base.error.CompareError.{CompareError}
use Rattle.plain_check.specs.declared.under_base.compare_base.error.CompareError.TheVariants as refused
use Rattle.plain_check.specs.under_base.compare_base.Compared.{Compared, AreTooLarge}
use Rattle.outcome_fits.specs.Fitting.{IsCutOver}
use Rattle.job_gen.specs.declared.gen_meaning.generation.Generation.{Generation}
use Rattle.job_gen.specs.gen_meaning.Found.{AreTwins, settings_of}
use Rattle.job_gen.proofs.gen_meaning.Matching.{twins_match}
use Rattle.job_gen.proofs.gen_meaning.Ranking.{untold}
use Rattle.job_gen.proofs.gen_meaning.Weighing.{not_over}

module _ (g : Generation) (a b : NetView) (twins : AreTwins g a b) (left : IsSound a) (right : IsSound b) where
  light : (side : Side) → AreTooLarge a b false side → ⊥
  light A (AreTooLarge.left {names = names} choice order over) =
      not_over A false (words_of g.seed) a twins.left left (subst (λ (ns : List (List ℕ)). IsCutOver ns (circuit_of a)) (choice.closed refl) over)
  light B (AreTooLarge.right {names = names} choice order small over) =
      not_over B g.regroup (words_of g.seed) b twins.right right (subst (λ (ns : List (List ℕ)). IsCutOver ns (circuit_of b)) (choice.closed refl) over)

  -- no comparison of it is refused: it may want memory, and nothing else
  pub never_refused : (e : CompareError) → Compared a b (settings_of g) (Err e) → e ≡ refused.NoMemory
  never_refused (refused.Interface name) h = absurd (none-some name (sym (twins_match false g.regroup (words_of g.seed) a b twins.left twins.right) ∙ h))
  never_refused (refused.Cyclic A names) h = absurd (untold A false (words_of g.seed) a twins.left left names h.2)
  never_refused (refused.Cyclic B names) h = absurd (untold B g.regroup (words_of g.seed) b twins.right right names h.3)
  never_refused (refused.Unpaired A names) h = absurd (let e : false ≡ true = h.1 in cc)
  never_refused (refused.Unpaired B names) h = absurd (let e : false ≡ true = h.1 in cc)
  never_refused (refused.TooLarge side) h = absurd (light side h.2)
  never_refused refused.TooManyEvents h = absurd h
  never_refused (refused.Assume fault) h = absurd h
  never_refused (refused.Vacuous by) h = absurd h
  never_refused refused.NoMemory h = refl
