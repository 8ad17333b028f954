use Rattle.std.specs.Prelude.{IfSome, IsErrOf, Result, Option}
use Rattle.std.proofs.Common.{◌∙◌, ℕ, List, inl, inr, refl, Err}
use Rattle.base_shelves.specs.declared.whole_file.FetchError.{FetchError}
use Rattle.base_shelves.specs.declared.whole_file.FetchError.TheVariants as fetch_error
use Rattle.base_shelves.specs.Outside.{Rose}
use Rattle.job_base.specs.sec_files.Loading.{IsTooLong}
use Rattle.job_pair.specs.job_renamed.Ends.{FetchFails}
use Rattle.job_pair.proofs.Means.{if_some}
use Rattle.job_pair.proofs.job_renamed.Finds.{no_fault}
use Rattle.job_pair.proofs.job_renamed.comparison.compare_both.Goals as goal

-- why a text isn't fetched
fails : {T : Type 0} (held : Option (List ℕ)) (rose : Type 0) (error : FetchError) → (IsErrOf {T = T} (Err error) fetch_error.TooLong → IfSome held IsTooLong) → (IsErrOf {T = T} (Err error) fetch_error.Failed → rose) → FetchFails held rose error
fails held rose fetch_error.Failed long failed = failed refl
fails held rose fetch_error.TooLong long failed = long refl
fails held rose fetch_error.NoMemory long failed = tt

pub returns-in-Ok-clause-found : goal.returns-in-Ok-clause-found
returns-in-Ok-clause-found g c =
    let held = g.S.Shelf.held c.args.shelf.now c.args.comparison.now.pairs.now in
    inr (c.as_slice.result.now, if_some held (λ z same. c.as_slice.ensures ∙ same) c.in-Ok.ensures.ok, c.compare_nets.ensures)

pub returns-in-Ok-clause-served : goal.returns-in-Ok-clause-served
returns-in-Ok-clause-served g c serves = no_fault _ c.args.comparison.now.settings c.args.a.now c.args.b.now c.compare_nets.result c.compare_nets.ensures

pub returns-in-Err-clause-found : goal.returns-in-Err-clause-found
returns-in-Err-clause-found g c =
    let path = c.args.comparison.now.pairs.now in
    inl (
      c.in-Err.error,
      fails (g.S.Shelf.held c.args.shelf.now path) (Rose (g.S.Shelf.faults c.args.shelf.now path) (g.S.Shelf.faults c.fetch.new.shelf path)) c.in-Err.error c.in-Err.ensures.too_long c.in-Err.ensures.cause,
      c.fetch_end.ensures,
    )
