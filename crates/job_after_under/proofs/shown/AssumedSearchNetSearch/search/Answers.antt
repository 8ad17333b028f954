-- What a search finds under the assumption is gone on from by sequences that meet it.
use Rattle.std.specs.Prelude.{Result}
use Rattle.std.proofs.Common.{subst}
use Rattle.cycle_under.specs.declared.found.SearchUnder.{SearchUnder}
use Rattle.cycle_under.specs.declared.found.UnderError.{UnderError}
use Rattle.cycle_under.specs.Searches.{SearchesUnder, IsMadeUnder}
use Rattle.job_after_under.proofs.Meeting.{goes_on_meeting}
use Rattle.job_after_under.proofs.shown.AssumedSearchNetSearch.search.Goals as goal

pub returns-in-Ok-Searched : goal.returns-in-Ok-Searched
returns-in-Ok-Searched c =
    let a = c.args.a.now in
    let b = c.args.b.now in
    let s = c.args.self.now in
    let k = s.assumed.now in
    let made = subst (λ (m : SearchUnder). IsMadeUnder a b k c.min-last.result c.min-most.result m) c.in-Ok-Searched.field-0-is
    (subst (λ (r : Result SearchUnder UnderError). SearchesUnder a b k c.min-last.result c.min-most.result r) c.in-Ok-Searched.is c.search_cycles_under.ensures) in
    goes_on_meeting a b k c.min-last.result c.min-most.result c.in-Ok-Searched.searched made.0 c.requires.right.distinct
