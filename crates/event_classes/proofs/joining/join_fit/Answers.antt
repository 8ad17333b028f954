-- The class that was found.
use Rattle.std.proofs.Common.{List, sym, subst}
use Rattle.std.proofs.lemmas.Result.{on_ok_weaker}
use Rattle.std.specs.Prelude.{◌≡◌, is_ok, true}
use Rattle.event_classes.proofs.Limiting.{when_ok}
use Rattle.class_search.specs.declared.search.Fit.{Fit}
use Rattle.class_search.specs.class_fits.Members.{class_of_fit}
use Rattle.class_search.specs.declared.told.Told.{Told}
use Rattle.event_classes.specs.Map.{FitsIn, AreToldAt, AreToldBy}
use Rattle.event_classes.proofs.joining.join_fit.Goals as goal

pub join_always-requires-clause-fits : goal.join_always-requires-clause-fits
join_always-requires-clause-fits c = subst (λ (f : Fit). FitsIn c.args.map.now c.args.tag (class_of_fit c.args.map.now.classes.items f)) c.in-Always.is c.requires.fits

pub join_class-requires-clause-fits : goal.join_class-requires-clause-fits
join_class-requires-clause-fits c = subst (λ (f : Fit). FitsIn c.args.map.now c.args.tag (class_of_fit c.args.map.now.classes.items f)) c.in-Joins.is c.requires.fits

pub join_class-requires-clause-place : goal.join_class-requires-clause-place
join_class-requires-clause-place c = c.requires.place c.in-Joins.place c.in-Joins.is

pub found_class-requires-clause-fits : goal.found_class-requires-clause-fits
found_class-requires-clause-fits c = subst (λ (f : Fit). FitsIn c.args.map.now c.args.tag (class_of_fit c.args.map.now.classes.items f)) c.in-Founds.is c.requires.fits

pub found_class-requires-clause-told : goal.found_class-requires-clause-told
found_class-requires-clause-told c = subst (λ (ts : List Told). AreToldAt c.args.map.now c.args.tag c.in-Founds.always ts) (sym c.as_slice.ensures.value) (subst (AreToldBy c.args.map.now c.args.tag) c.in-Founds.is c.requires.told)

pub returns-in-Always-clause-goes_on : goal.returns-in-Always-clause-goes_on
returns-in-Always-clause-goes_on c = on_ok_weaker c.of_memory.result (λ (e : is_ok c.join_always.result ≡ true). when_ok c.join_always.result e c.join_always.ensures) c.of_memory.ensures.done

pub returns-in-Always-clause-many : goal.returns-in-Always-clause-many
returns-in-Always-clause-many c = λ is. absurd (c.of_memory.ensures.many is)

pub returns-in-Always-clause-large : goal.returns-in-Always-clause-large
returns-in-Always-clause-large c = c.of_memory.ensures.large

pub returns-in-Always-clause-limit : goal.returns-in-Always-clause-limit
returns-in-Always-clause-limit c = c.of_memory.ensures.limit

pub returns-in-Joins-clause-goes_on : goal.returns-in-Joins-clause-goes_on
returns-in-Joins-clause-goes_on c = on_ok_weaker c.of_memory-in-Joins.result (λ (e : is_ok c.join_class.result ≡ true). when_ok c.join_class.result e c.join_class.ensures) c.of_memory-in-Joins.ensures.done

pub returns-in-Joins-clause-many : goal.returns-in-Joins-clause-many
returns-in-Joins-clause-many c = λ is. absurd (c.of_memory-in-Joins.ensures.many is)

pub returns-in-Joins-clause-large : goal.returns-in-Joins-clause-large
returns-in-Joins-clause-large c = c.of_memory-in-Joins.ensures.large

pub returns-in-Joins-clause-limit : goal.returns-in-Joins-clause-limit
returns-in-Joins-clause-limit c = c.of_memory-in-Joins.ensures.limit

pub returns-in-Founds : goal.returns-in-Founds
returns-in-Founds c = record { goes_on = c.found_class.ensures.goes_on; many = c.found_class.ensures.many; large = c.found_class.ensures.large; limit = c.found_class.ensures.limit }
