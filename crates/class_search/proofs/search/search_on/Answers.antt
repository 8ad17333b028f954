-- The class that was found, or what told the enable from all.
use Rattle.std.proofs.Common.{subst}
use Rattle.class_search.specs.Search.{IsFound}
use Rattle.class_search.proofs.search.search_on.Goals as goal

pub returns-in-Some-clause-fit : goal.returns-in-Some-clause-fit
returns-in-Some-clause-fit c =
    let found = subst (IsFound c.args.events.now c.search.new.events c.args.classes.now c.args.latch.now c.args.conflicts c.search.new.told.items) c.in-Some.is c.in_ok-place.ensures.found in
    (c.args.always, c.requires.always, (c.search.new.told.items, found.0, found.1, found.2))

pub returns-in-None-clause-fit : goal.returns-in-None-clause-fit
returns-in-None-clause-fit c =
    let found = subst (IsFound c.args.events.now c.search.new.events c.args.classes.now c.args.latch.now c.args.conflicts c.search.new.told.items) c.in-None.is c.in_ok-place.ensures.found in
    (c.requires.always, found.0, found.1)
