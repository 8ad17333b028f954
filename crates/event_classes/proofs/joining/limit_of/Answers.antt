-- The latch of the other enable.
use Rattle.std.proofs.Common.{◌≡◌, ◌∙◌, ◌<◌, length, get_or, slice_get, Some, refl, sym, ap, subst}
use Rattle.std.proofs.lemmas.Option.{slice_get-get_or, slice_get_within}
use Rattle.flat_net.proofs.Places.{one_at}
use Rattle.class_search.specs.declared.class.Class.{Class}
use Rattle.event_classes.specs.declared.error.EventError.TheVariants as event_error
use Rattle.event_classes.specs.Limits.{IsNamed, IsErrorOf}
use Rattle.event_classes.proofs.joining.limit_of.Goals as goal

pub bounds-classes-place : goal.bounds-classes-place
bounds-classes-place c = let named = subst (IsNamed c.args.classes.now) c.in-Member.is c.requires in slice_get_within c.args.classes.now c.in-Member.place named.0 named.1

pub returns-in-Member : goal.returns-in-Member
returns-in-Member c =
    let named = subst (IsNamed c.args.classes.now) c.in-Member.is c.requires in
    let class : Class = get_or c.args.classes.now c.in-Member.place c.index-classes-place.result in
    let at : slice_get c.args.classes.now c.in-Member.place ≡ Some class = slice_get-get_or c.args.classes.now c.in-Member.place c.index-classes-place.result (slice_get_within c.args.classes.now c.in-Member.place named.0 named.1) in
    let inside : c.in-Member.member < length class.tags.items = subst (λ (d : Class). c.in-Member.member < length d.tags.items) (one_at c.args.classes.now c.in-Member.place named.0 class named.1 at) named.2 in
    subst (IsErrorOf c.args.classes.now c.args.tag (event_error.Limit c.args.tag (Some c.index.result.now) c.in-Member.proof)) (sym c.in-Member.is)
    (class, at, (c.index.result.now, slice_get-get_or class.tags.items c.in-Member.member c.index.result.now inside ∙ ap Some (sym c.index.ensures), refl))
