-- What is found for the latch is its first fit.
use Rattle.std.proofs.Common.{ℕ, List, refl, sym, ap, subst}
use Rattle.std.proofs.lemmas.Result.{on_ok_weaker}
use Rattle.class_search.specs.declared.class.Class.{Class}
use Rattle.class_search.specs.Search.{AreReadyClasses, IsFit, IsUnfit}
use Rattle.edbf_unfold.specs.class_queries.Enables.{both_of}
use Rattle.event_classes.specs.Limits.{IsNamed, IsErrorOf}
use Rattle.event_classes.specs.Map.{GoesOn, places_in, taken_of, with_next}
use Rattle.event_classes.specs.event_functions.class_totals.Totals.{HaveCounted}
use Rattle.event_nodes.specs.Nodes.{EventGraphView}
use Rattle.event_classes.proofs.Limiting.{named_of, limit_at, limit_alone, error_is}
use Rattle.event_classes.proofs.Stopping.{class_before}
use Rattle.event_classes.specs.declared.map.ClassMap.{ClassMap}
use Rattle.event_classes.proofs.NextLatch.{made_grows, within_grows, next_same, fit_place, found_fits_in, enable_grows}
use Rattle.event_classes.proofs.Found.{told_by, own_grows}
use Rattle.class_search.proofs.class_fits.Standing.{classes_ready}
use Rattle.event_classes.proofs.Setting.{goes_on_from}
use Rattle.event_classes.proofs.joining.join_asked.Goals as goal

pub first_fit-requires-clause-classes : goal.first_fit-requires-clause-classes
first_fit-requires-clause-classes c = subst (AreReadyClasses c.args.map.now.events) (sym c.as_slice.ensures.value) c.requires.made.1.stand.ready

pub join_fit-requires-clause-made : goal.join_fit-requires-clause-made
join_fit-requires-clause-made c =
    let found : ClassMap = record c.args.map.now { events = c.first_fit.new.events } in
    next_same c.args.map.now found c.args.tag refl refl (made_grows c.args.map.now found refl c.keeps-3.ensures.events c.first_fit.ensures.grows (within_grows c.args.map.now found refl c.first_fit.ensures.rest)) c.requires.made

pub join_fit-requires-clause-enable : goal.join_fit-requires-clause-enable
join_fit-requires-clause-enable c =
    let found : ClassMap = record c.args.map.now { events = c.first_fit.new.events } in
    enable_grows c.args.map.now found c.args.tag c.args.enable refl c.keeps-3.ensures.events c.first_fit.ensures.grows c.requires.enable

pub join_fit-requires-clause-ready : goal.join_fit-requires-clause-ready
join_fit-requires-clause-ready c = c.first_fit.ensures.ready c.args.enable c.requires.ready

pub join_fit-requires-clause-own : goal.join_fit-requires-clause-own
join_fit-requires-clause-own c =
    let found : ClassMap = record c.args.map.now { events = c.first_fit.new.events } in
    own_grows c.args.map.now found c.args.tag c.args.enable refl c.keeps-3.ensures.events c.first_fit.ensures.grows c.requires.ready c.requires.own

pub join_fit-requires-clause-told : goal.join_fit-requires-clause-told
join_fit-requires-clause-told c =
    let found : ClassMap = record c.args.map.now { events = c.first_fit.new.events } in
    told_by c.args.map.now found c.args.tag c.args.enable c.args.conflicts c.requires.made.0 refl (record { left_sound = c.keeps.ensures.sound; right_sound = c.keeps-2.ensures.sound; left = c.keeps.ensures.circuit; right = c.keeps-2.ensures.circuit; events = c.keeps-3.ensures.events }) c.first_fit.ensures.grows c.requires.made.1
    c.requires.enable c.requires.own c.requires.ready (classes_ready c.args.map.now.events c.first_fit.new.events c.args.map.now.classes.items c.first_fit.ensures.ready c.requires.made.1.stand.ready) c.in-Ok.fit
    (subst (λ (cs : List Class). IsFit c.args.map.now.events c.first_fit.new.events cs c.args.enable c.args.conflicts c.in-Ok.fit) c.as_slice.ensures.value c.in-Ok.ensures.fit)

pub join_fit-requires-clause-fits : goal.join_fit-requires-clause-fits
join_fit-requires-clause-fits c =
    let found : ClassMap = record c.args.map.now { events = c.first_fit.new.events } in
    found_fits_in c.args.map.now found c.args.tag c.args.enable c.args.conflicts c.in-Ok.fit c.requires.made.0 refl (record { left_sound = c.keeps.ensures.sound; right_sound = c.keeps-2.ensures.sound; left = c.keeps.ensures.circuit; right = c.keeps-2.ensures.circuit; events = c.keeps-3.ensures.events }) c.requires.made.1
    c.requires.enable (subst (λ (cs : List Class). IsFit c.args.map.now.events c.first_fit.new.events cs c.args.enable c.args.conflicts c.in-Ok.fit) c.as_slice.ensures.value c.in-Ok.ensures.fit)

pub join_fit-requires-clause-place : goal.join_fit-requires-clause-place
join_fit-requires-clause-place c = λ place same. fit_place c.args.map.now.events c.first_fit.new.events c.args.map.now.classes.items c.args.enable c.args.conflicts place c.in-Ok.fit (subst (λ (cs : List Class). IsFit c.args.map.now.events c.first_fit.new.events cs c.args.enable c.args.conflicts c.in-Ok.fit) c.as_slice.ensures.value c.in-Ok.ensures.fit) same

pub join_fit-requires-clause-absent : goal.join_fit-requires-clause-absent
join_fit-requires-clause-absent c = c.requires.absent

pub returns-in-Ok-clause-goes_on : goal.returns-in-Ok-clause-goes_on
returns-in-Ok-clause-goes_on c =
    let found : ClassMap = record c.args.map.now { events = c.first_fit.new.events } in
    on_ok_weaker c.join_fit.result (λ (on : GoesOn found c.join_fit.new.map c.args.tag (with_next found c.args.tag)).
    goes_on_from c.args.map.now found c.join_fit.new.map c.args.tag (with_next c.args.map.now c.args.tag) (with_next found c.args.tag) refl refl refl (made_grows c.args.map.now found refl c.keeps-3.ensures.events c.first_fit.ensures.grows (within_grows c.args.map.now found refl c.first_fit.ensures.rest))
    (λ t. subst (λ (es : List (ℕ × ℕ)). HaveCounted c.args.map.now.left c.args.map.now.right es (with_next c.args.map.now c.args.tag) c.args.map.now.left_count c.args.map.now.right_count) (sym (ap (λ (w : EventGraphView). w.children) c.first_fit.ensures.rest)) t) on)
    c.join_fit.ensures.goes_on

pub returns-in-Ok-clause-many : goal.returns-in-Ok-clause-many
returns-in-Ok-clause-many c =
    let found : ClassMap = record c.args.map.now { events = c.first_fit.new.events } in
    λ is. class_before c.args.map.now found c.args.tag refl (made_grows c.args.map.now found refl c.keeps-3.ensures.events c.first_fit.ensures.grows (within_grows c.args.map.now found refl c.first_fit.ensures.rest)) (c.join_fit.ensures.many is)

pub returns-in-Ok-clause-large : goal.returns-in-Ok-clause-large
returns-in-Ok-clause-large c = c.join_fit.ensures.large

pub returns-in-Ok-clause-limit : goal.returns-in-Ok-clause-limit
returns-in-Ok-clause-limit c = λ latch other proof is. absurd (c.join_fit.ensures.limit latch other proof is)

pub limit_of-requires : goal.limit_of-requires
limit_of-requires c =
    subst (λ (cs : List Class). IsNamed cs c.in-Err.unfit) (sym c.as_slice-in-Err.ensures.value)
    (named_of (both_of c.args.map.now.left c.args.map.now.right) c.args.map.now.events c.first_fit.new.events (places_in c.args.map.now) (taken_of c.args.map.now) c.args.map.now.classes.items c.args.enable c.args.conflicts c.requires.made.1.stand.members c.in-Err.unfit
    (subst (λ (cs : List Class). IsUnfit c.args.map.now.events c.first_fit.new.events cs c.args.enable c.args.conflicts c.in-Err.unfit) c.as_slice.ensures.value c.in-Err.ensures.unfit))

pub returns-in-Err-clause-limit : goal.returns-in-Err-clause-limit
returns-in-Err-clause-limit c = λ latch other proof is.
    limit_at c.args.map.now (record c.args.map.now { events = c.first_fit.new.events }) c.args.tag c.args.enable c.args.conflicts (record { left_sound = c.keeps.ensures.sound; right_sound = c.keeps-2.ensures.sound; left = c.keeps.ensures.circuit; right = c.keeps-2.ensures.circuit; events = c.keeps-3.ensures.events }) c.requires.enable c.requires.ready c.requires.own c.in-Err.unfit
    (subst (λ (cs : List Class). IsUnfit c.args.map.now.events c.first_fit.new.events cs c.args.enable c.args.conflicts c.in-Err.unfit) c.as_slice.ensures.value c.in-Err.ensures.unfit) c.limit_of.result
    (subst (λ (cs : List Class). IsErrorOf cs c.args.tag c.limit_of.result c.in-Err.unfit) c.as_slice-in-Err.ensures.value c.limit_of.ensures) latch other proof (error_is is)

pub returns-in-Err-clause-many : goal.returns-in-Err-clause-many
returns-in-Err-clause-many c = λ is. absurd ((limit_alone c.args.map.now.classes.items c.args.tag c.in-Err.unfit c.limit_of.result (subst (λ (cs : List Class). IsErrorOf cs c.args.tag c.limit_of.result c.in-Err.unfit) c.as_slice-in-Err.ensures.value c.limit_of.ensures)).0 (error_is is))

pub returns-in-Err-clause-large : goal.returns-in-Err-clause-large
returns-in-Err-clause-large c = λ side is. (limit_alone c.args.map.now.classes.items c.args.tag c.in-Err.unfit c.limit_of.result (subst (λ (cs : List Class). IsErrorOf cs c.args.tag c.limit_of.result c.in-Err.unfit) c.as_slice-in-Err.ensures.value c.limit_of.ensures)).1 side (error_is is)
