-- The classes, one after the other.
use Rattle.std.proofs.Common.{◌≡◌, ◌∙◌, ℕ, List, [], ◌∷◌, ◌++◌, length, slice_get, Some, sym, ap, subst, arith, length-append}
use Rattle.std.specs.List.{All}
use Rattle.std.specs.Prelude.{Option, IfNone, IfSome}
use Rattle.std.proofs.lemmas.Option.{slice_get-get_or}
use Rattle.event_nodes.proofs.Growing.{grows_trans}
use Rattle.event_nodes.specs.Nodes.{EventGraphView}
use Rattle.class_search.specs.declared.compare.Enable.{Enable}
use Rattle.class_search.specs.declared.fitting.Unlike.{Unlike}
use Rattle.class_search.specs.Comparing.{IsReadyEnable}
use Rattle.class_search.specs.Fitting.{AreSameEnables, IsFirstUnlike}
use Rattle.class_search.specs.declared.class.Class.{Class}
use Rattle.class_search.specs.declared.told.Told.{Told}
use Rattle.class_search.specs.Search.{AreTold}
use Rattle.class_search.proofs.Telling.{told_later, told_next, agreed_since, unlike_told, unlike_stopped, members_ready}
use Rattle.class_search.proofs.search.search.Goals as goal

pub first_unlike-requires-clause-members : goal.first_unlike-requires-clause-members
first_unlike-requires-clause-members c =
    subst (All (IsReadyEnable c.loop-place.events)) (sym (c.as_slice-members.ensures.value ∙ ap (λ (d : Class). d.enables.items) (sym c.index-classes-place.is)))
    (members_ready c.args.events.now c.loop-place.events c.args.classes.now c.loop-place.place c.index-classes-place.result c.loop-place.invariant.ready c.requires.classes (slice_get-get_or c.args.classes.now c.loop-place.place c.index-classes-place.result c.loop-place-test.true ∙ ap Some (sym c.index-classes-place.is)))

pub first_unlike-requires-clause-latch : goal.first_unlike-requires-clause-latch
first_unlike-requires-clause-latch c = c.loop-place.invariant.ready c.args.latch.now c.requires.latch

pub told_by-requires : goal.told_by-requires
told_by-requires c =
    let first : IsFirstUnlike c.first_unlike.new.events c.index-classes-place.result.enables.items c.args.latch.now c.args.conflicts c.in-Some.unlike = subst (λ (es : List Enable). IsFirstUnlike c.first_unlike.new.events es c.args.latch.now c.args.conflicts c.in-Some.unlike) (c.as_slice-members.ensures.value ∙ ap (λ (d : Class). d.enables.items) (sym c.index-classes-place.is)) (subst (λ (o : Option Unlike). IfSome o (IsFirstUnlike c.first_unlike.new.events c.as_slice-members.result.now c.args.latch.now c.args.conflicts)) c.in-Some.is c.in_ok-found.ensures.unlike) in
    first.unlike

pub returns-in_default-clause-found : goal.returns-in_default-clause-found
returns-in_default-clause-found c = (
  told_later c.args.events.now c.loop-place.events c.first_unlike.new.events c.args.classes.now c.args.latch.now c.args.conflicts c.loop-place.told.items c.first_unlike.ensures.grows c.loop-place.invariant.told,
  c.loop-place.invariant.long,
  (
    c.index-classes-place.result,
    subst (λ (n : ℕ). slice_get c.args.classes.now n ≡ Some c.index-classes-place.result) (sym c.loop-place.invariant.long) (slice_get-get_or c.args.classes.now c.loop-place.place c.index-classes-place.result c.loop-place-test.true ∙ ap Some (sym c.index-classes-place.is)),
    agreed_since c.args.events.now c.loop-place.events c.first_unlike.new.events c.loop-place.invariant.grows c.first_unlike.ensures.grows c.keeps.ensures.events c.index-classes-place.result.enables.items c.args.latch.now
        (subst (λ (es : List Enable). All (λ (x : Enable). AreSameEnables c.first_unlike.new.events x c.args.latch.now) es) (c.as_slice-members.ensures.value ∙ ap (λ (d : Class). d.enables.items) (sym c.index-classes-place.is)) (subst (λ (o : Option Unlike). IfNone o (All (λ (x : Enable). AreSameEnables c.first_unlike.new.events x c.args.latch.now) c.as_slice-members.result.now)) c.in_default.is c.in_ok-found.ensures.same)),
  ),
)

pub returns-in-Err-clause-stopped : goal.returns-in-Err-clause-stopped
returns-in-Err-clause-stopped c =
    let first : IsFirstUnlike c.first_unlike.new.events c.index-classes-place.result.enables.items c.args.latch.now c.args.conflicts c.in-Some.unlike = subst (λ (es : List Enable). IsFirstUnlike c.first_unlike.new.events es c.args.latch.now c.args.conflicts c.in-Some.unlike) (c.as_slice-members.ensures.value ∙ ap (λ (d : Class). d.enables.items) (sym c.index-classes-place.is)) (subst (λ (o : Option Unlike). IfSome o (IsFirstUnlike c.first_unlike.new.events c.as_slice-members.result.now c.args.latch.now c.args.conflicts)) c.in-Some.is c.in_ok-found.ensures.unlike) in
    unlike_stopped c.args.events.now c.loop-place.events c.first_unlike.new.events c.args.classes.now c.args.latch.now c.args.conflicts c.loop-place.told.items c.loop-place.place c.index-classes-place.result c.in-Some.unlike c.in-Err.unfit c.loop-place.invariant.told c.loop-place.invariant.long
    (slice_get-get_or c.args.classes.now c.loop-place.place c.index-classes-place.result c.loop-place-test.true ∙ ap Some (sym c.index-classes-place.is)) c.loop-place.invariant.grows c.first_unlike.ensures.grows c.keeps.ensures.events first c.in-Err.ensures.limit

pub returns-in_err-found-clause-ready : goal.returns-in_err-found-clause-ready
returns-in_err-found-clause-ready c = λ x h. c.first_unlike.ensures.ready x (c.loop-place.invariant.ready x h)

pub returns-in_err-found-clause-grows : goal.returns-in_err-found-clause-grows
returns-in_err-found-clause-grows c = grows_trans c.args.events.now c.loop-place.events c.first_unlike.new.events c.loop-place.invariant.grows c.first_unlike.ensures.grows

pub returns-in_err-found-clause-room : goal.returns-in_err-found-clause-room
returns-in_err-found-clause-room c = λ small. let few = c.first_unlike.ensures.few in omega (arith, few, c.if-size-members-ge-NODES.false, c.size.ensures)

pub returns-in_err-found-clause-rest : goal.returns-in_err-found-clause-rest
returns-in_err-found-clause-rest c = c.first_unlike.ensures.rest ∙ ap (λ (w : EventGraphView). record w { graph = c.first_unlike.new.events.graph }) c.loop-place.invariant.rest

pub returns-in_default-clause-ready : goal.returns-in_default-clause-ready
returns-in_default-clause-ready c = λ x h. c.first_unlike.ensures.ready x (c.loop-place.invariant.ready x h)

pub returns-in_default-clause-grows : goal.returns-in_default-clause-grows
returns-in_default-clause-grows c = grows_trans c.args.events.now c.loop-place.events c.first_unlike.new.events c.loop-place.invariant.grows c.first_unlike.ensures.grows

pub returns-in_default-clause-room : goal.returns-in_default-clause-room
returns-in_default-clause-room c = λ small. let few = c.first_unlike.ensures.few in omega (arith, few, c.if-size-members-ge-NODES.false, c.size.ensures)

pub returns-in_default-clause-rest : goal.returns-in_default-clause-rest
returns-in_default-clause-rest c = c.first_unlike.ensures.rest ∙ ap (λ (w : EventGraphView). record w { graph = c.first_unlike.new.events.graph }) c.loop-place.invariant.rest

pub returns-in-Err-clause-ready : goal.returns-in-Err-clause-ready
returns-in-Err-clause-ready c = λ x h. c.first_unlike.ensures.ready x (c.loop-place.invariant.ready x h)

pub returns-in-Err-clause-grows : goal.returns-in-Err-clause-grows
returns-in-Err-clause-grows c = grows_trans c.args.events.now c.loop-place.events c.first_unlike.new.events c.loop-place.invariant.grows c.first_unlike.ensures.grows

pub returns-in-Err-clause-room : goal.returns-in-Err-clause-room
returns-in-Err-clause-room c = λ small. let few = c.first_unlike.ensures.few in omega (arith, few, c.if-size-members-ge-NODES.false, c.size.ensures)

pub returns-in-Err-clause-rest : goal.returns-in-Err-clause-rest
returns-in-Err-clause-rest c = c.first_unlike.ensures.rest ∙ ap (λ (w : EventGraphView). record w { graph = c.first_unlike.new.events.graph }) c.loop-place.invariant.rest

pub returns-in_err-push-in-Ok-clause-ready : goal.returns-in_err-push-in-Ok-clause-ready
returns-in_err-push-in-Ok-clause-ready c = λ x h. c.first_unlike.ensures.ready x (c.loop-place.invariant.ready x h)

pub returns-in_err-push-in-Ok-clause-grows : goal.returns-in_err-push-in-Ok-clause-grows
returns-in_err-push-in-Ok-clause-grows c = grows_trans c.args.events.now c.loop-place.events c.first_unlike.new.events c.loop-place.invariant.grows c.first_unlike.ensures.grows

pub returns-in_err-push-in-Ok-clause-room : goal.returns-in_err-push-in-Ok-clause-room
returns-in_err-push-in-Ok-clause-room c = λ small. let few = c.first_unlike.ensures.few in omega (arith, few, c.if-size-members-ge-NODES.false, c.size.ensures)

pub returns-in_err-push-in-Ok-clause-rest : goal.returns-in_err-push-in-Ok-clause-rest
returns-in_err-push-in-Ok-clause-rest c = c.first_unlike.ensures.rest ∙ ap (λ (w : EventGraphView). record w { graph = c.first_unlike.new.events.graph }) c.loop-place.invariant.rest

pub loop-place-preserved : goal.loop-place-preserved
loop-place-preserved c =
    let first : IsFirstUnlike c.first_unlike.new.events c.index-classes-place.result.enables.items c.args.latch.now c.args.conflicts c.in-Some.unlike = subst (λ (es : List Enable). IsFirstUnlike c.first_unlike.new.events es c.args.latch.now c.args.conflicts c.in-Some.unlike) (c.as_slice-members.ensures.value ∙ ap (λ (d : Class). d.enables.items) (sym c.index-classes-place.is)) (subst (λ (o : Option Unlike). IfSome o (IsFirstUnlike c.first_unlike.new.events c.as_slice-members.result.now c.args.latch.now c.args.conflicts)) c.in-Some.is c.in_ok-found.ensures.unlike) in
    let here : slice_get c.args.classes.now (length c.loop-place.told.items) ≡ Some c.index-classes-place.result = subst (λ (n : ℕ). slice_get c.args.classes.now n ≡ Some c.index-classes-place.result) (sym c.loop-place.invariant.long) (slice_get-get_or c.args.classes.now c.loop-place.place c.index-classes-place.result c.loop-place-test.true ∙ ap Some (sym c.index-classes-place.is)) in
    let pushed : c.push.new.self.items ≡ c.loop-place.told.items ++ c.in-Ok.one ∷ [] = c.in_ok-push-in-Ok.ensures.items in
    record {
      told = subst (λ (ts : List Told). AreTold c.args.events.now c.first_unlike.new.events c.args.classes.now c.args.latch.now c.args.conflicts ts) (sym pushed)
          (told_next c.args.events.now c.loop-place.events c.first_unlike.new.events c.args.classes.now c.args.latch.now c.args.conflicts c.loop-place.told.items c.index-classes-place.result c.in-Ok.one c.loop-place.invariant.grows c.first_unlike.ensures.grows c.loop-place.invariant.told here
          (unlike_told c.loop-place.events c.first_unlike.new.events c.index-classes-place.result.enables.items c.args.latch.now c.args.conflicts c.in-Some.unlike c.in-Ok.one c.first_unlike.ensures.grows c.keeps.ensures.events first c.in-Ok.ensures.told));
      long = let e = ap length pushed in omega (arith, e, c.loop-place.invariant.long, length-append c.loop-place.told.items (c.in-Ok.one ∷ []));
      ready = λ x h. c.first_unlike.ensures.ready x (c.loop-place.invariant.ready x h);
      grows = grows_trans c.args.events.now c.loop-place.events c.first_unlike.new.events c.loop-place.invariant.grows c.first_unlike.ensures.grows;
      room = λ small. let few = c.first_unlike.ensures.few in omega (arith, few, c.if-size-members-ge-NODES.false, c.size.ensures);
      rest = c.first_unlike.ensures.rest ∙ ap (λ (w : EventGraphView). record w { graph = c.first_unlike.new.events.graph }) c.loop-place.invariant.rest;
    }
