-- The next latch.
use Rattle.std.proofs.Common.{ℕ, Err, subst, ap, inl, inr}
use Rattle.std.proofs.lemmas.Result.{err_from_is_err_and, on_ok_weaker}
use Rattle.event_classes.proofs.Limiting.{error_is, when_ok}
use Rattle.event_classes.proofs.Stopping.{within_of, within_before, class_before, limit_before}
use Rattle.std.specs.Prelude.{◌≡◌, Option, IfSome, Contains, is_ok, true}
use Rattle.event_classes.specs.declared.map.ClassMap.{ClassMap}
use Rattle.event_classes.specs.Map.{GoesOn, taken_of, with_next}
use Rattle.event_classes.proofs.NextLatch.{made_grows, known_fits, known_goes_on, tag_same, next_same}
use Rattle.event_classes.proofs.Setting.{goes_on_from}
use Rattle.event_classes.proofs.joining.join_next.Goals as goal

pub next_enable-requires-clause-within : goal.next_enable-requires-clause-within
next_enable-requires-clause-within c = c.requires.made.1.within

pub take_latch-requires : goal.take_latch-requires
take_latch-requires c = tag_same c.args.map.now c.next_enable.new.map c.args.tag (ap (λ (m : ClassMap). m.left) c.next_enable.ensures.same) (ap (λ (m : ClassMap). m.right) c.next_enable.ensures.same) c.requires.latch

pub returns-in-Some-clause-goes_on : goal.returns-in-Some-clause-goes_on
returns-in-Some-clause-goes_on c =
    let here = subst (λ (found : Option ℕ). IfSome found (λ k. Contains c.next_enable.new.map.table ((c.in_ok-enable.enable.value.0, c.in_ok-enable.enable.care.0), k))) c.in-Some.is c.class_of.ensures.here in
    on_ok_weaker c.of_memory.result (λ (e : is_ok c.take_latch.result ≡ true).
    goes_on_from c.args.map.now c.next_enable.new.map c.take_latch.new.map c.args.tag (taken_of c.args.map.now) (with_next c.next_enable.new.map c.args.tag) (ap (λ (m : ClassMap). m.left) c.next_enable.ensures.same) (ap (λ (m : ClassMap). m.right) c.next_enable.ensures.same) (ap (λ (m : ClassMap). m.taken) c.next_enable.ensures.same) (made_grows c.args.map.now c.next_enable.new.map c.next_enable.ensures.same c.keeps.ensures.events c.in_ok-enable.ensures.grows (λ before. c.in_ok-enable.ensures.within)) c.in_ok-enable.ensures.counts
    (known_goes_on c.next_enable.new.map c.take_latch.new.map c.args.tag c.in-Some.class c.in_ok-enable.enable (record { left_sound = c.keeps-2.ensures.sound; right_sound = c.keeps-3.ensures.sound; left = c.keeps-2.ensures.circuit; right = c.keeps-3.ensures.circuit; events = c.keeps-4.ensures.events }) (tag_same c.args.map.now c.next_enable.new.map c.args.tag (ap (λ (m : ClassMap). m.left) c.next_enable.ensures.same) (ap (λ (m : ClassMap). m.right) c.next_enable.ensures.same) c.requires.latch) c.in_ok-enable.ensures.enable
    (known_fits c.next_enable.new.map c.args.tag c.in-Some.class c.in_ok-enable.enable (record { left_sound = c.keeps-2.ensures.sound; right_sound = c.keeps-3.ensures.sound; left = c.keeps-2.ensures.circuit; right = c.keeps-3.ensures.circuit; events = c.keeps-4.ensures.events }) c.in_ok-enable.ensures.enable here) (when_ok c.take_latch.result e c.take_latch.ensures.set) (when_ok c.take_latch.result e c.take_latch.ensures.taken) (ap (λ (m : ClassMap). m.events) c.take_latch.ensures.rest) (ap (λ (m : ClassMap). m.left_count) c.take_latch.ensures.rest)
    (ap (λ (m : ClassMap). m.right_count) c.take_latch.ensures.rest) here (ap (λ (m : ClassMap). m.table) c.take_latch.ensures.rest) (ap (λ (m : ClassMap). m.classes.items) c.take_latch.ensures.rest) (ap (λ (m : ClassMap). m.aparts.items) c.take_latch.ensures.rest)))
    c.of_memory.ensures.done

pub returns-in-Some-clause-many : goal.returns-in-Some-clause-many
returns-in-Some-clause-many c = λ is. absurd (c.of_memory.ensures.many is)

pub returns-in-Some-clause-large : goal.returns-in-Some-clause-large
returns-in-Some-clause-large c = λ side is. absurd (c.of_memory.ensures.large side is)

pub returns-in-Some-clause-limit : goal.returns-in-Some-clause-limit
returns-in-Some-clause-limit c = λ latch other proof is. absurd (c.of_memory.ensures.limit latch other proof is)

pub join_asked-requires-clause-latch : goal.join_asked-requires-clause-latch
join_asked-requires-clause-latch c = tag_same c.args.map.now c.next_enable.new.map c.args.tag (ap (λ (m : ClassMap). m.left) c.next_enable.ensures.same) (ap (λ (m : ClassMap). m.right) c.next_enable.ensures.same) c.requires.latch

pub join_asked-requires-clause-made : goal.join_asked-requires-clause-made
join_asked-requires-clause-made c = next_same c.args.map.now c.next_enable.new.map c.args.tag (ap (λ (m : ClassMap). m.left) c.next_enable.ensures.same) (ap (λ (m : ClassMap). m.right) c.next_enable.ensures.same) (made_grows c.args.map.now c.next_enable.new.map c.next_enable.ensures.same c.keeps.ensures.events c.in_ok-enable.ensures.grows (λ before. c.in_ok-enable.ensures.within)) c.requires.made

pub returns-clause-goes_on : goal.returns-clause-goes_on
returns-clause-goes_on c =
    on_ok_weaker c.join_asked.result (λ (on : GoesOn c.next_enable.new.map c.join_asked.new.map c.args.tag (with_next c.next_enable.new.map c.args.tag)).
    goes_on_from c.args.map.now c.next_enable.new.map c.join_asked.new.map c.args.tag (taken_of c.args.map.now) (with_next c.next_enable.new.map c.args.tag) (ap (λ (m : ClassMap). m.left) c.next_enable.ensures.same) (ap (λ (m : ClassMap). m.right) c.next_enable.ensures.same) (ap (λ (m : ClassMap). m.taken) c.next_enable.ensures.same) (made_grows c.args.map.now c.next_enable.new.map c.next_enable.ensures.same c.keeps.ensures.events c.in_ok-enable.ensures.grows (λ before. c.in_ok-enable.ensures.within)) c.in_ok-enable.ensures.counts on)
    c.join_asked.ensures.goes_on

pub returns-clause-many : goal.returns-clause-many
returns-clause-many c = λ is rest made counts. inr (
  within_before c.args.map.now c.next_enable.new.map c.args.tag c.next_enable.ensures.same
      (within_of c.next_enable.new.map (with_next c.next_enable.new.map c.args.tag) c.keeps-2.ensures.sound c.keeps-3.ensures.sound c.keeps-4.ensures.events c.keeps-5.ensures c.keeps-6.ensures c.in_ok-enable.ensures.within (c.in_ok-enable.ensures.counts counts)),
  class_before c.args.map.now c.next_enable.new.map c.args.tag c.next_enable.ensures.same (made_grows c.args.map.now c.next_enable.new.map c.next_enable.ensures.same c.keeps.ensures.events c.in_ok-enable.ensures.grows (λ before. c.in_ok-enable.ensures.within)) (c.join_asked.ensures.many is) rest made,
)

pub returns-clause-large : goal.returns-clause-large
returns-clause-large c = λ side is. absurd (c.join_asked.ensures.large side is)

pub returns-clause-limit : goal.returns-clause-limit
returns-clause-limit c = λ latch other proof is. (
  (λ counts. within_before c.args.map.now c.next_enable.new.map c.args.tag c.next_enable.ensures.same
      (within_of c.next_enable.new.map (with_next c.next_enable.new.map c.args.tag) c.keeps-2.ensures.sound c.keeps-3.ensures.sound c.keeps-4.ensures.events c.keeps-5.ensures c.keeps-6.ensures c.in_ok-enable.ensures.within (c.in_ok-enable.ensures.counts counts))),
  limit_before c.args.map.now c.next_enable.new.map c.args.tag c.next_enable.ensures.same (made_grows c.args.map.now c.next_enable.new.map c.next_enable.ensures.same c.keeps.ensures.events c.in_ok-enable.ensures.grows (λ before. c.in_ok-enable.ensures.within)) c.args.conflicts latch other proof (c.join_asked.ensures.limit latch other proof is),
)

pub returns-in_err-enable-clause-many : goal.returns-in_err-enable-clause-many
returns-in_err-enable-clause-many c =
    let p = err_from_is_err_and c.from_residual.result c.from_residual.ensures.1 in
    rw (p.1, p.2) (λ is rest made counts. inl (c.in_err-enable.ensures.many (ap Err (error_is is)) counts))

pub returns-in_err-enable-clause-large : goal.returns-in_err-enable-clause-large
returns-in_err-enable-clause-large c =
    let p = err_from_is_err_and c.from_residual.result c.from_residual.ensures.1 in
    λ side. rw (p.1, p.2) (λ is. c.in_err-enable.ensures.large side (ap Err (error_is is)))

pub returns-in_err-enable-clause-limit : goal.returns-in_err-enable-clause-limit
returns-in_err-enable-clause-limit c =
    let p = err_from_is_err_and c.from_residual.result c.from_residual.ensures.1 in
    λ latch other proof. rw (p.1, p.2) (λ is. absurd (c.in_err-enable.ensures.limit latch other proof (ap Err (error_is is))))
