-- A latch that founds a class.
use Rattle.std.proofs.Common.{arith}
use Rattle.std.proofs.lemmas.Result.{on_ok_weaker}
use Rattle.std.specs.Prelude.{◌≡◌, is_ok, true}
use Rattle.event_classes.proofs.Limiting.{error_is, many_no_large, many_no_limit, when_ok}
use Rattle.event_classes.proofs.Stopping.{class_over}
use Rattle.event_classes.proofs.joining.found_class.Goals as goal

pub put_founded-requires : goal.put_founded-requires
put_founded-requires c = record {
  latch = c.requires.latch;
  enable = c.requires.enable;
  own = c.requires.own;
  ready = c.requires.ready;
  absent = c.requires.absent;
  fits = c.requires.fits;
  told = c.requires.told;
  few = omega (arith, c.if-len-ge-MAX_EVENT_CLASSES.false, c.len.ensures);
}

pub returns-clause-goes_on : goal.returns-clause-goes_on
returns-clause-goes_on c = on_ok_weaker c.of_memory.result (λ (e : is_ok c.put_founded.result ≡ true). when_ok c.put_founded.result e c.put_founded.ensures) c.of_memory.ensures.done

pub returns-clause-many : goal.returns-clause-many
returns-clause-many c = λ is. absurd (c.of_memory.ensures.many is)

pub returns-clause-large : goal.returns-clause-large
returns-clause-large c = c.of_memory.ensures.large

pub returns-clause-limit : goal.returns-clause-limit
returns-clause-limit c = c.of_memory.ensures.limit

pub returns-then-len-ge-MAX_EVENT_CLASSES-clause-many : goal.returns-then-len-ge-MAX_EVENT_CLASSES-clause-many
returns-then-len-ge-MAX_EVENT_CLASSES-clause-many c = λ is. class_over c.args.map.now c.args.tag (omega (arith, c.if-len-ge-MAX_EVENT_CLASSES.true, c.len.ensures)) c.requires.fits

pub returns-then-len-ge-MAX_EVENT_CLASSES-clause-large : goal.returns-then-len-ge-MAX_EVENT_CLASSES-clause-large
returns-then-len-ge-MAX_EVENT_CLASSES-clause-large c = λ side is. many_no_large (error_is is)

pub returns-then-len-ge-MAX_EVENT_CLASSES-clause-limit : goal.returns-then-len-ge-MAX_EVENT_CLASSES-clause-limit
returns-then-len-ge-MAX_EVENT_CLASSES-clause-limit c = λ latch other proof is. many_no_limit (error_is is)
