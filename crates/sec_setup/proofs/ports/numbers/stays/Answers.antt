use Rattle.std.proofs.Common.{◌≡◌, List, get_or, subst}
use Rattle.flat_net.specs.declared.parts.Port.{Port}
use Rattle.flat_net.specs.View.{ports_of}
use Rattle.sec_setup.proofs.ports.Interfaces.{stays_unclocked, stays_read}
use Rattle.sec_setup.proofs.ports.numbers.stays.Goals as goal

pub returns-then-is_clock : goal.returns-then-is_clock
returns-then-is_clock c = stays_read c.args.own.now c.keeps.ensures.sound (ports_of c.args.other.now) c.args.i c.index-inputs-i.result c.is_clock.result c.input_read.result c.as_slice.result.now
    c.requires (subst (λ (ps : List Port). c.index-inputs-i.result ≡ get_or ps c.args.i c.index-inputs-i.result) c.inputs.ensures c.index-inputs-i.is) c.as_slice.ensures c.is_clock.ensures c.if-is_clock.true c.input_read.ensures

pub returns : goal.returns
returns c = stays_unclocked c.args.own.now (ports_of c.args.other.now) c.args.i c.index-inputs-i.result c.is_clock.result c.as_slice.result.now
    c.requires (subst (λ (ps : List Port). c.index-inputs-i.result ≡ get_or ps c.args.i c.index-inputs-i.result) c.inputs.ensures c.index-inputs-i.is) c.as_slice.ensures c.is_clock.ensures c.if-is_clock.false
