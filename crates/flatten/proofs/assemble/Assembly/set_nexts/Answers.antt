use Rattle.std.proofs.Common.{◌≡◌, ◌∙◌, ◌++◌, Bool, true, List, length, take, drop, set, replicate, slice_get, refl, sym, ap, subst, arith}
use Rattle.std.specs.List.{All}
use Rattle.std.proofs.lemmas.Option.{slice_get_within}
use Rattle.flat_net.specs.declared.signals.Signal.{Signal}
use Rattle.flat_net.specs.View.{NetView}
use Rattle.flat_net.specs.Makes.{with_next}
use Rattle.elaborate.specs.declared.flat.FlatStatement.{FlatStatement}
use Rattle.elaborate.specs.declared.flat.FlatKind.{FlatKind}
use Rattle.net_assembly.specs.Built.{latch_out}
use Rattle.net_assembly.specs.Shown.{with_nexts, signal_at, latch_data, latch_nexts}
use Rattle.net_assembly.proofs.Building.{statement_at, out_within}
use Rattle.net_assembly.proofs.Nexts.{nexts_start, nexts_pass, nexts_take, no_data, read_within, first_is, latch_there, next_within, all_set, latch_count, take_whole, read_at}
use Rattle.flatten.proofs.assemble.Assembly.set_nexts.Goals as goal

pub loop-statement-init : goal.loop-statement-init
loop-statement-init c =
    (nexts_start c.args.flat.now.statements c.args.self.now.signals.items c.args.self.now.maker, refl)

pub loop-statement-preserved-in_default : goal.loop-statement-preserved-in_default
loop-statement-preserved-in_default c =
    let s : FlatStatement = c.statement-item.result in
    let at = statement_at c.args.flat.now.statements c.as_slice-statement-items.result.now c.loop-statement.statement-index s c.as_slice-statement-items.ensures c.loop-statement-test.true c.statement-item.is in
    let has = c.loop-statement.invariant.0 in
    let same = c.loop-statement.invariant.1 in
    (nexts_pass c.args.flat.now.statements c.args.self.now.signals.items c.args.self.now.maker c.loop-statement.self.maker c.loop-statement.statement-index s at has (no_data s.kind s.out s.reads (λ edge control init e. c.in_default.not-Latch edge control init e)), same)

pub index-next-requires : goal.index-next-requires
index-next-requires c =
    let s : FlatStatement = c.statement-item.result in
    let at = statement_at c.args.flat.now.statements c.as_slice-statement-items.result.now c.loop-statement.statement-index s c.as_slice-statement-items.ensures c.loop-statement-test.true c.statement-item.is in
    let has = c.loop-statement.invariant.0 in
    let same = c.loop-statement.invariant.1 in
    let r = c.first_read.result in
    let low = read_within (length c.args.flat.now.names) c.args.flat.now.statements c.loop-statement.statement-index s r c.args.flat.now.within at c.first_read.ensures in
    let k = ap length same in
    omega (arith, low, k, c.requires.size)

pub set_next-requires-clause-latch : goal.set_next-requires-clause-latch
set_next-requires-clause-latch c =
    let s : FlatStatement = c.statement-item.result in
    let at = statement_at c.args.flat.now.statements c.as_slice-statement-items.result.now c.loop-statement.statement-index s c.as_slice-statement-items.ensures c.loop-statement-test.true c.statement-item.is in
    let has = c.loop-statement.invariant.0 in
    let same = c.loop-statement.invariant.1 in
    let lo = out_within (length c.args.flat.now.names) c.args.flat.now.statements c.loop-statement.statement-index s c.args.flat.now.within at in
    let latch = read_at c.loop-statement.self.signals.items c.args.self.now.signals.items s.out c.index-latch.result.now same (omega (arith, lo, c.requires.size)) c.index-latch.ensures in
    let place = latch_there c.args.flat.now.statements c.args.self.now.signals.items c.args.self.now.maker.net c.loop-statement.statement-index s at (ap (λ (k : FlatKind). latch_out k s.out) c.in-Latch.is) c.requires.outs in
    let count = length (latch_nexts c.args.self.now.signals.items (take c.loop-statement.statement-index c.args.flat.now.statements)) in
    let drives = ap (λ (n : NetView). slice_get n.drivers c.index-latch.result.now.0) has.net ∙ ap (λ (x : Signal). slice_get c.args.self.now.maker.net.drivers x.0) (sym (place.2 ∙ latch)) ∙ (c.keeps.ensures.sound.latches count place.0 place.1).owner in
    (count, drives)

pub set_next-requires-clause-within : goal.set_next-requires-clause-within
set_next-requires-clause-within c =
    let s : FlatStatement = c.statement-item.result in
    let at = statement_at c.args.flat.now.statements c.as_slice-statement-items.result.now c.loop-statement.statement-index s c.as_slice-statement-items.ensures c.loop-statement-test.true c.statement-item.is in
    let has = c.loop-statement.invariant.0 in
    let same = c.loop-statement.invariant.1 in
    let r = c.first_read.result in
    let low = read_within (length c.args.flat.now.names) c.args.flat.now.statements c.loop-statement.statement-index s r c.args.flat.now.within at c.first_read.ensures in
    let next = ap (signal_at c.args.self.now.signals.items) (first_is s.out s.reads r c.first_read.ensures) ∙ read_at c.loop-statement.self.signals.items c.args.self.now.signals.items r c.index-next.result.now same (omega (arith, low, c.requires.size)) c.index-next.ensures in
    let takes = ap (λ (k : FlatKind). latch_data k s.out s.reads) c.in-Latch.is in
    let l = next_within c.args.flat.now.statements c.args.self.now.signals.items c.args.self.now.maker.net c.loop-statement.statement-index s at takes c.requires.within in
    let d = ap (λ (n : NetView). length n.drivers) has.net in
    let e = ap (λ (x : Signal). x.0) next in
    omega (arith, l, d, e)

pub loop-statement-preserved : goal.loop-statement-preserved
loop-statement-preserved c =
    let s : FlatStatement = c.statement-item.result in
    let at = statement_at c.args.flat.now.statements c.as_slice-statement-items.result.now c.loop-statement.statement-index s c.as_slice-statement-items.ensures c.loop-statement-test.true c.statement-item.is in
    let has = c.loop-statement.invariant.0 in
    let same = c.loop-statement.invariant.1 in
    let r = c.first_read.result in
    let low = read_within (length c.args.flat.now.names) c.args.flat.now.statements c.loop-statement.statement-index s r c.args.flat.now.within at c.first_read.ensures in
    let lo = out_within (length c.args.flat.now.names) c.args.flat.now.statements c.loop-statement.statement-index s c.args.flat.now.within at in
    let latch = read_at c.loop-statement.self.signals.items c.args.self.now.signals.items s.out c.index-latch.result.now same (omega (arith, lo, c.requires.size)) c.index-latch.ensures in
    let place = latch_there c.args.flat.now.statements c.args.self.now.signals.items c.args.self.now.maker.net c.loop-statement.statement-index s at (ap (λ (k : FlatKind). latch_out k s.out) c.in-Latch.is) c.requires.outs in
    let count = length (latch_nexts c.args.self.now.signals.items (take c.loop-statement.statement-index c.args.flat.now.statements)) in
    let drives = ap (λ (n : NetView). slice_get n.drivers c.index-latch.result.now.0) has.net ∙ ap (λ (x : Signal). slice_get c.args.self.now.maker.net.drivers x.0) (sym (place.2 ∙ latch)) ∙ (c.keeps.ensures.sound.latches count place.0 place.1).owner in
    let next = ap (signal_at c.args.self.now.signals.items) (first_is s.out s.reads r c.first_read.ensures) ∙ read_at c.loop-statement.self.signals.items c.args.self.now.signals.items r c.index-next.result.now same (omega (arith, low, c.requires.size)) c.index-next.ensures in
    let takes = ap (λ (k : FlatKind). latch_data k s.out s.reads) c.in-Latch.is in (
      nexts_take c.args.flat.now.statements c.args.self.now.signals.items c.args.self.now.maker c.loop-statement.self.maker c.loop-statement.statement-index s at has takes (slice_get_within c.args.self.now.maker.net.latches count place.0 place.1) c.keeps.ensures.set c.set_next.new.self
          (c.set_next.ensures count drives ∙ ap (λ (x : Signal). record { net = with_next c.loop-statement.self.maker.net count x; set = set c.loop-statement.self.maker.set count true }) (sym next)),
      same,
    )

pub returns-clause-set : goal.returns-clause-set
returns-clause-set c =
    let has = c.loop-statement.invariant.0 in
    let e = ap length c.as_slice-statement-items.ensures in
    let whole = take_whole c.loop-statement.statement-index c.args.flat.now.statements (λ l. omega (arith, l, e, c.loop-statement-test.false)) in
    let count = latch_count c.args.flat.now.statements c.args.self.now.signals.items c.args.self.now.maker.net.latches c.requires.outs in
    subst (All (λ (b : Bool). b ≡ true)) (sym (has.set ∙ ap (λ (ss : List FlatStatement). replicate (length (latch_nexts c.args.self.now.signals.items ss)) true ++ drop (length (latch_nexts c.args.self.now.signals.items ss)) c.args.self.now.maker.set) whole))
    (all_set (length (latch_nexts c.args.self.now.signals.items c.args.flat.now.statements)) c.args.self.now.maker.set (c.keeps.ensures.set ∙ count))

pub index-latch-requires : goal.index-latch-requires
index-latch-requires c =
    let s : FlatStatement = c.statement-item.result in
    let at = statement_at c.args.flat.now.statements c.as_slice-statement-items.result.now c.loop-statement.statement-index s c.as_slice-statement-items.ensures c.loop-statement-test.true c.statement-item.is in
    let low = out_within (length c.args.flat.now.names) c.args.flat.now.statements c.loop-statement.statement-index s c.args.flat.now.within at in
    let k = ap length c.loop-statement.invariant.1 in
    omega (arith, low, k, c.requires.size)

pub returns-clause-net : goal.returns-clause-net
returns-clause-net c =
    let before = c.args.self.now.maker.net in
    let e = ap length c.as_slice-statement-items.ensures in
    let whole = take_whole c.loop-statement.statement-index c.args.flat.now.statements (λ l. omega (arith, l, e, c.loop-statement-test.false)) in
    c.loop-statement.invariant.0.net ∙ ap (λ (ss : List FlatStatement). record before { latches = with_nexts before.latches (latch_nexts c.args.self.now.signals.items ss) }) whole
