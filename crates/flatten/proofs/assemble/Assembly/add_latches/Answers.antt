use Rattle.std.proofs.Common.{◌≡◌, ◌<◌, ◌≤◌, ◌++◌, List, false, length, take, arith, sym, ◌∙◌, ap, subst}
use Rattle.std.proofs.lemmas.List.{length-append, take_all}
use Rattle.base_tables.specs.Table.{is_among}
use Rattle.elaborate.specs.declared.flat.FlatKind.{FlatKind}
use Rattle.elaborate.specs.declared.flat.FlatStatement.{FlatStatement}
use Rattle.flat_net.specs.View.{NetView}
use Rattle.flat_net.specs.Makes.{MakerView, with_latch}
use Rattle.net_assembly.specs.Built.{IsBuilt, latch_out, latch_outs, with_latch_of}
use Rattle.net_assembly.proofs.Building.{statement_at, out_within, not_latch, name_in, latch_fresh, latches_pass, latches_take, room_for, new_name}
use Rattle.flatten.proofs.assemble.Assembly.add_latches.Goals as goal

pub loop-statement-preserved-in_default : goal.loop-statement-preserved-in_default
loop-statement-preserved-in_default c =
    let at = statement_at c.args.flat.now.statements c.as_slice-statement-items.result.now c.loop-statement.statement-index c.statement-item.result c.as_slice-statement-items.ensures c.loop-statement-test.true c.statement-item.is in
    let l = out_within (length c.args.flat.now.names) c.args.flat.now.statements c.loop-statement.statement-index c.statement-item.result c.args.flat.now.within at in
    let none = not_latch c.args.flat.now.names c.statement-item.result.kind c.statement-item.result.out c.loop-statement.self.maker.net (λ edge control init e. c.in_default.not-Latch edge control init e) in
    ((λ made can. latches_pass c.args.flat.now.names made c.args.flat.now.statements c.args.self.now.maker.net c.loop-statement.self.maker.net c.loop-statement.self.signals.items c.loop-statement.statement-index c.statement-item.result at (c.loop-statement.invariant.0 made can) none.0 none.1), c.loop-statement.invariant.1)

pub add_latch-requires-clause-room : goal.add_latch-requires-clause-room
add_latch-requires-clause-room c =
    let at = statement_at c.args.flat.now.statements c.as_slice-statement-items.result.now c.loop-statement.statement-index c.statement-item.result c.as_slice-statement-items.ensures c.loop-statement-test.true c.statement-item.is in
    let l = out_within (length c.args.flat.now.names) c.args.flat.now.statements c.loop-statement.statement-index c.statement-item.result c.args.flat.now.within at in
    let has = c.loop-statement.invariant.0 c.requires.0 c.requires.1 in
    let is_latch = ap (λ (k : FlatKind). latch_out k c.statement-item.result.out) c.in-Latch.is in
    room_for c.args.flat.now.names (c.requires.0 ++ latch_outs (take c.loop-statement.statement-index c.args.flat.now.statements)) c.loop-statement.self.maker.net c.loop-statement.self.signals.items has.built c.statement-item.result.out l (latch_fresh c.args.flat.now.names c.requires.0 c.args.flat.now.statements c.args.self.now.maker.net c.loop-statement.self.maker.net c.loop-statement.self.signals.items c.loop-statement.statement-index c.statement-item.result at has is_latch c.requires.1.distinct) (omega arith)

pub add_latch-requires-clause-new : goal.add_latch-requires-clause-new
add_latch-requires-clause-new c =
    let at = statement_at c.args.flat.now.statements c.as_slice-statement-items.result.now c.loop-statement.statement-index c.statement-item.result c.as_slice-statement-items.ensures c.loop-statement-test.true c.statement-item.is in
    let l = out_within (length c.args.flat.now.names) c.args.flat.now.statements c.loop-statement.statement-index c.statement-item.result c.args.flat.now.within at in
    let has = c.loop-statement.invariant.0 c.requires.0 c.requires.1 in
    let is_latch = ap (λ (k : FlatKind). latch_out k c.statement-item.result.out) c.in-Latch.is in
    subst (λ word. is_among c.loop-statement.self.maker.net.names word ≡ false) (name_in c.args.flat.now.names c.statement-item.result.out c.name.result.now c.name.ensures)
    (new_name c.args.flat.now.names (c.requires.0 ++ latch_outs (take c.loop-statement.statement-index c.args.flat.now.statements)) c.loop-statement.self.maker.net c.loop-statement.self.signals.items has.built c.statement-item.result.out l (latch_fresh c.args.flat.now.names c.requires.0 c.args.flat.now.statements c.args.self.now.maker.net c.loop-statement.self.maker.net c.loop-statement.self.signals.items c.loop-statement.statement-index c.statement-item.result at has is_latch c.requires.1.distinct) c.args.flat.now.distinct)

pub loop-statement-preserved : goal.loop-statement-preserved
loop-statement-preserved c =
    let at = statement_at c.args.flat.now.statements c.as_slice-statement-items.result.now c.loop-statement.statement-index c.statement-item.result c.as_slice-statement-items.ensures c.loop-statement-test.true c.statement-item.is in
    let l = out_within (length c.args.flat.now.names) c.args.flat.now.statements c.loop-statement.statement-index c.statement-item.result c.args.flat.now.within at in
    let is_latch = ap (λ (k : FlatKind). latch_out k c.statement-item.result.out) c.in-Latch.is in
    let name = name_in c.args.flat.now.names c.statement-item.result.out c.name.result.now c.name.ensures in
    let net = ap (λ (m : MakerView). m.net) c.in_ok-add_latch.ensures.net ∙ ap (λ word. with_latch c.loop-statement.self.maker.net word c.in-Latch.init) (sym name) in (
      (λ made can. latches_take c.args.flat.now.names made c.args.flat.now.statements c.args.self.now.maker.net c.loop-statement.self.maker.net c.loop-statement.self.signals.items c.loop-statement.statement-index c.statement-item.result at (c.loop-statement.invariant.0 made can) is_latch can.distinct l c.add_latch.new.self.maker.net c.add_latch.new.self.signals.items
          (net ∙ sym (ap (λ (k : FlatKind). with_latch_of c.args.flat.now.names k c.statement-item.result.out c.loop-statement.self.maker.net) c.in-Latch.is))
          (ap (λ (n : NetView). n.names) net) (ap (λ (n : NetView). length n.drivers) net ∙ length-append c.loop-statement.self.maker.net.drivers _)
          c.in_ok-add_latch.ensures.signals),
      c.in_ok-add_latch.ensures.covers ∙ c.loop-statement.invariant.1,
    )

pub name-requires : goal.name-requires
name-requires c =
    let at = statement_at c.args.flat.now.statements c.as_slice-statement-items.result.now c.loop-statement.statement-index c.statement-item.result c.as_slice-statement-items.ensures c.loop-statement-test.true c.statement-item.is in
    out_within (length c.args.flat.now.names) c.args.flat.now.statements c.loop-statement.statement-index c.statement-item.result c.args.flat.now.within at

pub add_latch-requires-clause-number : goal.add_latch-requires-clause-number
add_latch-requires-clause-number c =
    let at = statement_at c.args.flat.now.statements c.as_slice-statement-items.result.now c.loop-statement.statement-index c.statement-item.result c.as_slice-statement-items.ensures c.loop-statement-test.true c.statement-item.is in
    let l = out_within (length c.args.flat.now.names) c.args.flat.now.statements c.loop-statement.statement-index c.statement-item.result c.args.flat.now.within at in
    let has = c.loop-statement.invariant.0 c.requires.0 c.requires.1 in
    subst (λ n. c.statement-item.result.out < n) (sym has.built.size) l

pub returns-clause-built : goal.returns-clause-built
returns-clause-built c = λ made can.
    let past = subst (λ (ss : List FlatStatement). length ss ≤ c.loop-statement.statement-index) c.as_slice-statement-items.ensures c.loop-statement-test.false in
    subst (λ (ss : List FlatStatement). IsBuilt c.args.flat.now.names (made ++ latch_outs ss) c.loop-statement.self.maker.net c.loop-statement.self.signals.items) (take_all c.loop-statement.statement-index c.args.flat.now.statements past) (c.loop-statement.invariant.0 made can).built
