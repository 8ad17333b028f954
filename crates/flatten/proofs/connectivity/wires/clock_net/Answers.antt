use Rattle.std.proofs.Common.{◌<◌, ◌∙◌, ℕ, List, length, sym, subst}
use Rattle.std.specs.Prelude.{All}
use Rattle.std.proofs.lemmas.Result.{err_from_is_err_and}
use Rattle.flatten.specs.connectivity.Wiring.{wires_of}
use Rattle.flatten.specs.connectivity.Events.{IsFirst}
use Rattle.flatten.specs.connectivity.Clocks.{AreOneNet, OtherNet}
use Rattle.flatten.proofs.connectivity.Bounds.{bounded}
use Rattle.flatten.proofs.connectivity.ClockNets.{clocks_below, first_other_clock, never_other_clock, clock_is}
use Rattle.flatten.proofs.connectivity.Told.{clock_within, told_clocks, told_edges}
use Rattle.flatten.proofs.connectivity.wires.clock_net.Goals as goal

pub one_net-found-requires : goal.one_net-found-requires
one_net-found-requires c =
    let flat = c.args.flat.now in
    subst (λ (n : ℕ). All (λ m. m < n) c.deref.result.now) (sym c.requires.tables.nets.len)
    (subst (λ (zs : List ℕ). All (λ m. m < length flat.names) zs) (sym (c.deref.ensures.value ∙ c.in_ok-signals.ensures))
    (clocks_below (wires_of flat) (length flat.names) (bounded flat c.keeps.ensures) c.args.nets.now c.requires.tables.nets))

pub name_of-requires : goal.name_of-requires
name_of-requires c =
    let flat = c.args.flat.now in
    let first = first_other_clock (wires_of flat) (length flat.names) (bounded flat c.keeps.ensures) c.args.nets.now c.requires.tables.nets c.in-Err.other
    (subst (λ (zs : List ℕ). IsFirst (OtherNet c.args.nets.now zs) c.in-Err.other) (c.deref.ensures.value ∙ c.in_ok-signals.ensures) c.in-Err.ensures) in
    clock_within flat c.keeps.ensures first.at c.in-Err.other first.here.own

pub returns-in-Err-clause-err : goal.returns-in-Err-clause-err
returns-in-Err-clause-err c =
    let flat = c.args.flat.now in
    let first = first_other_clock (wires_of flat) (length flat.names) (bounded flat c.keeps.ensures) c.args.nets.now c.requires.tables.nets c.in-Err.other
    (subst (λ (zs : List ℕ). IsFirst (OtherNet c.args.nets.now zs) c.in-Err.other) (c.deref.ensures.value ∙ c.in_ok-signals.ensures) c.in-Err.ensures) in
    told_clocks flat c.keeps.ensures c.requires.single c.requires.driven c.in-Err.other c.in_ok-name_of-in-Err.field-0 c.in_ok-name_of-in-Err.ensures first

pub returns-in-Some-clause-err : goal.returns-in-Some-clause-err
returns-in-Some-clause-err c =
    let flat = c.args.flat.now in
    let one = subst (λ (zs : List ℕ). AreOneNet c.args.nets.now zs c.in-Ok.clock) (c.deref.ensures.value ∙ c.in_ok-signals.ensures) c.in-Ok.ensures in
    let one_clock = never_other_clock (wires_of flat) (length flat.names) (bounded flat c.keeps.ensures) c.args.nets.now c.requires.tables.nets c.in-Ok.clock one in
    told_edges flat c.keeps.ensures c.requires.single c.requires.driven one_clock c.in-Some.latch c.in_ok-name_of.field-0 c.in_ok-name_of.ensures c.in-Some.ensures.edge

pub check_clocked-requires-clause-one_clock : goal.check_clocked-requires-clause-one_clock
check_clocked-requires-clause-one_clock c =
    let flat = c.args.flat.now in
    let one = subst (λ (zs : List ℕ). AreOneNet c.args.nets.now zs c.in-Ok.clock) (c.deref.ensures.value ∙ c.in_ok-signals.ensures) c.in-Ok.ensures in
    never_other_clock (wires_of flat) (length flat.names) (bounded flat c.keeps.ensures) c.args.nets.now c.requires.tables.nets c.in-Ok.clock one

pub check_clocked-requires-clause-clock : goal.check_clocked-requires-clause-clock
check_clocked-requires-clause-clock c =
    let flat = c.args.flat.now in
    let one = subst (λ (zs : List ℕ). AreOneNet c.args.nets.now zs c.in-Ok.clock) (c.deref.ensures.value ∙ c.in_ok-signals.ensures) c.in-Ok.ensures in
    clock_is (wires_of flat) (length flat.names) (bounded flat c.keeps.ensures) c.args.nets.now c.requires.tables.nets c.in-Ok.clock one

pub returns-clause-ok : goal.returns-clause-ok
returns-clause-ok c =
    let flat = c.args.flat.now in
    let one = subst (λ (zs : List ℕ). AreOneNet c.args.nets.now zs c.in-Ok.clock) (c.deref.ensures.value ∙ c.in_ok-signals.ensures) c.in-Ok.ensures in
    (c.in_ok-check_clocked.ensures.ok, clock_is (wires_of flat) (length flat.names) (bounded flat c.keeps.ensures) c.args.nets.now c.requires.tables.nets c.in-Ok.clock one)

pub check_clocked-requires-clause-one_edge : goal.check_clocked-requires-clause-one_edge
check_clocked-requires-clause-one_edge c = c.in_default.ensures.edge

pub returns-in_err-check_clocked-clause-err : goal.returns-in_err-check_clocked-clause-err
returns-in_err-check_clocked-clause-err c =
    let p = err_from_is_err_and c.from_residual-in_err-check_clocked.result c.from_residual-in_err-check_clocked.ensures.1 in
    rw (p.1, p.2) c.in_err-check_clocked.ensures.err
