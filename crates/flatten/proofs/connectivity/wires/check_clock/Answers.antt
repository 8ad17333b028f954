use Rattle.std.proofs.Common.{◌<◌, length, get_or, Some, sym, ap, subst, ◌∙◌}
use Rattle.std.proofs.lemmas.Option.{slice_get-get_or}
use Rattle.flatten.specs.declared.connectivity.source.Source.TheVariants as source
use Rattle.flatten.specs.connectivity.Wiring.{wires_of}
use Rattle.flatten.proofs.connectivity.Bounds.{bounded}
use Rattle.flatten.proofs.connectivity.ClockNets.{gated_from, not_gated, first_clock_read, never_clock_read}
use Rattle.flatten.proofs.connectivity.Told.{clock_within, told_gated, told_read}
use Rattle.flatten.proofs.connectivity.wires.check_clock.Goals as goal

pub bounds : goal.bounds
bounds c = subst (λ n. c.args.clock < n) (sym c.requires.tables.len) (clock_within c.args.flat.now c.keeps.ensures c.requires.clock.0.0 c.args.clock c.requires.clock.0.1)

pub returns-in-Statement-clause-err : goal.returns-in-Statement-clause-err
returns-in-Statement-clause-err c =
    let flat = c.args.flat.now in
    let clock = c.args.clock in
    let t = c.args.sources.now in
    let below = subst (λ n. clock < n) (sym c.requires.tables.len) (clock_within flat c.keeps.ensures c.requires.clock.0.0 clock c.requires.clock.0.1) in
    let own = c.requires.tables.sources clock (source.Statement c.in-Statement.field-0) (slice_get-get_or t clock source.Open below ∙ ap Some c.in-Statement.is) in
    told_gated flat c.keeps.ensures c.requires.single c.requires.driven c.requires.one_clock c.requires.one_edge clock c.in_ok-name_of.field-0 c.in_ok-name_of.ensures
    (gated_from flat c.keeps.ensures c.in-Statement.field-0 clock own c.requires.clock.0)

pub returns-in-Some : goal.returns-in-Some
returns-in-Some c =
    let flat = c.args.flat.now in
    let clock = c.args.clock in
    let t = c.args.sources.now in
    let below = subst (λ n. clock < n) (sym c.requires.tables.len) (clock_within flat c.keeps.ensures c.requires.clock.0.0 clock c.requires.clock.0.1) in
    let own = c.requires.tables.sources clock (get_or t clock source.Open) (slice_get-get_or t clock source.Open below) in
    let ungated = not_gated flat c.keeps.ensures c.requires.single clock (get_or t clock source.Open) c.requires.clock own c.in_default.not-Statement in
    let first = first_clock_read (wires_of flat) (length flat.names) (bounded flat c.keeps.ensures) c.args.nets.now c.requires.tables.nets clock c.requires.clock c.in-Some.reader c.in-Some.ensures.reader in
    record {
      ok = tt;
      err = told_read flat c.keeps.ensures c.requires.single c.requires.driven c.requires.one_clock c.requires.one_edge ungated c.in-Some.reader c.in_ok-name_of-2.field-0 c.in_ok-name_of-2.ensures first;
    }

pub returns : goal.returns
returns c =
    let flat = c.args.flat.now in
    let clock = c.args.clock in
    let t = c.args.sources.now in
    let below = subst (λ n. clock < n) (sym c.requires.tables.len) (clock_within flat c.keeps.ensures c.requires.clock.0.0 clock c.requires.clock.0.1) in
    let own = c.requires.tables.sources clock (get_or t clock source.Open) (slice_get-get_or t clock source.Open below) in
    record {
      ok = record {
        single = c.requires.single;
        driven = c.requires.driven;
        one_clock = c.requires.one_clock;
        one_edge = c.requires.one_edge;
        not_gated = not_gated flat c.keeps.ensures c.requires.single clock (get_or t clock source.Open) c.requires.clock own c.in_default.not-Statement;
        not_read = never_clock_read (wires_of flat) (length flat.names) (bounded flat c.keeps.ensures) c.args.nets.now c.requires.tables.nets clock c.requires.clock c.in_default-net_reader.ensures.reader;
      };
      err = tt;
    }

pub name_of-requires : goal.name_of-requires
name_of-requires c = clock_within c.args.flat.now c.keeps.ensures c.requires.clock.0.0 c.args.clock c.requires.clock.0.1
