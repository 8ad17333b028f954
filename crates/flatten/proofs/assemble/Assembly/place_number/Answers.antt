use Rattle.std.proofs.Common.{◌≡◌, ◌+◌, ◌<◌, ◌++◌, ◌∙◌, ℕ, false, List, length, map, take, slice_get, Some, refl, sym, ap, subst, arith}
use Rattle.std.specs.Prelude.{slice_index_or, slice_set}
use Rattle.std.specs.List.{All, Contains}
use Rattle.std.proofs.lemmas.List.{length-map}
use Rattle.std.proofs.lemmas.Option.{slice_get-get_or}
use Rattle.circuit_theory.specs.Cover.{Cover}
use Rattle.circuit_theory.proofs.Lists.{All-from_each, of_at}
use Rattle.base_tables.specs.Table.{is_among}
use Rattle.flat_net.specs.declared.signals.Signal.{Signal}
use Rattle.flat_net.specs.Makes.{MakerView}
use Rattle.elaborate.specs.declared.flat.FlatStatement.{FlatStatement}
use Rattle.elaborate.specs.declared.flat.FlatKind.{FlatKind}
use Rattle.elaborate.specs.Flat.{cover_at}
use Rattle.flatten.specs.Graph.{quick_reads}
use Rattle.flatten.specs.Gated.{first_made, gates_in}
use Rattle.net_assembly.proofs.Building.{statement_at, name_in, room_for, new_name}
use Rattle.flatten.proofs.Gating.{source_within, number_low, read_low, covers_room, port_reads, gate_width, step_default, step_latch, step_joins, gate_fresh, fanins_low, code_gates, on_ok, some_and, some_and_from, same_gates}
use Rattle.flatten.proofs.assemble.Assembly.place_number.Goals as goal

pub returns-in_default : goal.returns-in_default
returns-in_default c =
    let n : ℕ = slice_index_or c.args.order.now c.args.place 0 in
    let at = slice_get-get_or c.args.order.now c.args.place 0 c.requires.place in
    let low = number_low c.args.models.now c.args.flat.now c.args.wired.now c.args.order.now c.requires.laid c.args.place n at c.requires.numbers in
    record {
      has = step_default c.args.models.now c.args.flat.now c.args.wired.now c.args.order.now c.requires.laid c.args.place n at c.args.self.now.maker.net c.args.self.now.signals.items c.args.self.now.covers c.requires.has c.source.result c.source.ensures c.in_default.not-Statement low;
      rest = record { set = refl; inputs = refl; outputs = refl; latches = refl; clock = refl };
    }

pub bounds-as_slice-at : goal.bounds-as_slice-at
bounds-as_slice-at c =
    let n : ℕ = slice_index_or c.args.order.now c.args.place 0 in
    let at = slice_get-get_or c.args.order.now c.args.place 0 c.requires.place in
    let within = source_within c.args.flat.now c.args.wired.now.sources n c.in-Statement.at c.source.result c.requires.laid.within c.source.ensures c.in-Statement.is in
    let e = ap length c.as_slice.ensures in
    omega (arith, within, e)

pub first_read-requires : goal.first_read-requires
first_read-requires c =
    let n : ℕ = slice_index_or c.args.order.now c.args.place 0 in
    let at = slice_get-get_or c.args.order.now c.args.place 0 c.requires.place in
    let s : FlatStatement = c.index-as_slice-at.result in
    let within = source_within c.args.flat.now c.args.wired.now.sources n c.in-Statement.at c.source.result c.requires.laid.within c.source.ensures c.in-Statement.is in
    let hn = c.source.ensures ∙ ap Some c.in-Statement.is in
    let hk = statement_at c.args.flat.now.statements c.as_slice.result.now c.in-Statement.at s c.as_slice.ensures (let e = ap length c.as_slice.ensures in omega (arith, within, e)) c.index-as_slice-at.is in
    let one = port_reads c.args.models.now c.args.flat.now c.in-Statement.at s c.requires.shaped hk c.in-Port.is in
    omega (arith, one)

pub join-requires-clause-from : goal.join-requires-clause-from
join-requires-clause-from c =
    let n : ℕ = slice_index_or c.args.order.now c.args.place 0 in
    let at = slice_get-get_or c.args.order.now c.args.place 0 c.requires.place in
    let s : FlatStatement = c.index-as_slice-at.result in
    let within = source_within c.args.flat.now c.args.wired.now.sources n c.in-Statement.at c.source.result c.requires.laid.within c.source.ensures c.in-Statement.is in
    let hn = c.source.ensures ∙ ap Some c.in-Statement.is in
    let hk = statement_at c.args.flat.now.statements c.as_slice.result.now c.in-Statement.at s c.as_slice.ensures (let e = ap length c.as_slice.ensures in omega (arith, within, e)) c.index-as_slice-at.is in
    let l = read_low c.args.models.now c.args.flat.now c.args.wired.now c.args.order.now c.requires.laid c.args.place n at c.requires.numbers c.in-Statement.at c.first_read.result s hn hk (subst (λ (q : FlatKind). Contains (quick_reads s.reads q) c.first_read.result) (sym c.in-Port.is) (of_at s.reads 0 c.first_read.result c.first_read.ensures)) in
    omega (arith, l, c.requires.has.built.size)

pub cover_number-requires-clause-room : goal.cover_number-requires-clause-room
cover_number-requires-clause-room c =
    let n : ℕ = slice_index_or c.args.order.now c.args.place 0 in
    let at = slice_get-get_or c.args.order.now c.args.place 0 c.requires.place in
    covers_room c.args.models.now c.args.flat.now c.args.wired.now c.args.order.now c.requires.laid c.args.place n at c.requires.numbers (length c.args.self.now.covers) c.requires.has.few (omega arith)

pub signals_of-requires : goal.signals_of-requires
signals_of-requires c =
    let n : ℕ = slice_index_or c.args.order.now c.args.place 0 in
    let at = slice_get-get_or c.args.order.now c.args.place 0 c.requires.place in
    let s : FlatStatement = c.index-as_slice-at.result in
    let within = source_within c.args.flat.now c.args.wired.now.sources n c.in-Statement.at c.source.result c.requires.laid.within c.source.ensures c.in-Statement.is in
    let hn = c.source.ensures ∙ ap Some c.in-Statement.is in
    let hk = statement_at c.args.flat.now.statements c.as_slice.result.now c.in-Statement.at s c.as_slice.ensures (let e = ap length c.as_slice.ensures in omega (arith, within, e)) c.index-as_slice-at.is in
    subst (λ (ns : List ℕ). All (λ m. m < length c.cover_number.new.self.signals.items) ns) (sym c.as_slice-in-Gate.ensures)
    (All-from_each (λ m. m < length c.cover_number.new.self.signals.items) s.reads (λ r there.
    (let l = read_low c.args.models.now c.args.flat.now c.args.wired.now c.args.order.now c.requires.laid c.args.place n at c.requires.numbers c.in-Statement.at r s hn hk (subst (λ (q : FlatKind). Contains (quick_reads s.reads q) r) (sym c.in-Gate.is) there) in
    let e = ap length c.in_ok-cover-in-Gate.ensures.signals in
    omega (arith, l, e, c.requires.has.built.size))))

pub add_gate-requires-clause-room : goal.add_gate-requires-clause-room
add_gate-requires-clause-room c =
    let n : ℕ = slice_index_or c.args.order.now c.args.place 0 in
    let at = slice_get-get_or c.args.order.now c.args.place 0 c.requires.place in
    let low = number_low c.args.models.now c.args.flat.now c.args.wired.now c.args.order.now c.requires.laid c.args.place n at c.requires.numbers in
    let s : FlatStatement = c.index-as_slice-at.result in
    let within = source_within c.args.flat.now c.args.wired.now.sources n c.in-Statement.at c.source.result c.requires.laid.within c.source.ensures c.in-Statement.is in
    let hn = c.source.ensures ∙ ap Some c.in-Statement.is in
    let hk = statement_at c.args.flat.now.statements c.as_slice.result.now c.in-Statement.at s c.as_slice.ensures (let e = ap length c.as_slice.ensures in omega (arith, within, e)) c.index-as_slice-at.is in
    let room = room_for c.args.flat.now.names (first_made c.args.flat.now c.args.wired.now ++ gates_in c.args.flat.now c.args.wired.now (take c.args.place c.args.order.now)) c.args.self.now.maker.net c.args.self.now.signals.items c.requires.has.built n low (gate_fresh c.args.models.now c.args.flat.now c.args.wired.now c.args.order.now c.requires.laid c.args.place n at c.args.self.now.maker.net c.args.self.now.signals.items c.args.self.now.covers c.requires.has c.in-Statement.at c.in-Gate.model c.in-Gate.at s hn hk c.in-Gate.is) (omega arith) in
    let e = ap (λ (m : MakerView). length m.net.drivers) c.in_ok-cover-in-Gate.ensures.net in
    omega (arith, room, e)

pub add_gate-requires-clause-new : goal.add_gate-requires-clause-new
add_gate-requires-clause-new c =
    let n : ℕ = slice_index_or c.args.order.now c.args.place 0 in
    let at = slice_get-get_or c.args.order.now c.args.place 0 c.requires.place in
    let low = number_low c.args.models.now c.args.flat.now c.args.wired.now c.args.order.now c.requires.laid c.args.place n at c.requires.numbers in
    let s : FlatStatement = c.index-as_slice-at.result in
    let within = source_within c.args.flat.now c.args.wired.now.sources n c.in-Statement.at c.source.result c.requires.laid.within c.source.ensures c.in-Statement.is in
    let hn = c.source.ensures ∙ ap Some c.in-Statement.is in
    let hk = statement_at c.args.flat.now.statements c.as_slice.result.now c.in-Statement.at s c.as_slice.ensures (let e = ap length c.as_slice.ensures in omega (arith, within, e)) c.index-as_slice-at.is in
    ap (λ (m : MakerView). is_among m.net.names c.name.result.now) c.in_ok-cover-in-Gate.ensures.net
    ∙ subst (λ word. is_among c.args.self.now.maker.net.names word ≡ false) (name_in c.args.flat.now.names n c.name.result.now c.name.ensures)
    (new_name c.args.flat.now.names (first_made c.args.flat.now c.args.wired.now ++ gates_in c.args.flat.now c.args.wired.now (take c.args.place c.args.order.now)) c.args.self.now.maker.net c.args.self.now.signals.items c.requires.has.built n low (gate_fresh c.args.models.now c.args.flat.now c.args.wired.now c.args.order.now c.requires.laid c.args.place n at c.args.self.now.maker.net c.args.self.now.signals.items c.args.self.now.covers c.requires.has c.in-Statement.at c.in-Gate.model c.in-Gate.at s hn hk c.in-Gate.is) c.args.flat.now.distinct)

pub add_gate-requires-clause-within : goal.add_gate-requires-clause-within
add_gate-requires-clause-within c =
    let n : ℕ = slice_index_or c.args.order.now c.args.place 0 in
    let at = slice_get-get_or c.args.order.now c.args.place 0 c.requires.place in
    let s : FlatStatement = c.index-as_slice-at.result in
    let within = source_within c.args.flat.now c.args.wired.now.sources n c.in-Statement.at c.source.result c.requires.laid.within c.source.ensures c.in-Statement.is in
    let hn = c.source.ensures ∙ ap Some c.in-Statement.is in
    let hk = statement_at c.args.flat.now.statements c.as_slice.result.now c.in-Statement.at s c.as_slice.ensures (let e = ap length c.as_slice.ensures in omega (arith, within, e)) c.index-as_slice-at.is in
    let low = fanins_low c.args.models.now c.args.flat.now c.args.wired.now c.args.order.now c.requires.laid c.args.place n at c.args.self.now.maker.net c.args.self.now.signals.items c.args.self.now.covers c.requires.has c.in-Statement.at c.in-Gate.model c.in-Gate.at s hn hk c.in-Gate.is c.in_ok-fanins-in-Gate.fanins (c.in_ok-fanins-in-Gate.ensures ∙ ap (λ (ss : List Signal). map (λ m. slice_index_or ss m (record { 0 = 0 })) c.as_slice-in-Gate.result.now) c.in_ok-cover-in-Gate.ensures.signals ∙ ap (map (λ m. slice_index_or c.args.self.now.signals.items m (record { 0 = 0 }))) c.as_slice-in-Gate.ensures) in
    subst (λ (v : MakerView). All (λ (f : Signal). f.0 < length v.net.drivers) c.in_ok-fanins-in-Gate.fanins) (sym c.in_ok-cover-in-Gate.ensures.net) low

pub add_gate-requires-clause-fits : goal.add_gate-requires-clause-fits
add_gate-requires-clause-fits c =
    let n : ℕ = slice_index_or c.args.order.now c.args.place 0 in
    let at = slice_get-get_or c.args.order.now c.args.place 0 c.requires.place in
    let s : FlatStatement = c.index-as_slice-at.result in
    let within = source_within c.args.flat.now c.args.wired.now.sources n c.in-Statement.at c.source.result c.requires.laid.within c.source.ensures c.in-Statement.is in
    let hn = c.source.ensures ∙ ap Some c.in-Statement.is in
    let hk = statement_at c.args.flat.now.statements c.as_slice.result.now c.in-Statement.at s c.as_slice.ensures (let e = ap length c.as_slice.ensures in omega (arith, within, e)) c.index-as_slice-at.is in
    let width = gate_width c.args.models.now c.args.flat.now c.in-Statement.at c.in-Gate.model c.in-Gate.at s c.requires.shaped hk c.in-Gate.is in
    let count = ap length (c.in_ok-fanins-in-Gate.ensures ∙ ap (λ (ss : List Signal). map (λ m. slice_index_or ss m (record { 0 = 0 })) c.as_slice-in-Gate.result.now) c.in_ok-cover-in-Gate.ensures.signals ∙ ap (map (λ m. slice_index_or c.args.self.now.signals.items m (record { 0 = 0 }))) c.as_slice-in-Gate.ensures) ∙ length-map s.reads (λ m. slice_index_or c.args.self.now.signals.items m (record { 0 = 0 })) in
    some_and_from (slice_get c.cover_number.new.self.maker.net.covers c.in_ok-cover-in-Gate.cover) (λ (x : Cover). x.width ≡ length c.in_ok-fanins-in-Gate.fanins) (cover_at c.args.models.now c.in-Gate.model c.in-Gate.at)
    c.in_ok-cover-in-Gate.ensures.cover (width ∙ sym count)

pub returns-in-Latch-clause-has : goal.returns-in-Latch-clause-has
returns-in-Latch-clause-has c =
    let n : ℕ = slice_index_or c.args.order.now c.args.place 0 in
    let at = slice_get-get_or c.args.order.now c.args.place 0 c.requires.place in
    let low = number_low c.args.models.now c.args.flat.now c.args.wired.now c.args.order.now c.requires.laid c.args.place n at c.requires.numbers in
    let s : FlatStatement = c.index-as_slice-at.result in
    let within = source_within c.args.flat.now c.args.wired.now.sources n c.in-Statement.at c.source.result c.requires.laid.within c.source.ensures c.in-Statement.is in
    let hn = c.source.ensures ∙ ap Some c.in-Statement.is in
    let hk = statement_at c.args.flat.now.statements c.as_slice.result.now c.in-Statement.at s c.as_slice.ensures (let e = ap length c.as_slice.ensures in omega (arith, within, e)) c.index-as_slice-at.is in
    step_latch c.args.models.now c.args.flat.now c.args.wired.now c.args.order.now c.requires.laid c.args.place n at c.args.self.now.maker.net c.args.self.now.signals.items c.args.self.now.covers c.requires.has c.in-Statement.at s c.in-Latch.edge c.in-Latch.control c.in-Latch.init hn hk c.in-Latch.is low

pub returns-in-Port-clause-has : goal.returns-in-Port-clause-has
returns-in-Port-clause-has c =
    let n : ℕ = slice_index_or c.args.order.now c.args.place 0 in
    let at = slice_get-get_or c.args.order.now c.args.place 0 c.requires.place in
    let s : FlatStatement = c.index-as_slice-at.result in
    let within = source_within c.args.flat.now c.args.wired.now.sources n c.in-Statement.at c.source.result c.requires.laid.within c.source.ensures c.in-Statement.is in
    let hn = c.source.ensures ∙ ap Some c.in-Statement.is in
    let hk = statement_at c.args.flat.now.statements c.as_slice.result.now c.in-Statement.at s c.as_slice.ensures (let e = ap length c.as_slice.ensures in omega (arith, within, e)) c.index-as_slice-at.is in
    let x = some_and (slice_get c.args.self.now.signals.items c.first_read.result) (λ y. c.join.new.self.signals.items ≡ slice_set c.args.self.now.signals.items n y) c.join.ensures.signals in
    same_gates c.args.models.now c.args.flat.now c.args.wired.now c.args.order.now c.args.self.now.maker.net c.join.new.self.maker.net c.join.new.self.signals.items c.args.self.now.covers c.join.new.self.covers (c.args.place + 1)
    (ap (λ (m : MakerView). m.net) c.join.ensures.net) c.join.ensures.covers
    (step_joins c.args.models.now c.args.flat.now c.args.wired.now c.args.order.now c.requires.laid c.args.place n at c.args.self.now.maker.net c.args.self.now.signals.items c.args.self.now.covers c.requires.has c.in-Statement.at c.first_read.result s hn hk c.in-Port.is (of_at s.reads 0 c.first_read.result c.first_read.ensures) x.0 c.join.new.self.signals.items x.1 x.2)

pub returns-in_ok-fanins-in-Gate-clause-has : goal.returns-in_ok-fanins-in-Gate-clause-has
returns-in_ok-fanins-in-Gate-clause-has c =
    let n : ℕ = slice_index_or c.args.order.now c.args.place 0 in
    let at = slice_get-get_or c.args.order.now c.args.place 0 c.requires.place in
    let low = number_low c.args.models.now c.args.flat.now c.args.wired.now c.args.order.now c.requires.laid c.args.place n at c.requires.numbers in
    let s : FlatStatement = c.index-as_slice-at.result in
    let within = source_within c.args.flat.now c.args.wired.now.sources n c.in-Statement.at c.source.result c.requires.laid.within c.source.ensures c.in-Statement.is in
    let hn = c.source.ensures ∙ ap Some c.in-Statement.is in
    let hk = statement_at c.args.flat.now.statements c.as_slice.result.now c.in-Statement.at s c.as_slice.ensures (let e = ap length c.as_slice.ensures in omega (arith, within, e)) c.index-as_slice-at.is in
    on_ok c.add_gate.result c.add_gate.ensures.net c.add_gate.ensures.signals c.add_gate.ensures.covers (λ en es ec.
    same_gates c.args.models.now c.args.flat.now c.args.wired.now c.args.order.now c.add_gate.new.self.maker.net c.add_gate.new.self.maker.net c.add_gate.new.self.signals.items c.cover_number.new.self.covers c.add_gate.new.self.covers (c.args.place + 1) refl ec
    (code_gates c.args.models.now c.args.flat.now c.args.wired.now c.args.order.now c.requires.laid c.args.place n at c.args.self.now.maker.net c.args.self.now.signals.items c.args.self.now.covers c.requires.has c.in-Statement.at c.in-Gate.model c.in-Gate.at s hn hk c.in-Gate.is low c.cover_number.new.self.covers c.in_ok-cover-in-Gate.cover c.cover_number.new.self.maker.net c.add_gate.new.self.maker.net c.cover_number.new.self.signals.items c.add_gate.new.self.signals.items
    c.in_ok-fanins-in-Gate.fanins c.as_slice-in-Gate.result.now c.name.result.now c.in_ok-cover-in-Gate.ensures.covers c.in_ok-cover-in-Gate.ensures.grown c.in_ok-cover-in-Gate.ensures.few c.in_ok-cover-in-Gate.ensures.cover
    (ap (λ (m : MakerView). m.net) c.in_ok-cover-in-Gate.ensures.net) c.in_ok-cover-in-Gate.ensures.signals c.as_slice-in-Gate.ensures c.in_ok-fanins-in-Gate.ensures (name_in c.args.flat.now.names n c.name.result.now c.name.ensures)
    (ap (λ (m : MakerView). m.net) en) es))

pub name-requires : goal.name-requires
name-requires c = c.requires.numbers c.args.place 0 c.requires.place

pub add_gate-requires-clause-number : goal.add_gate-requires-clause-number
add_gate-requires-clause-number c =
    subst (λ (k : ℕ). slice_index_or c.args.order.now c.args.place 0 < k) (sym (ap length c.in_ok-cover-in-Gate.ensures.signals ∙ c.requires.has.built.size)) (c.requires.numbers c.args.place 0 c.requires.place)

pub join-requires-clause-number : goal.join-requires-clause-number
join-requires-clause-number c =
    subst (λ (k : ℕ). slice_index_or c.args.order.now c.args.place 0 < k) (sym c.requires.has.built.size) (c.requires.numbers c.args.place 0 c.requires.place)
