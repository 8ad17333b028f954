-- The number of the next key goes to the first free place.
use Rattle.std.proofs.Common.{◌≡◌, ℕ, List, take, refl, subst, arith}
use Rattle.std.proofs.lemmas.List.{take_all}
use Rattle.base_tables.specs.unique_table.Places.{IsFree, IsTable}
use Rattle.base_tables.proofs.unique_table.Filling.{table-none, table-next}
use Rattle.base_tables.proofs.unique_table.search.filled.Goals as goal

pub loop-number-init : goal.loop-number-init
loop-number-init g c = table-none g.K.Key.place_at c.args.tries (take 0 c.args.keys.now) c.in_ok-slots.slots.items c.args.len refl (c.in_ok-slots.ensures.items_if_clones_equal (λ y e. e))

pub offset_bounds-keys-number : goal.offset_bounds-keys-number
offset_bounds-keys-number g c = omega (arith, c.loop-number-test.true)

pub bounds-keys-number : goal.bounds-keys-number
bounds-keys-number g c = c.loop-number-test.true

pub overflow_cast-number : goal.overflow_cast-number
overflow_cast-number g c = omega (arith, c.loop-number-test.true, c.requires.few)

pub overflow_add-number : goal.overflow_add-number
overflow_add-number g c = omega (arith, c.loop-number-test.true, c.requires.few)

pub index_mut-requires : goal.index_mut-requires
index_mut-requires g c = omega (arith, c.in-Some.ensures.within, c.as_slice.ensures.len)

pub loop-number-smaller : goal.loop-number-smaller
loop-number-smaller g c = omega (arith, c.loop-number-test.true)

pub loop-number-preserved : goal.loop-number-preserved
loop-number-preserved g c =
    let there : IsFree (g.K.Key.place_at c.index-keys-number.result) c.args.tries c.loop-number.slots.items c.in-Some.place =
    subst (λ (slots : List ℕ). IsFree (g.K.Key.place_at c.index-keys-number.result) c.args.tries slots c.in-Some.place) c.as_slice.ensures.value c.in-Some.ensures in
    table-next g.K.Key.place_at c.args.tries c.args.keys.now c.loop-number.slots.items c.loop-number.number c.in-Some.place c.index-keys-number.result c.requires.once c.requires.few c.loop-number-test.true c.loop-number.invariant
    (subst (λ (k : g.row.K.Denot). IsFree (g.K.Key.place_at k) c.args.tries c.loop-number.slots.items c.in-Some.place) c.index-keys-number.is there)

pub returns : goal.returns
returns g c =
    let all : take c.loop-number.number c.args.keys.now ≡ c.args.keys.now = take_all c.loop-number.number c.args.keys.now c.loop-number-test.false in
    subst (λ (ks : List g.row.K.Denot). IsTable g.K.Key.place_at c.args.tries ks c.loop-number.slots.items) all c.loop-number.invariant
