use Rattle.std.proofs.Common.{◌≡◌, ◌∙◌, ℕ, not, Bool, true, false, List, map, take, slice_get, Some, refl, sym, ap}
use Rattle.base_tables.specs.Table.{is_among}
use Rattle.base_tables.proofs.TableLemmas.{is_among-at, slice_get-take}
use Rattle.circuit_theory.specs.declared.Side.{Side}
use Rattle.circuit_theory.proofs.Lists.{map_at}
use Rattle.net_names.specs.Pairs.{StandsTwice}
use Rattle.net_names.specs.Renamed.{name_on}
use Rattle.net_names.specs.declared.latch_pairs.LatchPair.{LatchPair}
use Rattle.net_names.proofs.Copies.{item_at}
use Rattle.net_names.proofs.latch_pairs.table_of.Goals as goal

-- what isn't new was there
was_there : (added there : Bool) → added ≡ not there → added ≡ false → there ≡ true
was_there added true e f = refl
was_there added false e f = absurd (let g : true ≡ false = sym e ∙ f in cc)

twice : (side : Side) (ps : List LatchPair) (j : ℕ) (p : LatchPair) → slice_get ps j ≡ Some p → is_among (map (name_on side) (take j ps)) (name_on side p) ≡ true → StandsTwice ps p.line
twice side ps j p at there =
    let i = is_among-at (map (name_on side) (take j ps)) (name_on side p) there in
    let first = map_at (name_on side) (take j ps) i.0 (name_on side p) i.1 in
    let low = slice_get-take j ps i.0 first.0 first.1 in
    record { side = side; earlier = i.0; later = j; before = low.0; first = first.0; second = p; first_at = low.1; second_at = at; same = first.2; line_is = refl }

pub returns-then-not-branch-clause-err : goal.returns-then-not-branch-clause-err
returns-then-not-branch-clause-err c =
    let ps = c.args.pairs.now in
    let side = c.args.side in
    let j = c.loop-pair.pair-index in
    let p = c.pair-item.result in
    let there = was_there c.in_ok-add.field-0 (is_among c.loop-pair.names c.name_on.result.now) c.in_ok-add.ensures.new c.if-not-branch.true in
    twice side ps j p (item_at ps ps j p refl c.loop-pair-test.true c.pair-item.is)
    (sym (ap (λ (ns : List (List ℕ)). is_among ns (name_on side p)) c.loop-pair.invariant) ∙ ap (is_among c.loop-pair.names) (sym c.name_on.ensures) ∙ there)
