-- One place more.
use Rattle.std.proofs.Common.{◌≡◌, ◌∙◌, ◌+◌, ◌≤◌, ◌<◌, ℕ, Bool, true, List, length, map, take, get_or, nat_eq, refl, sym, ap, subst, arith}
use Rattle.std.proofs.lemmas.List.{take_all}
use Rattle.indexmap.specs.IndexMap.{get}
use Rattle.circuit_theory.specs.Cover.{row_matches}
use Rattle.flat_net.specs.declared.signals.Signal.{Signal}
use Rattle.latch_kinds.specs.declared.unate_enable.ways.Way.{Way}
use Rattle.latch_kinds.specs.unate_enable.Raises.{MayGo, still, both_ways, at_place, way_in}
use Rattle.latch_kinds.proofs.unate_enable.Raised.{go_equal, row_step}
use Rattle.latch_kinds.proofs.unate_enable.ways.row_way.Goals as goal

pub loop-k-init : goal.loop-k-init
loop-k-init c = λ low high all. subst (λ (w : Way). MayGo w true true) (sym c.still-way.ensures) (go_equal still true true refl)

pub loop-k-preserved : goal.loop-k-preserved
loop-k-preserved c = λ low high all.
    let ways = way_in (get nat_eq c.args.ways.now) in
    let f = get_or c.args.fanins.now c.loop-k.k (record { 0 = 0 }) in
    let is : c.both_ways-way.result ≡ both_ways c.loop-k.way (at_place (get_or c.args.row.now c.loop-k.k 0) (way_in (get nat_eq c.args.ways.now) (get_or c.args.fanins.now c.loop-k.k (record { 0 = 0 })).0)) =
    c.both_ways-way.ensures ∙ ap (both_ways c.loop-k.way) (c.at_place-more.ensures ∙ ap (at_place (get_or c.args.row.now c.loop-k.k 0)) c.way_at.ensures) in
    subst (λ (w : Way). MayGo w (row_matches (take (c.loop-k.k + 1) c.args.row.now) (map low (map (λ (s : Signal). s.0) (take (c.loop-k.k + 1) c.args.fanins.now)))) (row_matches (take (c.loop-k.k + 1) c.args.row.now) (map high (map (λ (s : Signal). s.0) (take (c.loop-k.k + 1) c.args.fanins.now))))) (sym is)
    (row_step ways c.args.fanins.now c.args.row.now c.loop-k.k (record { 0 = 0 }) c.loop-k.way c.requires c.loop-k-test.true low high all (c.loop-k.invariant low high all))

pub returns : goal.returns
returns c = λ low high all.
    let whole : length c.args.fanins.now ≤ c.loop-k.k = omega (arith, c.loop-k-test.false) in
    subst (λ (l : List ℕ). MayGo c.loop-k.way (row_matches l (map low (map (λ (s : Signal). s.0) c.args.fanins.now))) (row_matches l (map high (map (λ (s : Signal). s.0) c.args.fanins.now)))) (take_all c.loop-k.k c.args.row.now (omega (arith, whole, c.requires)))
    (subst (λ (l : List Signal). MayGo c.loop-k.way (row_matches (take c.loop-k.k c.args.row.now) (map low (map (λ (s : Signal). s.0) l))) (row_matches (take c.loop-k.k c.args.row.now) (map high (map (λ (s : Signal). s.0) l)))) (take_all c.loop-k.k c.args.fanins.now whole)
    (c.loop-k.invariant low high all))
