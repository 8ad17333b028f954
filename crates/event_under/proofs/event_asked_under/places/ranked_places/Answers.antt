-- One variable more.
use Rattle.std.proofs.Common.{◌≡◌, ◌≤◌, ◌∙◌, ℕ, length, take, get_or, ap, arith, length-take}
use Rattle.std.proofs.lemmas.List.{take_all}
use Rattle.std.proofs.lemmas.Option.{slice_get_within}
use Rattle.circuit_theory.proofs.Lists.{length-map}
use Rattle.flat_net.proofs.Places.{All-at}
use Rattle.event_nodes.specs.event_variables.ranked_nodes.Named.{ranked_in}
use Rattle.event_under.proofs.event_asked_under.Tables.{next_ranked}
use Rattle.event_under.proofs.event_asked_under.places.ranked_places.Goals as goal

pub bounds-ranks-node : goal.bounds-ranks-node
bounds-ranks-node c =
    let w = c.args.events.now in
    let p = c.place-input.result in
    let placed : p.1 ≤ length w.children = All-at (λ (q : ℕ × ℕ). q.1 ≤ length w.children) w.places c.loop-v.v p c.place-input.ensures c.keeps.ensures.events.placed in
    let i = c.requires.each p.1 placed in
    slice_get_within c.args.ranks.now p.1 i.0 i.1

pub intern-requires : goal.intern-requires
intern-requires c =
    let f : ℕ × ℕ → ℕ × ℕ = λ q. (q.0, get_or c.args.ranks.now q.1 0) in
    let xs = c.args.events.now.places in
    let v = c.loop-v.v in
    let size : length c.loop-v.table ≡ length (take v xs) = ap length c.loop-v.invariant ∙ length-map f (take v xs) in
    omega (arith, size, length-take v xs, c.loop-v-test.true, c.variables-count.ensures)

pub loop-v-preserved : goal.loop-v-preserved
loop-v-preserved c =
    next_ranked c.args.events.now c.keeps.ensures.events c.args.ranks.now c.requires.each c.requires.apart c.loop-v.v c.place-input.result c.place-input.ensures c.loop-v.table c.intern.new.self c.loop-v.invariant c.in_ok-intern.ensures.added

pub returns : goal.returns
returns c = c.loop-v.invariant ∙ ap (ranked_in c.args.ranks.now) (take_all c.loop-v.v c.args.events.now.places (omega (arith, c.loop-v-test.false, c.variables-count.ensures)))
