use Rattle.std.proofs.Common.{◌≡◌, ◌∙◌, List, [], Bool, ℕ, map, length, sym, subst, arith}
use Rattle.std.proofs.lemmas.List.{with_items_is}
use Rattle.std.specs.List.{All}
use Rattle.flat_net.specs.View.{NetView}
use Rattle.cycle_sim.specs.declared.pair_runs.differences.Difference.{Difference}
use Rattle.cycle_sim.specs.declared.pair_runs.differences.Settling.{Settling}
use Rattle.cycle_sim.specs.pair_runs.Feeds.{fed, IsFresh, IsReady, PutsCycles}
use Rattle.cycle_sim.specs.pair_runs.Showing.{ArePlacesOf}
use Rattle.cycle_sim.proofs.pair_runs.Fed.{ready, are_found}
use Rattle.cycle_sim.proofs.pair_runs.run.run_pairs.Goals as goal

pub replay_rows-requires-clause-left : goal.replay_rows-requires-clause-left
replay_rows-requires-clause-left c =
    let s = c.args.stimulus.now in
    subst (IsReady c.in_ok-left.left) (sym c.as_slice.ensures)
    (ready c.args.a.now.net.now c.args.a.now.enabled.now c.args.header.now s.rows c.in_ok-left.left (subst (λ (names : List (List ℕ)). All (λ row. length row ≡ length names) s.rows) (sym c.requires.header) s.fit) c.in_ok-left.ensures)

pub replay_rows-requires-clause-right : goal.replay_rows-requires-clause-right
replay_rows-requires-clause-right c =
    let s = c.args.stimulus.now in
    subst (IsReady c.in_ok-right.right) (sym c.as_slice.ensures)
    (ready c.args.b.now.net.now c.args.b.now.enabled.now c.args.header.now s.rows c.in_ok-right.right (subst (λ (names : List (List ℕ)). All (λ row. length row ≡ length names) s.rows) (sym c.requires.header) s.fit) c.in_ok-right.ensures)

pub replay_rows-requires-clause-places : goal.replay_rows-requires-clause-places
replay_rows-requires-clause-places c =
    subst (λ (n : NetView). ArePlacesOf n c.in_ok-right.right.sim.sim.net c.args.pairs.now) (sym c.in_ok-left.ensures.net)
    (subst (λ (n : NetView). ArePlacesOf c.args.a.now.net.now n c.args.pairs.now) (sym c.in_ok-right.ensures.net) c.requires.places)

pub returns : goal.returns
returns c =
    let names = c.args.stimulus.now.names in
    let pairs = c.args.pairs.now in
    let left = c.in_ok-left.left in
    let right = c.in_ok-right.right in
    let found = c.replay_rows.new.found in
    let settlings = c.in_ok-settlings.settlings in
    let size : length c.replay_rows.new.firsts ≡ c.in_ok-firsts.firsts.len = omega (arith, c.replay_rows.auto.firsts, c.deref_mut.ensures.len) in
    let firsts : c.replay_rows.new.firsts ≡ map (λ (s : Settling). s.first) settlings = sym (c.in_ok-settlings.ensures.firsts ∙ (c.deref.ensures.value ∙ with_items_is c.in_ok-firsts.firsts c.replay_rows.new.firsts size)) in
    are_found c.args.a.now.net.now c.args.b.now.net.now c.args.a.now.enabled.now c.args.b.now.enabled.now names c.args.stimulus.now.rows pairs left right (record { differences = found; settlings = settlings })
    (subst (λ (header : List (List ℕ)). IsFresh c.args.a.now.net.now c.args.a.now.enabled.now header left) c.requires.header c.in_ok-left.ensures)
    (subst (λ (header : List (List ℕ)). IsFresh c.args.b.now.net.now c.args.b.now.enabled.now header right) c.requires.header c.in_ok-right.ensures)
    (subst (λ (rows : List (List Bool)). PutsCycles (fed left) (fed right) pairs rows [] found (map (λ (s : Settling). s.first) settlings)) c.as_slice.ensures
    (subst (λ (old : List Difference). PutsCycles (fed left) (fed right) pairs c.as_slice.result.now old found (map (λ (s : Settling). s.first) settlings)) c.new-differences.ensures
    (subst (PutsCycles (fed left) (fed right) pairs c.as_slice.result.now c.new-differences.result found) firsts c.in_ok-replay_rows.ensures)))
    c.in_ok-settlings.ensures.named
