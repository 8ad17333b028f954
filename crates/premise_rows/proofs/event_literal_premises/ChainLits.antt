-- The event graph of the four enables of p, and the literals of what the latches take over.
use Rattle.std.proofs.Common.{◌≡◌, ◌∙◌, ℕ, ◌+◌, true, false, [], ◌∷◌, slice_get, Some, refl, sym, arith}
use Rattle.std.specs.Prelude.{◌==◌, if◌then◌else◌}
use Rattle.event_nodes.specs.aig.Graph.{IsAbove, IsGraph, flip}
use Rattle.event_nodes.specs.aig.Node.{Node}
use Rattle.event_nodes.specs.aig.Node.TheVariants.{Constant, Input, And}
use Rattle.event_nodes.specs.aig.Rules.{place_lit, simple_and}
use Rattle.event_nodes.specs.Nodes.{IsEventGraph}
use Rattle.call_rows.specs.circuit_samples.event_samples.Samples.{load_cover, load_not_cover, same_cover, not_cover}
use Rattle.premise_rows.specs.event_literal_premises.Chained.{at_chain, chain_nodes, load_one_cover}
use Rattle.premise_rows.proofs.block_premises.TurningNets.{each}
use Rattle.premise_rows.proofs.event_pair_premises.HeldPair.{load_kept}
use Rattle.premise_rows.proofs.event_literal_premises.ChainSide.{q_tree, g_tree, p_tree, IsBuilt}

-- the greater operand tells the node, but for 13
abbrev node_number : Node → ℕ
node_number Constant = 0
node_number (Input v) = 1 + v
node_number (And l r) =
    if r.0 == 8 then 5 else if r.0 == 9 then 6 else if r.0 == 11 then 7 else if r.0 == 10 then 9 else if r.0 == 19 then 10 else if r.0 == 23 then 12 else if r.0 == 12 then 13
    else if r.0 == 27 then 14 else if r.0 == 6 then 15 else if r.0 == 31 then 16 else if l.0 == 6 then 8 else 11

graph : IsGraph chain_nodes
graph = record {
  constant = refl;
  ordered = each IsAbove chain_nodes (tt, (tt, (tt, (tt, (tt, ((omega arith, omega arith), ((omega arith, omega arith), ((omega arith, omega arith), ((omega arith, omega arith), ((omega arith, omega arith), ((omega arith, omega arith), ((omega arith, omega arith), ((omega arith, omega arith), ((omega arith, omega arith), ((omega arith, omega arith), ((omega arith, omega arith), ((omega arith, omega arith), tt)))))))))))))))));
  once = λ n m node h k. sym (place n node h) ∙ place m node k;
  few = omega arith;
}
  where
    place : (n : ℕ) (node : Node) → slice_get chain_nodes n ≡ Some node → node_number node ≡ n
    place = each (λ n (node : Node). node_number node ≡ n) chain_nodes (refl, (refl, (refl, (refl, (refl, (refl, (refl, (refl, (refl, (refl, (refl, (refl, (refl, (refl, (refl, (refl, (refl, tt)))))))))))))))))

pub chain_kept : IsEventGraph at_chain
chain_kept = record { is_graph = graph; is_tree = load_kept.is_tree; once = load_kept.once; placed = load_kept.placed; place_once = load_kept.place_once }

-- what q takes over at the child with itself as 0 and as 1, where it loads a, the complement of a, and 1
pub a_low : IsBuilt (q_tree load_cover false (1 ∷ [])) 10
unfolding flip place_lit simple_and
a_low = (
  6 ∷ 8 ∷ 0 ∷ [],
  (6, 8 ∷ 0 ∷ [], (2, refl, (3, refl, refl)), (8, 0 ∷ [], (3, refl, (4, refl, refl)), (0, [], refl, refl, refl), refl), refl),
  (10, (10, (10, (6, refl, (10, (5, refl, refl), (10, refl, refl))), (11, refl, refl)), (10, (0, (7, refl, (7, refl, (0, refl, refl))), (11, refl, refl)), refl)), refl),
)

pub a_high : IsBuilt (q_tree load_cover true (1 ∷ [])) 15
unfolding flip place_lit simple_and
a_high = (
  6 ∷ 8 ∷ 1 ∷ [],
  (6, 8 ∷ 1 ∷ [], (2, refl, (3, refl, refl)), (8, 1 ∷ [], (3, refl, (4, refl, refl)), (1, [], refl, refl, refl), refl), refl),
  (15, (10, (10, (6, refl, (10, (5, refl, refl), (10, refl, refl))), (11, refl, refl)), (15, (7, (7, refl, (7, refl, (7, refl, refl))), (14, (7, refl, refl), refl)), refl)), refl),
)

pub not_low : IsBuilt (q_tree load_not_cover false (1 ∷ [])) 12
unfolding flip place_lit simple_and
not_low = (
  6 ∷ 8 ∷ 0 ∷ [],
  (6, 8 ∷ 0 ∷ [], (2, refl, (3, refl, refl)), (8, 0 ∷ [], (3, refl, (4, refl, refl)), (0, [], refl, refl, refl), refl), refl),
  (12, (12, (12, (6, refl, (12, (6, refl, refl), (12, refl, refl))), (13, refl, refl)), (12, (0, (7, refl, (7, refl, (0, refl, refl))), (13, refl, refl)), refl)), refl),
)

pub not_high : IsBuilt (q_tree load_not_cover true (1 ∷ [])) 17
unfolding flip place_lit simple_and
not_high = (
  6 ∷ 8 ∷ 1 ∷ [],
  (6, 8 ∷ 1 ∷ [], (2, refl, (3, refl, refl)), (8, 1 ∷ [], (3, refl, (4, refl, refl)), (1, [], refl, refl, refl), refl), refl),
  (17, (12, (12, (6, refl, (12, (6, refl, refl), (12, refl, refl))), (13, refl, refl)), (17, (7, (7, refl, (7, refl, (7, refl, refl))), (16, (8, refl, refl), refl)), refl)), refl),
)

pub one_low : IsBuilt (q_tree load_one_cover false (1 ∷ [])) 6
unfolding flip place_lit simple_and
one_low = (
  6 ∷ 8 ∷ 0 ∷ [],
  (6, 8 ∷ 0 ∷ [], (2, refl, (3, refl, refl)), (8, 0 ∷ [], (3, refl, (4, refl, refl)), (0, [], refl, refl, refl), refl), refl),
  (6, (6, (6, (6, refl, (6, refl, (6, refl, refl))), (7, refl, refl)), (6, (0, (7, refl, (7, refl, (0, refl, refl))), (7, refl, refl)), refl)), refl),
)

pub one_high : IsBuilt (q_tree load_one_cover true (1 ∷ [])) 1
unfolding flip place_lit simple_and
one_high = (
  6 ∷ 8 ∷ 1 ∷ [],
  (6, 8 ∷ 1 ∷ [], (2, refl, (3, refl, refl)), (8, 1 ∷ [], (3, refl, (4, refl, refl)), (1, [], refl, refl, refl), refl), refl),
  (1, (6, (6, (6, refl, (6, refl, (6, refl, refl))), (7, refl, refl)), (1, (7, (7, refl, (7, refl, (7, refl, refl))), (0, refl, refl)), refl)), refl),
)

-- g, and what p takes over with itself as 0 and as 1, in each of the four circuits
a_g : IsBuilt (g_tree load_cover same_cover) 10
unfolding flip place_lit simple_and
a_g = (10 ∷ [], (10, [], a_low, refl, refl), (10, (10, (10, (10, refl, refl), (11, refl, refl)), refl), refl))

pub p_a_low : IsBuilt (p_tree load_cover same_cover false) 18
unfolding flip place_lit simple_and
p_a_low = (
  10 ∷ 4 ∷ 0 ∷ [],
  (10, 4 ∷ 0 ∷ [], a_g, (4, 0 ∷ [], (1, refl, (2, refl, refl)), (0, [], refl, refl, refl), refl), refl),
  (18, (18, (18, (10, refl, (18, (9, refl, refl), (18, refl, refl))), (19, refl, refl)), (18, (0, (11, refl, (11, refl, (0, refl, refl))), (19, refl, refl)), refl)), refl),
)

pub p_a_high : IsBuilt (p_tree load_cover same_cover true) 21
unfolding flip place_lit simple_and
p_a_high = (
  10 ∷ 4 ∷ 1 ∷ [],
  (10, 4 ∷ 1 ∷ [], a_g, (4, 1 ∷ [], (1, refl, (2, refl, refl)), (1, [], refl, refl, refl), refl), refl),
  (21, (18, (18, (10, refl, (18, (9, refl, refl), (18, refl, refl))), (19, refl, refl)), (21, (11, (11, refl, (11, refl, (11, refl, refl))), (20, (10, refl, refl), refl)), refl)), refl),
)

too_g : IsBuilt (g_tree load_not_cover not_cover) 13
unfolding flip place_lit simple_and
too_g = (12 ∷ [], (12, [], not_low, refl, refl), (13, (13, (13, (13, refl, refl), (12, refl, refl)), refl), refl))

pub p_too_low : IsBuilt (p_tree load_not_cover not_cover false) 22
unfolding flip place_lit simple_and
p_too_low = (
  13 ∷ 4 ∷ 0 ∷ [],
  (13, 4 ∷ 0 ∷ [], too_g, (4, 0 ∷ [], (1, refl, (2, refl, refl)), (0, [], refl, refl, refl), refl), refl),
  (22, (22, (22, (13, refl, (22, (11, refl, refl), (22, refl, refl))), (23, refl, refl)), (22, (0, (12, refl, (12, refl, (0, refl, refl))), (23, refl, refl)), refl)), refl),
)

pub p_too_high : IsBuilt (p_tree load_not_cover not_cover true) 25
unfolding flip place_lit simple_and
p_too_high = (
  13 ∷ 4 ∷ 1 ∷ [],
  (13, 4 ∷ 1 ∷ [], too_g, (4, 1 ∷ [], (1, refl, (2, refl, refl)), (1, [], refl, refl, refl), refl), refl),
  (25, (22, (22, (13, refl, (22, (11, refl, refl), (22, refl, refl))), (23, refl, refl)), (25, (12, (12, refl, (12, refl, (12, refl, refl))), (24, (12, refl, refl), refl)), refl)), refl),
)

not_g : IsBuilt (g_tree load_not_cover same_cover) 12
unfolding flip place_lit simple_and
not_g = (12 ∷ [], (12, [], not_low, refl, refl), (12, (12, (12, (12, refl, refl), (13, refl, refl)), refl), refl))

pub p_not_low : IsBuilt (p_tree load_not_cover same_cover false) 26
unfolding flip place_lit simple_and
p_not_low = (
  12 ∷ 4 ∷ 0 ∷ [],
  (12, 4 ∷ 0 ∷ [], not_g, (4, 0 ∷ [], (1, refl, (2, refl, refl)), (0, [], refl, refl, refl), refl), refl),
  (26, (26, (26, (12, refl, (26, (13, refl, refl), (26, refl, refl))), (27, refl, refl)), (26, (0, (13, refl, (13, refl, (0, refl, refl))), (27, refl, refl)), refl)), refl),
)

pub p_not_high : IsBuilt (p_tree load_not_cover same_cover true) 29
unfolding flip place_lit simple_and
p_not_high = (
  12 ∷ 4 ∷ 1 ∷ [],
  (12, 4 ∷ 1 ∷ [], not_g, (4, 1 ∷ [], (1, refl, (2, refl, refl)), (1, [], refl, refl, refl), refl), refl),
  (29, (26, (26, (12, refl, (26, (13, refl, refl), (26, refl, refl))), (27, refl, refl)), (29, (13, (13, refl, (13, refl, (13, refl, refl))), (28, (14, refl, refl), refl)), refl)), refl),
)

one_g : IsBuilt (g_tree load_one_cover same_cover) 6
unfolding flip place_lit simple_and
one_g = (6 ∷ [], (6, [], one_low, refl, refl), (6, (6, (6, (6, refl, refl), (7, refl, refl)), refl), refl))

pub p_one_low : IsBuilt (p_tree load_one_cover same_cover false) 30
unfolding flip place_lit simple_and
p_one_low = (
  6 ∷ 4 ∷ 0 ∷ [],
  (6, 4 ∷ 0 ∷ [], one_g, (4, 0 ∷ [], (1, refl, (2, refl, refl)), (0, [], refl, refl, refl), refl), refl),
  (30, (30, (30, (6, refl, (30, (15, refl, refl), (30, refl, refl))), (31, refl, refl)), (30, (0, (7, refl, (7, refl, (0, refl, refl))), (31, refl, refl)), refl)), refl),
)

pub p_one_high : IsBuilt (p_tree load_one_cover same_cover true) 33
unfolding flip place_lit simple_and
p_one_high = (
  6 ∷ 4 ∷ 1 ∷ [],
  (6, 4 ∷ 1 ∷ [], one_g, (4, 1 ∷ [], (1, refl, (2, refl, refl)), (1, [], refl, refl, refl), refl), refl),
  (33, (30, (30, (6, refl, (30, (15, refl, refl), (30, refl, refl))), (31, refl, refl)), (33, (7, (7, refl, (7, refl, (7, refl, refl))), (32, (16, refl, refl), refl)), refl)), refl),
)
