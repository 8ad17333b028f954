-- The sorted keys of the distinct variables.
use Rattle.std.proofs.Common.{◌∙◌, ◌<◌, ℕ, List, length, map, sym, ap, subst, arith, eqb}
use Rattle.std.specs.List.{All}
use Rattle.std.proofs.lemmas.List.Filters.{dedup_is}
use Rattle.std.proofs.lemmas.List.Elements.{All-contains}
use Rattle.circuit_theory.proofs.Lists.{All-from_each, length-map}
use Rattle.event_nodes.specs.Nodes.{named_places, path_of}
use Rattle.event_nodes.specs.declared.event_variables.ordering.Key.{Key}
use Rattle.event_nodes.specs.event_variables.Order.{AreKeysOf, IsOnce, IsOrderOf}
use Rattle.event_nodes.proofs.event_variables.Sorting.{once_sorted, ordered}
use Rattle.event_nodes.proofs.event_variables.ordering.in_order.Goals as goal

pub keys_of-requires : goal.keys_of-requires
keys_of-requires c =
    let once : IsOnce c.args.variables.items c.dedup.new.self.items = once_sorted c.args.variables.items c.sort.new.self.items c.dedup.new.self.items c.sort.ensures.permutation c.in_ok-sort.ensures.sorted (dedup_is eqb c.sort.new.self.items c.dedup.new.self.items c.dedup.ensures.filtered) in
    subst (All (λ (v : ℕ). v < length c.args.events.now.places)) (sym c.as_slice.ensures.value)
    (All-from_each (λ (v : ℕ). v < length c.args.events.now.places) c.dedup.new.self.items (λ v h. All-contains (λ (k : ℕ). k < length c.args.events.now.places) c.args.variables.items v c.requires ((once.same v).0 h)))

pub returns : goal.returns
returns c =
    let once : IsOnce c.args.variables.items c.dedup.new.self.items = once_sorted c.args.variables.items c.sort.new.self.items c.dedup.new.self.items c.sort.ensures.permutation c.in_ok-sort.ensures.sorted (dedup_is eqb c.sort.new.self.items c.dedup.new.self.items c.dedup.ensures.filtered) in
    let within : All (λ (v : ℕ). v < length (named_places c.args.events.now)) c.dedup.new.self.items = All-from_each (λ (v : ℕ). v < length (named_places c.args.events.now)) c.dedup.new.self.items
    (λ v h. let k = All-contains (λ (j : ℕ). j < length c.args.events.now.places) c.args.variables.items v c.requires ((once.same v).0 h) in let many = length-map {Y = ℕ × List ℕ} (λ (p : ℕ × ℕ). (p.0, path_of c.args.events.now.children p.1)) c.args.events.now.places in omega (arith, k, many)) in
    subst (IsOrderOf c.args.events.now c.args.variables.items) (sym c.from_vec.ensures)
    (ordered c.args.events.now c.keeps.ensures.events c.args.variables.items c.dedup.new.self.items c.in_ok-keys.keys.items c.sort-2.new.self.items within once
    (subst (λ (l : List ℕ). AreKeysOf c.args.events.now l c.in_ok-keys.keys.items) c.as_slice.ensures.value c.in_ok-keys.ensures) c.sort-2.ensures.permutation c.in_ok-sort-2.ensures.sorted c.in_ok-ordered.ordered.items
    (c.in_ok-ordered.ensures ∙ ap (map (λ (k : Key). k.variable)) c.as_slice-2.ensures.value))
