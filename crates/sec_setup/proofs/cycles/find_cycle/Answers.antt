use Rattle.sec_setup.proofs.ToldCycles.{told_cycle, acyclic_graph}
use Rattle.std.proofs.Common.{◌≡◌, ◌∙◌, Bool, false, List, [], ℕ, refl, sym, ap, subst, replicate}
use Rattle.std.specs.List.{All}
use Rattle.std.proofs.lemmas.List.Elements.{All-replicate}
use Rattle.sec_setup.specs.ports.flat_net.Cut.{exposed_names}
use Rattle.sec_setup.specs.cut_points.Exposed.{IsToldCycle}
use Rattle.sec_setup.proofs.cycles.find_cycle.Goals as goal

-- no bit is set
none_set : (bits : List Bool) (count : ℕ) → bits ≡ replicate count false → All (λ (bit : Bool). bit ≡ false) bits
none_set bits count same = subst (λ (z : List Bool). All (λ (bit : Bool). bit ≡ false) z) (sym same) (All-replicate (λ (bit : Bool). bit ≡ false) count false refl)

pub returns-in-Some : goal.returns-in-Some
returns-in-Some g c =
    let n = c.args.net.now in
    let graph = c.args.graph.now in
    let none = none_set c.in_ok-none.none _ c.in_ok-none.ensures in
    let within = rw c.in-Some.is at c.in_ok-positions.ensures.within in
    let cycle = rw c.in-Some.is at c.in_ok-positions.ensures.cycle in
    let least = rw c.in-Some.is at c.in_ok-positions.ensures.least in
    subst (λ (names : List (List ℕ)). IsToldCycle g.mode n [] names) (sym (c.in_ok-names_at-in-Some.ensures ∙ ap (exposed_names n) c.as_slice.ensures))
    (told_cycle g.mode n graph c.in_ok-none.none c.in-Some.positions c.requires none within (cycle n c.requires.graph) (least n c.requires.graph))

pub returns : goal.returns
returns g c =
    let free = rw c.in-None.is at c.in_ok-positions.ensures.none in
    acyclic_graph g.mode c.args.net.now c.args.graph.now c.in_ok-none.none c.requires (none_set c.in_ok-none.none _ c.in_ok-none.ensures) (free c.args.net.now c.requires.graph)
