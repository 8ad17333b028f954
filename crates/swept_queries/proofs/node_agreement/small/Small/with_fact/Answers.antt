use Rattle.std.proofs.Common.{◌*◌, sym, subst, arith}
use Rattle.aig.proofs.Growth.{Grows-length}
use Rattle.aig.proofs.Meaning.{value-grows}
use Rattle.swept_queries.specs.node_agreement.Standing.{AreLocal, by_nodes}
use Rattle.swept_queries.proofs.node_agreement.Stood.{stands-grows, chosen-same}
use Rattle.swept_queries.proofs.node_agreement.Known.{local-grows, implied-holds}
use Rattle.swept_queries.proofs.node_agreement.small.Small.with_fact.Goals as goal

pub with_implied-requires-clause-left : goal.with_implied-requires-clause-left
with_implied-requires-clause-left c =
    let are = subst (AreLocal c.args.graph.now c.args.numbers.now c.args.self.now.graph) (sym c.as_slice-lits.ensures.value) c.requires.local in
    (c.in-Some-Some.ensures c.args.graph.now c.args.self.now.graph are).within

pub with_implied-requires-clause-right : goal.with_implied-requires-clause-right
with_implied-requires-clause-right c =
    let are = subst (AreLocal c.args.graph.now c.args.numbers.now c.args.self.now.graph) (sym c.as_slice-lits.ensures.value) c.requires.local in
    (c.in-Some-Some.ensures' c.args.graph.now c.args.self.now.graph are).within

pub with_implied-requires-2-clause-left : goal.with_implied-requires-2-clause-left
with_implied-requires-2-clause-left c =
    let are = subst (AreLocal c.args.graph.now c.args.numbers.now c.args.self.now.graph) (sym c.as_slice-lits.ensures.value) c.requires.local in
    omega (arith, (c.in-Some-Some.ensures' c.args.graph.now c.args.self.now.graph are).within, Grows-length c.args.self.now.graph c.with_implied.new.small c.in_ok-once.ensures.grows)

pub with_implied-requires-2-clause-right : goal.with_implied-requires-2-clause-right
with_implied-requires-2-clause-right c =
    let are = subst (AreLocal c.args.graph.now c.args.numbers.now c.args.self.now.graph) (sym c.as_slice-lits.ensures.value) c.requires.local in
    omega (arith, (c.in-Some-Some.ensures c.args.graph.now c.args.self.now.graph are).within, Grows-length c.args.self.now.graph c.with_implied.new.small c.in_ok-once.ensures.grows)

pub returns-clause-local : goal.returns-clause-local
returns-clause-local c =
    let g = c.args.graph.now in
    let h = c.args.self.now.graph in
    let i = c.with_implied.new.small in
    let k = c.with_implied-2.new.small in
    let first = c.in_ok-once.ensures.grows in
    let second = c.in_ok-twice.ensures.grows in
    local-grows g i k (value-grows i k second) (Grows-length i k second) c.args.numbers.now c.args.self.now.lits.items
    (local-grows g h i (value-grows h i first) (Grows-length h i first) c.args.numbers.now c.args.self.now.lits.items c.requires.local)

pub returns-clause-care : goal.returns-clause-care
returns-clause-care c =
    let g = c.args.graph.now in
    let h = c.args.self.now.graph in
    let i = c.with_implied.new.small in
    let k = c.with_implied-2.new.small in
    let first = c.in_ok-once.ensures.grows in
    let are = subst (AreLocal g c.args.numbers.now h) (sym c.as_slice-lits.ensures.value) c.requires.local in
    let y = c.in-Some-Some.ensures g h are in
    let z = c.in-Some-Some.ensures' g h are in
    let same = chosen-same g c.args.chosen.now c.args.n _ (omega arith) c.requires.chosen in
    let once = implied-holds g c.keeps.ensures.graph h i c.args.care.0 c.in-Some-Some.y.0 c.in-Some-Some.z.0 c.in_ok-once.once.0 (2 * c.args.n) _ c.requires.care y z (λ a. sym (same a)) c.in_ok-once.ensures.within c.in_ok-once.ensures.value in
    let keeps = value-grows h i first in
    let more = Grows-length h i first in
    implied-holds g c.keeps.ensures.graph i k c.in_ok-once.once.0 c.in-Some-Some.z.0 c.in-Some-Some.y.0 c.in_ok-twice.twice.0 _ (2 * c.args.n) once (stands-grows (by_nodes g) g h i keeps more _ _ z) (stands-grows (by_nodes g) g h i keeps more _ _ y) same c.in_ok-twice.ensures.within c.in_ok-twice.ensures.value
