use Rattle.std.proofs.Common.{◌+◌, ◌<◌, List, length, ap, sym, ◌∙◌, arith, Some}
use Rattle.std.specs.Prelude.{slice_get, slice_range}
use Rattle.clause_base.specs.Literals.{Literal}
use Rattle.clause_watch.proofs.Pieces.{pieces_length, read_piece, flat_clause}
use Rattle.clause_watch.proofs.clause_db.ClauseDb.clause.Goals as goal

pub index-requires : goal.index-requires
index-requires c =
    omega (arith, c.requires, c.self.inside.starts.ok.0, pieces_length c.self.inside.literals.items c.self.inside.starts.items c.self.invariant.cut, ap (λ (x : List (List Literal)). length x) c.self.view_is)

pub index-requires-2 : goal.index-requires-2
index-requires-2 c =
    omega (arith, c.requires, c.self.inside.starts.ok.0, pieces_length c.self.inside.literals.items c.self.inside.starts.items c.self.invariant.cut, ap (λ (x : List (List Literal)). length x) c.self.view_is)

pub slice_bounds-result-count : goal.slice_bounds-result-count
slice_bounds-result-count c =
    let within : c.args.number + 1 < length c.self.inside.starts.items = omega (arith, c.requires, pieces_length c.self.inside.literals.items c.self.inside.starts.items c.self.invariant.cut, ap (λ (x : List (List Literal)). length x) c.self.view_is) in
    (read_piece c.self.inside.literals.items c.self.inside.starts.items c.args.number c.index.result.now c.index-2.result.now c.self.invariant within c.index.ensures c.index-2.ensures).0

pub slice_bounds-result-start : goal.slice_bounds-result-start
slice_bounds-result-start c =
    let within : c.args.number + 1 < length c.self.inside.starts.items = omega (arith, c.requires, pieces_length c.self.inside.literals.items c.self.inside.starts.items c.self.invariant.cut, ap (λ (x : List (List Literal)). length x) c.self.view_is) in
    (read_piece c.self.inside.literals.items c.self.inside.starts.items c.args.number c.index.result.now c.index-2.result.now c.self.invariant within c.index.ensures c.index-2.ensures).0

pub slice_bounds-result-end : goal.slice_bounds-result-end
slice_bounds-result-end c =
    let within : c.args.number + 1 < length c.self.inside.starts.items = omega (arith, c.requires, pieces_length c.self.inside.literals.items c.self.inside.starts.items c.self.invariant.cut, ap (λ (x : List (List Literal)). length x) c.self.view_is) in
    let p = read_piece c.self.inside.literals.items c.self.inside.starts.items c.args.number c.index.result.now c.index-2.result.now c.self.invariant within c.index.ensures c.index-2.ensures in
    omega (arith, p.1, c.deref.ensures.len, c.self.inside.literals.ok.0)

pub returns-clause-there : goal.returns-clause-there
returns-clause-there c =
    let within : c.args.number + 1 < length c.self.inside.starts.items = omega (arith, c.requires, pieces_length c.self.inside.literals.items c.self.inside.starts.items c.self.invariant.cut, ap (λ (x : List (List Literal)). length x) c.self.view_is) in
    let p = read_piece c.self.inside.literals.items c.self.inside.starts.items c.args.number c.index.result.now c.index-2.result.now c.self.invariant within c.index.ensures c.index-2.ensures in
    ap (λ (x : List (List Literal)). slice_get x c.args.number) (sym c.self.view_is) ∙ (p.2 ∙ ap (λ (ls : List Literal). Some (slice_range ls c.index.result.now c.index-2.result.now)) (sym c.deref.ensures.value))

pub returns-clause-clause : goal.returns-clause-clause
returns-clause-clause c =
    let within : c.args.number + 1 < length c.self.inside.starts.items = omega (arith, c.requires, pieces_length c.self.inside.literals.items c.self.inside.starts.items c.self.invariant.cut, ap (λ (x : List (List Literal)). length x) c.self.view_is) in
    let p = read_piece c.self.inside.literals.items c.self.inside.starts.items c.args.number c.index.result.now c.index-2.result.now c.self.invariant within c.index.ensures c.index-2.ensures in
    flat_clause c.self.inside.literals.items c.self.inside.starts.items c.args.number (slice_range c.deref.result.now c.index.result.now c.index-2.result.now) c.self.invariant
    (p.2 ∙ ap (λ (ls : List Literal). Some (slice_range ls c.index.result.now c.index-2.result.now)) (sym c.deref.ensures.value))
