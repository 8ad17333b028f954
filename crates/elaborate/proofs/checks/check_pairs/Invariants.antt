use Rattle.std.proofs.Common.{◌≡◌, ◌||◌, [], map, take, drop}
use Rattle.base_tables.specs.Table.{is_among}
use Rattle.elaborate.specs.Walking.{pairs_fault}
use Rattle.elaborate.proofs.checks.check_pairs.Given as goal

abbrev pub invariant-loop-pair : goal.invariant-loop-pair
invariant-loop-pair l = record {
  seen_are : l.seen ≡ map (λ p. p.formal) (take l.pair-index l.pairs);
  rest : pairs_fault (λ n. is_among l.formals.inputs n || is_among l.formals.outputs n) [] l.pairs
      ≡ pairs_fault (λ n. is_among l.formals.inputs n || is_among l.formals.outputs n) l.seen (drop l.pair-index l.pairs);
}
