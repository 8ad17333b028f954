-- Behind the rows, under their names, stands the sequence.
use Rattle.std.proofs.Common.{List, Bool, ◌++◌, ap, ◌∙◌}
use Rattle.restart.proofs.Rows.{begins_with_rows}
use Rattle.restart.proofs.sequence.joined.Goals as goal

pub returns-clause-rows : goal.returns-clause-rows
returns-clause-rows c = begins_with_rows c.args.header.now c.args.rows.now c.in_ok-made.made c.as_slice.result.now c.in_ok-names.names c.put_rows.new.made c.in_ok-made.ensures c.in_ok-put_rows.ensures

pub returns-clause-behind : goal.returns-clause-behind
returns-clause-behind c = record {
  front = c.in_ok-made.made;
  counted = c.in_ok-made.ensures.size;
  are = c.in_ok-put_rows.ensures ∙ ap (λ (rows : List (List Bool)). c.in_ok-made.made ++ rows) c.as_slice.ensures;
}
