use Rattle.std.proofs.Common.{sym, ◌∙◌}
use Rattle.text_numbers.proofs.Readings.{read_more}
use Rattle.lrat_core.specs.dimacs_text.Entries.{entry_of}
use Rattle.lrat_core.proofs.dimacs_text.body.Body.put_all.Goals as goal

pub loop-token-preserved : goal.loop-token-preserved
loop-token-preserved c = record {
  header = c.in_ok-put-in-Some-entry_of.ensures.header ∙ c.loop-token.invariant.header;
  read = c.loop-token.invariant.read
      ∙ read_more (entry_of c.args.self.now.header.variables) c.loop-token.self.entries.items c.put.new.self.entries.items c.loop-token.left c.next_token.new.self c.in-Some.token.now c.in-Some-entry_of.entry c.in-Some.ensures
      (sym c.entry_of.ensures ∙ c.in-Some-entry_of.is) c.in_ok-put-in-Some-entry_of.ensures.entries;
}
