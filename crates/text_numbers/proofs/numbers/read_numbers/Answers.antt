-- The number of one token more.
use Rattle.std.proofs.Common.{sym, ◌∙◌}
use Rattle.text_numbers.specs.Numbers.{number_of}
use Rattle.text_numbers.proofs.Readings.{read_more}
use Rattle.text_numbers.proofs.numbers.read_numbers.Goals as goal

pub loop-token-preserved : goal.loop-token-preserved
loop-token-preserved c =
    c.loop-token.invariant ∙ read_more number_of c.loop-token.numbers.items c.push.new.self.items c.loop-token.left c.next_token.new.self c.in-Some.token.now c.in-Some-number_of.number
    c.in-Some.ensures (sym c.number_of.ensures ∙ c.in-Some-number_of.is) c.in_ok-push-in-Some-number_of.ensures.items
