use Rattle.std.proofs.Common.{map, ap, sym, ◌∙◌}
use Rattle.blif_read.specs.Fault.{gate}
use Rattle.blif_read.proofs.Steps.{word_taken, none_is}
use Rattle.blif_read.proofs.reader.Reader.take_word.Goals as goal

pub returns : goal.returns
returns c =
    word_taken c.args.head c.args.number (map (λ a. a.now) c.args.args.now) c.args.self.now c.take_known.new.self c.take_known.result
    (ap (λ b. gate b c.args.head (map (λ a. a.now) c.args.args.now)) (sym (none_is c.args.self.now.current c.is_none.result c.is_none.ensures)) ∙ sym c.gate.ensures ∙ c.in_default.is)
    c.take_known.ensures
