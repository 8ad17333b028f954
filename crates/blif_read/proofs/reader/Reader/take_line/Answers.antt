use Rattle.std.proofs.Common.{◌≡◌, List, ℕ, Bor, map, length, ap, ◌∙◌, arith}
use Rattle.blif_read.specs.blif_lines.Lines.{tokens_of}
use Rattle.blif_read.proofs.Behind.{length_behind}
use Rattle.blif_read.proofs.Bytes.{tokens_few}
use Rattle.blif_read.proofs.reader.Reader.take_line.Goals as goal

pub take-requires-clause-few : goal.take-requires-clause-few
take-requires-clause-few c =
    let e : map (λ t. t.now) c.in-Ok.tokens.items ≡ tokens_of c.args.line.now.bytes = c.in-Ok.ensures ∙ ap tokens_of c.as_slice.ensures in
    omega (arith, ap length e, length_behind (λ (t : Bor (List ℕ)). t.now) c.in-Ok.tokens.items, ap length c.deref.ensures.value, tokens_few c.args.line.now.bytes)
