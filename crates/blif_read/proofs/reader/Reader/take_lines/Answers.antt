use Rattle.std.proofs.Common.{◌≡◌, List, ◌∷◌, ap, sym, subst, arith}
use Rattle.blif_read.specs.declared.blif_lines.line.RawLine.{RawLine}
use Rattle.blif_read.specs.Heads.{lines_of}
use Rattle.blif_read.specs.State.{ReadTo, lines_among, bytes_of}
use Rattle.blif_read.proofs.Bytes.{raw_bytes}
use Rattle.blif_read.proofs.Loop.{read_none, read_on}
use Rattle.blif_read.proofs.reader.Reader.take_lines.Goals as goal

pub loop-line-init : goal.loop-line-init
loop-line-init c =
    let P : List RawLine → Type 0 = λ raws. ReadTo (lines_of c.args.text.now) (lines_among raws) c.args.self.now in
    record {
      read = subst P (sym c.new-lines.ensures) (read_none (lines_of c.args.text.now) c.args.self.now c.requires.begun);
      short = omega (arith, ap bytes_of c.new-lines.ensures, raw_bytes c.args.text.now);
    }

pub loop-line-preserved : goal.loop-line-preserved
loop-line-preserved c =
    let next : c.loop-line.lines ≡ c.in-Some.line ∷ c.next_line.new.self = rw c.in-Some.is at c.in_ok-line.ensures.ok in
    let P : List RawLine → Type 0 = λ raws. ReadTo (lines_of c.args.text.now) (lines_among raws) c.loop-line.self in
    record {
      read = read_on (lines_of c.args.text.now) c.in-Some.line c.next_line.new.self c.loop-line.self c.take_line.new.self c.in_ok-take_line.field-0 (subst P next c.loop-line.invariant.read) c.in_ok-take_line.ensures;
      short = omega (arith, ap bytes_of next);
    }
