-- Lines one after another.
use Rattle.std.proofs.Common.{◌≡◌, ℕ, not, cond, List, [], ◌∷◌, map, refl, sym, ◌∙◌, ap, subst, Some, Result, Ok, Err}
use Rattle.std.specs.List.{filter}
use Rattle.blif_read.specs.declared.blif_lines.line.RawLine.{RawLine}
use Rattle.blif_read.specs.blif_lines.Lines.{TokenLine, tokens_of, is_empty, token_line}
use Rattle.blif_read.specs.declared.error.ReadError.{ReadError}
use Rattle.blif_read.specs.declared.error.ReadError.TheVariants as read
use Rattle.blif_read.specs.declared.stop.Stop.{Stop}
use Rattle.blif_read.specs.declared.stop.Stop.TheVariants as stop
use Rattle.blif_read.specs.declared.reader.Reader.{Reader}
use Rattle.blif_read.specs.Heads.{Line, line_of, headed, lines_of}
use Rattle.blif_read.specs.Fault.{fault_of}
use Rattle.blif_read.specs.Reading.{fault_at, first_fault_after}
use Rattle.blif_read.specs.State.{TookAnd, TookLine, Means, ReadTo, TookLines, lines_among, answer_at}

step_ok : (whole : List Line) (number : ℕ) (tokens : List (List ℕ)) (rest : List TokenLine) (old new : Reader) (u : Unit {0}) →
    ReadTo whole (map headed (cond (not (is_empty tokens)) (record { number = number; tokens = tokens } ∷ rest) rest)) old →
    ((before : List Line) → Means old before → TookLine number tokens before new (Ok u)) →
    ReadTo whole (map headed rest) new
step_ok whole number [] rest old new u rd step = record { before = rd.before; means = step rd.before rd.means; fault = rd.fault; lines = rd.lines }
step_ok whole number (t ∷ ts) rest old new u rd step =
    let took = step rd.before rd.means in
    record {
      before = line_of number (t ∷ ts) ∷ rd.before;
      means = took.1;
      fault = rd.fault ∙ ap (λ f. fault_at number f (first_fault_after (line_of number (t ∷ ts) ∷ rd.before) (map headed rest))) took.0;
      lines = rd.lines;
    }

-- a line is taken, and the others are left
pub read_on : (whole : List Line) (raw : RawLine) (raws : List RawLine) (old new : Reader) (u : Unit {0}) →
    ReadTo whole (lines_among (raw ∷ raws)) old →
    ((before : List Line) → Means old before → TookLine raw.number (tokens_of raw.bytes) before new (Ok u)) →
    ReadTo whole (lines_among raws) new
read_on whole raw raws old new u rd step = step_ok whole raw.number (tokens_of raw.bytes) (filter (λ line. not (is_empty line.tokens)) (map token_line raws)) old new u rd step

-- before the first line
pub read_none : (whole : List Line) (r : Reader) → Means r [] → ReadTo whole whole r
read_none whole r m = record { before = []; means = m; fault = refl; lines = refl }
