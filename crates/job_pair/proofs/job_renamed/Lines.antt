-- Lines of a text as pairs.
use Rattle.std.proofs.Common.{◌≡◌, ◌∙◌, ℕ, not, Bool, true, false, List, [], ◌∷◌, ◌++◌, map, length, refl, sym, ap, arith, append_assoc, append-nil, ◌≤◌}
use Rattle.std.specs.List.{filter}
use Rattle.blif_read.specs.declared.blif_lines.line.RawLine.{RawLine}
use Rattle.sec_base.specs.declared.limits.TheConstants.{MAX_FILE_BYTES}
use Rattle.blif_read.specs.blif_lines.Lines.{TokenLine, is_empty, logical_lines, token_line, tokens_of}
use Rattle.net_names.specs.declared.latch_pairs.LatchPair.{LatchPair}
use Rattle.job_base.specs.declared.finding.PairKind.TheVariants as pair_kind
use Rattle.job_pair.specs.declared.job_renamed.renamed_net.PairsStop.{PairsStop}
use Rattle.job_pair.specs.declared.job_renamed.renamed_net.PairsStop.TheVariants as stop
use Rattle.job_pair.specs.job_renamed.Texts.{IsOddLine, ReadFails, line_of, lines_with_words}

-- a line of these words, where it has some
abbrev kept : ℕ → List (List ℕ) → List TokenLine
kept n tokens = filter (λ (line : TokenLine). not (is_empty line.tokens)) ((record { number = n; tokens = tokens }) ∷ [])

pub no_words : (line : RawLine) → tokens_of line.bytes ≡ [] → lines_with_words (line ∷ []) ≡ []
no_words line e = ap (kept line.number) e

pub two_words : (line : RawLine) (left right : List ℕ) → tokens_of line.bytes ≡ left ∷ right ∷ [] → lines_with_words (line ∷ []) ≡ line_of (record { line = line.number; left = left; right = right }) ∷ []
two_words line left right e = ap (kept line.number) e

-- one line more
pub lines_more : (line : RawLine) (more : List RawLine) → lines_with_words (line ∷ more) ≡ lines_with_words (line ∷ []) ++ lines_with_words more
lines_more line more = by (not (is_empty (tokens_of line.bytes))) refl
  where
    by : (b : Bool) → not (is_empty (tokens_of line.bytes)) ≡ b → lines_with_words (line ∷ more) ≡ lines_with_words (line ∷ []) ++ lines_with_words more
    by true e = rw e refl
    by false e = rw e refl

pub some_words : (line : RawLine) → is_empty (tokens_of line.bytes) ≡ false → lines_with_words (line ∷ []) ≡ token_line line ∷ []
some_words line e = rw e refl

-- a text up to a line
module _ (text : List ℕ) (pairs : List LatchPair) (line : RawLine) (old new : List RawLine) (so_far : logical_lines text ≡ map line_of pairs ++ lines_with_words old) (next : old ≡ line ∷ new) where
  taken_apart : logical_lines text ≡ (map line_of pairs ++ lines_with_words (line ∷ [])) ++ lines_with_words new
  taken_apart =
      so_far ∙ ap (λ (ls : List RawLine). map line_of pairs ++ lines_with_words ls) next ∙ ap (λ (ls : List TokenLine). map line_of pairs ++ ls) (lines_more line new)
      ∙ sym (append_assoc (map line_of pairs) (lines_with_words (line ∷ [])) (lines_with_words new))

  pub one_more : (grown : List LatchPair) → map line_of grown ≡ map line_of pairs ++ lines_with_words (line ∷ []) → logical_lines text ≡ map line_of grown ++ lines_with_words new
  one_more grown is = taken_apart ∙ ap (λ (ls : List TokenLine). ls ++ lines_with_words new) (sym is)

  pub odd_text : (error : PairsStop) → length text ≤ MAX_FILE_BYTES → IsOddLine line error → ReadFails text error
  odd_text (stop.Line number pair_kind.BadPair) short h = record {
    short = short;
    before = pairs;
    line = token_line line;
    more = lines_with_words new;
    lines = taken_apart ∙ append_assoc (map line_of pairs) (lines_with_words (line ∷ [])) (lines_with_words new) ∙ ap (λ (ls : List TokenLine). map line_of pairs ++ (ls ++ lines_with_words new)) (some_words line h.1);
    odd = h.0;
    number_is = h.2;
  }
  odd_text (stop.Line number (pair_kind.Unknown side)) short h = h
  odd_text (stop.Line number pair_kind.Twice) short h = h
  odd_text (stop.Line number pair_kind.Taken) short h = h
  odd_text stop.NoMemory short h = tt

-- where no line is left, the text says the pairs
pub whole_text : (text : List ℕ) (pairs : List LatchPair) (left : List RawLine) → logical_lines text ≡ map line_of pairs ++ lines_with_words left → left ≡ [] → logical_lines text ≡ map line_of pairs
whole_text text pairs left so_far none = so_far ∙ ap (λ (ls : List RawLine). map line_of pairs ++ lines_with_words ls) none ∙ append-nil (map line_of pairs)

-- lines that have other than two words
pub odd_one : (line : RawLine) (word : List ℕ) → tokens_of line.bytes ≡ word ∷ [] → IsOddLine line (stop.Line line.number pair_kind.BadPair)
odd_one line word e = (λ two. (let long = ap length e in omega (arith, long, two)), ap is_empty e, refl)

pub odd_more : (line : RawLine) (left right more : List ℕ) (others : List (List ℕ)) → tokens_of line.bytes ≡ left ∷ right ∷ more ∷ others → IsOddLine line (stop.Line line.number pair_kind.BadPair)
odd_more line left right more others e = (λ two. (let long = ap length e in omega (arith, long, two)), ap is_empty e, refl)
