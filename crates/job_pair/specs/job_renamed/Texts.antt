-- Which pairs of latches a text says, and why it says none.
use Rattle.std.specs.Prelude.{◌≡◌, ◌≢◌, ◌≤◌, ℕ, not, false, List, [], ◌∷◌, ◌++◌, map, length, Contains, codes, refl}
use Rattle.std.specs.List.{All, filter}
use Rattle.base_tables.specs.Table.{AreDistinct}
use Rattle.circuit_theory.specs.declared.Side.{Side}
use Rattle.circuit_theory.specs.declared.Side.TheVariants.{A, B}
use Rattle.sec_base.specs.declared.limits.TheConstants.{MAX_FILE_BYTES}
use Rattle.blif_read.specs.declared.blif_lines.line.RawLine.{RawLine}
use Rattle.blif_read.specs.blif_lines.Lines.{TokenLine, is_empty, logical_lines, token_line, cut_line, going_on}
use Rattle.flat_net.specs.declared.parts.LatchAt.{LatchAt}
use Rattle.flat_net.specs.View.{NetView}
use Rattle.net_names.specs.Pairs.{HasTaken, StandsTwice}
use Rattle.net_names.specs.Renamed.{IsRenamed, name_on}
use Rattle.net_names.specs.declared.latch_pairs.LatchPair.{LatchPair}
use Rattle.net_names.specs.declared.latch_pairs.PairsError.{PairsError}
use Rattle.net_names.specs.declared.latch_pairs.PairsError.TheVariants as pairs_error
use Rattle.net_names.specs.declared.renaming.RenameError.{RenameError}
use Rattle.net_names.specs.declared.renaming.RenameError.TheVariants as rename_error
use Rattle.job_base.specs.declared.finding.PairKind.{PairKind}
use Rattle.job_base.specs.declared.finding.PairKind.TheVariants as pair_kind
use Rattle.job_pair.specs.declared.job_renamed.renamed_net.PairsStop.{PairsStop}
use Rattle.job_pair.specs.declared.job_renamed.renamed_net.PairsStop.TheVariants as stop

-- a pair as a line: its number, and its two names as words
abbrev pub line_of : LatchPair → TokenLine
line_of p = record { number = p.line; tokens = p.left ∷ p.right ∷ [] }

-- those of the lines that have words
abbrev pub lines_with_words : List RawLine → List TokenLine
lines_with_words lines = filter (λ line. not (is_empty line.tokens)) (map token_line lines)

-- The text, of at most 16,777,216 bytes, says these pairs: the lines that have words are theirs, in their order. Lines are read as those of
-- BLIF: `#` begins a comment, and a backslash at a line's end joins the next line to it.
pub record SaysPairs (text : List ℕ) (pairs : List LatchPair) : Type 0 where
  pub short : length text ≤ MAX_FILE_BYTES
  pub lines : logical_lines text ≡ map line_of pairs

-- This line of the text, of at most 16,777,216 bytes, is the first that has words, and other than two.
pub record HasOddLine (text : List ℕ) (number : ℕ) : Type 0 where
  pub short : length text ≤ MAX_FILE_BYTES
  pub before : List LatchPair
  pub line : TokenLine
  pub more : List TokenLine
  pub lines : logical_lines text ≡ map line_of before ++ line ∷ more
  pub odd : length line.tokens ≢ 2
  pub number_is : line.number ≡ number

-- the net has a latch of this name
abbrev pub HasLatch : NetView → List ℕ → Type 0
HasLatch n name = (l : LatchAt) × Contains n.latches l × (l.name ≡ name)

-- each pair's name of this side is that of a latch of the net
abbrev pub AreNamed : NetView → Side → List LatchPair → Type 0
AreNamed n side pairs = (p : LatchPair) → Contains pairs p → HasLatch n (name_on side p)

-- the pair of this line names a latch that the net hasn't
abbrev pub HasUnknown : NetView → Side → List LatchPair → ℕ → Type 0
HasUnknown n side pairs line = (p : LatchPair) × Contains pairs p × (p.line ≡ line) × All (λ (l : LatchAt). l.name ≢ name_on side p) n.latches

-- The text says these pairs of latches of both nets: no name stands twice on a side, and each is that of a latch.
pub record PairsLatches (text : List ℕ) (a b : NetView) (pairs : List LatchPair) : Type 0 where
  pub says : SaysPairs text pairs
  pub left_once : AreDistinct (map (name_on A) pairs)
  pub right_once : AreDistinct (map (name_on B) pairs)
  pub left : AreNamed a A pairs
  pub right : AreNamed b B pairs

-- the third net is B with its latches under the names that the text gives them
abbrev pub IsRenamedBy : List ℕ → NetView → NetView → NetView → Type 0
IsRenamedBy text a b right = (pairs : List LatchPair) × PairsLatches text a b pairs × IsRenamed pairs b right

-- the text says pairs of which this is true
abbrev pub OfPairs : List ℕ → (List LatchPair → Type 0) → Type 0
OfPairs text P = (pairs : List LatchPair) × SaysPairs text pairs × P pairs

-- why the line of the text is refused beside both nets
abbrev pub HasFaultyPair : List ℕ → NetView → NetView → ℕ → PairKind → Type 0
HasFaultyPair text a b line pair_kind.BadPair = HasOddLine text line
HasFaultyPair text a b line (pair_kind.Unknown A) = OfPairs text (λ pairs. HasUnknown a A pairs line)
HasFaultyPair text a b line (pair_kind.Unknown B) = OfPairs text (λ pairs. HasUnknown b B pairs line)
HasFaultyPair text a b line pair_kind.Twice = OfPairs text (λ pairs. StandsTwice pairs line)
HasFaultyPair text a b line pair_kind.Taken = OfPairs text (λ pairs. HasTaken b pairs line)

-- what is true where a text gives the latches no names
abbrev pub PairsFail : List ℕ → NetView → NetView → PairsStop → Type 0
PairsFail text a b (stop.Line line kind) = HasFaultyPair text a b line kind
PairsFail text a b stop.NoMemory = Unit {0}

-- what is true where a line isn't taken
abbrev pub IsOddLine : RawLine → PairsStop → Type 0
IsOddLine line (stop.Line number pair_kind.BadPair) = (length (token_line line).tokens ≢ 2) × (is_empty (token_line line).tokens ≡ false) × (line.number ≡ number)
IsOddLine line (stop.Line number other) = ⊥
IsOddLine line stop.NoMemory = Unit {0}

-- what is true where a text isn't read as pairs
abbrev pub ReadFails : List ℕ → PairsStop → Type 0
ReadFails text (stop.Line line pair_kind.BadPair) = HasOddLine text line
ReadFails text (stop.Line line other) = ⊥
ReadFails text stop.NoMemory = Unit {0}

-- what is true where a latch isn't found
abbrev pub LatchesFail : NetView → Side → List LatchPair → PairsStop → Type 0
LatchesFail n side pairs (stop.Line line (pair_kind.Unknown which)) = (which ≡ side) × HasUnknown n side pairs line
LatchesFail n side pairs (stop.Line line other) = ⊥
LatchesFail n side pairs stop.NoMemory = Unit {0}

-- where a name stands twice
abbrev pub twice_stop : PairsError → PairsStop
twice_stop (pairs_error.Twice line) = stop.Line line pair_kind.Twice
twice_stop pairs_error.NoMemory = stop.NoMemory

-- where the latches don't get their names
abbrev pub rename_stop : RenameError → PairsStop
rename_stop (rename_error.Taken line) = stop.Line line pair_kind.Taken
rename_stop rename_error.Order = stop.NoMemory
rename_stop rename_error.NoMemory = stop.NoMemory

-- a comment, a line without words, and two names that are exchanged
read_example : logical_lines (codes "# a b\na b # a\n\n\tb  a\n") ≡ map line_of (record { line = 2; left = codes "a"; right = codes "b" } ∷ record { line = 4; left = codes "b"; right = codes "a" } ∷ [])
unfolding cut_line going_on
read_example = refl
