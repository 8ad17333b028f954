-- The report of a comparison by ties of signals, as a function of both nets and of what was found.
use Rattle.std.specs.Prelude.{ℕ, ◌+◌, ◌-◌, nat_lt, Bool, true, false, if◌then◌else◌, List, [], ◌∷◌, ◌++◌, length, slice_get, unwrap_or, codes, Option, Some, None}
use Rattle.std.specs.Fmt.{decimal}
use Rattle.std.specs.List.{flat_map}
use Rattle.sec_base.specs.Texts.{digit_of}
use Rattle.flat_net.specs.declared.parts.LatchAt.{LatchAt}
use Rattle.flat_net.specs.View.{NetView}
use Rattle.circuit_laws.specs.declared.signal_laws.anchor.Anchor.{Anchor}
use Rattle.circuit_laws.specs.declared.signal_laws.anchor.Anchor.TheVariants as anchor
use Rattle.signal_induct.specs.declared.outputs.TiedPair.{TiedPair}
use Rattle.signal_induct.specs.declared.induction.SignalInduction.{SignalInduction}
use Rattle.signal_induct.specs.Tied.{anchor_at, is_tied, ties_from, first_apart}

-- the line of a number behind its word
abbrev pub count_line : List ℕ → ℕ → List ℕ
count_line front count = front ++ decimal count ++ 10 ∷ []

-- how many signals there are, how many are tied to no other, and how many are
abbrev pub counts_of : ℕ → ℕ → List ℕ
counts_of signals ties = count_line (codes "signals ") signals ++ count_line (codes "classes ") (signals - ties) ++ count_line (codes "ties ") ties

abbrev pub counts_text : NetView → NetView → List Anchor → List ℕ
counts_text a b anchors = counts_of (length a.drivers + length b.drivers) (ties_from 0 anchors)

-- the name of a signal, if there is one
abbrev pub name_at : NetView → ℕ → List ℕ
name_at n s = unwrap_or (slice_get n.names s) []

-- the signal at a place, A's before B's
abbrev pub signal_text : NetView → NetView → ℕ → List ℕ
signal_text a b p = if nat_lt p (length a.drivers) then codes "A:" ++ name_at a p else codes "B:" ++ name_at b (p - length a.drivers)

-- what stands before a signal, by whether it is complemented
abbrev pub sign : Bool → List ℕ
sign flipped = if flipped then codes "!" else []

-- what a signal is tied to: a bit, a signal or a complement
abbrev pub tied_to : NetView → NetView → Anchor → List ℕ
tied_to a b (anchor.Bit bit) = digit_of bit ∷ []
tied_to a b (anchor.Place q flipped) = sign flipped ++ signal_text a b q

-- the line of a tie
abbrev pub tie_line : NetView → NetView → List ℕ → List ℕ → Anchor → List ℕ
tie_line a b front name k = front ++ name ++ codes " " ++ tied_to a b k ++ 10 ∷ []

-- the line of a latch with this anchor, where it is tied
abbrev pub line_where : NetView → NetView → List ℕ → List ℕ → ℕ → Anchor → List ℕ
line_where a b front name place k = if is_tied place k then tie_line a b front name k else []

-- the line of a latch of a net whose signals have their places from `offset` on
abbrev pub latch_line : NetView → NetView → List Anchor → List ℕ → ℕ → LatchAt → List ℕ
latch_line a b anchors front offset l = line_where a b front l.name (offset + l.out.0) (anchor_at anchors (offset + l.out.0))

abbrev pub latches_text : NetView → NetView → List Anchor → List ℕ → ℕ → List LatchAt → List ℕ
latches_text a b anchors front offset latches = flat_map (latch_line a b anchors front offset) latches

-- the line of an output
abbrev pub answer_word : Bool → List ℕ
answer_word equal = if equal then codes " equal\n" else codes " not-shown\n"

abbrev pub pair_line : TiedPair → List ℕ
pair_line p = codes "pair " ++ p.name ++ answer_word p.equal

-- the verdict: the first output that isn't shown equal
abbrev pub verdict_text : Option (List ℕ) → List ℕ
verdict_text None = codes "verdict equal\n"
verdict_text (Some name) = codes "verdict not-shown " ++ name ++ codes "\n"

-- the whole report
abbrev pub signals_text : NetView → NetView → SignalInduction → List ℕ
signals_text a b made =
    counts_text a b made.ties.anchors.items
    ++ (latches_text a b made.ties.anchors.items (codes "tie A:") 0 a.latches ++ latches_text a b made.ties.anchors.items (codes "tie B:") (length a.drivers) b.latches)
    ++ flat_map pair_line made.pairs ++ count_line (codes "limit-drops ") made.ties.drops ++ verdict_text (first_apart made.pairs)
