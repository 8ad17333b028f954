-- What it means that what is found of some pairs fits two circuits, in the event form under an assumption.
use Rattle.std.specs.Prelude.{◌≡◌, ℕ, Bool, true, List, length}
use Rattle.std.specs.List.{All, AllZip}
use Rattle.circuit_theory.specs.Fits.{MakesDiffer}
use Rattle.circuit_theory.specs.Joined.{Left, Right}
use Rattle.circuit_theory.specs.Query.{Variable}
use Rattle.circuit_theory.specs.Query as frame_query
use Rattle.circuit_theory.specs.Sequence.{sequence_rows}
use Rattle.circuit_theory.specs.EventFrames.{frame_of}
use Rattle.circuit_theory.specs.Frame.{bits_as_shifts}
use Rattle.flat_net.specs.View.{circuit_of}
use Rattle.sec_base.specs.declared.basics.PairAnswer.TheVariants as answer
use Rattle.edbf_unfold.specs.class_queries.Enables.{both_of}
use Rattle.event_nodes.specs.View.{EventCircuitView}
use Rattle.sec_setup.specs.declared.ports.pairs.SignalPair.{SignalPair}
use Rattle.witness_report.specs.declared.witness.Witness.{Witness}
use Rattle.obligations.specs.declared.outcome.verdict.PairResult.{PairResult}
use Rattle.obligations.specs.Decided.{NoneIs}
use Rattle.event_form.specs.declared.event_findings.event_witness.unshown.UnshownFrame.{UnshownFrame}
use Rattle.event_form.specs.event_findings.unshown_pairs.Reached.{BothReachAlways}
use Rattle.event_form.specs.event_findings.unshown_pairs.Separations.{AreToldApart}
use Rattle.event_form.specs.event_findings.unshown_pairs.Told.{TellsBits}
use Rattle.event_form.specs.declared.event_findings.findings.EventFindings.{EventFindings}
use Rattle.event_form.specs.declared.event_findings.pairs.EventPairs.{EventPairs}
use Rattle.event_form.specs.declared.event_findings.verdict.EventVerdict.{EventVerdict}
use Rattle.event_form.specs.declared.event_findings.verdict.EventVerdict.TheVariants as verdict
use Rattle.event_form.specs.declared.event_findings.verdict.UnshownPair.{UnshownPair}
use Rattle.event_form.specs.event_findings.Compared.{IsEventDepth}
use Rattle.event_form.specs.event_findings.Findings.{IsFirstWith, IsFirstLimit}
use Rattle.assume_laws.specs.Assume.{Assumption}
use Rattle.assume_laws.specs.Sequences.{IsEventDifferenceUnder, IsUnshownFrameUnder, RowsMeet, filled_frame}
use Rattle.event_under.specs.Answers.{PairFitsUnder}

-- The sequence of a pair, over the inputs of these names: that of an assignment of the variables of the pair's query that meets the care and
-- makes the sides differ, up to 16 variables the least one. Each cycle at whose node no variable of both sides is holds the meeting row. Its values
-- are those of the sides, it ends in the cycle of the pair's depth, it makes the pair differ in all runs of both circuits, and each of its cycles
-- meets the assumption.
pub record IsSequenceUnder (c : Assumption) (a b : EventCircuitView) (names : List (List ℕ)) (meeting : ℕ → Bool) (p : SignalPair) (x : Witness) : Type 0 where
  pub asked : frame_query.Query (List ℕ)
  pub sides : List (Variable (List ℕ))
  pub variables : List (Variable (List ℕ))
  pub bits : List Bool
  pub difference : IsEventDifferenceUnder c (both_of a b) (Left p.left.0) (Right p.right.0) asked sides variables bits
  pub left_value : x.left ≡ asked.left (frame_of variables bits)
  pub right_value : x.right ≡ asked.right (frame_of variables bits)
  pub cycle_is : IsEventDepth a b p x.cycle
  pub names_are : x.stimulus.names ≡ names
  pub rows_are : x.stimulus.rows ≡ sequence_rows x.cycle (bits_as_shifts (filled_frame sides variables meeting bits)) (length names)
  pub differ : MakesDiffer (circuit_of a.net) (circuit_of b.net) a.order b.order p.left.0 p.right.0 x.stimulus.rows x.cycle x.left x.right
  pub meets : RowsMeet c x.stimulus.rows x.cycle

-- the first pair that is different, and its sequence
pub record IsFirstDifferenceUnder (c : Assumption) (a b : EventCircuitView) (meeting : ℕ → Bool) (e : EventPairs) (results : List PairResult) (x : Witness) : Type 0 where
  pub index : ℕ
  pub place : SignalPair
  pub first : IsFirstWith answer.Different e.pairs.now results index place
  pub named : x.pair ≡ place.name
  pub sequence : IsSequenceUnder c a b e.names.now meeting place x

-- The frame of a pair: a bit for each variable of the pair's query, in order. It meets the query's care and gives the sides the two values, which
-- differ; up to 16 variables it is the least one.
pub record IsFrameUnder (c : Assumption) (a b : EventCircuitView) (p : SignalPair) (x : UnshownFrame) : Type 0 where
  pub asked : frame_query.Query (List ℕ)
  pub sides : List (Variable (List ℕ))
  pub variables : List (Variable (List ℕ))
  pub bits : List Bool
  pub shown : IsUnshownFrameUnder c (both_of a b) (Left p.left.0) (Right p.right.0) variables bits x.left x.right
  pub difference : IsEventDifferenceUnder c (both_of a b) (Left p.left.0) (Right p.right.0) asked sides variables bits
  pub told : TellsBits variables bits x.frame.items

-- The first pair that isn't shown reaches class 0 alone, and latches are cut open: its sequence, over the circuits as they are cut.
pub record IsFirstCutUnder (c : Assumption) (a b : EventCircuitView) (meeting : ℕ → Bool) (e : EventPairs) (results : List PairResult) (x : Witness) : Type 0 where
  pub index : ℕ
  pub place : SignalPair
  pub first : IsFirstWith answer.NotShown e.pairs.now results index place
  pub cut : e.cut ≡ true
  pub always : BothReachAlways (both_of a b) place
  pub named : x.pair ≡ place.name
  pub sequence : IsSequenceUnder c a b e.names.now meeting place x

-- The first pair that isn't shown reaches another class: its frame, and what tells apart each two classes in the paths of its event nodes, which is
-- as without an assumption.
pub record IsFirstUnshownUnder (c : Assumption) (a b : EventCircuitView) (e : EventPairs) (results : List PairResult) (x : UnshownPair) : Type 0 where
  pub index : ℕ
  pub place : SignalPair
  pub first : IsFirstWith answer.NotShown e.pairs.now results index place
  pub named : x.frame.pair ≡ place.name
  pub frame : IsFrameUnder c a b place x.frame
  pub apart : AreToldApart a b place x.apart

-- the first of different, limit and not shown that some pair has, and equal where every pair is equal
abbrev pub VerdictFitsUnder : Assumption → EventCircuitView → EventCircuitView → (ℕ → Bool) → EventPairs → List PairResult → EventVerdict → Type 0
VerdictFitsUnder c a b meeting e results verdict.Equal = All (λ (r : PairResult). r.answer ≡ answer.Equal) results
VerdictFitsUnder c a b meeting e results (verdict.Different x) = IsFirstDifferenceUnder c a b meeting e results x
VerdictFitsUnder c a b meeting e results (verdict.Limit name) = NoneIs answer.Different results × IsFirstLimit e.pairs.now results name
VerdictFitsUnder c a b meeting e results (verdict.Cut x) = NoneIs answer.Different results × NoneIs answer.Limit results × IsFirstCutUnder c a b meeting e results x
VerdictFitsUnder c a b meeting e results (verdict.Events x) = NoneIs answer.Different results × NoneIs answer.Limit results × IsFirstUnshownUnder c a b e results x

-- What is found of the pairs fits the circuits under the assumption: one result for each, in order, and the verdict.
pub record FindingsFitUnder (c : Assumption) (a b : EventCircuitView) (meeting : ℕ → Bool) (e : EventPairs) (conflicts : ℕ) (f : EventFindings) : Type 0 where
  pub pairs_fit : AllZip (PairFitsUnder c (both_of a b) e.cut conflicts) e.pairs.now f.pairs
  pub verdict_is : VerdictFitsUnder c a b meeting e f.pairs f.verdict
