-- What it means that what is found of some pairs fits two circuits, in the event form.
use Rattle.std.specs.Prelude.{◌≡◌, ◌≢◌, ℕ, ◌<◌, Bool, true, List, length, slice_get, Some}
use Rattle.std.specs.List.{All, AllZip}
use Rattle.circuit_theory.specs.Fits.{MakesDiffer}
use Rattle.circuit_theory.specs.Joined.{Left, Right}
use Rattle.circuit_theory.specs.Query.{Variable}
use Rattle.circuit_theory.specs.Query as frame_query
use Rattle.circuit_theory.specs.Sequence.{sequence_rows}
use Rattle.circuit_theory.specs.EventFrames.{IsUnshownFrame, IsEventDifference, frame_of}
use Rattle.circuit_theory.specs.Frame.{bits_as_shifts}
use Rattle.flat_net.specs.View.{circuit_of}
use Rattle.sec_base.specs.declared.basics.PairAnswer.{PairAnswer}
use Rattle.sec_base.specs.declared.basics.PairAnswer.TheVariants as answer
use Rattle.edbf_unfold.specs.class_queries.Enables.{both_of}
use Rattle.event_nodes.specs.View.{EventCircuitView}
use Rattle.sec_setup.specs.declared.ports.pairs.SignalPair.{SignalPair}
use Rattle.sec_setup.specs.ports.witness_report.PairName.{PairName}
use Rattle.sec_setup.specs.ports.witness_report.Witness.{Witness}
use Rattle.obligations.specs.declared.outcome.verdict.PairResult.{PairResult}
use Rattle.event_form.specs.event_findings.unshown_pairs.Decided.{NoneIs}
use Rattle.event_form.specs.Answers.{PairFits}
use Rattle.event_form.specs.declared.event_findings.event_witness.unshown.UnshownFrame.{UnshownFrame}
use Rattle.event_form.specs.event_findings.unshown_pairs.Reached.{BothReachAlways}
use Rattle.event_form.specs.event_findings.unshown_pairs.Separations.{AreToldApart}
use Rattle.event_form.specs.event_findings.unshown_pairs.Told.{TellsBits}
use Rattle.event_form.specs.declared.event_findings.findings.EventFindings.{EventFindings}
use Rattle.event_form.specs.declared.event_findings.pairs.EventPairs.{EventPairs}
use Rattle.event_form.specs.declared.event_findings.verdict.EventVerdict.{EventVerdict}
use Rattle.event_form.specs.declared.event_findings.verdict.EventVerdict.TheVariants as verdict
use Rattle.event_form.specs.declared.event_findings.verdict.UnshownPair.{UnshownPair}
use Rattle.event_form.specs.event_findings.Compared.{IsEventDepth}

-- the pair at this place is the first with this answer
pub record IsFirstWith (wanted : PairAnswer) (pairs : List SignalPair) (results : List PairResult) (index : ℕ) (p : SignalPair) : Type 0 where
  pub result : PairResult
  pub pair_at : slice_get pairs index ≡ Some p
  pub result_at : slice_get results index ≡ Some result
  pub answered : result.answer ≡ wanted
  pub earlier : (i : ℕ) (r : PairResult) → i < index → slice_get results i ≡ Some r → r.answer ≢ wanted

-- The sequence of a pair, over the inputs of these names: that of an assignment of the variables of the pair's query that meets the care and
-- makes the sides differ, up to 16 variables the least one. Its values are those of the sides, it ends in the cycle of the pair's depth, an input
-- at a node that is so many steps below the root standing so many cycles before, and it makes the pair differ in all runs of both circuits.
pub record IsSequenceOf (a b : EventCircuitView) (names : List (List ℕ)) (p : SignalPair) (x : Witness) : Type 0 where
  pub asked : frame_query.Query (List ℕ)
  pub variables : List (Variable (List ℕ))
  pub bits : List Bool
  pub difference : IsEventDifference (both_of a b) (Left p.left.0) (Right p.right.0) asked variables bits
  pub left_value : x.left ≡ asked.left (frame_of variables bits)
  pub right_value : x.right ≡ asked.right (frame_of variables bits)
  pub cycle_is : IsEventDepth a b p x.cycle
  pub names_are : x.stimulus.names ≡ names
  pub rows_are : x.stimulus.rows ≡ sequence_rows x.cycle (bits_as_shifts (frame_of variables bits)) (length names)
  pub differ : MakesDiffer (circuit_of a.net) (circuit_of b.net) a.order b.order p.left.0 p.right.0 x.stimulus.rows x.cycle x.left x.right

-- the first pair that is different, and its sequence
pub record IsFirstDifference (a b : EventCircuitView) (c : EventPairs) (results : List PairResult) (x : Witness) : Type 0 where
  pub index : ℕ
  pub place : SignalPair
  pub first : IsFirstWith answer.Different c.pairs.now results index place
  pub named : x.pair ≡ place.name
  pub sequence : IsSequenceOf a b c.names.now place x

-- the first pair at its limit
pub record IsFirstLimit (pairs : List SignalPair) (results : List PairResult) (name : PairName) : Type 0 where
  pub index : ℕ
  pub place : SignalPair
  pub first : IsFirstWith answer.Limit pairs results index place
  pub named : name ≡ place.name

-- The frame of a pair: a bit for each variable of the pair's query, in order. It has care for both sides and gives them the two values, which
-- differ; up to 16 variables it is the least one.
pub record IsFrameOf (a b : EventCircuitView) (p : SignalPair) (x : UnshownFrame) : Type 0 where
  pub asked : frame_query.Query (List ℕ)
  pub variables : List (Variable (List ℕ))
  pub bits : List Bool
  pub shown : IsUnshownFrame (both_of a b) (Left p.left.0) (Right p.right.0) variables bits x.left x.right
  pub difference : IsEventDifference (both_of a b) (Left p.left.0) (Right p.right.0) asked variables bits
  pub told : TellsBits variables bits x.frame.items

-- The first pair that isn't shown reaches class 0 alone, and latches are cut open: its sequence, over the circuits as they are cut.
pub record IsFirstCut (a b : EventCircuitView) (c : EventPairs) (results : List PairResult) (x : Witness) : Type 0 where
  pub index : ℕ
  pub place : SignalPair
  pub first : IsFirstWith answer.NotShown c.pairs.now results index place
  pub cut : c.cut ≡ true
  pub always : BothReachAlways (both_of a b) place
  pub named : x.pair ≡ place.name
  pub sequence : IsSequenceOf a b c.names.now place x

-- The first pair that isn't shown reaches another class: its frame, and what tells apart each two classes in the paths of its event nodes.
pub record IsFirstUnshown (a b : EventCircuitView) (c : EventPairs) (results : List PairResult) (x : UnshownPair) : Type 0 where
  pub index : ℕ
  pub place : SignalPair
  pub first : IsFirstWith answer.NotShown c.pairs.now results index place
  pub named : x.frame.pair ≡ place.name
  pub frame : IsFrameOf a b place x.frame
  pub apart : AreToldApart a b place x.apart

-- the first of different, limit and not shown that some pair has, and equal where every pair is equal
abbrev pub VerdictFits : EventCircuitView → EventCircuitView → EventPairs → List PairResult → EventVerdict → Type 0
VerdictFits a b c results verdict.Equal = All (λ (r : PairResult). r.answer ≡ answer.Equal) results
VerdictFits a b c results (verdict.Different x) = IsFirstDifference a b c results x
VerdictFits a b c results (verdict.Limit name) = NoneIs answer.Different results × IsFirstLimit c.pairs.now results name
VerdictFits a b c results (verdict.Cut x) = NoneIs answer.Different results × NoneIs answer.Limit results × IsFirstCut a b c results x
VerdictFits a b c results (verdict.Events x) = NoneIs answer.Different results × NoneIs answer.Limit results × IsFirstUnshown a b c results x

-- What is found of the pairs fits the circuits: one result for each, in order, and the verdict.
pub record FindingsFit (a b : EventCircuitView) (c : EventPairs) (conflicts : ℕ) (f : EventFindings) : Type 0 where
  pub pairs_fit : AllZip (PairFits (both_of a b) c.cut conflicts) c.pairs.now f.pairs
  pub verdict_is : VerdictFits a b c f.pairs f.verdict
