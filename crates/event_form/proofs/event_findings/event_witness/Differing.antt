-- Where a pair reaches class 0 alone, a difference makes it differ in all runs.
use Rattle.std.proofs.Common.{◌≡◌, ◌∙◌, ◌<◌, ℕ, zero, suc, max, List, [], ◌∷◌, length, slice_get, Some, sym, ap, subst}
use Rattle.std.specs.List.{All}
use Rattle.std.proofs.lemmas.Option.{none-some, same_Some}
use Rattle.circuit_theory.specs.Fits.{MakesDiffer}
use Rattle.circuit_theory.specs.Joined.{Left, Right}
use Rattle.circuit_theory.specs.Query.{Variable}
use Rattle.circuit_theory.specs.EventFits.{IsEventWitness}
use Rattle.circuit_theory.specs.EventFrames.{frame_of}
use Rattle.circuit_laws.proofs.event_laws.EventVariables.{event_difference_gives_witness}
use Rattle.circuit_laws.proofs.event_laws.EventWindows.{event_witness_makes_differ_in_nets}
use Rattle.circuit_laws.proofs.event_laws.SideParts.{sides_are_parts_in_nets}
use Rattle.sec_setup.specs.ports.flat_net.View.{circuit_of}
use Rattle.sec_setup.proofs.ports.flat_net.Nets.{sound_is_net}
use Rattle.aig.specs.Values.{value}
use Rattle.event_nodes.specs.event_variables.Variables.{variables_of}
use Rattle.edbf_unfold.specs.class_queries.Enables.{both_of, class_map}
use Rattle.edbf_unfold.proofs.class_queries.Meaning.{numbered}
use Rattle.event_form.specs.event_agreement.Laws.{IsFrameDifference}
use Rattle.event_form.proofs.event_agreement.PairQueries.{are_variables, differences_least}
use Rattle.obligations.specs.outcome.pair_decide.Query.{Query}
use Rattle.obligations.specs.outcome.pair_decide.Answers.{IsDifference}
use Rattle.obligations.specs.outcome.pair_decide.Queries.{assigned_to}
use Rattle.event_form.specs.event_findings.event_witness.Laws.{AlwaysDifferencesMakeDiffer}
use Rattle.event_form.specs.event_findings.event_witness.Sequences.{rows_at}
use Rattle.event_form.proofs.event_findings.event_witness.InputLeaves.{pair_inputs_within}

-- one of one query is that query
pub only_query : (q : Query) (queries : List Query) (i : ℕ) (r : Query) → queries ≡ q ∷ [] → slice_get queries i ≡ Some r → r ≡ q
only_query q queries i r e at = go i (ap (λ (qs : List Query). slice_get qs i) (sym e) ∙ at)
  where
    go : (j : ℕ) → slice_get (q ∷ []) j ≡ Some r → r ≡ q
    go zero h = sym (same_Some q r h)
    go (suc j) h = absurd (none-some r h)

pub always_differences : AlwaysDifferencesMakeDiffer
always_differences a b w cut p o place count d e bits kept classes depths numbers left_below right_below k left_always right_always found left_depth right_depth =
    let same : found.query ≡ k.query = only_query k.query o.queries place found.query k.only found.first.at in
    let differs : IsDifference w.graph k.query bits = subst (λ (q : Query). IsDifference w.graph q bits) same found.differs in
    let least : IsFrameDifference (both_of a b) w (Left p.left.0) (Right p.right.0) k.query bits = differences_least (both_of a b) w (Left p.left.0) (Right p.right.0) k.query bits kept.events k.asks differs in
    let na = sound_is_net a.net kept.left_sound in
    let nb = sound_is_net b.net kept.right_sound in
    let parts = sides_are_parts_in_nets (circuit_of a.net) (circuit_of b.net) (length a.net.drivers) (length b.net.drivers) na nb in
    let inputs : All (λ (x : Variable (List ℕ)). x.input < count) (variables_of w k.query.vars) =
    pair_inputs_within (circuit_of a.net) (circuit_of b.net) a.order b.order (class_map a b) (numbered a kept.left) p.left.0 p.right.0 count (variables_of w k.query.vars) left_below right_below (are_variables (both_of a b) w (Left p.left.0) (Right p.right.0) k.query kept.events k.asks) in
    let witness : IsEventWitness (both_of a b) p.left.0 p.right.0 count (rows_at w k.query bits (max d e) count) (max d e) (least.asked.left (frame_of (variables_of w k.query.vars) bits)) (least.asked.right (frame_of (variables_of w k.query.vars) bits)) =
    event_difference_gives_witness (both_of a b) p.left.0 p.right.0 count d e least.asked (variables_of w k.query.vars) bits least.differs inputs (parts.2 p.left.0 d left_depth) (parts.3 p.right.0 e right_depth) left_always right_always in
    let made = event_witness_makes_differ_in_nets (circuit_of a.net) (circuit_of b.net) (length a.net.drivers) (length b.net.drivers) a.order b.order (class_map a b) na nb numbers (numbered a kept.left) (numbered b kept.right) classes depths p.left.0 p.right.0 count
    (rows_at w k.query bits (max d e) count) (max d e) (least.asked.left (frame_of (variables_of w k.query.vars) bits)) (least.asked.right (frame_of (variables_of w k.query.vars) bits)) witness in (
      k.query,
      subst (λ (q : Query). slice_get o.queries place ≡ Some q) same found.first.at,
      subst (λ l. MakesDiffer (circuit_of a.net) (circuit_of b.net) a.order b.order p.left.0 p.right.0 (rows_at w k.query bits (max d e) count) (max d e) l (value w.graph (assigned_to k.query.vars bits) k.query.right.0)) least.left
          (subst (λ r. MakesDiffer (circuit_of a.net) (circuit_of b.net) a.order b.order p.left.0 p.right.0 (rows_at w k.query bits (max d e) count) (max d e) (least.asked.left (frame_of (variables_of w k.query.vars) bits)) r) least.right made),
    )
