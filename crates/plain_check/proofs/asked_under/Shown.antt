-- The obligation and the queries of a difference, and its sequence.
use Rattle.std.proofs.Common.{◌≡◌, ◌∙◌, ℕ, suc, Bool, List, length, slice_get, sym, ap, subst}
use Rattle.std.specs.List.{All}
use Rattle.std.proofs.lemmas.Option.{same_Some}
use Rattle.circuit_theory.specs.Sequence.{sequence_rows}
use Rattle.aig.specs.declared.node.Node.{Node}
use Rattle.pair_decide.specs.declared.query.Query.{Query}
use Rattle.witness_report.specs.declared.witness.PairName.{PairName}
use Rattle.witness_report.specs.declared.witness.Witness.{Witness}
use Rattle.obligations.specs.declared.obligation.Obligation.{Obligation}
use Rattle.obligations.specs.declared.obligation.Difference.{Difference}
use Rattle.cbf_unfold.proofs.shift_variables.CycleRows.{rows_fit}
use Rattle.plain_asked.specs.Sequences.{IsQueryAt}
use Rattle.plain_check.specs.asked_under.Differences.{HasQueryAt, HoldsAt, HasRows, IsSequenceOfRows}

-- one obligation stands there, with one query
pub same_obligation : {asked : List Obligation} {d : Difference} {o p : Obligation} {q r : Query} → IsQueryAt asked d o q → IsQueryAt asked d p r → o ≡ p
same_obligation {o = o} {p = p} a b = same_Some o p (sym a.asked_at ∙ b.asked_at)

pub same_query : {asked : List Obligation} {d : Difference} {o p : Obligation} {q r : Query} → IsQueryAt asked d o q → IsQueryAt asked d p r → q ≡ r
same_query {d = d} {q = q} {r = r} a b = same_Some q r (sym a.query_at ∙ (ap (λ (x : Obligation). slice_get x.queries d.query) (same_obligation a b) ∙ b.query_at))

-- what holds at a difference holds of what stands there
pub holds_there : (P : Obligation → Query → Query → Type 0) {asked under : List Obligation} {d : Difference} {p u : Obligation} {t q : Query} → HoldsAt P asked under d → IsQueryAt asked d p t → IsQueryAt under d u q → P u t q
holds_there P {t = t} {q = q} x a b =
    subst (λ (o : Obligation). P o t q) (same_obligation x.under_at b) (subst (λ (y : Query). P x.obligation y q) (same_query x.asked_at a) (subst (λ (y : Query). P x.obligation x.sides y) (same_query x.under_at b) x.holds))

module _ (P : Obligation → Query → Query → Type 0) {asked under : List Obligation} {d : Difference} (x : HoldsAt P asked under d) where
  pub asked_there : HasQueryAt asked d
  asked_there = record { obligation = x.plain; query = x.sides; is = x.asked_at }

  pub under_there : HasQueryAt under d
  under_there = record { obligation = x.obligation; query = x.query; is = x.under_at }

-- the sequence with other rows
pub with_other_rows : (g : List Node) (names : List (List ℕ)) (name : PairName) (q : Query) (bits : List Bool) (last : ℕ) (old rows new : List (List Bool)) (v w : Witness) → IsSequenceOfRows g names name q bits last old v → HasRows v rows w → rows ≡ new →
    IsSequenceOfRows g names name q bits last new w
with_other_rows g names name q bits last old rows new v w is has same = record {
  pair_is = has.pair_is ∙ is.pair_is;
  cycle_is = has.cycle_is ∙ is.cycle_is;
  left_is = has.left_is ∙ is.left_is;
  right_is = has.right_is ∙ is.right_is;
  names_are = has.names_are ∙ is.names_are;
  rows_are = has.rows_are ∙ same;
}

-- each row has a bit for each name
pub fits : (last count : ℕ) (a : ℕ → ℕ → Bool) (rows : List (List Bool)) (size : ℕ) → rows ≡ sequence_rows last a count → count ≡ size → All (λ (row : List Bool). length row ≡ size) rows
fits last count a rows size is same =
    subst (λ (rs : List (List Bool)). All (λ (row : List Bool). length row ≡ size) rs) (sym is)
    (subst (λ k. All (λ (row : List Bool). length row ≡ k) (sequence_rows last a count)) same (rows_fit last a count 0 (suc last)))
