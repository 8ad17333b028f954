-- Queries that an assignment of the words tells apart.
use Rattle.std.proofs.Common.{◌≡◌, ◌≢◌, ℕ, ◌+◌, ◌*◌, ◌/◌, ◌%◌, ◌<◌, Bool, true, false, not, List, [], ◌∷◌, length, slice_get, Option, Some, refl, sym, ◌∙◌, ap, subst, arith, inl, inr, true≢false}
use Rattle.std.proofs.lemmas.Bool.Decides.{Decides-eqb}
use Rattle.std.specs.Prelude.{◌⊎◌, ◌==◌, slice_index_or}
use Rattle.std.specs.List.{Contains}
use Rattle.circuit_theory.proofs.Lists.{Contains-head, Contains-tail, Contains-cases, at_of, length-map}
use Rattle.swept_queries.specs.sweep.aig.Node.{Node}
use Rattle.swept_queries.specs.sweep.aig.Node.TheVariants.{Constant, Input}
use Rattle.swept_queries.specs.sweep.aig.Graph.{IsGraph, flip}
use Rattle.swept_queries.specs.sweep.aig.Cone.{IsReached}
use Rattle.swept_queries.specs.sweep.aig.Values.{value}
use Rattle.swept_queries.proofs.sweep.aig.Literals.{parity, flip-even}
use Rattle.swept_queries.proofs.sweep.aig.Meaning.{value-flip, value-node}
use Rattle.swept_queries.specs.sweep.lane_eval.Blocks.{block_bit, turned}
use Rattle.swept_queries.specs.sweep.lane_eval.Signatures.{word_lane, AreSignatures}
use Rattle.swept_queries.proofs.sweep.lane_eval.Numbered.{assigned_to-at, map-at}
use Rattle.swept_queries.specs.sweep.pair_decide.Query.{Query}
use Rattle.swept_queries.specs.sweep.pair_decide.Queries.{IsQuery, IsTrivial, assigned_to, roots_of}
use Rattle.swept_queries.specs.sweep.pair_decide.Answers.{IsDifference}
use Rattle.swept_queries.proofs.sweep.pair_decide.Reached.{same-root}
use Rattle.swept_queries.specs.declared.sides.Sides.{Sides}
use Rattle.swept_queries.specs.declared.sides.Known.{Known}
use Rattle.swept_queries.specs.declared.sides.Known.TheVariants.{Nothing, Swept, Apart}
use Rattle.swept_queries.specs.Lanes.{lit_lane, TellsApart, DiffersAt, lane_bits}
use Rattle.swept_queries.specs.InStead.{sides_of, AreWithin, MayBeWithin, AreKnownWithin, IsChosen, IsKept}

-- different numbers are no test's equals
pub apart-eqb : (u v : ℕ) → u ≢ v → (u == v) ≡ false
apart-eqb u v apart = by (u == v) refl
  where
    by : (b : Bool) → (u == v) ≡ b → (u == v) ≡ false
    by true e = absurd (apart ((Decides-eqb u v).0 e))
    by false e = e

module _ (g : List Node) (words : List ℕ) (table : List (List ℕ)) (signed : AreSignatures g words table) where
  -- a literal's bit in the table is its value
  lit_is : (l k : ℕ) → l < 2 * length g → k < 512 → lit_lane table l k ≡ value g (word_lane words k) l
  lit_is l k within lane = by (parity l)
    where
      here : block_bit (slice_index_or table (l / 2) []) k ≡ value g (word_lane words k) (2 * (l / 2))
      here = signed.bits (l / 2) k (omega arith) lane

      by : (l % 2 ≡ 0) ⊎ (l % 2 ≡ 1) → lit_lane table l k ≡ value g (word_lane words k) l
      by (inl even) =
          let half : 2 * (l / 2) ≡ l = omega arith in
          ap (λ (n : ℕ). turned (n == 1) (block_bit (slice_index_or table (l / 2) []) k)) even ∙ here ∙ ap (value g (word_lane words k)) half
      by (inr odd) =
          let half : 2 * (l / 2) + 1 ≡ l = omega arith in
          let whole : flip (2 * (l / 2)) ≡ l = flip-even (2 * (l / 2)) (omega arith) ∙ half in
          ap (λ (n : ℕ). turned (n == 1) (block_bit (slice_index_or table (l / 2) []) k)) odd ∙ ap not here ∙ sym (value-flip g (word_lane words k) (2 * (l / 2))) ∙ ap (value g (word_lane words k)) whole

  apart_is : (t : Sides) (k : ℕ) → AreWithin g t → TellsApart table t k → DiffersAt g words t k
  apart_is t k within h = record {
    care = sym (lit_is t.care.0 k within.care h.lane) ∙ h.care;
    differ = λ e. h.differ (lit_is t.left.0 k within.left h.lane ∙ (e ∙ sym (lit_is t.right.0 k within.right h.lane)));
  }

  -- what is chosen by the table is chosen by the words
  pub kept_is : (given : Option Sides) (known : Known) → MayBeWithin g given → IsChosen table given known → IsKept g words given known
  kept_is given Nothing within h = h
  kept_is given (Swept t) within h = h
  kept_is given (Apart k) within h = (h.0, h.1, apart_is h.0 k (subst (MayBeWithin g) h.1 within) h.2)

  length_is : length table ≡ length g
  length_is = signed.each

  pub known_within : (known : Known) → AreKnownWithin table known → AreKnownWithin g known
  known_within Nothing h = h
  known_within (Swept t) h = record { left = omega (arith, h.left, length_is); right = omega (arith, h.right, length_is); care = omega (arith, h.care, length_is) }
  known_within (Apart k) h = h

module _ (g : List Node) (q : Query) (words : List ℕ) (k : ℕ) (graph : IsGraph g) (is : IsQuery g q) where
  each : length (lane_bits words q.vars k) ≡ length q.vars
  each = length-map (word_lane words k) q.vars

  -- a variable that is reached has its bit
  agree : (n v : ℕ) → IsReached g (roots_of q) n → slice_get g n ≡ Some (Input v) → assigned_to q.vars (lane_bits words q.vars k) v ≡ word_lane words k v
  agree n v reach at =
      let j = at_of q.vars v (is.covers n v reach at) in
      sym (assigned_to-at q.vars (lane_bits words q.vars k) is.distinct each j.0 v j.1) ∙ map-at q.vars (word_lane words k) j.0 v j.1

  roots-within : (x : ℕ) → Contains (roots_of q) x → x < 2 * length g
  roots-within x h = first (Contains-cases q.left.0 x (q.right.0 ∷ q.care.0 ∷ []) h)
    where
      last : (q.care.0 ≡ x) ⊎ Contains [] x → x < 2 * length g
      last (inl e) = subst (λ (y : ℕ). y < 2 * length g) e is.care
      last (inr n) = absurd (omega (arith, n.1))

      second : (q.right.0 ≡ x) ⊎ Contains (q.care.0 ∷ []) x → x < 2 * length g
      second (inl e) = subst (λ (y : ℕ). y < 2 * length g) e is.right
      second (inr n) = last (Contains-cases q.care.0 x [] n)

      first : (q.left.0 ≡ x) ⊎ Contains (q.right.0 ∷ q.care.0 ∷ []) x → x < 2 * length g
      first (inl e) = subst (λ (y : ℕ). y < 2 * length g) e is.left
      first (inr n) = second (Contains-cases q.right.0 x (q.care.0 ∷ []) n)

  root-value : (x : ℕ) → Contains (roots_of q) x → value g (assigned_to q.vars (lane_bits words q.vars k)) x ≡ value g (word_lane words k) x
  root-value x root = same-root g graph.ordered (roots_of q) roots-within (assigned_to q.vars (lane_bits words q.vars k)) (word_lane words k) agree x root

  left-root : value g (assigned_to q.vars (lane_bits words q.vars k)) q.left.0 ≡ value g (word_lane words k) q.left.0
  left-root = root-value q.left.0 (Contains-head q.left.0 (q.right.0 ∷ q.care.0 ∷ []))

  right-root : value g (assigned_to q.vars (lane_bits words q.vars k)) q.right.0 ≡ value g (word_lane words k) q.right.0
  right-root = root-value q.right.0 (Contains-tail q.left.0 q.right.0 (q.right.0 ∷ q.care.0 ∷ []) (Contains-head q.right.0 (q.care.0 ∷ [])))

  care-root : value g (assigned_to q.vars (lane_bits words q.vars k)) q.care.0 ≡ value g (word_lane words k) q.care.0
  care-root = root-value q.care.0 (Contains-tail q.left.0 q.care.0 (q.right.0 ∷ q.care.0 ∷ []) (Contains-tail q.right.0 q.care.0 (q.care.0 ∷ []) (Contains-head q.care.0 [])))

  zero-value : (a : ℕ → Bool) → value g a 0 ≡ false
  zero-value a = value-node g graph.ordered 0 Constant a graph.constant

  not_trivial : DiffersAt g words (sides_of q) k → IsTrivial q → ⊥
  not_trivial d (inl e) = d.differ (ap (value g (word_lane words k)) e)
  not_trivial d (inr e) = true≢false (sym d.care ∙ (ap (value g (word_lane words k)) e ∙ zero-value (word_lane words k)))

  -- the bits of the assignment are a difference, where the least one isn't wanted
  pub lane-difference : 16 < length q.vars → DiffersAt g words (sides_of q) k → IsDifference g q (lane_bits words q.vars k)
  lane-difference many d = record {
    apart = not_trivial d;
    each = each;
    distinguishes = record { care = care-root ∙ d.care; differ = λ e. d.differ (sym left-root ∙ (e ∙ right-root)) };
    least = λ few. absurd (omega (arith, few, many));
  }
