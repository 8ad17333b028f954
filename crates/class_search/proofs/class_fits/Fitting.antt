-- What the answers of the search say.
use Rattle.std.proofs.Common.{◌≡◌, ◌∙◌, ◌<◌, ℕ, zero, suc, List, ◌∷◌, length, slice_get, Some, sym, ap, subst, arith}
use Rattle.std.specs.Prelude.{Contains}
use Rattle.std.proofs.lemmas.List.Elements.{Contains-append_right}
use Rattle.std.proofs.lemmas.Option.{slice_get_within}
use Rattle.circuit_theory.specs.Joined.{Either}
use Rattle.circuit_theory.proofs.Lists.{Contains-head}
use Rattle.circuit_theory.specs.Frame.{EventSide}
use Rattle.circuit_theory.specs.Classes.{EnablesEqual, EnablesDiffer, EqualsMembers, DiffersFromMember, classes_of}
use Rattle.circuit_theory.specs.EventTotals.{IsAsked}
use Rattle.circuit_laws.specs.event_laws.ClassSteps.{IsFirstFit}
use Rattle.flat_net.proofs.Nets.{some_at}
use Rattle.flat_net.proofs.Places.{All-at}
use Rattle.aig.specs.declared.node.Lit.{Lit}
use Rattle.aig.specs.Rules.{IsAndOf}
use Rattle.aig.specs.Values.{value}
use Rattle.sec_base.specs.declared.basics.Tag.{Tag}
use Rattle.class_search.specs.pair_decide.Query.{Query}
use Rattle.class_search.specs.pair_decide.Proof.{Proof}
use Rattle.class_search.specs.pair_decide.SameBy.{SameBy}
use Rattle.class_search.specs.pair_decide.SameBy.TheVariants as same_by
use Rattle.class_search.specs.pair_decide.Decision.TheVariants as answer
use Rattle.class_search.specs.pair_decide.Answers.{Decides, IsAtLimit}
use Rattle.class_search.specs.pair_decide.Queries.{assigned_to, IsSame as query_same}
use Rattle.event_nodes.specs.Nodes.{EventGraphView, IsEventGraph, GrowsEvents}
use Rattle.event_nodes.specs.View.{EventCircuitView}
use Rattle.class_search.specs.declared.compare.Enable.{Enable}
use Rattle.class_search.specs.Comparing.{IsComparison, IsAlwaysComparison}
use Rattle.class_search.specs.Fitting.{AreSameEnables}
use Rattle.edbf_unfold.specs.class_queries.Enables.{both_of, IsEnableFunction, AsksEnables}
use Rattle.edbf_unfold.specs.class_queries.Laws.{AreKept}
use Rattle.edbf_unfold.proofs.class_queries.Meaning.{equal_law, apart_law, always_law, off_law}
use Rattle.edbf_unfold.proofs.class_queries.Staying.{functions_grow_with_graph}
use Rattle.class_search.specs.declared.class.Class.{Class}
use Rattle.class_search.specs.declared.search.Fit.{Fit}
use Rattle.class_search.specs.declared.search.Fit.TheVariants as fit
use Rattle.class_search.specs.declared.search.Unfit.TheVariants as unfit
use Rattle.class_search.specs.declared.told.Difference.{Difference}
use Rattle.class_search.specs.declared.told.Told.{Told}
use Rattle.class_search.specs.Told.{IsTold, HaveAgreed, IsAlwaysTold}
use Rattle.class_search.specs.Search.{AreTold, IsFit, IsUnfit}
use Rattle.class_search.specs.class_fits.Members.{IsMember, HasMembers, HaveMembers, class_of_fit}
use Rattle.class_search.specs.class_fits.Laws.{FitIsFirst, LimitIsAsked, AlwaysLimitIsAsked}

-- what an answer that the sides are the same says
same_of : (w : EventGraphView) (q : Query) (conflicts : ℕ) (by : SameBy) → Decides w.graph q conflicts (answer.Same by) → query_same w.graph q
same_of w q conflicts same_by.Literal h = h.1
same_of w q conflicts same_by.Table h = h.1
same_of w q conflicts (same_by.Refuted proof) h = h.1

module _ (a b : EventCircuitView) (v : EventGraphView) (kept : AreKept a b v) (place : Tag → Either ℕ ℕ) (taken : List (Either ℕ ℕ)) (u : Either ℕ ℕ) (latch : Enable) (conflicts : ℕ)
    (function : IsEnableFunction (both_of a b) v u latch.value.0 latch.care.0) where
  abbrev s : EventSide (Either ℕ ℕ)
  s = both_of a b

  -- both circuits and a later state of the graph
  kept_at : (w : EventGraphView) → IsEventGraph w → AreKept a b w
  kept_at w is = record { left_sound = kept.left_sound; right_sound = kept.right_sound; left = kept.left; right = kept.right; events = is }

  later : (w : EventGraphView) → GrowsEvents v w → (p : Either ℕ ℕ) (x : Enable) → IsEnableFunction s v p x.value.0 x.care.0 → IsEnableFunction s w p x.value.0 x.care.0
  later w grows p x is = functions_grow_with_graph s v w p x.value.0 x.care.0 kept.events grows is

  -- the latch is always enabled
  always_enabled : (vars : List ℕ) (by : SameBy) → IsAlwaysComparison v latch conflicts (record { vars = vars; decision = answer.Same by }) → EqualsMembers s taken 0 u
  always_enabled vars by k = always_law a b v kept u latch.value.0 latch.care.0 function (λ x cared.
      let same = same_of v k.query conflicts by k.decided x (ap (λ l. value v.graph x l.0) k.care ∙ cared) in
      sym (ap (λ l. value v.graph x l.0) k.left) ∙ (same ∙ ap (λ (l : ℕ). value v.graph x l) k.right))

  -- it isn't
  sometimes_off : (d : Difference) → IsAlwaysTold v latch conflicts d → DiffersFromMember s taken 0 u
  sometimes_off d k =
      let shown = k.decided.distinguishes in
      let x = assigned_to k.query.vars d.bits in
      off_law a b v kept u latch.value.0 latch.care.0 x function (record {
        cared = sym (ap (λ l. value v.graph x l.0) k.care) ∙ shown.care;
        differ = λ e. shown.differ (ap (λ l. value v.graph x l.0) k.left ∙ (e ∙ sym (ap (λ (l : ℕ). value v.graph x l) k.right)));
      })

  -- the three literals of a comparison
  asks : (at : EventGraphView) → GrowsEvents v at → (p : Either ℕ ℕ) (x : Enable) (both : ℕ) → IsEnableFunction s v p x.value.0 x.care.0 → IsAndOf at.graph x.care.0 latch.care.0 both →
      AsksEnables s at p u x.value.0 latch.value.0 both
  asks at grows p x both is and = record { left_care = x.care.0; right_care = latch.care.0; left_is = later at grows p x is; right_is = later at grows u latch function; both = and }

  -- a latch whose enable no assignment told from the latch's
  equal_of : (at : EventGraphView) → GrowsEvents v at → IsEventGraph at → (p : Either ℕ ℕ) (x : Enable) → IsEnableFunction s v p x.value.0 x.care.0 → AreSameEnables at x latch → EnablesEqual s p u
  equal_of at grows is p x function_p k = equal_law a b at (kept_at at is) p u x.value.0 latch.value.0 k.care (asks at grows p x k.care function_p k.both) k.same

  -- one whose enable an assignment tells from it
  apart_of : (at : EventGraphView) → GrowsEvents v at → IsEventGraph at → (p : Either ℕ ℕ) (x : Enable) → IsEnableFunction s v p x.value.0 x.care.0 → (d : Difference) → IsComparison at x latch conflicts (record { vars = d.vars; decision = answer.Differs d.bits }) →
      EnablesDiffer s p u
  apart_of at grows is p x function_p d k =
      let shown = k.decided.distinguishes in
      let y = assigned_to k.query.vars d.bits in
      apart_law a b at (kept_at at is) p u x.value.0 latch.value.0 k.query.care.0 y (asks at grows p x k.query.care.0 function_p k.both) (record {
        cared = shown.care;
        differ = λ e. shown.differ (ap (λ l. value at.graph y l.0) k.left ∙ (e ∙ sym (ap (λ l. value at.graph y l.0) k.right)));
      })

  -- the member at a place
  member_at : (class : ℕ) (c : Class) → HasMembers s v place taken class c → (i : ℕ) (x : Enable) → slice_get c.enables.items i ≡ Some x →
      (t : Tag) × (slice_get c.tags.items i ≡ Some t) × IsMember s v taken class c.enables.items i (place t) x
  member_at class c h i x at =
      let inside = slice_get_within c.enables.items i x at in
      let t = some_at c.tags.items i (omega (arith, inside, h.paired)) in
      (t.0, t.1, h.each i t.0 x t.1 at)

  taken_of : (class : ℕ) (enables : List Enable) (i : ℕ) (p : Either ℕ ℕ) (x : Enable) → IsMember s v taken class enables i p x → Contains taken p
  taken_of class enables i p x m = subst (λ (qs : List (Either ℕ ℕ)). Contains qs p) (sym m.split) (Contains-append_right m.before (p ∷ m.after) p (Contains-head p m.after))

  -- the latch differs from a member of the class
  told_apart : (w : EventGraphView) (k : ℕ) (c : Class) → HasMembers s v place taken (suc k) c → (t : Told) → IsTold v w c.enables.items latch conflicts t → DiffersFromMember s taken (suc k) u
  told_apart w k c h t is =
      let m = member_at (suc k) c h t.member is.enable is.is in
      (place m.0, taken_of (suc k) c.enables.items t.member (place m.0) is.enable m.2, m.2.class_is, apart_of is.at is.since is.kept (place m.0) is.enable m.2.function t.difference is.compared)

  -- it equals all members of the class
  all_agree : (w : EventGraphView) (k : ℕ) (c : Class) → HasMembers s v place taken (suc k) c → HaveAgreed v w c.enables.items latch → EqualsMembers s taken (suc k) u
  all_agree w k c h is = λ p inside class_is.
      let m = h.all p inside class_is in
      equal_of is.at is.since is.kept p m.1 m.4 (All-at (λ (x : Enable). AreSameEnables is.at x latch) c.enables.items m.0 m.1 m.3 is.same)

  module _ (w : EventGraphView) (classes : List Class) (members : HaveMembers s v place taken classes) where
    not_before : (always : Difference) → IsAlwaysTold v latch conflicts always → (told : List Told) → AreTold v w classes latch conflicts told → (k : ℕ) → k < suc (length told) → DiffersFromMember s taken k u
    not_before always off told are zero below = sometimes_off always off
    not_before always off told are (suc k) below =
        let t = some_at told k (omega (arith, below)) in
        let c = are k t.0 t.1 in
        told_apart w k c.0 (members k c.0 c.1) t.0 c.2

    pub first_fit : (f : Fit) → classes_of s taken ≡ length classes → IsFit v w classes latch conflicts f → IsFirstFit s taken u (class_of_fit classes f)
    first_fit fit.Always number (vars, by, k) = record { not_past_next = omega arith; joins = λ below. always_enabled vars by k; not_earlier = λ j below. absurd (omega (arith, below)) }
    first_fit (fit.Joins at) number (always, off, (told, are, long, (c, at_c, agreed))) = record {
      not_past_next = let inside = slice_get_within classes (length told) c at_c in omega (arith, inside, number, long);
      joins = λ below. let here = subst (λ (j : ℕ). slice_get classes j ≡ Some c) long at_c in all_agree w at c (members at c here) agreed;
      not_earlier = λ j below. not_before always off told are j (omega (arith, below, long));
    }
    first_fit (fit.Founds always told) number (off, are, long) = record {
      not_past_next = omega (arith, number);
      joins = λ below. absurd (omega (arith, below, number));
      not_earlier = λ j below. not_before always off told.items are j (omega (arith, below, long));
    }

    pub asked_of : (at member : ℕ) (proof : Proof) → IsUnfit v w classes latch conflicts (unfit.Member at member proof) →
        (c : Class) × (slice_get classes at ≡ Some c) × ((t : Tag) × (slice_get c.tags.items member ≡ Some t) × IsAsked s taken u (Some (place t))
        × ((x : EventGraphView) × (q : Query) × AsksEnables s x (place t) u q.left.0 q.right.0 q.care.0 × IsAtLimit x.graph q conflicts proof))
    asked_of at member proof ((always, off), (told, are, long, (c, at_c, (vars, is)))) =
        let m = member_at (suc at) c (members at c at_c) member is.enable is.is in
        let k = m.2 in (
          c,
          at_c,
          (
            m.0,
            m.1,
            (
              k.before,
              k.after,
              k.split,
              (λ j below. not_before always off told are j (omega (arith, below, long, k.class_is))),
              (λ p inside same.
                  let e = k.earlier p inside (same ∙ k.class_is) in
                  equal_of is.at is.since is.kept p e.1 e.4 (is.before e.0 e.1 e.2 e.3)),
              omega (arith, k.class_is),
            ),
            (
              is.at,
              is.compared.query,
              query_asks (place m.0) is.at is.enable is.compared.query
                  (asks is.at is.since (place m.0) is.enable is.compared.query.care.0 k.function is.compared.both) is.compared.left is.compared.right,
              is.compared.decided,
            ),
          ),
        )
      where
        query_asks : (p : Either ℕ ℕ) (x : EventGraphView) (e : Enable) (q : Query) → AsksEnables s x p u e.value.0 latch.value.0 q.care.0 → q.left ≡ e.value → q.right ≡ latch.value → AsksEnables s x p u q.left.0 q.right.0 q.care.0
        query_asks p x e q h left right = subst (λ (y : Lit). AsksEnables s x p u y.0 q.right.0 q.care.0) (sym left) (subst (λ (y : Lit). AsksEnables s x p u e.value.0 y.0 q.care.0) (sym right) h)

pub fit_first : FitIsFirst
fit_first a b v w place taken u classes latch conflicts f kept number members function is = first_fit a b v kept place taken u latch conflicts function w classes members f number is

pub always_limit_asked : AlwaysLimitIsAsked
always_limit_asked a b v w u classes latch conflicts function proof (vars, k) = (
  k.query,
  subst (λ (y : Lit). IsEnableFunction (both_of a b) v u y.0 k.query.care.0) (sym k.left) (subst (λ (y : Lit). IsEnableFunction (both_of a b) v u latch.value.0 y.0) (sym k.care) function),
  k.right,
  k.decided,
)

pub limit_asked : LimitIsAsked
limit_asked a b v w place taken u classes latch conflicts kept members function at member proof is = asked_of a b v kept place taken u latch conflicts function w classes members at member proof is
