-- What the answers to class queries tell apart.
use Rattle.std.proofs.Common.{◌≡◌, ◌≢◌, ◌∙◌, ◌<◌, ◌≤◌, ℕ, Bool, true, false, List, ◌∷◌, ◌++◌, length, refl, sym, ap, subst}
use Rattle.std.specs.Prelude.{◌&&◌, not, Contains}
use Rattle.std.specs.List.{All}
use Rattle.circuit_theory.specs.Joined.{Either}
use Rattle.circuit_theory.specs.Query.{bits_of}
use Rattle.circuit_theory.proofs.Lists.{length-map}
use Rattle.circuit_theory.specs.Classes.{EnableAtRoot, EnablesEqual}
use Rattle.circuit_theory.specs.EventFrames.{IsClassTree, AreNodeVariables, frame_of}
use Rattle.circuit_theory.specs.Frame.{EventSide}
use Rattle.aig.specs.declared.node.Lit.{Lit}
use Rattle.aig.specs.Values.{value}
use Rattle.aig.proofs.CoverMeaning.{value-and, value-one}
use Rattle.pair_decide.specs.declared.query.Decision.TheVariants as answer
use Rattle.pair_decide.specs.Queries.{Distinguishes, assigned_to, numbered}
use Rattle.event_nodes.specs.Nodes.{EventGraphView}
use Rattle.event_nodes.specs.View.{EventCircuitView}
use Rattle.class_search.specs.event_variables.Variables.{variable_of, variables_of}
use Rattle.class_search.specs.declared.compare.Enable.{Enable}
use Rattle.class_search.specs.Comparing.{IsComparison}
use Rattle.edbf_unfold.specs.class_queries.Enables.{both_of, IsEnableFunction}
use Rattle.edbf_unfold.specs.class_queries.Laws.{AreKept}
use Rattle.class_search.specs.declared.told.Difference.{Difference}
use Rattle.class_search.specs.Told.{IsAlwaysTold}
use Rattle.class_search.specs.class_separations.Least.{DifferIn, IsOffIn, IsLeastFrame}
use Rattle.circuit_laws.specs.reset_laws.class_extension.Telling.{TellsApart, TellsFromAlways}
use Rattle.class_search.proofs.class_separations.Variables.{takes_bits, merged_variables}

both_true : (b c : Bool) → b && c ≡ true → (b ≡ true) × (c ≡ true)
both_true true c h = (refl, h)
both_true false c h = absurd (no h)
  where
    no : false ≡ true → ⊥
    no q = cc

other_of : (b c : Bool) → (b ≡ c → ⊥) → c ≡ not b
other_of true true apart = absurd (apart refl)
other_of true false apart = refl
other_of false true apart = refl
other_of false false apart = absurd (apart refl)

-- the first of two places at which the bits of a list agree
module _ (a b : EventCircuitView) (w : EventGraphView) (kept : AreKept a b w) (taken : List (Either ℕ ℕ)) (u : Either ℕ ℕ) (latch : Enable) (conflicts : ℕ) (function : IsEnableFunction (both_of a b) w u latch.value.0 latch.care.0)
    (own : AreNodeVariables (IsClassTree (both_of a b) u u) (variables_of w latch.vars)) (d : Difference) where
  abbrev s : EventSide (Either ℕ ℕ)
  s = both_of a b

  abbrev frame : ℕ → List ℕ → Bool
  frame = frame_of (variables_of w d.vars) d.bits

  -- the state of the graph at which the query was asked: what tells the latch from the member there
  pub told_apart : (p : Either ℕ ℕ) (x : Enable) (low : ℕ) → IsEnableFunction s w p x.value.0 x.care.0 → AreNodeVariables (IsClassTree s p p) (variables_of w x.vars) → All (λ v. v < length w.places) d.vars →
      IsComparison w x latch conflicts (record { vars = d.vars; decision = answer.Differs d.bits }) →
      (before after : List (Either ℕ ℕ)) → taken ≡ before ++ p ∷ after → s.class p ≡ low → ((q : Either ℕ ℕ) → Contains before q → s.class q ≡ low → EnablesEqual s q u) →
      TellsApart s taken low p u (variables_of w d.vars) d.bits (value w.graph (assigned_to d.vars d.bits) x.value.0) (not (value w.graph (assigned_to d.vars d.bits) x.value.0))
  told_apart p x low function_p own_p within k before after split class earlier =
      let z = assigned_to d.vars d.bits in
      let fits = takes_bits w kept.events d.vars d.bits within in
      let shown = k.decided.distinguishes in
      let same : assigned_to k.query.vars d.bits ≡ z = ap (λ (vs : List ℕ). assigned_to vs d.bits) k.vars in
      let cared : value w.graph z k.query.care.0 ≡ true = ap (λ (f : ℕ → Bool). value w.graph f k.query.care.0) (sym same) ∙ shown.care in
      let cares = both_true (value w.graph z x.care.0) (value w.graph z latch.care.0) (sym (value-and w.graph kept.events.is_graph z x.care.0 latch.care.0 k.query.care.0 k.both) ∙ cared) in
      let differ : value w.graph z x.value.0 ≢ value w.graph z latch.value.0 = λ e. shown.differ (ap (λ (l : Lit). value w.graph (assigned_to k.query.vars d.bits) l.0) k.left ∙ (ap (λ (f : ℕ → Bool). value w.graph f x.value.0) same
      ∙ (e ∙ (ap (λ (f : ℕ → Bool). value w.graph f latch.value.0) (sym same) ∙ sym (ap (λ (l : Lit). value w.graph (assigned_to k.query.vars d.bits) l.0) k.right))))) in
      let right = other_of (value w.graph z x.value.0) (value w.graph z latch.value.0) differ in
      record {
        before = before;
        after = after;
        split = split;
        class_is = class;
        earlier = earlier;
        are_variables = merged_variables s p u w x.vars latch.vars d.vars k.merged own_p own;
        each = k.decided.each ∙ (ap length k.vars ∙ sym (length-map (variable_of w) d.vars));
        left_care = (function_p.care_is frame z fits).0 cares.0;
        right_care = (function.care_is frame z fits).0 cares.1;
        left_is = function_p.enable_is frame z fits;
        right_is = subst (EnableAtRoot s frame u) right (function.enable_is frame z fits);
        differ = λ e. differ (e ∙ sym right);
      }

  -- up to 16 variables no lesser frame tells it from the member
  pub told_least : (p : Either ℕ ℕ) (x : Enable) → IsEnableFunction s w p x.value.0 x.care.0 → All (λ v. v < length w.places) d.vars → IsComparison w x latch conflicts (record { vars = d.vars; decision = answer.Differs d.bits }) →
      IsLeastFrame (DifferIn s p u) (variables_of w d.vars) d.bits
  told_least p x function_p within k few =
      let long : length k.query.vars ≡ length (variables_of w d.vars) = ap length k.vars ∙ sym (length-map (variable_of w) d.vars) in
      let n = k.decided.least (subst (λ i. i ≤ 16) (sym long) few) in
      (n.0, n.1 ∙ ap (bits_of n.0) long, λ m below e. n.2.least m below (told m long e))
    where
      told : (m : ℕ) → length k.query.vars ≡ length (variables_of w d.vars) → DifferIn s p u (frame_of (variables_of w d.vars) (bits_of m (length (variables_of w d.vars)))) → Distinguishes w.graph k.query (numbered k.query m)
      told m long e =
          let bits = bits_of m (length (variables_of w d.vars)) in
          let z = assigned_to d.vars bits in
          let fits = takes_bits w kept.events d.vars bits within in
          let lesser : ℕ → List ℕ → Bool = frame_of (variables_of w d.vars) bits in
          let same : numbered k.query m ≡ z = ap (λ (vs : List ℕ). assigned_to vs (bits_of m (length k.query.vars))) k.vars ∙ ap (λ (i : ℕ). assigned_to d.vars (bits_of m i)) long in
          let cares : value w.graph z k.query.care.0 ≡ true = value-and w.graph kept.events.is_graph z x.care.0 latch.care.0 k.query.care.0 k.both ∙ (λ i. (function_p.care_is lesser z fits).1 e.0 i && (function.care_is lesser z fits).1 e.1 i) in
          record {
            care = ap (λ (f : ℕ → Bool). value w.graph f k.query.care.0) same ∙ cares;
            differ = λ q.
                let one : value w.graph z x.value.0 ≡ value w.graph z latch.value.0 = ap (λ (l : Lit). value w.graph z l.0) (sym k.left) ∙ (ap (λ (f : ℕ → Bool). value w.graph f k.query.left.0) (sym same)
                ∙ (q ∙ (ap (λ (f : ℕ → Bool). value w.graph f k.query.right.0) same ∙ ap (λ (l : Lit). value w.graph z l.0) k.right))) in
                e.2 (value w.graph z x.value.0) (function_p.enable_is lesser z fits) (subst (EnableAtRoot s lesser u) (sym one) (function.enable_is lesser z fits));
          }

  -- nor from `always`
  pub always_least : All (λ v. v < length w.places) d.vars → IsAlwaysTold w latch conflicts d → IsLeastFrame (IsOffIn s u) (variables_of w d.vars) d.bits
  always_least within k few =
      let long : length k.query.vars ≡ length (variables_of w d.vars) = ap length k.vars ∙ sym (length-map (variable_of w) d.vars) in
      let n = k.decided.least (subst (λ i. i ≤ 16) (sym long) few) in
      (n.0, n.1 ∙ ap (bits_of n.0) long, λ m below e. n.2.least m below (told m long e))
    where
      told : (m : ℕ) → length k.query.vars ≡ length (variables_of w d.vars) → IsOffIn s u (frame_of (variables_of w d.vars) (bits_of m (length (variables_of w d.vars)))) → Distinguishes w.graph k.query (numbered k.query m)
      told m long e =
          let bits = bits_of m (length (variables_of w d.vars)) in
          let z = assigned_to d.vars bits in
          let fits = takes_bits w kept.events d.vars bits within in
          let lesser : ℕ → List ℕ → Bool = frame_of (variables_of w d.vars) bits in
          let same : numbered k.query m ≡ z = ap (λ (vs : List ℕ). assigned_to vs (bits_of m (length k.query.vars))) k.vars ∙ ap (λ (i : ℕ). assigned_to d.vars (bits_of m i)) long in
          record {
            care = ap (λ (f : ℕ → Bool). value w.graph f k.query.care.0) same ∙ (ap (λ (l : Lit). value w.graph z l.0) k.care ∙ (function.care_is lesser z fits).1 e.0);
            differ = λ q.
                let on : value w.graph z latch.value.0 ≡ true = ap (λ (l : Lit). value w.graph z l.0) (sym k.left) ∙ (ap (λ (f : ℕ → Bool). value w.graph f k.query.left.0) (sym same)
                ∙ (q ∙ (ap (λ (i : ℕ). value w.graph (numbered k.query m) i) k.right ∙ value-one w.graph kept.events.is_graph (numbered k.query m)))) in
                e.1 (subst (EnableAtRoot s lesser u) on (function.enable_is lesser z fits));
          }

  -- what tells the latch from `always`
  pub told_always : All (λ v. v < length w.places) d.vars → IsAlwaysTold w latch conflicts d → TellsFromAlways s u (variables_of w d.vars) d.bits
  told_always within k =
      let z = assigned_to d.vars d.bits in
      let fits = takes_bits w kept.events d.vars d.bits within in
      let shown = k.decided.distinguishes in
      let same : assigned_to k.query.vars d.bits ≡ z = ap (λ (vs : List ℕ). assigned_to vs d.bits) k.vars in
      let cared : value w.graph z latch.care.0 ≡ true = ap (λ (f : ℕ → Bool). value w.graph f latch.care.0) (sym same) ∙ (sym (ap (λ (l : Lit). value w.graph (assigned_to k.query.vars d.bits) l.0) k.care) ∙ shown.care) in
      let differ : value w.graph z latch.value.0 ≢ true = λ e. shown.differ (ap (λ (l : Lit). value w.graph (assigned_to k.query.vars d.bits) l.0) k.left ∙ (ap (λ (f : ℕ → Bool). value w.graph f latch.value.0) same
      ∙ (e ∙ sym (ap (λ (x : ℕ). value w.graph (assigned_to k.query.vars d.bits) x) k.right ∙ value-one w.graph kept.events.is_graph (assigned_to k.query.vars d.bits))))) in
      record {
        are_variables = subst (λ (vs : List ℕ). AreNodeVariables (IsClassTree s u u) (variables_of w vs)) (sym k.own) own;
        each = k.decided.each ∙ (ap length k.vars ∙ sym (length-map (variable_of w) d.vars));
        care = (function.care_is frame z fits).0 cared;
        off = subst (EnableAtRoot s frame u) (none (value w.graph z latch.value.0) differ) (function.enable_is frame z fits);
      }
    where
      none : (c : Bool) → (c ≡ true → ⊥) → c ≡ false
      none true wrong = absurd (wrong refl)
      none false wrong = refl
