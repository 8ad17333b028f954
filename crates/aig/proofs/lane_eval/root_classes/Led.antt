-- The first of the roots that agree.
use Rattle.std.proofs.Common.{◌≡◌, ℕ, ◌+◌, ◌*◌, ◌^◌, ◌<◌, List, [], ◌∷◌, ◌++◌, length, get_or, slice_get, Some, None, refl, sym, ◌∙◌, ap, subst, inl, inr, arith}
use Rattle.std.specs.Prelude.{◌⊎◌}
use Rattle.std.specs.List.{All}
use Rattle.std.proofs.lemmas.Option.{none-some, same_Some, slice_get-get_or, slice_get_within, get_or_from_slice_get}
use Rattle.std.proofs.lemmas.List.{length-append}
use Rattle.circuit_theory.specs.Query.{bits_of}
use Rattle.aig.specs.declared.node.Lit.{Lit}
use Rattle.aig.specs.declared.node.Node.{Node}
use Rattle.aig.specs.Graph.{IsGraph}
use Rattle.aig.specs.Values.{value}
use Rattle.aig.proofs.Insert.{push-cases}
use Rattle.aig.specs.lane_eval.Tables.{assigned_to}
use Rattle.aig.specs.lane_eval.root_classes.Agreeing.{Agree}
use Rattle.aig.specs.lane_eval.root_classes.Inputs.{inputs_of}
use Rattle.aig.specs.lane_eval.root_classes.Leads.{AreLeads}
use Rattle.aig.specs.lane_eval.root_classes.Rows.{row_of}
use Rattle.aig.specs.lane_eval.root_classes.Splits.{AgreeSoFar}
use Rattle.aig.proofs.lane_eval.root_classes.Assigned.{agree-all}

module _ (g : List Node) (graph : IsGraph g) (vars : List ℕ) (inputs : vars ≡ inputs_of g) (roots : List Lit) (small : All (λ l. l.0 < 2 * length g) roots) (firsts : List ℕ) (leads : List Lit)
    (agree : AgreeSoFar (row_of g vars roots) (length roots) (2 ^ length vars) firsts) (each : length leads ≡ length firsts)
    (is : (j : ℕ) (y : Lit) → slice_get leads j ≡ Some y → (p : ℕ) × (slice_get firsts j ≡ Some p) × (slice_get roots p ≡ Some y)) where
  row-at : (m i : ℕ) (x : Lit) → slice_get roots i ≡ Some x → row_of g vars roots m i ≡ value g (assigned_to vars (bits_of m (length vars))) x.0
  row-at m i x at = ap (λ (l : Lit). value g (assigned_to vars (bits_of m (length vars))) l.0) (get_or_from_slice_get roots i x (record { 0 = 0 }) at)

  one-lead : (i j : ℕ) (x w y z : Lit) → slice_get roots i ≡ Some x → slice_get roots j ≡ Some w → Agree g x.0 w.0 → slice_get leads i ≡ Some y → slice_get leads j ≡ Some z → y ≡ z
  one-lead i j x w y z one other same at there =
      let p = is i y at in
      let q = is j z there in
      let e : p.0 ≡ q.0 =
      agree.complete i j p.0 q.0 p.1 q.1 (λ m less. row-at m i x one ∙ same (assigned_to vars (bits_of m (length vars))) ∙ sym (row-at m j w other)) in
      same_Some y z (sym p.2 ∙ ap (slice_get roots) e ∙ q.2)

  pub leads-are : AreLeads g roots leads
  leads-are = record {
    each = each ∙ agree.each;
    within = λ i y at.
        let p = is i y at in
        let e : get_or roots p.0 y ≡ y = get_or_from_slice_get roots p.0 y y p.2 in
        subst (λ (l : Lit). l.0 < 2 * length g) e (small p.0 y (slice_get_within roots p.0 y p.2));
    values = λ i x y one at.
        let p = is i y at in
        agree-all g graph vars inputs y.0 x.0 (λ m less. sym (row-at m p.0 y p.2) ∙ sym (agree.sound i p.0 p.1 m less) ∙ row-at m i x one);
    equal = λ i j x y z one other at there. one-lead i j x x y z one other (λ a. refl) at there;
    narrow = λ few i j x w y z one other same at there. one-lead i j x w y z one other same at there;
  }

module _ (firsts : List ℕ) (roots : List Lit) where
  -- no root is led yet
  pub led-none : (leads : List Lit) → leads ≡ [] → (j : ℕ) (y : Lit) → slice_get leads j ≡ Some y → (p : ℕ) × (slice_get firsts j ≡ Some p) × (slice_get roots p ≡ Some y)
  led-none leads none j y at = let nothing : None ≡ Some y = ap (λ (ls : List Lit). slice_get ls j) (sym none) ∙ at in absurd (none-some y nothing)

  -- one root more
  pub led-more : (leads new : List Lit) (i p : ℕ) (d : Lit) → length leads ≡ i → ((j : ℕ) (y : Lit) → slice_get leads j ≡ Some y → (p : ℕ) × (slice_get firsts j ≡ Some p) × (slice_get roots p ≡ Some y))
      → slice_get firsts i ≡ Some p → p < length roots → new ≡ leads ++ get_or roots p d ∷ []
      → (length new ≡ i + 1) × ((j : ℕ) (y : Lit) → slice_get new j ≡ Some y → (p : ℕ) × (slice_get firsts j ≡ Some p) × (slice_get roots p ≡ Some y))
  led-more leads new i p d each so_far here within more =
      (ap length more ∙ length-append leads (get_or roots p d ∷ []) ∙ ap (λ (n : ℕ). n + 1) each, λ j y at. by j y (push-cases leads (get_or roots p d) j y (ap (λ (ls : List Lit). slice_get ls j) (sym more) ∙ at)))
    where
      by : (j : ℕ) (y : Lit) → (slice_get leads j ≡ Some y) ⊎ ((j ≡ length leads) × (y ≡ get_or roots p d)) → (p : ℕ) × (slice_get firsts j ≡ Some p) × (slice_get roots p ≡ Some y)
      by j y (inl before) = so_far j y before
      by j y (inr (last, same)) = (p, ap (slice_get firsts) (last ∙ each) ∙ here, slice_get-get_or roots p d within ∙ ap Some (sym same))

-- each root is its own, where there are too many variables
pub leads-themselves : (g : List Node) (roots leads : List Lit) → leads ≡ roots → All (λ l. l.0 < 2 * length g) roots → 16 < length (inputs_of g) → AreLeads g roots leads
leads-themselves g roots leads same small many =
    let themselves : AreLeads g roots roots =
    record {
      each = refl;
      within = λ i y at. subst (λ (l : Lit). l.0 < 2 * length g) (get_or_from_slice_get roots i y y at) (small i y (slice_get_within roots i y at));
      values = λ i x y one at a. ap (λ (l : Lit). value g a l.0) (same_Some y x (sym at ∙ one));
      equal = λ i j x y z one other at there. same_Some y z (sym at ∙ one ∙ sym other ∙ there);
      narrow = λ few i j x w y z one other agree at there. absurd (omega (arith, few, many));
    } in
    subst (AreLeads g roots) (sym same) themselves
