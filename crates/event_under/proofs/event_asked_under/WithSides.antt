-- One obligation more with its sides.
use Rattle.std.proofs.Common.{◌≡◌, ◌∙◌, ℕ, ◌+◌, ◌*◌, ◌/◌, ◌%◌, ◌<◌, Bool, true, false, List, [], ◌∷◌, ◌++◌, length, get_or, slice_get, Some, refl, sym, ap, subst, arith, length-append, inl, inr}
use Rattle.std.specs.Prelude.{◌⊎◌, ◌==◌}
use Rattle.std.specs.List.{All}
use Rattle.std.proofs.lemmas.List.Elements.{All-contains}
use Rattle.std.proofs.lemmas.Option.{same_Some, slice_get_within, slice_get-get_or}
use Rattle.circuit_theory.proofs.Lists.{of_at}
use Rattle.aig.specs.declared.node.Lit.{Lit}
use Rattle.aig.specs.declared.node.Node.{Node}
use Rattle.aig.specs.Graph.{Grows}
use Rattle.aig.proofs.Growth.{IsAndOf-grows, Grows-length, slice_get-append}
use Rattle.aig.proofs.Literals.{flip-within}
use Rattle.obligations.specs.declared.obligation.Obligation.{Obligation}
use Rattle.pair_decide.specs.declared.query.Query.{Query}
use Rattle.aig.specs.graph_copy.graph_clone.Twins.{literal_by, twin_in}
use Rattle.event_under.specs.event_asked_under.Sides.{HasSides, IsWithSides, AreWithSides}

-- the literal for one of so many nodes is one of the graph
pub twin_within : (lits : List Lit) (g : List Node) → All (λ (l : Lit). l.0 < 2 * length g) lits → (x : Lit) → x.0 < 2 * length lits → (twin_in lits x).0 < 2 * length g
twin_within lits g all x below = go (x.0 % 2 == 1)
  where
    inside : (get_or lits (x.0 / 2) (record { 0 = 0 })).0 < 2 * length g
    inside = let low : x.0 / 2 < length lits = omega (arith, below) in All-contains (λ (l : Lit). l.0 < 2 * length g) lits (get_or lits (x.0 / 2) (record { 0 = 0 })) all (of_at lits (x.0 / 2) (get_or lits (x.0 / 2) (record { 0 = 0 })) (slice_get-get_or lits (x.0 / 2) (record { 0 = 0 }) low))

    go : (b : Bool) → (literal_by b (get_or lits (x.0 / 2) (record { 0 = 0 }))).0 < 2 * length g
    go true = flip-within (get_or lits (x.0 / 2) (record { 0 = 0 })).0 (length g) inside
    go false = inside

pub with_sides_later : (lits : List Lit) (g h : List Node) → Grows g h → (o u t : Obligation) → IsWithSides lits g o u t → IsWithSides lits h o u t
with_sides_later lits g h grows o u t k = record {
  name_is = k.name_is;
  size_is = k.size_is;
  decisive_is = k.decisive_is;
  queries = λ q r first second. (let x = k.queries q r first second in (x.0, x.1, later q r x.0 x.2));
}
  where
    later : (q r x : Query) → HasSides lits g q r x → HasSides lits h q r x
    later q r x m = record {
      left_is = m.left_is;
      right_is = m.right_is;
      care_is = IsAndOf-grows g h grows r.care.0 (twin_in lits q.care).0 x.care.0 m.care_is;
      care_within = let more = Grows-length g h grows in omega (arith, m.care_within, more);
      vars_are = m.vars_are;
    }

-- those below a place
pub record AreMadeTo (lits : List Lit) (g : List Node) (asked under made : List Obligation) (count : ℕ) : Type 0 where
  pub each : length made ≡ count
  pub are : (i : ℕ) (o u : Obligation) → i < count → slice_get asked i ≡ Some o → slice_get under i ≡ Some u → (t : Obligation) × (slice_get made i ≡ Some t) × IsWithSides lits g o u t

pub made_none : (lits : List Lit) (g : List Node) (asked under made : List Obligation) → made ≡ [] → AreMadeTo lits g asked under made 0
made_none lits g asked under made none = record { each = ap length none; are = λ i o u low. absurd (omega (arith, low)) }

pub made_next : (lits : List Lit) (g h : List Node) → Grows g h → (asked under made more : List Obligation) (count : ℕ) (a b t : Obligation) → slice_get asked count ≡ Some a → slice_get under count ≡ Some b → more ≡ made ++ t ∷ [] → IsWithSides lits h a b t →
    AreMadeTo lits g asked under made count → AreMadeTo lits h asked under more (count + 1)
made_next lits g h grows asked under made more count a b t at_a at_b pushed is k = record {
  each = ap length pushed ∙ (length-append made (t ∷ []) ∙ ap (λ n. n + 1) k.each);
  are = λ i o u low at_o at_u. go i o u at_o at_u (order i count low);
}
  where
    order : (i n : ℕ) → i < n + 1 → (i < n) ⊎ (i ≡ n)
    order i n h = grind arith

    go : (i : ℕ) (o u : Obligation) → slice_get asked i ≡ Some o → slice_get under i ≡ Some u → (i < count) ⊎ (i ≡ count) → (x : Obligation) × (slice_get more i ≡ Some x) × IsWithSides lits h o u x
    go i o u at_o at_u (inl low) =
        let x = k.are i o u low at_o at_u in
        (x.0, ap (λ (l : List Obligation). slice_get l i) pushed ∙ slice_get-append made (t ∷ []) i x.0 x.1, with_sides_later lits g h grows o u x.0 x.2)
    go i o u at_o at_u (inr e) =
        let first : a ≡ o = same_Some a o (sym at_a ∙ (ap (slice_get asked) (sym e) ∙ at_o)) in
        let second : b ≡ u = same_Some b u (sym at_b ∙ (ap (slice_get under) (sym e) ∙ at_u)) in (
          t,
          ap (λ (l : List Obligation). slice_get l i) pushed ∙ (ap (slice_get (made ++ t ∷ [])) (e ∙ sym k.each) ∙ last_at made),
          subst (λ (z : Obligation). IsWithSides lits h z u t) first (subst (λ (z : Obligation). IsWithSides lits h a z t) second is),
        )
      where
        last_at : (xs : List Obligation) → slice_get (xs ++ t ∷ []) (length xs) ≡ Some t
        last_at [] = refl
        last_at (x ∷ xs) = last_at xs

pub made_all : (lits : List Lit) (g : List Node) (asked under made : List Obligation) (count : ℕ) → length asked ≡ count → AreMadeTo lits g asked under made count → AreWithSides lits g asked under made
made_all lits g asked under made count all k = record {
  each = k.each ∙ sym all;
  are = λ i o u at_o at_u. (let low = slice_get_within asked i o at_o in k.are i o u (omega (arith, low, all)) at_o at_u);
}
