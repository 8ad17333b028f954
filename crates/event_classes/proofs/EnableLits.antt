-- The literals of enables, by their trees.
use Rattle.std.proofs.Common.{◌≡◌, ◌≢◌, ◌∙◌, ◌+◌, ℕ, false, true, List, [], ◌∷◌, ◌++◌, length, slice_get, slice_set, Some, refl, inl, inr, sym, ap, subst, arith}
use Rattle.std.specs.Prelude.{◌⊎◌, Contains}
use Rattle.std.proofs.lemmas.Option.{slice_get_within}
use Rattle.std.proofs.lemmas.List.Elements.{Contains-append_left, Contains-append_right}
use Rattle.circuit_theory.specs.Frame.{EventSide}
use Rattle.circuit_theory.specs.Joined.{Either, Left, Right, joined}
use Rattle.circuit_theory.specs.Tree.{Tree}
use Rattle.circuit_theory.proofs.Lists.{Contains-head}
use Rattle.circuit_laws.proofs.Parts.{latch_up}
use Rattle.circuit_laws.proofs.JoinedParts.{left_part, right_part, replace_left, replace_right}
use Rattle.circuit_laws.proofs.event_laws.SideTrees.{sides_unfold_in_nets}
use Rattle.circuit_laws.specs.reset_laws.class_extension.Laws.{IsNextGiven}
use Rattle.circuit_laws.proofs.reset_laws.class_extension.Keeping.{held_trees_stay}
use Rattle.flat_net.specs.declared.parts.LatchAt.{LatchAt}
use Rattle.flat_net.specs.View.{circuit_of}
use Rattle.flat_net.proofs.Nets.{latch_stands, sound_is_net}
use Rattle.flat_net.proofs.Places.{one_at}
use Rattle.sec_base.specs.declared.basics.Tag.{Tag}
use Rattle.aig.specs.Graph.{flip}
use Rattle.aig.specs.graph_copy.aig_or.ShortOr.{IsShortOr}
use Rattle.aig.proofs.Growth.{Grows-length, Builds-grows, Builds-one}
use Rattle.aig.proofs.Literals.{flip-within}
use Rattle.aig.specs.Builds.{Builds}
use Rattle.class_search.proofs.flat_net.CutNets.{slice_get-append_cases}
use Rattle.edbf_unfold.proofs.event_literals.OrStaying.{IsShortOr-one, IsShortOr-grows}
use Rattle.edbf_unfold.proofs.EventLiterals.{named_distinct}
use Rattle.edbf_unfold.proofs.class_queries.Meaning.{numbered}
use Rattle.edbf_unfold.specs.class_queries.Enables.{both_of, class_map}
use Rattle.edbf_unfold.specs.class_queries.Laws.{AreKept}
use Rattle.edbf_unfold.specs.event_literals.Known.{IsEnableLit}
use Rattle.event_nodes.specs.Nodes.{EventGraphView, IsEventGraph, GrowsEvents, named_places}
use Rattle.event_nodes.specs.View.{EventCircuitView}
use Rattle.event_nodes.proofs.Paths.{named_grows}
use Rattle.class_search.specs.class_separations.Apart.{AreTakenMembers}
use Rattle.class_search.specs.declared.class.Class.{Class}
use Rattle.class_search.specs.declared.compare.Enable.{Enable}
use Rattle.class_search.proofs.class_fits.Standing.{at_set}
use Rattle.event_classes.specs.Limits.{HaveTwoEnables}
use Rattle.event_classes.specs.Map.{HasEnableLit, HaveEnableLits}

-- while the event graph grows
pub lit_grows : (s : EventSide (Either ℕ ℕ)) (w x : EventGraphView) (u : Either ℕ ℕ) (lit : ℕ) → IsEventGraph w → GrowsEvents w x → HasEnableLit s w u lit → HasEnableLit s x u lit
lit_grows s w x u lit is grows k = record {
  trees = k.trees;
  f0 = k.f0;
  f1 = k.f1;
  low = later k.trees.low k.f0 k.low;
  high = later k.trees.high k.f1 k.high;
  low_within = omega (arith, k.low_within, Grows-length w.graph x.graph grows.graph);
  high_within = omega (arith, k.high_within, Grows-length w.graph x.graph grows.graph);
  or_is = IsShortOr-grows w.graph x.graph is.is_graph grows.graph k.f0 (flip k.f1) lit k.low_within (flip-within k.f1 (length w.graph) k.high_within) k.or_is;
}
  where
    later : (tree : Tree (List ℕ)) (f : ℕ) → Builds w.graph (named_places w) tree f → Builds x.graph (named_places x) tree f
    later tree f builds =
        let more = named_grows w x is grows in
        subst (λ (ps : List (ℕ × List ℕ)). Builds x.graph ps tree f) (sym more.1) (Builds-grows w.graph x.graph grows.graph (named_places w) more.0 tree f builds)

pub lits_grow : (s : EventSide (Either ℕ ℕ)) (w x : EventGraphView) (place : Tag → Either ℕ ℕ) (classes : List Class) → IsEventGraph w → GrowsEvents w x → HaveEnableLits s w place classes → HaveEnableLits s x place classes
lits_grow s w x place classes is grows have k i c t y at_c at_t at_y = lit_grows s w x (place t) y.value.0 is grows (have k i c t y at_c at_t at_y)

-- two literals are of two enables
pub two_enables : (s : EventSide (Either ℕ ℕ)) (w : EventGraphView) → IsEventGraph w → (u v : Either ℕ ℕ) (x y : ℕ) → HasEnableLit s w u x → HasEnableLit s w v y → (x ≡ y → ⊥) → HaveTwoEnables s u v
two_enables s w is u v x y k n differ = record { left = k.trees; right = n.trees; two_trees = λ low high. differ (one low high) }
  where
    one_lit : (t r : Tree (List ℕ)) (f g : ℕ) → t ≡ r → Builds w.graph (named_places w) t f → Builds w.graph (named_places w) r g → f ≡ g
    one_lit t r f g same left right = Builds-one w.graph is.is_graph (named_places w) (named_distinct w is) t f g left (subst (λ (z : Tree (List ℕ)). Builds w.graph (named_places w) z g) (sym same) right)

    one : k.trees.low ≡ n.trees.low → k.trees.high ≡ n.trees.high → x ≡ y
    one low high =
        let f0 = one_lit k.trees.low n.trees.low k.f0 n.f0 low k.low n.low in
        let f1 = one_lit k.trees.high n.trees.high k.f1 n.f1 high k.high n.high in
        IsShortOr-one w.graph is.is_graph k.f0 (flip k.f1) x y k.or_is (subst (λ (a : ℕ). IsShortOr w.graph a (flip k.f1) y) (sym f0) (subst (λ (b : ℕ). IsShortOr w.graph n.f0 (flip b) y) (sym f1) n.or_is))

-- an enable's literal of one circuit is its literal of both side by side
module _ (a b : EventCircuitView) (w : EventGraphView) (kept : AreKept a b w) where
  pub left_lit : (j : ℕ) (l : LatchAt) (lit : ℕ) → slice_get a.net.latches j ≡ Some l → IsEnableLit a w [] l lit → HasEnableLit (both_of a b) w (Left l.out.0) lit
  left_lit j l lit at k =
      let ca = circuit_of a.net in
      let cb = circuit_of b.net in
      let up = (sides_unfold_in_nets ca cb (length a.net.drivers) (length b.net.drivers) a.order b.order (class_map a b) (sound_is_net a.net kept.left_sound) (sound_is_net b.net kept.right_sound) (numbered a kept.left)).0.trees in
      record {
        trees = record {
          name = l.name;
          next = Left l.next.0;
          latch = latch_up ca (joined ca cb) Left (replace_left ca cb) (left_part ca cb) l.name l.out.0 l.next.0 (latch_stands a.net j l at);
          low = k.low.tree;
          high = k.high.tree;
          low_unfolds = (up (Some (l.out.0, false)) l.next.0 [] k.low.tree).0 k.low.unfolds;
          high_unfolds = (up (Some (l.out.0, true)) l.next.0 [] k.high.tree).0 k.high.unfolds;
        };
        f0 = k.f0;
        f1 = k.f1;
        low = k.low.builds;
        high = k.high.builds;
        low_within = k.low.within;
        high_within = k.high.within;
        or_is = k.or_is;
      }

  pub right_lit : (j : ℕ) (l : LatchAt) (lit : ℕ) → slice_get b.net.latches j ≡ Some l → IsEnableLit b w [] l lit → HasEnableLit (both_of a b) w (Right l.out.0) lit
  right_lit j l lit at k =
      let ca = circuit_of a.net in
      let cb = circuit_of b.net in
      let up = (sides_unfold_in_nets ca cb (length a.net.drivers) (length b.net.drivers) a.order b.order (class_map a b) (sound_is_net a.net kept.left_sound) (sound_is_net b.net kept.right_sound) (numbered a kept.left)).1.trees in
      record {
        trees = record {
          name = l.name;
          next = Right l.next.0;
          latch = latch_up cb (joined ca cb) Right (replace_right ca cb) (right_part ca cb) l.name l.out.0 l.next.0 (latch_stands b.net j l at);
          low = k.low.tree;
          high = k.high.tree;
          low_unfolds = (up (Some (l.out.0, false)) l.next.0 [] k.low.tree).0 k.low.unfolds;
          high_unfolds = (up (Some (l.out.0, true)) l.next.0 [] k.high.tree).0 k.high.unfolds;
        };
        f0 = k.f0;
        f1 = k.f1;
        low = k.low.builds;
        high = k.high.builds;
        low_within = k.low.within;
        high_within = k.high.within;
        or_is = k.or_is;
      }

-- where the next latch is given its class
module _ (a b : EventCircuitView) (ks ls : List ℕ) (w : EventGraphView) (place : Tag → Either ℕ ℕ) (taken rest : List (Either ℕ ℕ)) (u : Either ℕ ℕ)
    (next : IsNextGiven (circuit_of a.net) (circuit_of b.net) (length a.net.drivers) (length b.net.drivers) a.order b.order (class_map a b) (class_map (record a { classes = ks }) (record b { classes = ls })) taken rest u) where
  abbrev S : EventSide (Either ℕ ℕ)
  S = both_of a b

  abbrev T : EventSide (Either ℕ ℕ)
  T = both_of (record a { classes = ks }) (record b { classes = ls })

  lit_stays : (p : Either ℕ ℕ) (lit : ℕ) → Contains (taken ++ u ∷ []) p → HasEnableLit S w p lit → HasEnableLit T w p lit
  lit_stays p lit h k = record {
    trees = record {
      name = k.trees.name;
      next = k.trees.next;
      latch = k.trees.latch;
      low = k.trees.low;
      high = k.trees.high;
      low_unfolds = held_trees_stay (circuit_of a.net) (circuit_of b.net) (length a.net.drivers) (length b.net.drivers) a.order b.order (class_map a b) (class_map (record a { classes = ks }) (record b { classes = ls })) taken rest u next
          k.trees.name p k.trees.next false k.trees.low h k.trees.latch k.trees.low_unfolds;
      high_unfolds = held_trees_stay (circuit_of a.net) (circuit_of b.net) (length a.net.drivers) (length b.net.drivers) a.order b.order (class_map a b) (class_map (record a { classes = ks }) (record b { classes = ls })) taken rest u next
          k.trees.name p k.trees.next true k.trees.high h k.trees.latch k.trees.high_unfolds;
    };
    f0 = k.f0;
    f1 = k.f1;
    low = k.low;
    high = k.high;
    low_within = k.low_within;
    high_within = k.high_within;
    or_is = k.or_is;
  }

  module _ (classes : List Class) (have : AreTakenMembers place taken classes) (lits : HaveEnableLits S w place classes) where
    pub lits_stay : HaveEnableLits T w place classes
    lits_stay k i c t y at_c at_t at_y = lit_stays (place t) y.value.0 (Contains-append_left taken (u ∷ []) (place t) ((have k c at_c).taken i t at_t)) (lits k i c t y at_c at_t at_y)

    -- it is a member
    module _ (tag : Tag) (is_u : place tag ≡ u) (x : Enable) (own : HasEnableLit S w u x.value.0) where
      new_lit : HasEnableLit T w (place tag) x.value.0
      new_lit = subst (λ (p : Either ℕ ℕ). HasEnableLit T w p x.value.0) (sym is_u) (lit_stays u x.value.0 (Contains-append_right taken (u ∷ []) u (Contains-head u [])) own)

      -- the members of a class with one more
      pushed : (o : List Tag) (e : List Enable) → length o ≡ length e → ((i : ℕ) (t : Tag) (y : Enable) → slice_get o i ≡ Some t → slice_get e i ≡ Some y → HasEnableLit T w (place t) y.value.0) →
          (i : ℕ) (t : Tag) (y : Enable) → slice_get (o ++ tag ∷ []) i ≡ Some t → slice_get (e ++ x ∷ []) i ≡ Some y → HasEnableLit T w (place t) y.value.0
      pushed o e paired each i t y at_t at_y = go (slice_get-append_cases o (tag ∷ []) i t at_t) (slice_get-append_cases e (x ∷ []) i y at_y)
        where
          go : (slice_get o i ≡ Some t) ⊎ ((j : ℕ) × (i ≡ length o + j) × (slice_get (tag ∷ []) j ≡ Some t)) → (slice_get e i ≡ Some y) ⊎ ((j : ℕ) × (i ≡ length e + j) × (slice_get (x ∷ []) j ≡ Some y)) → HasEnableLit T w (place t) y.value.0
          go (inl h) (inl k) = each i t y h k
          go (inl h) (inr (j, q, k)) = absurd (omega (arith, slice_get_within o i t h, q, paired))
          go (inr (j, q, h)) (inl k) = absurd (omega (arith, slice_get_within e i y k, q, paired))
          go (inr (j, q, h)) (inr (l, r, k)) =
              let low_j = slice_get_within (tag ∷ []) j t h in
              let low_l = slice_get_within (x ∷ []) l y k in
              let first_j : j ≡ 0 = omega (arith, low_j) in
              let first_l : l ≡ 0 = omega (arith, low_l) in
              let same_t : tag ≡ t = one_at (tag ∷ []) 0 tag t refl (subst (λ (n : ℕ). slice_get (tag ∷ []) n ≡ Some t) first_j h) in
              let same_y : x ≡ y = one_at (x ∷ []) 0 x y refl (subst (λ (n : ℕ). slice_get (x ∷ []) n ≡ Some y) first_l k) in
              subst (λ (z : Tag). HasEnableLit T w (place z) y.value.0) same_t (subst (λ (z : Enable). HasEnableLit T w (place tag) z.value.0) same_y new_lit)

      -- it joins a class as a new member
      pub lits_join : (at : ℕ) (o p : Class) → slice_get classes at ≡ Some o → p.tags.items ≡ o.tags.items ++ tag ∷ [] → p.enables.items ≡ o.enables.items ++ x ∷ [] → HaveEnableLits T w place (slice_set classes at p)
      lits_join at o p at_o tags enables k i c t y at_c at_t at_y = go k i c t y (at_set classes at p k c at_c) at_t at_y
        where
          go : (k i : ℕ) (c : Class) (t : Tag) (y : Enable) → ((k ≡ at) × (c ≡ p)) ⊎ ((k ≢ at) × (slice_get classes k ≡ Some c)) → slice_get c.tags.items i ≡ Some t → slice_get c.enables.items i ≡ Some y → HasEnableLit T w (place t) y.value.0
          go k i c t y (inr e) at_t at_y = lits_stay k i c t y e.1 at_t at_y
          go k i c t y (inl e) at_t at_y =
              pushed o.tags.items o.enables.items (have at o at_o).paired (λ j r z at_r at_z. lits_stay at j o r z at_o at_r at_z) i t y
              (subst (λ (ts : List Tag). slice_get ts i ≡ Some t) tags (subst (λ (q : Class). slice_get q.tags.items i ≡ Some t) e.1 at_t))
              (subst (λ (es : List Enable). slice_get es i ≡ Some y) enables (subst (λ (q : Class). slice_get q.enables.items i ≡ Some y) e.1 at_y))

      -- it founds a class
      pub lits_found : (o p : Class) → o.tags.items ≡ [] → o.enables.items ≡ [] → p.tags.items ≡ o.tags.items ++ tag ∷ [] → p.enables.items ≡ o.enables.items ++ x ∷ [] → HaveEnableLits T w place (classes ++ p ∷ [])
      lits_found o p no_tags no_enables tags enables k i c t y at_c at_t at_y = go (slice_get-append_cases classes (p ∷ []) k c at_c)
        where
          go : (slice_get classes k ≡ Some c) ⊎ ((j : ℕ) × (k ≡ length classes + j) × (slice_get (p ∷ []) j ≡ Some c)) → HasEnableLit T w (place t) y.value.0
          go (inl h) = lits_stay k i c t y h at_t at_y
          go (inr (j, q, h)) =
              let low = slice_get_within (p ∷ []) j c h in
              let first : j ≡ 0 = omega (arith, low) in
              let same : p ≡ c = one_at (p ∷ []) 0 p c refl (subst (λ (n : ℕ). slice_get (p ∷ []) n ≡ Some c) first h) in
              pushed [] [] refl (λ i t y at none. absurd (let in_none = slice_get_within [] i t at in omega (arith, in_none))) i t y
              (subst (λ (ts : List Tag). slice_get ts i ≡ Some t) (tags ∙ ap (λ (ts : List Tag). ts ++ tag ∷ []) no_tags) (subst (λ (q : Class). slice_get q.tags.items i ≡ Some t) (sym same) at_t))
              (subst (λ (es : List Enable). slice_get es i ≡ Some y) (enables ∙ ap (λ (es : List Enable). es ++ x ∷ []) no_enables) (subst (λ (q : Class). slice_get q.enables.items i ≡ Some y) (sym same) at_y))
