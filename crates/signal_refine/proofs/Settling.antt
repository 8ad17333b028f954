-- One node more, whose tie is shown or not.
use Rattle.std.proofs.Common.{◌≡◌, ◌∙◌, ◌+◌, ◌*◌, ◌<◌, ◌⊎◌, ℕ, Bool, true, false, true≢false, not, if◌then◌else◌, List, [], ◌∷◌, ◌++◌, length, slice_get, Some, sym, ap, subst, arith, inl, inr}
use Rattle.aig.specs.declared.node.Lit.{Lit}
use Rattle.aig.specs.declared.node.Node.{Node}
use Rattle.aig.specs.Graph.{Grows}
use Rattle.aig.specs.Values.{value}
use Rattle.aig.proofs.Growth.{Grows-trans, Grows-length}
use Rattle.aig.proofs.Meaning.{value-grows}
use Rattle.circuit_laws.specs.declared.signal_laws.anchor.Anchor.{Anchor}
use Rattle.circuit_laws.specs.declared.signal_laws.anchor.Anchor.TheVariants as anchor
use Rattle.circuit_laws.specs.signal_laws.Ties.{anchor_value}
use Rattle.std.specs.List.{All}
use Rattle.signal_refine.specs.Copies.{HaveAt, node_at}
use Rattle.signal_refine.specs.declared.copies.NodeLits.{NodeLits}
use Rattle.signal_refine.specs.Asking.{AnchorHas, IsTiedAt, IsHeld, AreHeldWithin, IsShown, IsSwept}
use Rattle.signal_refine.proofs.Caring.{held_grows}
use Rattle.signal_refine.proofs.Framing.{values_grow}

-- what an anchor has by literals it has by the values of their places
pub anchor_is : (w : ℕ → Bool) (g : List Node) (a : ℕ → Bool) (lits : List Lit) → HaveAt w g a lits → (k : Anchor) (x : Bool) → AnchorHas g a lits k x → x ≡ anchor_value w k
anchor_is w g a lits values (anchor.Bit bit) x has = has
anchor_is w g a lits values (anchor.Place q flipped) x has = has.2 ∙ ap (λ (b : Bool). if flipped then not b else b) (values q has.0 has.1)

-- a place more
pub tied_more : (anchors : List Anchor) (w : ℕ → Bool) (n : ℕ) → ((p : ℕ) → p < n → IsTiedAt anchors w p) → IsTiedAt anchors w n → (p : ℕ) → p < n + 1 → IsTiedAt anchors w p
tied_more anchors w n before now p less = go (which p n less)
  where
    which : (m k : ℕ) → m < k + 1 → (m < k) ⊎ (m ≡ k)
    which m k h = grind arith

    go : (p < n) ⊎ (p ≡ n) → IsTiedAt anchors w p
    go (inl early) = before p early
    go (inr e) = subst (IsTiedAt anchors w) (sym e) now

-- a node whose own literal is made of those before it, as `h` has it after its query in `g`
module _ (base : List Node) (leaves : List Lit) (care : Lit) (before : NodeLits) (anchors : List Anchor) (from g h : List Node) (made : Grows from g) (grows : Grows g h) (old : List Lit) (n : ℕ) (each : length old ≡ n)
    (within : All (λ (x : Lit). x.0 < 2 * length from) old) (held : AreHeldWithin care before from) (own : Lit) (new : List Lit)
    (own_value : (a c : ℕ → Bool) → IsHeld care before g a → HaveAt c from a leaves → HaveAt (node_at base c) from a old → value g a own.0 ≡ node_at base c n) where
  pub swept_shown : (lit : Lit) → new ≡ old ++ lit ∷ [] → lit.0 < 2 * length h → IsShown base old care before anchors g own h lit → IsSwept base leaves care before anchors from old n true h new
  swept_shown lit new_is lit_within shown = record {
    grows = Grows-trans from g h made grows;
    lit = lit;
    is = new_is;
    within = lit_within;
    value_is = λ a c on at read. (tells a c on at read).0 ∙ ap (node_at base c) each;
    shown = λ yes a c on at read. subst (IsTiedAt anchors (node_at base c)) each (tells a c on at read).1;
  }
    where
      tells : (a c : ℕ → Bool) → IsHeld care before from a → HaveAt c from a leaves → HaveAt (node_at base c) from a old → (value h a lit.0 ≡ node_at base c (length old)) × IsTiedAt anchors (node_at base c) (length old)
      tells a c on at read =
          let holds = held_grows care before from g made held a on in
          shown a c holds (values_grow (node_at base c) from g made a old within read) (own_value a c holds at read ∙ ap (node_at base c) (sym each))

  pub swept_kept : new ≡ old ++ own ∷ [] → own.0 < 2 * length g → IsSwept base leaves care before anchors from old n false h new
  swept_kept new_is own_within = record {
    grows = Grows-trans from g h made grows;
    lit = own;
    is = new_is;
    within = let more = Grows-length g h grows in omega (arith, more, own_within);
    value_is = λ a c on at read. value-grows g h grows a own.0 own_within ∙ own_value a c (held_grows care before from g made held a on) at read;
    shown = λ yes a c on at read. absurd (true≢false (sym yes));
  }
