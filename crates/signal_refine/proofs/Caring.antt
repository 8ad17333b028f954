-- The care, with one equality more.
use Rattle.std.proofs.Common.{◌≡◌, ◌∙◌, ◌*◌, ◌<◌, ℕ, Bool, true, List, length, get_or, sym, ap, arith}
use Rattle.std.specs.List.{All}
use Rattle.std.proofs.lemmas.Option.{slice_get-get_or}
use Rattle.flat_net.proofs.Places.{All-at}
use Rattle.aig.specs.declared.node.Lit.{Lit}
use Rattle.aig.specs.declared.node.Node.{Node}
use Rattle.aig.specs.Graph.{Grows}
use Rattle.aig.specs.Values.{value}
use Rattle.aig.proofs.Growth.{Grows-length}
use Rattle.aig.proofs.Meaning.{value-grows}
use Rattle.signal_refine.specs.declared.copies.NodeLits.{NodeLits}
use Rattle.signal_refine.specs.Asking.{AreOne, IsCare, IsHeld, AreHeldWithin, IsOneWhere}
use Rattle.signal_refine.proofs.Framing.{within_grows}

-- what is one in a grown graph was so
pub one_before : (g h : List Node) → Grows g h → (own read : List Lit) → All (λ x. x.0 < 2 * length g) own → All (λ x. x.0 < 2 * length g) read → (a : ℕ → Bool) → AreOne own read h a → AreOne own read g a
one_before g h grows own read own_within read_within a one i l r at at' =
    sym (value-grows g h grows a l.0 (All-at (λ (x : Lit). x.0 < 2 * length g) own i l at own_within)) ∙ (one i l r at at' ∙ value-grows g h grows a r.0 (All-at (λ (x : Lit). x.0 < 2 * length g) read i r at' read_within))

-- and the other way round
pub one_after : (g h : List Node) → Grows g h → (own read : List Lit) → All (λ x. x.0 < 2 * length g) own → All (λ x. x.0 < 2 * length g) read → (a : ℕ → Bool) → AreOne own read g a → AreOne own read h a
one_after g h grows own read own_within read_within a one i l r at at' =
    value-grows g h grows a l.0 (All-at (λ (x : Lit). x.0 < 2 * length g) own i l at own_within) ∙ (one i l r at at' ∙ sym (value-grows g h grows a r.0 (All-at (λ (x : Lit). x.0 < 2 * length g) read i r at' read_within)))

pub care_more : (own read : List Lit) (from g h : List Node) (care x : Lit) (i : ℕ) → Grows from g → Grows g h → All (λ y. y.0 < 2 * length from) own → All (λ y. y.0 < 2 * length from) read → i < length own → i < length read → IsCare own read g care →
    ((a : ℕ → Bool) → value g a care.0 ≡ true → value g a (get_or own i (record { 0 = 0 })).0 ≡ value g a (get_or read i (record { 0 = 0 })).0 → value h a x.0 ≡ true) → IsCare own read h x
care_more own read from g h care x i grows more own_within read_within inside inside' is next a one =
    let before = one_before g h more own read (within_grows from g grows own own_within) (within_grows from g grows read read_within) a one in
    next a (is a before) (before i (get_or own i (record { 0 = 0 })) (get_or read i (record { 0 = 0 })) (slice_get-get_or own i (record { 0 = 0 }) inside) (slice_get-get_or read i (record { 0 = 0 }) inside'))

-- what a literal of the grown graph is read as is one of it
pub own_within : (before : NodeLits) (g h : List Node) → Grows g h → All (λ (x : Lit). x.0 < 2 * length g) before.read.items → (l own : Lit) → ((n : ℕ) → All (λ (x : Lit). x.0 < 2 * n) before.read.items → l.0 < 2 * n → own.0 < 2 * n) → l.0 < 2 * length h → own.0 < 2 * length h
own_within before g h grows within l own is inside = is (length h) (within_grows g h grows before.read.items within) inside

module _ (care : Lit) (before : NodeLits) (g h : List Node) (grows : Grows g h) (within : AreHeldWithin care before g) where
  pub held_grows : (a : ℕ → Bool) → IsHeld care before g a → IsHeld care before h a
  held_grows a held = (value-grows g h grows a care.0 within.0 ∙ held.0, one_after g h grows before.own.items before.read.items within.1 within.2 a held.1)

  pub held_within : AreHeldWithin care before h
  held_within = (let more = Grows-length g h grows in let less = within.0 in omega (arith, less, more), within_grows g h grows before.own.items within.1, within_grows g h grows before.read.items within.2)

  -- what is one in a grown graph was so
  pub one_where_before : (l r : Lit) → l.0 < 2 * length g → r.0 < 2 * length g → IsOneWhere care before h l r → IsOneWhere care before g l r
  one_where_before l r left right one a held = sym (value-grows g h grows a l.0 left) ∙ (one a (held_grows a held) ∙ value-grows g h grows a r.0 right)
