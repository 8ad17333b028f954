-- A literal's value by its node's.
use Rattle.std.proofs.Common.{◌≡◌, ◌∙◌, ◌+◌, ◌*◌, ◌/◌, ◌%◌, ◌<◌, ℕ, Bool, true, false, not, if◌then◌else◌, refl, List, length, get_or, slice_get, Some, sym, ap, arith, inl, inr}
use Rattle.std.proofs.lemmas.Option.{slice_get-get_or}
use Rattle.aig.specs.declared.node.Lit.{Lit}
use Rattle.aig.specs.declared.node.Node.{Node}
use Rattle.aig.specs.Graph.{flip}
use Rattle.aig.specs.Values.{value}
use Rattle.aig.proofs.Literals.{parity, flip-even}
use Rattle.aig.proofs.Meaning.{value-flip}
use Rattle.signal_refine.specs.Copies.{HaveAt, node_at}

pub even_value : (g : List Node) (a : ℕ → Bool) (x : ℕ) → x % 2 ≡ 0 → value g a x ≡ node_at g a (x / 2)
even_value g a x e = ap (value g a) (let h : x ≡ 2 * (x / 2) = omega (arith, e) in h)

pub odd_value : (g : List Node) (a : ℕ → Bool) (x : ℕ) → x % 2 ≡ 1 → value g a x ≡ not (node_at g a (x / 2))
odd_value g a x odd =
    let even : (2 * (x / 2)) % 2 ≡ 0 = omega arith in
    let up = flip-even (2 * (x / 2)) even in
    let e : x ≡ flip (2 * (x / 2)) = omega (arith, up, odd) in
    ap (value g a) e ∙ value-flip g a (2 * (x / 2))

pub even_of : (x : ℕ) (b : Bool) → (x % 2 ≡ 1 → b ≡ true) → b ≡ false → x % 2 ≡ 0
even_of x b odd off = elim (parity x) [ inl e ↦ e | inr o ↦ absurd (let t : b ≡ true = odd o in cc) ]

pub have_there : (w : ℕ → Bool) (g : List Node) (a : ℕ → Bool) (lits : List Lit) → HaveAt w g a lits → (n : ℕ) → n < length lits → value g a (get_or lits n (record { 0 = 0 })).0 ≡ w n
have_there w g a lits have n inside = have n (get_or lits n (record { 0 = 0 })) (slice_get-get_or lits n (record { 0 = 0 }) inside)

-- by the literal's sign
pub signed : (g : List Node) (a : ℕ → Bool) (x : ℕ) (b : Bool) → (b ≡ true → x % 2 ≡ 1) → (x % 2 ≡ 1 → b ≡ true) → value g a x ≡ (if b then not (node_at g a (x / 2)) else node_at g a (x / 2))
signed g a x true odd on = odd_value g a x (odd refl)
signed g a x false odd on = even_value g a x (even_of x false on refl)
