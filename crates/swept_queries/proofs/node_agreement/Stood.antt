-- Literals that stand for others keep doing so, also with the other sign, and in ands.
use Rattle.std.proofs.Common.{◌≡◌, ℕ, zero, suc, get_or, Result, Ok, Err, ◌*◌, ◌/◌, ◌%◌, ◌<◌, ◌≤◌, Bool, not, ◌&&◌, List, [], ◌∷◌, ◌++◌, length, slice_get, Some, refl, sym, ◌∙◌, ap, subst, arith, inl, inr}
use Rattle.std.specs.Prelude.{◌⊎◌, IfOk}
use Rattle.std.proofs.lemmas.Option.{slice_get-get_or, none-some}
use Rattle.aig.specs.declared.node.Lit.{Lit}
use Rattle.aig.specs.declared.node.Node.{Node}
use Rattle.aig.specs.Graph.{flip}
use Rattle.aig.specs.Values.{value, KeepsValues}
use Rattle.aig.proofs.Literals.{flip-even, flip-within}
use Rattle.aig.proofs.Meaning.{value-flip}
use Rattle.aig.proofs.Insert.{push-cases}
use Rattle.swept_queries.specs.node_agreement.Standing.{StandsFor, AreStandIns, AreChosen, AreLocal, plainly, by_nodes}

module _ (with : (ℕ → Bool) → ℕ → Bool) (g : List Node) where
  pub stands-grows : (h k : List Node) → KeepsValues h k → length h ≤ length k → (x y : ℕ) → StandsFor with g h x y → StandsFor with g k x y
  stands-grows h k keeps more x y s = record { within = omega (arith, s.within); same = λ a. keeps (with a) y s.within ∙ s.same a }

  -- the node's literal
  pub stands-even : (h : List Node) (x y : ℕ) → x % 2 ≡ 0 → StandsFor with g h (2 * (x / 2)) y → StandsFor with g h x y
  stands-even h x y even s = let e : 2 * (x / 2) ≡ x = omega arith in subst (λ (z : ℕ). StandsFor with g h z y) e s

  -- its complement
  pub stands-odd : (h : List Node) (x y z : ℕ) → x % 2 ≡ 1 → z ≡ flip y → StandsFor with g h (2 * (x / 2)) y → StandsFor with g h x z
  stands-odd h x y z odd is s =
      let even : (2 * (x / 2)) % 2 ≡ 0 = omega arith in
      let e : flip (2 * (x / 2)) ≡ x = flip-even (2 * (x / 2)) even ∙ (omega arith) in
      record {
        within = subst (λ (w : ℕ). w < 2 * length h) (sym is) (flip-within y (length h) s.within);
        same = λ a. ap (value h (with a)) is ∙ value-flip h (with a) y ∙ ap not (s.same a) ∙ sym (value-flip g a (2 * (x / 2))) ∙ ap (value g a) e;
      }

  -- the and of what stands for the operands
  pub stands-and : (h k : List Node) (x l r s t y : ℕ) → ((a : ℕ → Bool) → value g a x ≡ value g a l && value g a r) → StandsFor with g h l s → StandsFor with g h r t
      → y < 2 * length k → ((b : ℕ → Bool) → value k b y ≡ value h b s && value h b t) → StandsFor with g k x y
  stands-and h k x l r s t y is left right within made = record {
    within = within;
    same = λ a. made (with a) ∙ ap (λ (b : Bool). b && value h (with a) t) (left.same a) ∙ ap (λ (b : Bool). value g a l && b) (right.same a) ∙ sym (is a);
  }

-- the literal itself
pub stands-itself : (g : List Node) (x : ℕ) → x < 2 * length g → StandsFor plainly g g x x
stands-itself g x within = record { within = within; same = λ a. refl }

-- what stands for a literal that stands for one
pub stands-trans : (f g h : List Node) (x y z : ℕ) → StandsFor plainly f g x y → StandsFor plainly g h y z → StandsFor plainly f h x z
stands-trans f g h x y z s t = record { within = t.within; same = λ a. t.same a ∙ s.same a }

pub AreStandIns-grows : (g h k : List Node) → KeepsValues h k → length h ≤ length k → (lits : List Lit) → AreStandIns g h lits → AreStandIns g k lits
AreStandIns-grows g h k keeps more lits are n y at = stands-grows plainly g h k keeps more (2 * n) y.0 (are n y at)

pub AreStandIns-push : (g h : List Node) (lits : List Lit) (n : ℕ) (y : Lit) → n ≡ length lits → AreStandIns g h lits → StandsFor plainly g h (2 * n) y.0 → AreStandIns g h (lits ++ y ∷ [])
AreStandIns-push g h lits n y last are stands m z at = by (push-cases lits y m z at)
  where
    by : (slice_get lits m ≡ Some z) ⊎ ((m ≡ length lits) × (z ≡ y)) → StandsFor plainly g h (2 * m) z.0
    by (inl before) = are m z before
    by (inr (e, f)) =
        let here : n ≡ m = last ∙ sym e in
        subst (λ (w : Lit). StandsFor plainly g h (2 * m) w.0) (sym f) (subst (λ (j : ℕ). StandsFor plainly g h (2 * j) y.0) here stands)

-- what a list of stand-ins has at a place
pub chosen-at : (g : List Node) (lits : List Lit) (n : ℕ) (d : Lit) → n < length lits → AreChosen g lits → StandsFor plainly g g (2 * n) (get_or lits n d).0
chosen-at g lits n d within are = (are n (get_or lits n d) (slice_get-get_or lits n d within)).1

pub stand_in-at : (g h : List Node) (lits : List Lit) (n : ℕ) (d : Lit) → n < length lits → AreStandIns g h lits → StandsFor plainly g h (2 * n) (get_or lits n d).0
stand_in-at g h lits n d within are = are n (get_or lits n d) (slice_get-get_or lits n d within)

pub local-at : (g small : List Node) (numbers : List ℕ) (lits : List Lit) (p n : ℕ) (d : Lit) → p < length numbers → p < length lits → get_or numbers p 0 ≡ n → AreLocal g numbers small lits → StandsFor (by_nodes g) g small (2 * n) (get_or lits p d).0
local-at g small numbers lits p n d inside within is are = are p n (get_or lits p d) (slice_get-get_or numbers p 0 inside ∙ ap Some is) (slice_get-get_or lits p d within)

-- two facts on what is there give a third
pub IfOk-both : {T E : Type 0} (r : Result T E) (P Q R : T → Type 0) → ((x : T) → P x → Q x → R x) → IfOk r P → IfOk r Q → IfOk r R
IfOk-both (Ok x) P Q R f p q = f x p q
IfOk-both (Err e) P Q R f p q = p

-- a literal of the same value
pub stands-same : (with : (ℕ → Bool) → ℕ → Bool) (g h : List Node) (x y z : ℕ) → ((a : ℕ → Bool) → value g a x ≡ value g a z) → StandsFor with g h x y → StandsFor with g h z y
stands-same with g h x y z e s = record { within = s.within; same = λ a. s.same a ∙ e a }

-- what is chosen for a node has its value
pub chosen-same : (g : List Node) (lits : List Lit) (n : ℕ) (d : Lit) → n < length lits → AreChosen g lits → (a : ℕ → Bool) → value g a (get_or lits n d).0 ≡ value g a (2 * n)
chosen-same g lits n d within are = (chosen-at g lits n d within are).same

-- nothing is chosen yet
pub chosen-none : (g : List Node) → AreChosen g []
chosen-none g zero y at = absurd (none-some y at)
chosen-none g (suc n) y at = absurd (none-some y at)
