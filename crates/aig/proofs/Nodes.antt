-- Nodes that are one.
use Rattle.std.proofs.Common.{◌≡◌, ℕ, Bool, true, false, ◌==◌, ◌&&◌, refl, sym, ap, subst, ◌∙◌}
use Rattle.std.specs.Prelude.{◌↔◌, IsTrue}
use Rattle.std.proofs.lemmas.Bool.{false≢true}
use Rattle.std.proofs.lemmas.Bool.Decides.{Decides-eqb}
use Rattle.aig.specs.declared.node.Lit.{Lit}
use Rattle.aig.specs.declared.node.Node.{Node}
use Rattle.aig.specs.declared.node.Node.TheVariants.{Constant, Input, And}
use Rattle.aig.specs.contracts.node.NodePartialEq.TheImpl.{eq-value}

both : (a b : Bool) → (a && b) ≡ true → (a ≡ true) × (b ≡ true)
both true b h = (refl, h)
both false b h = absurd (false≢true h)

one_lit : (l m : Lit) → l.0 ≡ m.0 → l ≡ m
one_lit l m e = ap (λ (n : ℕ). let x : Lit = record { 0 = n } in x) e

one_input : (v w : ℕ) → Input v ≡ Input w → v ≡ w
one_input v w e = cc

one_and : (l r m s : Lit) → And l r ≡ And m s → (l ≡ m) × (r ≡ s)
one_and l r m s e = let first : l ≡ m = cc in let second : r ≡ s = cc in (first, second)

-- the test of two nodes tells whether they are one
tells : (x y : Node) → IsTrue ((eq-value).it x y) ↔ (x ≡ y)
tells Constant Constant = (λ h. refl, λ e. refl)
tells Constant (Input w) = (λ h. absurd (false≢true h), λ e. absurd (cc))
tells Constant (And m s) = (λ h. absurd (false≢true h), λ e. absurd (cc))
tells (Input v) Constant = (λ h. absurd (false≢true h), λ e. absurd (cc))
tells (Input v) (Input w) = (λ h. ap Input ((Decides-eqb v w).0 h), λ e. (Decides-eqb v w).1 (one_input v w e))
tells (Input v) (And m s) = (λ h. absurd (false≢true h), λ e. absurd (cc))
tells (And l r) Constant = (λ h. absurd (false≢true h), λ e. absurd (cc))
tells (And l r) (Input w) = (λ h. absurd (false≢true h), λ e. absurd (cc))
tells (And l r) (And m s) = (λ h. same (both (l.0 == m.0) (r.0 == s.0) h), λ e. equal (one_and l r m s e))
  where
    same : ((l.0 == m.0) ≡ true) × ((r.0 == s.0) ≡ true) → And l r ≡ And m s
    same (p, q) = ap (λ (x : Lit). And x r) (one_lit l m ((Decides-eqb l.0 m.0).0 p)) ∙ ap (λ (x : Lit). And m x) (one_lit r s ((Decides-eqb r.0 s.0).0 q))

    equal : (l ≡ m) × (r ≡ s) → ((l.0 == m.0) && (r.0 == s.0)) ≡ true
    equal (p, q) = ap (λ (b : Bool). b && (r.0 == s.0)) ((Decides-eqb l.0 m.0).1 (ap (λ (x : Lit). x.0) p)) ∙ (Decides-eqb r.0 s.0).1 (ap (λ (x : Lit). x.0) q)

pub same_node : (x y : Node) (b : Bool) → b ≡ (eq-value).it x y → IsTrue b ↔ (x ≡ y)
same_node x y b e = subst (λ (d : Bool). IsTrue d ↔ (x ≡ y)) (sym e) (tells x y)
