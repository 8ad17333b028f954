-- Frames that are one.
use Rattle.std.proofs.Common.{◌≡◌, ℕ, Bool, true, false, ◌==◌, ◌&&◌, refl, sym, ap, subst, ◌∙◌}
use Rattle.std.specs.Prelude.{◌↔◌, IsTrue}
use Rattle.std.proofs.lemmas.Bool.{false≢true}
use Rattle.std.proofs.lemmas.Bool.Decides.{Decides-eqb}
use Rattle.edbf_unfold.specs.declared.event_literals.event_walk.frames.Frame.{Frame}
use Rattle.edbf_unfold.specs.declared.event_literals.event_walk.frames.Put.{Put}
use Rattle.edbf_unfold.specs.declared.event_literals.event_walk.frames.Put.TheVariants.{Free, Low, High}
use Rattle.edbf_unfold.specs.contracts.event_literals.event_walk.frames.PutPartialEq.TheImpl.{eq-value}

one_low : (v w : ℕ) → Low v ≡ Low w → v ≡ w
one_low v w e = cc

one_high : (v w : ℕ) → High v ≡ High w → v ≡ w
one_high v w e = cc

-- the test of what is put tells whether it is one
tells : (x y : Put) → IsTrue ((eq-value).it x y) ↔ (x ≡ y)
tells Free Free = (λ h. refl, λ e. refl)
tells Free (Low w) = (λ h. absurd (false≢true h), λ e. absurd (cc))
tells Free (High w) = (λ h. absurd (false≢true h), λ e. absurd (cc))
tells (Low v) Free = (λ h. absurd (false≢true h), λ e. absurd (cc))
tells (Low v) (Low w) = (λ h. ap Low ((Decides-eqb v w).0 h), λ e. (Decides-eqb v w).1 (one_low v w e))
tells (Low v) (High w) = (λ h. absurd (false≢true h), λ e. absurd (cc))
tells (High v) Free = (λ h. absurd (false≢true h), λ e. absurd (cc))
tells (High v) (Low w) = (λ h. absurd (false≢true h), λ e. absurd (cc))
tells (High v) (High w) = (λ h. ap High ((Decides-eqb v w).0 h), λ e. (Decides-eqb v w).1 (one_high v w e))

both : (a b : Bool) → (a && b) ≡ true → (a ≡ true) × (b ≡ true)
both true b h = (refl, h)
both false b h = absurd (false≢true h)

-- frames are one where their nodes are and what is put
frame_is : (f g : Frame) → f.node ≡ g.node → f.put ≡ g.put → f ≡ g
frame_is f g node put = ap (λ (n : ℕ). let h : Frame = record { node = n; put = f.put } in h) node ∙ ap (λ (x : Put). let h : Frame = record { node = g.node; put = x } in h) put

pub same_frame : (f g : Frame) (b : Bool) → b ≡ ((f.node == g.node) && (eq-value).it f.put g.put) → IsTrue b ↔ (f ≡ g)
same_frame f g b e = subst (λ (d : Bool). IsTrue d ↔ (f ≡ g)) (sym e) (there, back)
  where
    there : ((f.node == g.node) && (eq-value).it f.put g.put) ≡ true → f ≡ g
    there h =
        let parts = both (f.node == g.node) ((eq-value).it f.put g.put) h in
        frame_is f g ((Decides-eqb f.node g.node).0 (parts.0)) ((tells f.put g.put).0 (parts.1))

    back : f ≡ g → ((f.node == g.node) && (eq-value).it f.put g.put) ≡ true
    back p = ap (λ (b : Bool). b && (eq-value).it f.put g.put) ((Decides-eqb f.node g.node).1 (ap (λ (h : Frame). h.node) p)) ∙ (tells f.put g.put).1 (ap (λ (h : Frame). h.put) p)
