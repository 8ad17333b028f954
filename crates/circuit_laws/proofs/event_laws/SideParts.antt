-- Enabled latches, depths and cycles of circuits side by side, and of cut circuits.
use Rattle.std.proofs.Common.{◌≡◌, ℕ, Bool, true, false, not, List, [], refl, sym, ◌∙◌, ap, subst, arith, inl, inr}
use Rattle.std.specs.List.{Contains}
use Rattle.circuit_theory.specs.declared.Mode.{Mode}
use Rattle.circuit_theory.specs.declared.Mode.TheVariants.{Plain, Event}
use Rattle.circuit_theory.specs.Names.{is_among}
use Rattle.circuit_theory.specs.Circuit.{Circuit, Equation, Gate, Latch, Port, IsLatch, IsSingleDriven, Meets, InCone}
use Rattle.circuit_theory.specs.Run.{IsEnabled}
use Rattle.circuit_theory.specs.Net.{HasDistinctNames}
use Rattle.circuit_theory.specs.Depth.{LatchReads, LatchPath, LatchChain, ChainFrom, IsDepth, LatchesHaveDepths}
use Rattle.circuit_theory.specs.Joined.{Either, Left, Right, joined, beside}
use Rattle.circuit_theory.specs.Agree.{cut, EnabledIn}
use Rattle.circuit_laws.specs.event_laws.Laws.{SidesAreParts, CutIsNet}
use Rattle.circuit_theory.proofs.Numbers.{is_among-sound, is_among-complete}
use Rattle.circuit_laws.proofs.NetLaws.{net_value, net_value-extends}
use Rattle.circuit_laws.proofs.Parts.{IsPart, latch_up, latch_from, cone_up, cone_from, enabled_up, enabled_from}
use Rattle.circuit_laws.proofs.JoinedParts.{left_part, right_part, replace_left, replace_right, meets_both}
use Rattle.circuit_laws.proofs.Parted.{kept_equation}
use Rattle.circuit_laws.proofs.CutLaws.{kept_test}
use Rattle.circuit_laws.proofs.event_laws.CutParts.{cut_latch, cone_uncut, enabled_uncut, enabled_cut}
use Rattle.circuit_laws.proofs.event_laws.CutNets.{cut_is_net}

module _ {P R : Type 0} (c : Circuit P) (j : Circuit R) (f : P → R) (replace : (R → Bool) → (P → Bool) → R → Bool) (part : IsPart c j f replace) (some : R → Bool) (meets : Meets j some) where
  reading_up : {u v : P} → LatchReads c (IsEnabled c) [] u v → LatchReads j (IsEnabled j) [] (f u) (f v)
  reading_up {u} {v} e = record {
    name = e.name;
    next = f e.next;
    latch = latch_up c j f replace part e.name u e.next e.latch;
    kept = λ h. omega (arith, h.1);
    other_name = e.other_name;
    other_next = f e.other_next;
    other = latch_up c j f replace part e.other_name v e.other_next e.other;
    other_kept = λ h. omega (arith, h.1);
    cone = cone_up c j f replace part e.next v e.cone;
    no_self_edge = λ en q. e.no_self_edge (enabled_from c j f replace part some meets u en) (part.one u v q);
  }

  reading_from : {u : P} {r : R} → LatchReads j (IsEnabled j) [] (f u) r → (v : P) × (f v ≡ r) × LatchReads c (IsEnabled c) [] u v
  reading_from {u} {r} e = (
    v.0,
    v.1,
    record {
      name = e.name;
      next = own.0;
      latch = own.1;
      kept = λ h. omega (arith, h.1);
      other_name = e.other_name;
      other_next = other.0;
      other = other.1;
      other_kept = λ h. omega (arith, h.1);
      cone = v.2;
      no_self_edge = λ en q. e.no_self_edge (enabled_up c j f replace part u en) (ap f q ∙ v.1);
    },
  )
    where
      own : (next : P) × IsLatch c e.name u next × (f next ≡ e.next)
      own = latch_from c j f replace part e.name u e.next e.latch

      v : (v : P) × (f v ≡ r) × InCone c own.0 v
      v = cone_from c j f replace part own.0 r (subst (λ z. InCone j z r) (sym own.2) e.cone)

      other : (next : P) × IsLatch c e.other_name v.0 next × (f next ≡ e.other_next)
      other = latch_from c j f replace part e.other_name v.0 e.other_next (subst (λ z. IsLatch j e.other_name z e.other_next) (sym v.1) e.other)

  chain_up : {u : P} {n : ℕ} → LatchChain c (IsEnabled c) u n → LatchChain j (IsEnabled j) (f u) n
  chain_up (LatchChain.last {u = u} {next = next} {name = name} latch) = LatchChain.last (latch_up c j f replace part name u next latch)
  chain_up (LatchChain.more edge rest) = LatchChain.more (reading_up edge) (chain_up rest)

  chain_from : {r : R} {n : ℕ} → LatchChain j (IsEnabled j) r n → (u : P) → f u ≡ r → LatchChain c (IsEnabled c) u n
  chain_from (LatchChain.last {next = next} {name = name} latch) u e =
      let own = latch_from c j f replace part name u next (subst (λ z. IsLatch j name z next) (sym e) latch) in
      LatchChain.last own.1
  chain_from (LatchChain.more {v = v} edge rest) u e =
      let own = reading_from (subst (λ z. LatchReads j (IsEnabled j) [] z v) (sym e) edge) in
      LatchChain.more own.2 (chain_from rest own.0 own.1)

  -- a place has there the depth that it has in its circuit
  pub depth_up : (p : P) (d : ℕ) → IsDepth c (IsEnabled c) p d → IsDepth j (IsEnabled j) (f p) d
  depth_up p d depth = record { reached = there depth.reached; greatest = λ n chain. depth.greatest n (back n chain) }
    where
      there : ChainFrom c (IsEnabled c) p d → ChainFrom j (IsEnabled j) (f p) d
      there (inl e) = inl e
      there (inr x) = inr (f x.0, cone_up c j f replace part p x.0 x.1, chain_up x.2)

      back : (n : ℕ) → ChainFrom j (IsEnabled j) (f p) n → ChainFrom c (IsEnabled c) p n
      back n (inl e) = inl e
      back n (inr x) = let u = cone_from c j f replace part p x.0 x.1 in inr (u.0, u.2, chain_from x.2 u.0 u.1)

pub sides_are_parts_in_nets : SidesAreParts
sides_are_parts_in_nets a b m n na nb = (
  λ u. (enabled_up a (joined a b) Left (replace_left a b) (left_part a b) u, enabled_from a (joined a b) Left (replace_left a b) (left_part a b) some meets u),
  λ v. (enabled_up b (joined a b) Right (replace_right a b) (right_part a b) v, enabled_from b (joined a b) Right (replace_right a b) (right_part a b) some meets v),
  depth_up a (joined a b) Left (replace_left a b) (left_part a b) some meets,
  depth_up b (joined a b) Right (replace_right a b) (right_part a b) some meets,
  λ left right name u next latch. both_have left right name u next latch,
)
  where
    some : Either ℕ ℕ → Bool
    some = beside (net_value a (λ p. false)) (net_value b (λ q. false))

    meets : Meets (joined a b) some
    meets = meets_both a b (net_value a (λ p. false)) (net_value b (λ q. false)) (net_value-extends a m na (λ p. false)).meets (net_value-extends b n nb (λ q. false)).meets

    both_have : LatchesHaveDepths a (IsEnabled a) → LatchesHaveDepths b (IsEnabled b) → (name : List ℕ) (u next : Either ℕ ℕ) → IsLatch (joined a b) name u next →
        (d : ℕ) × IsDepth (joined a b) (IsEnabled (joined a b)) u d
    both_have left right name (Left u) next latch =
        let own = latch_from a (joined a b) Left (replace_left a b) (left_part a b) name u next latch in
        let d = left name u own.0 own.1 in
        (d.0, depth_up a (joined a b) Left (replace_left a b) (left_part a b) some meets u d.0 d.1)
    both_have left right name (Right v) next latch =
        let own = latch_from b (joined a b) Right (replace_right a b) (right_part a b) name v next latch in
        let d = right name v own.0 own.1 in
        (d.0, depth_up b (joined a b) Right (replace_right a b) (right_part a b) some meets v d.0 d.1)

module _ (names : List (List ℕ)) (c : Circuit ℕ) (single : IsSingleDriven c) (distinct : HasDistinctNames c) where
  abbrev name_of : Equation ℕ → List ℕ
  name_of (Gate out fanins cover) = []
  name_of (Latch name out next) = name
  name_of (Port out from) = []

  -- a latch of the cut circuit isn't exposed
  not_exposed : (name : List ℕ) (u next : ℕ) → IsLatch (cut names c) name u next → Contains names name → ⊥
  not_exposed name u next latch h = wrong (is_among names name) (is_among-complete names name h) (kept_test names c (Latch name u next) latch)
    where
      wrong : (b : Bool) → b ≡ true → not b ≡ true → ⊥
      wrong true p q = cc
      wrong false p q = cc

  one_name : (name name' : List ℕ) (u next next' : ℕ) → IsLatch c name u next → IsLatch c name' u next' → name ≡ name'
  one_name name name' u next next' l r = ap name_of (single.one (Latch name u next) (Latch name' u next') l r refl)

  enabled_there : (u : ℕ) → IsEnabled (cut names c) u → IsEnabled c u × ((name : List ℕ) (next : ℕ) → IsLatch c name u next → Contains names name → ⊥)
  enabled_there u en = (
    enabled_uncut names c single distinct u en,
    λ name next latch h. not_exposed en.name u en.next en.latch (subst (Contains names) (one_name name en.name u next en.next latch (kept_equation names c (Latch en.name u en.next) en.latch)) h),
  )

  stays_latch : (name : List ℕ) (u next : ℕ) → IsLatch c name u next → (Contains names name → ⊥) → IsLatch (cut names c) name u next
  stays_latch name u next latch none = go (is_among names name) refl
    where
      go : (b : Bool) → is_among names name ≡ b → IsLatch (cut names c) name u next
      go true e = absurd (none (is_among-sound names name e))
      go false e = cut_latch names c single distinct name u next latch e

  enabled_back : (u : ℕ) → IsEnabled c u × ((name : List ℕ) (next : ℕ) → IsLatch c name u next → Contains names name → ⊥) → IsEnabled (cut names c) u
  enabled_back u x = enabled_cut names c single distinct u x.0 x.0.name x.0.next (stays_latch x.0.name u x.0.next x.0.latch (x.1 x.0.name x.0.next x.0.latch))

  -- what counts as enabled in a mode and isn't exposed
  counts : (mode : Mode) (name : List ℕ) (u next : ℕ) → IsLatch (cut names c) name u next → EnabledIn mode c u → EnabledIn mode (cut names c) u
  counts Plain name u next latch en = absurd en
  counts Event name u next latch en = enabled_cut names c single distinct u en name next latch

  reading_uncut : (mode : Mode) {u v : ℕ} → LatchReads (cut names c) (EnabledIn mode (cut names c)) [] u v → LatchReads c (EnabledIn mode c) names u v
  reading_uncut mode {u} {v} e = record {
    name = e.name;
    next = e.next;
    latch = kept_equation names c (Latch e.name u e.next) e.latch;
    kept = not_exposed e.name u e.next e.latch;
    other_name = e.other_name;
    other_next = e.other_next;
    other = kept_equation names c (Latch e.other_name v e.other_next) e.other;
    other_kept = not_exposed e.other_name v e.other_next e.other;
    cone = cone_uncut names c single distinct e.next v e.cone;
    no_self_edge = λ en. e.no_self_edge (counts mode e.name u e.next e.latch en);
  }

  path_uncut : (mode : Mode) {u v : ℕ} → LatchPath (cut names c) (EnabledIn mode (cut names c)) [] u v → LatchPath c (EnabledIn mode c) names u v
  path_uncut mode (LatchPath.edge e) = LatchPath.edge (reading_uncut mode e)
  path_uncut mode (LatchPath.step e rest) = LatchPath.step (reading_uncut mode e) (path_uncut mode rest)

pub cut_is_net_again : CutIsNet
cut_is_net_again c size names net distinct apart = (
  cut_is_net names c size net distinct apart,
  λ u. (enabled_there names c net.single distinct u, enabled_back names c net.single distinct u),
  λ mode x. (x.0, path_uncut names c net.single distinct mode x.1),
)
