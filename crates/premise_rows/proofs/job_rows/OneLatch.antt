-- A design of one latch whose next value one gate gives over inputs and latches: what all of its nets are in the event mode.
use Rattle.std.proofs.Common.{◌≡◌, ◌∙◌, ◌≢◌, ℕ, ◌+◌, ◌*◌, ◌≤◌, max, Bool, true, false, List, [], ◌∷◌, map, length, Option, Some, None, slice_get, refl, sym, ap, subst, arith, inl, inr}
use Rattle.std.specs.Prelude.{◌⊎◌, ◌&&◌, not}
use Rattle.std.specs.List.{AllPairs, Contains, list_all}
use Rattle.std.proofs.lemmas.Bool.{and_parts}
use Rattle.std.proofs.lemmas.List.Kept.{AllPairs-cons}
use Rattle.std.proofs.lemmas.Option.{get_or_from_slice_get}
use Rattle.circuit_theory.specs.declared.Mode.TheVariants.{Event}
use Rattle.circuit_theory.specs.Cover.{Cover}
use Rattle.circuit_theory.specs.Circuit.{Circuit, Gate, Latch, Port, IsLatch, Reads, Reaches}
use Rattle.circuit_theory.specs.Places.{IsPlace}
use Rattle.circuit_theory.specs.Sizes.{IsConeWeight}
use Rattle.circuit_theory.proofs.Lists.{Contains-map, All-from_each}
use Rattle.blif_read.specs.declared.design.BlifModel.{BlifModel}
use Rattle.blif_read.specs.Design.{Place, clock_places, circuit_of_design}
use Rattle.flat_net.specs.declared.parts.LatchAt.{LatchAt}
use Rattle.flat_net.specs.Cut.{no_latch, latch_at}
use Rattle.flat_net.specs.View.{NetView, circuit_of}
use Rattle.flat_net.proofs.Nets.{some_at, latch_stands}
use Rattle.net_assembly.specs.net_alike.FlatCircuit.{IsFlatCircuit}
use Rattle.net_assembly.specs.net_alike.Renumbered.{AreRenumbered}
use Rattle.net_assembly.proofs.net_alike.Alike.{portless_is_renumbered}
use Rattle.net_assembly.proofs.net_alike.Testing.{all_in}
use Rattle.flatten.specs.DesignFaults.{IsClocked, IsFlatOf}
use Rattle.job_base.proofs.design_laws.KeptNames.{names_are_kept}
use Rattle.signal_graph.specs.declared.inner_cone.latch_cone.kinds.LatchKind.{LatchKind}
use Rattle.signal_graph.specs.inner_cone.latch_cone.Kinds.{IsInOwnCone, IsKindIn, AreKindsIn}
use Rattle.latch_kinds.specs.Found.{AreLight}
use Rattle.pair_texts.proofs.design_rows.Places.{is_one_place, is_one_place-itself}
use Rattle.premise_rows.proofs.job_rows.ConeWeights.{IsOneGate, one_gate_weight, cone_weight_there}

pub apart : (p q : Place) → is_one_place p q ≡ false → p ≢ q
apart p q differ same =
    let itself : is_one_place p q ≡ true = subst (λ (z : Place). is_one_place p z ≡ true) same (is_one_place-itself p) in
    let clash : true ≡ false = sym itself ∙ differ in
    absurd (cc)

off : (b : Bool) → not b ≡ true → b ≡ false
off false h = refl
off true h = absurd (cc)

-- no place stands twice, computed
abbrev pub are_apart : List Place → Bool
are_apart [] = true
are_apart (p ∷ ps) = list_all (λ q. not (is_one_place p q)) ps && are_apart ps

pub are_apart-sound : (ps : List Place) → are_apart ps ≡ true → AllPairs (λ p q. p ≢ q) ps
are_apart-sound [] h = λ i j d l m. absurd (omega arith)
are_apart-sound (p ∷ ps) h =
    let parts = and_parts (list_all (λ q. not (is_one_place p q)) ps) (are_apart ps) h in
    AllPairs-cons (λ p q. p ≢ q) p ps (All-from_each (λ q. p ≢ q) ps (λ q k. apart p q (off (is_one_place p q) (all_in (λ q. not (is_one_place p q)) ps q parts.0 k)))) (are_apart-sound ps parts.1)

-- what reads a place is a gate or a port
pub reader : {P : Type 0} (c : Circuit P) {p q : P} → Reads c p q → ((fanins : List P) × (cover : Cover) × Contains c.equations (Gate p fanins cover) × Contains fanins q) ⊎ Contains c.equations (Port p q)
reader c (Reads.by_gate {fanins = fanins} {cover = cover} h k) = inl (fanins, cover, h, k)
reader c (Reads.by_port h) = inr h

-- a circuit of one latch, of a design without clock and ports, whose next value one gate gives over inputs and latches
pub record IsOneLatch (models : List BlifModel) (d : Circuit Place) (name : List ℕ) (q n : Place) (fanins : List Place) (cover : Cover) : Type 0 where
  pub no_clock : clock_places models ≡ []
  pub circuit_is : circuit_of_design models None ≡ d
  pub no_port : (out from : Place) → Contains d.equations (Port out from) → ⊥
  pub latch : IsLatch d name q n
  pub only_latch : (other : List ℕ) (u next : Place) → IsLatch d other u next → (u ≡ q) × (next ≡ n)
  pub cone : IsOneGate d n fanins cover
  pub itself : Contains fanins q
  pub few : 1 + max 1 (length cover.rows) * (length fanins + 1) + length fanins ≤ 2000000

module _ (models : List BlifModel) (d : Circuit Place) (name : List ℕ) (q n : Place) (fanins : List Place) (cover : Cover) (is : IsOneLatch models d name q n fanins cover) (net : NetView) (f : IsFlatOf models net) where
  pub renumbered : AreRenumbered d (circuit_of net) f.signal f.origin
  renumbered =
      let none : net.clock ≡ None = (names_are_kept models net f).unclocked is.no_clock in
      let flat : IsFlatCircuit d (circuit_of net) (length net.drivers) (IsClocked d None) f.origin f.signal =
      subst (λ (c : Circuit Place). IsFlatCircuit c (circuit_of net) (length net.drivers) (IsClocked c None) f.origin f.signal) is.circuit_is
      (subst (λ (k : Option (List ℕ)). IsFlatCircuit (circuit_of_design models k) (circuit_of net) (length net.drivers) (IsClocked (circuit_of_design models k) k) f.origin f.signal) none f.circuit) in
      portless_is_renumbered d (circuit_of net) (length net.drivers) (IsClocked d None) f.origin f.signal flat is.no_port

  next_place : IsPlace d n
  next_place = IsPlace.next {name = name} {out = q} is.latch

  -- the net's latches are the design's one
  pub latch_of : (other : List ℕ) (u next : ℕ) → IsLatch (circuit_of net) other u next → (u ≡ f.signal q) × (next ≡ f.signal n)
  latch_of other u next h =
      let there = is.only_latch other (f.origin u) (f.origin next) (renumbered.from (Latch other u next) h) in (
        sym (renumbered.back_and_there u (IsPlace.driven h refl)) ∙ ap f.signal there.0,
        sym (renumbered.back_and_there next (IsPlace.next {name = other} {out = u} h)) ∙ ap f.signal there.1,
      )

  latch_at_place : (j : ℕ) (l : LatchAt) → slice_get net.latches j ≡ Some l → (l.out.0 ≡ f.signal q) × (l.next.0 ≡ f.signal n)
  latch_at_place j l at = latch_of l.name l.out.0 l.next.0 (latch_stands net j l at)

  pub latch_there : IsLatch (circuit_of net) name (f.signal q) (f.signal n)
  latch_there = renumbered.there (Latch name q n) is.latch

  pub gate_there : Contains (circuit_of net).equations (Gate (f.signal n) (map f.signal fanins) cover)
  gate_there = renumbered.there (Gate n fanins cover) is.cone.gate

  -- its cone isn't too large
  pub is_light : AreLight net
  is_light j low edge =
      let l = some_at net.latches j low in
      let at : latch_at net j ≡ l.0 = get_or_from_slice_get net.latches j l.0 no_latch l.1 in
      let next : f.signal n ≡ (latch_at net j).next.0 = sym (ap (λ (k : LatchAt). k.next.0) at ∙ (latch_at_place j l.0 l.1).1) in
      record {
        weight = 1 + max 1 (length cover.rows) * (length fanins + 1) + length fanins;
        weight_is = subst (λ (p : ℕ). IsConeWeight (circuit_of net) p (1 + max 1 (length cover.rows) * (length fanins + 1) + length fanins)) next
            (cone_weight_there d (circuit_of net) f.signal f.origin renumbered n next_place _ (one_gate_weight d n fanins cover is.cone));
        within = is.few;
      }

  -- it is in its own cone
  pub own_cone : IsInOwnCone (circuit_of net) (f.signal q)
  own_cone = record {
    name = name;
    next = f.signal n;
    latch = latch_there;
    cone = (
      inr (name, f.signal n, latch_there),
      Reaches.there (Reads.by_gate {fanins = map f.signal fanins} {cover = cover} gate_there (Contains-map f.signal fanins q is.itself)) Reaches.here,
    );
  }

  -- one kind for the one latch
  module _ (counted : length net.latches ≡ 1) (right : LatchKind) (one : (k : LatchKind) → IsKindIn Event (circuit_of net) (f.signal q) k → k ≡ right) where
    pub kinds_are : (found : List LatchKind) → AreKindsIn Event net found → found ≡ right ∷ []
    kinds_are [] k = absurd (let e = k.each in omega (arith, e, counted))
    kinds_are (x ∷ y ∷ xs) k = absurd (let e = k.each in omega (arith, e, counted))
    kinds_are (x ∷ []) k =
        let l = some_at net.latches 0 (omega (arith, counted)) in
        ap (λ (z : LatchKind). z ∷ []) (one x (subst (λ (p : ℕ). IsKindIn Event (circuit_of net) p x) (latch_at_place 0 l.0 l.1).0 (k.right 0 l.0 x l.1 refl)))
