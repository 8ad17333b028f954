-- With latches exposed by a minimal cut, two places that are settled in the circuits themselves don't both read an exposed name.
use Rattle.std.proofs.Common.{◌≡◌, ◌≢◌, ℕ, suc, ◌<◌, Bool, true, false, List, [], ◌∷◌, refl, sym, subst, arith, inl, inr, Option, None}
use Rattle.std.specs.Prelude.{◌⊎◌}
use Rattle.std.specs.List.{Contains}
use Rattle.circuit_theory.specs.declared.Mode.TheVariants.{Event}
use Rattle.circuit_theory.specs.Circuit.{Circuit, Latch, IsInput, IsLatch, IsSingleDriven, InCone, Reaches, Meets}
use Rattle.circuit_theory.specs.Run.{IsRun, IsEnabled, Loads, Marked}
use Rattle.circuit_theory.specs.Net.{IsNet, HasDistinctNames}
use Rattle.circuit_theory.specs.Joined.{Either, Left, Right, joined, beside}
use Rattle.circuit_theory.specs.Agree.{cut, IsMinimalCut}
use Rattle.circuit_theory.specs.Frame.{EventSide}
use Rattle.circuit_theory.specs.EventSizes.{Start, IsOther, EventVisits}
use Rattle.circuit_theory.specs.EventFits.{side_by_side}
use Rattle.circuit_laws.specs.event_laws.Laws.{ExposedNamesAreApart}
use Rattle.circuit_theory.proofs.Lists.{only}
use Rattle.circuit_laws.proofs.Joined.{run_joined}
use Rattle.circuit_laws.proofs.JoinedParts.{left_part, right_part, replace_left, replace_right, joined_single}
use Rattle.circuit_laws.proofs.Onward.{cut_run, cut_input}
use Rattle.circuit_laws.proofs.CutLaws.{never_left, left_never, right_never, left_clear, right_clear}
use Rattle.circuit_laws.proofs.event_laws.ExposedEvents.{left_net, right_net}
use Rattle.circuit_laws.proofs.event_laws.ExposedCycles.{part_says, cone_known}

-- What the unfolding of a place that is known visits is known, but for the latch that is read as a constant.
module _ {P : Type 0} (side : EventSide P) (known : P → Type 0)
    (says : (name : List ℕ) (u next : P) → IsLatch side.circuit name u next → known u →
    ((IsEnabled side.circuit u → ⊥) × ((w : P) → InCone side.circuit next w → known w)) ⊎ (IsEnabled side.circuit u × ((w : P) → InCone side.circuit next w → w ≢ u → known w)))
    (p : P) (first : (w : P) → InCone side.circuit p w → known w) where
  abbrev root : List (Start P)
  root = record { place = p; left_out = None } ∷ []

  abbrev On : P → Type 0
  On = IsEnabled side.circuit

  ahead : {out : Option P} {q : P} {node : List ℕ} → EventVisits side On root out q node → (w : P) → InCone side.circuit q w → IsOther out w → known w
  ahead (EventVisits.start {s = s} h) w cone other = first w (subst (λ (x : Start P). InCone side.circuit x.place w) (sym (only (record { place = p; left_out = None }) s h)) cone)
  ahead (EventVisits.reads visit read) w cone other = ahead visit w (cone.0, Reaches.there read cone.1) other
  ahead (EventVisits.plain {q = q} {next = next} {name = name} visit free latch off) w cone other = go (says name q next latch (ahead visit q (inr (name, next, latch), Reaches.here) free))
    where
      go : ((On q → ⊥) × ((w : P) → InCone side.circuit next w → known w)) ⊎ (On q × ((w : P) → InCone side.circuit next w → w ≢ q → known w)) → known w
      go (inl x) = x.1 w cone
      go (inr x) = absurd (off x.0)
  ahead (EventVisits.held {q = q} {next = next} {name = name} visit free latch on) w cone other = go (says name q next latch (ahead visit q (inr (name, next, latch), Reaches.here) free))
    where
      go : ((On q → ⊥) × ((w : P) → InCone side.circuit next w → known w)) ⊎ (On q × ((w : P) → InCone side.circuit next w → w ≢ q → known w)) → known w
      go (inl x) = absurd (x.0 on)
      go (inr x) = x.1 w cone other

  -- an input isn't the latch that is read as a constant
  input_other : (single : IsSingleDriven side.circuit) {out : Option P} {q : P} {node : List ℕ} → EventVisits side On root out q node → (w : P) → IsInput side.circuit w → IsOther out w
  input_other single (EventVisits.start {s = s} h) w i = subst (λ (x : Start P). IsOther x.left_out w) (only (record { place = p; left_out = None }) s h) tt
  input_other single (EventVisits.reads visit read) w i = input_other single visit w i
  input_other single (EventVisits.plain visit free latch off) w i = tt
  input_other single (EventVisits.held {q = q} {next = next} {name = name} visit free latch on) w i = λ e. single.no_input (Latch name q next) latch (subst (IsInput side.circuit) e i)

  pub visited_input : IsSingleDriven side.circuit → {out : Option P} {q : P} {node : List ℕ} → EventVisits side On root out q node → IsInput side.circuit q → known q
  visited_input single {out} {q} visit i = ahead visit q (inl i, Reaches.here) (input_other single visit q i)

module _ (a b : Circuit ℕ) (m n : ℕ) (names : List (List ℕ)) (left right : List ℕ) (class : Either ℕ ℕ → ℕ) (na : IsNet a m) (nb : IsNet b n) (da : HasDistinctNames a) (db : HasDistinctNames b)
    (least : IsMinimalCut Event a b names) (size : ℕ) (l r : ℕ → ℕ → Bool) (is_l : IsRun a size l) (is_r : IsRun b size r) where
  abbrev ca : Circuit ℕ
  ca = cut names a

  abbrev cb : Circuit ℕ
  cb = cut names b

  abbrev whole : Circuit (Either ℕ ℕ)
  whole = joined ca cb

  abbrev run : ℕ → Either ℕ ℕ → Bool
  run s = beside (l s) (r s)

  meets_run : (t : ℕ) → t < size → Meets whole (run t)
  meets_run t h = (run_joined ca cb size l r (cut_run names a size size l (omega arith) is_l) (cut_run names b size size r (omega arith) is_r)).meets t h

  abbrev Z : ℕ → Either ℕ ℕ → Type 0
  Z t (Left p) = Marked a (IsEnabled a) l t p
  Z t (Right q) = Marked b (IsEnabled b) r t q

  -- settled in some cycle in the circuit itself
  abbrev Known : Either ℕ ℕ → Type 0
  Known w = (t : ℕ) × (t < size) × Z t w

  abbrev Says : Either ℕ ℕ → Either ℕ ℕ → Type 0
  Says u next =
      ((IsEnabled whole u → ⊥) × ((w : Either ℕ ℕ) → InCone whole next w → Known w)) ⊎ (IsEnabled whole u × ((w : Either ℕ ℕ) → InCone whole next w → w ≢ u → Known w))

  says : (name : List ℕ) (u next : Either ℕ ℕ) → IsLatch whole name u next → Known u → Says u next
  says name (Left u) next latch k =
      go (part_says names a na.single da whole Left (replace_left ca cb) (left_part ca cb) size run meets_run Z (λ s p mark. mark) k.0 name u next k.1 latch k.2)
    where
      go : ((IsEnabled whole (Left u) → ⊥) × ((s : ℕ) × (k.0 ≡ suc s) × ((w : Either ℕ ℕ) → InCone whole next w → Z s w)))
          ⊎ (IsEnabled whole (Left u) × ((s : ℕ) × (s < k.0) × Loads whole (run s) (Left u) next × ((w : Either ℕ ℕ) → InCone whole next w → w ≢ Left u → Z s w))) → Says (Left u) next
      go (inl x) = inl (x.0, λ w cone. (x.1.0, omega (arith, x.1.1, k.1), x.1.2 w cone))
      go (inr x) = inr (x.0, λ w cone ne. (x.1.0, omega (arith, x.1.1, k.1), x.1.3 w cone ne))
  says name (Right u) next latch k =
      go (part_says names b nb.single db whole Right (replace_right ca cb) (right_part ca cb) size run meets_run Z (λ s p mark. mark) k.0 name u next k.1 latch k.2)
    where
      go : ((IsEnabled whole (Right u) → ⊥) × ((s : ℕ) × (k.0 ≡ suc s) × ((w : Either ℕ ℕ) → InCone whole next w → Z s w)))
          ⊎ (IsEnabled whole (Right u) × ((s : ℕ) × (s < k.0) × Loads whole (run s) (Right u) next × ((w : Either ℕ ℕ) → InCone whole next w → w ≢ Right u → Z s w))) → Says (Right u) next
      go (inl x) = inl (x.0, λ w cone. (x.1.0, omega (arith, x.1.1, k.1), x.1.2 w cone))
      go (inr x) = inr (x.0, λ w cone ne. (x.1.0, omega (arith, x.1.1, k.1), x.1.3 w cone ne))

  abbrev side : EventSide (Either ℕ ℕ)
  side = side_by_side ca cb left right class

  single : IsSingleDriven whole
  single = joined_single ca cb m n (left_net a b m n names na nb da db least) (right_net a b m n names na nb da db least)

  pub apart : (s t p q : ℕ) → s < size → t < size → Marked a (IsEnabled a) l s p → Marked b (IsEnabled b) r t q → (name : List ℕ) (u v : ℕ) → Contains names name →
      Contains ca.inputs (record { name = name; place = u }) → Contains cb.inputs (record { name = name; place = v }) → (node node' : List ℕ) (out out' : Option (Either ℕ ℕ)) →
      EventVisits side (IsEnabled whole) (record { place = Left p; left_out = None } ∷ []) out (Left u) node → EventVisits side (IsEnabled whole) (record { place = Right q; left_out = None } ∷ []) out' (Right v) node' → ⊥
  apart s t p q hs ht mp mq name u v there iu iv node node' out out' x y =
      clash (never_left Event names a b na.single nb.single da db least name) refl (cut_input names a name u iu) (cut_input names b name v iv)
      (visited_input side Known says (Left p) (λ w cone. (s, hs, cone_known names a na.single da whole Left (replace_left ca cb) (left_part ca cb) size run meets_run Z (λ k z mark. mark) s p w mp cone)) single x
      (name, (left_part ca cb).input name u iu))
      (visited_input side Known says (Right q) (λ w cone. (t, ht, cone_known names b nb.single db whole Right (replace_right ca cb) (right_part ca cb) size run meets_run Z (λ k z mark. mark) t q w mq cone)) single y
      (name, (right_part ca cb).input name v iv))
    where
      clash : (d : Bool) → never_left Event names a b na.single nb.single da db least name ≡ d →
          Contains a.inputs (record { name = name; place = u }) ⊎ (Contains names name × ((next : ℕ) × IsLatch a name u next)) →
          Contains b.inputs (record { name = name; place = v }) ⊎ (Contains names name × ((next : ℕ) × IsLatch b name v next)) → Known (Left u) → Known (Right v) → ⊥
      clash d e (inl i) other k z = left_clear Event names a b na.single nb.single da db least name u i there
      clash d e (inr i) (inl j) k z = right_clear Event names a b na.single nb.single da db least name v j there
      clash true e (inr i) (inr j) k z = left_never Event names a b na.single nb.single da db least name u i.1.0 i.1.1 e l k.0 k.2
      clash false e (inr i) (inr j) k z = right_never Event names a b na.single nb.single da db least name v j.1.0 there j.1.1 e r z.0 z.2

pub exposed_names_are_apart_in_nets : ExposedNamesAreApart
exposed_names_are_apart_in_nets a b m n names left right class na nb da db least size l r is_l is_r s t p q hs ht mp mq name u v there iu iv node node' out out' x y =
    apart a b m n names left right class na nb da db least size l r is_l is_r s t p q hs ht mp mq name u v there iu iv node node' out out' x y
