-- What tells an enable apart, while the event graph grows.
use Rattle.std.proofs.Common.{◌≡◌, ◌∙◌, ◌+◌, ℕ, List, [], ◌∷◌, ◌++◌, length, slice_get, Some, refl, sym, subst, arith, inl, inr}
use Rattle.std.specs.Prelude.{◌⊎◌}
use Rattle.std.specs.List.{All}
use Rattle.std.proofs.lemmas.List.Elements.{All-weaker}
use Rattle.std.proofs.lemmas.Option.{slice_get_within}
use Rattle.event_nodes.proofs.event_variables.flat_net.CutNets.{slice_get-append_cases}
use Rattle.event_nodes.proofs.event_variables.flat_net.Places.{one_at, All-at}
use Rattle.pair_decide.specs.declared.query.Decision.TheVariants as decision
use Rattle.event_nodes.specs.Nodes.{EventGraphView, IsEventGraph, GrowsEvents}
use Rattle.event_nodes.proofs.Growing.{grows_refl, grows_trans}
use Rattle.class_search.specs.declared.compare.Enable.{Enable}
use Rattle.class_search.specs.declared.compare.Compared.{Compared}
use Rattle.class_search.specs.declared.fitting.Unlike.{Unlike}
use Rattle.class_search.specs.Comparing.{IsReadyEnable}
use Rattle.class_search.specs.Fitting.{AreSameEnables, IsFirstUnlike}
use Rattle.class_search.specs.declared.class.Class.{Class}
use Rattle.class_search.specs.declared.told.Told.{Told}
use Rattle.class_search.specs.declared.search.Unfit.{Unfit}
use Rattle.class_search.specs.declared.search.Unfit.TheVariants as unfit
use Rattle.class_search.specs.Told.{IsAnswered, IsTold, HaveAgreed, IsToldBy}
use Rattle.class_search.specs.Search.{AreReadyClasses, AreTold, IsLimitOf, IsStopped}

-- the first member that isn't known to agree was asked about
first_answered : (v w : EventGraphView) (enables : List Enable) (latch : Enable) (conflicts : ℕ) (u : Unlike) → GrowsEvents v w → IsEventGraph w → IsFirstUnlike w enables latch conflicts u → IsAnswered v w enables latch conflicts u.member u.compared
first_answered v w enables latch conflicts u grows is first = record { at = w; since = grows; until = grows_refl w; kept = is; enable = first.enable; is = first.at; before = first.before; compared = first.compared }

pub unlike_told : (v w : EventGraphView) (enables : List Enable) (latch : Enable) (conflicts : ℕ) (u : Unlike) (t : Told) → GrowsEvents v w → IsEventGraph w → IsFirstUnlike w enables latch conflicts u → IsToldBy u t → IsTold v w enables latch conflicts t
unlike_told v w enables latch conflicts u t grows is first h =
    subst (λ (c : Compared). IsAnswered v w enables latch conflicts t.member c) h.1 (subst (λ (m : ℕ). IsAnswered v w enables latch conflicts m u.compared) (sym h.0) (first_answered v w enables latch conflicts u grows is first))

-- an answer between two states is one between an earlier one and a later one
pub answered_between : (u v w x : EventGraphView) → GrowsEvents u v → GrowsEvents w x → (enables : List Enable) (latch : Enable) (conflicts member : ℕ) (c : Compared) → IsAnswered v w enables latch conflicts member c → IsAnswered u x enables latch conflicts member c
answered_between u v w x before after enables latch conflicts member c k = record {
  at = k.at;
  since = grows_trans u v k.at before k.since;
  until = grows_trans k.at w x k.until after;
  kept = k.kept;
  enable = k.enable;
  is = k.is;
  before = k.before;
  compared = k.compared;
}

-- all members agree
pub agreed_since : (u v w : EventGraphView) → GrowsEvents u v → GrowsEvents v w → IsEventGraph w → (enables : List Enable) (latch : Enable) → All (λ x. AreSameEnables w x latch) enables → HaveAgreed u w enables latch
agreed_since u v w before after is enables latch same = record { at = w; since = grows_trans u v w before after; until = grows_refl w; kept = is; same = same }

-- what tells the latch from the first classes goes on to do so
pub told_later : (v w x : EventGraphView) (classes : List Class) (latch : Enable) (conflicts : ℕ) (told : List Told) → GrowsEvents w x → AreTold v w classes latch conflicts told → AreTold v x classes latch conflicts told
told_later v w x classes latch conflicts told grows are i t at =
    let c = are i t at in
    (c.0, c.1, answered_between v v w x (grows_refl v) grows c.0.enables.items latch conflicts t.member (record { vars = t.difference.vars; decision = decision.Differs t.difference.bits }) c.2)

-- and so does that from one class more
pub told_next : (v w x : EventGraphView) (classes : List Class) (latch : Enable) (conflicts : ℕ) (told : List Told) (c : Class) (t : Told) → GrowsEvents v w → GrowsEvents w x → AreTold v w classes latch conflicts told → slice_get classes (length told) ≡ Some c →
    IsTold w x c.enables.items latch conflicts t → AreTold v x classes latch conflicts (told ++ t ∷ [])
told_next v w x classes latch conflicts told c t before after are at_c is i s at = go (slice_get-append_cases told (t ∷ []) i s at)
  where
    go : (slice_get told i ≡ Some s) ⊎ ((k : ℕ) × (i ≡ length told + k) × (slice_get (t ∷ []) k ≡ Some s)) → (d : Class) × (slice_get classes i ≡ Some d) × IsTold v x d.enables.items latch conflicts s
    go (inl h) = told_later v w x classes latch conflicts told after are i s h
    go (inr (k, e, h)) =
        let inside = slice_get_within (t ∷ []) k s h in
        let first : k ≡ 0 = omega (arith, inside) in
        let same : t ≡ s = one_at (t ∷ []) 0 t s refl (subst (λ (q : ℕ). slice_get (t ∷ []) q ≡ Some s) first h) in
        let here : length told ≡ i = omega (arith, e, first) in (
          c,
          subst (λ (q : ℕ). slice_get classes q ≡ Some c) here at_c,
          subst (IsTold v x c.enables.items latch conflicts) same
              (answered_between v w x x before (grows_refl x) c.enables.items latch conflicts t.member (record { vars = t.difference.vars; decision = decision.Differs t.difference.bits }) is),
        )

-- where its query met the limit, the latch was told from the classes before
pub unlike_stopped : (u v w : EventGraphView) (classes : List Class) (latch : Enable) (conflicts : ℕ) (told : List Told) (place : ℕ) (c : Class) (x : Unlike) (r : Unfit) → AreTold u v classes latch conflicts told → length told ≡ place → slice_get classes place ≡ Some c → GrowsEvents u v → GrowsEvents v w → IsEventGraph w → IsFirstUnlike w c.enables.items latch conflicts x → IsLimitOf place x r → IsStopped u w classes latch conflicts r
unlike_stopped u v w classes latch conflicts told place c x (unfit.Always proof) are long here before after is first h = absurd h
unlike_stopped u v w classes latch conflicts told place c x unfit.NoMemory are long here before after is first h = absurd h
unlike_stopped u v w classes latch conflicts told place c x (unfit.Member at member proof) are long here before after is first h = (
  told,
  told_later u v w classes latch conflicts told after are,
  long ∙ sym h.0,
  (
    c,
    subst (λ (n : ℕ). slice_get classes n ≡ Some c) (sym h.0) here,
    (
      x.compared.vars,
      subst (λ (r : Compared). IsAnswered u w c.enables.items latch conflicts member r) h.2
          (subst (λ (m : ℕ). IsAnswered u w c.enables.items latch conflicts m x.compared) (sym h.1) (first_answered u w c.enables.items latch conflicts x (grows_trans u v w before after) is first)),
    ),
  ),
)

-- the members of a class can be asked about in each later state
pub members_ready : (v w : EventGraphView) (classes : List Class) (at : ℕ) (c : Class) → ((x : Enable) → IsReadyEnable v x → IsReadyEnable w x) → AreReadyClasses v classes → slice_get classes at ≡ Some c → All (IsReadyEnable w) c.enables.items
members_ready v w classes at c on ready here = All-weaker (IsReadyEnable v) (IsReadyEnable w) on c.enables.items (All-at (λ (d : Class). All (IsReadyEnable v) d.enables.items) classes at c here ready)
