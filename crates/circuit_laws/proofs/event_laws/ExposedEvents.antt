-- Equal event functions of two nets that are cut at a minimal cut mean agreement of the nets themselves, and agreement onward.
use Rattle.std.proofs.Common.{◌≡◌, ℕ, ◌<◌, Bool, true, false, not, cond, List, [], length, refl, sym, ◌∙◌, ap, arith, inl, inr}
use Rattle.std.specs.Prelude.{◌⊎◌}
use Rattle.std.specs.List.{Contains}
use Rattle.circuit_theory.specs.declared.Mode.TheVariants.{Event}
use Rattle.circuit_theory.specs.Names.{is_among}
use Rattle.circuit_theory.specs.Circuit.{Circuit, IsInput, IsLatch}
use Rattle.circuit_theory.specs.Run.{IsEnabled, IsDetermined, Marked}
use Rattle.circuit_theory.specs.Tree.{AreNumbered}
use Rattle.circuit_theory.specs.Net.{IsNet, HasDistinctNames}
use Rattle.circuit_theory.specs.Joined.{Either, Left, Right, joined}
use Rattle.circuit_theory.specs.Classes.{HasClasses}
use Rattle.circuit_theory.specs.Agree.{cut, Agree, AgreeOnward, AreAlike, IsPair, IsMinimalCut, latch_named}
use Rattle.circuit_theory.specs.EventFits.{side_by_side, HaveEqualEvents}
use Rattle.circuit_theory.specs.Depth.{LatchesHaveDepths}
use Rattle.circuit_laws.specs.event_laws.Laws.{ExposedEventFunctionsAgree}
use Rattle.circuit_theory.proofs.Sums.{same_or_not}
use Rattle.circuit_theory.proofs.Numbers.{is_among-complete}
use Rattle.circuit_laws.proofs.Pairs.{latch_is_named}
use Rattle.circuit_laws.proofs.LawProofs.{next_within}
use Rattle.circuit_laws.proofs.NetLaws.{net_can_put, net_determined, net_run, net_run-runs, net_run-inputs}
use Rattle.circuit_laws.proofs.Onward.{cut_input, pairs_agree_onward}
use Rattle.circuit_laws.proofs.CutLaws.{never_left, left_never, right_never, left_clear, right_clear}
use Rattle.circuit_laws.proofs.event_laws.CutParts.{cut_own_input, cut_exposed}
use Rattle.circuit_laws.proofs.event_laws.CutNets.{cut_is_net, cut_names_apart}
use Rattle.circuit_laws.proofs.event_laws.CutMarks.{settled_cut}
use Rattle.circuit_laws.proofs.event_laws.Exchanged.{value_named, exchanged, exchanged_input, exchanged_latch}
use Rattle.circuit_laws.proofs.event_laws.EventAgreement.{event_pair_agrees}

module _ (a b : Circuit ℕ) (m n : ℕ) (names : List (List ℕ)) (na : IsNet a m) (nb : IsNet b n) (da : HasDistinctNames a) (db : HasDistinctNames b) (least : IsMinimalCut Event a b names) where
  pub left_net : IsNet (cut names a) m
  left_net = cut_is_net names a m na da (cut_names_apart Event a b names least)

  pub right_net : IsNet (cut names b) n
  right_net = cut_is_net names b n nb db (cut_names_apart Event a b names least)

  -- is the name needed for a cycle of A? Then its latch is never settled in A, and else never in B
  abbrev pub never : List ℕ → Bool
  never = never_left Event names a b na.single nb.single da db least

  abbrev pub never_right : List ℕ → Bool
  never_right name = cond (is_among names name) (not (never name)) false

  -- two runs with equal inputs, where the exposed latches become equal inputs: each has the value of the circuit in which it may be settled
  module _ (size : ℕ) (l r : ℕ → ℕ → Bool) (alike : AreAlike a b size l r) where
    pub left_value : ℕ → ℕ → Bool
    left_value t = exchanged same_or_not a na.single (λ name. value_named (r t) (latch_named b.equations name)) never (l t)

    pub right_value : ℕ → ℕ → Bool
    right_value t = exchanged same_or_not b nb.single (λ name. value_named (l t) (latch_named a.equations name)) never_right (r t)

    abbrev pub new_left : ℕ → ℕ → Bool
    new_left = net_run (cut names a) (l 0) left_value

    abbrev pub new_right : ℕ → ℕ → Bool
    new_right = net_run (cut names b) (r 0) right_value

    left_is : (t : ℕ) (name : List ℕ) (p : ℕ) → Contains (cut names a).inputs (record { name = name; place = p }) → new_left t p ≡ left_value t p
    left_is t name p h = net_run-inputs (cut names a) m left_net (l 0) left_value t p (name, h)

    right_is : (t : ℕ) (name : List ℕ) (q : ℕ) → Contains (cut names b).inputs (record { name = name; place = q }) → new_right t q ≡ right_value t q
    right_is t name q h = net_run-inputs (cut names b) n right_net (r 0) right_value t q (name, h)

    left_input : (t : ℕ) (p : ℕ) → IsInput a p → left_value t p ≡ l t p
    unfolding left_value
    left_input t p i = exchanged_input same_or_not a na.single (λ name. value_named (r t) (latch_named b.equations name)) never (l t) p i

    right_input : (t : ℕ) (q : ℕ) → IsInput b q → right_value t q ≡ r t q
    unfolding right_value
    right_input t q i = exchanged_input same_or_not b nb.single (λ name. value_named (l t) (latch_named a.equations name)) never_right (r t) q i

    left_latch : (t : ℕ) (name : List ℕ) (u p v q : ℕ) → IsLatch a name u p → IsLatch b name v q → left_value t u ≡ cond (never name) (r t v) (l t u)
    unfolding left_value
    left_latch t name u p v q la lb =
        exchanged_latch same_or_not a na.single (λ name. value_named (r t) (latch_named b.equations name)) never (l t) name u p la
        ∙ ap (λ o. cond (never name) (value_named (r t) o) (l t u)) (latch_is_named b nb.single db name v q lb)

    right_latch : (t : ℕ) (name : List ℕ) (u p v q : ℕ) → Contains names name → IsLatch a name u p → IsLatch b name v q → right_value t v ≡ cond (never name) (r t v) (l t u)
    unfolding right_value
    right_latch t name u p v q h la lb =
        exchanged_latch same_or_not b nb.single (λ name. value_named (l t) (latch_named a.equations name)) never_right (r t) name v q lb
        ∙ (ap (λ o. cond (never_right name) (value_named (l t) o) (r t v)) (latch_is_named a na.single da name u p la)
        ∙ (ap (λ b. cond (cond b (not (never name)) false) (l t u) (r t v)) (is_among-complete names name h) ∙ flip (never name)))
      where
        flip : (b : Bool) → cond (not b) (l t u) (r t v) ≡ cond b (r t v) (l t u)
        flip true = refl
        flip false = refl

    pub new_alike : AreAlike (cut names a) (cut names b) size new_left new_right
    new_alike = record {
      left_run = net_run-runs (cut names a) m left_net (l 0) left_value size;
      right_run = net_run-runs (cut names b) n right_net (r 0) right_value size;
      equal_inputs = λ name p q hp hq t h. left_is t name p hp ∙ (go name p q t h (cut_input names a name p hp) (cut_input names b name q hq) ∙ sym (right_is t name q hq));
    }
      where
        go : (name : List ℕ) (p q t : ℕ) → t < size → Contains a.inputs (record { name = name; place = p }) ⊎ (Contains names name × ((next : ℕ) × IsLatch a name p next)) →
            Contains b.inputs (record { name = name; place = q }) ⊎ (Contains names name × ((next : ℕ) × IsLatch b name q next)) → left_value t p ≡ right_value t q
        go name p q t h (inl x) (inl y) = left_input t p (name, x) ∙ (alike.equal_inputs name p q x y t h ∙ sym (right_input t q (name, y)))
        go name p q t h (inl x) (inr y) = absurd (left_clear Event names a b na.single nb.single da db least name p x y.0)
        go name p q t h (inr x) (inl y) = absurd (right_clear Event names a b na.single nb.single da db least name q y x.0)
        go name p q t h (inr x) (inr y) = left_latch t name p x.1.0 q y.1.0 x.1.1 y.1.1 ∙ sym (right_latch t name p x.1.0 q y.1.0 x.0 x.1.1 y.1.1)

    pub left_kept : (t p : ℕ) → t < size → Marked a (IsEnabled a) l t p → Marked (cut names a) (IsEnabled (cut names a)) new_left t p × (l t p ≡ new_left t p)
    left_kept t p h mark = settled_cut names a na.single da same_or_not (net_can_put a m na) det size l new_left alike.left_run new_alike.left_run inputs exposed mark h
      where
        det : (name : List ℕ) (u next : ℕ) → IsLatch a name u next → IsDetermined a next
        det name u next latch = net_determined a m na next (next_within a m na name u next latch)

        inputs : (s p : ℕ) → s < size → IsInput a p → l s p ≡ new_left s p
        inputs s p h i = sym (left_is s i.0 p (cut_own_input names a na.single da i.0 p i.1) ∙ left_input s p i)

        exposed : (s : ℕ) (name : List ℕ) (u next : ℕ) → s < size → Contains names name → IsLatch a name u next → Marked a (IsEnabled a) l s u → l s u ≡ new_left s u
        exposed s name u next h there latch mark = go (never name) refl
          where
            other : (u p : ℕ) × (v q : ℕ) × IsLatch a name u p × IsLatch b name v q
            other = least.common name there

            value : new_left s u ≡ cond (never name) (r s other.2) (l s u)
            value = left_is s name u (cut_exposed names a na.single da name u next latch there) ∙ left_latch s name u next other.2 other.3 latch other.5

            go : (b : Bool) → never name ≡ b → l s u ≡ new_left s u
            go true e = absurd (left_never Event names a b na.single nb.single da db least name u next latch e l s mark)
            go false e = sym (value ∙ ap (λ b. cond b (r s other.2) (l s u)) e)

    pub right_kept : (t q : ℕ) → t < size → Marked b (IsEnabled b) r t q → Marked (cut names b) (IsEnabled (cut names b)) new_right t q × (r t q ≡ new_right t q)
    right_kept t q h mark = settled_cut names b nb.single db same_or_not (net_can_put b n nb) det size r new_right alike.right_run new_alike.right_run inputs exposed mark h
      where
        det : (name : List ℕ) (v next : ℕ) → IsLatch b name v next → IsDetermined b next
        det name v next latch = net_determined b n nb next (next_within b n nb name v next latch)

        inputs : (s q : ℕ) → s < size → IsInput b q → r s q ≡ new_right s q
        inputs s q h i = sym (right_is s i.0 q (cut_own_input names b nb.single db i.0 q i.1) ∙ right_input s q i)

        exposed : (s : ℕ) (name : List ℕ) (v next : ℕ) → s < size → Contains names name → IsLatch b name v next → Marked b (IsEnabled b) r s v → r s v ≡ new_right s v
        exposed s name v next h there latch mark = go (never name) refl
          where
            other : (u p : ℕ) × (v q : ℕ) × IsLatch a name u p × IsLatch b name v q
            other = least.common name there

            value : new_right s v ≡ cond (never name) (r s v) (l s other.0)
            value = right_is s name v (cut_exposed names b nb.single db name v next latch there) ∙ right_latch s name other.0 other.1 v next there other.4 latch

            go : (b : Bool) → never name ≡ b → r s v ≡ new_right s v
            go true e = sym (value ∙ ap (λ b. cond b (r s v) (l s other.0)) e)
            go false e = absurd (right_never Event names a b na.single nb.single da db least name v next there latch e r s mark)

  module _ (left right : List ℕ) (class : Either ℕ ℕ → ℕ) (numbered : AreNumbered (cut names a) (cut names b) left right)
      (left_long : length left ≡ length (cut names a).inputs) (right_long : length right ≡ length (cut names b).inputs)
      (classes : HasClasses (side_by_side (cut names a) (cut names b) left right class))
      (depths : LatchesHaveDepths (joined (cut names a) (cut names b)) (IsEnabled (joined (cut names a) (cut names b))))
      (equal : (p q : ℕ) → IsPair names a b p q → HaveEqualEvents (side_by_side (cut names a) (cut names b) left right class) (Left p) (Right q)) where
    -- a pair of the cut circuits has one value wherever it is settled there
    cut_pair : (size : ℕ) (l r : ℕ → ℕ → Bool) → AreAlike (cut names a) (cut names b) size l r → (t p q : ℕ) → t < size → IsPair names a b p q →
        Marked (cut names a) (IsEnabled (cut names a)) l t p → Marked (cut names b) (IsEnabled (cut names b)) r t q → l t p ≡ r t q
    cut_pair size l r alike t p q h pair lm rm =
        event_pair_agrees (cut names a) (cut names b) m n left right class left_net right_net numbered left_long right_long classes depths size l r alike t p q h (equal p q pair) lm rm

    pub exposed_events_agree : Agree Event a b
    exposed_events_agree size l r alike t p q h pair lm rm =
        let lk = left_kept size l r alike t p h lm in
        let rk = right_kept size l r alike t q h rm in
        lk.1 ∙ (cut_pair size (new_left size l r alike) (new_right size l r alike) (new_alike size l r alike) t p q h (wider pair) lk.0 rk.0 ∙ sym rk.1)
      where
        wider : {p q : ℕ} → IsPair [] a b p q → IsPair names a b p q
        wider (IsPair.outputs x y) = IsPair.outputs x y
        wider (IsPair.nexts k x y) = absurd (omega (arith, k.1))

    pub exposed_events_agree_onward : AgreeOnward Event names a b
    exposed_events_agree_onward =
        pairs_agree_onward Event names a b (left_clear Event names a b na.single nb.single da db least) (right_clear Event names a b na.single nb.single da db least)
        (λ size l r alike t p q h pair lm rm. cut_pair size l r alike t p q h pair lm rm)

pub exposed_event_functions_agree_in_nets : ExposedEventFunctionsAgree
exposed_event_functions_agree_in_nets a b m n names left right class na nb da db least numbered left_long right_long classes depths equal = (
  exposed_events_agree a b m n names na nb da db least left right class numbered left_long right_long classes depths equal,
  exposed_events_agree_onward a b m n names na nb da db least left right class numbered left_long right_long classes depths equal,
)
