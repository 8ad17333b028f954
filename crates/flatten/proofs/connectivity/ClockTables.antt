-- Nets of clocks and edges of latches, signal by signal.
use Rattle.std.proofs.Common.{◌≡◌, ◌∙◌, ◌<◌, ◌≤◌, ◌+◌, ℕ, zero, suc, List, [], ◌∷◌, ◌++◌, length, take, slice_get, Option, Some, None, refl, sym, ap, subst, inl, inr, arith}
use Rattle.std.specs.Prelude.{◌⊎◌, unwrap_or}
use Rattle.std.proofs.lemmas.List.{take_all}
use Rattle.std.proofs.lemmas.Option.{none-some, same_Some}
use Rattle.base_tables.proofs.TableLemmas.{take-push, slice_get-take}
use Rattle.sec_base.specs.declared.basics.Edge.{Edge}
use Rattle.sec_base.specs.declared.basics.Edge.TheVariants as edge
use Rattle.flatten.specs.connectivity.Wiring.{TypedLatch}
use Rattle.flatten.specs.connectivity.Events.{IsFirst, IsNever}
use Rattle.flatten.specs.connectivity.Clocks.{NetIsAt, AreOneNet, OtherNet}
use Rattle.flatten.proofs.connectivity.Joined.{slice_get-append, slice_get-append_cases}
use Rattle.flatten.proofs.connectivity.SourceTables.{slice_get-last}

module _ (nets : List (Option ℕ)) (signals : List ℕ) where
  at_taken : (i j net : ℕ) → NetIsAt nets (take i signals) j net → (j < i) × NetIsAt nets signals j net
  at_taken i j net h = let old = slice_get-take i signals j h.signal h.here in (old.0, record { signal = h.signal; here = old.1; leads = h.leads })

  at_earlier : (i j net : ℕ) (n : ℕ) → slice_get signals i ≡ Some n → NetIsAt nets (take i signals) j net → NetIsAt nets (take (i + 1) signals) j net
  at_earlier i j net n here h = record { signal = h.signal; here = subst (λ zs. slice_get zs j ≡ Some h.signal) (take-push signals i n here) (slice_get-append (take i signals) (n ∷ []) j h.signal h.here); leads = h.leads }

  -- the net of one of the first signals and one more is that of a first, or that of the one more
  at_cases : (i j net n : ℕ) → slice_get signals i ≡ Some n → NetIsAt nets (take (i + 1) signals) j net → NetIsAt nets (take i signals) j net ⊎ (slice_get nets n ≡ Some (Some net))
  at_cases i j net n here h = by (slice_get-append_cases (take i signals) (n ∷ []) j h.signal (subst (λ zs. slice_get zs j ≡ Some h.signal) (sym (take-push signals i n here)) h.here))
    where
      last : (k : ℕ) → slice_get (n ∷ []) k ≡ Some h.signal → NetIsAt nets (take i signals) j net ⊎ (slice_get nets n ≡ Some (Some net))
      last zero e = inr (subst (λ z. slice_get nets z ≡ Some (Some net)) (sym (same_Some n h.signal e)) h.leads)
      last (suc k) e = absurd (none-some h.signal e)

      by : (slice_get (take i signals) j ≡ Some h.signal) ⊎ ((k : ℕ) × (length (take i signals) + k ≡ j) × (slice_get (n ∷ []) k ≡ Some h.signal)) → NetIsAt nets (take i signals) j net ⊎ (slice_get nets n ≡ Some (Some net))
      by (inl old) = inl (record { signal = h.signal; here = old; leads = h.leads })
      by (inr (k, e, new)) = last k new

  -- the signal itself among the first and one more
  at_last : (i n net : ℕ) → slice_get signals i ≡ Some n → slice_get nets n ≡ Some (Some net) → NetIsAt nets (take (i + 1) signals) i net
  at_last i n net here leads = record { signal = n; here = slice_get-last signals i n here; leads = leads }

  -- a signal without a net
  pub one_passed : (i n : ℕ) (clock : Option ℕ) → slice_get signals i ≡ Some n → slice_get nets n ≡ Some None → AreOneNet nets (take i signals) clock → AreOneNet nets (take (i + 1) signals) clock
  one_passed i n None here none old = λ j net h. by j net (at_cases i j net n here h)
    where
      by : (j net : ℕ) → NetIsAt nets (take i signals) j net ⊎ (slice_get nets n ≡ Some (Some net)) → ⊥
      by j net (inl k) = old j net k
      by j net (inr e) = none-some net (same_Some None (Some net) (sym none ∙ e))
  one_passed i n (Some clock) here none old = ((old.0.0, at_earlier i old.0.0 clock n here old.0.1), λ j net h. by j net (at_cases i j net n here h))
    where
      by : (j net : ℕ) → NetIsAt nets (take i signals) j net ⊎ (slice_get nets n ≡ Some (Some net)) → net ≡ clock
      by j net (inl k) = old.1 j net k
      by j net (inr e) = absurd (none-some net (same_Some None (Some net) (sym none ∙ e)))

  -- the first net
  pub one_first : (i n net : ℕ) → slice_get signals i ≡ Some n → slice_get nets n ≡ Some (Some net) → AreOneNet nets (take i signals) None → AreOneNet nets (take (i + 1) signals) (Some net)
  one_first i n net here leads old = ((i, at_last i n net here leads), λ j m h. by j m (at_cases i j m n here h))
    where
      by : (j m : ℕ) → NetIsAt nets (take i signals) j m ⊎ (slice_get nets n ≡ Some (Some m)) → m ≡ net
      by j m (inl k) = absurd (old j m k)
      by j m (inr e) = same_Some m net (same_Some (Some m) (Some net) (sym e ∙ leads))

  -- the same net again
  pub one_more : (i n net clock : ℕ) → slice_get signals i ≡ Some n → slice_get nets n ≡ Some (Some net) → clock ≡ net → AreOneNet nets (take i signals) (Some clock) → AreOneNet nets (take (i + 1) signals) (Some clock)
  one_more i n net clock here leads same old = ((old.0.0, at_earlier i old.0.0 clock n here old.0.1), λ j m h. by j m (at_cases i j m n here h))
    where
      by : (j m : ℕ) → NetIsAt nets (take i signals) j m ⊎ (slice_get nets n ≡ Some (Some m)) → m ≡ clock
      by j m (inl k) = old.1 j m k
      by j m (inr e) = same_Some m net (same_Some (Some m) (Some net) (sym e ∙ leads)) ∙ sym same

  -- another net
  pub other_first : (i n net clock : ℕ) → slice_get signals i ≡ Some n → slice_get nets n ≡ Some (Some net) → (clock ≡ net → ⊥) → AreOneNet nets (take i signals) (Some clock) → IsFirst (OtherNet nets signals) net
  other_first i n net clock here leads apart old = record {
    at = i;
    here = record {
      own = record { signal = n; here = here; leads = leads };
      earlier = old.0.0;
      other = clock;
      before = (at_taken i old.0.0 clock old.0.1).0;
      theirs = (at_taken i old.0.0 clock old.0.1).1;
      apart = λ e. apart (sym e);
    };
    before = λ j q below o. o.apart (one j q below o.own ∙ sym (one o.earlier o.other (omega (arith, below, o.before)) o.theirs));
  }
    where
      taken : (xs : List ℕ) (j k x : ℕ) → j < k → slice_get xs j ≡ Some x → slice_get (take k xs) j ≡ Some x
      taken [] j k x below h = absurd (none-some x h)
      taken (y ∷ xs) j zero x below h = absurd (omega (arith, below))
      taken (y ∷ xs) zero (suc k) x below h = h
      taken (y ∷ xs) (suc j) (suc k) x below h = taken xs j k x (omega (arith, below)) h

      one : (j q : ℕ) → j < i → NetIsAt nets signals j q → q ≡ clock
      one j q below h = old.1 j q (record { signal = h.signal; here = taken signals j i h.signal below h.here; leads = h.leads })

  pub one_all : (i : ℕ) (clock : Option ℕ) → length signals ≤ i → AreOneNet nets (take i signals) clock → AreOneNet nets signals clock
  one_all i clock past old = subst (λ zs. AreOneNet nets zs clock) (take_all i signals past) old

-- signals of one net have no other net
pub one_never : (nets : List (Option ℕ)) (signals : List ℕ) (clock : Option ℕ) → AreOneNet nets signals clock → IsNever (OtherNet nets signals)
one_never nets signals None old i q o = old i q o.own
one_never nets signals (Some clock) old i q o = o.apart (old.1 i q o.own ∙ sym (old.1 o.earlier o.other o.theirs))

-- the latches have the edge of the first, if there is one
abbrev pub HaveEdge : List (TypedLatch ℕ) → Option Edge → Type 0
HaveEdge typed None = typed ≡ []
HaveEdge typed (Some edge) = ((l : TypedLatch ℕ) × (slice_get typed 0 ≡ Some l) × (l.edge ≡ edge)) × ((i : ℕ) (l : TypedLatch ℕ) → slice_get typed i ≡ Some l → l.edge ≡ edge)

pub edge_first : (typed : List (TypedLatch ℕ)) (l : TypedLatch ℕ) → HaveEdge typed None → HaveEdge (typed ++ l ∷ []) (Some l.edge)
edge_first typed l none = subst (λ zs. HaveEdge (zs ++ l ∷ []) (Some l.edge)) (sym none) ((l, refl, refl), λ i k h. by i k h)
  where
    by : (i : ℕ) (k : TypedLatch ℕ) → slice_get (l ∷ []) i ≡ Some k → k.edge ≡ l.edge
    by zero k h = ap (λ (z : TypedLatch ℕ). z.edge) (sym (same_Some l k h))
    by (suc i) k h = absurd (none-some k h)

pub edge_more : (typed : List (TypedLatch ℕ)) (l : TypedLatch ℕ) (edge : Edge) → edge ≡ l.edge → HaveEdge typed (Some edge) → HaveEdge (typed ++ l ∷ []) (Some edge)
edge_more typed l edge same old = ((old.0.0, slice_get-append typed (l ∷ []) 0 old.0.0 old.0.1, old.0.2), λ i k h. by i k (slice_get-append_cases typed (l ∷ []) i k h))
  where
    last : (j : ℕ) (k : TypedLatch ℕ) → slice_get (l ∷ []) j ≡ Some k → k.edge ≡ edge
    last zero k h = ap (λ (z : TypedLatch ℕ). z.edge) (sym (same_Some l k h)) ∙ sym same
    last (suc j) k h = absurd (none-some k h)

    by : (i : ℕ) (k : TypedLatch ℕ) → (slice_get typed i ≡ Some k) ⊎ ((j : ℕ) × (length typed + j ≡ i) × (slice_get (l ∷ []) j ≡ Some k)) → k.edge ≡ edge
    by i k (inl h) = old.1 i k h
    by i k (inr (j, e, h)) = last j k h

module _ (nets : List (Option ℕ)) (signals : List ℕ) where
  -- a signal of the net that the clock is, if there is one
  pub one_step : (i n net : ℕ) (clock : Option ℕ) → slice_get signals i ≡ Some n → slice_get nets n ≡ Some (Some net) → unwrap_or clock net ≡ net → AreOneNet nets (take i signals) clock → AreOneNet nets (take (i + 1) signals) (Some net)
  one_step i n net None here leads same old = one_first nets signals i n net here leads old
  one_step i n net (Some k) here leads same old = subst (λ m. AreOneNet nets (take (i + 1) signals) (Some m)) same (one_more nets signals i n net k here leads same old)

  pub other_step : (i n net : ℕ) (clock : Option ℕ) → slice_get signals i ≡ Some n → slice_get nets n ≡ Some (Some net) → (unwrap_or clock net ≡ net → ⊥) → AreOneNet nets (take i signals) clock → IsFirst (OtherNet nets signals) net
  other_step i n net None here leads apart old = absurd (apart refl)
  other_step i n net (Some k) here leads apart old = other_first nets signals i n net k here leads apart old

-- a value that is none of those there are
pub none_left : {X : Type 0} (o : Option X) → ((x : X) → o ≡ Some x → ⊥) → o ≡ None
none_left None h = refl
none_left (Some x) h = absurd (h x refl)

pub edge_same : (a b : Edge) → ((a ≡ b → ⊥) → ⊥) → a ≡ b
edge_same edge.Rising edge.Rising h = refl
edge_same edge.Rising edge.Falling h = absurd (h (λ e. cc))
edge_same edge.Falling edge.Rising h = absurd (h (λ e. cc))
edge_same edge.Falling edge.Falling h = refl

pub edge_step : (typed : List (TypedLatch ℕ)) (l : TypedLatch ℕ) (first : Option Edge) → unwrap_or first l.edge ≡ l.edge → HaveEdge typed first → HaveEdge (typed ++ l ∷ []) (Some l.edge)
edge_step typed l None same have = edge_first typed l have
edge_step typed l (Some edge) same have = subst (λ e. HaveEdge (typed ++ l ∷ []) (Some e)) same (edge_more typed l edge same have)
