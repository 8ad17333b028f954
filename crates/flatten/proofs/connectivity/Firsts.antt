-- The first of the events in a row.
use Rattle.std.proofs.Common.{◌≡◌, ◌+◌, ◌<◌, ◌≤◌, ℕ, zero, suc, List, [], ◌∷◌, ◌++◌, length, take, drop, slice_get, Some, refl, sym, subst, arith, inl, inr}
use Rattle.std.specs.Prelude.{◌⊎◌}
use Rattle.std.proofs.lemmas.Option.{slice_get_within, none-some, same_Some}
use Rattle.std.proofs.lemmas.List.{take_all}
use Rattle.base_tables.proofs.TableLemmas.{take-push}
use Rattle.flatten.specs.connectivity.Wiring.{joined}
use Rattle.flatten.specs.connectivity.Events.{IsFirst, IsNever, IsAt}
use Rattle.flatten.proofs.connectivity.Joined.{slice_get-append, slice_get-append_right, slice_get-append_cases, split_at, joined_more, joined_split}

-- events that go along with others: the first is the first
pub first_along : {P Q : Type 0} (E : ℕ → P → Type 0) (F : ℕ → Q → Type 0) (f : P → Q) → ((i : ℕ) (p : P) → E i p → F i (f p)) → ((i : ℕ) (q : Q) → F i q → (p : P) × E i p) →
    (p : P) → IsFirst E p → IsFirst F (f p)
first_along E F f there back p first = record {
  at = first.at;
  here = there first.at p first.here;
  before = λ i q below e. let old = back i q e in first.before i old.0 below old.1;
}

pub never_along : {P Q : Type 0} (E : ℕ → P → Type 0) (F : ℕ → Q → Type 0) → ((i : ℕ) (q : Q) → F i q → (p : P) × E i p) → IsNever E → IsNever F
never_along E F back never i q e = let old = back i q e in never i old.0 old.1

module _ {X P : Type 0} (name : X → P) (M : X → Type 0) where
  pub never_nil : IsNever (IsAt [] name M)
  never_nil i q e = none-some e.item e.here

  pub never_one : (x : X) → (M x → ⊥) → IsNever (IsAt (x ∷ []) name M)
  never_one x none i q e = by i e.here
    where
      by : (i : ℕ) → slice_get (x ∷ []) i ≡ Some e.item → ⊥
      by zero h = none (subst M (sym (same_Some x e.item h)) e.meant)
      by (suc i) h = none-some e.item h

  pub first_one : (x : X) → M x → IsFirst (IsAt (x ∷ []) name M) (name x)
  first_one x m = record { at = 0; here = record { item = x; here = refl; meant = m; called = refl }; before = λ i q below e. absurd (omega (arith, below)) }

  pub never_append : (xs ys : List X) → IsNever (IsAt xs name M) → IsNever (IsAt ys name M) → IsNever (IsAt (xs ++ ys) name M)
  never_append xs ys left right i q e = by (slice_get-append_cases xs ys i e.item e.here)
    where
      by : (slice_get xs i ≡ Some e.item) ⊎ ((j : ℕ) × (length xs + j ≡ i) × (slice_get ys j ≡ Some e.item)) → ⊥
      by (inl here) = left i q (record { item = e.item; here = here; meant = e.meant; called = e.called })
      by (inr (j, at, here)) = right j q (record { item = e.item; here = here; meant = e.meant; called = e.called })

  pub first_append_left : (xs ys : List X) (p : P) → IsFirst (IsAt xs name M) p → IsFirst (IsAt (xs ++ ys) name M) p
  first_append_left xs ys p first = record {
    at = first.at;
    here = record { item = first.here.item; here = slice_get-append xs ys first.at first.here.item first.here.here; meant = first.here.meant; called = first.here.called };
    before = λ i q below e. by i q below e (slice_get-append_cases xs ys i e.item e.here);
  }
    where
      within : first.at < length xs
      within = slice_get_within xs first.at first.here.item first.here.here

      by : (i : ℕ) (q : P) → i < first.at → (e : IsAt (xs ++ ys) name M i q) → (slice_get xs i ≡ Some e.item) ⊎ ((j : ℕ) × (length xs + j ≡ i) × (slice_get ys j ≡ Some e.item)) → ⊥
      by i q below e (inl here) = first.before i q below (record { item = e.item; here = here; meant = e.meant; called = e.called })
      by i q below e (inr (j, at, here)) = absurd (omega (arith, below, at, within))

  pub first_append_right : (xs ys : List X) (p : P) → IsNever (IsAt xs name M) → IsFirst (IsAt ys name M) p → IsFirst (IsAt (xs ++ ys) name M) p
  first_append_right xs ys p left first = record {
    at = length xs + first.at;
    here = record { item = first.here.item; here = slice_get-append_right xs ys first.at first.here.item first.here.here; meant = first.here.meant; called = first.here.called };
    before = λ i q below e. by i q below e (slice_get-append_cases xs ys i e.item e.here);
  }
    where
      by : (i : ℕ) (q : P) → i < length xs + first.at → (e : IsAt (xs ++ ys) name M i q) → (slice_get xs i ≡ Some e.item) ⊎ ((j : ℕ) × (length xs + j ≡ i) × (slice_get ys j ≡ Some e.item)) → ⊥
      by i q below e (inl here) = left i q (record { item = e.item; here = here; meant = e.meant; called = e.called })
      by i q below e (inr (j, at, here)) = first.before j q (omega (arith, below, at)) (record { item = e.item; here = here; meant = e.meant; called = e.called })

-- what is meant said in another way
pub meant_first : {X P : Type 0} (xs : List X) (name : X → P) (M N : X → Type 0) → ((i : ℕ) (x : X) → slice_get xs i ≡ Some x → M x → N x) → ((i : ℕ) (x : X) → slice_get xs i ≡ Some x → N x → M x) →
    (p : P) → IsFirst (IsAt xs name M) p → IsFirst (IsAt xs name N) p
meant_first xs name M N there back p first = first_along (IsAt xs name M) (IsAt xs name N) (λ q. q)
    (λ i q e. record { item = e.item; here = e.here; meant = there i e.item e.here e.meant; called = e.called })
    (λ i q e. (q, record { item = e.item; here = e.here; meant = back i e.item e.here e.meant; called = e.called })) p first

pub meant_never : {X P : Type 0} (xs : List X) (name : X → P) (M N : X → Type 0) → ((i : ℕ) (x : X) → slice_get xs i ≡ Some x → N x → M x) → IsNever (IsAt xs name M) → IsNever (IsAt xs name N)
meant_never xs name M N back never i q e = never i q (record { item = e.item; here = e.here; meant = back i e.item e.here e.meant; called = e.called })

-- going on from the items before
module _ {X P : Type 0} (name : X → P) (M : X → Type 0) where
  pub never_more : (xs : List X) (i : ℕ) (x : X) → slice_get xs i ≡ Some x → IsNever (IsAt (take i xs) name M) → (M x → ⊥) → IsNever (IsAt (take (i + 1) xs) name M)
  never_more xs i x here before none =
      subst (λ zs. IsNever (IsAt zs name M)) (take-push xs i x here) (never_append name M (take i xs) (x ∷ []) before (never_one name M x none))

  pub never_all : (xs : List X) (i : ℕ) → length xs ≤ i → IsNever (IsAt (take i xs) name M) → IsNever (IsAt xs name M)
  never_all xs i past never = subst (λ zs. IsNever (IsAt zs name M)) (take_all i xs past) never

  pub first_at : (xs : List X) (i : ℕ) (x : X) → slice_get xs i ≡ Some x → IsNever (IsAt (take i xs) name M) → M x → IsFirst (IsAt xs name M) (name x)
  first_at xs i x here before m =
      subst (λ zs. IsFirst (IsAt zs name M) (name x)) (sym (split_at xs i x here))
      (first_append_left name M (take i xs ++ x ∷ []) (drop (suc i) xs) (name x) (first_append_right name M (take i xs) (x ∷ []) (name x) before (first_one name M x m)))

-- going on from the rows before
module _ {S X P : Type 0} (f : S → List X) (name : X → P) (M : X → Type 0) where
  pub never_row_more : (ss : List S) (i : ℕ) (s : S) → slice_get ss i ≡ Some s → IsNever (IsAt (joined f (take i ss)) name M) → IsNever (IsAt (f s) name M) → IsNever (IsAt (joined f (take (i + 1) ss)) name M)
  never_row_more ss i s here before own =
      subst (λ zs. IsNever (IsAt zs name M)) (sym (joined_more f ss i s here)) (never_append name M (joined f (take i ss)) (f s) before own)

  pub never_row_all : (ss : List S) (i : ℕ) → length ss ≤ i → IsNever (IsAt (joined f (take i ss)) name M) → IsNever (IsAt (joined f ss) name M)
  never_row_all ss i past never = subst (λ zs. IsNever (IsAt (joined f zs) name M)) (take_all i ss past) never

  pub first_row : (ss : List S) (i : ℕ) (s : S) (p : P) → slice_get ss i ≡ Some s → IsNever (IsAt (joined f (take i ss)) name M) → IsFirst (IsAt (f s) name M) p → IsFirst (IsAt (joined f ss) name M) p
  first_row ss i s p here before own =
      subst (λ zs. IsFirst (IsAt zs name M) p) (sym (joined_split f ss i s here))
      (first_append_left name M (joined f (take i ss) ++ f s) (joined f (drop (suc i) ss)) p (first_append_right name M (joined f (take i ss)) (f s) p before own))
