-- What a header's names are to two nets.
use Rattle.std.proofs.Common.{◌≡◌, ◌≢◌, ℕ, zero, suc, ◌+◌, ◌<◌, Bool, true, false, cond, List, ◌∷◌, [], length, drop, get_or, slice_get, Option, Some, None, refl, sym, ◌∙◌, ap, subst, arith}
use Rattle.std.specs.Prelude.{◌&&◌, ◌||◌, not, is_some, IfSome, IfNone, IsSomeAnd}
use Rattle.std.specs.List.{All, Contains, find}
use Rattle.std.proofs.lemmas.List.{drop_more}
use Rattle.std.proofs.lemmas.Option.{slice_get_within, get_or_from_slice_get, none-some}
use Rattle.circuit_theory.proofs.Lists.{Contains-map, of_at, filter_test, Contains-filter}
use Rattle.base_tables.specs.Table.{is_among as is_entry}
use Rattle.base_tables.proofs.TableLemmas.{key_at, is_among-at, is_among-Contains}
use Rattle.flat_net.specs.declared.parts.LatchAt.{LatchAt}
use Rattle.flat_net.specs.View.{NetView}
use Rattle.flat_net.proofs.Places.{All-at}
use Rattle.sec_setup.specs.ports.name_tables.Names.{latch_names}
use Rattle.job_circuit.specs.replay.replay_header.Header.{is_input, is_known, is_opened, opened, FitsBoth}
use Rattle.job_circuit.proofs.replay.replay_header.Tests.{no_true_false, and_both, not_true}

-- the rest of a list begins with the element at the place
pub find_more : {X : Type 0} (test : X → Bool) (xs : List X) (i : ℕ) (x : X) → slice_get xs i ≡ Some x → find test (drop i xs) ≡ cond (test x) (Some x) (find test (drop (i + 1) xs))
find_more {X} test xs i x at = ap (find test) (drop_more xs i x (slice_get_within xs i x at) ∙ ap (λ (y : X). y ∷ drop (i + 1) xs) (get_or_from_slice_get xs i x x at))

-- whether a latch of the name is found
pub latch_test : (n : NetView) (name : List ℕ) (o : Option ℕ) → IfSome o (λ j. IsSomeAnd (slice_get n.latches j) (λ (l : LatchAt). l.name ≡ name)) → IfNone o (All (λ (l : LatchAt). l.name ≢ name) n.latches) →
    is_some o ≡ is_entry (latch_names n) name
latch_test n name None here absent = go (is_entry (latch_names n) name) refl
  where
    go : (b : Bool) → is_entry (latch_names n) name ≡ b → false ≡ is_entry (latch_names n) name
    go false e = sym e
    go true e =
        let at = is_among-at (latch_names n) name e in
        let l = key_at (λ (l : LatchAt). l.name) n.latches at.0 name at.1 in
        absurd (All-at (λ (l : LatchAt). l.name ≢ name) n.latches at.0 l.0 l.1 absent l.2)
latch_test n name (Some j) here absent = go (slice_get n.latches j) refl here
  where
    go : (o : Option LatchAt) → slice_get n.latches j ≡ o → IsSomeAnd o (λ (l : LatchAt). l.name ≡ name) → true ≡ is_entry (latch_names n) name
    go None e h = absurd h
    go (Some l) e h = sym (is_among-Contains (latch_names n) name (subst (Contains (latch_names n)) h (Contains-map (λ (l : LatchAt). l.name) n.latches l (of_at n.latches j l e))))

-- an opened name stands in the header, and is no input
pub opened_in_header : (a b : NetView) (header : List (List ℕ)) (name : List ℕ) → Contains (opened a b header) name → Contains header name
opened_in_header a b header name h =
    let both = and_both (is_entry header name) (not (is_input a b name)) (filter_test (is_opened a b header) (latch_names a) name h) in
    let at = is_among-at header name both.0 in
    of_at header at.0 name at.1

-- what a search that finds none says
find_none : {X : Type 0} (test : X → Bool) (xs : List X) → find test xs ≡ None → (x : X) → Contains xs x → test x ≡ false
find_none test [] e x h = absurd (omega (arith, h.1))
find_none {X} test (y ∷ xs) e x h = go (test y) refl h.0 h.1 h.2 (λ k l. find_none test xs k x l)
  where
    go : (b : Bool) → test y ≡ b → (i : ℕ) → i < length (y ∷ xs) → get_or (y ∷ xs) i x ≡ x → (find test xs ≡ None → Contains xs x → test x ≡ false) → test x ≡ false
    go true q i l at later = absurd (none-some y (sym (sym (ap (λ b. cond b (Some y) (find test xs)) q) ∙ e)))
    go false q i l at later = pick i l at
      where
        pick : (i : ℕ) → i < length (y ∷ xs) → get_or (y ∷ xs) i x ≡ x → test x ≡ false
        pick zero l at = ap test (sym at) ∙ q
        pick (suc i) l at = later (sym (ap (λ b. cond b (Some y) (find test xs)) q) ∙ e) (i, omega arith, at)

-- where the header fits both, its names that are no inputs are latches of both
pub opened_of_both : (a b : NetView) (header : List (List ℕ)) → FitsBoth a b header → (name : List ℕ) → Contains (opened a b header) name → Contains (latch_names a) name × Contains (latch_names b) name
opened_of_both a b header fits name h =
    let passes = filter_test (is_opened a b header) (latch_names a) name h in
    let both = and_both (is_entry header name) (not (is_input a b name)) passes in
    let known : not (is_known a b name) ≡ false = find_none (λ n. not (is_known a b n)) header fits.known name (opened_in_header a b header name h) in
    let latches = and_both (is_entry (latch_names a) name) (is_entry (latch_names b) name) (latch_of (is_input a b name) (is_entry (latch_names a) name && is_entry (latch_names b) name) (not_true (is_input a b name) both.1) (not_false (is_known a b name) known)) in
    let other = is_among-at (latch_names b) name latches.1 in
    (Contains-filter (is_opened a b header) (latch_names a) name h, of_at (latch_names b) other.0 name other.1)
  where
    not_false : (x : Bool) → not x ≡ false → x ≡ true
    not_false true e = refl
    not_false false e = absurd (no_true_false e)

    latch_of : (x y : Bool) → x ≡ false → (x || y) ≡ true → y ≡ true
    latch_of x y off e = sym (ap (λ z. z || y) off) ∙ e
