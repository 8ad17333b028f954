-- Names of stimuli, of inputs and of latches, in tables.
use Rattle.std.proofs.Common.{◌≡◌, ◌+◌, ◌<◌, ℕ, Bool, true, false, cond, List, [], ◌∷◌, ◌++◌, length, take, drop, get_or, slice_get, Some, None, inl, inr, ◌⊎◌, refl, sym, ◌∙◌, ap, subst, arith}
use Rattle.std.specs.Prelude.{not, ◌&&◌, ◌||◌, ◌==◌, bytes_eq, Contains, if◌then◌else◌}
use Rattle.std.proofs.lemmas.List.{drop_more}
use Rattle.std.proofs.lemmas.Option.{slice_get_within, slice_get-get_or, get_or_from_slice_get}
use Rattle.circuit_theory.specs.Names.{same_name, is_among}
use Rattle.circuit_theory.specs.Interface.{first_missing}
use Rattle.circuit_theory.proofs.Lists.{Contains-cases}
use Rattle.circuit_theory.proofs.Numbers.{is_among-sound, slice_get-map}
use Rattle.base_tables.specs.Table.{is_among as is_entry, AreDistinct}
use Rattle.base_tables.proofs.TableLemmas.{key_at, not_before, take-push}
use Rattle.flat_net.specs.declared.parts.Port.{Port}
use Rattle.flat_net.specs.declared.parts.LatchAt.{LatchAt}
use Rattle.flat_net.specs.declared.parts.Driver.TheVariants as driver
use Rattle.flat_net.specs.View.{NetView}
use Rattle.flat_net.specs.Sound.{IsSound}
use Rattle.sec_setup.specs.ports.name_tables.Names.{input_names, latch_names}

-- the element that a loop is at
pub item_at : {X : Type 0} (xs ys : List X) (i : ℕ) (x : X) → ys ≡ xs → i < length ys → x ≡ get_or ys i x → slice_get xs i ≡ Some x
item_at xs ys i x same h is = ap (λ zs. slice_get zs i) (sym same) ∙ (slice_get-get_or ys i x h ∙ ap Some (sym is))

-- both tests of names are one
same_test : (xs ys : List ℕ) → same_name xs ys ≡ bytes_eq xs ys
same_test [] [] = refl
same_test [] (y ∷ ys) = refl
same_test (x ∷ xs) [] = refl
same_test (x ∷ xs) (y ∷ ys) = ap (λ b. (x == y) && b) (same_test xs ys)

among_entries : (names : List (List ℕ)) (name : List ℕ) → is_among names name ≡ is_entry names name
among_entries [] name = refl
among_entries (x ∷ xs) name = ap (λ b. b || is_among xs name) (same_test name x) ∙ ap (λ b. bytes_eq name x || b) (among_entries xs name)

-- the rest of the names begin with this one
pub missing_more : (names others : List (List ℕ)) (i : ℕ) (name : List ℕ) → slice_get names i ≡ Some name →
    first_missing (drop i names) others ≡ cond (is_entry others name) (first_missing (drop (i + 1) names) others) (Some name)
missing_more names others i name at =
    ap (λ (ns : List (List ℕ)). first_missing ns others) (drop_more names i name (slice_get_within names i name at) ∙ ap (λ (m : List ℕ). m ∷ drop (i + 1) names) (get_or_from_slice_get names i name name at))
    ∙ turned (is_entry others name) (among_entries others name)
  where
    turned : (b : Bool) → is_among others name ≡ b → first_missing (name ∷ drop (i + 1) names) others ≡ cond b (first_missing (drop (i + 1) names) others) (Some name)
    turned true e = ap (λ (t : Bool). cond (not t) (Some name) (first_missing (drop (i + 1) names) others)) e
    turned false e = ap (λ (t : Bool). cond (not t) (Some name) (first_missing (drop (i + 1) names) others)) e

-- where no name is missing, each stands among the others
pub missing_none : (names others : List (List ℕ)) → first_missing names others ≡ None → (name : List ℕ) → Contains names name → Contains others name
missing_none [] others e name h = absurd (omega (arith, h.1))
missing_none (n ∷ names) others e name h = go (is_among others n) refl (λ k. missing_none names others k name)
  where
    no_some : {x : List ℕ} → Some x ≡ None → ⊥
    no_some q = cc

    go : (b : Bool) → is_among others n ≡ b → (first_missing names others ≡ None → Contains names name → Contains others name) → Contains others name
    go true q later = pick (Contains-cases n name names h) (later (sym (ap (λ b. cond (not b) (Some n) (first_missing names others)) q) ∙ e))
      where
        pick : (n ≡ name) ⊎ Contains names name → (Contains names name → Contains others name) → Contains others name
        pick (inl same) rest = subst (Contains others) same (is_among-sound others n q)
        pick (inr k) rest = rest k
    go false q later = absurd (no_some (sym (ap (λ b. cond (not b) (Some n) (first_missing names others)) q) ∙ e))

-- no two inputs have one name
pub inputs_distinct : (n : NetView) → IsSound n → AreDistinct (input_names n)
inputs_distinct n sound i j name first second =
    let a = key_at (λ (p : Port). p.name) n.inputs i name first in
    let b = key_at (λ (p : Port). p.name) n.inputs j name second in
    let one = sound.inputs i a.0 a.1 in
    let other = sound.inputs j b.0 b.1 in
    let same : a.0.signal.0 ≡ b.0.signal.0 = sound.distinct a.0.signal.0 b.0.signal.0 name (one.named ∙ ap Some a.2) (other.named ∙ ap Some b.2) in
    input_is (sym one.owner ∙ ap (slice_get n.drivers) same ∙ other.owner)
  where
    input_is : Some (driver.Input i) ≡ Some (driver.Input j) → i ≡ j
    input_is e = cc

-- no two latches have one name
pub latches_distinct : (n : NetView) → IsSound n → AreDistinct (latch_names n)
latches_distinct n sound i j name first second =
    let a = key_at (λ (l : LatchAt). l.name) n.latches i name first in
    let b = key_at (λ (l : LatchAt). l.name) n.latches j name second in
    let one = sound.latches i a.0 a.1 in
    let other = sound.latches j b.0 b.1 in
    let same : a.0.out.0 ≡ b.0.out.0 = sound.distinct a.0.out.0 b.0.out.0 name (one.named ∙ ap Some a.2) (other.named ∙ ap Some b.2) in
    latch_is (sym one.owner ∙ ap (slice_get n.drivers) same ∙ other.owner)
  where
    latch_is : Some (driver.Latch i) ≡ Some (driver.Latch j) → i ≡ j
    latch_is e = cc

-- the name of a latch
pub latch_name_at : (n : NetView) (i : ℕ) (l : LatchAt) → slice_get n.latches i ≡ Some l → slice_get (latch_names n) i ≡ Some l.name
latch_name_at n i l at = slice_get-map (λ (l : LatchAt). l.name) n.latches i l at

-- a table that has the names so far gets the next one
pub names_more : (names table after : List (List ℕ)) (i : ℕ) (name : List ℕ) → AreDistinct names → slice_get names i ≡ Some name → table ≡ take i names →
    after ≡ (if is_entry table name then table else table ++ name ∷ []) → after ≡ take (i + 1) names
names_more names table after i name distinct at is grown =
    grown ∙ ap (λ b. if b then table else table ++ name ∷ []) (ap (λ t. is_entry t name) is ∙ not_before names i name distinct at)
    ∙ ap (λ t. t ++ name ∷ []) is ∙ take-push names i name at
