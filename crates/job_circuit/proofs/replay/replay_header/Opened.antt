-- The latches that are opened, latch by latch.
use Rattle.std.proofs.Common.{◌≡◌, ℕ, ◌+◌, Bool, true, false, cond, List, [], ◌∷◌, ◌++◌, take, slice_get, Some, refl, sym, ◌∙◌, ap, subst, arith}
use Rattle.std.specs.Prelude.{if◌then◌else◌}
use Rattle.std.specs.List.{Contains, filter}
use Rattle.circuit_theory.proofs.Lists.{Contains-filter, at_of, of_at}
use Rattle.base_tables.specs.Table.{is_among as is_entry}
use Rattle.base_tables.proofs.TableLemmas.{is_among-at, slice_get-take}
use Rattle.flat_net.specs.Sound.{IsSound}
use Rattle.flat_net.specs.View.{NetView}
use Rattle.flat_net.proofs.PlaceLists.{filter-take}
use Rattle.sec_setup.specs.ports.name_tables.Names.{latch_names}
use Rattle.sec_setup.proofs.ports.name_tables.Names.{latches_distinct}
use Rattle.job_circuit.specs.replay.replay_header.Header.{is_opened}

-- a latch more that is opened or not
pub opened_next : (a b : NetView) (header : List (List ℕ)) (i : ℕ) (name : List ℕ) (names : List (List ℕ)) → slice_get (latch_names a) i ≡ Some name → is_opened a b header name ≡ false → names ≡ filter (is_opened a b header) (take i (latch_names a)) →
    names ≡ filter (is_opened a b header) (take (i + 1) (latch_names a))
opened_next a b header i name names at shut is =
    is ∙ sym (filter-take (is_opened a b header) (latch_names a) i name at
    ∙ ap (λ t. cond t (filter (is_opened a b header) (take i (latch_names a)) ++ name ∷ []) (filter (is_opened a b header) (take i (latch_names a)))) shut)

pub opened_more : (a b : NetView) (sound : IsSound a) (header : List (List ℕ)) (i : ℕ) (name : List ℕ) (names after : List (List ℕ)) → slice_get (latch_names a) i ≡ Some name → is_opened a b header name ≡ true →
    names ≡ filter (is_opened a b header) (take i (latch_names a)) → after ≡ (if is_entry names name then names else names ++ name ∷ []) → after ≡ filter (is_opened a b header) (take (i + 1) (latch_names a))
opened_more a b sound header i name names after at open_is is grown =
    grown ∙ (ap (λ t. cond t names (names ++ name ∷ [])) fresh ∙ (ap (λ (ns : List (List ℕ)). ns ++ name ∷ []) is
    ∙ sym (filter-take (is_opened a b header) (latch_names a) i name at
    ∙ ap (λ t. cond t (filter (is_opened a b header) (take i (latch_names a)) ++ name ∷ []) (filter (is_opened a b header) (take i (latch_names a)))) open_is)))
  where
    twice : Contains names name → ⊥
    twice h =
        let before = Contains-filter (is_opened a b header) (take i (latch_names a)) name (subst (λ (ns : List (List ℕ)). Contains ns name) is h) in
        let there = at_of (take i (latch_names a)) name before in
        let low = slice_get-take i (latch_names a) there.0 name there.1 in
        let same = latches_distinct a sound there.0 i name low.1 at in
        omega (arith, low.0, same)

    fresh : is_entry names name ≡ false
    fresh = go (is_entry names name) refl
      where
        go : (b : Bool) → is_entry names name ≡ b → is_entry names name ≡ false
        go false e = e
        go true e = let place = is_among-at names name e in absurd (twice (of_at names place.0 name place.1))
