-- Names, and the hashes of the first of them.
use Rattle.std.proofs.Common.{◌≡◌, ℕ, ◌+◌, ◌<◌, ◌≤◌, ◌^◌, ◌⊎◌, inl, inr, Bool, true, false, cond, List, [], ◌∷◌, ◌++◌, length, slice_get, Option, Some, None, Contains, refl, sym, ap, ◌∙◌, true≢false, arith, ◌==◌, length-append}
use Rattle.std.specs.Str.{bytes_eq}
use Rattle.std.proofs.lemmas.Bool.{cases_order}
use Rattle.std.proofs.lemmas.Option.{none-some, same_Some, slice_get_within}
use Rattle.std.proofs.lemmas.Slice.Eq.{bytes_eq-Decides}
use Rattle.std.specs.Prelude.{Result, Ok, Err, IfNone, OnOk, if◌then◌else◌}
use Rattle.std.proofs.lemmas.Bool.Decides.{Decides-eqb}
use Rattle.base_tables.specs.unique_table.Places.{StandOnce, IsWith}
use Rattle.base_tables.specs.Hashed.{hash_of, IsNameTable}
use Rattle.base_tables.specs.Table.{is_among}
use Rattle.base_tables.proofs.Appended.{at-left, at-either, at-one, at-is_among, distinct-push, at-last}
use Rattle.base_tables.proofs.TableLemmas.{Contains_not-is_among}
use Rattle.base_tables.proofs.unique_table.Elements.{at_of, of_at}

module _ (names : List (List ℕ)) (hashes : List (ℕ × ℕ)) (number : List ℕ → Option ℕ) (table : IsNameTable names hashes number) (name : List ℕ) where
  -- a name that is none of the first, and has no number
  pub not-named : number name ≡ None → ((i : ℕ) → i < length hashes → slice_get names i ≡ Some name → ⊥) → Contains names name → ⊥
  not-named none other there = let at = at_of names name there in by at.0 at.1 (behind at.0)
    where
      behind : (i : ℕ) → (i < length hashes) ⊎ (length hashes ≤ i)
      behind i = by_order (cases_order i (length hashes))
        where
          by_order : (i ≡ length hashes) ⊎ ((i < length hashes) ⊎ (length hashes < i)) → (i < length hashes) ⊎ (length hashes ≤ i)
          by_order (inl e) = inr (omega (arith, e))
          by_order (inr (inl below)) = inl below
          by_order (inr (inr above)) = inr (omega (arith, above))

      by : (i : ℕ) → slice_get names i ≡ Some name → (i < length hashes) ⊎ (length hashes ≤ i) → ⊥
      by i here (inl below) = other i below here
      by i here (inr late) = none-some i (sym none ∙ table.later name i here late)

  -- it is none of the first where its hash isn't among theirs
  pub no-hash : (Contains hashes (hash_of name) → ⊥) → (i : ℕ) → i < length hashes → slice_get names i ≡ Some name → ⊥
  no-hash absent i below here = absent (of_at hashes i (hash_of name) (table.hashed name i here below))

  -- nor where another name has it
  pub other-name : (id : ℕ) (there : List ℕ) → StandOnce hashes → slice_get hashes id ≡ Some (hash_of name) → slice_get names id ≡ Some there → bytes_eq there name ≡ false → (i : ℕ) → i < length hashes → slice_get names i ≡ Some name → ⊥
  other-name id there once at is differ i below here =
      let same : i ≡ id = once i id (hash_of name) (table.hashed name i here below) at in
      let one : there ≡ name = same_Some there name (sym is ∙ ap (slice_get names) (sym same) ∙ here) in
      true≢false (sym ((bytes_eq-Decides there name).1 one) ∙ differ)

  module _ (new : is_among names name ≡ false) (room : length names + 1 < 2 ^ 32) where
    longer : length (names ++ name ∷ []) ≡ length names + 1
    longer = length-append names (name ∷ [])

    -- one name more whose hash goes last
    pub early-named : (more : List (ℕ × ℕ)) → length hashes ≡ length names → more ≡ hashes ++ hash_of name ∷ [] → IsNameTable (names ++ name ∷ []) more number
    early-named more all put = record {
      few = omega (arith, room, longer);
      once = distinct-push names name table.once new;
      first = omega (arith, all, size, longer);
      hashed = λ q i h below. by q i (at-either names (name ∷ []) i q h);
      here = λ q i h. at-left names (name ∷ []) i q (table.here q i h);
      later = λ q i h behind. absurd (omega (arith, slice_get_within (names ++ name ∷ []) i q h, longer, size, all, behind));
    }
      where
        size : length more ≡ length hashes + 1
        size = ap length put ∙ length-append hashes (hash_of name ∷ [])

        by : (q : List ℕ) (i : ℕ) → (slice_get names i ≡ Some q) ⊎ ((j : ℕ) × (i ≡ length names + j) × (slice_get (name ∷ []) j ≡ Some q)) → slice_get more i ≡ Some (hash_of q)
        by q i (inl h) = ap (λ hs. slice_get hs i) put ∙ at-left hashes (hash_of name ∷ []) i (hash_of q) (table.hashed q i h (omega (arith, slice_get_within names i q h, all)))
        by q i (inr (j, e, h)) =
            let one = at-one name q j h in
            at-last hashes more (hash_of name) i put (omega (arith, e, one.0, all)) ∙ ap (λ n. Some (hash_of n)) one.1

    -- one name more that has a number
    pub late-named : (more : List ℕ → Option ℕ) → ((q : List ℕ) → more q ≡ cond (bytes_eq name q) (Some (length names)) (number q)) → IsNameTable (names ++ name ∷ []) hashes more
    late-named more told = record {
      few = omega (arith, room, longer);
      once = distinct-push names name table.once new;
      first = omega (arith, table.first, longer);
      hashed = λ q i h below. by q i below (at-either names (name ∷ []) i q h);
      here = λ q i h. there q i h (bytes_eq name q) refl;
      later = λ q i h behind. back q i behind (at-either names (name ∷ []) i q h);
    }
      where
        known : (q : List ℕ) → bytes_eq name q ≡ true → more q ≡ Some (length names)
        known q e = told q ∙ ap (λ b. cond b (Some (length names)) (number q)) e

        other : (q : List ℕ) → bytes_eq name q ≡ false → more q ≡ number q
        other q e = told q ∙ ap (λ b. cond b (Some (length names)) (number q)) e

        there : (q : List ℕ) (i : ℕ) → more q ≡ Some i → (b : Bool) → bytes_eq name q ≡ b → slice_get (names ++ name ∷ []) i ≡ Some q
        there q i h true e =
            let at : length names ≡ i = same_Some (length names) i (sym (known q e) ∙ h) in
            at-last names (names ++ name ∷ []) name i refl (sym at) ∙ ap Some ((bytes_eq-Decides name q).0 e)
        there q i h false e = at-left names (name ∷ []) i q (table.here q i (sym (other q e) ∙ h))

        by : (q : List ℕ) (i : ℕ) → i < length hashes → (slice_get names i ≡ Some q) ⊎ ((j : ℕ) × (i ≡ length names + j) × (slice_get (name ∷ []) j ≡ Some q)) → slice_get hashes i ≡ Some (hash_of q)
        by q i below (inl h) = table.hashed q i h below
        by q i below (inr (j, e, h)) = absurd (omega (arith, e, below, table.first))

        apart : (q : List ℕ) (i : ℕ) → slice_get names i ≡ Some q → (b : Bool) → bytes_eq name q ≡ b → bytes_eq name q ≡ false
        apart q i h true e = absurd (true≢false (sym (at-is_among names name i (h ∙ ap Some (sym ((bytes_eq-Decides name q).0 e)))) ∙ new))
        apart q i h false e = e

        back : (q : List ℕ) (i : ℕ) → length hashes ≤ i → (slice_get names i ≡ Some q) ⊎ ((j : ℕ) × (i ≡ length names + j) × (slice_get (name ∷ []) j ≡ Some q)) → more q ≡ Some i
        back q i behind (inl h) = other q (apart q i h (bytes_eq name q) refl) ∙ table.later q i h behind
        back q i behind (inr (j, e, h)) =
            let one = at-one name q j h in
            let place : length names ≡ i = omega (arith, e, one.0) in
            known q ((bytes_eq-Decides name q).1 one.1) ∙ ap Some place

-- what a search doesn't find
pub not-found : {P : Type 0} (found : Option ℕ) → ((d : ℕ) → found ≡ Some d → ⊥) → IfNone found P → P
not-found None missing h = h
not-found (Some d) missing h = absurd (missing d refl)

-- what has the same bytes is the name
pub same-name : (names seen : List (List ℕ)) (id : ℕ) (there name : List ℕ) → names ≡ seen → slice_get names id ≡ Some there → bytes_eq there name ≡ true → slice_get seen id ≡ Some name
same-name names seen id there name same at is = ap (λ ns. slice_get ns id) (sym same) ∙ at ∙ ap Some ((bytes_eq-Decides there name).0 is)

-- a hash that is put gets the next number or one that is given
module _ (hashes new : List (ℕ × ℕ)) (hash : ℕ × ℕ) (number id : ℕ) (all : length hashes ≡ id) (at : slice_get new number ≡ Some hash) where
  pub hash-put : IsWith hashes hash new → (number == id) ≡ true → (length hashes ≡ id) × (new ≡ hashes ++ hash ∷ [])
  hash-put (inl (there, same)) last =
      absurd (omega (arith, slice_get_within hashes number hash (ap (λ hs. slice_get hs number) (sym same) ∙ at), (Decides-eqb number id).0 last, all))
  hash-put (inr (absent, more)) last = (all, more)

  pub hash-kept : IsWith hashes hash new → (number == id) ≡ false → new ≡ hashes
  hash-kept (inl (there, same)) other = same
  hash-kept (inr (absent, more)) other = absurd (by (at-either hashes (hash ∷ []) number hash (ap (λ hs. slice_get hs number) (sym more) ∙ at)))
    where
      by : (slice_get hashes number ≡ Some hash) ⊎ ((j : ℕ) × (number ≡ length hashes + j) × (slice_get (hash ∷ []) j ≡ Some hash)) → ⊥
      by (inl h) = absent (of_at hashes number hash h)
      by (inr (j, e, h)) =
          let last : number ≡ id = omega (arith, e, (at-one hash hash j h).0, all) in
          true≢false (sym ((Decides-eqb number id).1 last) ∙ other)

-- what becomes of a table with one name more, where it is new
module _ {V E : Type 0} (r : Result V E) (old new : List (List ℕ)) (name : List ℕ) (fresh : is_among old name ≡ false) where
  pub put-known : OnOk r (new ≡ old ++ name ∷ []) → OnOk r (Contains old name → new ≡ old)
  put-known put = by r put
    where
      by : (s : Result V E) → OnOk s (new ≡ old ++ name ∷ []) → OnOk s (Contains old name → new ≡ old)
      by (Err e) h = tt
      by (Ok v) h = λ known. absurd (Contains_not-is_among old name fresh known)

  pub put-added : OnOk r (new ≡ old ++ name ∷ []) → OnOk r ((Contains old name → ⊥) → new ≡ old ++ name ∷ [])
  put-added put = by r put
    where
      by : (s : Result V E) → OnOk s (new ≡ old ++ name ∷ []) → OnOk s ((Contains old name → ⊥) → new ≡ old ++ name ∷ [])
      by (Err e) h = tt
      by (Ok v) h = λ absent. h

  pub put-either : OnOk r (new ≡ old ++ name ∷ []) → OnOk r (new ≡ (if is_among old name then old else old ++ name ∷ []))
  put-either put = by r put
    where
      by : (s : Result V E) → OnOk s (new ≡ old ++ name ∷ []) → OnOk s (new ≡ (if is_among old name then old else old ++ name ∷ []))
      by (Err e) h = tt
      by (Ok v) h = h ∙ ap (λ (b : Bool). if b then old else old ++ name ∷ []) (sym fresh)
