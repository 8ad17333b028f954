-- A name that is found keeps its number; a new one has the number behind those before.
use Rattle.std.proofs.Common.{◌≡◌, ◌∙◌, ℕ, zero, suc, false, List, [], ◌∷◌, ◌++◌, length, slice_get, Some, if◌then◌else◌, refl, sym, ap, subst, rules}
use Rattle.std.proofs.lemmas.Option.{none-some}
use Rattle.base_tables.specs.Table.{is_among}
use Rattle.elaborate.specs.State.{Keeps}
use Rattle.elaborate.proofs.numbers.number.Goals as goal

last_at : (names : List (List ℕ)) (name : List ℕ) → slice_get (names ++ name ∷ []) (length names) ≡ Some name
last_at [] name = refl
last_at (n ∷ names) name = last_at names name

keeps_more : (names : List (List ℕ)) (name : List ℕ) → Keeps names (names ++ name ∷ [])
keeps_more [] name k x h = absurd (none-some x h)
keeps_more (n ∷ names) name zero x h = h
keeps_more (n ∷ names) name (suc k) x h = keeps_more names name k x h

-- the table with the name behind the others, where it wasn't among them
added : (before now : List (List ℕ)) (name : List ℕ) → false ≡ is_among before name → now ≡ (if is_among before name then before else (before ++ name ∷ [])) → now ≡ before ++ name ∷ []
added before now name absent is = is ∙ ap (λ b. if b then before else (before ++ name ∷ [])) (sym absent)

pub returns-in-Some : goal.returns-in-Some
returns-in-Some c =
    let copied : c.in_ok-flat.flat.items ≡ c.args.prefix.now = search rules in
    let flat : c.as_slice-whole.result.now ≡ c.args.prefix.now ++ c.args.name.now = c.as_slice-whole.ensures.value ∙ c.in_ok-put.ensures.ok ∙ ap (λ word. word ++ c.args.name.now) copied in
    record { named = c.in-Some.ensures.here ∙ ap Some flat; keeps = λ k name h. h }

pub returns : goal.returns
returns c =
    let table = c.args.table.now in
    let whole = c.as_slice-whole.result.now in
    let copied : c.in_ok-flat.flat.items ≡ c.args.prefix.now = search rules in
    let flat : whole ≡ c.args.prefix.now ++ c.args.name.now = c.as_slice-whole.ensures.value ∙ c.in_ok-put.ensures.ok ∙ ap (λ word. word ++ c.args.name.now) copied in
    let now : c.add.new.self ≡ table ++ whole ∷ [] = added table c.add.new.self whole c.in_default.ensures.found c.in_ok-add.ensures.ok in
    record {
      named = subst (λ (names : List (List ℕ)). slice_get names c.len-number.result ≡ Some (c.args.prefix.now ++ c.args.name.now)) (sym now)
          (ap (slice_get (table ++ whole ∷ [])) c.len-number.ensures ∙ last_at table whole ∙ ap Some flat);
      keeps = subst (λ (names : List (List ℕ)). Keeps table names) (sym now) (keeps_more table whole);
    }
