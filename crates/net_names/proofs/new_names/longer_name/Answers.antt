use Rattle.std.proofs.Common.{◌≡◌, ◌<◌, ℕ, Bool, true, false, List, length, slice_get, Some, refl, arith}
use Rattle.std.proofs.lemmas.Option.{slice_get_within}
use Rattle.base_tables.specs.Table.{is_among}
use Rattle.base_tables.proofs.TableLemmas.{is_among-at}
use Rattle.net_names.proofs.new_names.longer_name.Goals as goal

not_there : (names : List (List ℕ)) (name : List ℕ) → ((i : ℕ) (n : List ℕ) → slice_get names i ≡ Some n → length n < length name) → is_among names name ≡ false
not_there names name longer = by (is_among names name) refl
  where
    by : (b : Bool) → is_among names name ≡ b → is_among names name ≡ false
    by false e = e
    by true e = let at = is_among-at names name e in let low = longer at.0 name at.1 in absurd (omega (arith, low))

pub returns : goal.returns
returns c =
    not_there c.args.names.now c.loop-id.name.items
    (λ i n at. (let low = slice_get_within c.args.names.now i n at in c.loop-id.invariant i n at (let end = c.loop-id-test.false in let len = c.len-id-end.ensures in omega (arith, low, end, len))))
