-- The table with one key more.
use Rattle.std.proofs.Common.{◌≡◌, ◌∙◌, ◌+◌, ◌<◌, ◌^◌, ℕ, List, [], ◌∷◌, ◌++◌, length, set, Contains, sym, ap, subst, arith}
use Rattle.base_tables.specs.unique_table.Places.{IsFree, IsTable}
use Rattle.base_tables.proofs.unique_table.Elements.{put_at}
use Rattle.base_tables.proofs.unique_table.Filling.{table-put}
use Rattle.base_tables.proofs.unique_table.table.UniqueTable.put_free.Goals as goal

pub overflow_cast-number : goal.overflow_cast-number
overflow_cast-number g c = omega (arith, c.len-number.ensures, c.self.inside.keys.ok.0, c.self.invariant.few)

pub overflow_add-number : goal.overflow_add-number
overflow_add-number g c = let same = ap length c.self.view_is in omega (arith, c.len-number.ensures, c.self.inside.keys.ok.0, c.requires.room, same)

pub index_mut-requires : goal.index_mut-requires
index_mut-requires g c = omega (arith, c.in-Some.ensures.within, c.as_slice.ensures.len)

pub invariant_of-self : goal.invariant_of-self
invariant_of-self g c = subst (λ (ks : List g.row.K.Denot). IsTable g.K.Key.place_at c.self.inside.tries ks c.self.inside.slots.items) (sym c.in_err-push.ensures.items) c.self.invariant

pub invariant_of-self-2 : goal.invariant_of-self-2
invariant_of-self-2 g c =
    let keys = c.self.inside.keys.items in
    let there : IsFree (g.K.Key.place_at c.args.key) c.self.inside.tries c.self.inside.slots.items c.in-Some.place =
    subst (λ (slots : List ℕ). IsFree (g.K.Key.place_at c.args.key) c.self.inside.tries slots c.in-Some.place) c.as_slice.ensures.value c.in-Some.ensures in
    let new : Contains c.self.inside.keys.items c.args.key → ⊥ = subst (λ (ks : List g.row.K.Denot). Contains ks c.args.key → ⊥) (sym c.self.view_is) c.requires.new in
    let room : length c.self.inside.keys.items + 1 < 2 ^ 32 = subst (λ (ks : List g.row.K.Denot). length ks + 1 < 2 ^ 32) (sym c.self.view_is) c.requires.room in
    let count : c.len-number.result ≡ length c.self.inside.keys.items = omega (arith, c.len-number.ensures, c.self.inside.keys.ok.0) in
    let grown : c.push.new.self.items ≡ c.self.inside.keys.items ++ c.args.key ∷ [] = c.in_ok-push.ensures.items in
    let made = table-put g.K.Key.place_at c.self.inside.tries keys c.self.inside.slots.items c.args.key c.in-Some.place c.self.invariant there new room in
    subst (λ (ks : List g.row.K.Denot). IsTable g.K.Key.place_at c.self.inside.tries ks (set c.self.inside.slots.items c.in-Some.place (c.len-number.result + 1))) (sym grown)
    (subst (λ (n : ℕ). IsTable g.K.Key.place_at c.self.inside.tries (c.self.inside.keys.items ++ c.args.key ∷ []) (set c.self.inside.slots.items c.in-Some.place (n + 1))) (sym count) made)

pub returns-clause-here : goal.returns-clause-here
returns-clause-here g c = put_at c.self.inside.keys.items c.push.new.self.items c.args.key c.len-number.result c.in_ok-push.ensures.items (omega (arith, c.len-number.ensures, c.self.inside.keys.ok.0))

pub returns-clause-ok : goal.returns-clause-ok
returns-clause-ok g c = c.in_ok-push.ensures.items ∙ ap (λ (ks : List g.row.K.Denot). ks ++ c.args.key ∷ []) c.self.view_is
