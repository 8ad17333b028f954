use Rattle.std.proofs.Common.{ℕ, List, ◌||◌, ◌∙◌, ap, ap₂, refl}
use Rattle.std.specs.List.{list_any}
use Rattle.base_tables.specs.Table.{is_among}
use Rattle.elaborate.specs.Scopes.{is_long_behind, exceeds}
use Rattle.elaborate.proofs.Tabled.{formals_are}
use Rattle.elaborate.proofs.tables.formals_of.Goals as goal

pub returns : goal.returns
returns c =
    formals_are c.args.model.now (record { inputs = c.add_all-2.new.table; outputs = c.add_all-3.new.table; room = c.room_for.result }) c.add_all.new.table c.add_all-2.new.table c.room_for-room.result c.room_for-room-2.result
    (λ n. c.in_ok-add_all.ensures n ∙ ap₂ (λ (a b : List (List ℕ)). is_among a n || is_among b n) c.new-inputs.ensures c.as_slice.ensures)
    (λ n. c.in_ok-add_all-2.ensures n ∙ ap (λ (b : List (List ℕ)). is_among c.add_all.new.table n || is_among b n) c.as_slice-2.ensures)
    refl
    (λ n. c.in_ok-add_all-3.ensures n ∙ ap₂ (λ (a b : List (List ℕ)). is_among a n || is_among b n) c.new-outputs.ensures c.as_slice-3.ensures)
    (λ p. c.room_for-room.ensures p ∙ ap (λ (b : List (List ℕ)). exceeds p 0 || list_any (is_long_behind p) b) c.as_slice-4.ensures)
    (λ p. c.room_for-room-2.ensures p ∙ ap (λ (b : List (List ℕ)). exceeds p c.room_for-room.result || list_any (is_long_behind p) b) c.as_slice-5.ensures)
    (λ p. c.room_for.ensures p ∙ ap (λ (b : List (List ℕ)). exceeds p c.room_for-room-2.result || list_any (is_long_behind p) b) c.as_slice-6.ensures)
