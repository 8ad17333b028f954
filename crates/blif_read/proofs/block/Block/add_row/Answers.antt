use Rattle.std.proofs.Common.{◌≡◌, ◌∙◌, ℕ, List, map, subst, sym, true}
use Rattle.blif_read.specs.blif_lines.sec_base.Cover.{IsCube}
use Rattle.blif_read.specs.Rows.{is_row, places_of}
use Rattle.blif_read.proofs.RowFacts.{cube_of_row}
use Rattle.blif_read.proofs.block.Block.add_row.Goals as goal

pub one_row-requires : goal.one_row-requires
one_row-requires c =
    let fits : is_row c.width-width.result (map (λ t. t.now) c.args.tokens.now) ≡ true = cc in
    let same : places_of (map (λ t. t.now) c.args.tokens.now) ≡ c.in_ok-row.row = sym (c.in_ok-row.ensures ∙ c.places_of.ensures) in
    let P : List ℕ → Type 0 = λ row. IsCube c.width-width.result row in
    subst P same (cube_of_row c.width-width.result (map (λ t. t.now) c.args.tokens.now) fits)

pub push_row-requires : goal.push_row-requires
push_row-requires c =
    let fits : is_row c.args.self.now.cover.width (map (λ t. t.now) c.args.tokens.now) ≡ true = cc in
    let same : places_of (map (λ t. t.now) c.args.tokens.now) ≡ c.in_ok-row.row = sym (c.in_ok-row.ensures ∙ c.places_of.ensures) in
    let P : List ℕ → Type 0 = λ row. IsCube c.args.self.now.cover.width row in
    subst P same (cube_of_row c.args.self.now.cover.width (map (λ t. t.now) c.args.tokens.now) fits)
