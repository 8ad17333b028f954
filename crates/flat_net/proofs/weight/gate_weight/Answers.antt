-- The cover has a column for each fan-in.
use Rattle.std.proofs.Common.{◌≡◌, ◌∙◌, ◌+◌, ◌*◌, ◌^◌, ◌-◌, min, max, length, sym, ap, arith}
use Rattle.flat_net.proofs.Places.{cover_of-is, cover_within, cover_fits}
use Rattle.flat_net.specs.Weights.{gate_weight}
use Rattle.flat_net.proofs.Weighing.{saturated}
use Rattle.flat_net.proofs.weight.gate_weight.Goals as goal

pub cover-cover-requires : goal.cover-cover-requires
cover-cover-requires c = cover_within _ c.keeps.ensures.sound _ _ c.gate_of-gate.ensures

pub returns : goal.returns
returns c =
    let g = c.gate_of-gate.result.now in
    let cover = c.cover-cover.result.now in
    let covers = c.args.net.now.covers in
    let is = cover_of-is covers g cover c.cover-cover.ensures in
    let columns : c.width.result ≡ length g.fanins = c.width.ensures ∙ cover_fits _ c.keeps.ensures.sound _ _ c.gate_of-gate.ensures cover c.cover-cover.ensures in
    let rows : c.max-rows.result ≡ max 1 (length cover.rows) = omega (arith, c.max-rows.ensures, ap length c.rows.ensures) in
    let product : c.saturating_mul.result ≡ min (c.max-rows.result * (c.width.result + 1)) (2 ^ 64 - 1) = c.saturating_mul.ensures in
    c.saturating_add.ensures ∙ saturated (max 1 (length cover.rows)) (length g.fanins) c.max-rows.result c.width.result c.saturating_mul.result rows columns product
    ∙ ap (λ k. min (1 + max 1 (length k.rows) * (length g.fanins + 1)) (2 ^ 64 - 1)) (sym is)
    ∙ ap (λ o. min (gate_weight covers o) (2 ^ 64 - 1)) (sym c.gate_of-gate.ensures)
