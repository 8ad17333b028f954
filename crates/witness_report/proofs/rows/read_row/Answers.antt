use Rattle.std.proofs.Common.{◌≡◌, ◌<◌, ℕ, Bool, List, [], ◌∷◌, ◌++◌, length, map, take, sym, ap, subst, ◌∙◌, arith}
use Rattle.std.proofs.lemmas.List.{length-map, map-append, take_more, take_all}
use Rattle.witness_report.specs.Text.{digit_of, row_text}
use Rattle.witness_report.proofs.RowTexts.{no_bits, no_digits, row_digits}
use Rattle.witness_report.proofs.rows.read_row.Goals as goal

pub returns-in_default-clause-none : goal.returns-in_default-clause-none
returns-in_default-clause-none c =
    no_bits c.args.count c.args.line.now (omega (arith, c.if-count-eq0.false)) (no_digits c.args.line.now c.loop-byte.byte-index _ (omega (arith, c.loop-byte-test.true)) c.in_default.ensures.none)

pub loop-byte-preserved : goal.loop-byte-preserved
loop-byte-preserved c =
    ap (map digit_of) c.in_ok-push.ensures.items ∙ map-append digit_of c.loop-byte.bits.items (c.in-Some.bit ∷ []) ∙ ap (λ (xs : List ℕ). xs ++ digit_of c.in-Some.bit ∷ []) c.loop-byte.invariant
    ∙ ap (λ (x : ℕ). take c.loop-byte.byte-index c.args.line.now ++ x ∷ []) c.in-Some.ensures.some ∙ sym (take_more c.args.line.now c.loop-byte.byte-index 0 c.loop-byte-test.true)

pub returns-clause-some : goal.returns-clause-some
returns-clause-some c =
    let spelled : map digit_of c.loop-byte.bits.items ≡ c.args.line.now = c.loop-byte.invariant ∙ take_all c.loop-byte.byte-index c.args.line.now c.loop-byte-test.false in
    let long : length c.loop-byte.bits.items ≡ c.args.count = omega (arith, ap length spelled, length-map c.loop-byte.bits.items digit_of) in
    subst (λ (row : List Bool). (length row ≡ c.args.count) × (row_text row ≡ c.args.line.now)) (sym c.from_vec.ensures)
    (long, row_digits c.loop-byte.bits.items (omega (arith, long)) ∙ spelled)
