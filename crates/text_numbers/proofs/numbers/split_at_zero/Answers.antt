use Rattle.std.proofs.Common.{◌≡◌, ◌+◌, take, drop, sym, ◌∙◌, ap, arith}
use Rattle.std.specs.List.{position_or_len}
use Rattle.std.proofs.lemmas.List.Folds.{list_any_none}
use Rattle.text_numbers.specs.Numbers.{is_zero}
use Rattle.text_numbers.proofs.Readings.{zero_found, zero_there, rest_after}
use Rattle.text_numbers.proofs.numbers.split_at_zero.Goals as goal

pub returns-then-is_zero : goal.returns-then-is_zero
returns-then-is_zero c =
    let numbers = c.args.numbers.now in
    let place = c.loop-place.place in
    let at : position_or_len is_zero numbers ≡ place = zero_found numbers place _ (omega arith) (λ k h. c.loop-place.invariant k _ h) (sym c.is_zero.ensures ∙ c.if-is_zero.true) in (
      zero_there numbers place _ (omega arith) (sym c.is_zero.ensures ∙ c.if-is_zero.true),
      ap (λ n. take n numbers) (sym at),
      rest_after numbers (place + 1) ∙ ap (λ n. drop (n + 1) numbers) (sym at),
    )

pub returns : goal.returns
returns c = list_any_none is_zero c.args.numbers.now (λ k d h. c.loop-place.invariant k d (omega arith))
