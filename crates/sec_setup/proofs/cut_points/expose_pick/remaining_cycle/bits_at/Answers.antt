-- A list of as many bits is lent, and taken back whole.
use Rattle.std.proofs.Common.{◌≡◌, ◌∙◌, ℕ, ◌<◌, Bool, false, List, ◌++◌, length, take, drop, refl, sym, ap, subst, arith}
use Rattle.std.specs.List.{All}
use Rattle.std.proofs.lemmas.List.{take-append-le, take_all}
use Rattle.std.proofs.lemmas.List.Elements.{All-replicate}
use Rattle.sec_setup.specs.cut_points.expose_pick.Bits.{AreBits}
use Rattle.sec_setup.proofs.cut_points.expose_pick.remaining_cycle.bits_at.Goals as goal

whole : (n : ℕ) (xs ys : List Bool) → n ≡ length xs → take n (xs ++ ys) ≡ xs
whole n xs ys e = take-append-le n xs ys (omega (arith, e)) ∙ take_all n xs (omega (arith, e))

pub returns-clause-size : goal.returns-clause-size
returns-clause-size c =
    let all : c.in_ok-bits.bits.len ≡ length c.set_all.new.bits = omega (arith, c.as_mut_slice.ensures.len, c.set_all.auto.bits) in
    let same = c.from_vec.ensures ∙ whole c.in_ok-bits.bits.len c.set_all.new.bits (drop (length c.set_all.new.bits) c.in_ok-bits.bits.items) all in
    ap length same ∙ (sym all ∙ c.in_ok-bits.ensures.len)

pub returns-clause-set : goal.returns-clause-set
returns-clause-set c =
    let all : c.in_ok-bits.bits.len ≡ length c.set_all.new.bits = omega (arith, c.as_mut_slice.ensures.len, c.set_all.auto.bits) in
    let same = c.from_vec.ensures ∙ whole c.in_ok-bits.bits.len c.set_all.new.bits (drop (length c.set_all.new.bits) c.in_ok-bits.bits.items) all in
    subst (λ (bits : List Bool). AreBits bits c.args.positions.now (length c.args.positions.now)) (sym same) c.set_all.ensures

pub set_all-requires-clause-none : goal.set_all-requires-clause-none
set_all-requires-clause-none c =
    subst (All (λ (bit : Bool). bit ≡ false)) (sym (c.as_mut_slice.ensures.value ∙ c.in_ok-bits.ensures.items_if_clones_equal (λ y e. e))) (All-replicate (λ bit. bit ≡ false) c.args.count false refl)

pub set_all-requires-clause-within : goal.set_all-requires-clause-within
set_all-requires-clause-within c = subst (λ n. All (λ j. j < n) c.args.positions.now) (sym (c.as_mut_slice.ensures.len ∙ c.in_ok-bits.ensures.len)) c.requires
