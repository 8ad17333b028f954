use Rattle.std.proofs.Common.{◌≡◌, ◌∙◌, ◌-◌, ℕ, List, [], true, map, sym, take, length, length-take, arith, Bor}
use Rattle.circuit_theory.specs.Cover.{Cover}
use Rattle.blif_read.specs.declared.block.Block.{Block}
use Rattle.blif_read.specs.Heads.{but_last, last_or_empty}
use Rattle.blif_read.specs.Rows.{cover_of}
use Rattle.blif_read.proofs.Tokens.{last_behind, but_last_behind}
use Rattle.blif_read.proofs.Behind.{length_behind}
use Rattle.blif_read.proofs.block.Block.new.Goals as goal

block_of : (line n : ℕ) (names fanins : List (List ℕ)) (out : List ℕ) (cover : Cover) → fanins ≡ but_last names → out ≡ last_or_empty names → n ≡ length (but_last names) →
    cover ≡ record { width = n; rows = []; on = true } →
    let made : Block = record { line = line; fanins = fanins; out = out; cover = cover } in
    made ≡ record { line = line; fanins = but_last names; out = last_or_empty names; cover = cover_of (length (but_last names)) [] }
block_of line n names fanins out cover f o e k = cc

count_is : (args : List (Bor (List ℕ))) → but_last (map (λ a. a.now) args) ≡ map (λ a. a.now) (take (length args - 1) args) → length args - 1 ≡ length (but_last (map (λ a. a.now) args))
count_is args e = rw e (rw (length_behind (λ (a : Bor (List ℕ)). a.now) (take (length args - 1) args)) (simp length-take (omega arith)))

pub returns : goal.returns
returns c =
    let rest = but_last_behind c.args.args.now c.requires.some in
    let last = last_behind c.args.args.now (record { ref_ptr = (0, 0); now = [] }) c.requires.some in
    block_of c.args.line (length c.args.args.now - 1) (map (λ a. a.now) c.args.args.now) c.in_ok-words_of.field-0 c.in_ok-word_of.field-0 c.new.result
    (c.in_ok-words_of.ensures ∙ sym rest) (c.in_ok-word_of.ensures ∙ sym last) (count_is c.args.args.now rest) c.new.ensures
