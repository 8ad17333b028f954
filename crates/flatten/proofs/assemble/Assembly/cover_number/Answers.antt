use Rattle.std.proofs.Common.{◌<◌, ◌+◌, ◌^◌, ◌∙◌, ◌++◌, ◌∷◌, [], ℕ, length, take, sym, ap, subst, arith}
use Rattle.std.proofs.Math.Seq.{take-append_seam, take-length}
use Rattle.std.proofs.lemmas.List.{length-map, length_push}
use Rattle.elaborate.specs.Flat.{cover_at}
use Rattle.circuit_theory.specs.Cover.{Cover}
use Rattle.flat_net.specs.Makes.{MakerView}
use Rattle.net_assembly.proofs.CoverNumbers.{intern_new, intern_old, new_covers, same_covers, cover_there}
use Rattle.flatten.proofs.assemble.Assembly.cover_number.Goals as goal

pub returns-in_ok-cover-clause-cover : goal.returns-in_ok-cover-clause-cover
returns-in_ok-cover-clause-cover c =
    let more : length c.args.self.now.covers < length c.intern.new.self = omega (arith, c.if-len-count.true, c.len.ensures, c.len-count.ensures) in
    cover_there c.args.models.now c.intern.new.self c.cover.new.self.net.covers c.in_ok-number.number (c.args.model, c.args.statement)
    (new_covers c.args.models.now c.args.self.now.covers c.intern.new.self c.args.self.now.maker.net.covers c.cover.new.self.net.covers (c.args.model, c.args.statement) c.requires.covers
    (intern_new c.args.self.now.covers c.intern.new.self (c.args.model, c.args.statement) c.in_ok-number.ensures.known c.in_ok-number.ensures.added more)
    (ap (λ (m : MakerView). m.net.covers) c.in_ok-cover.ensures.ok ∙ ap (λ (x : Cover). c.args.self.now.maker.net.covers ++ x ∷ []) c.in_ok-cover_copy.ensures))
    c.in_ok-number.ensures.here

pub returns-else-len-count-clause-covers : goal.returns-else-len-count-clause-covers
returns-else-len-count-clause-covers c =
    same_covers c.args.models.now c.args.self.now.covers c.intern.new.self c.args.self.now.maker.net.covers c.requires.covers
    (intern_old c.args.self.now.covers c.intern.new.self (c.args.model, c.args.statement) c.in_ok-number.ensures.known c.in_ok-number.ensures.added (λ l. omega (arith, l, c.if-len-count.false, c.len.ensures, c.len-count.ensures)))

pub returns-else-len-count-clause-cover : goal.returns-else-len-count-clause-cover
returns-else-len-count-clause-cover c =
    cover_there c.args.models.now c.intern.new.self c.args.self.now.maker.net.covers c.in_ok-number.number (c.args.model, c.args.statement)
    (same_covers c.args.models.now c.args.self.now.covers c.intern.new.self c.args.self.now.maker.net.covers c.requires.covers
    (intern_old c.args.self.now.covers c.intern.new.self (c.args.model, c.args.statement) c.in_ok-number.ensures.known c.in_ok-number.ensures.added (λ l. omega (arith, l, c.if-len-count.false, c.len.ensures, c.len-count.ensures))))
    c.in_ok-number.ensures.here

pub cover-requires : goal.cover-requires
cover-requires c =
    let each = ap length c.requires.covers ∙ length-map c.args.self.now.covers (λ (p : ℕ × ℕ). cover_at c.args.models.now p.0 p.1) in
    subst (λ n. n + 1 < 2 ^ 32) (sym each) c.requires.room

pub returns-in_ok-cover-clause-covers : goal.returns-in_ok-cover-clause-covers
returns-in_ok-cover-clause-covers c =
    let more : length c.args.self.now.covers < length c.intern.new.self = omega (arith, c.if-len-count.true, c.len.ensures, c.len-count.ensures) in
    new_covers c.args.models.now c.args.self.now.covers c.intern.new.self c.args.self.now.maker.net.covers c.cover.new.self.net.covers (c.args.model, c.args.statement) c.requires.covers
    (intern_new c.args.self.now.covers c.intern.new.self (c.args.model, c.args.statement) c.in_ok-number.ensures.known c.in_ok-number.ensures.added more)
    (ap (λ (m : MakerView). m.net.covers) c.in_ok-cover.ensures.ok ∙ ap (λ (x : Cover). c.args.self.now.maker.net.covers ++ x ∷ []) c.in_ok-cover_copy.ensures)

pub returns-in_ok-cover-clause-few : goal.returns-in_ok-cover-clause-few
returns-in_ok-cover-clause-few c =
    let more : length c.args.self.now.covers < length c.intern.new.self = omega (arith, c.if-len-count.true, c.len.ensures, c.len-count.ensures) in
    let new = intern_new c.args.self.now.covers c.intern.new.self (c.args.model, c.args.statement) c.in_ok-number.ensures.known c.in_ok-number.ensures.added more in
    omega (arith, ap length new, length_push c.args.self.now.covers (c.args.model, c.args.statement))

pub returns-in_ok-cover-clause-grown : goal.returns-in_ok-cover-clause-grown
returns-in_ok-cover-clause-grown c =
    let old = c.args.self.now.maker.net.covers in
    let new = ap (λ (m : MakerView). m.net.covers) c.in_ok-cover.ensures.ok in
    ap (take (length old)) new ∙ take-append_seam old (c.in_ok-cover_copy.field-0 ∷ [])

pub returns-else-len-count-clause-grown : goal.returns-else-len-count-clause-grown
returns-else-len-count-clause-grown c = take-length c.args.self.now.maker.net.covers
