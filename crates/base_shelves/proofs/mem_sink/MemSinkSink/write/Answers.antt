-- No more is put than there is room for.
use Rattle.std.proofs.Common.{◌≡◌, ◌≤◌, ◌+◌, ◌-◌, ◌∙◌, ℕ, zero, suc, List, [], ◌∷◌, ◌++◌, length, take, refl, sym, ap, arith, Some, true≢false}
use Rattle.std.proofs.lemmas.List.{length-append, length-take, take_all}
use Rattle.base_shelves.specs.MemSink.{SinkState}
use Rattle.base_shelves.proofs.mem_sink.MemSinkSink.write.Goals as goal
use Rattle.base_shelves.proofs.mem_sink.MemSinkSink.write.Goals.{then-told, else-told}

-- the bytes with so many of the piece
fits : (bytes new piece : List ℕ) (most left room before now : ℕ) → new ≡ bytes ++ take most piece → most ≤ left → left ≡ room - length bytes → length bytes ≤ room → room ≤ before → before ≤ now → (length new ≤ room) × (room ≤ now)
fits bytes new piece most left room before now grown small free inside wide wider =
    let long : length new ≡ length bytes + length (take most piece) = ap length grown ∙ length-append bytes (take most piece) in
    (omega (arith, long, length-take most piece, small, free, inside), omega (arith, wide, wider))

-- a front of the piece is put
front : (most : ℕ) (piece : List ℕ) → (count : ℕ) × (count ≤ length piece) × (take most piece ≡ take count piece)
front zero piece = (0, omega arith, refl)
front (suc most) [] = (0, omega arith, refl)
front (suc most) (b ∷ piece) = let w = front most piece in (suc w.0, omega (arith, w.1), ap (λ (bs : List ℕ). b ∷ bs) w.2)

front_taken : (bytes new taken piece : List ℕ) (most : ℕ) → new ≡ bytes ++ take most piece → bytes ≡ taken → (count : ℕ) × (count ≤ length piece) × (Some new ≡ Some (taken ++ take count piece))
front_taken bytes new taken piece most grown same =
    let w = front most piece in
    (w.0, w.1, ap Some (grown ∙ ap (λ (bs : List ℕ). bs ++ take most piece) same ∙ ap (λ (bs : List ℕ). taken ++ bs) w.2))

pub invariant_of-self : goal.invariant_of-self
invariant_of-self c =
    let small : c.if-told.most ≤ c.self.inside.room - c.len.result = elim c.if-told.branch [ then-told w ↦ omega (arith, w.most-is, w.min-most.ensures) | else-told w ↦ omega (arith, w.most-is) ] in
    fits c.self.inside.bytes.items c.take_front.new.bytes.items c.args.piece.now c.if-told.most (c.self.inside.room - c.len.result) c.self.inside.room _ _ c.take_front.ensures.taken small
    (omega (arith, c.len.ensures, c.self.inside.bytes.ok.0)) c.self.invariant.0 c.self.invariant.1 c.take_front.ensures.room

pub invariant_of-self-then-told-2 : goal.invariant_of-self-then-told-2
invariant_of-self-then-told-2 c =
    let small : c.if-told.most ≤ c.self.inside.room - c.len.result = elim c.if-told.branch [ then-told w ↦ omega (arith, w.most-is, w.min-most.ensures) | else-told w ↦ omega (arith, w.most-is) ] in
    fits c.self.inside.bytes.items c.take_front.new.bytes.items c.args.piece.now c.if-told.most (c.self.inside.room - c.len.result) c.self.inside.room _ _ c.take_front.ensures.taken small
    (omega (arith, c.len.ensures, c.self.inside.bytes.ok.0)) c.self.invariant.0 c.self.invariant.1 c.take_front.ensures.room

pub returns-clause-ok : goal.returns-clause-ok
returns-clause-ok c =
    let whole : length c.args.piece.now ≤ c.if-told.most = elim c.if-told.branch [ then-told w ↦ absurd (true≢false (sym w.if-told.true ∙ c.if-told-2.false)) | else-told w ↦ omega (arith, w.most-is, c.if-left-piece.false) ] in
    ap Some (c.take_front.ensures.taken ∙ ap (λ (front : List ℕ). c.self.inside.bytes.items ++ front) (take_all c.if-told.most c.args.piece.now whole)
    ∙ ap (λ (s : SinkState). s.taken ++ c.args.piece.now) c.self.view_is)

pub returns-then-told-2-clause-err : goal.returns-then-told-2-clause-err
returns-then-told-2-clause-err c = front_taken c.self.inside.bytes.items c.take_front.new.bytes.items c.args.self.now.taken c.args.piece.now c.if-told.most c.take_front.ensures.taken (ap (λ (s : SinkState). s.taken) c.self.view_is)

pub returns-clause-later : goal.returns-clause-later
returns-clause-later c = let same = ap (λ (s : SinkState). s.faults) c.self.view_is in omega (arith, same)

pub returns-then-told-2-clause-cause : goal.returns-then-told-2-clause-cause
returns-then-told-2-clause-cause c = let same = ap (λ (s : SinkState). s.faults) c.self.view_is in omega (arith, same, c.saturating_add-self-inside-then-told-2.ensures)

pub returns-then-told-2-clause-later : goal.returns-then-told-2-clause-later
returns-then-told-2-clause-later c =
    let same = ap (λ (s : SinkState). s.faults) c.self.view_is in
    omega (arith, same, c.saturating_add-self-inside-then-told-2.ensures)
