-- The first line is the header, and the others are the rows.
use Rattle.std.proofs.Common.{◌≡◌, ◌==◌, ◌∷◌, ℕ, List, IfSome, IfNone, Result, Err, sym, ◌∙◌, ap, subst, arith}
use Rattle.std.specs.List.{slice_split}
use Rattle.witness_report.specs.Text.{header_line}
use Rattle.witness_report.specs.Form.{AreNames, AreRows}
use Rattle.witness_report.specs.Parts.{IsBadLine}
use Rattle.witness_report.proofs.Forms.{lines_form, one_form, has_header, no_bad_line, bad_row, no_lines, header_free, few_lines, only_memory}
use Rattle.witness_report.proofs.reader.read_stimulus.Goals as goal

-- one error in two results
err_is : {T E : Type 0} (x y : E) → ◌≡◌ {A = Result T E} (Err x) (Err y) → x ≡ y
err_is x y e = cc

pub returns-in_default-clause-all : goal.returns-in_default-clause-all
returns-in_default-clause-all c = λ names rows form.
    absurd (no_lines c.args.text.now names rows (sym (c.new-lines.ensures ∙ ap (slice_split (λ b. b == 10)) c.without_last_feed.ensures) ∙ c.in_default.ensures.0) form)

pub read_header-requires : goal.read_header-requires
read_header-requires c = header_free c.args.text.now c.in-Some.header.now _ (sym (c.new-lines.ensures ∙ ap (slice_split (λ b. b == 10)) c.without_last_feed.ensures) ∙ c.in-Some.ensures)

pub returns-in_default-2-clause-all : goal.returns-in_default-2-clause-all
returns-in_default-2-clause-all c = λ names rows form.
    let lines = sym (c.new-lines.ensures ∙ ap (slice_split (λ b. b == 10)) c.without_last_feed.ensures) ∙ c.in-Some.ensures in
    let none = subst (λ o. IfNone o ((names : List (List ℕ)) → AreNames names → c.in-Some.header.now ≡ header_line names → ⊥)) c.in_default-2.is c.in_ok-names.ensures.none in
    let has = has_header c.args.text.now c.in-Some.header.now _ names rows lines form in
    absurd (none names has.0 has.1)

pub read_rows-requires : goal.read_rows-requires
read_rows-requires c =
    let few = few_lines c.args.text.now c.in-Some.header.now _ (sym (c.new-lines.ensures ∙ ap (slice_split (λ b. b == 10)) c.without_last_feed.ensures) ∙ c.in-Some.ensures) in
    omega (arith, few, c.requires)

pub returns-in-Err-clause-row : goal.returns-in-Err-clause-row
returns-in-Err-clause-row c = λ n e.
    let lines = sym (c.new-lines.ensures ∙ ap (slice_split (λ b. b == 10)) c.without_last_feed.ensures) ∙ c.in-Some.ensures in
    let header = subst (λ o. IfSome o (λ names. (c.in-Some.header.now ≡ header_line names) × AreNames names)) c.in-Some-2.is c.in_ok-names.ensures.some in
    bad_row c.args.text.now _ _ n header.1 (lines ∙ ap (λ (h : List ℕ). h ∷ c.next_piece.new.self) header.0) (subst (λ k. IsBadLine k c.next_piece.new.self n) c.len.ensures (c.in-Err.ensures.row n (ap Err (err_is _ _ e))))

pub returns-in-Err-clause-all : goal.returns-in-Err-clause-all
returns-in-Err-clause-all c = λ names rows form.
    let lines = sym (c.new-lines.ensures ∙ ap (slice_split (λ b. b == 10)) c.without_last_feed.ensures) ∙ c.in-Some.ensures in
    let header = subst (λ o. IfSome o (λ names. (c.in-Some.header.now ≡ header_line names) × AreNames names)) c.in-Some-2.is c.in_ok-names.ensures.some in
    only_memory c.in-Err.error (λ n e. c.in-Err.ensures.header n (ap Err e))
    (λ n e. no_bad_line c.args.text.now _ names _ rows n header.1 (lines ∙ ap (λ (h : List ℕ). h ∷ c.next_piece.new.self) header.0) form (subst (λ k. IsBadLine k c.next_piece.new.self n) c.len.ensures (c.in-Err.ensures.row n (ap Err e))))

pub returns-in-Ok-clause-ok : goal.returns-in-Ok-clause-ok
returns-in-Ok-clause-ok c =
    let lines = sym (c.new-lines.ensures ∙ ap (slice_split (λ b. b == 10)) c.without_last_feed.ensures) ∙ c.in-Some.ensures in
    let header = subst (λ o. IfSome o (λ names. (c.in-Some.header.now ≡ header_line names) × AreNames names)) c.in-Some-2.is c.in_ok-names.ensures.some in
    lines_form _ c.in-Ok.rows header.1 c.args.text.now (subst (λ n. AreRows n c.in-Ok.rows) c.len.ensures c.in-Ok.ensures.ok.1)
    (lines ∙ (ap (λ (h : List ℕ). h ∷ c.next_piece.new.self) header.0 ∙ ap (λ (ls : List (List ℕ)). header_line c.in-Some-2.names ∷ ls) (sym c.in-Ok.ensures.ok.0)))

pub returns-in-Ok-clause-all : goal.returns-in-Ok-clause-all
returns-in-Ok-clause-all c = λ names rows form.
    let lines = sym (c.new-lines.ensures ∙ ap (slice_split (λ b. b == 10)) c.without_last_feed.ensures) ∙ c.in-Some.ensures in
    let header = subst (λ o. IfSome o (λ names. (c.in-Some.header.now ≡ header_line names) × AreNames names)) c.in-Some-2.is c.in_ok-names.ensures.some in
    one_form c.args.text.now c.in-Some-2.names names c.in-Ok.rows rows header.1 (subst (λ n. AreRows n c.in-Ok.rows) c.len.ensures c.in-Ok.ensures.ok.1)
    (lines ∙ (ap (λ (h : List ℕ). h ∷ c.next_piece.new.self) header.0 ∙ ap (λ (ls : List (List ℕ)). header_line c.in-Some-2.names ∷ ls) (sym c.in-Ok.ensures.ok.0))) form
