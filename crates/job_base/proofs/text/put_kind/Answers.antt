-- Each kind has its word.
use Rattle.std.proofs.Common.{◌≡◌, ◌++◌, List, ℕ, codes, OnOk, sym, subst}
use Rattle.blif_read.specs.declared.error.ReadKind.{ReadKind}
use Rattle.job_base.specs.Lines.{kind_text}
use Rattle.job_base.proofs.text.put_kind.Goals as goal

pub returns-in-Unsupported : goal.returns-in-Unsupported
returns-in-Unsupported c =
    let before = c.args.text.now.items in
    let r = c.put_behind.result in
    let after = c.put_behind.new.text.items in
    subst (λ (k : ReadKind). OnOk r (after ≡ before ++ kind_text k)) (sym c.in-Unsupported.is)
    (subst (λ (w : List ℕ). OnOk r (after ≡ before ++ (codes "Unsupported " ++ w))) c.as_slice.ensures c.put_behind.ensures)

pub returns-in-UnknownWord : goal.returns-in-UnknownWord
returns-in-UnknownWord c = subst (λ (k : ReadKind). OnOk c.put.result (c.put.new.text.items ≡ c.args.text.now.items ++ kind_text k)) (sym c.in-UnknownWord.is) c.put.ensures.ok

pub returns-in-NoModel : goal.returns-in-NoModel
returns-in-NoModel c = subst (λ (k : ReadKind). OnOk c.put-in-NoModel.result (c.put-in-NoModel.new.text.items ≡ c.args.text.now.items ++ kind_text k)) (sym c.in-NoModel.is) c.put-in-NoModel.ensures.ok

pub returns-in-BadCount : goal.returns-in-BadCount
returns-in-BadCount c = subst (λ (k : ReadKind). OnOk c.put-in-BadCount.result (c.put-in-BadCount.new.text.items ≡ c.args.text.now.items ++ kind_text k)) (sym c.in-BadCount.is) c.put-in-BadCount.ensures.ok

pub returns-in-BadRow : goal.returns-in-BadRow
returns-in-BadRow c = subst (λ (k : ReadKind). OnOk c.put-in-BadRow.result (c.put-in-BadRow.new.text.items ≡ c.args.text.now.items ++ kind_text k)) (sym c.in-BadRow.is) c.put-in-BadRow.ensures.ok

pub returns-in-MixedCover : goal.returns-in-MixedCover
returns-in-MixedCover c = subst (λ (k : ReadKind). OnOk c.put-in-MixedCover.result (c.put-in-MixedCover.new.text.items ≡ c.args.text.now.items ++ kind_text k)) (sym c.in-MixedCover.is) c.put-in-MixedCover.ensures.ok

pub returns-in-BadLatchType : goal.returns-in-BadLatchType
returns-in-BadLatchType c = subst (λ (k : ReadKind). OnOk c.put-in-BadLatchType.result (c.put-in-BadLatchType.new.text.items ≡ c.args.text.now.items ++ kind_text k)) (sym c.in-BadLatchType.is) c.put-in-BadLatchType.ensures.ok

pub returns-in-BadInit : goal.returns-in-BadInit
returns-in-BadInit c = subst (λ (k : ReadKind). OnOk c.put-in-BadInit.result (c.put-in-BadInit.new.text.items ≡ c.args.text.now.items ++ kind_text k)) (sym c.in-BadInit.is) c.put-in-BadInit.ensures.ok

pub returns-in-BadPair : goal.returns-in-BadPair
returns-in-BadPair c = subst (λ (k : ReadKind). OnOk c.put-in-BadPair.result (c.put-in-BadPair.new.text.items ≡ c.args.text.now.items ++ kind_text k)) (sym c.in-BadPair.is) c.put-in-BadPair.ensures.ok

pub returns-in-DuplicateModel : goal.returns-in-DuplicateModel
returns-in-DuplicateModel c = subst (λ (k : ReadKind). OnOk c.put-in-DuplicateModel.result (c.put-in-DuplicateModel.new.text.items ≡ c.args.text.now.items ++ kind_text k)) (sym c.in-DuplicateModel.is) c.put-in-DuplicateModel.ensures.ok

pub returns-in-DuplicatePort : goal.returns-in-DuplicatePort
returns-in-DuplicatePort c = subst (λ (k : ReadKind). OnOk c.put-in-DuplicatePort.result (c.put-in-DuplicatePort.new.text.items ≡ c.args.text.now.items ++ kind_text k)) (sym c.in-DuplicatePort.is) c.put-in-DuplicatePort.ensures.ok

pub returns-in-NameTooLong : goal.returns-in-NameTooLong
returns-in-NameTooLong c = subst (λ (k : ReadKind). OnOk c.put-in-NameTooLong.result (c.put-in-NameTooLong.new.text.items ≡ c.args.text.now.items ++ kind_text k)) (sym c.in-NameTooLong.is) c.put-in-NameTooLong.ensures.ok

pub returns-in-StrayRow : goal.returns-in-StrayRow
returns-in-StrayRow c = subst (λ (k : ReadKind). OnOk c.put-in-StrayRow.result (c.put-in-StrayRow.new.text.items ≡ c.args.text.now.items ++ kind_text k)) (sym c.in-StrayRow.is) c.put-in-StrayRow.ensures.ok

pub returns-in-ControlByte : goal.returns-in-ControlByte
returns-in-ControlByte c = subst (λ (k : ReadKind). OnOk c.put-in-ControlByte.result (c.put-in-ControlByte.new.text.items ≡ c.args.text.now.items ++ kind_text k)) (sym c.in-ControlByte.is) c.put-in-ControlByte.ensures.ok
