-- The pieces of a spot's line.
use Rattle.std.proofs.Common.{◌≡◌, ◌∙◌, ℕ, List, [], ◌∷◌, ◌++◌, codes, OnOk, refl, ap, subst}
use Rattle.std.proofs.lemmas.Result.{on_ok_weaker}
use Rattle.sec_base.specs.Texts.{digit_of}
use Rattle.witness_report.specs.frame_report.Text.{path_text}
use Rattle.witness_report.proofs.Grown.{seven_pieces}
use Rattle.witness_report.proofs.frame_report.text.put_spot.Goals as goal

pub returns : goal.returns
returns c =
    let spot = c.args.spot.now in
    let path = c.in_ok-put_path.ensures ∙ ap (λ (p : List ℕ). c.put.new.text.items ++ path_text p) c.as_slice.ensures in
    let input = c.in_ok-put-3.ensures.ok ∙ ap (λ (n : List ℕ). c.put-2.new.text.items ++ n) c.as_slice-2.ensures in
    let last = subst (λ (d : ℕ). OnOk c.put-4.result (c.put-4.new.text.items ≡ c.put-3.new.text.items ++ 32 ∷ d ∷ 10 ∷ [])) c.digit_of.ensures c.put-4.ensures.ok in
    let tail : 32 ∷ digit_of spot.bit ∷ 10 ∷ [] ≡ 32 ∷ [] ++ digit_of spot.bit ∷ [] ++ 10 ∷ [] = refl in
    on_ok_weaker c.put-4.result
    (λ end. seven_pieces c.args.text.now.items (codes "at ") (path_text spot.path) (32 ∷ []) spot.input (32 ∷ []) (digit_of spot.bit ∷ []) (10 ∷ []) _ _ _ _ _ c.in_ok-put.ensures.ok path c.in_ok-put-2.ensures.ok input
    (end ∙ ap (λ (l : List ℕ). c.put-3.new.text.items ++ l) tail)) last
