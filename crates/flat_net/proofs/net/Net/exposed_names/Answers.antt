-- Each name is new, since no latch is exposed twice.
use Rattle.std.proofs.Common.{◌≡◌, ◌∙◌, ◌++◌, ◌∷◌, [], false, take, slice_get, get_or, Some, if◌then◌else◌, sym, ap}
use Rattle.std.proofs.lemmas.List.{map-append}
use Rattle.std.proofs.lemmas.Option.{slice_get-get_or}
use Rattle.base_tables.specs.Table.{is_among}
use Rattle.base_tables.proofs.TableLemmas.{take-push}
use Rattle.flat_net.specs.Cut.{latch_at, exposed_names}
use Rattle.flat_net.proofs.Exposed.{not_yet}
use Rattle.flat_net.proofs.net.Net.exposed_names.Goals as goal

pub loop-j-preserved : goal.loop-j-preserved
loop-j-preserved c =
    let n = c.args.self.now in
    let exposed = c.args.exposed.now in
    let i = c.loop-j.j-index in
    let j = get_or exposed i 0 in
    let name = c.as_slice.result.now in
    let here : slice_get exposed i ≡ Some j = slice_get-get_or exposed i 0 c.loop-j-test.true in
    let is : name ≡ (latch_at n j).name = c.as_slice.ensures ∙ ap (λ l. l.name) c.latch_at-latch.ensures.is in
    let fresh : is_among c.loop-j.names name ≡ false =
    ap (λ ns. is_among ns name) c.loop-j.invariant ∙ not_yet n c.keeps.ensures.sound exposed c.requires.within c.requires.distinct i j here name is in
    c.in_ok-add.ensures.ok ∙ ap (λ b. if b then c.loop-j.names else (c.loop-j.names ++ name ∷ [])) fresh
    ∙ ap (λ ns. ns ++ name ∷ []) c.loop-j.invariant ∙ ap (λ w. exposed_names n (take i exposed) ++ w ∷ []) is
    ∙ sym (map-append (λ k. (latch_at n k).name) (take i exposed) (j ∷ [])) ∙ ap (exposed_names n) (take-push exposed i j here)
