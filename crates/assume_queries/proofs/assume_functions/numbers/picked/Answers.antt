-- One number more.
use Rattle.std.proofs.Common.{◌≡◌, ◌∙◌, ◌+◌, ◌<◌, ℕ, List, [], ◌∷◌, ◌++◌, map, length, take, get_or, sym, ap}
use Rattle.std.proofs.lemmas.List.{map-append, take_all, take_more}
use Rattle.assume_queries.proofs.assume_functions.numbers.picked.Goals as goal

abbrev picks : List ℕ → List ℕ → List ℕ
picks numbers vars = map (λ v. get_or numbers v 0) vars

one_more : (numbers vars made more : List ℕ) (i d : ℕ) → i < length vars → made ≡ picks numbers (take i vars) → more ≡ made ++ get_or numbers (get_or vars i d) 0 ∷ [] → more ≡ picks numbers (take (i + 1) vars)
one_more numbers vars made more i d inside before is =
    is
    ∙ (ap (λ (l : List ℕ). l ++ get_or numbers (get_or vars i d) 0 ∷ []) before
    ∙ (sym (map-append (λ v. get_or numbers v 0) (take i vars) (get_or vars i d ∷ []))
    ∙ ap (picks numbers) (sym (take_more vars i d inside))))

pub loop-v-preserved : goal.loop-v-preserved
loop-v-preserved c = one_more c.args.numbers.now c.args.vars.now c.loop-v.made.items c.push.new.self.items c.loop-v.v-index _ c.loop-v-test.true c.loop-v.invariant c.in_ok-push.ensures.items

pub returns : goal.returns
returns c = c.from_vec.ensures ∙ c.loop-v.invariant ∙ ap (picks c.args.numbers.now) (take_all c.loop-v.v-index c.args.vars.now c.loop-v-test.false)
