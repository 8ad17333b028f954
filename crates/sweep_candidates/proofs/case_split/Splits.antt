-- A literal pair that is split into the cases of a variable.
use Rattle.std.proofs.Common.{◌≡◌, ℕ, Bool, true, false, List, [], ◌∷◌, ◌++◌, Some, Result, Ok, Err, refl, sym, ◌∙◌, subst}
use Rattle.std.specs.Prelude.{IfOk}
use Rattle.std.proofs.lemmas.List.Elements.{All-pop, All-push}
use Rattle.aig.specs.declared.node.Node.{Node}
use Rattle.aig.specs.Values.{value}
use Rattle.sweep_candidates.specs.declared.case_split.case.Case.{Case}
use Rattle.sweep_candidates.specs.case_split.Under.{AgreeIn, IsCaseOf, AllAgree, IsSplitOf, IsPutBehind}

-- what agrees in both cases of a variable agrees
pub both-cases : (g : List Node) (x y v : ℕ) (low high : Case) → IsCaseOf g x y v false low → IsCaseOf g x y v true high
    → AgreeIn low.graph low.left.0 low.right.0 → AgreeIn high.graph high.left.0 high.right.0 → AgreeIn g x y
both-cases g x y v low high is-low is-high first second a = go (a v) refl
  where
    go : (b : Bool) → a v ≡ b → value g a x ≡ value g a y
    go false e = sym (is-low.left.same a e) ∙ first a ∙ is-low.right.same a e
    go true e = sym (is-high.left.same a e) ∙ second a ∙ is-high.right.same a e

-- what both cases tell, which stand behind the rest
pub split-both : (g : List Node) (x y v : ℕ) (old between new : List Case) → IsPutBehind g x y v false old between → IsPutBehind g x y v true between new → IsSplitOf g x y old new
split-both g x y v old between new low high all =
    let agree : Case → Type 0 = λ c. AgreeIn c.graph c.left.0 c.right.0 in
    let (before, second) = All-pop agree new between (Some high.case) high.behind all in
    let (rest, first) = All-pop agree between old (Some low.case) low.behind before in
    (both-cases g x y v low.case high.case low.stands high.stands first second, rest)

-- one case less, where that one was split
pub split-next : (g : List Node) (x y : ℕ) (case : Case) (before rest new : List Case) → before ≡ rest ++ case ∷ [] → (AllAgree before → AgreeIn g x y)
    → IsSplitOf case.graph case.left.0 case.right.0 rest new → AllAgree new → AgreeIn g x y
split-next g x y case before rest new is told split all =
    let agree : Case → Type 0 = λ c. AgreeIn c.graph c.left.0 c.right.0 in
    let (this, others) = split all in
    told (subst AllAgree (sym is) (All-push agree rest case others this))

-- a fact that gives another one
pub IfOk-map : {T E : Type 0} (r : Result T E) (P Q : T → Type 0) → ((x : T) → P x → Q x) → IfOk r P → IfOk r Q
IfOk-map (Ok x) P Q f p = f x p
IfOk-map (Err e) P Q f p = p
