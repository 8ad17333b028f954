-- What has one literal has one value.
use Rattle.std.proofs.Common.{◌≡◌, ◌∙◌, sym, ap}
use Rattle.std.proofs.lemmas.Bool.Decides.{Decides-eqb}
use Rattle.aig.specs.Values.{value}
use Rattle.merged_graph.proofs.targets.is_one.Goals as goal

pub returns-in-Some-Some : goal.returns-in-Some-Some
returns-in-Some-Some c = λ e g h are a.
    let same : c.in-Some-Some.x.0 ≡ c.in-Some-Some.y.0 = (Decides-eqb c.in-Some-Some.x.0 c.in-Some-Some.y.0).0 e in
    sym ((c.in-Some-Some.ensures g h are).same a) ∙ (ap (value h a) same ∙ (c.in-Some-Some.ensures' g h are).same a)
