use Rattle.std.proofs.Common.{◌<◌, ◌^◌, subst}
use Rattle.flatten.proofs.connectivity.Bounds.{solid_from}
use Rattle.flatten.proofs.connectivity.kept.keeps.Goals as goal

pub returns : goal.returns
returns c =
    let flat = c.args.flat.now in
    solid_from flat (subst (λ n. n < 2 ^ 32) c.len.ensures c.len.type_inv) flat.inputs_within flat.clocks_within flat.outputs_within flat.within flat.shaped
