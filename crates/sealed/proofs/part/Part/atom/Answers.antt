use Rattle.std.proofs.Common.{refl, ◌∙◌}
use Rattle.sealed.proofs.Parted.{same_part, only}
use Rattle.sealed.proofs.part.Part.atom.Goals as goal

pub returns : goal.returns
returns c =
    let e = c.single-own.ensures ∙ only c.args.position c.requires in
    same_part _ _ _ _ _ _ refl e e
