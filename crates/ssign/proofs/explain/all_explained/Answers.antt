use Rattle.std.proofs.Common.{◌≡◌, true, refl, rules}
use Rattle.ssign.specs.Explanation.{objects_of}
use Rattle.ssign.proofs.explain.all_explained.Goals as goal

pub returns-in-Err : goal.returns-in-Err
returns-in-Err c =
    let given : c.args.json ≡ true = search rules in (objects_of c.args.tables, rw given refl)
