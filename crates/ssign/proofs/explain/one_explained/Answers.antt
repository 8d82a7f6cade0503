use Rattle.std.proofs.Common.{◌≡◌, Some, find, option_map, ap, rules}
use Rattle.ssign.specs.Explanation.{entries_of, has_code, told}
use Rattle.ssign.proofs.explain.one_explained.Goals as goal

pub returns-in-Err : goal.returns-in-Err
returns-in-Err c =
    let found : find (has_code c.args.code.now) (entries_of c.args.tables) ≡ Some c.in-Some.entry.now = search rules in (
      told c.args.tables c.args.json c.args.code.now c.in-Some.entry.now,
      ap (option_map (told c.args.tables c.args.json c.args.code.now)) found,
    )
