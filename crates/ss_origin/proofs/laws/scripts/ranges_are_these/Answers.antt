use Rattle.std.proofs.Common.{refl}
use Rattle.ss_origin.specs.Configs.{is_config}
use Rattle.ss_origin.specs.Counting.{are_counters}
use Rattle.ss_origin.proofs.laws.scripts.ranges_are_these.Goals as goal

pub returns : goal.returns
unfolding is_config are_counters
returns c = record {
  in_ranges = refl;
  by_pri = refl;
  in_one = refl;
  sg = refl;
  groupings = refl;
  no_groupings = refl;
  rsid = refl;
  per_block = refl;
  copies = refl;
  frag = refl;
  grouping = refl;
  gbc = refl;
  number = refl;
  order = refl;
  spri = refl;
  spri_of_one = refl;
  spri_of_ranges = refl;
}
