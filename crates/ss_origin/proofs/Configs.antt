-- What a configuration in its ranges has.
use Rattle.std.proofs.Common.{◌≡◌, ◌≤◌, true, ◌&&◌}
use Rattle.std.specs.Prelude.{nat_le}
use Rattle.std.proofs.lemmas.Bool.{and_parts, leb-true}
use Rattle.ss_origin.specs.declared.config.Config.{Config}
use Rattle.ss_origin.specs.Groups.{is_grouping}
use Rattle.ss_origin.specs.Configs.{is_between, is_config}

pub record HasRanges (c : Config) : Type 0 where
  pub rsid : c.rsid ≤ 9999999999
  pub some : 1 ≤ c.per_block
  pub at_most_99 : c.per_block ≤ 99
  pub some_copy : 1 ≤ c.copies
  pub some_octet : 1 ≤ c.frag
  pub at_most_9999 : c.frag ≤ 9999
  pub grouping : is_grouping c.grouping ≡ true

pub has_ranges : (c : Config) → is_config c ≡ true → HasRanges c
unfolding is_config
has_ranges c is =
    let all = and_parts (nat_le c.rsid 9999999999 && is_between 1 99 c.per_block && is_between 1 9 c.copies && is_between 1 9999 c.frag) (is_grouping c.grouping) is in
    let frag = and_parts (nat_le c.rsid 9999999999 && is_between 1 99 c.per_block && is_between 1 9 c.copies) (is_between 1 9999 c.frag) all.0 in
    let copies = and_parts (nat_le c.rsid 9999999999 && is_between 1 99 c.per_block) (is_between 1 9 c.copies) frag.0 in
    let size = and_parts (nat_le c.rsid 9999999999) (is_between 1 99 c.per_block) copies.0 in
    let hashes = and_parts (nat_le 1 c.per_block) (nat_le c.per_block 99) size.1 in
    let octets = and_parts (nat_le 1 c.frag) (nat_le c.frag 9999) frag.1 in
    record {
      rsid = leb-true c.rsid 9999999999 size.0;
      some = leb-true 1 c.per_block hashes.0;
      at_most_99 = leb-true c.per_block 99 hashes.1;
      some_copy = leb-true 1 c.copies (and_parts (nat_le 1 c.copies) (nat_le c.copies 9) copies.1).0;
      some_octet = leb-true 1 c.frag octets.0;
      at_most_9999 = leb-true c.frag 9999 octets.1;
      grouping = all.1;
    }
