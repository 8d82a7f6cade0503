-- What holds for the groups of a configuration.
use Rattle.std.specs.Prelude.{◌≡◌, ℕ, ◌<◌, true, List}
use Rattle.ss_origin.specs.declared.grouping.Grouping.{Grouping}
use Rattle.ss_origin.specs.Groups.{is_grouping, has_group}
use Rattle.ss_origin.specs.Calls.{spri_in}

-- a message's group is one of the grouping's
abbrev pub MessagesHaveGroups : Type 0
MessagesHaveGroups = (grouping : Grouping) (message : List ℕ) → is_grouping grouping ≡ true
    → has_group grouping (spri_in grouping message) ≡ true

-- the SPRI of a message's group is below 192
abbrev pub SprisAreSmall : Type 0
SprisAreSmall = (grouping : Grouping) (message : List ℕ) → is_grouping grouping ≡ true → spri_in grouping message < 192
