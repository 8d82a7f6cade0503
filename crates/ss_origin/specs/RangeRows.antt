-- Groups of some PRI, and what is in range.
use Rattle.std.specs.Prelude.{◌≡◌, ℕ, Bool, true, false, List, [], ◌∷◌, map}
use Rattle.ss_origin.specs.declared.grouping.Grouping.{Grouping}
use Rattle.ss_origin.specs.declared.grouping.Grouping.TheVariants.{One, ByPri, Ranges}
use Rattle.ss_origin.specs.declared.counters.NextNumber.{NextNumber}
use Rattle.ss_origin.specs.Groups.{sg_of, spri_of, is_grouping}
use Rattle.ss_origin.specs.Configs.{is_config}
use Rattle.ss_origin.specs.Counting.{are_counters}
use Rattle.ss_origin.specs.Rows.{in_twos}

-- PRI 0 to 15, 16 to 100, and 101 to 191
abbrev pub in_three : Grouping
in_three = Ranges (15 ∷ 100 ∷ 191 ∷ [])

abbrev pub next_of : ℕ → ℕ → NextNumber
next_of spri number = record { spri = spri; number = number }

abbrev pub may_resume : Grouping → ℕ → List NextNumber → Bool
may_resume grouping gbc groups = are_counters grouping (record { gbc = gbc; groups = groups })

pub record AreTheRanges : Type 0 where
  pub in_ranges : map (spri_of in_three) (0 ∷ 15 ∷ 16 ∷ 100 ∷ 101 ∷ 191 ∷ []) ≡ 15 ∷ 15 ∷ 100 ∷ 100 ∷ 191 ∷ 191 ∷ []
  pub by_pri : map (spri_of ByPri) (0 ∷ 13 ∷ 191 ∷ []) ≡ 0 ∷ 13 ∷ 191 ∷ []
  pub in_one : map (spri_of (One 7)) (0 ∷ 13 ∷ 191 ∷ []) ≡ 7 ∷ 7 ∷ 7 ∷ []
  pub sg : map sg_of (One 7 ∷ ByPri ∷ in_three ∷ []) ≡ 0 ∷ 1 ∷ 2 ∷ []
  pub groupings : map is_grouping (One 0 ∷ One 191 ∷ ByPri ∷ in_three ∷ Ranges (191 ∷ []) ∷ [])
      ≡ true ∷ true ∷ true ∷ true ∷ true ∷ []
  -- an SPRI of 192; no bound; bounds that end before 191, end after it, stand twice, and fall
  pub no_groupings : map is_grouping (One 192 ∷ Ranges [] ∷ Ranges (15 ∷ 100 ∷ []) ∷ Ranges (15 ∷ 192 ∷ [])
      ∷ Ranges (15 ∷ 15 ∷ 191 ∷ []) ∷ Ranges (100 ∷ 15 ∷ 191 ∷ []) ∷ [])
      ≡ false ∷ false ∷ false ∷ false ∷ false ∷ false ∷ []
  pub rsid : map (λ n. is_config (record in_twos { rsid = n })) (0 ∷ 9999999999 ∷ 10000000000 ∷ [])
      ≡ true ∷ true ∷ false ∷ []
  pub per_block : map (λ n. is_config (record in_twos { per_block = n })) (0 ∷ 1 ∷ 99 ∷ 100 ∷ [])
      ≡ false ∷ true ∷ true ∷ false ∷ []
  pub copies : map (λ n. is_config (record in_twos { copies = n })) (0 ∷ 1 ∷ 9 ∷ 10 ∷ [])
      ≡ false ∷ true ∷ true ∷ false ∷ []
  pub frag : map (λ n. is_config (record in_twos { frag = n })) (0 ∷ 1 ∷ 9999 ∷ 10000 ∷ [])
      ≡ false ∷ true ∷ true ∷ false ∷ []
  pub grouping : map (λ g. is_config (record in_twos { grouping = g })) (in_three ∷ Ranges [] ∷ []) ≡ true ∷ false ∷ []
  pub gbc : map (λ n. may_resume ByPri n []) (0 ∷ 10000000000 ∷ 10000000001 ∷ []) ≡ true ∷ true ∷ false ∷ []
  pub number : map (λ n. may_resume ByPri 0 (next_of 13 n ∷ [])) (0 ∷ 1 ∷ 10000000000 ∷ 10000000001 ∷ [])
      ≡ false ∷ true ∷ true ∷ false ∷ []
  -- SPRI that rise, stand twice, and fall
  pub order : map (λ spri. may_resume ByPri 0 (next_of 13 1 ∷ next_of spri 1 ∷ [])) (14 ∷ 13 ∷ 12 ∷ [])
      ≡ true ∷ false ∷ false ∷ []
  pub spri : map (λ spri. may_resume ByPri 0 (next_of spri 1 ∷ [])) (0 ∷ 191 ∷ 192 ∷ []) ≡ true ∷ true ∷ false ∷ []
  pub spri_of_one : map (λ spri. may_resume (One 7) 0 (next_of spri 1 ∷ [])) (7 ∷ 13 ∷ []) ≡ true ∷ false ∷ []
  pub spri_of_ranges : map (λ spri. may_resume in_three 0 (next_of spri 1 ∷ [])) (15 ∷ 16 ∷ 191 ∷ [])
      ≡ true ∷ false ∷ true ∷ []
