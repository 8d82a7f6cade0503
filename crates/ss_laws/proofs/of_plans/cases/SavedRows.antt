-- Small counters that are saved, computed.
use Rattle.std.proofs.Common.{◌≡◌, ℕ, ◌≤◌, Bool, true, false, cond, max, [], refl, ap, ◌∙◌, subst, arith}
use Rattle.std.specs.Cmp.{Equal-is}
use Rattle.std.specs.List.{AllByRecursion}
use Rattle.std.proofs.lemmas.List.Elements.{All-from_recursion}
use Rattle.std.specs.Fmt.{digits}
use Rattle.ss_message.specs.Octets.{is_text}
use Rattle.ss_block.specs.Order.{group_cmp}
use Rattle.ss_block.specs.OrderLaws.{group_cmp_exact}
use Rattle.ss_origin.specs.Counting.{are_counters}
use Rattle.ss_origin.specs.Groups.{group_of}
use Rattle.ss_review.specs.counted.CounterRange.{IsCounter, IsSession}
use Rattle.ss_review.specs.counted.Kept.{gbc_in, kept_gbc, kept_number, number_in}
use Rattle.ss_review.specs.report.Entries.{same_group}
use Rattle.ss_laws.specs.plans.ReadBack.{number_of, saved}
use Rattle.ss_laws.specs.plans.cases.SavedRows.{SavedRowsAreThese, newer, number_at, older, own, told, two}
use Rattle.ss_laws.proofs.of_plans.SavedLines.{text_is_part}

is_own : IsSession own
unfolding is_text
is_own = record { host = refl; app = refl; procid = refl; rsid = omega arith }

is_other : IsSession (record own { rsid = 2 })
unfolding is_text
is_other = record { host = refl; app = refl; procid = refl; rsid = omega arith }

older_are : AllByRecursion IsCounter older
older_are = (
  record { session = is_own; next = omega arith },
  (
    record { session = is_own; next = (record { sg = omega arith; spri = omega arith }, omega arith, omega arith) },
    (record { session = is_other; next = omega arith }, tt),
  ),
)

newer_are : AllByRecursion IsCounter newer
newer_are =
    (record { session = is_own; next = (record { sg = omega arith; spri = omega arith }, omega arith, omega arith) }, tt)

small_numbers : (spri : ℕ) → kept_number older own (group_of two spri) ≤ number_of told.groups spri
unfolding number_in
small_numbers spri = by (same_group (group_of two 10) (group_of two spri)) refl
  where
    by : (b : Bool) → same_group (group_of two 10) (group_of two spri) ≡ b → max 0 (cond b 4 0) ≤ number_of told.groups spri
    by true e =
        let same : 10 ≡ spri = ap (λ g. g.spri) (group_cmp_exact (group_of two 10) (group_of two spri) ((Equal-is (group_cmp (group_of two 10) (group_of two spri))).0 e)) in
        subst (λ q. 4 ≤ number_of told.groups q) same (omega arith)
    by false e = omega arith

few_blocks : kept_gbc older own ≤ 3
unfolding gbc_in
few_blocks = omega arith

pub saved_rows : SavedRowsAreThese
unfolding are_counters digits gbc_in number_in
saved_rows = record {
  session = is_own;
  grouped = refl;
  ranged = refl;
  older_in_range = All-from_recursion IsCounter older older_are;
  newer_in_range = All-from_recursion IsCounter newer newer_are;
  no_greater = record { gbc = few_blocks; numbers = λ spri below. small_numbers spri; own_groups = refl };
  text = text_is_part own 2 told ∙ refl;
  alone = refl;
  with_older = refl;
  with_newer = refl;
  of_another_group = (
    refl,
    record {
      before = saved own 2 told;
      other = number_at 1 10 4;
      behind = [];
      counters_are = refl;
      none_before = refl;
      is_other = refl;
      number_is = refl;
    },
  );
  not_named = refl;
  number_0 = refl;
}
