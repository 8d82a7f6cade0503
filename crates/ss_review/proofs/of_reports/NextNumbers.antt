-- The number behind those of the entries so far, and of the rest.
use Rattle.std.proofs.Common.{◌≡◌, ℕ, ◌+◌, ◌-◌, ◌^◌, ◌<◌, ◌≤◌, List, ◌∷◌, map, fold, flat_map, sym, ap, ◌∙◌, arith}
use Rattle.std.specs.Prelude.{max, min}
use Rattle.ss_review.specs.declared.report.entry.Entry.{Entry}
use Rattle.ss_review.specs.declared.report.entry.Entry.TheVariants as entry
use Rattle.ss_review.specs.counted.Counted.{next_after, number_announced}
use Rattle.ss_review.proofs.of_reports.EntriesRise.{fold_max-from}

abbrev pub behind : ℕ → List Entry → ℕ
behind next es = fold max next (map (λ n. n + 1) (flat_map number_announced es))

behind_more : (next : ℕ) (e : Entry) (es : List Entry) → behind next (e ∷ es) ≡ behind (max next (next_after (number_announced e))) es
behind_more next (entry.Listed n place) es =
    let same : max next (n + 1) ≡ max next (max 0 (n + 1)) = omega arith in
    ap (λ m. behind m es) same
behind_more next (entry.Gap n why) es =
    let same : max next (n + 1) ≡ max next (max 0 (n + 1)) = omega arith in
    ap (λ m. behind m es) same
behind_more next (entry.Hole first last) es =
    let same : next ≡ max next 0 = omega arith in
    ap (λ m. behind m es) same

-- one entry more, as long as the whole is a number of 64 bits
pub behind_next : (next own : ℕ) (e : Entry) (es : List Entry) (whole : ℕ) → whole < 2 ^ 64 → behind next (e ∷ es) ≡ whole → own ≡ min (next_after (number_announced e)) (2 ^ 64 - 1) → behind (max next own) es ≡ whole
behind_next next own e es whole small told is =
    let next_own = next_after (number_announced e) in
    let all : behind (max next next_own) es ≡ whole = sym (behind_more next e es) ∙ told in
    let least : max next next_own ≤ behind (max next next_own) es = fold_max-from (max next next_own) (map (λ (n : ℕ). n + 1) (flat_map number_announced es)) in
    let same : own ≡ next_own = omega (arith, small, all, least, is) in
    ap (λ m. behind (max next m) es) same ∙ all
