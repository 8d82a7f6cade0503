-- Each GBC below its session's counter is there or told as missing.
use Rattle.std.proofs.Common.{◌≡◌, ◌⊎◌, inl, inr, ℕ, ◌<◌, List, map, fold, sym, ap, ◌∙◌, subst, arith}
use Rattle.std.specs.Prelude.{max}
use Rattle.ss_block.specs.declared.session.Session.{Session}
use Rattle.ss_block.specs.OrderLaws.{session_cmp_total, session_cmp_exact}
use Rattle.ss_review.specs.declared.counted.counter.Counter.{Counter}
use Rattle.ss_review.specs.declared.counted.missing.MissingRun.{MissingRun}
use Rattle.ss_review.specs.declared.counted.shortfall.Shortfall.{Shortfall}
use Rattle.ss_review.specs.keep.Notes.{notes}
use Rattle.ss_review.specs.keep.Contents.{blocks}
use Rattle.ss_review.specs.sessions.Sessions.{same_session}
use Rattle.ss_review.specs.sessions.Verified.{Answers}
use Rattle.ss_review.specs.counted.Counted.{gbcs, missing}
use Rattle.ss_review.specs.counted.CountedLaws.{IsCounted, IsInRun, CountedAreVerified, CountedOrMissing}
use Rattle.ss_review.specs.counted.Kept.{counters_of, kept_sessions, kept_gbc, gbc_in, blocks_said, end_of_blocks}
use Rattle.ss_review.specs.counted.KeptLaws.{shortfalls_of, IsInRunOf, EveryBlockIsTold}
use Rattle.ss_octets.proofs.Members.{Has, has-map, from_has-map, from_has-filter}
use Rattle.ss_review.proofs.of_reports.EntriesMeant.{greatest_of}
use Rattle.ss_review.proofs.of_lists.Rising.{has-in_order}
use Rattle.ss_review.proofs.of_counters.Shortfalls.{IsOf, told_is, there, is_same}

-- a session of which a counter says something is one that has a counter
pub has_kept : (cs : List Counter) (s : Session) (f : Counter → ℕ) (n : ℕ) → n < fold max 0 (map f (counters_of cs s)) → (c : Counter) × Has cs c × (c.session ≡ s) × (f c ≡ fold max 0 (map f (counters_of cs s)))
has_kept cs s f n less =
    elim (greatest_of 0 (map f (counters_of cs s))) [
      | inl none ↦ absurd (omega (arith, less, none))
      | inr h ↦ (
          let w = from_has-map f (counters_of cs s) (fold max 0 (map f (counters_of cs s))) h in
          let c = from_has-filter (λ (d : Counter). same_session d.session s) cs w.0 w.1 in
          (w.0, c.0, is_same w.0.session s c.1, w.2))
    ]

pub session_kept : (cs : List Counter) (s : Session) (c : Counter) → Has cs c → c.session ≡ s → Has (kept_sessions cs) s
unfolding kept_sessions
session_kept cs s c h e =
    has-in_order session_cmp_total session_cmp_exact s (map (λ (d : Counter). d.session) cs)
    (subst (Has (map (λ (d : Counter). d.session) cs)) e (has-map (λ (d : Counter). d.session) cs c h))

gbc_kept : (cs : List Counter) (s : Session) (gbc : ℕ) → gbc < kept_gbc cs s → Has (kept_sessions cs) s
unfolding gbc_in
gbc_kept cs s gbc less =
    let w = has_kept cs s (λ c. blocks_said c.counts c.next) gbc less in
    session_kept cs s w.0 w.1 w.2

module _ (verified : CountedAreVerified) (missed : CountedOrMissing) (says : Answers) (log : List (List ℕ)) (cs : List Counter) where
  blocks_are : (f : Shortfall) → IsOf says log cs f → f.blocks ≡ missing (gbcs says (blocks (notes log)) f.session) (end_of_blocks (counters_of cs f.session) (gbcs says (blocks (notes log)) f.session))
  blocks_are f o = ap (λ (g : Shortfall). g.blocks) o.is

  run_told : (s : Session) (gbc : ℕ) → gbc < kept_gbc cs s → IsCounted says (blocks (notes log)) s gbc ⊎ IsInRunOf (shortfalls_of says log cs) s gbc
  run_told s gbc less =
      let w = there says log cs s (gbc_kept cs s gbc less) in
      let f = w.shortfall in
      let o = told_is says log cs verified f w.told in
      let own = counters_of cs s in
      let end = end_of_blocks own (gbcs says (blocks (notes log)) s) in
      let below : gbc < end = omega (arith, less) in
      let at : f.blocks ≡ missing (gbcs says (blocks (notes log)) s) end
      = blocks_are f o ∙ ap (λ t. missing (gbcs says (blocks (notes log)) t) (end_of_blocks (counters_of cs t) (gbcs says (blocks (notes log)) t))) w.session_is in
      elim ((missed says log s end).there_or_missing gbc below) [
        | inl c ↦ inl c
        | inr r ↦ inr (record { shortfall = f; told = w.told; session_is = w.session_is; run = subst (λ (rs : List MissingRun). IsInRun rs gbc) (sym at) r })
      ]

  never_both : (s : Session) (gbc : ℕ) → IsCounted says (blocks (notes log)) s gbc → ¬ IsInRunOf (shortfalls_of says log cs) s gbc
  never_both s gbc c r =
      let f = r.shortfall in
      let o = told_is says log cs verified f r.told in
      let end = end_of_blocks (counters_of cs f.session) (gbcs says (blocks (notes log)) f.session) in
      (missed says log f.session end).never_both gbc (subst (λ t. IsCounted says (blocks (notes log)) t gbc) (sym r.session_is) c)
      (subst (λ (rs : List MissingRun). IsInRun rs gbc) (blocks_are f o) r.run)

pub every_block : CountedAreVerified → CountedOrMissing → EveryBlockIsTold
every_block verified missed says log cs s gbc = (run_told verified missed says log cs s gbc, never_both verified missed says log cs s gbc)
