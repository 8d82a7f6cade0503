-- What became of each number and of each signature block, in a report by given payloads.
use Rattle.std.proofs.Common.{◌≡◌, inl, inr, List, sym, subst}
use Rattle.ss_review.specs.declared.counted.shortfall.LogShortfalls.{LogShortfalls}
use Rattle.ss_review.specs.keep.BlockMessage.{BlockMessage}
use Rattle.ss_review.specs.declared.report.report.Report.{Report}
use Rattle.ss_review.specs.announced.Announced.{Key}
use Rattle.ss_review.specs.announced.Announcing.{IsAnnounced}
use Rattle.ss_review.specs.counted.CountedLaws.{IsCounted}
use Rattle.ss_review.specs.counted.KeptLaws as fates
use Rattle.ss_review.specs.counted.KeptLaws.{shortfalls_of, IsInTail, IsInRunOf, Fate, HasFate}
use Rattle.ss_review.specs.keep.Contents.{contents}
use Rattle.ss_review.specs.keep.Notes.{notes}
use Rattle.ss_review.specs.report.Report.{report}
use Rattle.ss_review.specs.pinned.Pinned.{pinned_report}
use Rattle.ss_review.specs.pinned.Stands.{PinnedReportsAreOfLogs, pinned_shortfalls}
use Rattle.ss_laws.specs.strangers.PinnedReports.{EveryNumberIsTold, EveryBlockIsTold}
use Rattle.ss_laws.proofs.of_ahead.Reported.{told_in, hole_in}

-- a fate in one report is one in another with equal sessions, beside equal shortfalls
fate_in : (r q : Report) (all others : LogShortfalls) (k : Key) → r.sessions ≡ q.sessions → all ≡ others → (fate : Fate) → HasFate r all k fate → HasFate q others k fate
fate_in r q all others k same missing fates.Listed l = (l.0, told_in r q k.session k.group _ same l.1)
fate_in r q all others k same missing fates.Gap g = (g.0, told_in r q k.session k.group _ same g.1)
fate_in r q all others k same missing fates.Hole h = hole_in r q k same h
fate_in r q all others k same missing fates.Tail t = subst (λ a. IsInTail a k) missing t

pub every_number : fates.EveryNumberIsTold → PinnedReportsAreOfLogs → EveryNumberIsTold
every_number every of_log says ps log cs k =
    let w = of_log says ps log in
    let other = w.0 in
    let like = w.1 in
    let r = report says other in
    let q = pinned_report says ps (contents (notes log)) in
    let all = shortfalls_of says other cs in
    let missing = like.missing cs in
    let told = every says other cs k in (
      λ some below.
          (let f = told.0 some below in (
            f.0,
            fate_in r q all (pinned_shortfalls says ps log cs) k like.sessions missing f.0 f.1,
            λ fate h. f.2 fate (fate_in q r (pinned_shortfalls says ps log cs) all k (sym like.sessions) (sym missing) fate h),
          )),
      λ t.
          (let f = told.1 (subst (λ a. IsInTail a k) (sym missing) t) in
          (f.0, subst (λ (bs : List BlockMessage). ¬ IsAnnounced says bs k) like.blocks_are f.1)),
    )

pub every_block : fates.EveryBlockIsTold → PinnedReportsAreOfLogs → EveryBlockIsTold
every_block every of_log says ps log cs s gbc =
    let w = of_log says ps log in
    let like = w.1 in
    let missing = like.missing cs in
    let told = every says w.0 cs s gbc in (
      λ below.
          (elim (told.0 below) [
            | inl c ↦ inl (subst (λ (bs : List BlockMessage). IsCounted says bs s gbc) like.blocks_are c)
            | inr r ↦ inr (subst (λ a. IsInRunOf a s gbc) missing r)
          ]),
      λ c r.
          told.1 (subst (λ (bs : List BlockMessage). IsCounted says bs s gbc) (sym like.blocks_are) c) (subst (λ a. IsInRunOf a s gbc) (sym missing) r),
    )
