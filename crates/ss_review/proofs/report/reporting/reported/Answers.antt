use Rattle.std.proofs.Common.{◌≡◌, ◌<◌, not, List, length, map, filter, refl, sym, ap, ◌∙◌, subst}
use Rattle.std.specs.Prelude.{All}
use Rattle.std.specs.List.{zip}
use Rattle.std.specs.List.Sorted.{IsStrictlySortedBy}
use Rattle.ss_review.specs.keep.Contents.{Contents}
use Rattle.ss_review.specs.keep.BlockMessage.{BlockMessage}
use Rattle.ss_review.specs.sessions.Verified.{is_verified}
use Rattle.ss_review.specs.announced.Announced.{row_cmp, rows, keys}
use Rattle.ss_review.specs.announced.Indexed.{row_at}
use Rattle.ss_review.specs.assign.Assigning.{assigned_all}
use Rattle.ss_review.specs.declared.announced.announced_hash.AnnouncedHash as row
use Rattle.ss_review.specs.report.Grouped.{found_with, with_entry}
use Rattle.ss_review.specs.announced.Numbered.{key_of, only_hashes, session_with_joined, sessions_joined}
use Rattle.ss_review.specs.declared.report.report.Report.{Report}
use Rattle.ss_review.specs.report.Report.{report_of}
use Rattle.ss_review.proofs.of_assignment.Wanting.{assigned_is}
use Rattle.ss_review.proofs.report.reporting.reported.Goals as goal

pub returns : goal.returns
unfolding report_of
returns g c = λ says log has blocks spoilt count told marked.
    let bs = c.args.held.blocks.items in
    let here : Contents = record { normal = log.normal; blocks = bs; spoilt = c.args.held.spoilt.now; count = c.args.held.count } in
    let rs = rows says bs in
    let joined : map session_with_joined c.args.sessions.now ≡ sessions_joined says bs = told ∙ ap (sessions_joined says) (sym blocks) in
    let marks : c.args.verified.items ≡ map (is_verified says bs) bs = marked ∙ (λ i. map (is_verified says (sym blocks i)) (sym blocks i)) in
    let js = c.args.sessions.now in
    let announced : map (row_at js) c.in_ok-rows.rows.items ≡ rs = c.in_ok-rows.ensures.rows says joined marks in
    let all = c.in_ok-rows.rows.items in
    let known = c.in_ok-rows.ensures.known in
    let rise = c.in_ok-rows.ensures.rise in
    let told_of : (os : List row.AnnouncedHash) → os ≡ all → All (λ r. r.number.session < length js) os × IsStrictlySortedBy row_cmp (map (row_at js) os) × (map (row_at js) os ≡ rs)
    = λ os e. subst (λ qs. All (λ r. r.number.session < length js) qs × IsStrictlySortedBy row_cmp (map (row_at js) qs) × (map (row_at js) qs ≡ rs)) (sym e) (known, rise, announced) in
    let for_hashes = told_of _ c.as_slice-3.ensures.value in
    let hashes = c.as_slice-4.ensures.value ∙ c.in_ok-hashes.ensures js c.requires for_hashes.0 for_hashes.1 ∙ ap only_hashes for_hashes.2 in
    let for_numbers = told_of _ c.as_slice-7.ensures.value in
    let numbers = c.in_ok-numbers.ensures ∙ ap keys for_numbers.2 in
    let places = c.in_ok-places.ensures log.normal has ∙ ap (assigned_all log.normal) hashes ∙ assigned_is log.normal rs in
    let own_hashes = c.as_slice-5.ensures.value ∙ c.in_ok-hashes.ensures js c.requires for_hashes.0 for_hashes.1 ∙ ap only_hashes for_hashes.2 in
    let own_places = c.as_slice-6.ensures.value ∙ places in
    let found = c.as_slice-9.ensures.value ∙ c.in_ok-found.ensures ∙ (λ i. map found_with (zip (own_hashes i) (own_places i))) in
    let entries = ap (map with_entry) c.as_slice-10.ensures.value ∙ c.in_ok-entries.ensures log.normal rs (ap (map key_of) c.as_slice-8.ensures.value ∙ numbers) found in
    let sessions = c.in_ok-session_reports.ensures says here rs refl joined entries in
    let unlisted = c.in_ok-unlisted.ensures log.normal rs (c.as_slice-11.ensures.value ∙ c.in_ok-stored.ensures log.normal has) (c.as_slice-12.ensures.value ∙ places) in
    let refused = c.refused.view_is ∙ c.in_ok-refused.ensures (is_verified says bs) (c.as_slice-2.ensures.value ∙ marks ∙ ap (map (is_verified says bs)) (sym c.as_slice.ensures.value)) ∙ ap (λ ds. map (λ (b : BlockMessage). b.place) (filter (λ b. not (is_verified says bs b)) ds)) c.as_slice.ensures.value in
    let kept = c.from_vec.ensures ∙ c.in_ok-from_slice.ensures.items in
    let report : Report = record { sessions = c.in_ok-session_reports.field-0; unlisted = c.in_ok-unlisted.field-0; refused = c.refused.inside.items.items; spoilt = c.from_vec.result; count = c.args.held.count } in
    let told_here : report ≡ report_of says here = λ i. record { sessions = sessions i; unlisted = unlisted i; refused = refused i; spoilt = kept i; count = c.args.held.count } in
    told_here ∙ (λ i. report_of says (record { normal = log.normal; blocks = blocks i; spoilt = spoilt i; count = count i }))
