-- Each report is computed.
use Rattle.std.proofs.Common.{◌≡◌, [], refl}
use Rattle.std.proofs.lemmas.List.Elements.{All-nil, All-cons}
use Rattle.ss_octets.specs.Cut.{parts_at}
use Rattle.ss_block.specs.PayloadReading.{stamp_in, stamp_and_rest_in, blob_in, payload_in}
use Rattle.ss_review.specs.Ordered.{in_order}
use Rattle.ss_review.specs.sessions.Payloads.{is_disputed, cover, joined_text, stated_payload}
use Rattle.ss_review.specs.sessions.Verified.{joined, is_verified}
use Rattle.ss_review.specs.announced.Announced.{rows, keys}
use Rattle.ss_review.specs.assign.Assigned.{pair_of_bearer, places_with, wanted, rank, assigned, is_taken}
use Rattle.ss_review.specs.counted.Counted.{gbcs, next_number, missing}
use Rattle.ss_review.specs.counted.Kept.{gbc_in, number_in, groups_in, kept_sessions, tails_in, log_shortfalls}
use Rattle.ss_review.specs.report.Entries.{group_keys, entries}
use Rattle.ss_review.specs.report.Report.{report_of}
use Rattle.ss_review.specs.report.Verdict.{is_clean}
use Rattle.ss_review.specs.declared.counted.shortfall.Shortfall.{Shortfall}
use Rattle.ss_between.specs.Between.{entry_left, tail_left, run_left, shortfall_left, absent_left, numbers_between, runs_from, early_of, beyond_of, beyond, session_between, SessionBetween}
use Rattle.ss_laws.proofs.nights.cases.whole_nights_are_these.Goals as goal

pub returns : goal.returns
unfolding parts_at stamp_in stamp_and_rest_in blob_in payload_in in_order is_disputed cover joined_text stated_payload joined is_verified rows keys pair_of_bearer places_with wanted rank assigned is_taken gbcs next_number missing gbc_in number_in groups_in kept_sessions tails_in log_shortfalls group_keys entries report_of is_clean entry_left tail_left run_left shortfall_left absent_left numbers_between runs_from early_of beyond_of beyond session_between
returns c = record {
  first_night = record {
    clean = refl;
    nothing_missing = record {
      tails = All-cons (λ (f : Shortfall). f.tails ≡ []) _ [] refl (All-nil (λ (f : Shortfall). f.tails ≡ []));
      blocks = All-cons (λ (f : Shortfall). f.blocks ≡ []) _ [] refl (All-nil (λ (f : Shortfall). f.blocks ≡ []));
      sessions = refl;
    };
    no_early = All-cons (λ (b : SessionBetween). b.early ≡ []) _ [] refl (All-nil (λ (b : SessionBetween). b.early ≡ []));
    no_beyond = All-cons (λ (b : SessionBetween). b.beyond ≡ []) _ [] refl (All-nil (λ (b : SessionBetween). b.beyond ≡ []));
  };
  second_night = record {
    clean = refl;
    nothing_missing = record {
      tails = All-cons (λ (f : Shortfall). f.tails ≡ []) _ [] refl (All-nil (λ (f : Shortfall). f.tails ≡ []));
      blocks = All-cons (λ (f : Shortfall). f.blocks ≡ []) _ [] refl (All-nil (λ (f : Shortfall). f.blocks ≡ []));
      sessions = refl;
    };
    no_early = All-cons (λ (b : SessionBetween). b.early ≡ []) _ [] refl (All-nil (λ (b : SessionBetween). b.early ≡ []));
    no_beyond = All-cons (λ (b : SessionBetween). b.beyond ≡ []) _ [] refl (All-nil (λ (b : SessionBetween). b.beyond ≡ []));
  };
  whole = refl;
  twin_night = record {
    clean = refl;
    nothing_missing = record {
      tails = All-cons (λ (f : Shortfall). f.tails ≡ []) _ [] refl (All-nil (λ (f : Shortfall). f.tails ≡ []));
      blocks = All-cons (λ (f : Shortfall). f.blocks ≡ []) _ [] refl (All-nil (λ (f : Shortfall). f.blocks ≡ []));
      sessions = refl;
    };
    no_early = All-cons (λ (b : SessionBetween). b.early ≡ []) _ [] refl (All-nil (λ (b : SessionBetween). b.early ≡ []));
    no_beyond = All-cons (λ (b : SessionBetween). b.beyond ≡ []) _ [] refl (All-nil (λ (b : SessionBetween). b.beyond ≡ []));
  };
  whole_with_twins = refl;
  other_payload_night = record {
    clean = refl;
    nothing_missing = record {
      tails = All-cons (λ (f : Shortfall). f.tails ≡ []) _ [] refl (All-nil (λ (f : Shortfall). f.tails ≡ []));
      blocks = All-cons (λ (f : Shortfall). f.blocks ≡ []) _ [] refl (All-nil (λ (f : Shortfall). f.blocks ≡ []));
      sessions = refl;
    };
    no_early = All-cons (λ (b : SessionBetween). b.early ≡ []) _ [] refl (All-nil (λ (b : SessionBetween). b.early ≡ []));
    no_beyond = All-cons (λ (b : SessionBetween). b.beyond ≡ []) _ [] refl (All-nil (λ (b : SessionBetween). b.beyond ≡ []));
  };
  whole_with_payloads = refl;
}
