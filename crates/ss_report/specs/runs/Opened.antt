-- A review whose log was read, and whose answers aren't there yet.
use Rattle.ss_frame.specs.Watched.{Source}
use Rattle.ss_report.specs.declared.log.read_options.ReadOptions.{ReadOptions}
use Rattle.ss_report.specs.declared.runs.open_review.OpenReview.{OpenReview}
use Rattle.ss_report.specs.log.Fed.{FeedsLog}

-- the log was read to its end, and the review keeps what it needs of its messages
abbrev pub HasRead : ReadOptions → (before after : Source) → OpenReview → Type 0
HasRead options before after review = FeedsLog options before after review.fed.reviewer review.fed.ending
