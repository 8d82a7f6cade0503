-- Small logs of two nights that have schemes of their own: one where they agree with one scheme, and one where they don't.
use Rattle.std.specs.Prelude.{◌≡◌, ◌||◌, ℕ, zero, suc, true, [], ◌∷◌}
use Rattle.std.specs.Str.{bytes_eq}
use Rattle.ss_review.specs.declared.report.entry.Entry.TheVariants as entry
use Rattle.ss_review.specs.declared.report.session_report.SessionState.TheVariants as states
use Rattle.ss_review.specs.report.Report.{report_of}
use Rattle.ss_review.specs.report.Rows.{sent_by, yes, for_certificates}
use Rattle.ss_review.specs.sessions.Verified.{Answers}
use Rattle.ss_laws.specs.carry.Nights.{Nights, so_far}
use Rattle.ss_laws.specs.carry.cases.NightRows.{told_of, listed_in, one_listed, each_its_own}
use Rattle.ss_laws.specs.carry.Together.{FilesFollow, AgreeLater}
use Rattle.ss_laws.specs.carry.CarriedNights.{carried_nights}
use Rattle.ss_laws.specs.carry.cases.CounterRows.{cut_at}
use Rattle.ss_laws.specs.carry.OwnAnswers.{AgreeOnNights, LeaveEnoughByOwn, own_report}

-- ---- the schemes

-- the payload `- N` alone is trusted, and nothing is valid under another one
abbrev pub one_payload : Answers
one_payload = record {
  trusted = λ payload. bytes_eq payload (45 ∷ 32 ∷ 78 ∷ []);
  valid = λ payload octets signature. bytes_eq payload (45 ∷ 32 ∷ 78 ∷ []);
}

-- the two kinds of signed octets that the logs have are valid, and no others
abbrev pub two_kinds : Answers
two_kinds = record {
  trusted = λ payload. true;
  valid = λ payload octets signature. bytes_eq octets (1 ∷ []) || bytes_eq octets (2 ∷ []);
}

-- the first scheme in the first night, and the second one in each later night
abbrev pub at_first : Answers → Answers → ℕ → Answers
at_first one other zero = one
at_first one other (suc night) = other

-- each answers what its night asks as `yes` does, and something else as it doesn't
abbrev pub answered : ℕ → Answers
answered = at_first one_payload two_kinds

-- the answers file of the first night lacks its signature block
abbrev pub unanswered : ℕ → Answers
unanswered = at_first for_certificates yes

-- ---- the logs

-- the log of `each_its_own`, where the first night leaves over what it carries over by its own scheme
abbrev pub left_out : Nights
left_out = carried_nights for_certificates (cut_at 3) each_its_own.whole

pub record OwnNightsAreThese : Type 0 where
  -- all premises hold
  pub answered_agree : AgreeOnNights yes answered each_its_own 1
  pub answered_leave : LeaveEnoughByOwn answered each_its_own 1
  pub answered_follow : FilesFollow each_its_own
  pub answered_later : AgreeLater yes each_its_own 1
  pub answered_first : own_report answered each_its_own 0 ≡ one_listed (104 ∷ [])
  pub answered_last : own_report answered each_its_own 1
      ≡ told_of (listed_in (104 ∷ []) (entry.Hole 1 1 ∷ entry.Listed 2 3 ∷ [])) [] [] 3
  pub answered_whole : report_of yes (so_far each_its_own 1)
      ≡ told_of (listed_in (104 ∷ []) (entry.Listed 1 1 ∷ entry.Listed 2 3 ∷ [])) [] [] 5
  -- no scheme agrees with both nights, and the nights report something else than the whole
  pub unanswered_leave : LeaveEnoughByOwn unanswered left_out 1
  pub unanswered_differ : (says : Answers) → ¬ AgreeOnNights says unanswered left_out 1
  pub unanswered_first : own_report unanswered left_out 0
      ≡ told_of (record { session = sent_by (104 ∷ []) 1; state = states.Joined; groups = [] } ∷ []) (1 ∷ []) (2 ∷ []) 3
  pub unanswered_last : own_report unanswered left_out 1
      ≡ told_of (listed_in (104 ∷ []) (entry.Hole 1 1 ∷ entry.Listed 2 3 ∷ [])) (1 ∷ []) [] 4
  pub unanswered_whole : report_of yes (so_far left_out 1)
      ≡ told_of (listed_in (104 ∷ []) (entry.Listed 1 1 ∷ entry.Listed 2 3 ∷ [])) [] [] 5
