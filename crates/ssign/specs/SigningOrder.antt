-- What `plan` and `sign` do, by their options and by the files that they name.
use Rattle.std.specs.Prelude.{◌≡◌, ◌⊎◌, ℕ, true, List, Option, Some, None, Result, Ok, Err, codes}
use Rattle.clap.specs.declared.parser.matches.ArgMatches.{ArgMatches}
use Rattle.ss_block.specs.Writing.{head_session}
use Rattle.ss_frame.specs.Limits.{Allowance}
use Rattle.ss_frame.specs.Watched.{Source, Sink}
use Rattle.ss_origin.specs.declared.config.Config.{Config}
use Rattle.ss_origin.specs.Counting.{are_counters}
use Rattle.ss_origin.specs.declared.counters.Counters.{Counters}
use Rattle.ss_review.specs.declared.counted.counter.Counter.{Counter}
use Rattle.ss_report.specs.declared.verdict.verdict.Verdict.{Verdict}
use Rattle.ss_report.specs.declared.verdict.verdict.Verdict.TheVariants.{Clean, Findings}
use Rattle.ss_signing.specs.Accepted.{started}
use Rattle.ss_signing.specs.Run.{Job, Signs, Stops}
use Rattle.ss_answers.specs.Answers.{Answer}
use Rattle.ss_answers.specs.Start.{IsStartFault, start_of}
use Rattle.ssign.specs.CommandLine.{form_of, is_given}
use Rattle.ssign.specs.GivenFiles.{Contents, Gives}
use Rattle.ssign.specs.LogOrder.{GivesLimits, HasLimits, path_in}
use Rattle.ssign.specs.Settings.{HasChoices, HasTexts, IsRead}
use Rattle.ssign.specs.Signing.{signing_job}
use Rattle.ssign.specs.declared.choices.Choices.{Choices}
use Rattle.ssign.specs.declared.refusal.Refusal.{Refusal}
use Rattle.ssign.specs.declared.refusal.Refusal.TheVariants as refusals
use Rattle.ssign.specs.declared.settings.Settings.{Settings}
use Rattle.ssign.specs.declared.settings.Texts.{Texts}
use Rattle.ssign.specs.declared.signing.Sending.{Sending}
use Rattle.ssign.specs.declared.signing.Signing.{Signing}
use Rattle.ssign.specs.declared.start.StartRefusal.{StartRefusal}
use Rattle.ssign.specs.declared.start.StartRefusal.TheVariants as starts

-- ---- what the options say

-- an option isn't there, or has no number in its range
abbrev pub HasNoSettings : ArgMatches → Type 0
HasNoSettings m = (c : Choices) (t : Texts) → HasChoices m c → HasTexts m t → ⊥

-- how a log is signed beside its settings
abbrev pub IsSending : ArgMatches → Sending → Type 0
IsSending m s = s ≡ record {
  ahead = is_given m (codes "ahead");
  wrap = is_given m (codes "wrap");
  out = form_of (is_given m (codes "lines-out"));
}

-- ---- where an originator goes on

-- Nowhere, if no file is named. Else at the counters of the file, by `start_of`, if an originator of this configuration
-- can go on there.
abbrev pub GivesStart : Contents → Option (List ℕ) → Config → Result (Option Counters) StartRefusal → Type 0
GivesStart files path config (Ok None) = path ≡ None
GivesStart files path config (Ok (Some start)) =
    (counters : List Counter) × Gives files.counters path (Ok (Some counters))
    × (start ≡ start_of (head_session config.head config.rsid) config.grouping counters)
    × (are_counters config.grouping start ≡ true)
GivesStart files path config (Err (starts.File fault)) = Gives files.counters path (Err fault)
GivesStart files path config (Err (starts.Counters fault)) =
    (counters : List Counter) × Gives files.counters path (Ok (Some counters))
    × IsStartFault (head_session config.head config.rsid) config.grouping counters fault

-- ---- what is asked

-- what is asked of a log that is to be signed
pub record Sent : Type 0 where
  pub limits : Allowance
  pub settings : Settings
  pub sending : Sending
  pub start : Option Counters
  pub answers : Option (List Answer)

-- the options say it, and the files that they name give it
pub record IsSent (files : Contents) (m : ArgMatches) (s : Sent) : Type 0 where
  pub limits : GivesLimits m (Some s.limits)
  pub settings : IsRead m (Ok s.settings)
  pub sending : IsSending m s.sending
  pub start : GivesStart files (path_in m (codes "resume")) s.settings.config (Ok s.start)
  pub answers : Gives files.answers (path_in m (codes "answers")) (Ok s.answers)

abbrev pub sent_job : Signing → Sent → Job
sent_job signing s = signing_job signing s.sending (started s.start) s.settings s.answers

-- ---- how it ends

-- the options give settings, and with these it is known where an originator starts
abbrev pub HasStart : Contents → ArgMatches → Type 0
HasStart files m = (s : Settings) × (start : Option Counters) × IsRead m (Ok s)
    × GivesStart files (path_in m (codes "resume")) s.config (Ok start)

-- the options give settings, and with these there is no start, for this reason
abbrev pub LacksStart : Contents → ArgMatches → StartRefusal → Type 0
LacksStart files m fault = (s : Settings) × IsRead m (Ok s)
    × GivesStart files (path_in m (codes "resume")) s.config (Err fault)

-- Why there is no run. The texts of the options are looked at first, and then the files of `--resume` and `--answers`, in
-- this order: the first that gives nothing is the refusal.
abbrev pub IsFirstRefusal : Contents → ArgMatches → Refusal → Type 0
IsFirstRefusal files m refusals.NoOption = GivesLimits m None ⊎ (HasLimits m × HasNoSettings m)
IsFirstRefusal files m (refusals.Settings fault) = HasLimits m × IsRead m (Err fault)
IsFirstRefusal files m (refusals.Resume fault) = HasLimits m × LacksStart files m (starts.File fault)
IsFirstRefusal files m (refusals.Start fault) = HasLimits m × LacksStart files m (starts.Counters fault)
IsFirstRefusal files m (refusals.Answers fault) =
    HasLimits m × HasStart files m × Gives files.answers (path_in m (codes "answers")) (Err fault)
IsFirstRefusal files m _ = ⊥

-- A run that signs or plans, or the fault that stopped it, or the first refusal before it.
abbrev pub EndsSigning : Contents → ArgMatches → Signing → (before after : Source) → (was is : Sink)
    → Result Verdict Refusal → Type 0
EndsSigning files m signing before after was is (Ok Clean) =
    (s : Sent) × IsSent files m s × Signs (sent_job signing s) s.limits before after was is
EndsSigning files m signing before after was is (Ok Findings) = ⊥
EndsSigning files m signing before after was is (Err (refusals.Signing fault)) =
    (s : Sent) × IsSent files m s × Stops (sent_job signing s) s.limits before after was is fault
EndsSigning files m signing before after was is (Err refusal) = IsFirstRefusal files m refusal
