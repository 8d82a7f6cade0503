-- What is made of a log that is to be signed, and who seals.
use Rattle.std.specs.Prelude.{Bool, true, false, Option, List}
use Rattle.ss_origin.specs.Counting.{Start}
use Rattle.ss_origin.specs.Setting.{Setting}
use Rattle.ss_signing.specs.Run.{Job}
use Rattle.ss_signing.specs.Jobs.{going_ahead, planning_from, signing_from}
use Rattle.ss_answers.specs.Answers.{Answer}
use Rattle.ss_answers.specs.Seals.{is_given, seals_of}
use Rattle.ssign.specs.declared.settings.Settings.{Settings}
use Rattle.ssign.specs.declared.signing.Sending.{Sending}
use Rattle.ssign.specs.declared.signing.Signing.{Signing}
use Rattle.ssign.specs.declared.signing.Signing.TheVariants.{Plan, Sign}

-- The scheme of a log that is signed with a file is the file: a signature of octets is valid where it is the one given
-- them. Whether a checker says yes to it isn't asked.
abbrev pub setting_with : Settings → Option (List Answer) → Setting
setting_with s answers =
    record {
      config = s.config;
      payload = s.payload;
      valid = λ text octets signature.
          is_given answers octets signature;
    }

-- what has to be signed, or with `--ahead` the counters with which the originator ends
abbrev pub planning_job : (ahead wraps : Bool) → Start → Settings → Job
planning_job false wraps start s = planning_from start s.config s.payload s.stamp wraps
planning_job true wraps start s = going_ahead start s.config s.payload s.stamp wraps

-- What is made of a log by an originator that starts so, with these settings, and with the answers of a file or without.
-- With `--wrap` messages that can't be signed are wrapped, and a signed log is frames, or with `--lines-out` lines.
abbrev pub signing_job : Signing → Sending → Start → Settings → Option (List Answer) → Job
signing_job Plan m start s answers = planning_job m.ahead m.wrap start s
signing_job Sign m start s answers =
    signing_from start (setting_with s answers) (seals_of answers) s.stamp m.wrap m.out
