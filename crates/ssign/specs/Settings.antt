-- What the options of a command that signs give: their numbers and texts, and the settings that these spell.
use Rattle.std.specs.Prelude.{◌≡◌, ℕ, ◌≤◌, Bool, true, false, ◌&&◌, not, List, Option, Some, None, Result, Ok, Err}
use Rattle.std.specs.Prelude.{codes, nat_le, is_some, option_and_then, if◌then◌else◌}
use Rattle.clap.specs.Words.{first_value, found_of}
use Rattle.clap.specs.declared.parser.matches.ArgMatches.{ArgMatches}
use Rattle.ss_message.specs.Message.{is_field}
use Rattle.ss_message.specs.Draft.{drafted_field}
use Rattle.ss_message.specs.declared.draft.Field.{Field}
use Rattle.ss_message.specs.Octets.{is_absent}
use Rattle.ss_message.specs.StampReading.{◌>>=◌}
use Rattle.ss_payload.specs.PayloadReading.{payload_in, stamp_in}
use Rattle.ss_block.specs.Versions.{version_in}
use Rattle.ss_block.specs.Head.{HeadValue}
use Rattle.ssign.specs.CommandLine.{HasNumber}
use Rattle.ssign.specs.GroupsText.{grouping_in}
use Rattle.ssign.specs.declared.choices.Choices.{Choices}
use Rattle.ssign.specs.declared.settings.Texts.{Texts}
use Rattle.ssign.specs.declared.settings.Settings.{Settings}
use Rattle.ssign.specs.declared.settings.SettingsFault.{SettingsFault}
use Rattle.ssign.specs.declared.settings.SettingsFault.TheVariants.{OutOfForm, Memory}
use Rattle.ssign.specs.declared.text_option.TextOption.{TextOption}
use Rattle.ssign.specs.declared.text_option.TextOption.TheVariants.{Payload, Stamp, Groups, Host, App, Procid, Msgid}

-- ---- what the texts spell

-- a field of the header (RFC 5424, section 6.2), absent where the text is `-`
abbrev pub field_in : List ℕ → Option (List ℕ)
field_in text = if is_absent text then None else Some text

abbrev pub header_in : Choices → Texts → HeadValue
header_in c t = record {
  pri = c.pri;
  hostname = field_in t.host.now;
  app_name = field_in t.app.now;
  procid = field_in t.procid.now;
  msgid = field_in t.msgid.now;
}

-- PRI and the fields are in their ranges (RFC 5424, section 6)
abbrev pub is_head : HeadValue → Bool
is_head h =
    nat_le h.pri 191 && is_field 255 h.hostname && is_field 48 h.app_name && is_field 128 h.procid
    && is_field 32 h.msgid

abbrev pub head_in : Choices → Texts → Option HeadValue
head_in c t = if is_head (header_in c t) then Some (header_in c t) else None

-- the settings that these choices and texts give, if each text is in its form
unfoldable pub settings_in : Choices → Texts → Option Settings
settings_in c t = do
  payload ← payload_in t.payload.now
  stamp ← stamp_in t.stamp.now
  grouping ← grouping_in t.groups.now
  head ← head_in c t
  Some (record {
    config = record {
      head = head;
      alg = c.alg;
      rsid = c.rsid;
      grouping = grouping;
      per_block = c.count;
      copies = c.copies;
      frag = c.frag;
    };
    payload = payload;
    stamp = stamp;
  })

-- ---- which text is out of its form

abbrev pub option_name : TextOption → List ℕ
option_name Payload = codes "payload"
option_name Stamp = codes "stamp"
option_name Groups = codes "groups"
option_name Host = codes "host"
option_name App = codes "app"
option_name Procid = codes "procid"
option_name Msgid = codes "msgid"

-- the first option of a field of the header whose text is out of its form
abbrev pub refused_field : Texts → Option TextOption
refused_field t =
    if not (is_field 255 (field_in t.host.now)) then Some Host
    else (if not (is_field 48 (field_in t.app.now)) then Some App
    else (if not (is_field 128 (field_in t.procid.now)) then Some Procid
    else (if not (is_field 32 (field_in t.msgid.now)) then Some Msgid
    else None)))

-- the first option, in this order, whose text is read as nothing
unfoldable pub refused_option : Texts → Option TextOption
refused_option t =
    if not (is_some (payload_in t.payload.now)) then Some Payload
    else (if not (is_some (stamp_in t.stamp.now)) then Some Stamp
    else (if not (is_some (grouping_in t.groups.now)) then Some Groups
    else refused_field t))

-- what becomes of the text of a field, of at most so many octets
abbrev pub FieldGives : ℕ → List ℕ → TextOption → Result Field SettingsFault → Type 0
FieldGives limit text option (Ok field) =
    (drafted_field field ≡ field_in text) × (is_field limit (field_in text) ≡ true)
FieldGives limit text option (Err (OutOfForm refused)) = (is_field limit (field_in text) ≡ false) × (refused ≡ option)
FieldGives limit text option (Err Memory) = Unit {0}

-- what becomes of the fields of the header
abbrev pub HeadGives : Choices → Texts → Result HeadValue SettingsFault → Type 0
HeadGives c t (Ok head) = head_in c t ≡ Some head
HeadGives c t (Err (OutOfForm option)) = (head_in c t ≡ None) × (refused_field t ≡ Some option)
HeadGives c t (Err Memory) = Unit {0}

-- ---- what the options give

-- the option has a number, in this range
pub record HasNumberIn (matches : ArgMatches) (option : List ℕ) (least most n : ℕ) : Type 0 where
  pub spelled : HasNumber matches option n
  pub low : least ≤ n
  pub high : n ≤ most

-- the version and the numbers
pub record HasChoices (matches : ArgMatches) (c : Choices) : Type 0 where
  pub alg : option_and_then version_in (first_value (found_of matches) (codes "ver")) ≡ Some c.alg
  pub rsid : HasNumberIn matches (codes "rsid") 0 9999999999 c.rsid
  pub pri : HasNumberIn matches (codes "pri") 0 191 c.pri
  pub count : HasNumberIn matches (codes "count") 1 99 c.count
  pub frag : HasNumberIn matches (codes "frag") 1 9999 c.frag
  pub copies : HasNumberIn matches (codes "copies") 1 9 c.copies

-- the texts
pub record HasTexts (matches : ArgMatches) (t : Texts) : Type 0 where
  pub payload : first_value (found_of matches) (codes "payload") ≡ Some t.payload.now
  pub stamp : first_value (found_of matches) (codes "stamp") ≡ Some t.stamp.now
  pub host : first_value (found_of matches) (codes "host") ≡ Some t.host.now
  pub app : first_value (found_of matches) (codes "app") ≡ Some t.app.now
  pub procid : first_value (found_of matches) (codes "procid") ≡ Some t.procid.now
  pub msgid : first_value (found_of matches) (codes "msgid") ≡ Some t.msgid.now
  pub groups : first_value (found_of matches) (codes "groups") ≡ Some t.groups.now

-- the settings, or that there are none, and the first option whose text is out of its form
abbrev pub Gives : Choices → Texts → Result Settings SettingsFault → Type 0
Gives c t (Ok settings) = settings_in c t ≡ Some settings
Gives c t (Err (OutOfForm option)) = (settings_in c t ≡ None) × (refused_option t ≡ Some option)
Gives c t (Err Memory) = Unit {0}

-- what the options give, and what becomes of it
pub record IsRead (matches : ArgMatches) (result : Result Settings SettingsFault) : Type 0 where
  pub choices : Choices
  pub texts : Texts
  pub chosen : HasChoices matches choices
  pub given : HasTexts matches texts
  pub gives : Gives choices texts result
