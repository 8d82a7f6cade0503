-- What the messages of one originator's blocks have in common: PRI and four fields of the header (RFC 5424, section
-- 6.2).
use Rattle.std.specs.Prelude.{◌≡◌, ℕ, ◌≤◌, true, List, Option}
use Rattle.ss_message.specs.declared.draft.Field.{Field}
use Rattle.ss_message.specs.Draft.{drafted_field}
use Rattle.ss_message.specs.Message.{is_field}

pub record HeadValue : Type 0 where
  pub pri : ℕ
  pub hostname : Option (List ℕ)
  pub app_name : Option (List ℕ)
  pub procid : Option (List ℕ)
  pub msgid : Option (List ℕ)

-- A text is 1 to so many octets of 33 to 126, and not `-` alone.
pub record IsHead (h : HeadValue) : Type 0 where
  pub pri : h.pri ≤ 191
  pub hostname : is_field 255 h.hostname ≡ true
  pub app_name : is_field 48 h.app_name ≡ true
  pub procid : is_field 128 h.procid ≡ true
  pub msgid : is_field 32 h.msgid ≡ true

-- PRI and the fields, in the order in which they stand
abbrev pub head_of : ℕ → Field → Field → Field → Field → HeadValue
head_of pri hostname app_name procid msgid = record {
  pri = pri;
  hostname = drafted_field hostname;
  app_name = drafted_field app_name;
  procid = drafted_field procid;
  msgid = drafted_field msgid;
}
