-- The message of which octets are the signed ones: SIGN is put at the end of its block element again (RFC 5848, section
-- 4.2.8).
use Rattle.std.specs.Prelude.{List, [], ◌∷◌, ◌++◌, codes, if◌then◌else◌}
use Rattle.ss_message.specs.Message.{ParameterValue, ElementValue, MessageValue}
use Rattle.ss_block.specs.Signed.{is_block_id}

-- a SIGN as good as any other: the base64 of one octet
abbrev pub some_sign : ParameterValue
some_sign = record { name = codes "SIGN"; raw = codes "AA==" }

-- the element with SIGN as its last parameter
abbrev pub completed_element : ElementValue → ElementValue
completed_element e = record { id = e.id; parameters = e.parameters ++ some_sign ∷ [] }

-- the first element named `ssign` or `ssign-cert` gets it
abbrev pub completed_elements : List ElementValue → List ElementValue
completed_elements [] = []
completed_elements (e ∷ es) =
    if is_block_id e.id then completed_element e ∷ es else e ∷ completed_elements es

abbrev pub completed_value : MessageValue → MessageValue
completed_value v = record {
  pri = v.pri;
  stamp = v.stamp;
  hostname = v.hostname;
  app_name = v.app_name;
  procid = v.procid;
  msgid = v.msgid;
  elements = completed_elements v.elements;
  msg = v.msg;
}
