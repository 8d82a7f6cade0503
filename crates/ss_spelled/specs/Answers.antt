-- What fragments spell as JSON objects (RFC 8259) on lines.
use Rattle.std.specs.Prelude.{ℕ, Bool, true, false, List, ◌++◌, length, flat_map, codes, decimal}
use Rattle.ss_octets.specs.StrictBase64.{base64}
use Rattle.ss_spelled.specs.declared.search.Spelled.{Spelled}

unfoldable pub payload_object : List ℕ → List ℕ
payload_object payload = codes "{\"line\":\"payload\",\"payload\":\"" ++ base64 payload ++ codes "\"}\n"

abbrev pub end_text : Bool → List ℕ
end_text true = codes ",\"cut\":1}\n"
end_text false = codes ",\"cut\":0}\n"

-- how many payloads there are, and whether the search was cut
unfoldable pub end_object : Spelled → List ℕ
end_object s = codes "{\"line\":\"spelled\",\"payloads\":" ++ decimal (length s.texts) ++ end_text s.cut

-- an object for each payload, and then that of how many they are
abbrev pub answer_text : Spelled → List ℕ
answer_text s = flat_map payload_object s.texts ++ end_object s
