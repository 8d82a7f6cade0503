-- The payload that the certificate blocks of a session state together (RFC 5848, section 5.3.2), or why they state
-- none. All of a session are joined, whatever their VER, SG and SPRI.
use Rattle.std.specs.Prelude.{ℕ, ◌+◌, ◌==◌, ◌&&◌, ◌||◌, nat_lt, nat_le, not, Bool, true, List, [], ◌∷◌, length, map}
use Rattle.std.specs.Prelude.{filter_map, flat_map, find, Option, Some, None, Result, Ok, Err, is_some, if◌then◌else◌}
use Rattle.std.specs.List.{list_any, list_all, range_with_len}
use Rattle.ss_block.specs.Block as block
use Rattle.ss_block.specs.Joining.{placed}
use Rattle.ss_block.specs.PayloadReading.{payload_in}
use Rattle.ss_review.specs.declared.report.session_report.SessionState.{SessionState}
use Rattle.ss_review.specs.declared.report.session_report.SessionState.TheVariants as states
use Rattle.ss_review.specs.keep.BlockMessage.{BlockMessage, BlockContent, Hashes, Fragment}

abbrev pub certificate_of : BlockContent → Option block.Certificate
certificate_of (Fragment c) = Some c
certificate_of (Hashes b) = None

abbrev pub certificates : List BlockMessage → List block.Certificate
certificates bs = filter_map (λ b. certificate_of b.said) bs

-- each octet of each fragment with its index, which begins at 1
abbrev pub octets : List block.Certificate → List (ℕ × ℕ)
octets cs = flat_map (λ c. placed c.index c.fragment) cs

-- two octets at one index
abbrev pub clash : ℕ × ℕ → ℕ × ℕ → Bool
clash p q = (p.0 == q.0) && not (p.1 == q.1)

-- two totals are stated, or two octets at one index
unfoldable pub is_disputed : List block.Certificate → Bool
is_disputed cs =
    list_any (λ c. list_any (λ d. not (c.total == d.total)) cs) cs || list_any (λ p.
    list_any (clash p) (octets cs)) (octets cs)

-- some fragment has an octet at the index
abbrev pub has_index : List block.Certificate → ℕ → Bool
has_index cs i = list_any (λ c. nat_le c.index i && nat_lt i (c.index + length c.fragment)) cs

-- the fragments have an octet at each index from 1 to the total
unfoldable pub cover : List block.Certificate → ℕ → Bool
cover cs total = list_all (has_index cs) (range_with_len 1 total)

-- There is no fragment, or no octet at an index from 1 to the total. It is asked only where nothing is disputed, so the
-- total of the first fragment is that of each.
abbrev pub lacks_some : List block.Certificate → Bool
lacks_some [] = true
lacks_some (c ∷ cs) = not (cover (c ∷ cs) c.total)

-- Only an index that no fragment has would get the 0 here, and the text is asked for where none is lacking.
abbrev pub octet_found : Option (ℕ × ℕ) → ℕ
octet_found None = 0
octet_found (Some p) = p.1

-- the octet at an index, which is the first that is stated there, and the only one where nothing is disputed
abbrev pub octet_at : List (ℕ × ℕ) → ℕ → ℕ
octet_at os i = octet_found (find (λ p. p.0 == i) os)

-- The octets from index 1 to the total: it is asked for only where nothing is disputed, so each fragment has this
-- total, and no fragment ends after it.
unfoldable pub joined_text : List block.Certificate → List ℕ
joined_text [] = []
joined_text (c ∷ cs) = map (octet_at (octets (c ∷ cs))) (range_with_len 1 c.total)

abbrev pub is_payload : List ℕ → Bool
is_payload text = is_some (payload_in text)

abbrev pub payload_or_malformed : List ℕ → Result (List ℕ) SessionState
payload_or_malformed text = if is_payload text then Ok text else Err states.Malformed

-- the first that applies: it is disputed, it is incomplete, it is no payload block, or it is the payload
unfoldable pub stated_payload : List block.Certificate → Result (List ℕ) SessionState
stated_payload cs =
    if is_disputed cs then Err states.Disputed
    else (if lacks_some cs then Err states.Incomplete
    else payload_or_malformed (joined_text cs))
