-- Which stored message is listed under an announced number. Where several messages have equal hashes, the first is
-- listed under the first number that wants them, the second under the second, and so on.
use Rattle.std.specs.Prelude.{ℕ, ◌==◌, ◌&&◌, Bool, false, List, [], ◌∷◌, map, filter, find, count_by, slice_get, Option}
use Rattle.std.specs.Prelude.{Some, None, option_map}
use Rattle.std.specs.Str.{bytes_eq}
use Rattle.std.specs.List.{list_any}
use Rattle.std.specs.Ordering.{is_lt}
use Rattle.ss_block.specs.declared.hash.Hash.{Hash}
use Rattle.ss_block.specs.declared.hash.Hash.TheVariants as hashes
use Rattle.ss_block.specs.declared.hash.HashPair.{HashPair}
use Rattle.ss_review.specs.declared.keep.message.NormalMessage.{NormalMessage}
use Rattle.ss_review.specs.announced.Announced.{Key, Row, key_cmp, keys, hashes_for}

abbrev pub same_pair : HashPair → HashPair → Bool
same_pair p q = bytes_eq p.sha1 q.sha1 && bytes_eq p.sha256 q.sha256

-- one of the two hashes is this one
abbrev pub has_hash : Hash → HashPair → Bool
has_hash (hashes.Sha1 octets) p = bytes_eq p.sha1 octets
has_hash (hashes.Sha256 octets) p = bytes_eq p.sha256 octets

-- both hashes of the first message that has this one: its bearer
unfoldable pub pair_of_bearer : List NormalMessage → Hash → Option HashPair
pair_of_bearer ms h = option_map (λ m. m.pair) (find (λ m. has_hash h m.pair) ms)

-- the places of the messages with these two hashes
unfoldable pub places_with : List NormalMessage → HashPair → List ℕ
places_with ms p = map (λ m. m.place) (filter (λ m. same_pair m.pair p) ms)

abbrev pub wanted_with : List NormalMessage → List Hash → Option HashPair
wanted_with ms [] = None
wanted_with ms (h ∷ []) = pair_of_bearer ms h
wanted_with ms (h ∷ g ∷ hs) = None

-- the two hashes that a key wants: those of its bearer, unless it is disputed or there is no bearer
unfoldable pub wanted : List NormalMessage → List Row → Key → Option HashPair
wanted ms rs k = wanted_with ms (hashes_for rs k)

abbrev pub is_pair : HashPair → Option HashPair → Bool
is_pair p None = false
is_pair p (Some q) = same_pair q p

-- how many smaller keys want these two hashes
unfoldable pub rank : List NormalMessage → List Row → Key → HashPair → ℕ
rank ms rs k p = count_by (λ j. is_lt (key_cmp j k) && is_pair p (wanted ms rs j)) (keys rs)

abbrev pub place_of : List NormalMessage → List Row → Key → Option HashPair → Option ℕ
place_of ms rs k None = None
place_of ms rs k (Some p) = slice_get (places_with ms p) (rank ms rs k p)

-- of the places with the hashes that a key wants, that whose number is the key's rank
unfoldable pub assigned : List NormalMessage → List Row → Key → Option ℕ
assigned ms rs k = place_of ms rs k (wanted ms rs k)

abbrev pub is_place : ℕ → Option ℕ → Bool
is_place place None = false
is_place place (Some p) = p == place

-- some key is assigned the place
unfoldable pub is_taken : List NormalMessage → List Row → ℕ → Bool
is_taken ms rs place = list_any (λ k. is_place place (assigned ms rs k)) (keys rs)
