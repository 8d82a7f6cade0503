-- What a report says about the numbers of a group: which message is listed, which is missing, and which numbers aren't
-- announced.
use Rattle.std.specs.Prelude.{ℕ, ◌+◌, ◌-◌, nat_lt, max, fold, Bool, List, [], ◌∷◌, ◌++◌, map, filter, flat_map, Option}
use Rattle.std.specs.Prelude.{Some, None, if◌then◌else◌}
use Rattle.std.specs.Ordering.{is_eq}
use Rattle.ss_block.specs.declared.block.Group.{Group}
use Rattle.ss_block.specs.declared.session.Session.{Session}
use Rattle.ss_review.specs.declared.report.entry.Why.TheVariants as whys
use Rattle.ss_review.specs.declared.report.entry.Entry.{Entry}
use Rattle.ss_review.specs.declared.report.entry.Entry.TheVariants as entry
use Rattle.ss_review.specs.declared.keep.message.NormalMessage.{NormalMessage}
use Rattle.ss_block.specs.Order.{group_cmp}
use Rattle.ss_review.specs.sessions.Sessions.{same_session}
use Rattle.ss_review.specs.announced.Announced.{Key, Row, keys, is_disputed_key}
use Rattle.ss_review.specs.assign.Assigned.{assigned}

abbrev pub same_group : Group → Group → Bool
same_group a b = is_eq (group_cmp a b)

-- the announced keys of a session, and of a group in it, by rising number
abbrev pub keys_in : List Row → Session → List Key
keys_in rs s = filter (λ k. same_session k.session s) (keys rs)

unfoldable pub group_keys : List Row → Session → Group → List Key
group_keys rs s g = filter (λ k. same_group k.group g) (keys_in rs s)

abbrev pub entry_with : List Row → Key → Option ℕ → Entry
entry_with rs k (Some place) = entry.Listed k.number place
entry_with rs k None = entry.Gap k.number (if is_disputed_key rs k then whys.Disputed else whys.Lost)

-- an announced number is listed where its key is assigned a place, and else it is a gap
abbrev pub entry_of : List NormalMessage → List Row → Key → Entry
entry_of ms rs k = entry_with rs k (assigned ms rs k)

-- the greatest of the numbers below another, or 0
abbrev pub greatest_below : List Key → ℕ → ℕ
greatest_below ks n = fold max 0 (filter (λ m. nat_lt m n) (map (λ k. k.number) ks))

-- the numbers between two, which aren't announced
abbrev pub hole_between : ℕ → ℕ → List Entry
hole_between last n = if nat_lt (last + 1) n then entry.Hole (last + 1) (n - 1) ∷ [] else []

-- an entry for each key, after the hole that ends below its number, where there is one
unfoldable pub entries : List NormalMessage → List Row → List Key → List Entry
entries ms rs ks = flat_map (λ k. hole_between (greatest_below ks k.number) k.number ++ entry_of ms rs k ∷ []) ks
