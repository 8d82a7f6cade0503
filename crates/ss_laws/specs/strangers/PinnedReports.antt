-- What became of each number and of each signature block, in a report by given payloads.
use Rattle.std.specs.Prelude.{◌≡◌, ◌⊎◌, ℕ, ◌<◌, ◌≤◌, List}
use Rattle.ss_block.specs.declared.session.Session.{Session}
use Rattle.ss_review.specs.declared.counted.counter.Counter.{Counter}
use Rattle.ss_review.specs.announced.Announced.{Key}
use Rattle.ss_review.specs.announced.Announcing.{IsAnnounced}
use Rattle.ss_review.specs.counted.CountedLaws.{IsCounted}
use Rattle.ss_review.specs.counted.Kept.{kept_gbc, kept_number}
use Rattle.ss_review.specs.counted.KeptLaws.{IsInTail, Fate, HasFate, IsInRunOf}
use Rattle.ss_review.specs.keep.Contents.{blocks, contents}
use Rattle.ss_review.specs.keep.Notes.{notes}
use Rattle.ss_review.specs.sessions.Verified.{Answers}
use Rattle.ss_review.specs.pinned.Pinned.{kept, pinned_report}
use Rattle.ss_review.specs.pinned.Stands.{pinned_shortfalls}

-- A number below its group's counter is exactly one of listed, a gap, in a hole and in a tail. A number in a tail is
-- below its group's counter, and no block that is kept and verified announces it.
abbrev pub EveryNumberIsTold : Type 0
EveryNumberIsTold = (says : Answers) (ps : List (List ℕ)) (log : List (List ℕ)) (cs : List Counter) (k : Key)
    → let r = pinned_report says ps (contents (notes log)) in
    let all = pinned_shortfalls says ps log cs in
    (1 ≤ k.number → k.number < kept_number cs k.session k.group
    → (fate : Fate) × HasFate r all k fate × ((other : Fate) → HasFate r all k other → other ≡ fate))
    × (IsInTail all k
    → (k.number < kept_number cs k.session k.group) × ¬ IsAnnounced says (kept says ps (blocks (notes log))) k)

-- A value below the session's counter is the GBC of a signature block that is kept and verified, or reported as missing.
-- None is both.
abbrev pub EveryBlockIsTold : Type 0
EveryBlockIsTold = (says : Answers) (ps : List (List ℕ)) (log : List (List ℕ)) (cs : List Counter) (s : Session) (gbc : ℕ)
    → let bs = kept says ps (blocks (notes log)) in
    let all = pinned_shortfalls says ps log cs in
    (gbc < kept_gbc cs s → IsCounted says bs s gbc ⊎ IsInRunOf all s gbc)
    × (IsCounted says bs s gbc → ¬ IsInRunOf all s gbc)
