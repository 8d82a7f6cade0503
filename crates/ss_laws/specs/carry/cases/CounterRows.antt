-- Small logs of two nights, and the counters that the nights and one review of all files give: one log that meets the
-- premises, and for each premise one that doesn't.
use Rattle.std.specs.Prelude.{◌≡◌, ℕ, nat_lt, false, [], ◌∷◌, if◌then◌else◌}
use Rattle.ss_block.specs.declared.block.Group.{Group}
use Rattle.ss_block.specs.declared.hash.Alg.TheVariants as algs
use Rattle.ss_block.specs.declared.hash.Hash.TheVariants as hashes
use Rattle.ss_block.specs.declared.session.Session.{Session}
use Rattle.ss_review.specs.keep.BlockMessage.{BlockMessage, Hashes}
use Rattle.ss_review.specs.keep.Contents.{Contents}
use Rattle.ss_review.specs.report.Rows.{first, second, message, sent_by, yes}
use Rattle.ss_review.specs.counted.Kept.{kept_gbc, kept_number}
use Rattle.ss_laws.specs.carry.Nights.{Nights, so_far, IsJoined, LeaveEnough}
use Rattle.ss_laws.specs.carry.cases.NightRows.{payload_at, number_at, disputed_later}
use Rattle.ss_laws.specs.carry.CarriedNights.{carried_nights}
use Rattle.ss_laws.specs.carry.NightCounters.{counters_in, night_counters, LeaveSession}

abbrev pub here : Session
here = sent_by (104 ∷ []) 1

abbrev pub its_group : Group
its_group = record { sg = 0; spri = 0 }

-- a signature block that states this GBC, with one hash under one number
abbrev pub block_at : ℕ → (gbc : ℕ) → (number : ℕ) → (hash : ℕ) → BlockMessage
block_at place gbc number hash = record {
  place = place;
  count = 1;
  session = here;
  said = Hashes (record {
    alg = algs.Sha1;
    rsid = 1;
    group = its_group;
    gbc = gbc;
    first = number;
    hashes = hashes.Sha1 (hash ∷ []) ∷ [];
    signature = 0 ∷ [];
  });
  signed = 2 ∷ [];
}

-- the places before this one are the file of the first night, and all others that of the second
abbrev pub cut_at : ℕ → ℕ → ℕ
cut_at cut place = if nat_lt place cut then 0 else 1

-- ---- the logs

abbrev pub late_log : Contents
late_log = record {
  normal = message 1 first ∷ message 3 second ∷ [];
  blocks = payload_at 0 (104 ∷ []) ∷ block_at 2 4 5 1 ∷ block_at 4 2 3 2 ∷ [];
  spoilt = [];
  count = 5;
}

-- each night settles a number, and the block of the second night was sent before that of the first
abbrev pub late_block : Nights
late_block = carried_nights yes (cut_at 3) late_log

-- the first night has a signature block that it can't judge, and leaves nothing over
abbrev pub nothing_left : Nights
nothing_left = record {
  whole = record { normal = []; blocks = number_at 0 (104 ∷ []) 1 1 ∷ payload_at 1 (104 ∷ []) ∷ []; spoilt = []; count = 2 };
  file = cut_at 1;
  left = λ night place. false;
}

-- the first night joins the session and leaves nothing over, so the second one can't judge its signature block
abbrev pub no_certificate : Nights
no_certificate = record {
  whole = record {
    normal = [];
    blocks = payload_at 0 (104 ∷ []) ∷ block_at 1 0 1 1 ∷ block_at 2 1 2 2 ∷ [];
    spoilt = [];
    count = 3;
  };
  file = cut_at 2;
  left = λ night place. false;
}

-- ---- their counters

-- what the counters of a night say of the session, and what those of one review of all files say
pub record AreKept (x : Nights) (night : ℕ) (gbc number : ℕ) : Type 0 where
  pub gbc_is : kept_gbc (night_counters yes x night) here ≡ gbc
  pub number_is : kept_number (night_counters yes x night) here its_group ≡ number

pub record AreKeptInAll (x : Nights) (last : ℕ) (gbc number : ℕ) : Type 0 where
  pub gbc_is : kept_gbc (counters_in yes (so_far x last)) here ≡ gbc
  pub number_is : kept_number (counters_in yes (so_far x last)) here its_group ≡ number

pub record CountersAreThese : Type 0 where
  -- the premises hold, and the counters of the last night are lower than those of the first
  pub late_leave : LeaveEnough yes late_block 1
  pub late_leave_here : LeaveSession yes late_block 1 here
  pub late_joined : IsJoined yes (so_far late_block 1).blocks here
  pub late_first : AreKept late_block 0 5 6
  pub late_last : AreKept late_block 1 3 4
  pub late_whole : AreKeptInAll late_block 1 5 6
  -- the session is disputed in the end
  pub disputed_leave : LeaveSession yes disputed_later 1 here
  pub disputed_unjoined : ¬ IsJoined yes (so_far disputed_later 1).blocks here
  pub disputed_first : AreKept disputed_later 0 1 2
  pub disputed_last : AreKept disputed_later 1 0 0
  pub disputed_whole : AreKeptInAll disputed_later 1 0 0
  -- the first night doesn't leave over what it can't judge
  pub unjudged_leave : ¬ LeaveSession yes nothing_left 1 here
  pub unjudged_joined : IsJoined yes (so_far nothing_left 1).blocks here
  pub unjudged_first : AreKept nothing_left 0 0 0
  pub unjudged_last : AreKept nothing_left 1 0 0
  pub unjudged_whole : AreKeptInAll nothing_left 1 1 2
  -- or its certificate block
  pub certificate_leave : ¬ LeaveSession yes no_certificate 1 here
  pub certificate_joined : IsJoined yes (so_far no_certificate 1).blocks here
  pub certificate_first : AreKept no_certificate 0 1 2
  pub certificate_last : AreKept no_certificate 1 0 0
  pub certificate_whole : AreKeptInAll no_certificate 1 2 3
