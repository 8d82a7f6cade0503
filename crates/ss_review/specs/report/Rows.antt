-- Small logs and their reports. Hashes are shortened to one octet, and payloads to `- N` and the like.
use Rattle.std.specs.Prelude.{◌≡◌, ℕ, true, false, List, [], ◌∷◌, length}
use Rattle.std.specs.Str.{bytes_eq}
use Rattle.ss_message.specs.declared.draft.Field.TheVariants as fields
use Rattle.ss_block.specs.declared.hash.Alg.{Alg}
use Rattle.ss_block.specs.declared.hash.Alg.TheVariants as algs
use Rattle.ss_block.specs.declared.hash.Hash.{Hash}
use Rattle.ss_block.specs.declared.hash.Hash.TheVariants as hashes
use Rattle.ss_block.specs.declared.hash.HashPair.{HashPair}
use Rattle.ss_block.specs.declared.session.Session.{Session}
use Rattle.ss_block.specs.declared.spoil.Spoil.TheVariants as spoils
use Rattle.ss_review.specs.declared.report.entry.Why.TheVariants as whys
use Rattle.ss_review.specs.declared.report.entry.Entry.{Entry}
use Rattle.ss_review.specs.declared.report.entry.Entry.TheVariants as entry
use Rattle.ss_review.specs.declared.report.group_report.GroupReport.{GroupReport}
use Rattle.ss_review.specs.declared.report.session_report.SessionState.TheVariants as states
use Rattle.ss_review.specs.declared.report.report.Report.{Report}
use Rattle.ss_review.specs.declared.keep.message.NormalMessage.{NormalMessage}
use Rattle.ss_review.specs.keep.BlockMessage.{BlockMessage, Hashes, Fragment}
use Rattle.ss_review.specs.keep.Contents.{Contents}
use Rattle.ss_review.specs.sessions.Verified.{Answers}
use Rattle.ss_review.specs.report.Report.{report_of}
use Rattle.ss_review.specs.report.Verdict.{is_clean}

-- ---- what the logs are made of

-- three messages, the last with the SHA-1 of the first
abbrev pub first : HashPair
first = record { sha1 = 1 ∷ []; sha256 = 101 ∷ [] }

abbrev pub second : HashPair
second = record { sha1 = 2 ∷ []; sha256 = 102 ∷ [] }

abbrev pub third : HashPair
third = record { sha1 = 1 ∷ []; sha256 = 103 ∷ [] }

abbrev pub message : ℕ → HashPair → NormalMessage
message place pair = record { place = place; pair = pair }

abbrev pub sent_by : List ℕ → ℕ → Session
sent_by host rsid = record { host = fields.Text host; app = fields.Text (115 ∷ []); procid = fields.Nil; rsid = rsid }

-- the octets that are signed are shown by one number: 1 of a certificate block, 2 of a signature block
abbrev pub certificate : ℕ → Session → ℕ → ℕ → List ℕ → BlockMessage
certificate place s total index fragment = record {
  place = place;
  count = 0;
  session = s;
  said = Fragment (record {
    alg = algs.Sha1;
    rsid = s.rsid;
    group = record { sg = 0; spri = 0 };
    total = total;
    index =
        index;
    fragment = fragment;
    signature = 0 ∷ [];
  });
  signed = 1 ∷ [];
}

abbrev pub hashes_of : ℕ → Session → Alg → ℕ → List Hash → BlockMessage
hashes_of place s alg number hs = record {
  place = place;
  count = length hs;
  session = s;
  said = Hashes (record {
    alg = alg;
    rsid = s.rsid;
    group = record { sg = 0; spri = 0 };
    gbc = 0;
    first = number;
    hashes = hs;
    signature = 0 ∷ [];
  });
  signed = 2 ∷ [];
}

abbrev pub group_told : List Entry → GroupReport
group_told es = record { group = record { sg = 0; spri = 0 }; entries = es }

-- ---- schemes

abbrev pub yes : Answers
yes = record { trusted = λ payload. true; valid = λ payload octets signature. true }

abbrev pub untrusting : Answers
untrusting = record { trusted = λ payload. false; valid = λ payload octets signature. true }

abbrev pub unaccepting : Answers
unaccepting = record { trusted = λ payload. true; valid = λ payload octets signature. false }

abbrev pub for_certificates : Answers
for_certificates = record { trusted = λ payload. true; valid = λ payload octets signature. bytes_eq octets (1 ∷ []) }

-- ---- rows

-- two messages, a certificate block, and a signature block with both hashes
abbrev pub whole_log : Contents
whole_log =
    record {
      normal = (message 0 first) ∷ (message 1 second) ∷ [];
      blocks = (certificate 2 (sent_by (104 ∷ []) 1) 3 1 (45 ∷ 32 ∷ 78 ∷ []))
          ∷ (hashes_of 3 (sent_by (104 ∷ []) 1) algs.Sha1 1 ((hashes.Sha1 (1 ∷ [])) ∷ (hashes.Sha1 (2 ∷ [])) ∷ []))
          ∷ [];
      spoilt = [];
      count = 4;
    }

abbrev pub whole_report : Report
whole_report =
    record {
      sessions =
          (record {
            session = (sent_by (104 ∷ []) 1);
            state = states.Joined;
            groups = (group_told ((entry.Listed 1 0) ∷ (entry.Listed 2 1) ∷ [])) ∷ [];
          }) ∷ [];
      unlisted = [];
      refused = [];
      spoilt = [];
      count = 4;
    }

-- the blocks stand before the messages
abbrev pub blocks_first_log : Contents
blocks_first_log =
    record {
      normal = (message 2 first) ∷ (message 3 second) ∷ [];
      blocks = (hashes_of 0 (sent_by (104 ∷ []) 1) algs.Sha1 1 ((hashes.Sha1 (1 ∷ [])) ∷ (hashes.Sha1 (2 ∷ [])) ∷ []))
          ∷ (certificate 1 (sent_by (104 ∷ []) 1) 3 1 (45 ∷ 32 ∷ 78 ∷ [])) ∷ [];
      spoilt = [];
      count = 4;
    }

abbrev pub blocks_first_report : Report
blocks_first_report =
    record {
      sessions =
          (record {
            session = (sent_by (104 ∷ []) 1);
            state = states.Joined;
            groups = (group_told ((entry.Listed 1 2) ∷ (entry.Listed 2 3) ∷ [])) ∷ [];
          }) ∷ [];
      unlisted = [];
      refused = [];
      spoilt = [];
      count = 4;
    }

-- the second message is missing
abbrev pub one_lost_log : Contents
one_lost_log =
    record {
      normal = (message 0 first) ∷ [];
      blocks =
          (certificate 1 (sent_by (104 ∷ []) 1) 3 1 (45 ∷ 32 ∷ 78 ∷ []))
          ∷ (hashes_of 2 (sent_by (104 ∷ []) 1) algs.Sha1 1 ((hashes.Sha1 (1 ∷ [])) ∷ (hashes.Sha1 (2 ∷ [])) ∷ []))
          ∷ [];
      spoilt = [];
      count = 3;
    }

abbrev pub one_lost_report : Report
one_lost_report =
    record {
      sessions =
          (record {
            session = (sent_by (104 ∷ []) 1);
            state = states.Joined;
            groups = (group_told ((entry.Listed 1 0) ∷ (entry.Gap 2 whys.Lost) ∷ [])) ∷ [];
          }) ∷ [];
      unlisted = [];
      refused = [];
      spoilt = [];
      count = 3;
    }

-- the signature block stands twice
abbrev pub repeated_block_log : Contents
repeated_block_log =
    record {
      normal = (message 0 first) ∷ (message 1 second) ∷ [];
      blocks = (certificate 2 (sent_by (104 ∷ []) 1) 3 1 (45 ∷ 32 ∷ 78 ∷ []))
          ∷ (hashes_of 3 (sent_by (104 ∷ []) 1) algs.Sha1 1 ((hashes.Sha1 (1 ∷ [])) ∷ (hashes.Sha1 (2 ∷ [])) ∷ []))
          ∷ (hashes_of 4 (sent_by (104 ∷ []) 1) algs.Sha1 1 ((hashes.Sha1 (1 ∷ [])) ∷ (hashes.Sha1 (2 ∷ [])) ∷ []))
          ∷ [];
      spoilt = [];
      count = 5;
    }

abbrev pub repeated_block_report : Report
repeated_block_report =
    record {
      sessions =
          (record {
            session = (sent_by (104 ∷ []) 1);
            state = states.Joined;
            groups = (group_told ((entry.Listed 1 0) ∷ (entry.Listed 2 1) ∷ [])) ∷ [];
          }) ∷ [];
      unlisted = [];
      refused = [];
      spoilt = [];
      count = 5;
    }

-- one hash is announced for two numbers, and stored once
abbrev pub one_for_two_log : Contents
one_for_two_log =
    record {
      normal = (message 0 first) ∷ [];
      blocks =
          (certificate 1 (sent_by (104 ∷ []) 1) 3 1 (45 ∷ 32 ∷ 78 ∷ []))
          ∷ (hashes_of 2 (sent_by (104 ∷ []) 1) algs.Sha1 1 ((hashes.Sha1 (1 ∷ [])) ∷ (hashes.Sha1 (1 ∷ [])) ∷ []))
          ∷ [];
      spoilt = [];
      count = 3;
    }

abbrev pub one_for_two_report : Report
one_for_two_report =
    record {
      sessions =
          (record {
            session = (sent_by (104 ∷ []) 1);
            state = states.Joined;
            groups = (group_told ((entry.Listed 1 0) ∷ (entry.Gap 2 whys.Lost) ∷ [])) ∷ [];
          }) ∷ [];
      unlisted = [];
      refused = [];
      spoilt = [];
      count = 3;
    }

-- one hash is announced once, and stored three times
abbrev pub three_for_one_log : Contents
three_for_one_log =
    record {
      normal = (message 0 first) ∷ (message 1 first) ∷ (message 2 first) ∷ [];
      blocks = (certificate 3 (sent_by (104 ∷ []) 1) 3 1 (45 ∷ 32 ∷ 78 ∷ []))
          ∷ (hashes_of 4 (sent_by (104 ∷ []) 1) algs.Sha1 1 ((hashes.Sha1 (1 ∷ [])) ∷ [])) ∷ [];
      spoilt = [];
      count = 5;
    }

abbrev pub three_for_one_report : Report
three_for_one_report =
    record {
      sessions =
          (record {
            session = (sent_by (104 ∷ []) 1);
            state = states.Joined;
            groups = (group_told ((entry.Listed 1 0) ∷ [])) ∷ [];
          }) ∷ [];
      unlisted = 1 ∷ 2 ∷ [];
      refused = [];
      spoilt = [];
      count = 5;
    }

-- two numbers want the same hashes, and both are stored
abbrev pub two_for_two_log : Contents
two_for_two_log =
    record {
      normal = (message 0 first) ∷ (message 3 first) ∷ [];
      blocks = (certificate 1 (sent_by (104 ∷ []) 1) 3 1 (45 ∷ 32 ∷ 78 ∷ []))
          ∷ (hashes_of 2 (sent_by (104 ∷ []) 1) algs.Sha1 1 ((hashes.Sha1 (1 ∷ [])) ∷ (hashes.Sha1 (1 ∷ [])) ∷ []))
          ∷ [];
      spoilt = [];
      count = 4;
    }

abbrev pub two_for_two_report : Report
two_for_two_report =
    record {
      sessions =
          (record {
            session = (sent_by (104 ∷ []) 1);
            state = states.Joined;
            groups = (group_told ((entry.Listed 1 0) ∷ (entry.Listed 2 3) ∷ [])) ∷ [];
          }) ∷ [];
      unlisted = [];
      refused = [];
      spoilt = [];
      count = 4;
    }

-- two hashes are announced for one number
abbrev pub disputed_log : Contents
disputed_log =
    record {
      normal = (message 0 first) ∷ (message 1 second) ∷ [];
      blocks = (certificate 2 (sent_by (104 ∷ []) 1) 3 1 (45 ∷ 32 ∷ 78 ∷ []))
          ∷ (hashes_of 3 (sent_by (104 ∷ []) 1) algs.Sha1 1 ((hashes.Sha1 (1 ∷ [])) ∷ []))
          ∷ (hashes_of 4 (sent_by (104 ∷ []) 1) algs.Sha1 1 ((hashes.Sha1 (2 ∷ [])) ∷ [])) ∷ [];
      spoilt = [];
      count = 5;
    }

abbrev pub disputed_report : Report
disputed_report =
    record {
      sessions =
          (record {
            session = (sent_by (104 ∷ []) 1);
            state = states.Joined;
            groups = (group_told ((entry.Gap 1 whys.Disputed) ∷ [])) ∷ [];
          }) ∷ [];
      unlisted = 0 ∷ 1 ∷ [];
      refused = [];
      spoilt = [];
      count = 5;
    }

-- one message is announced by both algorithms for one number
abbrev pub disputed_algorithms_log : Contents
disputed_algorithms_log =
    record {
      normal = (message 0 first) ∷ [];
      blocks =
          (certificate 1 (sent_by (104 ∷ []) 1) 3 1 (45 ∷ 32 ∷ 78 ∷ []))
          ∷ (hashes_of 2 (sent_by (104 ∷ []) 1) algs.Sha1 1 ((hashes.Sha1 (1 ∷ [])) ∷ []))
          ∷ (hashes_of 3 (sent_by (104 ∷ []) 1) algs.Sha256 1 ((hashes.Sha256 (101 ∷ [])) ∷ [])) ∷ [];
      spoilt = [];
      count = 4;
    }

abbrev pub disputed_algorithms_report : Report
disputed_algorithms_report =
    record {
      sessions =
          (record {
            session = (sent_by (104 ∷ []) 1);
            state = states.Joined;
            groups = (group_told ((entry.Gap 1 whys.Disputed) ∷ [])) ∷ [];
          }) ∷ [];
      unlisted = 0 ∷ [];
      refused = [];
      spoilt = [];
      count = 4;
    }

-- a disputed number leaves the message to the next that wants it
abbrev pub disputed_twin_log : Contents
disputed_twin_log =
    record {
      normal = (message 0 first) ∷ [];
      blocks =
          (certificate 1 (sent_by (104 ∷ []) 1) 3 1 (45 ∷ 32 ∷ 78 ∷ []))
          ∷ (hashes_of 2 (sent_by (104 ∷ []) 1) algs.Sha1 1 ((hashes.Sha1 (1 ∷ [])) ∷ (hashes.Sha1 (1 ∷ [])) ∷ []))
          ∷ (hashes_of 3 (sent_by (104 ∷ []) 1) algs.Sha1 1 ((hashes.Sha1 (2 ∷ [])) ∷ [])) ∷ [];
      spoilt = [];
      count = 4;
    }

abbrev pub disputed_twin_report : Report
disputed_twin_report =
    record {
      sessions =
          (record {
            session = (sent_by (104 ∷ []) 1);
            state = states.Joined;
            groups = (group_told ((entry.Gap 1 whys.Disputed) ∷ (entry.Listed 2 0) ∷ [])) ∷ [];
          }) ∷ [];
      unlisted = [];
      refused = [];
      spoilt = [];
      count = 4;
    }

-- two messages have one SHA-1: the first is its bearer, and the other is found by its SHA-256
abbrev pub two_of_one_hash_log : Contents
two_of_one_hash_log =
    record {
      normal = (message 0 first) ∷ (message 1 third) ∷ [];
      blocks = (certificate 2 (sent_by (104 ∷ []) 1) 3 1 (45 ∷ 32 ∷ 78 ∷ []))
          ∷ (hashes_of 3 (sent_by (104 ∷ []) 1) algs.Sha1 1 ((hashes.Sha1 (1 ∷ [])) ∷ (hashes.Sha1 (1 ∷ [])) ∷ []))
          ∷ (hashes_of 4 (sent_by (104 ∷ []) 1) algs.Sha256 3 ((hashes.Sha256 (103 ∷ [])) ∷ [])) ∷ [];
      spoilt = [];
      count = 5;
    }

abbrev pub two_of_one_hash_report : Report
two_of_one_hash_report =
    record {
      sessions =
          (record {
            session = (sent_by (104 ∷ []) 1);
            state = states.Joined;
            groups = (group_told ((entry.Listed 1 0) ∷ (entry.Gap 2 whys.Lost) ∷ (entry.Listed 3 1) ∷ [])) ∷ [];
          }) ∷ [];
      unlisted = [];
      refused = [];
      spoilt = [];
      count = 5;
    }

-- the payload is stated in two fragments, the last one first
abbrev pub fragments_in_reverse_log : Contents
fragments_in_reverse_log =
    record {
      normal = (message 0 first) ∷ [];
      blocks =
          (certificate 1 (sent_by (104 ∷ []) 1) 3 3 (78 ∷ []))
          ∷ (certificate 2 (sent_by (104 ∷ []) 1) 3 1 (45 ∷ 32 ∷ []))
          ∷ (hashes_of 3 (sent_by (104 ∷ []) 1) algs.Sha1 1 ((hashes.Sha1 (1 ∷ [])) ∷ [])) ∷ [];
      spoilt = [];
      count = 4;
    }

abbrev pub fragments_in_reverse_report : Report
fragments_in_reverse_report =
    record {
      sessions =
          (record {
            session = (sent_by (104 ∷ []) 1);
            state = states.Joined;
            groups = (group_told ((entry.Listed 1 0) ∷ [])) ∷ [];
          }) ∷ [];
      unlisted = [];
      refused = [];
      spoilt = [];
      count = 4;
    }

-- a fragment of the payload is missing
abbrev pub fragment_missing_log : Contents
fragment_missing_log =
    record {
      normal = (message 0 first) ∷ [];
      blocks =
          (certificate 1 (sent_by (104 ∷ []) 1) 3 3 (78 ∷ []))
          ∷ (hashes_of 2 (sent_by (104 ∷ []) 1) algs.Sha1 1 ((hashes.Sha1 (1 ∷ [])) ∷ [])) ∷ [];
      spoilt = [];
      count = 3;
    }

abbrev pub fragment_missing_report : Report
fragment_missing_report =
    record {
      sessions = (record { session = (sent_by (104 ∷ []) 1); state = states.Incomplete; groups = [] }) ∷ [];
      unlisted = 0 ∷ [];
      refused = 1 ∷ 2 ∷ [];
      spoilt = [];
      count = 3;
    }

-- two fragments state two octets at one index
abbrev pub two_payloads_log : Contents
two_payloads_log =
    record {
      normal = (message 0 first) ∷ [];
      blocks =
          (certificate 1 (sent_by (104 ∷ []) 1) 3 1 (45 ∷ 32 ∷ 78 ∷ []))
          ∷ (certificate 2 (sent_by (104 ∷ []) 1) 3 1 (46 ∷ 32 ∷ 78 ∷ []))
          ∷ (hashes_of 3 (sent_by (104 ∷ []) 1) algs.Sha1 1 ((hashes.Sha1 (1 ∷ [])) ∷ [])) ∷ [];
      spoilt = [];
      count = 4;
    }

abbrev pub two_payloads_report : Report
two_payloads_report =
    record {
      sessions = (record { session = (sent_by (104 ∷ []) 1); state = states.Disputed; groups = [] }) ∷ [];
      unlisted = 0 ∷ [];
      refused = 1 ∷ 2 ∷ 3 ∷ [];
      spoilt = [];
      count = 4;
    }

-- two fragments state two lengths
abbrev pub two_totals_log : Contents
two_totals_log =
    record {
      normal = [];
      blocks =
          (certificate 0 (sent_by (104 ∷ []) 1) 3 1 (45 ∷ 32 ∷ 78 ∷ []))
          ∷ (certificate 1 (sent_by (104 ∷ []) 1) 4 1 (45 ∷ 32 ∷ 78 ∷ [])) ∷ [];
      spoilt = [];
      count = 2;
    }

abbrev pub two_totals_report : Report
two_totals_report =
    record {
      sessions = (record { session = (sent_by (104 ∷ []) 1); state = states.Disputed; groups = [] }) ∷ [];
      unlisted = [];
      refused = 0 ∷ 1 ∷ [];
      spoilt = [];
      count = 2;
    }

-- nothing below a number is announced
abbrev pub great_number_log : Contents
great_number_log =
    record {
      normal = (message 0 first) ∷ [];
      blocks =
          (certificate 1 (sent_by (104 ∷ []) 1) 3 1 (45 ∷ 32 ∷ 78 ∷ []))
          ∷ (hashes_of 2 (sent_by (104 ∷ []) 1) algs.Sha1 9999999999 ((hashes.Sha1 (1 ∷ [])) ∷ [])) ∷ [];
      spoilt = [];
      count = 3;
    }

abbrev pub great_number_report : Report
great_number_report =
    record {
      sessions =
          (record {
            session = (sent_by (104 ∷ []) 1);
            state = states.Joined;
            groups = (group_told ((entry.Hole 1 9999999998) ∷ (entry.Listed 9999999999 0) ∷ [])) ∷ [];
          }) ∷ [];
      unlisted = [];
      refused = [];
      spoilt = [];
      count = 3;
    }

-- numbers before, between and after holes
abbrev pub holes_log : Contents
holes_log =
    record {
      normal = (message 0 first) ∷ [];
      blocks =
          (certificate 1 (sent_by (104 ∷ []) 1) 3 1 (45 ∷ 32 ∷ 78 ∷ []))
          ∷ (hashes_of 2 (sent_by (104 ∷ []) 1) algs.Sha1 2 ((hashes.Sha1 (2 ∷ [])) ∷ (hashes.Sha1 (1 ∷ [])) ∷ []))
          ∷ (hashes_of 3 (sent_by (104 ∷ []) 1) algs.Sha1 7 ((hashes.Sha1 (2 ∷ [])) ∷ [])) ∷ [];
      spoilt = [];
      count = 4;
    }

abbrev pub holes_report : Report
holes_report =
    record {
      sessions =
          (record {
            session = (sent_by (104 ∷ []) 1);
            state = states.Joined;
            groups = (group_told ((entry.Hole 1 1) ∷ (entry.Gap 2 whys.Lost) ∷ (entry.Listed 3 0) ∷ (entry.Hole 4 6)
                ∷ (entry.Gap 7 whys.Lost) ∷ [])) ∷ [];
          }) ∷ [];
      unlisted = [];
      refused = [];
      spoilt = [];
      count = 4;
    }

-- a block is spoilt
abbrev pub spoilt_block_log : Contents
spoilt_block_log =
    record {
      normal = [];
      blocks = (certificate 0 (sent_by (104 ∷ []) 1) 3 1 (45 ∷ 32 ∷ 78 ∷ [])) ∷ [];
      spoilt = (record { place = 1; cause = spoils.LastNumber }) ∷ [];
      count = 2;
    }

abbrev pub spoilt_block_report : Report
spoilt_block_report =
    record {
      sessions = (record { session = (sent_by (104 ∷ []) 1); state = states.Joined; groups = [] }) ∷ [];
      unlisted = [];
      refused = [];
      spoilt = (record { place = 1; cause = spoils.LastNumber }) ∷ [];
      count = 2;
    }

-- two sessions announce one message, by two algorithms
abbrev pub two_sessions_log : Contents
two_sessions_log =
    record {
      normal = (message 0 first) ∷ [];
      blocks =
          (certificate 1 (sent_by (104 ∷ []) 1) 3 1 (45 ∷ 32 ∷ 78 ∷ []))
          ∷ (certificate 2 (sent_by (104 ∷ []) 2) 3 1 (45 ∷ 32 ∷ 78 ∷ []))
          ∷ (hashes_of 3 (sent_by (104 ∷ []) 1) algs.Sha256 1 ((hashes.Sha256 (101 ∷ [])) ∷ []))
          ∷ (hashes_of 4 (sent_by (104 ∷ []) 2) algs.Sha1 1 ((hashes.Sha1 (1 ∷ [])) ∷ [])) ∷ [];
      spoilt = [];
      count = 5;
    }

abbrev pub two_sessions_report : Report
two_sessions_report =
    record {
      sessions =
          (record {
            session = (sent_by (104 ∷ []) 1);
            state = states.Joined;
            groups = (group_told ((entry.Listed 1 0) ∷ [])) ∷ [];
          })
          ∷ (record {
            session = (sent_by (104 ∷ []) 2);
            state = states.Joined;
            groups = (group_told ((entry.Gap 1 whys.Lost) ∷ [])) ∷ [];
          }) ∷ [];
      unlisted = [];
      refused = [];
      spoilt = [];
      count = 5;
    }

-- the payload is no payload block
abbrev pub malformed_log : Contents
malformed_log =
    record { normal = []; blocks = (certificate 0 (sent_by (104 ∷ []) 1) 1 1 (120 ∷ [])) ∷ []; spoilt = []; count = 1 }

abbrev pub malformed_report : Report
malformed_report =
    record {
      sessions = (record { session = (sent_by (104 ∷ []) 1); state = states.Malformed; groups = [] }) ∷ [];
      unlisted = [];
      refused = 0 ∷ [];
      spoilt = [];
      count = 1;
    }

-- no payload is trusted
abbrev pub untrusted_report : Report
untrusted_report =
    record {
      sessions = (record { session = (sent_by (104 ∷ []) 1); state = states.Untrusted; groups = [] }) ∷ [];
      unlisted = 0 ∷ 1 ∷ [];
      refused = 2 ∷ 3 ∷ [];
      spoilt = [];
      count = 4;
    }

-- no signature is valid
abbrev pub unaccepted_report : Report
unaccepted_report =
    record {
      sessions = (record { session = (sent_by (104 ∷ []) 1); state = states.Unaccepted; groups = [] }) ∷ [];
      unlisted = 0 ∷ 1 ∷ [];
      refused = 2 ∷ 3 ∷ [];
      spoilt = [];
      count = 4;
    }

-- the certificate block alone is valid
abbrev pub certificate_alone_report : Report
certificate_alone_report =
    record {
      sessions = (record { session = (sent_by (104 ∷ []) 1); state = states.Joined; groups = [] }) ∷ [];
      unlisted = 0 ∷ 1 ∷ [];
      refused = 3 ∷ [];
      spoilt = [];
      count = 4;
    }

-- there is no certificate block
abbrev pub certificate_missing_log : Contents
certificate_missing_log =
    record {
      normal = [];
      blocks =
          (hashes_of 0 (sent_by (104 ∷ []) 1) algs.Sha1 1 ((hashes.Sha1 (1 ∷ [])) ∷ (hashes.Sha1 (2 ∷ [])) ∷ [])) ∷ [];
      spoilt = [];
      count = 1;
    }

abbrev pub certificate_missing_report : Report
certificate_missing_report =
    record {
      sessions = (record { session = (sent_by (104 ∷ []) 1); state = states.Incomplete; groups = [] }) ∷ [];
      unlisted = [];
      refused = 0 ∷ [];
      spoilt = [];
      count = 1;
    }

-- two hosts announce one message
abbrev pub two_hosts_log : Contents
two_hosts_log =
    record {
      normal = (message 0 first) ∷ [];
      blocks =
          (certificate 1 (sent_by (104 ∷ []) 1) 3 1 (45 ∷ 32 ∷ 78 ∷ []))
          ∷ (hashes_of 2 (sent_by (104 ∷ []) 1) algs.Sha1 1 ((hashes.Sha1 (1 ∷ [])) ∷ []))
          ∷ (certificate 3 (sent_by (105 ∷ []) 1) 3 1 (45 ∷ 32 ∷ 78 ∷ []))
          ∷ (hashes_of 4 (sent_by (105 ∷ []) 1) algs.Sha1 1 ((hashes.Sha1 (1 ∷ [])) ∷ [])) ∷ [];
      spoilt = [];
      count = 5;
    }

abbrev pub two_hosts_report : Report
two_hosts_report =
    record {
      sessions =
          (record {
            session = (sent_by (104 ∷ []) 1);
            state = states.Joined;
            groups = (group_told ((entry.Listed 1 0) ∷ [])) ∷ [];
          })
          ∷ (record {
            session = (sent_by (105 ∷ []) 1);
            state = states.Joined;
            groups = (group_told ((entry.Gap 1 whys.Lost) ∷ [])) ∷ [];
          }) ∷ [];
      unlisted = [];
      refused = [];
      spoilt = [];
      count = 5;
    }

-- two hosts state two payloads
abbrev pub two_hosts_payloads_log : Contents
two_hosts_payloads_log =
    record {
      normal = (message 0 first) ∷ [];
      blocks =
          (certificate 1 (sent_by (104 ∷ []) 1) 3 1 (45 ∷ 32 ∷ 78 ∷ []))
          ∷ (certificate 2 (sent_by (105 ∷ []) 1) 4 1 (45 ∷ 32 ∷ 78 ∷ 32 ∷ []))
          ∷ (hashes_of 3 (sent_by (104 ∷ []) 1) algs.Sha1 1 ((hashes.Sha1 (1 ∷ [])) ∷ [])) ∷ [];
      spoilt = [];
      count = 4;
    }

abbrev pub two_hosts_payloads_report : Report
two_hosts_payloads_report =
    record {
      sessions =
          (record {
            session = (sent_by (104 ∷ []) 1);
            state = states.Joined;
            groups = (group_told ((entry.Listed 1 0) ∷ [])) ∷ [];
          })
          ∷ (record { session = (sent_by (105 ∷ []) 1); state = states.Joined; groups = [] }) ∷ [];
      unlisted = [];
      refused = [];
      spoilt = [];
      count = 4;
    }

-- sessions are reported by host before RSID
abbrev pub order_of_sessions_log : Contents
order_of_sessions_log =
    record {
      normal = [];
      blocks =
          (certificate 0 (sent_by (105 ∷ []) 1) 3 1 (45 ∷ 32 ∷ 78 ∷ []))
          ∷ (certificate 1 (sent_by (104 ∷ []) 2) 3 1 (45 ∷ 32 ∷ 78 ∷ []))
          ∷ (certificate 2 (sent_by (104 ∷ 49 ∷ []) 1) 3 1 (45 ∷ 32 ∷ 78 ∷ [])) ∷ [];
      spoilt = [];
      count = 3;
    }

abbrev pub order_of_sessions_report : Report
order_of_sessions_report =
    record {
      sessions = (record { session = (sent_by (104 ∷ []) 2); state = states.Joined; groups = [] })
          ∷ (record { session = (sent_by (104 ∷ 49 ∷ []) 1); state = states.Joined; groups = [] })
          ∷ (record { session = (sent_by (105 ∷ []) 1); state = states.Joined; groups = [] }) ∷ [];
      unlisted = [];
      refused = [];
      spoilt = [];
      count = 3;
    }

-- nothing is stored
abbrev pub nothing_log : Contents
nothing_log = record { normal = []; blocks = []; spoilt = []; count = 0 }

abbrev pub nothing_report : Report
nothing_report = record { sessions = []; unlisted = []; refused = []; spoilt = []; count = 0 }

pub record ReportsAreThese : Type 0 where
  pub whole : report_of yes whole_log ≡ whole_report
  pub blocks_first : report_of yes blocks_first_log ≡ blocks_first_report
  pub one_lost : report_of yes one_lost_log ≡ one_lost_report
  pub repeated_block : report_of yes repeated_block_log ≡ repeated_block_report
  pub one_for_two : report_of yes one_for_two_log ≡ one_for_two_report
  pub three_for_one : report_of yes three_for_one_log ≡ three_for_one_report
  pub two_for_two : report_of yes two_for_two_log ≡ two_for_two_report
  pub disputed : report_of yes disputed_log ≡ disputed_report
  pub disputed_algorithms : report_of yes disputed_algorithms_log ≡ disputed_algorithms_report
  pub disputed_twin : report_of yes disputed_twin_log ≡ disputed_twin_report
  pub two_of_one_hash : report_of yes two_of_one_hash_log ≡ two_of_one_hash_report
  pub fragments_in_reverse : report_of yes fragments_in_reverse_log ≡ fragments_in_reverse_report
  pub fragment_missing : report_of yes fragment_missing_log ≡ fragment_missing_report
  pub two_payloads : report_of yes two_payloads_log ≡ two_payloads_report
  pub two_totals : report_of yes two_totals_log ≡ two_totals_report
  pub great_number : report_of yes great_number_log ≡ great_number_report
  pub holes : report_of yes holes_log ≡ holes_report
  pub spoilt_block : report_of yes spoilt_block_log ≡ spoilt_block_report
  pub two_sessions : report_of yes two_sessions_log ≡ two_sessions_report
  pub malformed : report_of yes malformed_log ≡ malformed_report
  pub untrusted : report_of untrusting whole_log ≡ untrusted_report
  pub unaccepted : report_of unaccepting whole_log ≡ unaccepted_report
  pub certificate_alone : report_of for_certificates whole_log ≡ certificate_alone_report
  pub certificate_missing : report_of yes certificate_missing_log ≡ certificate_missing_report
  pub two_hosts : report_of yes two_hosts_log ≡ two_hosts_report
  pub two_hosts_payloads : report_of yes two_hosts_payloads_log ≡ two_hosts_payloads_report
  pub order_of_sessions : report_of yes order_of_sessions_log ≡ order_of_sessions_report
  pub nothing : report_of yes nothing_log ≡ nothing_report
  pub whole_is_clean : is_clean whole_report ≡ true
  pub one_lost_is_not : is_clean one_lost_report ≡ false
