-- Why a piece of an ASCII text is the fragment of a certificate block.
use Rattle.std.proofs.Common.{ℕ, ◌-◌, ◌≤◌, List, length, drop, arith}
use Rattle.std.specs.List.{Contains}
use Rattle.std.specs.Str.{IsAscii}
use Rattle.std.proofs.lemmas.Str.{IsAscii-take, IsAscii-drop, IsUtf8-from_ascii, is_utf8-from_IsUtf8}
use Rattle.ss_payload.specs.declared.cuts.Cut.{Cut}
use Rattle.ss_payload.specs.Cuts.{AreCuts, piece_of}
use Rattle.ss_payload.proofs.PlacedPieces.{pieces_lie_within}
use Rattle.ss_payload.proofs.SentPieces.{piece_long}
use Rattle.ss_block.specs.declared.hash.Alg.{Alg}
use Rattle.ss_block.specs.declared.block.Group.{Group}
use Rattle.ss_block.specs.Block.{IsGroup, IsCertificate}

pub pieces_are_fragments : (text : List ℕ) (size : ℕ) (cuts : List Cut) (c : Cut) (alg : Alg) (rsid : ℕ) (group : Group) (signature : List ℕ) → IsAscii text → 1 ≤ length text → length text ≤ 99999999 → 1 ≤ size → size ≤ 9999 → AreCuts (length text) size cuts → Contains cuts c → rsid ≤ 9999999999 → IsGroup group
    → IsCertificate (record {
      alg = alg;
      rsid = rsid;
      group = group;
      total = length text;
      index = c.index;
      fragment = piece_of text c;
      signature = signature;
    })
pieces_are_fragments text size cuts c alg rsid group signature ascii octet most some at_most are has low in_range =
    let l = pieces_lie_within (length text) size cuts c some are has in
    let long = piece_long text size c l in
    record {
      rsid = low;
      group = in_range;
      total = most;
      some_index = l.some_index;
      some_octet = omega (arith, long, l.some_octet);
      at_most_9999_octets = omega (arith, long, l.at_most, at_most);
      within = omega (arith, long, l.end);
      fragment = is_utf8-from_IsUtf8 (piece_of text c) (IsUtf8-from_ascii (piece_of text c) (IsAscii-take (drop (c.index - 1) text) c.len (IsAscii-drop text (c.index - 1) ascii)));
    }
