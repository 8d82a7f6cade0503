-- What holds for the pieces in which a payload is sent.
use Rattle.std.specs.Prelude.{ℕ, ◌≤◌, List, length}
use Rattle.std.specs.List.{Contains}
use Rattle.std.specs.Str.{IsAscii}
use Rattle.ss_payload.specs.declared.cuts.Cut.{Cut}
use Rattle.ss_payload.specs.Cuts.{AreCuts, piece_of}
use Rattle.ss_block.specs.declared.hash.Alg.{Alg}
use Rattle.ss_block.specs.declared.block.Group.{Group}
use Rattle.ss_block.specs.Block.{IsGroup, IsCertificate}
use Rattle.ss_payload.specs.Ranges.{longest_payload}
use Rattle.ss_block.specs.Ranges.{last_number}

-- Each piece of an ASCII text is the fragment of a certificate block, whose other numbers are in their ranges.
abbrev pub PiecesAreFragments : Type 0
PiecesAreFragments =
    (text : List ℕ) (size : ℕ) (cuts : List Cut) (c : Cut) (alg : Alg) (rsid : ℕ) (group : Group) (signature : List ℕ)
    → IsAscii text
    → 1 ≤ length text
    → length text ≤ longest_payload
    → 1 ≤ size
    → size ≤ 9999
    → AreCuts (length text) size cuts
    → Contains cuts c
    → rsid ≤ last_number
    → IsGroup group
    → IsCertificate (record {
      alg = alg;
      rsid = rsid;
      group = group;
      total = length text;
      index = c.index;
      fragment = piece_of text c;
      signature = signature;
    })
