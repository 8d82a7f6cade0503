-- The blocks that are due are in their ranges.
use Rattle.std.proofs.Common.{◌≡◌, ℕ, ◌+◌, ◌<◌, ◌≤◌, true, List, [], ◌∷◌, length, map, refl, arith}
use Rattle.std.specs.List.{All, Contains, list_all}
use Rattle.std.proofs.lemmas.List.Elements.{All-nil, All-cons, All-weaker, All-contains_itself, All-same}
use Rattle.std.specs.Prelude.{Result, Ok, Err, IfOk}
use Rattle.std.specs.declared.vec.Vec.{Vec}
use Rattle.std.specs.declared.alloc.Global.{Global}
use Rattle.std.specs.Str.{IsAscii}
use Rattle.ss_octets.specs.declared.no_memory.NoMemory.{NoMemory}
use Rattle.ss_payload.specs.declared.cuts.Cut.{Cut}
use Rattle.ss_payload.specs.Cuts.{AreCuts}
use Rattle.ss_payload.specs.CuttingLaws.{LiesWithin, PiecesLieWithin}
use Rattle.ss_block.specs.declared.hash.Hash.{Hash}
use Rattle.ss_block.specs.Block.{IsGroup, IsSignature, IsCertificate, is_of}
use Rattle.ss_block.specs.Head.{IsHead}
use Rattle.ss_block.specs.FragmentLaws.{PiecesAreFragments}
use Rattle.ss_origin.specs.declared.grouping.Grouping.{Grouping}
use Rattle.ss_origin.specs.declared.grouping.Grouping.TheVariants.{One, ByPri, Ranges}
use Rattle.ss_origin.specs.declared.config.Config.{Config}
use Rattle.ss_origin.specs.declared.unsigned.Unsigned.{Unsigned}
use Rattle.ss_origin.specs.Groups.{sg_of, spri_of, group_of, is_grouping}
use Rattle.ss_origin.specs.Configs.{is_config}
use Rattle.ss_origin.specs.Emission.{certificate_in, certificate_of, signature_in}
use Rattle.ss_origin.specs.Signing.{HasSession}
use Rattle.ss_origin.proofs.Configs.{has_ranges}
use Rattle.ss_origin.proofs.Groups.{group-most, has_group_of}

sg-most : (g : Grouping) → sg_of g ≤ 3
sg-most (One spri) = omega arith
sg-most ByPri = omega arith
sg-most (Ranges bounds) = omega arith

group_fits : (g : Grouping) (spri : ℕ) → spri ≤ 191 → IsGroup (group_of g spri)
group_fits g spri most = record { sg = sg-most g; spri = most }

pub spri-most : (g : Grouping) (pri : ℕ) → is_grouping g ≡ true → pri ≤ 191 → spri_of g pri ≤ 191
spri-most g pri is most = group-most g (spri_of g pri) is (has_group_of g pri is most)

pub certificate_fits : PiecesAreFragments → (c : Config) (text : List ℕ) (cuts : List Cut) (piece : Cut)
    → is_config c ≡ true
    → IsHead c.head
    → IsAscii text
    → 3 ≤ length text
    → length text ≤ 99999999
    → AreCuts (length text) c.frag cuts
    → Contains cuts piece
    → IsCertificate (certificate_in c text piece)
certificate_fits fragments c text cuts piece is head ascii some most are here =
    let ranges = has_ranges c is in
    let group = group_fits c.grouping (spri_of c.grouping c.head.pri) (spri-most c.grouping c.head.pri ranges.grouping head.pri) in
    fragments text c.frag cuts piece c.alg c.rsid (group_of c.grouping (spri_of c.grouping c.head.pri)) [] ascii (omega arith) most ranges.some_octet ranges.at_most_9999 are here ranges.rsid group

pub pieces_within : PiecesLieWithin → (c : Config) (text : List ℕ) (cuts : List Cut) → is_config c ≡ true → AreCuts (length text) c.frag cuts → All (LiesWithin (length text) c.frag) cuts
pieces_within within c text cuts is are =
    All-weaker (Contains cuts) (LiesWithin (length text) c.frag) (λ piece here. within (length text) c.frag cuts piece (has_ranges c is).some_octet are here) cuts (All-contains_itself cuts)

pub certificates_fit : PiecesAreFragments → (c : Config) (text : List ℕ) (cuts : List Cut)
    → is_config c ≡ true
    → IsHead c.head
    → IsAscii text
    → 3 ≤ length text
    → length text ≤ 99999999
    → AreCuts (length text) c.frag cuts
    → All (λ piece. IsCertificate (certificate_in c text piece)) cuts
certificates_fit fragments c text cuts is head ascii some most are =
    All-weaker (Contains cuts) (λ piece. IsCertificate (certificate_in c text piece))
    (λ piece here. certificate_fits fragments c text cuts piece is head ascii some most are here) cuts (All-contains_itself cuts)

pub certificates_have_session : (c : Config) (text : List ℕ) (cuts : List Cut) → All (HasSession c) (map (certificate_of c text) cuts)
certificates_have_session c text [] = All-nil (HasSession c)
certificates_have_session c text (cut ∷ cuts) =
    All-cons (HasSession c) (certificate_of c text cut) (map (certificate_of c text) cuts) refl (certificates_have_session c text cuts)

pub all_have_session : (c : Config) (text : List ℕ) (cuts : List Cut) (r : Result (Vec Unsigned Global) NoMemory)
    → IfOk r (λ v. v.items ≡ map (certificate_of c text) cuts)
    → IfOk r (λ v. All (HasSession c) v.items)
all_have_session c text cuts (Ok v) are = All-same (HasSession c) v.items (map (certificate_of c text) cuts) are (certificates_have_session c text cuts)
all_have_session c text cuts (Err e) are = tt

pub signature_fits : (c : Config) (spri gbc first : ℕ) (hashes : List Hash)
    → is_config c ≡ true
    → spri < 192
    → gbc < 10000000000
    → 1 ≤ first
    → 1 ≤ length hashes
    → length hashes ≤ c.per_block
    → list_all (is_of c.alg) hashes ≡ true
    → first + length hashes ≤ 10000000000
    → IsSignature (signature_in c spri gbc first hashes)
signature_fits c spri gbc first hashes is small count some some_hash most own last =
    let ranges = has_ranges c is in
    record {
      rsid = ranges.rsid;
      group = group_fits c.grouping spri (omega arith);
      gbc = omega arith;
      some_first = some;
      some_hash = some_hash;
      at_most_99_hashes = omega (arith, ranges.at_most_99);
      hashes = own;
      last = last;
    }
