-- What is read of a message that got SIGN.
use Rattle.std.proofs.Common.{◌≡◌, ℕ, List, Option, Some, None, inl, inr, sym, ap, ◌∙◌}
use Rattle.std.specs.Prelude.{◌⊎◌}
use Rattle.ss_message.specs.declared.fault.Part.{Part}
use Rattle.ss_message.specs.Message.{MessageValue, IsMessage, text}
use Rattle.ss_block.specs.declared.spoil.Spoil.{Spoil}
use Rattle.ss_block.specs.declared.reading.Reading.{Reading}
use Rattle.ss_block.specs.declared.reading.Reading.TheVariants.{Plain, Unparsed, Signature, Certificate, Spoilt}
use Rattle.ss_block.specs.Block as block
use Rattle.ss_block.specs.Head.{HeadValue}
use Rattle.ss_block.specs.Reading.{reading, value_reading}
use Rattle.ss_block.proofs.WrittenMessages.{read_again}
use Rattle.ss_signed.specs.declared.signed_block.SignedBlock.{SignedBlock}
use Rattle.ss_signed.specs.Completed.{completed_value}
use Rattle.ss_signed.specs.Described.{head_in, signature_described, certificate_described, described_as, value_described}
use Rattle.ss_signed.proofs.Completions.{completed_valid}

abbrev some : SignedBlock → Option SignedBlock
some d = Some d

-- the text with SIGN is read as the completed message
pub read_as : (v : MessageValue) (r : Reading) (t : List ℕ) → IsMessage v → r ≡ reading t → t ≡ text (completed_value v) → r ≡ value_reading (completed_value v)
read_as v r t valid is spelled = is ∙ ap reading spelled ∙ read_again (completed_value v) (completed_valid v valid)

pub signature_is : (octets : List ℕ) (v : MessageValue) (h : HeadValue) (b : block.Signature) (d : SignedBlock) → h ≡ head_in v → Signature b ≡ value_reading (completed_value v)
    → d ≡ signature_described octets h v.stamp b → Some d ≡ value_described octets v
signature_is octets v h b d head read is =
    ap some is ∙ ap (λ (g : HeadValue). some (signature_described octets g v.stamp b)) head ∙ ap (described_as octets (head_in v) v.stamp) read

pub certificate_is : (octets : List ℕ) (v : MessageValue) (h : HeadValue) (b : block.Certificate) (d : SignedBlock) → h ≡ head_in v → Certificate b ≡ value_reading (completed_value v)
    → d ≡ certificate_described octets h v.stamp b → Some d ≡ value_described octets v
certificate_is octets v h b d head read is =
    ap some is ∙ ap (λ (g : HeadValue). some (certificate_described octets g v.stamp b)) head ∙ ap (described_as octets (head_in v) v.stamp) read

-- no block
pub none_is : (octets : List ℕ) (v : MessageValue) (r : Reading) → r ≡ value_reading (completed_value v)
    → (r ≡ Plain) ⊎ (((part : Part) × (pos : ℕ) × (r ≡ Unparsed part pos)) ⊎ ((cause : Spoil) × (r ≡ Spoilt cause))) → None ≡ value_described octets v
none_is octets v r read is = sym (nothing is) ∙ ap (described_as octets (head_in v) v.stamp) read
  where
    nothing : (r ≡ Plain) ⊎ (((part : Part) × (pos : ℕ) × (r ≡ Unparsed part pos)) ⊎ ((cause : Spoil) × (r ≡ Spoilt cause))) → described_as octets (head_in v) v.stamp r ≡ None
    nothing told =
        elim told [
          | inl plain ↦ ap (described_as octets (head_in v) v.stamp) plain
          | inr other ↦ elim other [
            | inl unparsed ↦ ap (described_as octets (head_in v) v.stamp) unparsed.2
            | inr spoilt ↦ ap (described_as octets (head_in v) v.stamp) spoilt.1
          ]
        ]
