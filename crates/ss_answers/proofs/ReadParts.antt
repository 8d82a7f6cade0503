-- What reads give one after the other.
use Rattle.std.proofs.Common.{◌≡◌, ℕ, ◌+◌, ◌-◌, ◌<◌, ◌≤◌, List, [], ◌++◌, length, take, Option, arith, length-append, length-take}
use Rattle.std.proofs.lemmas.List.{append-nil}
use Rattle.std.specs.Io.KnownBytes.{Consumes}
use Rattle.std.proofs.KnownBytes.{Consumes-nil, Consumes-trans}
use Rattle.ss_answers.specs.declared.input.InputFault.{InputFault}
use Rattle.ss_answers.specs.declared.input.InputFault.TheVariants.{Read, TooBig, Memory}
use Rattle.ss_answers.specs.AnswerInput.{IsAnswerFault, answer_fault}
use Rattle.ss_answers.specs.Input.{GivesAll, GivesFirst, GivesMore, GivesPart, IsInputFault}

-- nothing was read yet
pub GivesFirst-none : (known : Option (List ℕ)) (max : ℕ) → GivesFirst known known max max []
GivesFirst-none known max = record { taken = Consumes-nil known; counted = omega arith }

size : (count : ℕ) (chunk : List ℕ) → count ≤ length chunk → length (take count chunk) ≡ count
size count chunk fits = omega (arith, length-take count chunk)

-- a part more
pub GivesFirst-more : (old middle new : Option (List ℕ)) (max left count : ℕ) (text chunk : List ℕ) → GivesFirst old middle max left text
    → GivesPart middle new chunk count → count ≤ left → GivesFirst old new max (left - count) (text ++ take count chunk)
GivesFirst-more old middle new max left count text chunk first part le = record {
  taken = Consumes-trans old middle new text (take count chunk) first.taken part.taken;
  counted = omega (arith, first.counted, length-append text (take count chunk), size count chunk part.fits);
}

-- the end
pub GivesAll-end : (old middle new : Option (List ℕ)) (max left count : ℕ) (text chunk : List ℕ) → GivesFirst old middle max left text
    → GivesPart middle new chunk count → count ≡ 0 → GivesAll old new max text
GivesAll-end old middle new max left count text chunk first part none =
    let taken : Consumes middle new [] = rw none at part.taken in
    let all : Consumes old new (text ++ []) = Consumes-trans old middle new text [] first.taken taken in
    record { taken = rw append-nil at all; at_end = part.none none; within = omega (arith, first.counted) }

-- one octet more than the limit
pub GivesMore-part : (old middle new : Option (List ℕ)) (max left count : ℕ) (text chunk : List ℕ) → GivesFirst old middle max left text
    → GivesPart middle new chunk count → length chunk ≤ left + 1 → left < count → GivesMore old new max
GivesMore-part old middle new max left count text chunk first part short beyond = record {
  text = text ++ take count chunk;
  taken = Consumes-trans old middle new text (take count chunk) first.taken part.taken;
  beyond = omega (arith, first.counted, length-append text (take count chunk), size count chunk part.fits, part.fits);
}

-- what follows a text
pub GivesAll-behind : (old middle new : Option (List ℕ)) (max left : ℕ) (text rest : List ℕ) → GivesFirst old middle max left text
    → GivesAll middle new left rest → GivesAll old new max (text ++ rest)
GivesAll-behind old middle new max left text rest first all = record {
  taken = Consumes-trans old middle new text rest first.taken all.taken;
  at_end = all.at_end;
  within = omega (arith, first.counted, all.within, length-append text rest);
}

pub GivesMore-behind : (old middle new : Option (List ℕ)) (max left : ℕ) (text : List ℕ) → GivesFirst old middle max left text
    → GivesMore middle new left → GivesMore old new max
GivesMore-behind old middle new max left text first more = record {
  text = text ++ more.text;
  taken = Consumes-trans old middle new text more.text first.taken more.taken;
  beyond = omega (arith, first.counted, more.beyond, length-append text more.text);
}

pub IsAnswerFault-behind : (old middle new : Option (List ℕ)) (max left : ℕ) (text : List ℕ) (fault : InputFault) → GivesFirst old middle max left text
    → IsInputFault middle new left fault → IsAnswerFault old new max (answer_fault fault)
IsAnswerFault-behind old middle new max left text Read first is = tt
IsAnswerFault-behind old middle new max left text TooBig first is = GivesMore-behind old middle new max left text first is
IsAnswerFault-behind old middle new max left text Memory first is = tt
