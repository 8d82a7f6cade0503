-- What a reader holds that keeps the first octets that it gives.
use Rattle.std.specs.Prelude.{ℕ, Bool, List}
use Rattle.ss_frame.specs.Watched.{has_failed, inner_of}
use Rattle.ssign.specs.declared.first_octets.FirstOctets.{FirstOctets}

module _ {R : Type 0} where
  -- the reader inside
  abbrev pub inside : FirstOctets R → R
  inside o = inner_of o.inner

  -- whether a read of that reader has failed
  abbrev pub has_failed_inside : FirstOctets R → Bool
  has_failed_inside o = has_failed o.inner

  -- the first octets that it gave, at most six
  abbrev pub kept_octets : FirstOctets R → List ℕ
  kept_octets o = o.kept.items
