-- Why a log can't be read, by its first octets and the form in which it is read.
use Rattle.std.specs.Prelude.{ℕ, Bool, true, false, ◌&&◌, nat_le, List, [], ◌∷◌, length, take, Option, Some, None}
use Rattle.std.specs.Prelude.{codes, if◌then◌else◌}
use Rattle.std.specs.Str.{bytes_eq}
use Rattle.ss_frame.specs.declared.fault.FrameFault.{FrameFault}
use Rattle.ss_frame.specs.declared.fault.FrameFault.TheVariants.{BadLength, TooLong, TooManyMessages, EmptyLine}
use Rattle.ss_frame.specs.declared.limits.Form.{Form}
use Rattle.ss_frame.specs.declared.limits.Form.TheVariants.{Frames, Lines}
use Rattle.ss_report.specs.declared.fault.RunFault.{RunFault}
use Rattle.ss_report.specs.declared.fault.RunFault.TheVariants.{Frame}
use Rattle.ss_signing.specs.declared.fault.SignFault.{SignFault}
use Rattle.ss_signing.specs.declared.fault.SignFault.TheVariants.{Run, TornInput}
use Rattle.ssign.specs.declared.likely_cause.LikelyCause.{LikelyCause}
use Rattle.ssign.specs.declared.likely_cause.LikelyCause.TheVariants.{Gzip, Xz, Zstd, ByteOrderMark, Unframed, Framed}

abbrev pub begins : List ℕ → List ℕ → Bool
begins mark octets = bytes_eq (take (length mark) octets) mark

abbrev pub begins_with_digit : List ℕ → Bool
begins_with_digit [] = false
begins_with_digit (octet ∷ octets) = nat_le 48 octet && nat_le octet 57

-- frames begin with a digit, and messages with `<`
abbrev pub other_form : Form → List ℕ → Option LikelyCause
other_form Frames octets = if begins (codes "<") octets then Some Unframed else None
other_form Lines octets = if begins_with_digit octets then Some Framed else None

-- the marks of gzip (RFC 1952, section 2.3.1), xz, and zstd (RFC 8878, section 3.1.1), and the byte order mark
abbrev pub cause_in : Form → List ℕ → Option LikelyCause
cause_in form octets =
    if begins (31 ∷ 139 ∷ []) octets then Some Gzip
    else (if begins (253 ∷ 55 ∷ 122 ∷ 88 ∷ 90 ∷ 0 ∷ []) octets then Some Xz
    else (if begins (40 ∷ 181 ∷ 47 ∷ 253 ∷ []) octets then Some Zstd
    else (if begins (239 ∷ 187 ∷ 191 ∷ []) octets then Some ByteOrderMark
    else other_form form octets)))

-- F1, F2, F5 and F9
abbrev pub is_of_form : FrameFault → Bool
is_of_form (BadLength pos) = true
is_of_form (TooLong pos) = true
is_of_form (TooManyMessages pos) = true
is_of_form (EmptyLine pos) = true
is_of_form _ = false

abbrev pub run_cause : RunFault → Form → List ℕ → Option LikelyCause
run_cause (Frame fault) form octets = if is_of_form fault then cause_in form octets else None
run_cause _ form octets = None

-- the same of a run that signs, where the log may also be torn
abbrev pub signing_cause : SignFault → Form → List ℕ → Option LikelyCause
signing_cause (Run fault) form octets = run_cause fault form octets
signing_cause (TornInput pos) form octets = cause_in form octets
signing_cause _ form octets = None
