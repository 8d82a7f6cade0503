use Rattle.std.proofs.Common.{◌≡◌, ◌≤◌, ◌-◌, min, length, arith}
use Rattle.ssign.proofs.Openings.{kept_front}
use Rattle.ssign.proofs.first_octets.keep.Goals as goal

pub returns : goal.returns
returns c =
    let kept = c.args.kept.now.items in
    let octets = c.args.octets.now in
    let within : c.len.result ≤ 6 = c.len.ensures.fits in
    let fits : length kept ≤ 6 = omega (arith, c.len.ensures.value) in
    let smaller : c.min-count.result ≡ min (6 - length kept) (length octets) = rw c.len.ensures.value at c.min-count.ensures in
    kept_front c.try_extend_from_slice.result kept c.try_extend_from_slice.new.self.items octets c.min-count.result fits smaller
    c.try_extend_from_slice.ensures.variant c.try_extend_from_slice.ensures.ok
