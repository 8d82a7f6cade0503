use Rattle.std.proofs.Common.{◌≡◌, ◌++◌, codes, rules}
use Rattle.ss_answers.proofs.KeptLines.{AreKnown-grows, IsKnown-grows, KeepsLine-seal, KeepsLine-trust, KeepsLine-yes}
use Rattle.ss_answers.proofs.line.keep.Goals as goal

pub returns-in-Some-clause-ok : goal.returns-in-Some-clause-ok
returns-in-Some-clause-ok c =
    let spelt : c.args.text.now ≡ codes "trust " ++ c.in-Some.fields.now = search rules in
    rw (c.of-place.ensures, c.none.ensures, c.none-in-Some.ensures) (KeepsLine-trust _ _ _ _ _ spelt c.in_ok-payload.ensures.ok)

pub returns-in-Some-strip_prefix-clause-ok : goal.returns-in-Some-strip_prefix-clause-ok
returns-in-Some-strip_prefix-clause-ok c =
    let spelt : c.args.text.now ≡ codes "yes " ++ c.in-Some-strip_prefix.fields.now = search rules in
    rw (c.of.ensures) (KeepsLine-yes _ _ _ _ _ _ _ spelt c.in_ok-payload-2.ensures.ok)

pub returns-in-Some-strip_prefix-2-clause-ok : goal.returns-in-Some-strip_prefix-2-clause-ok
returns-in-Some-strip_prefix-2-clause-ok c =
    let spelt : c.args.text.now ≡ codes "seal " ++ c.in-Some-strip_prefix-2.fields.now = search rules in
    rw (c.of-in-Some-strip_prefix-2.ensures, c.none-in-Some-strip_prefix-2.ensures) (KeepsLine-seal _ _ _ _ _ _ spelt c.in_ok-bytes.ensures.ok)

pub returns-in-Some-strip_prefix-2-clause-known : goal.returns-in-Some-strip_prefix-2-clause-known
returns-in-Some-strip_prefix-2-clause-known c =
    IsKnown-grows _ _ _ _ c.in_ok-bytes.ensures.ok.grows c.requires.known

pub returns-in-Some-clause-payloads : goal.returns-in-Some-clause-payloads
returns-in-Some-clause-payloads c = AreKnown-grows _ _ _ _ c.in_ok-payload.ensures.ok.grows c.requires.payloads

pub returns-in-Some-strip_prefix-2-clause-payloads : goal.returns-in-Some-strip_prefix-2-clause-payloads
returns-in-Some-strip_prefix-2-clause-payloads c = AreKnown-grows _ _ _ _ c.in_ok-bytes.ensures.ok.grows c.requires.payloads
