use Rattle.std.proofs.Common.{length, refl, sym, subst, arith}
use Rattle.std.proofs.lemmas.List.{length-take-le}
use Rattle.std.proofs.lemmas.Slice.{between_to_end}
use Rattle.ss_frame.specs.Watched.{sink_of}
use Rattle.ss_report.proofs.of_writing.EncodedSoFar.{EncodedSoFar, none_encoded, piece_encoded, all_encoded}
use Rattle.ss_report.proofs.texts.encoded.write_base64.Goals as goal

pub loop-rest-init : goal.loop-rest-init
loop-rest-init g c = none_encoded (sink_of g.W.Write.contents c.args.writer.now) c.args.octets.now

pub slice_bounds-write_piece-end : goal.slice_bounds-write_piece-end
slice_bounds-write_piece-end g c = sym (length-take-le 768 c.loop-rest.rest.now (omega arith))

pub write_piece-requires : goal.write_piece-requires
write_piece-requires g c = omega (arith, length-take-le 768 c.loop-rest.rest.now (omega arith))

pub loop-rest-preserved : goal.loop-rest-preserved
loop-rest-preserved g c =
    let rest = c.loop-rest.rest.now in
    let is = sink_of g.W.Write.contents c.write_piece.new.writer in
    let more = piece_encoded _ _ is _ rest 768 c.loop-rest.invariant refl (omega arith) c.write_piece.ensures in
    subst (λ t. EncodedSoFar (sink_of g.W.Write.contents c.args.writer.now) is c.args.octets.now t) (sym (between_to_end rest 768 (length rest) (omega arith))) more

pub returns : goal.returns
returns g c = all_encoded _ _ _ _ _ c.loop-rest.invariant c.write_piece-2.ensures
