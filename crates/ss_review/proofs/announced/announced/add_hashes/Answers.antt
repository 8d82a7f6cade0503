use Rattle.std.proofs.Common.{◌<◌, ◌+◌, [], ◌∷◌, ◌++◌, drop, get_or, map, sym, ap, ◌∙◌, subst, arith}
use Rattle.std.specs.Prelude.{All}
use Rattle.std.proofs.lemmas.List.{append-nil, drop_more, drop_all}
use Rattle.std.proofs.lemmas.List.Elements.{All-push}
use Rattle.ss_block.specs.declared.hash.Hash.TheVariants.{Sha1}
use Rattle.ss_review.specs.keep.BlockMessage.{Hashes}
use Rattle.ss_review.specs.announced.Announced.{rows_said}
use Rattle.ss_review.specs.announced.Indexed.{session_at, row_at}
use Rattle.ss_review.proofs.of_numbers.RowsTold.{row_more}
use Rattle.ss_review.proofs.announced.announced.add_hashes.Goals as goal

pub loop-hash-init : goal.loop-hash-init
loop-hash-init c = record {
  number = omega (arith, c.first-number.ensures);
  known = λ n below all. all;
  rest = λ js i. map (row_at js) c.args.rows.now.items ++ rows_said (session_at js c.args.session) (Hashes (record c.args.block.now { first = c.first-number.ensures i; hashes = (c.as_slice-hash-items.ensures ∙ c.hashes.ensures) i }));
}

pub loop-hash-preserved : goal.loop-hash-preserved
loop-hash-preserved c =
    let hashes = c.as_slice-hash-items.result.now in
    let i = c.loop-hash.hash-index in
    let b = c.args.block.now in
    let here = drop_more hashes i (Sha1 []) c.loop-hash-test.true in
    record {
      number = omega (arith, c.loop-hash.invariant.number);
      known = λ n below all. subst (All (λ r. r.number.session < n)) (sym c.in_ok-push.ensures.items) (All-push (λ r. r.number.session < n) c.loop-hash.rows.items _ (c.loop-hash.invariant.known n below all) below);
      rest = λ js.
          (let rest = rows_said (session_at js c.args.session) (Hashes (record b { first = c.loop-hash.number + 1; hashes = drop (i + 1) hashes })) in
          ap (λ rows. map (row_at js) rows ++ rest) c.in_ok-push.ensures.items
          ∙ row_more js c.loop-hash.rows.items _ rest
          ∙ (λ j. map (row_at js) c.loop-hash.rows.items ++ record { key = record { session = session_at js c.args.session; group = (c.header.ensures j).group; number = c.loop-hash.number }; hash = get_or hashes i (Sha1 []) } ∷ rest)
          ∙ ap (λ hs. map (row_at js) c.loop-hash.rows.items ++ rows_said (session_at js c.args.session) (Hashes (record b { first = c.loop-hash.number; hashes = hs }))) (sym here)
          ∙ c.loop-hash.invariant.rest js);
    }

pub returns-clause-rows : goal.returns-clause-rows
returns-clause-rows c = λ js.
    let over = drop_all c.loop-hash.hash-index c.as_slice-hash-items.result.now c.loop-hash-test.false in
    sym (append-nil (map (row_at js) c.loop-hash.rows.items))
    ∙ ap (λ hs. map (row_at js) c.loop-hash.rows.items ++ rows_said (session_at js c.args.session) (Hashes (record c.args.block.now { first = c.loop-hash.number; hashes = hs }))) (sym over)
    ∙ c.loop-hash.invariant.rest js
