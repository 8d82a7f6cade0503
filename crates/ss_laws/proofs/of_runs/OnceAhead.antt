-- The blocks of runs that follow one another lie one after the other.
use Rattle.std.proofs.Common.{◌≡◌, inl, inr, ℕ, List, [], ◌∷◌, ◌++◌, map, sym, subst, arith}
use Rattle.std.specs.List.{AllZip}
use Rattle.ss_message.specs.Laws.{FaultsAreOfNoMessage}
use Rattle.ss_block.specs.Block as block
use Rattle.ss_origin.specs.declared.unsigned.Unsigned.{Unsigned}
use Rattle.ss_origin.specs.declared.unsigned.Unsigned.TheVariants.{Signature}
use Rattle.ss_origin.specs.Asking.{Asking}
use Rattle.ss_origin.specs.AskedLaws.{Lists}
use Rattle.ss_origin.specs.Blocks.{unsigned_text}
use Rattle.ss_origin.specs.Counting.{Start}
use Rattle.ss_origin.specs.Sealing.{Answers}
use Rattle.ss_origin.specs.Setting.{Setting}
use Rattle.ss_origin.proofs.ChainsAhead.{at_first}
use Rattle.ss_origin.proofs.Frontiers.{Frontier, IsAtMost, at_most_itself, at_most_both, IsBetween, widened, Meet, apart, frontier_at, meet_back}
use Rattle.ss_octets.proofs.Members.{Has, has-append_cases}
use Rattle.ss_signing.specs.Jobs.{signing_from}
use Rattle.ss_laws.specs.runs.OnceAhead.{IsPast, Ran, BeginsPast, GoOnPast, together, RunsAheadSignOnce}
use Rattle.ss_laws.proofs.of_runs.SignedOnce.{Pairs, pairs_together, all_pairs, ShareNothing, share_nothing, Asked, asked_in}

module _ {J : Type 0} (read : FaultsAreOfNoMessage) (s : Setting) (answers : J → Answers) (asked : Asking J) (list : J → List (List ℕ)) (lists : Lists asked list) where
  own_blocks : (r : Ran s answers asked)
      → Asked s.config.grouping s.config.head r.start r.stamp list r.first r.last (IsPast (signing_from r.start s (answers r.first) r.stamp r.wraps r.out) r.limits r.before r.after)
  own_blocks r = asked_in read asked list lists (signing_from r.start s (answers r.first) r.stamp r.wraps r.out) r.limits r.before r.after r.was r.is r.first r.last r.result r.asks

  -- what was asked for in all runs, and where it lies
  record AskedAll (runs : List (Ran s answers asked)) : Type 0 where
    blocks : List (List Unsigned)
    listed : AllZip (λ (r : Ran s answers asked) (own : List Unsigned). list r.last ≡ list r.first ++ map (unsigned_text s.config.head r.stamp) own) runs blocks
    parts : Pairs ShareNothing (together blocks)
    high : Frontier
    between : (b : block.Signature) → Has (together blocks) (Signature b) → IsBetween s.config.grouping at_first high b
    past : (start : Start) → BeginsPast runs start → IsAtMost high (frontier_at start)

  from_first : (x : Frontier) → IsAtMost at_first x
  from_first x = record { gbc = omega arith; first = λ spri small. omega arith }

  asked_all : (runs : List (Ran s answers asked)) → GoOnPast runs → AskedAll runs
  asked_all [] go = record {
    blocks = [];
    listed = tt;
    parts = tt;
    high = at_first;
    between = λ b h. absurd h;
    past = λ start begins. from_first (frontier_at start);
  }
  asked_all (r ∷ before) go =
      let o = own_blocks r in
      let c = asked_all before go.0 in
      let step : IsAtMost c.high (frontier_at r.start) = c.past r.start go.1 in
      let part : (a b : block.Signature) → Has o.blocks (Signature a) → Has (together c.blocks) (Signature b) → Meet a b → ⊥
      = λ a b h i meet. apart s.config.grouping at_first c.high (frontier_at r.start) o.high b a (c.between b i) (o.between a h) step (meet_back a b meet) in
      record {
        blocks = o.blocks ∷ c.blocks;
        listed = (o.listed, c.listed);
        parts = pairs_together ShareNothing o.blocks (together c.blocks) o.parts c.parts
            (λ u h v i. share_nothing u v (λ a b u_is v_is meet. part a b (subst (Has o.blocks) u_is h) (subst (Has (together c.blocks)) v_is i) meet));
        high = o.high;
        between = λ b h. elim (has-append_cases o.blocks (together c.blocks) (Signature b) h) [
          | inl own ↦ widened s.config.grouping (frontier_at r.start) at_first o.high o.high b (from_first (frontier_at r.start)) (at_most_itself o.high) (o.between b own)
          | inr old ↦ widened s.config.grouping at_first at_first c.high o.high b (at_most_itself at_first) (at_most_both c.high (frontier_at r.start) o.high step o.reach) (c.between b old)
        ];
        past = λ start begins. subst (λ x. IsAtMost o.high (frontier_at x)) (sym begins.1) (o.past begins.0 begins.2);
      }

pub runs_ahead_sign_once : {J : Type 0} (answers : J → Answers) (asked : Asking J) → FaultsAreOfNoMessage → RunsAheadSignOnce answers asked
runs_ahead_sign_once answers asked read list lists s runs go =
    let all = asked_all read s answers asked list lists runs go in
    let blocks : List Unsigned = together all.blocks in (
      all.blocks,
      (
        all.listed,
        (λ i j d less below. (all_pairs ShareNothing blocks all.parts i j d less below).0),
        (λ i j d less below. (all_pairs ShareNothing blocks all.parts i j d less below).1),
      ),
    )
