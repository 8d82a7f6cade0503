use Rattle.ss_laws.proofs.of_strangers.cases.SmallAttack.{small_attack}
use Rattle.ss_laws.proofs.strangers.cases.small_attack_is_this.Goals as goal

pub returns : goal.returns
returns c =
    small_attack (record {
      signatures = c.signatures_are_read.ensures;
      certificates_read = c.certificates_are_read.ensures;
      met = c.premises_are_met.ensures;
      ahead = c.cases_go_on_ahead.ensures;
      reach = c.own_counters_reach_the_end.ensures;
      join = c.only_claimants_join.ensures;
      claim = c.arrived_payloads_claim.ensures;
      announce = c.arrived_are_announced.ensures;
      undisputed = c.nothing_is_disputed.ensures;
      its_hash = c.listed_have_their_hash.ensures;
      lost_told = c.lost_are_reported.ensures;
      places = c.numbers_of_chains_are_places.ensures;
    })
