use Rattle.ss_laws.proofs.carry.each_night.earlier_nights_are_the_whole.Goals as goal

pub returns : goal.returns
returns c = λ says file log later last within belong follow agree. record {
  texts = c.later_files_change_no_night.ensures says file log later last belong;
  together = c.carried_nights_are_the_whole.ensures says file log last within follow agree;
}
