use Rattle.certificate.proofs.set_words.sets_of.Goals as goal

pub bits_of-requires : goal.bits_of-requires
bits_of-requires c = rw c.as_slice.ensures c.in_ok-members.ensures.sound.1
