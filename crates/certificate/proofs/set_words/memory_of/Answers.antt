use Rattle.certificate.proofs.set_words.memory_of.Goals as goal

pub bits_of-requires-2 : goal.bits_of-requires-2
bits_of-requires-2 c = rw c.as_slice-2.ensures c.in_ok-members.ensures.sound.1
