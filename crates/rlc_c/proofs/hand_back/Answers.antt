-- `rlc_c::hand_back` meets its contract.

use Rattle.rlc_c.proofs.hand_back.Goals as goal

pub shape_of-words : goal.shape_of-words
shape_of-words c = c.write_record.auto.words

pub returns : goal.returns
returns c = record { number = c.answer_number.ensures; words_after_lem = c.write_record.ensures }
