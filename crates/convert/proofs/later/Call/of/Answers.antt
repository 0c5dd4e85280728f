use mathlib.Core.Path.{sym}
use Rattle.convert.specs.LaterWords.{call_in, words_at}
use Rattle.convert.proofs.Calls.Words.{call_rest}
use Rattle.convert.proofs.later.Call.of.Goals as goal

pub returns-in-0 : goal.returns-in-0
unfolding call_in words_at
returns-in-0 c = rw (c.in-0.is, c.low_word.ensures, c.low_word-in-0.ensures, c.low_word-in-0-2.ensures)

pub returns-in-1 : goal.returns-in-1
unfolding call_in words_at
returns-in-1 c = rw (c.in-1.is, c.low_word-in-1.ensures, c.letter_in.ensures)

pub returns-in-2 : goal.returns-in-2
unfolding call_in words_at
returns-in-2 c = rw (c.in-2.is, c.ref_in.ensures, c.ref_in-in-2.ensures)

pub returns-in-3 : goal.returns-in-3
unfolding call_in words_at
returns-in-3 c = rw (c.in-3.is, c.axis_in.ensures, c.angle_in.ensures)

pub returns-in-4 : goal.returns-in-4
unfolding call_in words_at
returns-in-4 c = rw (c.in-4.is, c.axis_in-in-4.ensures, c.target_of.ensures, c.low_word-in-4.ensures)

pub returns-in_default : goal.returns-in_default
unfolding call_in words_at
returns-in_default c =
    let others = c.in_default.in_default-own.rest in
    let ws = c.args.words.now in
    rw (c.axis_in-in_default.ensures, c.angle_in-in_default.ensures, c.new.ensures, c.low_word-in_default.ensures)
    (sym (call_rest (words_at ws 0).kind (words_at ws 0) others.0.0.0.0.1 others.0.0.0.1 others.0.0.1 others.0.1 others.1))
