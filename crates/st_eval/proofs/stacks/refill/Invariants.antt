use Rattle.std.proofs.Common.{◌≡◌, take, vec_capacity}
use Rattle.st_eval.proofs.stacks.refill.Given as goal

-- the words so far, in the same room
abbrev pub invariant-loop-word : goal.invariant-loop-word
invariant-loop-word l = (l.words.items ≡ take l.word-index l.new) × (vec_capacity l.words ≡ vec_capacity l.fn.words)
