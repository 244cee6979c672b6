-- The letters that are left are the measure of both readers.
use Rattle.words.proofs.readers.+after_a_after_b.Given as goal

abbrev pub decreases-after_a : goal.decreases-after_a
decreases-after_a l = l.left

abbrev pub decreases-after_b : goal.decreases-after_b
decreases-after_b l = l.left
