-- The measure is n.
use Rattle.counting.proofs.six_lines.+count_of.Given as goal

abbrev pub decreases-count_of : goal.decreases-count_of
decreases-count_of l = l.n
