-- A 3 past the end of a word changes nothing.
use Rattle.std.proofs.Common.{rules, sym, replicate}
use Rattle.std.proofs.lemmas.List.{set_past}
use Rattle.test_kit.proofs.word.long_word.Goals as goal

pub returns-else-count-lt255-clause-value : goal.returns-else-count-lt255-clause-value
returns-else-count-lt255-clause-value c = sym (set_past (replicate 255 c.args.letter) c.args.count 3 (search rules))
