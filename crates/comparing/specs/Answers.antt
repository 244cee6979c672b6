-- What the comparison answers, at all inputs: document 01, 'Path words', 'Services and memory'.
use Rattle.std.specs.Prelude.{true, cond, ◌&&◌, Result, Ok, Err}
use Rattle.std.specs.declared.cmp.Ordering.{Ordering}
use Rattle.std.specs.declared.cmp.Ordering.TheVariants.{Less, Equal, Greater}
use Rattle.chains.specs.Words.{Word, reads}
use Rattle.chains.specs.Listing.{before}
use Rattle.refusals.specs.declared.Refusal.{Refusal}
use Rattle.refusals.specs.declared.Refusal.TheVariants.{BadWord}

-- How u stands to v in the dictionary, good or not: less where it is before v.
unfoldable pub order_of : Word → Word → Ordering
order_of u v = cond (before u v) Less (cond (before v u) Greater Equal)

-- The same for good words, and refusal 7 if either is not good.
unfoldable pub compared_of : Word → Word → Result Ordering Refusal
compared_of u v = cond (reads true u && reads true v) (Ok (order_of u v)) (Err BadWord)
