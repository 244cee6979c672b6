-- For which numbers the table count answers 1 and 2, where it serves: document 02, T-11.
-- They are those that are named for one chain and for two (chains, Few).
use Rattle.std.specs.Prelude.{Ok}
use Rattle.std.specs.Prelude.{◌≡◌, ℕ, ◌≤◌, ◌↔◌, List, length}
use Rattle.std.proofs.Math.Logic.Iff
use Rattle.chains.specs.Few.{NamedForOne, NamedForTwo}
use Rattle.chains.proofs.FewLaws.{one_chain, two_chains}
use Rattle.lent.specs.Lent.{scratch_size}
use Rattle.counting.specs.TableCount.{counted_of}
use Rattle.counting.specs.TableLaws.{counted_is}

module _ (n : ℕ) (scratch : List ℕ) (enough : scratch_size ≤ length scratch) where
  pub table_one : (counted_of n scratch ≡ Ok 1) ↔ NamedForOne n
  table_one = Iff.trans (counted_is n 1 scratch enough) (one_chain n)

  pub table_two : (counted_of n scratch ≡ Ok 2) ↔ NamedForTwo n
  table_two = Iff.trans (counted_is n 2 scratch enough) (two_chains n)
