-- What running a record's chain answers, at all inputs: document 02, T-02, and document 01's refusals 8, 9, 10.
-- Definitions only; which refusal comes when, and that the residue is n × x modulo m, is in RanLaws.
use Rattle.std.specs.Prelude.{Result, Ok, Err}
use Rattle.std.specs.Prelude.{ℕ, ◌^◌, Bool, cond, ◌||◌, List, ◌==◌, nat_le, nat_lt}
use Rattle.refusals.specs.declared.Refusal.{Refusal}
use Rattle.refusals.specs.declared.Refusal.TheVariants.{BadModulus, BadResidue}
use Rattle.words.specs.Records.{record_parts, judged_of}
use Rattle.running.specs.Run.{chain_run}

-- A modulus of 0 or above 2^63.
unfoldable pub bad_modulus : ℕ → Bool
bad_modulus m = m == 0 || nat_lt (2 ^ 63) m

-- The run of a record's chain, or the record's own refusal.
unfoldable pub run_judged : List ℕ → ℕ → ℕ → Result ℕ Refusal → Result ℕ Refusal
run_judged l m x (Ok n) = Ok (chain_run m x (record_parts l))
run_judged l m x (Err r) = Err r

-- The answer: 13 for the modulus, then 14 for an x that is not below it, then what the record gets.
unfoldable pub ran_of : List ℕ → ℕ → ℕ → Result ℕ Refusal
ran_of l m x = cond (bad_modulus m) (Err BadModulus) (cond (nat_le m x) (Err BadResidue) (run_judged l m x (judged_of l)))
