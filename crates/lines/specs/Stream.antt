-- The lines of a file and the replies to them: document 01, 'Frames'. A line ends at byte 10; a last line may lack it, and nothing
-- after the last byte 10 is no line. A reply ends in byte 10 too, the last one as well. R gives the reply to a line, without its
-- byte 10.
--
-- In this order: the lines of a file; the replies; a file read in blocks.
-- Definitions only; that blocks make no difference is in StreamLaws.
use Rattle.std.specs.Prelude.{Bool, true, false, not, List, [], ◌∷◌, ◌++◌, ℕ, eqb, take}
use Rattle.digits.specs.Digits.{every}

-- ---- the lines of a file

-- The lines that a byte 10 of s ends, where `line` was read of the first one before.
unfoldable pub finished : List ℕ → List ℕ → List (List ℕ)
finished line [] = []
finished line (c ∷ s) =
    let ended = line ∷ finished [] s in
    let longer = finished (line ++ (c ∷ [])) s in
    elim (eqb c 10) [ true ↦ ended | false ↦ longer ]

-- What follows the last byte 10 of s; what was read before too, where there is none.
unfoldable pub unfinished : List ℕ → List ℕ → List ℕ
unfinished line [] = line
unfinished line (c ∷ s) =
    let ended = unfinished [] s in
    let longer = unfinished (line ++ (c ∷ [])) s in
    elim (eqb c 10) [ true ↦ ended | false ↦ longer ]

-- At the end of the file this is a line, unless it is empty.
unfoldable pub last_line : List ℕ → List (List ℕ)
last_line [] = []
last_line (c ∷ line) = (c ∷ line) ∷ []

unfoldable pub lines_from : List ℕ → List ℕ → List (List ℕ)
lines_from line s = finished line s ++ last_line (unfinished line s)

-- The lines of a file.
unfoldable pub lines_of : List ℕ → List (List ℕ)
lines_of file = lines_from [] file

-- ---- the replies

-- A reply and its byte 10, for each line in order.
unfoldable pub replies_to : (List ℕ → List ℕ) → List (List ℕ) → List ℕ
replies_to R [] = []
replies_to R (line ∷ ls) = R line ++ (10 ∷ replies_to R ls)

-- ---- a file read in blocks

-- No byte 10 is in s.
unfoldable pub unbroken : List ℕ → Bool
unbroken s = every (λ c. not (eqb c 10)) s

-- What is answered to blocks one after the other, and at the end of the file. Of an unfinished line the first m characters are kept
-- from one block to the next.
unfoldable pub answers_to : (List ℕ → List ℕ) → ℕ → List ℕ → List (List ℕ) → List ℕ
answers_to R m kept [] = replies_to R (last_line kept)
answers_to R m kept (block ∷ blocks) =
    replies_to R (finished kept block) ++ answers_to R m (take m (unfinished kept block)) blocks
