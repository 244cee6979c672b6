-- Replies to lines.
--   ReplyDigits  the digits of replies; ReplyDigitLaws says how many there are
--   Replies      the reply to a line, and what a call answers and leaves behind: the definitions that the contract rests on
--   ReadBack     digits that were written, read back as fields
--   ServedLaws   the replies to fit lines: the one law that goes kind by kind
--   ReplyLaws    515 characters; every reply is a frame; a chain's reply read back
--   Refusals     which numbers a line is refused with, kind by kind
--   CaseBlind    the case of letters makes no difference to a reply, and replies keep capitals
--   LineTrips    demand 2, line by line
--   BestLines    demand 3, line by line
--   CountLines   lines of kinds 01 and 03 and the count
--   FewLines     lines of kinds 01, 02 and 03 about a number with one chain or with two
--   EarlierLines  lines of kind 02 with one price for an addition: refused now, and what they get with that price twice
--   RecordLines  lines with a record: a and b of its largest part after k, and refusal 16; lines of kind 04
--   RunLines     lines of kind 07: the residue is n × x modulo m, for the chain of any reply too
--   TreeLines    lines of kinds 08 and 09: the tree word of any chain of n, n at least 1, and back
--   Put, Calls   what the functions inside this crate ask for and leave; PutLaws is the theory of digits put one after the other
pub mod ReplyDigits
pub mod ReplyDigitLaws
pub mod Replies
pub mod ReadBack
pub mod ServedLaws
pub mod ReplyLaws
pub mod Refusals
pub mod CaseBlind
pub mod LineTrips
pub mod BestLines
pub mod EarlierLines
pub mod RecordLines
pub mod CountLines
pub mod FewLines
pub mod RunLines
pub mod TreeLines
pub mod Put
pub mod PutLaws
pub mod Calls
