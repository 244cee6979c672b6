-- What comparing two words answers. What a reader must believe: Answers (the order of two words, and 7), and of Eights `high_first` and
-- `EightOf`, eight letters as one number. The theorems on them:
--   CompareLaws  comparing is the dictionary order, and 7
--   EightLaws    two numbers of eight letters stand to each other as the letters do in the dictionary
-- What the private functions cite:
--   Eights       which letters may stand side by side
--   FollowLaws   a word is good exactly if each letter may stand after the one before it and the last is 3
pub mod Answers
pub mod CompareLaws
pub mod Eights
pub mod EightLaws
pub mod FollowLaws
