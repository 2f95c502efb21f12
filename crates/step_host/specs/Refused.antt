-- The room's bytes after a refusal of that number, from the desk's own words: unchanged after 1 to 6.
use Rattle.std.specs.Prelude.{ℕ, List, leb}
use Rattle.std.proofs.lemmas.List.Edits.{sets}
use Rattle.language.specs.Kinds.{pick}
use Rattle.word_bytes.specs.Bytes.{bytes_of}

unfoldable pub refused_leaves : ℕ → List ℕ → List ℕ → List ℕ
refused_leaves number own room = pick (leb number 6) room (sets room 0 (bytes_of own))
