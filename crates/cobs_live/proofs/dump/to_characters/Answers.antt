-- Each iteration of the loop changes one more byte to a character, so the invariant holds for an index that is one
-- greater. This is `map_over_more` of std, for the function `character`. `now` is the bytes at the start of the
-- iteration, and i is the index.
use Rattle.std.proofs.Common.{ℕ, ◌<◌, List, length, get_or, arith}
use Rattle.std.proofs.lemmas.List.{get_or_default}
use Rattle.std.proofs.lemmas.List.Edits.{map_over_more}
use Rattle.cobs_live.specs.Dump.{character}
use Rattle.cobs_live.proofs.dump.to_characters.Goals as goal

pub loop-byte-preserved : goal.loop-byte-preserved
loop-byte-preserved c =
    let now : List ℕ = c.loop-byte.bytes in
    let i : ℕ = c.loop-byte.byte-index in
    let within : i < length now = omega arith in
    rw c.character.ensures.shown (map_over_more character c.args.bytes.now now i (get_or now i 0) (omega arith) c.loop-byte.invariant (get_or_default now i 0 (get_or now i 0) within))
