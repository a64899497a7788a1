-- The text of each kind is the text that is written first, followed by the text that the next call writes (`behind`,
-- `behind_two`).
use Rattle.std.proofs.Common.{ℕ, List, ◌++◌, append_assoc, codes, subst, Option, Result}
use Rattle.std.specs.Prelude.{OnOk}
use Rattle.std.specs.Fmt.{decimal}
use Rattle.std.specs.Io.KnownBytes.{Appends}
use Rattle.cobs_live.specs.Json.{json_partial}
use Rattle.cobs_live.proofs.AppendLemmas.{behind}
use Rattle.cobs_live.proofs.json.write_kind.Goals as goal

-- if x and y were written, and then z by a call with the result r, `x ++ (y ++ z)` was written if r is an `Ok`
behind_two : {A E : Type 0} (r : Result A E) (a b c : Option (List ℕ)) (x y z : List ℕ) → Appends a b (x ++ y) → OnOk r (Appends b c z) → OnOk r (Appends a c (x ++ (y ++ z)))
behind_two r a b c x y z first more = subst (λ (l : List ℕ). OnOk r (Appends a c l)) (append_assoc x y z) (behind r a b c (x ++ y) z first more)

-- a message: the word, and then its members
pub returns-in_ok-write_all-in-Message : goal.returns-in_ok-write_all-in-Message
returns-in_ok-write_all-in-Message g c = record { written = rw c.in-Message.is (behind c.write_message.result _ _ _ _ _ c.in_ok-write_all-in-Message.ensures.bytes c.write_message.ensures.written) }

-- a broken piece: the word and the number, and then the bytes
pub returns-in_ok-write-in-Broken : goal.returns-in_ok-write-in-Broken
returns-in_ok-write-in-Broken g c = record { written = rw c.in-Broken.is (behind_two c.write_partial.result _ _ _ (codes "\"broken\",\"length\":") (decimal c.args.piece.now.len) (json_partial c.args.piece.now.bytes.now) c.in_ok-write-in-Broken.ensures.bytes c.write_partial.ensures.written) }

-- a message with a wrong checksum: the word, and then its members
pub returns-in_ok-write_all-in-BadCrc : goal.returns-in_ok-write_all-in-BadCrc
returns-in_ok-write_all-in-BadCrc g c = record {
  written = rw c.in-BadCrc.is (behind c.write_message-in-BadCrc.result _ _ _ _ _ c.in_ok-write_all-in-BadCrc.ensures.bytes c.write_message-in-BadCrc.ensures.written);
}
