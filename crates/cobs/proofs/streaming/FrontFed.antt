-- The first `run` bytes of a source that begins with a code were fed quietly (`FeedsQuietly`) to an idle decoder: this
-- is `FrontFed`. The proofs of `decode_long`, `decode_first` and `decode_blocks` use these lemmas; that of
-- `decode_blocks` uses them through `kept_stop` of `KeptQuiet`. Either the bytes that were fed end before a zero or at
-- the source's end, and are its whole first piece (`whole`, `whole-count`); or the buffer has no room for the output of
-- the next byte of the piece (`over-long`, `over-written`, `over-count`). The bytes have no zero, so they are a front
-- of the piece (`QuietLemmas`).
use Rattle.std.proofs.Common.{◌≡◌, ◌≢◌, ◌+◌, ◌<◌, ◌≤◌, ◌++◌, ℕ, List, ◌∷◌, length, take, drop, get_or, arith, length-take, refl}
use Rattle.std.proofs.lemmas.List.{drop_more, get_or-take, take-append-drop}
use Rattle.cobs.specs.Feed.{Idle, Overlong, Phase}
use Rattle.cobs.specs.Grammar.{HasNoZero}
use Rattle.cobs.specs.Internal.FeedsQuietly.{FeedsQuietly}
use Rattle.cobs.specs.Overwritten.{overwritten}
use Rattle.cobs.specs.Piece.{output}
use Rattle.cobs.specs.Step.{next_phase}
use Rattle.cobs.specs.Stream.{head}
use Rattle.cobs.proofs.decoding.HeadLemmas.{front_is_head, head-most}
use Rattle.cobs.proofs.decoding.OutcomeLemmas.{head-append, head-cons, length-head}
use Rattle.cobs.proofs.streaming.QuietLemmas.{Quiet, quiet, quiet-full, quiet-long, quiet-piece}

-- if a source begins with a code, each nonempty front of it begins with this code
code-first : (source : List ℕ) (n : ℕ) → 0 < length (head source) → 0 < length (take n source) → get_or (take n source) 0 0 ≢ 0
code-first source n begins some e = grind (arith, get_or-take, length-take, length-head, head-most)

-- The first `run` bytes of the source were fed quietly to an idle decoder. The buffer was `old` before these bytes were
-- fed, and is `new` after them. The field `begins` says that the source begins with a code.
pub record FrontFed (source old new : List ℕ) (phase : Phase) (run : ℕ) : Type 0 where
  pub begins : 0 < length (head source)
  pub within : run ≤ length source
  pub fed : FeedsQuietly old Idle (take run source) new phase

module _ {source old new : List ℕ} {phase : Phase} {run : ℕ} (f : FrontFed source old new phase run) where
  -- the bytes that were fed have no zero
  none : HasNoZero (take run source)
  none = grind (arith, quiet-piece, code-first)

  -- so they are the front of a piece that was fed quietly
  front : Quiet old new phase (take run source)
  front = grind (arith, quiet, none)

  -- a zero or the end of the source follows the bytes that were fed
  module _ (stop : run < length source → get_or source run 0 ≡ 0) where
    -- they are the bytes before the first zero of the source, that is, the whole first piece
    all : take run source ≡ head source
    all = grind (arith, front_is_head, none)

    -- the whole first piece was fed quietly
    pub whole : Quiet old new phase (head source)
    whole = rw all at front

  -- a nonzero byte follows the bytes that were fed, and the buffer has no room for the output of this byte
  module _ (more : run < length source) (other : get_or source run 0 ≢ 0) (over : next_phase (length new) phase (get_or source run 0) ≡ Overlong) where
    -- the bytes of the piece after this byte
    abbrev tail : List ℕ
    tail = head (drop (run + 1) source)

    -- the piece consists of the bytes that were fed, this byte, and `tail`
    split : take run source ++ get_or source run 0 ∷ tail ≡ head source
    split =
        -- after the fed bytes, the piece goes on with this byte, which isn't a zero, and then with `tail`
        let rest : head (drop run source) ≡ get_or source run 0 ∷ tail = rw (drop_more source run 0 more) (head-cons _ _ other) in
        rw (← rest, ← head-append (take run source) (drop run source) none, take-append-drop run source) refl

    -- the output of the piece is longer than the buffer
    pub over-long : length old < length (output (head source))
    over-long = grind (arith, split, quiet-long, front, tail)

    -- the buffer is full of the first bytes of this output
    pub over-written : new ≡ overwritten old (output (head source))
    over-written = grind (arith, split, quiet-full, front, tail)
