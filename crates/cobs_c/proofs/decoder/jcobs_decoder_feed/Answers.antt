-- The call meets `TakesPiece` for this byte, by the fields `end` and `byte` of `law_17`: a zero ends a piece if `feed`
-- reported an end, and no other byte ends one. `result_of` turns this into `DecodesNext`.
-- `law_17`: A decoder of your own, byte by byte.
use Rattle.std.proofs.Common.{[], ◌∷◌, refl, sym, ◌∙◌, arith}
use Rattle.cobs_c.proofs.decoder.jcobs_decoder_feed.Goals.{then-byte-eq0+in-Some, then-byte-eq0+in_default, else-byte-eq0}
use Rattle.cobs_c.proofs.decoder.jcobs_decoder_feed.Goals as goal

pub returns : goal.returns
returns c =
    let law = c.law_17.ensures in
    let feeds = c.feed-returned.ensures.feeds in
    record {
      decodes = c.result_of.ensures.decodes c.args.decoder.now c.args.buffer.now (c.args.byte ∷ []) c.feed-returned.new.dest (sym feeds.len) refl
          (elim c.if-byte-eq0.branch [
            -- the byte is a zero and ends a piece
            | then-byte-eq0+in-Some w ↦ rw w.found-is (law.end (c.args.byte ∷ []) _ _ _ _ _ _ _ _ 0 (omega arith) (law.nothing _ _) feeds w.if-byte-eq0.true (sym w.reported.ensures.end ∙ w.in-Some.is))
            -- the byte is a zero and ends no piece
            | then-byte-eq0+in_default w ↦ rw w.found-is (law.byte (c.args.byte ∷ []) _ _ _ _ _ _ _ 0 (omega arith) (law.nothing _ _) feeds (λ z. sym w.reported.ensures.end ∙ w.in_default.is))
            -- the byte isn't a zero
            | else-byte-eq0 w ↦ rw w.found-is (law.byte (c.args.byte ∷ []) _ _ _ _ _ _ _ 0 (omega arith) (law.nothing _ _) feeds (λ z. absurd (w.if-byte-eq0.false z)))
          ]);
    }
