-- `first` and `second` are clauses of the two calls. After the first call, the decoder has taken the unended bytes of
-- the first chunk (`after`), so the second call finds the outcomes from these bytes on. By `cut` of `law_9`, the
-- outcomes of both calls are those of the whole stream. `room` is the length of the buffer.
-- `law_9`: A stream may be cut anywhere.
use Rattle.std.proofs.Common.{[], ◌++◌, length, refl}
use Rattle.cobs_vectors.proofs.doc_laws.decode_in_two.Goals as goal

pub returns : goal.returns
returns g c =
    let first = c.in_ok-found.ensures in
    let second = c.in_ok-decode_stream.ensures.outcomes _ (first.after [] c.requires) in
    let room = length (g.D.FrameDecoder.bytes c.args.decoder.now) in
    let cut = c.law_9.ensures.cut c.args.first.now c.args.second.now room in
    rw (first.outcomes [] c.requires, second, first.len, cut) refl
