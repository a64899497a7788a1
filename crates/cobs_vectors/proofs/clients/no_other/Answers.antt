-- If `decode` returned a message m, it is the message that was encoded. `written` is the frame that `encode` wrote. It
-- is a piece, since no frame is empty (`lower` of `law_4`). If `decode` returned m (`begins`), the frame reads as m
-- (`only` of `decode`), and by `message` of `law_5` it reads as no other message.
-- `law_4`: The length of a frame, and its bound.
-- `law_5`: Equal frames, equal messages.
use Rattle.std.proofs.Common.{ℕ, List, length, take, ap, subst, arith}
use Rattle.cobs.specs.Headline.{BeginsWith, IsPiece}
use Rattle.cobs_vectors.proofs.clients.no_other.Goals as goal

pub returns-in-Ok : goal.returns-in-Ok
returns-in-Ok c = λ m reported.
    let message : List ℕ = c.args.message.now in
    let written : List ℕ = take c.encode-len.result c.encode-len.new.dest in
    let len = c.law_2.ensures.len written message c.encode-len.ensures.frame in
    let lower = c.law_4.ensures.lower message in
    let piece : IsPiece written = (λ none. let z = ap length none in omega arith, c.encode-len.ensures.no_sentinel) in
    let begins = subst (λ n. BeginsWith c.decode.new.dest n m) c.frame_size.ensures.size reported in
    c.law_5.ensures.message written m message (c.in-Ok.ensures.only piece m begins).0 c.encode-len.ensures.frame.reads
