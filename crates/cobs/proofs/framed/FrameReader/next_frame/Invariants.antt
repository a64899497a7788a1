-- The reads of this call returned bytes in which no piece ends (`Going`), and no byte is kept between two reads. The
-- decoder still uses the buffer that it was lent before the call (`same_loan`).
use Rattle.std.proofs.Common.{◌≡◌}
use Rattle.cobs.specs.Fields.Reader.{decoder_of, reader_state}
use Rattle.cobs.proofs.streaming.ReadingLemmas.{Going}
use Rattle.cobs.proofs.framed.FrameReader.next_frame.Given as goal

abbrev pub invariant-by_read : goal.invariant-by_read
invariant-by_read g l =
    let bytes = g.D.FrameDecoder.bytes in
    let phase = g.D.FrameDecoder.phase in
    let loan = g.D.FrameDecoder.loan in
    record {
      emptied : l.self.start ≡ l.self.end;
      going : Going g.S.FrameSource.step l.fn.source l.source (reader_state bytes phase l.fn.self) (reader_state bytes phase l.self) l.self.unfinished l._read;
      same_loan : loan (decoder_of l.self) ≡ loan (decoder_of l.fn.self);
    }
