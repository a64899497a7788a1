-- The captured bytes are written after the packet's header (`behind`).
use Rattle.std.proofs.Common.{◌∙◌, ap, take}
use Rattle.std.proofs.lemmas.List.{take_min}
use Rattle.cobs_live.proofs.AppendLemmas.{behind}
use Rattle.cobs_live.proofs.capture.write_packet.Goals as goal

pub returns : goal.returns
returns g c =
    let captured = ap (λ n. take n c.args.message.now) c.min.ensures ∙ take_min 262144 c.args.message.now in
    record { written = rw captured at (behind c.write_all.result _ _ _ _ _ c.in_ok-write_packet_head.ensures.written c.write_all.ensures.bytes) }
