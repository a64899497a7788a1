-- The formatted text of the byte is its two digits in the table (`hex_of_is`). `written` is the clause of the write,
-- with this text.
use Rattle.cobs_tool.proofs.TextLemmas.{hex_of_is}
use Rattle.cobs_tool.proofs.text.push_hex.Goals as goal

pub returns : goal.returns
returns c =
    let text = hex_of_is c.args.byte c.ranges.byte.fits in
    let written = rw (c.laid_out.ensures, c.in_radix.ensures) at c.write.ensures.bytes in
    record { digits = rw text at written }
